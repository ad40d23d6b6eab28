-- What the work and the store of units are to the table machine (crate fop, specs/Variables and specs/Machine).
use Rattle.std.specs.Prelude as std
use Rattle.std.specs.Prelude.{ℕ, zero, suc, ◌-◌, ◌≤◌, ◌<◌, ◌≡◌, Bool, List, [], ◌∷◌, map, eqb, leb, length, take, get_or, None, Some}
use Rattle.std.proofs.Math.Option.{Option, none, some}
use Rattle.base.specs.Choice.{pick}
use Rattle.base.specs.Limits.{largest_unit}
use Rattle.base.specs.Modulo.{advanced, offset}
use Rattle.store.specs.Places.{places, unit_at}
use Rattle.fop.specs.Limits.{largest_k}
use Rattle.fop.specs.Store.{store_need}
use Rattle.fop.specs.Units.{Fdu, Frame, AD, BD, Unlock, SetVR}
use Rattle.fop.specs.declared.Event.{Event as FopEvent}
use Rattle.fop.specs.Variables as machine
use Rattle.fop.specs.declared.Response.{Response}
use Rattle.fop.specs.declared.Response.TheVariants.{AcceptAdUnit, RejectAdUnit, AcceptBdUnit, RejectBdUnit, AcceptDirective, RejectDirective, ConfirmDirective, DenyDirective}
use Rattle.fop.specs.Variables.{Entry, BcEntry, Fop}
use Rattle.sender_values.specs.declared.Control.{Control}
use Rattle.sender_values.specs.declared.Control.TheVariants as control
use Rattle.sender_values.specs.declared.Handed.{Handed}
use Rattle.sender_values.specs.declared.Handed.TheVariants as handed
use Rattle.sender_values.specs.declared.Responses.{Responses}
use Rattle.sender_values.specs.declared.Work.{Work}

-- the unit at place i of a queue whose oldest has number f and whose first p are unmarked
abbrev pub entry_at : List ℕ → List ℕ → ℕ → ℕ → ℕ → Entry
entry_at lengths store f p i = record { fdu = record { ns = advanced f i; octets = unit_at lengths i store }; marked = leb p i }

-- n of them from place i
abbrev pub entries_from : List ℕ → List ℕ → ℕ → ℕ → ℕ → ℕ → List Entry
entries_from lengths store f p i zero = []
entries_from lengths store f p i (suc n) = entry_at lengths store f p i ∷ entries_from lengths store f p (suc i) n

-- the Sent_Queue's units: the last `marked` of the `sent` before V(S) are marked
abbrev pub entries_of : List ℕ → List ℕ → ℕ → ℕ → ℕ → List Entry
entries_of lengths store vs sent marked = entries_from lengths store (offset vs sent) (sent - marked) 0 sent

-- the unit waiting
abbrev pub wait_of : List ℕ → List ℕ → ℕ → Bool → Option (List ℕ)
wait_of lengths store sent waiting = pick waiting (some (unit_at lengths sent store)) none

-- the type-BC frame on the Sent_Queue
abbrev pub bc_of : std.Option Control → Bool → Option BcEntry
bc_of None marked = none
bc_of (Some control.Unlock) marked = some (record { frame = Unlock; marked = marked })
bc_of (Some (control.SetVr n)) marked = some (record { frame = SetVR n; marked = marked })

-- FOP-1's variables (clause 7.2.2), by the lengths and octets of the units in the store
abbrev pub fop_of : Work → List ℕ → List ℕ → Fop
fop_of w lengths store = record {
  state = w.state;
  suspend_state = w.variables.suspend_state;
  numbers = record { vs = w.variables.vs; nnr = w.variables.nnr };
  preset = record {
    k = w.settings.k;
    transmission_limit = w.settings.transmission_limit;
    t1_initial = w.settings.t1_initial;
    timeout_type = w.settings.timeout_type;
  };
  clock = record { timer = w.variables.timer; transmission_count = w.variables.transmission_count };
  out = record { ad = w.variables.ad_out; bc = w.variables.bc_out; bd = w.variables.bd_out };
  queues = record {
    sent_queue = entries_of lengths store w.variables.vs w.queues.sent w.queues.marked;
    wait_queue = wait_of lengths store w.queues.sent w.queues.waiting;
    bc_frame = bc_of w.queues.control w.queues.control_marked;
  };
}

-- the frame handed down; o is the unit of a BD request
abbrev pub frames_of : std.Option Handed → List ℕ → List ℕ → List ℕ → List Frame
frames_of None lengths store o = []
frames_of (Some (handed.Ad n i)) lengths store o = AD (record { ns = n; octets = unit_at lengths i store }) ∷ []
frames_of (Some handed.Bd) lengths store o = BD o ∷ []
frames_of (Some handed.Unlock) lengths store o = Unlock ∷ []
frames_of (Some (handed.SetVr n)) lengths store o = SetVR n ∷ []

-- a response by its number (crate sender_values, specs/Actions, `response_number`)
abbrev pub response_of : ℕ → Response
response_of n =
    pick (eqb n 1) AcceptAdUnit
    (pick (eqb n 2) RejectAdUnit
    (pick (eqb n 3) AcceptBdUnit
    (pick (eqb n 4) RejectBdUnit
    (pick (eqb n 5) AcceptDirective (pick (eqb n 6) RejectDirective (pick (eqb n 7) ConfirmDirective DenyDirective))))))

-- the responses in their order
abbrev pub responses_of : Responses → List Response
responses_of r = map response_of (take r.count r.numbers)

-- the work on the event e with the unit o and the value n; c is confirmed and d denied so far, of which the work holds the runs
abbrev pub view : Option FopEvent → List ℕ → ℕ → List Fdu → List Fdu → Work → List ℕ → List ℕ → machine.Work
view e o n c d w lengths store = record {
  fop = fop_of w lengths store;
  asked = record { event = e; octets = o; value = n };
  frames = frames_of w.told.handed lengths store o;
  confirmed = c;
  denied = d;
  responses = responses_of w.told.responses;
  notices = record { abort = w.told.abort; alert = w.told.alert; suspended = w.told.suspended };
}

-- What the laws need of K, V(S), NN(R), the counts, the lengths and the store: the numbers are octets; the AD units are the last `sent` numbers
-- below V(S), no more than the largest K and no more than V(S) - NN(R); the marked ones are the last of them; each place has the length of a
-- unit, and the store suffices for K and the units sent.
pub record Formed (k vs nnr sent marked : ℕ) (lengths store : List ℕ) : Type 0 where
  pub vs_octet : vs < 256
  pub nnr_octet : nnr < 256
  pub sent_most : sent ≤ largest_k
  pub outstanding : sent ≤ offset vs nnr
  pub last : marked ≤ sent
  pub all_places : length lengths ≡ places
  pub units : (i : ℕ) → get_or lengths i 0 ≤ largest_unit
  pub room : store_need k sent ≤ length store

-- the same of a work, the lengths and the store
abbrev pub WellFormed : Work → List ℕ → List ℕ → Type 0
WellFormed w lengths store = Formed w.settings.k w.variables.vs w.variables.nnr w.queues.sent w.queues.marked lengths store
