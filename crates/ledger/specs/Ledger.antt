-- Document 02, order 11, the ledger of AD units: "each counted from the list of events and their answers alone, where a unit is known by its place in
-- that list". Nothing of a sender's state is looked at.
use Rattle.std.specs.Prelude.{Bool, true, false, ◌||◌, List, [], ◌∷◌, ◌++◌, ℕ, zero, suc, ◌+◌, eqb}
use Rattle.std.proofs.Math.Option.{Option, none, some}
use Rattle.base.specs.Choice.{pick}
use Rattle.base.specs.Modulo.{advanced}
use Rattle.fop.specs.Units.{Frame, AD, BD, Unlock, SetVR, Refused, Own}
use Rattle.fop.specs.declared.Response.{Response}
use Rattle.fop.specs.declared.Response.TheVariants.{AcceptAdUnit, RejectAdUnit, AcceptBdUnit, RejectBdUnit, AcceptDirective, RejectDirective, ConfirmDirective, DenyDirective}
use Rattle.fop.specs.Events.{SenderEvent, request_ad, request_bd, tick, lower, directive, word_arrives}
use Rattle.fop.specs.Answers.{Answer}
use Rattle.session.specs.Frames.{read}

-- an event and its answer
pub record Turn : Type 0 where
  pub event : SenderEvent
  pub answer : Answer

-- a unit accepted: its place in the list of events, and the number N(S) of the frame handed down with the accept; `none` where a response speaks of
-- no unit, or no AD frame is handed down
pub record Accepted : Type 0 where
  pub place : Option ℕ
  pub number : Option ℕ

-- what became of an accepted unit
pub data Fate : Type 0 where
  confirmed denied : Fate

-- a unit confirmed or denied, by its place; `none` is a number that no accepted unit has
pub record Settled : Type 0 where
  pub fate : Fate
  pub place : Option ℕ

-- The ledger after some events: how many they are; the places of the requests waiting, of those rejected, and of those accepted and settled, each in
-- the order in which it came.
pub record Ledger : Type 0 where
  pub turns : ℕ
  pub waiting : List ℕ
  pub rejected : List (Option ℕ)
  pub accepted : List Accepted
  pub settled : List Settled

-- before the first event
abbrev pub empty : Ledger
empty = record { turns = 0; waiting = []; rejected = []; accepted = []; settled = [] }

-- What the responses of an answer say of AD units: those accepted, those rejected, and those of which nothing is said.
pub record Heard : Type 0 where
  pub accepted : List (Option ℕ)
  pub rejected : List (Option ℕ)
  pub left : List ℕ

-- the first of the places, and the others
abbrev pub first_of : List ℕ → Option ℕ
first_of [] = none
first_of (i ∷ is) = some i

abbrev pub others_of : List ℕ → List ℕ
others_of [] = []
others_of (i ∷ is) = is

-- the responses in their order, each accept and each reject of an AD unit by the unit p that it speaks of
abbrev pub accepts : List Response → Option ℕ → List (Option ℕ)
accepts [] p = []
accepts (AcceptAdUnit ∷ rs) p = p ∷ accepts rs p
accepts (RejectAdUnit ∷ rs) p = accepts rs p
accepts (AcceptBdUnit ∷ rs) p = accepts rs p
accepts (RejectBdUnit ∷ rs) p = accepts rs p
accepts (AcceptDirective ∷ rs) p = accepts rs p
accepts (RejectDirective ∷ rs) p = accepts rs p
accepts (ConfirmDirective ∷ rs) p = accepts rs p
accepts (DenyDirective ∷ rs) p = accepts rs p

abbrev pub rejects : List Response → Option ℕ → List (Option ℕ)
rejects [] p = []
rejects (AcceptAdUnit ∷ rs) p = rejects rs p
rejects (RejectAdUnit ∷ rs) p = p ∷ rejects rs p
rejects (AcceptBdUnit ∷ rs) p = rejects rs p
rejects (RejectBdUnit ∷ rs) p = rejects rs p
rejects (AcceptDirective ∷ rs) p = rejects rs p
rejects (RejectDirective ∷ rs) p = rejects rs p
rejects (ConfirmDirective ∷ rs) p = rejects rs p
rejects (DenyDirective ∷ rs) p = rejects rs p

-- the units of which nothing is said: all, or the others where the first was answered
abbrev pub unanswered : List (Option ℕ) → List ℕ → List ℕ
unanswered [] is = is
unanswered (p ∷ ps) is = others_of is

-- what responses say of the first of these units
abbrev pub hear : List Response → List ℕ → Heard
hear rs is = record {
  accepted = accepts rs (first_of is);
  rejected = rejects rs (first_of is);
  left = unanswered (accepts rs (first_of is) ++ rejects rs (first_of is)) is;
}

-- "A request refused by number counts as rejected", besides what its responses say.
abbrev pub heard_offered : Answer → ℕ → Heard
heard_offered a i =
    pick (eqb a.refusal 0) (hear a.responses (i ∷ []))
    (record { accepted = accepts a.responses (some i); rejected = some i ∷ rejects a.responses (some i); left = [] })

-- At its own request's event an AD response speaks of the unit offered, which waits where nothing is said of it; at any other event of the unit waiting.
abbrev pub heard_at : SenderEvent → Answer → Ledger → Heard
heard_at (request_ad o) a l =
    let h : Heard = heard_offered a l.turns in record { accepted = h.accepted; rejected = h.rejected; left = l.waiting ++ h.left }
heard_at (request_bd o) a l = hear a.responses l.waiting
heard_at tick a l = hear a.responses l.waiting
heard_at (lower x) a l = hear a.responses l.waiting
heard_at (directive d v) a l = hear a.responses l.waiting
heard_at (word_arrives s) a l = hear a.responses l.waiting

-- the number of the AD frame handed down, read from its octets
abbrev pub number_of : Frame → Option ℕ
number_of (AD u) = some u.ns
number_of (BD o) = none
number_of Unlock = none
number_of (SetVR v) = none
number_of (Refused r) = none

abbrev pub number_down : Own → Option (List ℕ) → Option ℕ
number_down own none = none
number_down own (some o) = number_of (read own o)

-- with the number of the frame handed down
abbrev pub accepted_now : Option ℕ → List (Option ℕ) → List Accepted
accepted_now n [] = []
accepted_now n (p ∷ ps) = record { place = p; number = n } ∷ accepted_now n ps

-- the accepted unit has this number
abbrev pub has_number : Option ℕ → ℕ → Bool
has_number none x = false
has_number (some n) x = eqb n x

-- a, or b where a is none
abbrev pub or_else : Option ℕ → Option ℕ → Option ℕ
or_else none b = b
or_else (some i) b = some i

-- the place of the unit last accepted with the number x
abbrev pub last_with : List Accepted → ℕ → Option ℕ
last_with [] x = none
last_with (a ∷ more) x = or_else (last_with more x) (pick (has_number a.number x) a.place none)

-- the units of a run, by first number and count: those last accepted with these numbers
abbrev pub run_of : Fate → List Accepted → ℕ → ℕ → List Settled
run_of f units x zero = []
run_of f units x (suc c) = record { fate = f; place = last_with units x } ∷ run_of f units (advanced x 1) c

-- the ledger with one more event and its answer; within one event the confirmed run comes first
unfoldable pub enter : Own → Turn → Ledger → Ledger
enter own t l =
    let h : Heard = heard_at t.event t.answer l in
    let units : List Accepted = l.accepted ++ accepted_now (number_down own t.answer.down) h.accepted in
    record {
      turns = l.turns + 1;
      waiting = h.left;
      rejected = l.rejected ++ h.rejected;
      accepted = units;
      settled = l.settled ++ (run_of confirmed units t.answer.confirmed.number t.answer.confirmed.count
          ++ run_of denied units t.answer.denied.number t.answer.denied.count);
    }

-- with each of a list
unfoldable pub enter_all : Own → List Turn → Ledger → Ledger
enter_all own [] l = l
enter_all own (t ∷ ts) l = enter_all own ts (enter own t l)

-- the ledger of a list of events and their answers
abbrev pub ledger : Own → List Turn → Ledger
ledger own ts = enter_all own ts empty

-- What it says.

-- the places of units accepted, and of those settled
abbrev pub places : List Accepted → List (Option ℕ)
places [] = []
places (a ∷ more) = a.place ∷ places more

abbrev pub settled_places : List Settled → List (Option ℕ)
settled_places [] = []
settled_places (s ∷ ss) = s.place ∷ settled_places ss

abbrev pub is_fate : Fate → Fate → Bool
is_fate confirmed confirmed = true
is_fate confirmed denied = false
is_fate denied confirmed = false
is_fate denied denied = true

-- those of one fate
abbrev pub with_fate : Fate → List Settled → List (Option ℕ)
with_fate f [] = []
with_fate f (s ∷ ss) = pick (is_fate f s.fate) (s.place ∷ with_fate f ss) (with_fate f ss)

-- the place i is among these
abbrev pub is_place : ℕ → Option ℕ → Bool
is_place i none = false
is_place i (some j) = eqb i j

abbrev pub member : ℕ → List (Option ℕ) → Bool
member i [] = false
member i (p ∷ ps) = is_place i p || member i ps

-- settled, by its place
abbrev pub is_settled : Option ℕ → List (Option ℕ) → Bool
is_settled none ps = false
is_settled (some i) ps = member i ps

-- outstanding: accepted, neither confirmed nor denied
abbrev pub unsettled : List (Option ℕ) → List Accepted → List Accepted
unsettled ps [] = []
unsettled ps (a ∷ more) = pick (is_settled a.place ps) (unsettled ps more) (a ∷ unsettled ps more)

unfoldable pub outstanding : Ledger → List Accepted
outstanding l = unsettled (settled_places l.settled) l.accepted
