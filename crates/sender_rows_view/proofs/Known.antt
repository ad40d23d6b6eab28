-- What a mode says of the work on an event and of the machine's work on it. The facts are stated of the values of fields, so that an
-- action that leaves those fields alone keeps them as they stand.
use Rattle.std.specs.Prelude.{Option, None, Some}
use Prim.Native.Nat.{ℕ, suc, ◌+◌, ◌-◌, ◌%◌, ◌≤◌, ◌<◌}
use mathlib.Core.Path.{◌≡◌, refl, sym, subst}
use mathlib.Core.Bool.{Bool, true, false}
use mathlib.Core.List.{List, []}
use mathlib.Core.Option.{some}
use native.Mathlib.Omega.{arith}
use lib.ListN.{length, get_or, set}
use Rattle.base.specs.Modulo.{advanced}
use Rattle.store.specs.Places.{unit_put, without}
use Rattle.store.specs.Slid.{slid}
use Rattle.fop.specs.Limits.{largest_k, largest_transmission_limit, largest_timeout_type}
use Rattle.fop.specs.Units.{Fdu, Own}
use Rattle.fop.specs.declared.Event.{Event as FopEvent}
use Rattle.fop.specs.Variables as machine
use Rattle.fop.specs.Answers.{run_of}
use Rattle.sender_values.specs.declared.Control.{Control}
use Rattle.sender_values.specs.declared.Handed.{Handed}
use Rattle.sender_values.specs.declared.Handed.TheVariants as handed
use Rattle.sender_values.specs.declared.Responses.{Responses}
use Rattle.fop.specs.declared.Run.{Run}
use Rattle.sender_values.specs.declared.SenderState.{SenderState}
use Rattle.sender_values.specs.declared.Settings.{Settings}
use Rattle.sender_values.specs.declared.Work.{Work}
use Rattle.sender_values.specs.Limits.{largest_responses}
use Rattle.sender_values.specs.Actions.{units_held}
use Rattle.sender_values.specs.Start.{begun, none_told}
use Rattle.sender_view.specs.View.{view, Formed, WellFormed}
use Rattle.sender_view.proofs.SentQueue.{held_least}
use Rattle.sender_view.proofs.ViewAnswers.{Room}
use Rattle.sender_view.proofs.ViewStart.{room_begun}
use Rattle.sender_table.specs.Rows.{is_frame}
use Rattle.sender_rows_view.specs.State.{Good}
use Rattle.sender_rows_view.proofs.Mode.{Stored, kept, moved, put, Idle, started, ceased, framed, released, suspended_at, Mode, fresh, going, half, over, bad}

-- an event at a sender and its store
pub record Case : Type 0 where
  pub own : Own
  pub event : FopEvent
  pub octets : List ℕ
  pub value : ℕ
  pub sender : SenderState
  pub store : List ℕ

abbrev pub seen : Case → List Fdu → List Fdu → Work → List ℕ → List ℕ → machine.Work
seen x c d w lengths store = view (some x.event) x.octets x.value c d w lengths store

-- what is known where a flag is on
abbrev pub Where : Bool → Type 0 → Type 0
Where true A = A
Where false A = Unit {0}

-- a list, where `count` units are confirmed: as it was, moved down by them, or with the unit offered put into it
abbrev pub Left : Stored → ℕ → List ℕ → (ℕ → List ℕ) → List ℕ → List ℕ → Type 0
Left kept count was down added now = (now ≡ was) × (count ≡ 0)
Left moved count was down added now = now ≡ down count
Left put count was down added now = now ≡ added

-- so the store, and the lengths of its units
abbrev pub StoreIs : Case → Stored → ℕ → List ℕ → Type 0
StoreIs x p count store =
    let s = x.sender in
    Left p count x.store (λ k. without s.lengths k (units_held s.queues.sent s.queues.waiting - k) x.store) (unit_put s.queues.sent x.octets x.store) store

abbrev pub LengthsIs : Case → Stored → ℕ → List ℕ → Type 0
LengthsIs x p count lengths =
    let s = x.sender in
    Left p count s.lengths (λ k. slid k s.lengths) (set s.lengths s.queues.sent (length x.octets)) lengths

-- the settings; k is the sender's K before the event, which no event changes (Set K is done to a sender that has the new K)
pub record Settled (own : Own) (k : ℕ) (g : Settings) : Type 0 where
  pub same_window : g.k ≡ k
  pub window_least : 1 ≤ g.k
  pub in_window : g.k ≤ largest_k
  pub clock_least : 1 ≤ g.t1_initial
  pub limit_least : 1 ≤ g.transmission_limit
  pub in_limit : g.transmission_limit ≤ largest_transmission_limit
  pub type_most : g.timeout_type ≤ largest_timeout_type
  pub own_spacecraft_lem : g.spacecraft ≡ own.spacecraft
  pub own_channel_lem : g.channel ≡ own.channel

-- Transmission_Count
pub record Counted (count : ℕ) : Type 0 where
  pub least : 1 ≤ count
  pub most : count ≤ largest_transmission_limit

-- the queues, the timer and Suspend_State
pub record IdleIs (z : Idle) (timer sent : ℕ) (waiting : Bool) (bc : Option Control) (suspend : ℕ) : Type 0 where
  pub unsent : Where z.unsent (sent ≡ 0)
  pub unasked : Where z.unasked (waiting ≡ false)
  pub stopped : Where z.stopped (timer ≡ 0)
  pub frame : is_frame bc ≡ z.frame
  pub is_suspend : suspend ≡ z.suspend

-- the store, the lengths and the two runs of units
pub record Runs (x : Case) (p : Stored) (store lengths : List ℕ) (c d : List Fdu) (confirmed denied : Run) : Type 0 where
  pub stored : StoreIs x p confirmed.count store
  pub measured : LengthsIs x p confirmed.count lengths
  pub of_confirmed : run_of c ≡ confirmed
  pub of_denied : run_of d ≡ denied

-- the units that the store can hold after the event: those held before it, and the unit offered where it was put behind the sent ones
abbrev pub most : Case → Stored → ℕ
most x kept = units_held x.sender.queues.sent x.sender.queues.waiting
most x moved = units_held x.sender.queues.sent x.sender.queues.waiting
most x put = suc x.sender.queues.sent

-- the units confirmed and those still held are no more
abbrev pub NoMore : Case → Stored → ℕ → ℕ → Bool → Type 0
NoMore x p count sent waiting = count + units_held sent waiting ≤ most x p

-- what is known all along
pub record Ended (x : Case) (p : Stored) (z : Idle) (store : List ℕ) (c d : List Fdu) (g : Settings) (timer count suspend sent : ℕ)
    (waiting : Bool) (bc : Option Control) (lengths : List ℕ) (down : Option Handed) (confirmed denied : Run) : Type 0 where
  pub settled : Settled x.own x.sender.settings.k g
  pub counted : Counted count
  pub filled : (i : ℕ) → i < units_held sent waiting → 1 ≤ get_or lengths i 0
  pub no_more : NoMore x p confirmed.count sent waiting
  pub runs : Runs x p store lengths c d confirmed denied
  pub idle : IdleIs z timer sent waiting bc suspend
  pub below : (k i : ℕ) → down ≡ (Some (handed.Ad k i)) → i < sent

-- what is known besides, while no frame is handed down: f is whether Transmission_Count is below 255, u whether no unit is denied yet,
-- l the room left for responses
pub record Going (f u : Bool) (l : ℕ) (d : List Fdu) (count : ℕ) (down : Option Handed) (responses : Responses) : Type 0 where
  pub none : down ≡ None
  pub room : Room l responses
  pub undenied : Where u (d ≡ [])
  pub few : Where f (count < 255)

abbrev pub EndedOf : Case → Stored → Idle → List ℕ → List ℕ → List Fdu → List Fdu → Work → Type 0
EndedOf x p z lengths store c d w =
    Ended x p z store c d w.settings w.variables.timer w.variables.transmission_count w.variables.suspend_state w.queues.sent w.queues.waiting
    w.queues.control lengths w.told.handed w.told.confirmed w.told.denied

abbrev pub GoingOf : Bool → Bool → ℕ → List Fdu → Work → Type 0
GoingOf f u l d w = Going f u l d w.variables.transmission_count w.told.handed w.told.responses

-- The modes, of the work w and the machine's work m.
pub record Fresh (x : Case) (f : Bool) (z : Idle) (w : Work) (m : machine.Work) : Type 0 where
  pub begins : w ≡ begun x.sender
  pub is : m ≡ seen x [] [] (begun x.sender) x.sender.lengths x.store
  pub good : Good x.own x.sender x.store
  pub few : Where f (x.sender.variables.transmission_count < 255)
  pub idle : IdleIs z x.sender.variables.timer x.sender.queues.sent x.sender.queues.waiting x.sender.queues.control
      x.sender.variables.suspend_state

pub record Open (x : Case) (p : Stored) (f : Bool) (z : Idle) (u : Bool) (l : ℕ) (w : Work) (m : machine.Work) : Type 0 where
  pub lengths : List ℕ
  pub store : List ℕ
  pub c : List Fdu
  pub d : List Fdu
  pub is : m ≡ seen x c d w lengths store
  pub formed : WellFormed w lengths store
  pub ended : EndedOf x p z lengths store c d w
  pub going : GoingOf f u l d w

pub record Half (x : Case) (p : Stored) (z : Idle) (u : Bool) (l : ℕ) (w : Work) (m : machine.Work) : Type 0 where
  pub lengths : List ℕ
  pub store : List ℕ
  pub c : List Fdu
  pub d : List Fdu
  pub is : m ≡ seen x c d w lengths store
  pub octet : x.value < 256
  pub numbered : w.variables.vs ≡ x.value % 256
  pub formed : Formed w.settings.k (x.value % 256) (x.value % 256) w.queues.sent w.queues.marked lengths store
  pub ended : EndedOf x p z lengths store c d w
  pub going : GoingOf false u l d w

pub record Shut (x : Case) (p : Stored) (z : Idle) (w : Work) (m : machine.Work) : Type 0 where
  pub lengths : List ℕ
  pub store : List ℕ
  pub c : List Fdu
  pub d : List Fdu
  pub is : m ≡ seen x c d w lengths store
  pub formed : WellFormed w lengths store
  pub ended : EndedOf x p z lengths store c d w

abbrev pub At : Case → Mode → Work → machine.Work → Type 0
At x (fresh f z) w m = Fresh x f z w m
At x (going p f z u l) w m = Open x p f z u l w m
At x (half p z u l) w m = Half x p z u l w m
At x (over p z) w m = Shut x p z w m
At x bad w m = Unit {0}

-- a number of one octet
pub octet_is : (n : ℕ) → n < 256 → n % 256 ≡ n
octet_is n h = omega arith

-- the units sent are held, whether or not one waits
pub held_waiting : (sent i : ℕ) (b : Bool) → i < sent → i < units_held sent b
held_waiting sent i b h = omega (arith, held_least sent b)

-- room for fewer responses
pub less_room : (j k : ℕ) (r : Responses) → j ≤ k → Room k r → Room j r
less_room j k r h m = record { few = omega (arith, m.few); all_numbers = m.all_numbers }

-- a fact whose flag is on, and one for a flag
pub known : {b : Bool} {A : Type 0} → b ≡ true → Where b A → A
known {b} {A} t h = subst (λ (y : Bool). Where y A) t h

pub where_on : {A : Type 0} (b : Bool) → (b ≡ true → A) → Where b A
where_on true f = f refl
where_on false f = tt

-- the timer started, and stopped; the type-BC frame put on the Sent_Queue, and taken off it; Suspend_State set
module _ {z : Idle} {timer sent : ℕ} {waiting : Bool} {bc : Option Control} {suspend : ℕ} (q : IdleIs z timer sent waiting bc suspend) where
  pub starts : {t : ℕ} → IdleIs (started z) t sent waiting bc suspend
  starts = record { unsent = q.unsent; unasked = q.unasked; stopped = tt; frame = q.frame; is_suspend = q.is_suspend }

  pub stops : IdleIs (ceased z) 0 sent waiting bc suspend
  stops = record { unsent = q.unsent; unasked = q.unasked; stopped = refl; frame = q.frame; is_suspend = q.is_suspend }

  pub frames : {k : Option Control} → is_frame k ≡ true → IdleIs (framed z) timer sent waiting k suspend
  frames t = record { unsent = q.unsent; unasked = q.unasked; stopped = q.stopped; frame = t; is_suspend = q.is_suspend }

  pub releases : IdleIs (released z) timer sent waiting None suspend
  releases = record { unsent = q.unsent; unasked = q.unasked; stopped = q.stopped; frame = refl; is_suspend = q.is_suspend }

  pub suspends : (n : ℕ) → IdleIs (suspended_at n z) timer sent waiting bc n
  suspends n = record { unsent = q.unsent; unasked = q.unasked; stopped = q.stopped; frame = q.frame; is_suspend = refl }

-- other settings; another Transmission_Count, timer or type-BC frame
module _ {x : Case} {p : Stored} {z : Idle} {store : List ℕ} {c d : List Fdu} {g : Settings} {timer count suspend sent : ℕ} {waiting : Bool} {bc : Option Control} {lengths : List ℕ}
    {down : Option Handed} {confirmed denied : Run} (e : Ended x p z store c d g timer count suspend sent waiting bc lengths down confirmed denied) where
  pub resettled : {g' : Settings} → Settled x.own x.sender.settings.k g' → Ended x p z store c d g' timer count suspend sent waiting bc lengths down confirmed denied
  resettled s = record { settled = s; counted = e.counted; filled = e.filled; no_more = e.no_more; runs = e.runs; idle = e.idle; below = e.below }

  pub idle_again : {z' : Idle} {t n s : ℕ} {k : Option Control} → Counted n → IdleIs z' t sent waiting k s
      → Ended x p z' store c d g t n s sent waiting k lengths down confirmed denied
  idle_again n q = record { settled = e.settled; counted = n; filled = e.filled; no_more = e.no_more; runs = e.runs; idle = q; below = e.below }

-- the settings and the count of a well-formed sender
pub good_settled : {own : Own} {s : SenderState} {store : List ℕ} → Good own s store → Settled own s.settings.k s.settings
good_settled g = record {
  same_window = refl;
  window_least = g.window_least;
  in_window = g.window;
  clock_least = g.clock_least;
  limit_least = g.limit_least;
  in_limit = g.limit;
  type_most = g.type_most;
  own_spacecraft_lem = g.spacecraft;
  own_channel_lem = g.channel;
}

pub good_counted : {own : Own} {s : SenderState} {store : List ℕ} → Good own s store → Counted s.variables.transmission_count
good_counted g = record { least = g.count_least; most = g.count_most }

-- Transmission_Count 1, or one more than it was
pub counts_one : Counted 1
counts_one = record { least = omega arith; most = omega arith }

pub counts_more : {n : ℕ} → n < 255 → Counted n → Counted (advanced n 1)
counts_more h k = record { least = omega arith; most = omega arith }

-- the work as it begins, with nothing told
pub none_below : (down : Option Handed) (sent : ℕ) → down ≡ None → (k i : ℕ) → down ≡ (Some (handed.Ad k i)) → i < sent
none_below down sent h k i q = let z : ◌≡◌ {A = ℕ} 0 1 = cc in omega arith

pub no_more_first : (x : Case) → NoMore x kept 0 x.sender.queues.sent x.sender.queues.waiting
no_more_first x = omega arith

opens : (x : Case) (f : Bool) (z : Idle) (m : machine.Work) → Fresh x f z (begun x.sender) m → Open x kept f z true largest_responses (begun x.sender) m
unfolding begun none_told
opens x f z m h =
    let g = h.good in
    record {
      lengths = x.sender.lengths;
      store = x.store;
      c = [];
      d = [];
      is = h.is;
      formed = g.formed;
      ended = record {
        settled = good_settled g;
        counted = good_counted g;
        filled = g.filled;
        no_more = no_more_first x;
        runs = record { stored = (refl, refl); measured = (refl, refl); of_confirmed = refl; of_denied = refl };
        idle = h.idle;
        below = none_below None x.sender.queues.sent refl;
      };
      going = record { none = refl; room = room_begun x.sender; undenied = refl; few = h.few };
    }

pub opened : (x : Case) (f : Bool) (z : Idle) (w : Work) (m : machine.Work) → Fresh x f z w m → Open x kept f z true largest_responses w m
opened x f z w m h =
    subst (λ (v : Work). Open x kept f z true largest_responses v m) (sym h.begins)
    (opens x f z m (record { begins = refl; is = h.is; good = h.good; few = h.few; idle = h.idle }))
