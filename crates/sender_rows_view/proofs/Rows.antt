-- What the row of an event, done to the sender's struct and store, has to show: the table machine's work on what they read as.
use Rattle.std.specs.Prelude.{Some}
use Prim.Native.Nat.{ℕ, ◌-◌, ◌≤◌, ◌<◌}
use mathlib.Core.Path.{◌≡◌}
use mathlib.Core.Bool.{Bool, true, false}
use mathlib.Core.List.{List}
use mathlib.Core.Option.{some}
use lib.ListN.{length, set}
use Rattle.base.specs.Choice.{pick}
use Rattle.base.specs.Limits.{largest_unit}
use Rattle.base.specs.Modulo.{offset}
use Rattle.store.specs.Places.{unit_put, without}
use Rattle.store.specs.Slid.{slid}
use Rattle.fop.specs.Effective.{in_service}
use Rattle.fop.specs.Limits.{largest_transmission_limit, largest_timeout_type}
use Rattle.fop.specs.Units.{Own}
use Rattle.fop.specs.declared.Event.{Event as FopEvent}
use Rattle.fop.specs.declared.Event.TheVariants.{E1, E2, E3, E4, E5, E6, E7, E8, E9, E10, E11, E12, E13, E14, E15, E16, E17, E18, E19, E20, E21, E22, E23, E24, E25, E26, E27, E28, E29, E30, E31, E32, E33, E34}
use Rattle.fop.specs.declared.Event.TheVariants.{E35, E36, E37, E38, E39, E40, E41, E42, E43, E44, E45, E46, E101, E102, E103, E104}
use Rattle.fop.specs.Variables as machine
use Rattle.fop.specs.Answers.{run_of}
use Rattle.sender_values.specs.declared.Handed.TheVariants as handed
use Rattle.sender_values.specs.declared.SenderState.{SenderState}
use Rattle.sender_values.specs.declared.Work.{Work}
use Rattle.sender_values.specs.Actions.{units_held}
use Rattle.sender_values.specs.Start.{sender_of}
use Rattle.sender_view.specs.View.{view}
use Rattle.sender_rows_view.specs.State.{Good}

-- what an event brings, as its conditions in table 7-8 and document 01's limits give it
pub data Brings : Type 0 where
  -- nothing that its row depends on
  nothing : Brings
  -- N(R) from NN(R) to V(S)
  acknowledging : Brings
  -- Transmission_Count < Transmission_Limit
  again : Brings
  -- a unit for the empty Wait_Queue
  offering : Brings
  -- V*, T1_Initial, Transmission_Limit, Timeout_Type within their limits; K, of a sender that has it already
  numbering widening clocking limiting timing : Brings
  -- the timer has expired, so it is stopped; the same with Transmission_Count < Transmission_Limit
  expiring expiring_again : Brings
  -- Suspend_State is this
  resuming : ℕ → Brings

-- table 7-8: what the conditions of each event ask
abbrev pub brings : FopEvent → Brings
brings E1 = nothing
brings E2 = acknowledging
brings E3 = nothing
brings E4 = nothing
brings E5 = nothing
brings E6 = acknowledging
brings E7 = nothing
brings E8 = acknowledging
brings E9 = acknowledging
brings E10 = again
brings E11 = nothing
brings E12 = nothing
brings E13 = nothing
brings E14 = nothing
brings E15 = nothing
brings E16 = again
brings E17 = nothing
brings E18 = expiring
brings E19 = offering
brings E20 = nothing
brings E21 = nothing
brings E22 = nothing
brings E23 = nothing
brings E24 = nothing
brings E25 = nothing
brings E26 = nothing
brings E27 = numbering
brings E28 = nothing
brings E29 = nothing
brings E30 = nothing
brings E31 = resuming 1
brings E32 = resuming 2
brings E33 = resuming 3
brings E34 = resuming 4
brings E35 = numbering
brings E36 = widening
brings E37 = clocking
brings E38 = limiting
brings E39 = timing
brings E40 = nothing
brings E41 = nothing
brings E42 = nothing
brings E43 = nothing
brings E44 = nothing
brings E45 = nothing
brings E46 = nothing
brings E101 = acknowledging
brings E102 = nothing
brings E103 = nothing
brings E104 = expiring_again

-- what holds of the unit, the value and the sender where an event brings that
abbrev pub Needed : Brings → List ℕ → ℕ → SenderState → Type 0
Needed nothing o n s = Unit {0}
Needed acknowledging o n s = (n < 256) × (offset n s.variables.nnr ≤ offset s.variables.vs s.variables.nnr)
Needed again o n s = s.variables.transmission_count < s.settings.transmission_limit
Needed offering o n s = (1 ≤ length o) × (length o ≤ largest_unit)
Needed numbering o n s = n < 256
Needed widening o n s = n ≡ s.settings.k
Needed clocking o n s = 1 ≤ n
Needed limiting o n s = (1 ≤ n) × (n ≤ largest_transmission_limit)
Needed timing o n s = n ≤ largest_timeout_type
Needed expiring o n s = s.variables.timer ≡ 0
Needed expiring_again o n s = (s.variables.transmission_count < s.settings.transmission_limit) × (s.variables.timer ≡ 0)
Needed (resuming k) o n s = s.variables.suspend_state ≡ k

-- the unit and the value are such as the event brings to the sender
abbrev pub Meets : FopEvent → List ℕ → ℕ → SenderState → Type 0
Meets e o n s = Needed (brings e) o n s

-- whether it is a unit for the empty Wait_Queue
abbrev pub is_offering : Brings → Bool
is_offering nothing = false
is_offering acknowledging = false
is_offering again = false
is_offering offering = true
is_offering numbering = false
is_offering widening = false
is_offering clocking = false
is_offering limiting = false
is_offering timing = false
is_offering expiring = false
is_offering expiring_again = false
is_offering (resuming k) = false

-- the units that stay in the store: those held before the event, less the units that it confirms
abbrev pub units_staying : SenderState → Work → ℕ
units_staying s w = units_held s.queues.sent s.queues.waiting - w.told.confirmed.count

-- the store after an event: the unit offered is put behind the sent ones where it is added to the Wait_Queue; the units confirmed are
-- removed from the front
abbrev pub store_by : Brings → List ℕ → SenderState → Work → List ℕ → List ℕ
store_by b o s w store =
    pick (is_offering b) (pick (in_service s.state) (unit_put s.queues.sent o store) store)
    (without s.lengths w.told.confirmed.count (units_staying s w) store)

-- the store after the event
abbrev pub store_after : FopEvent → List ℕ → SenderState → Work → List ℕ → List ℕ
store_after e o s w store = store_by (brings e) o s w store

-- and so the lengths of the units
abbrev pub lengths_by : Brings → List ℕ → SenderState → Work → List ℕ
lengths_by b o s w =
    pick (is_offering b) (pick (in_service s.state) (set s.lengths s.queues.sent (length o)) s.lengths) (slid w.told.confirmed.count s.lengths)

-- the lengths after the event
abbrev pub lengths_after : FopEvent → List ℕ → SenderState → Work → List ℕ
lengths_after e o s w = lengths_by (brings e) o s w

-- the work m of the table machine on the event e is what the work w on the struct, with the lengths and the store after it, reads as; the runs
-- told are the units confirmed and denied; the state stays well-formed; a unit that is handed down is one of the sent ones
pub record Shows (own : Own) (e : FopEvent) (o : List ℕ) (n : ℕ) (w : Work) (lengths store : List ℕ) (m : machine.Work) : Type 0 where
  pub is : m ≡ view (some e) o n m.confirmed m.denied w lengths store
  pub confirmed : run_of m.confirmed ≡ w.told.confirmed
  pub denied : run_of m.denied ≡ w.told.denied
  pub good : Good own (sender_of w lengths) store
  pub sent : (k i : ℕ) → w.told.handed ≡ (Some (handed.Ad k i)) → i < w.queues.sent
