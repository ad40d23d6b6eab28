-- Table 7-9, the FARM-1 state table, row by row: for each event and state the actions, in the standard's words, and the next state.
-- The table knows no count of buffers: whether one is free is told to the choice of the event (specs/Window).
use Rattle.std.specs.Prelude.{ℕ, ◌+◌, ◌%◌, Bool, true, false, List, [], ◌∷◌, Option, None, Some}
use Rattle.base.specs.Choice.{pick}
use Rattle.base.specs.Modulo.{advanced}
use Rattle.farm.specs.declared.State.{State}
use Rattle.farm.specs.declared.State.TheVariants.{Open, Wait, Lockout}
use Rattle.farm.specs.declared.Event.{Event}
use Rattle.farm.specs.declared.Event.TheVariants.{E1, E2, E3, E4, E5, E6, E7, E8, E9, E10, E11}
use Rattle.farm.specs.declared.Variables.{Variables}
use Rattle.farm.specs.declared.AcceptedUnit.{AcceptedUnit}
use Rattle.farm.specs.declared.AcceptedUnit.TheVariants.{Ad, Bd}

-- the events by their numbers
abbrev pub event_number : Event → ℕ
event_number E1 = 1
event_number E2 = 2
event_number E3 = 3
event_number E4 = 4
event_number E5 = 5
event_number E6 = 6
event_number E7 = 7
event_number E8 = 8
event_number E9 = 9
event_number E10 = 10
event_number E11 = 11

-- what a cell asks
pub data Action : Type 0 where
  Accept Discard Ignore NotApplicable : Action
  -- V(R) := V(R) + 1, and V(R) := V*(R)
  IncrementVr SetVr : Action
  IncrementFarmBCounter : Action
  LockoutFlag WaitFlag RetransmitFlag : Bool → Action
  -- report value of V(R), the flags and the FARM-B counter
  Report : Action

-- a cell of the table: its actions and the next state
pub record Cell : Type 0 where
  pub actions : List Action
  pub next : State

-- a cell by its two parts
abbrev cell : List Action → State → Cell
cell actions next = record { actions = actions; next = next }

-- the cell of an event in a state
unfoldable pub table : Event → State → Cell
-- E1: valid AD frame, N(S) = V(R), a buffer is available
table E1 Open = cell (Accept ∷ IncrementVr ∷ RetransmitFlag false ∷ []) Open
table E1 Wait = cell (NotApplicable ∷ []) Wait
table E1 Lockout = cell (Discard ∷ []) Lockout
-- E2: N(S) = V(R), no buffer is available
table E2 Open = cell (Discard ∷ RetransmitFlag true ∷ WaitFlag true ∷ []) Wait
table E2 Wait = cell (Discard ∷ []) Wait
table E2 Lockout = cell (Discard ∷ []) Lockout
-- E3: inside the positive part of the sliding window, and N(S) is not V(R)
table E3 Open = cell (Discard ∷ RetransmitFlag true ∷ []) Open
table E3 Wait = cell (Discard ∷ []) Wait
table E3 Lockout = cell (Discard ∷ []) Lockout
-- E4: inside the negative part of the sliding window
table E4 Open = cell (Discard ∷ []) Open
table E4 Wait = cell (Discard ∷ []) Wait
table E4 Lockout = cell (Discard ∷ []) Lockout
-- E5: outside of the sliding window. Document 01: "E5 in Wait keeps the wait flag."
table E5 Open = cell (Discard ∷ LockoutFlag true ∷ []) Lockout
table E5 Wait = cell (Discard ∷ LockoutFlag true ∷ []) Lockout
table E5 Lockout = cell (Discard ∷ []) Lockout
-- E6: valid BD frame
table E6 Open = cell (Accept ∷ IncrementFarmBCounter ∷ []) Open
table E6 Wait = cell (Accept ∷ IncrementFarmBCounter ∷ []) Wait
table E6 Lockout = cell (Accept ∷ IncrementFarmBCounter ∷ []) Lockout
-- E7: valid Unlock BC frame. Document 01: "Unlock in Wait opens without freeing a buffer."
table E7 Open = cell (IncrementFarmBCounter ∷ RetransmitFlag false ∷ []) Open
table E7 Wait = cell (IncrementFarmBCounter ∷ RetransmitFlag false ∷ WaitFlag false ∷ []) Open
table E7 Lockout = cell (IncrementFarmBCounter ∷ RetransmitFlag false ∷ WaitFlag false ∷ LockoutFlag false ∷ []) Open
-- E8: valid Set V(R) BC frame. Document 01: "Set V(R) in Lockout only counts."
table E8 Open = cell (IncrementFarmBCounter ∷ RetransmitFlag false ∷ SetVr ∷ []) Open
table E8 Wait = cell (IncrementFarmBCounter ∷ RetransmitFlag false ∷ WaitFlag false ∷ SetVr ∷ []) Open
table E8 Lockout = cell (IncrementFarmBCounter ∷ []) Lockout
-- E9: invalid frame
table E9 Open = cell (Discard ∷ []) Open
table E9 Wait = cell (Discard ∷ []) Wait
table E9 Lockout = cell (Discard ∷ []) Lockout
-- E10: buffer release signal
table E10 Open = cell (Ignore ∷ []) Open
table E10 Wait = cell (WaitFlag false ∷ []) Open
table E10 Lockout = cell (WaitFlag false ∷ []) Lockout
-- E11: CLCW report time
table E11 Open = cell (Report ∷ []) Open
table E11 Wait = cell (Report ∷ []) Wait
table E11 Lockout = cell (Report ∷ []) Lockout

-- The variables of clause 7.2.3, one changed.

-- the state: Open, Wait or Lockout (S1 to S3)
abbrev with_state : State → Variables → Variables
with_state s v = record { state = s; vr = v.vr; lockout = v.lockout; wait = v.wait; retransmit = v.retransmit; counter = v.counter }

-- V(R)
abbrev with_vr : ℕ → Variables → Variables
with_vr n v = record { state = v.state; vr = n; lockout = v.lockout; wait = v.wait; retransmit = v.retransmit; counter = v.counter }

-- Lockout_Flag
abbrev with_lockout : Bool → Variables → Variables
with_lockout b v = record { state = v.state; vr = v.vr; lockout = b; wait = v.wait; retransmit = v.retransmit; counter = v.counter }

-- Wait_Flag
abbrev with_wait : Bool → Variables → Variables
with_wait b v = record { state = v.state; vr = v.vr; lockout = v.lockout; wait = b; retransmit = v.retransmit; counter = v.counter }

-- Retransmit_Flag
abbrev with_retransmit : Bool → Variables → Variables
with_retransmit b v = record { state = v.state; vr = v.vr; lockout = v.lockout; wait = v.wait; retransmit = b; counter = v.counter }

-- FARM-B_Counter
abbrev with_counter : ℕ → Variables → Variables
with_counter n v = record { state = v.state; vr = v.vr; lockout = v.lockout; wait = v.wait; retransmit = v.retransmit; counter = n }

-- what an action does to the variables; star is V*(R), the value that a Set V(R) carries. V(R) counts modulo 256, the FARM-B
-- counter modulo 4 (document 01, "Limits").
unfoldable pub perform : ℕ → Action → Variables → Variables
perform star Accept v = v
perform star Discard v = v
perform star Ignore v = v
perform star NotApplicable v = v
perform star IncrementVr v = with_vr (advanced v.vr 1) v
perform star SetVr v = with_vr star v
perform star IncrementFarmBCounter v = with_counter ((v.counter + 1) % 4) v
perform star (LockoutFlag b) v = with_lockout b v
perform star (WaitFlag b) v = with_wait b v
perform star (RetransmitFlag b) v = with_retransmit b v
perform star Report v = v

-- actions in their order
unfoldable pub perform_all : ℕ → List Action → Variables → Variables
perform_all star [] v = v
perform_all star (a ∷ rest) v = perform_all star rest (perform star a v)

-- the variables after an event
unfoldable pub step_of : Event → ℕ → Variables → Variables
step_of e star v = with_state (table e v.state).next (perform_all star (table e v.state).actions v)

-- the action Accept
abbrev pub is_accept : Action → Bool
is_accept Accept = true
is_accept Discard = false
is_accept Ignore = false
is_accept NotApplicable = false
is_accept IncrementVr = false
is_accept SetVr = false
is_accept IncrementFarmBCounter = false
is_accept (LockoutFlag b) = false
is_accept (WaitFlag b) = false
is_accept (RetransmitFlag b) = false
is_accept Report = false

-- one of the actions is Accept
abbrev pub any_accept : List Action → Bool
any_accept [] = false
any_accept (a ∷ rest) = pick (is_accept a) true (any_accept rest)

-- the cell of an event in a state accepts the frame
unfoldable pub accepts : Event → State → Bool
accepts e s = any_accept (table e s).actions

-- the unit that an event accepts: a type-D frame's, by its type (AD in E1 to E5, BD in E6), where the cell says Accept
abbrev pub unit_of : Event → State → Option AcceptedUnit
unit_of E1 s = pick (accepts E1 s) (Some Ad) None
unit_of E2 s = pick (accepts E2 s) (Some Ad) None
unit_of E3 s = pick (accepts E3 s) (Some Ad) None
unit_of E4 s = pick (accepts E4 s) (Some Ad) None
unit_of E5 s = pick (accepts E5 s) (Some Ad) None
unit_of E6 s = pick (accepts E6 s) (Some Bd) None
unit_of E7 s = None
unit_of E8 s = None
unit_of E9 s = None
unit_of E10 s = None
unit_of E11 s = None
