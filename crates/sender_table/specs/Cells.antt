-- What a cell of table 7-8 asks in a state, and what src/table.rt and src/filled.rt say that it asks; that these are the same is proofs/Cells.
use Rattle.std.specs.Prelude.{ℕ, zero, suc, ◌-◌, ◌≡◌, List, [], ◌∷◌, Option, None, Some, eqb, ltb, get_or, unwrap_or}
use Rattle.base.specs.Choice.{pick}
use Rattle.fop.specs.declared.Action.{Action}
use Rattle.fop.specs.declared.Action.TheVariants.{Ignore}
use Rattle.fop.specs.declared.Event.{Event as FopEvent}
use Rattle.fop.specs.declared.Event.TheVariants.{E40}
use Rattle.fop.specs.declared.State.{State}
use Rattle.fop.specs.declared.State.TheVariants as state
use Rattle.fop.specs.Table.{Cell, cell, if_not_suspended, NotApplicable, table78, cell78, event_number}
use Rattle.sender_table.specs.declared.CellAsked.{CellAsked}
use Rattle.sender_table.specs.declared.filled.FilledCell.{FilledCell}
use Rattle.sender_table.specs.declared.table.TableCell.{TableCell}

-- actions in their order, and then the next state
pub record Asked : Type 0 where
  pub actions : List Action
  pub next : State

-- what a cell asks in the state s. "Not Applicable": no action, and the state is kept. "IF SS = 0 .. ELSE ..": the actions of SS = 0, since while
-- suspended another row is asked for (`unless_suspended`).
unfoldable pub asked_by : Cell → State → Asked
asked_by NotApplicable s = record { actions = []; next = s }
asked_by (cell acts next) s = record { actions = acts; next = next }
asked_by (if_not_suspended acts others next) s = record { actions = acts; next = next }

-- the next state that a cell names, if it names one: "Not Applicable" does not
unfoldable pub next_named : Cell → Option State
next_named NotApplicable = None
next_named (cell acts next) = Some next
next_named (if_not_suspended acts others next) = Some next

-- a cell of the table has at most five actions
abbrev pub most_actions : ℕ
most_actions = 5

-- actions filled up with Ignore to a count
abbrev pub filled_up : ℕ → List Action → List Action
filled_up zero acts = acts
filled_up (suc k) [] = Ignore ∷ filled_up k []
filled_up (suc k) (a ∷ more) = a ∷ filled_up k more

-- what a cell asks in the state s, its actions filled up to five, so that "Not Applicable" and "Ignore" ask alike
unfoldable pub filled_by : Cell → State → CellAsked
filled_by c s = record { actions = filled_up most_actions (asked_by c s).actions; next = (asked_by c s).next }

-- the cell of an event, if it is one, in the state s; no event: no action, and the state is kept
unfoldable pub cell_if : Option FopEvent → State → CellAsked
cell_if None s = filled_by NotApplicable s
cell_if (Some e) s = filled_by (cell78 (table78 e) s) s

-- "IF SS = 0 .. ELSE .." stands in one row, E35: while suspended it is the row of the invalid directive, E40
abbrev pub unless_suspended : FopEvent → ℕ → FopEvent
unless_suspended e suspend_state = pick (eqb (event_number e) 35) (pick (eqb suspend_state 0) e E40) e

-- what a cell of src/table.rt asks in the state s: where it names no next state, the state is kept
abbrev pub asked_in : TableCell → State → Asked
asked_in c s = record { actions = c.actions.now; next = unwrap_or c.next s }

-- and a cell of src/filled.rt
abbrev pub filled_in : FilledCell → State → CellAsked
filled_in c s = record { actions = c.actions.0 ∷ c.actions.1 ∷ c.actions.2 ∷ c.actions.3 ∷ c.actions.4 ∷ []; next = unwrap_or c.next s }

-- the place of an event's row: E1 to E46, then E101 to E104
abbrev pub place_of : FopEvent → ℕ
place_of e = pick (ltb (event_number e) 47) (event_number e - 1) (event_number e - 55)

-- the column of a state
abbrev pub column_of : State → ℕ
column_of state.S1 = 0
column_of state.S2 = 1
column_of state.S3 = 2
column_of state.S4 = 3
column_of state.S5 = 4
column_of state.S6 = 5

-- rows say what the table says: the cell at the place of each event, in the column of each state, asks what the table's cell asks
pub record Tells (rows : List (List TableCell)) : Type 0 where
  pub says : (missing : TableCell) (e : FopEvent) (s : State)
      → asked_in (get_or (get_or rows (place_of e) []) (column_of s) missing) s ≡ asked_by (cell78 (table78 e) s) s

-- and rows of src/filled.rt
pub record TellsFilled (rows : List (List FilledCell)) : Type 0 where
  pub says : (missing : FilledCell) (e : FopEvent) (s : State)
      → filled_in (get_or (get_or rows (place_of e) []) (column_of s) missing) s ≡ filled_by (cell78 (table78 e) s) s
