-- That the data of src/table.rt and of src/filled.rt say what table 7-8 says. What their cells ask and what the table's cells ask, in each state, are
-- two lists; the proofs of `cell` and `filled_cell` have the checker compute and compare them (`Agree`, `AgreeFilled`).
use mathlib.Core.Path.{◌≡◌, sym, ap, ◌∙◌}
use mathlib.Core.List.{List, [], ◌∷◌, map}
use native.Mathlib.Omega.{arith}
use lib.ListN.{length, get_or}
use Rattle.std.proofs.lemmas.List.{get_or-map, length-map}
use Rattle.fop.specs.declared.Event.{Event as FopEvent}
use Rattle.fop.specs.declared.Event.TheVariants.{E1}
use Rattle.fop.specs.declared.State.{State}
use Rattle.fop.specs.declared.State.TheVariants.{S1, S2, S3, S4, S5, S6}
use Rattle.fop.specs.Table.{events, table78, cell78}
use Rattle.sender_table.specs.declared.CellAsked.{CellAsked}
use Rattle.sender_table.specs.declared.filled.FilledCell.{FilledCell}
use Rattle.sender_table.specs.declared.table.TableCell.{TableCell}
use Rattle.sender_table.specs.Cells.{Asked, asked_in, asked_by, filled_in, filled_by, place_of, column_of, Tells, TellsFilled}
use Rattle.sender_table.proofs.Places.{event_there, place_below}

-- in all states
abbrev pub six : {A : Type 0} → (State → A) → List A
six f = f S1 ∷ f S2 ∷ f S3 ∷ f S4 ∷ f S5 ∷ f S6 ∷ []

pub of_six : {A : Type 0} (f g : State → A) → six f ≡ six g → (s : State) → f s ≡ g s
of_six f g e S1 = ap (λ l. get_or l 0 (f S1)) e
of_six f g e S2 = ap (λ l. get_or l 1 (f S1)) e
of_six f g e S3 = ap (λ l. get_or l 2 (f S1)) e
of_six f g e S4 = ap (λ l. get_or l 3 (f S1)) e
of_six f g e S5 = ap (λ l. get_or l 4 (f S1)) e
of_six f g e S6 = ap (λ l. get_or l 5 (f S1)) e

-- Cells of any form, what one asks, and what the event's row asks.
module _ {C A : Type 0} (asks : C → State → A) (by_event : FopEvent → State → A) where
  -- what a row of cells asks
  abbrev by_row : C → List C → State → A
  by_row missing row s = asks (get_or row (column_of s) missing) s

  -- the rows ask what the events' rows ask
  abbrev pub Alike : List (List C) → Type 0
  Alike rows = (missing : C) → map (λ (row : List C). six (by_row missing row)) rows ≡ map (λ (e : FopEvent). six (by_event e)) events

  row_tells : (rows : List (List C)) → Alike rows → (missing : C) (e : FopEvent) (s : State) → by_row missing (get_or rows (place_of e) []) s ≡ by_event e s
  row_tells rows alike missing e =
      let f : List C → List A = λ row. six (by_row missing row) in
      let g : FopEvent → List A = λ x. six (by_event x) in
      let p = place_of e in
      let many : length rows ≡ 50 = sym (length-map rows f) ∙ ap length (alike missing) in
      of_six (by_row missing (get_or rows p [])) (by_event e)
      (sym (get_or-map f rows p [] (f []) (omega (arith, many, place_below e)))
      ∙ ap (λ (l : List (List A)). get_or l p (f [])) (alike missing)
      ∙ get_or-map g events p E1 (f []) (place_below e)
      ∙ ap g (event_there e))

-- what the row of an event asks, as listed and filled up, and that the rows of the data ask the same
abbrev by_event : FopEvent → State → Asked
by_event e s = asked_by (cell78 (table78 e) s) s

abbrev by_event_filled : FopEvent → State → CellAsked
by_event_filled e s = filled_by (cell78 (table78 e) s) s

abbrev pub Agree : List (List TableCell) → Type 0
Agree rows = Alike asked_in by_event rows

pub tells : (rows : List (List TableCell)) → Agree rows → Tells rows
tells rows agree = record { says = λ missing e s. row_tells asked_in by_event rows agree missing e s }

abbrev pub AgreeFilled : List (List FilledCell) → Type 0
AgreeFilled rows = Alike filled_in by_event_filled rows

pub tells_filled : (rows : List (List FilledCell)) → AgreeFilled rows → TellsFilled rows
tells_filled rows agree = record { says = λ missing e s. row_tells filled_in by_event_filled rows agree missing e s }
