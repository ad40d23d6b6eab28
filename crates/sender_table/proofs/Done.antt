-- That what a cell of table 7-8 asks, done, is the event's row. While suspended, the row of E35 is that of E40.
use mathlib.Core.Path.{◌≡◌, refl, sym, ap, ◌∙◌}
use mathlib.Core.Bool.{Bool, true, false}
use mathlib.Core.List.{List, [], ◌∷◌, map}
use Prim.Native.Nat.{ℕ, zero, suc}
use lib.Dec.{eqb}
use lib.ListN.{get_or}
use Rattle.std.proofs.lemmas.List.{get_or-map}
use Rattle.base.specs.Choice.{pick}
use Rattle.fop.specs.declared.Action.{Action}
use Rattle.fop.specs.declared.Event.{Event as FopEvent}
use Rattle.fop.specs.declared.Event.TheVariants.{E1, E40}
use Rattle.fop.specs.declared.State.{State}
use Rattle.fop.specs.Table.{events, event_number, Cell, cell, if_not_suspended, NotApplicable, table78, cell78}
use Rattle.sender_values.specs.declared.Work.{Work}
use Rattle.sender_values.specs.Actions.{to_state}
use Rattle.sender_table.specs.declared.CellAsked.{CellAsked}
use Rattle.sender_table.specs.Rows.{done, done_all, done_cell, row_of}
use Rattle.sender_table.specs.Cells.{Asked, most_actions, filled_up, asked_by, filled_by, place_of, unless_suspended}
use Rattle.sender_table.proofs.Places.{event_there, place_below}
use Rattle.sender_table.proofs.Cells.{six, of_six}

-- two facts of all events, computed alike, are alike of each
pub at_event : {A : Type 0} (f g : FopEvent → A) → map f events ≡ map g events → (e : FopEvent) → f e ≡ g e
at_event f g alike e =
    let p = place_of e in
    ap f (sym (event_there e))
    ∙ sym (get_or-map f events p E1 (f E1) (place_below e))
    ∙ ap (λ (l : List _). get_or l p (f E1)) alike
    ∙ get_or-map g events p E1 (f E1) (place_below e)
    ∙ ap g (event_there e)

-- "IF SS = 0 .. ELSE ..", decided; free is SS = 0
abbrev decided : Bool → Cell → Cell
decided free NotApplicable = NotApplicable
decided free (cell acts t) = cell acts t
decided free (if_not_suspended acts others t) = cell (pick free acts others) t

abbrev chosen : Bool → FopEvent → FopEvent
chosen free e = pick (eqb (event_number e) 35) (pick free e E40) e

-- what the row chosen asks, and what the event's own row asks
abbrev by_chosen : Bool → FopEvent → State → Asked
by_chosen free e s = asked_by (cell78 (table78 (chosen free e)) s) s

abbrev by_own : Bool → FopEvent → State → Asked
by_own free e s = asked_by (decided free (cell78 (table78 e) s)) s

alike : (free : Bool) → map (λ e. six (by_chosen free e)) events ≡ map (λ e. six (by_own free e)) events
unfolding table78 asked_by
alike true = refl
alike false = refl

chosen_asks : (free : Bool) (e : FopEvent) (s : State) → by_chosen free e s ≡ by_own free e s
chosen_asks free e s = of_six (by_chosen free e) (by_own free e) (at_event (λ x. six (by_chosen free x)) (λ x. six (by_own free x)) (alike free) e) s

-- Ignore, which fills a cell up, does nothing
filled_done : (k : ℕ) (acts : List Action) (n : ℕ) (w : Work) → done_all (filled_up k acts) n w ≡ done_all acts n w
unfolding done done_all
filled_done zero acts n w = refl
filled_done (suc k) [] n w = filled_done k [] n w
filled_done (suc k) (a ∷ more) n w = filled_done k more n (done a n w)

module _ (n : ℕ) (w : Work) where
  abbrev pub asked_done : Asked → Work
  asked_done a = to_state a.next (done_all a.actions n w)

  -- a cell of the state that the work is in
  cell_done : (free : Bool) (c : Cell) → eqb w.variables.suspend_state 0 ≡ free → asked_done (asked_by (decided free c) w.state) ≡ done_cell c n w
  unfolding asked_by done_cell done_all to_state
  cell_done free NotApplicable b = refl
  cell_done free (cell acts t) b = refl
  cell_done true (if_not_suspended acts others t) b = rw b refl
  cell_done false (if_not_suspended acts others t) b = rw b refl

  -- the row chosen, done, is the event's row
  pub cell_row : (e : FopEvent) → asked_done (asked_by (cell78 (table78 (unless_suspended e w.variables.suspend_state)) w.state) w.state) ≡ row_of e n w
  unfolding row_of
  cell_row e =
      let free = eqb w.variables.suspend_state 0 in
      ap asked_done (chosen_asks free e w.state) ∙ cell_done free (cell78 (table78 e) w.state) refl

  -- the same of five actions, filled up with Ignore
  abbrev pub filled_asked_done : CellAsked → Work
  filled_asked_done a = asked_done (record { actions = a.actions; next = a.next })

  pub filled_row : (e : FopEvent) → filled_asked_done (filled_by (cell78 (table78 (unless_suspended e w.variables.suspend_state)) w.state) w.state) ≡ row_of e n w
  unfolding filled_by
  filled_row e =
      let asked = asked_by (cell78 (table78 (unless_suspended e w.variables.suspend_state)) w.state) w.state in
      ap (to_state asked.next) (filled_done most_actions asked.actions n w) ∙ cell_row e
