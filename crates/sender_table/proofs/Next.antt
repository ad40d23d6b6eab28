-- The next state that a cell of table 7-8 names: every cell has an action but those that are Not Applicable, so that having none tells these apart.
use mathlib.Core.Path.{◌≡◌, refl, sym, ap}
use mathlib.Core.Bool.{Bool, true, false}
use mathlib.Core.List.{List, [], ◌∷◌}
use Prim.Native.Nat.{◌<◌, ◌≤◌}
use native.Mathlib.Omega.{arith}
use lib.ListN.{length}
use Rattle.std.specs.Prelude.{Some, None}
use Rattle.fop.specs.declared.Action.{Action}
use Rattle.fop.specs.declared.Event.{Event as FopEvent}
use Rattle.fop.specs.declared.State.{State}
use Rattle.fop.specs.Table.{Cell, cell, if_not_suspended, NotApplicable, table78, cell78}
use Rattle.sender_table.specs.Cells.{Asked, asked_by, next_named}
use Rattle.sender_table.proofs.Cells.{six, of_six}
use Rattle.sender_table.proofs.Done.{at_event}

abbrev some_action : List Action → Bool
some_action [] = false
some_action (a ∷ more) = true

-- Not Applicable, or an action
abbrev worded : Cell → Bool
worded NotApplicable = true
worded (cell acts next) = some_action acts
worded (if_not_suspended acts others next) = some_action acts

all_worded : (e : FopEvent) (s : State) → worded (cell78 (table78 e) s) ≡ true
unfolding table78
all_worded e s =
    of_six (λ t. worded (cell78 (table78 e) t)) (λ t. true)
    (at_event (λ x. six (λ t. worded (cell78 (table78 x) t))) (λ x. six (λ t. true)) refl e) s

-- the actions and the next state that the event's cell asks in the state
module _ (e : FopEvent) (s : State) (acts : List Action) (next : State) (asks : (record { actions = acts; next = next }) ≡ asked_by (cell78 (table78 e) s) s) where
  -- no action: it names no next state, and the state is kept
  pub none_named : length acts < 1 → (next_named (cell78 (table78 e) s) ≡ None) × ((record { actions = acts; next = s }) ≡ asked_by (cell78 (table78 e) s) s)
  unfolding asked_by next_named
  none_named few = go acts (cell78 (table78 e) s) few (all_worded e s) asks
    where
      go : (x : List Action) (c : Cell) → length x < 1 → worded c ≡ true → (record { actions = x; next = next }) ≡ asked_by c s
          → (next_named c ≡ None) × ((record { actions = x; next = s }) ≡ asked_by c s)
      go (b ∷ rest) c h w q = absurd (omega arith)
      go [] NotApplicable h w q = (refl, refl)
      go [] (cell [] t) h w q = absurd (cc)
      go [] (cell (a ∷ more) t) h w q = absurd (omega (arith, ap (λ (y : Asked). length y.actions) q))
      go [] (if_not_suspended [] others t) h w q = absurd (cc)
      go [] (if_not_suspended (a ∷ more) others t) h w q = absurd (omega (arith, ap (λ (y : Asked). length y.actions) q))

  -- an action: it names the next state
  pub some_named : 1 ≤ length acts → next_named (cell78 (table78 e) s) ≡ Some next
  unfolding asked_by next_named
  some_named some = go (cell78 (table78 e) s) asks
    where
      go : (c : Cell) → (record { actions = acts; next = next }) ≡ asked_by c s → next_named c ≡ Some next
      go NotApplicable q = absurd (omega (arith, ap (λ (y : Asked). length y.actions) q))
      go (cell x t) q = ap (λ (y : Asked). Some y.next) (sym q)
      go (if_not_suspended x others t) q = ap (λ (y : Asked). Some y.next) (sym q)
