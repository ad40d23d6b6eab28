-- One computed test of table 7-8: in each state, with each Suspend_State that it may have, the actions of the cell lead from the mode of the effective
-- state to one that fits the next effective state. A cell that passes it obeys the flow law.
use mathlib.Core.Path.{◌≡◌, refl, sym, subst}
use mathlib.Core.Bool.{Bool, true, false, ◌&&◌}
use mathlib.Core.List.{List, []}
use mathlib.Core.Option.{Option}
use Prim.Native.Nat.{ℕ}
use lib.Dec.{T, eqb, eqb→eq}
use borrow.Author.Tests.{eqb-true}
use Rattle.base.specs.Choice.{pick}
use Rattle.fop.specs.declared.State.{State}
use Rattle.fop.specs.declared.State.TheVariants.{S1, S2, S3, S4, S5, S6}
use Rattle.fop.specs.declared.Action.{Action}
use Rattle.fop.specs.declared.Event.{Event as FopEvent}
use Rattle.fop.specs.Table.{Cell, cell, if_not_suspended, NotApplicable, Row, row, table78, cell78}
use Rattle.fop.specs.Variables.{Fop, Work, on_fop, set_state, begin}
use Rattle.fop.specs.Effective.{suspended_in, effective_of, effective, in_service}
use Rattle.fop.specs.Machine.{perform_all, perform_cell}
use Rattle.fop.specs.Events.{SenderEvent}
use Rattle.fop.proofs.Choices.{by_pick, and_l, and_r}
use Rattle.session.proofs.Suspended.{suspend_all, suspend_all_lem, unsuspended}
use Rattle.ledger.proofs.Flow.{Well, Flow}
use Rattle.ledger.proofs.Modes.{Given, Mode, offered, queued, serving, answered, bad, view, start, fits, Asked, BringsIn, begins, ends}
use Rattle.ledger.proofs.After.{after_all}
use Rattle.ledger.proofs.Actions.{keeps_all}

-- actions, from one effective state to the next
abbrev leads : Given → State → List Action → State → Bool
leads g s xs t = fits (after_all g xs (start g (in_service s))) t

-- in a state, with a Suspend_State, to the next state: Suspend_State is then 0 but in Initial
abbrev acts : Given → ℕ → State → List Action → State → Bool
acts g n s xs u = leads g (effective_of s n) xs (effective_of u (suspend_all xs n)) && unsuspended u (suspend_all xs n)

abbrev cell_ok : Given → ℕ → State → Cell → Bool
cell_ok g n s NotApplicable = leads g (effective_of s n) [] (effective_of s n)
cell_ok g n s (cell xs u) = acts g n s xs u
cell_ok g n s (if_not_suspended xs ys u) = pick (eqb n 0) (acts g n s xs u) (acts g n s ys u)

-- in Initial with both queues empty, whatever Suspend_State is
abbrev empty_acts : Given → ℕ → List Action → State → Bool
empty_acts g n xs u = leads g S6 xs S6 && unsuspended u (suspend_all xs n)

abbrev empty_ok : Given → ℕ → Cell → Bool
empty_ok g n NotApplicable = leads g S6 [] S6
empty_ok g n (cell xs u) = empty_acts g n xs u
empty_ok g n (if_not_suspended xs ys u) = empty_acts g n xs u && empty_acts g n ys u

-- The test of a row. Suspend_State is 0 but in Initial; there it is 1 to 3, or the queues are empty.
abbrev serving_ok : Given → Row → Bool
serving_ok g (row a b c d e f) = cell_ok g 0 S1 a && (cell_ok g 0 S2 b && (cell_ok g 0 S3 c && (cell_ok g 0 S4 d && cell_ok g 0 S5 e)))

abbrev suspended_ok : Given → Row → Bool
suspended_ok g (row a b c d e f) = cell_ok g 1 S6 f && (cell_ok g 2 S6 f && cell_ok g 3 S6 f)

abbrev pub unheld_ok : Given → ℕ → FopEvent → Bool
unheld_ok g n e = serving_ok g (table78 e) && empty_ok g n (cell78 (table78 e) S6)

abbrev pub row_ok : Given → ℕ → FopEvent → Bool
row_ok g n e = suspended_ok g (table78 e) && unheld_ok g n e

-- A mode that fits without units fits any state.
fits_any : (m : Mode) (s : State) → T (fits m S6) → T (fits m s)
fits_any (offered b) s t = absurd t
fits_any queued s t = absurd t
fits_any serving s t = absurd t
fits_any (answered true) s t = tt
fits_any (answered false) s t = absurd t
fits_any bad s t = absurd t

and_in : (a b : Bool) → T a → T b → T (a && b)
and_in true true s t = tt
and_in true false s t = t
and_in false b s t = s

module _ (g : Given) (n : ℕ) (out : in_service (suspended_in n) ≡ false) where
  empty_leads : (xs : List Action) (s : State) → T (leads g S6 xs S6) → T (leads g (suspended_in n) xs s)
  empty_leads xs s t =
      subst (λ (b : Bool). T (fits (after_all g xs (start g b)) s)) (sym out) (fits_any (after_all g xs (start g false)) s t)

  empty_acts_lem : (xs : List Action) (u : State) → T (empty_acts g n xs u) → T (acts g n S6 xs u)
  empty_acts_lem xs u t =
      and_in (leads g (suspended_in n) xs (effective_of u (suspend_all xs n))) _ (empty_leads xs _ (and_l (leads g S6 xs S6) _ t)) (and_r (leads g S6 xs S6) _ t)

  empty_ok_lem : (c : Cell) → T (empty_ok g n c) → T (cell_ok g n S6 c)
  empty_ok_lem NotApplicable t = empty_leads [] (suspended_in n) t
  empty_ok_lem (cell xs u) t = empty_acts_lem xs u t
  empty_ok_lem (if_not_suspended xs ys u) t = by (eqb n 0)
    where
      by : (b : Bool) → T (pick b (acts g n S6 xs u) (acts g n S6 ys u))
      by true = empty_acts_lem xs u (and_l (empty_acts g n xs u) _ t)
      by false = empty_acts_lem ys u (and_r (empty_acts g n xs u) _ t)

-- a Suspend_State that is none of 1 to 3 is of no state of the main protocol
pub beyond : (n : ℕ) → eqb n 1 ≡ false → eqb n 2 ≡ false → eqb n 3 ≡ false → in_service (suspended_in n) ≡ false
beyond n p q r = rw (p, q, r) (by_pick (λ s. in_service s ≡ false) (eqb n 0) (λ t. refl) (λ t. refl))

-- The cell that a sender meets.
module _ (g : Given) (n : ℕ) where
  at_zero : (s : State) (c : Cell) → T (eqb n 0) → T (cell_ok g 0 s c) → T (cell_ok g n s c)
  at_zero s c z t = subst (λ (k : ℕ). T (cell_ok g k s c)) (sym (eqb→eq n 0 z)) t

  at_serving : (r : Row) (s : State) → T (unsuspended s n) → T (serving_ok g r) → T (cell_ok g n S6 (cell78 r S6)) → T (cell_ok g n s (cell78 r s))
  at_serving (row a b c d e f) S1 z t i = at_zero S1 a z (and_l (cell_ok g 0 S1 a) _ t)
  at_serving (row a b c d e f) S2 z t i = at_zero S2 b z (and_l (cell_ok g 0 S2 b) _ (and_r (cell_ok g 0 S1 a) _ t))
  at_serving (row a b c d e f) S3 z t i = at_zero S3 c z (and_l (cell_ok g 0 S3 c) _ (and_r (cell_ok g 0 S2 b) _ (and_r (cell_ok g 0 S1 a) _ t)))
  at_serving (row a b c d e f) S4 z t i = at_zero S4 d z (and_l (cell_ok g 0 S4 d) _ (and_r (cell_ok g 0 S3 c) _ (and_r (cell_ok g 0 S2 b) _ (and_r (cell_ok g 0 S1 a) _ t))))
  at_serving (row a b c d e f) S5 z t i = at_zero S5 e z (and_r (cell_ok g 0 S4 d) _ (and_r (cell_ok g 0 S3 c) _ (and_r (cell_ok g 0 S2 b) _ (and_r (cell_ok g 0 S1 a) _ t))))
  at_serving (row a b c d e f) S6 z t i = i

  at_suspended_lem : (r : Row) → T (suspended_ok g r) → T (empty_ok g n (cell78 r S6)) → T (cell_ok g n S6 (cell78 r S6))
  at_suspended_lem (row a b c d e f) t o = by (eqb n 1) (eqb n 2) (eqb n 3) refl refl refl
    where
      is : (k : ℕ) → eqb n k ≡ true → T (cell_ok g k S6 f) → T (cell_ok g n S6 f)
      is k q t = subst (λ (j : ℕ). T (cell_ok g j S6 f)) (sym (eqb-true n k q)) t

      by : (x y z : Bool) → eqb n 1 ≡ x → eqb n 2 ≡ y → eqb n 3 ≡ z → T (cell_ok g n S6 f)
      by true y z p q r = is 1 p (and_l (cell_ok g 1 S6 f) _ t)
      by false true z p q r = is 2 q (and_l (cell_ok g 2 S6 f) _ (and_r (cell_ok g 1 S6 f) _ t))
      by false false true p q r = is 3 r (and_r (cell_ok g 2 S6 f) _ (and_r (cell_ok g 1 S6 f) _ t))
      by false false false p q r = empty_ok_lem g n (beyond n p q r) f o

pub row_ok_lem : (g : Given) (n : ℕ) (e : FopEvent) (s : State) → T (unsuspended s n) → T (row_ok g n e) → T (cell_ok g n s (cell78 (table78 e) s))
row_ok_lem g n e s z t =
    let u : T (unheld_ok g n e) = and_r (suspended_ok g (table78 e)) _ t in
    at_serving g n (table78 e) s z (and_l (serving_ok g (table78 e)) _ u)
    (at_suspended_lem g n (table78 e) (and_l (suspended_ok g (table78 e)) _ t) (and_r (serving_ok g (table78 e)) _ u))

pub unheld_ok_lem : (g : Given) (n : ℕ) (e : FopEvent) (s : State) → in_service (suspended_in n) ≡ false → T (unsuspended s n) → T (unheld_ok g n e)
    → T (cell_ok g n s (cell78 (table78 e) s))
unheld_ok_lem g n e s out z t =
    at_serving g n (table78 e) s z (and_l (serving_ok g (table78 e)) _ t)
    (empty_ok_lem g n out (cell78 (table78 e) S6) (and_r (serving_ok g (table78 e)) _ t))

-- The flow law of a cell.
module _ (e : SenderEvent) (f : Fop) (well : Well f) (g : Given) (x : Option FopEvent) (o : List ℕ) (v : ℕ) (asked : Asked e f g o)
    (brings : BringsIn e f g (view (begin x o v f))) where
  abbrev w : Work
  w = begin x o v f

  acts_flow : (xs : List Action) (u : State) → T (acts g f.suspend_state f.state xs u)
      → Flow e f (on_fop (set_state u (perform_all xs w).fop) (perform_all xs w))
  acts_flow xs u t =
      let n : (perform_all xs w).fop.suspend_state ≡ suspend_all xs f.suspend_state = suspend_all_lem xs w in
      let l : Bool = leads g (effective f) xs (effective_of u (suspend_all xs f.suspend_state)) in
      ends e f g (perform_all xs w) u (subst (λ (k : ℕ). T (unsuspended u k)) (sym n) (and_r l _ t))
      (after_all g xs (start g (in_service (effective f))))
      (subst (λ (k : ℕ). T (leads g (effective f) xs (effective_of u k))) (sym n) (and_l l _ t))
      (keeps_all e f g xs (start g (in_service (effective f))) w (begins e f well x o v g asked brings))

  pub cell_flow : (c : Cell) → T (cell_ok g f.suspend_state f.state c) → Flow e f (perform_cell c w)
  unfolding perform_cell
  cell_flow NotApplicable t =
      ends e f g w f.state well.outside (start g (in_service (effective f))) t (begins e f well x o v g asked brings)
  cell_flow (cell xs u) t = acts_flow xs u t
  cell_flow (if_not_suspended xs ys u) t = by (eqb f.suspend_state 0) t
    where
      by : (b : Bool) → T (pick b (acts g f.suspend_state f.state xs u) (acts g f.suspend_state f.state ys u))
          → Flow e f (on_fop (set_state u (pick b (perform_all xs w) (perform_all ys w)).fop) (pick b (perform_all xs w) (perform_all ys w)))
      by true t = acts_flow xs u t
      by false t = acts_flow ys u t
