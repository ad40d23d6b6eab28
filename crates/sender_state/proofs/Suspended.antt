-- Suspended states that were kept (document 02, order 9), by the test's part that decides. No state, so refused with 12: Suspend_State above its
-- largest, or not 0 outside S6; in S6, a unit sent or waiting at Suspend_State 4, or the timer running. Computed: a suspension from S2 with units, one
-- marked and one waiting, passes; so does what a lower-layer reject leaves of it, and a suspension from S4.
use Rattle.std.specs.Prelude.{None}
use Prim.Native.Nat.{ℕ, ◌-◌, ◌<◌}
use mathlib.Core.Path.{◌≡◌, refl, sym, ap, subst, ◌∙◌}
use mathlib.Core.Logic.{◌≢◌}
use mathlib.Core.Bool.{Bool, true, false, not}
use mathlib.Core.List.{◌∷◌}
use native.Mathlib.Omega.{arith}
use borrow.Author.Tests.{leb-true, eqb-true}
use lib.Dec.{leb}
use lib.ListN.{replicate}
use Rattle.base.specs.Modulo.{offset}
use Rattle.base.proofs.Tests.{both_left as left, both_right as right, apart, no, not_so}
use Rattle.fop.specs.Limits.{largest_k, largest_suspend_state}
use Rattle.fop.specs.Effective.{in_service, suspended_in}
use Rattle.fop.specs.declared.State.{State}
use Rattle.fop.specs.declared.State.TheVariants as state
use Rattle.store.specs.Places.{places}
use Rattle.sender_values.specs.declared.Queues.{Queues}
use Rattle.sender_values.specs.declared.SenderState.{SenderState}
use Rattle.sender_values.specs.declared.Variables.{Variables}
use Rattle.sender_table.specs.Rows.{is_frame}
use Rattle.sender_state.specs.State.{settings_hold, numbers_hold, is_empty, initial_holds, state_holds, well_formed}

module _ (s : SenderState) where
  abbrev v : Variables
  v = s.variables

  abbrev q : Queues
  q = s.queues

  -- the parts of the test
  numbers_of : well_formed s ≡ true → numbers_hold v q ≡ true
  unfolding well_formed
  numbers_of t = left _ _ (right (settings_hold s.settings) _ t)

  state_of : well_formed s ≡ true → state_holds s.state v q ≡ true
  unfolding well_formed
  state_of t = left _ _ (right (numbers_hold v q) _ (right (settings_hold s.settings) _ t))

  in_initial : s.state ≡ state.S6 → well_formed s ≡ true → state_holds state.S6 v q ≡ true
  in_initial i t = subst (λ (x : State). state_holds x v q ≡ true) i (state_of t)

  pub suspend_beyond : largest_suspend_state < v.suspend_state → well_formed s ≡ false
  suspend_beyond h =
      not_so (well_formed s)
      (λ t.
      let a = right (leb q.sent largest_k) _ (numbers_of t) in
      let b = right (leb q.sent (offset v.vs v.nnr)) _ a in
      let c = right (leb q.marked q.sent) _ b in
      omega (arith, h, leb-true v.suspend_state largest_suspend_state (right (leb 1 v.transmission_count) _ c)))

  pub suspended_outside : s.state ≢ state.S6 → v.suspend_state ≢ 0 → well_formed s ≡ false
  suspended_outside o n = not_so (well_formed s) (λ t. by s.state o (state_of t)) where
    by : (x : State) → x ≢ state.S6 → state_holds x v q ≡ true → ⊥
    by state.S1 i t = n (eqb-true v.suspend_state 0 (left _ _ t))
    by state.S2 i t = n (eqb-true v.suspend_state 0 (left _ _ t))
    by state.S3 i t = n (eqb-true v.suspend_state 0 (left _ _ t))
    by state.S4 i t = n (eqb-true v.suspend_state 0 (left _ _ t))
    by state.S5 i t = n (eqb-true v.suspend_state 0 (left _ _ t))
    by state.S6 i t = i refl

  pub units_in_s4 : s.state ≡ state.S6 → v.suspend_state ≡ largest_suspend_state → is_empty q ≡ false → well_formed s ≡ false
  units_in_s4 i n e =
      not_so (well_formed s)
      (λ t.
      let recorded : in_service (suspended_in v.suspend_state) ≡ false = ap (λ (k : ℕ). in_service (suspended_in k)) n in
      apart (sym e ∙ sym (no (in_service (suspended_in v.suspend_state)) true (is_empty q) recorded) ∙ left (initial_holds v q) _ (in_initial i t)))

  pub timer_runs : s.state ≡ state.S6 → v.timer ≢ 0 → well_formed s ≡ false
  timer_runs i n =
      not_so (well_formed s)
      (λ t. n (eqb-true v.timer 0 (right (not (is_frame q.control)) _ (right (initial_holds v q) _ (in_initial i t)))))

-- Suspended with Timeout_Type 1, by Suspend_State and the units: those sent, marked and waiting.
abbrev suspended : ℕ → ℕ → ℕ → Bool → SenderState
suspended n sent marked waiting = record {
  state = state.S6;
  settings = record { k = 3; t1_initial = 50; transmission_limit = 2; timeout_type = 1; spacecraft = 5; channel = 9 };
  variables = record {
    vs = 1;
    nnr = 254;
    timer = 0;
    transmission_count = 2;
    ad_out = true;
    bc_out = true;
    bd_out = true;
    suspend_state = n;
  };
  queues = record { sent = sent; marked = marked; waiting = waiting; control = None; control_marked = false };
  lengths = 10 ∷ 20 ∷ 30 ∷ 40 ∷ replicate (places - 4) 0;
}

pub suspended_passes : well_formed (suspended 2 3 1 true) ≡ true
unfolding well_formed
suspended_passes = refl

pub rejected_passes : well_formed (suspended 2 0 0 false) ≡ true
unfolding well_formed
rejected_passes = refl

pub s4_passes : well_formed (suspended largest_suspend_state 0 0 false) ≡ true
unfolding well_formed
s4_passes = refl
