-- The units of S6 by Suspend_State: from 1 to 3 the state recorded is one of S1 to S3, so any may be held; below and above it is not. And whether
-- there is no unit, by the count sent, then by whether one waits.
use Prim.Native.Nat.{ℕ, zero, suc, ◌≤◌, ◌<◌}
use mathlib.Core.Path.{◌≡◌, refl, sym, ap, ◌∙◌}
use mathlib.Core.Bool.{Bool, true, false, not}
use native.Mathlib.Omega.{arith}
use borrow.Author.Tests.{eq-eqb, ne_eqb}
use Rattle.base.specs.Choice.{pick, both}
use Rattle.fop.specs.Limits.{largest_suspend_state}
use Rattle.fop.specs.Effective.{in_service, suspended_in}
use Rattle.sender_values.specs.declared.Variables.{Variables}
use Rattle.sender_values.specs.declared.Queues.{Queues}
use Rattle.sender_state.specs.State.{is_empty, initial_holds}

-- the state recorded
pub within : (n : ℕ) → 1 ≤ n → n < largest_suspend_state → in_service (suspended_in n) ≡ true
within zero l h = absurd (omega (arith, l))
within (suc zero) l h = refl
within (suc (suc zero)) l h = refl
within (suc (suc (suc zero))) l h = refl
within (suc (suc (suc (suc n)))) l h = absurd (omega (arith, h))

pub below : (n : ℕ) → n < 1 → in_service (suspended_in n) ≡ false
below n h = rw (eq-eqb n 0 (omega (arith, h)))

pub above : (n : ℕ) → largest_suspend_state ≤ n → in_service (suspended_in n) ≡ false
above n h = rw (ne_eqb n 0 (λ e. omega (arith, h, e)), ne_eqb n 1 (λ e. omega (arith, h, e)), ne_eqb n 2 (λ e. omega (arith, h, e)), ne_eqb n 3 (λ e. omega (arith, h, e)))

module _ (v : Variables) (q : Queues) where
  -- the choice that the state recorded makes
  pub chosen : {b : Bool} → in_service (suspended_in v.suspend_state) ≡ b → pick b true (is_empty q) ≡ initial_holds v q
  chosen e = ap (λ (b : Bool). pick b true (is_empty q)) (sym e)

  pub any_units : 1 ≤ v.suspend_state → v.suspend_state < largest_suspend_state → true ≡ initial_holds v q
  any_units l h = chosen (within v.suspend_state l h)

  pub no_units_below : {r : Bool} → r ≡ is_empty q → v.suspend_state < 1 → r ≡ initial_holds v q
  no_units_below e h = e ∙ chosen (below v.suspend_state h)

  pub no_units_above : {r : Bool} → r ≡ is_empty q → largest_suspend_state ≤ v.suspend_state → r ≡ initial_holds v q
  no_units_above e h = e ∙ chosen (above v.suspend_state h)

-- no unit: by the count sent, then by whether one waits
module _ (q : Queues) where
  pub sent_some : (q.sent ≡ 0 → ⊥) → false ≡ is_empty q
  sent_some h = sym (ap (λ (b : Bool). both b (not q.waiting)) (ne_eqb q.sent 0 h))

  pub sent_none : q.sent ≡ 0 → not q.waiting ≡ is_empty q
  sent_none h = sym (ap (λ (b : Bool). both b (not q.waiting)) (eq-eqb q.sent 0 h))
