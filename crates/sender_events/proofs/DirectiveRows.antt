-- The event of a directive by the directive's number: with the number in hand the table's list of conditions computes, and what is left of it are the
-- value's limit, BC_Out_Flag and Suspend_State.
use mathlib.Core.Path.{◌≡◌, refl, sym, ap, subst, ◌∙◌}
use mathlib.Core.Bool.{Bool, true, false, not, ◌&&◌}
use Prim.Native.Nat.{ℕ, ◌<◌, ◌≤◌}
use native.Mathlib.Omega.{arith}
use lib.Dec.{leb, eqb}
use borrow.Author.Tests.{lt-leb, le-leb, eqb-true, eqb-false}
use Rattle.base.specs.Choice.{pick, must}
use Rattle.fop.specs.declared.Event.{Event as FopEvent}
use Rattle.fop.specs.declared.Event.TheVariants.{E23, E24, E27, E28, E29, E35, E36, E37, E38, E39, E40}
use Rattle.fop.specs.Events.{directive_event}
use Rattle.fop.specs.Limits.{largest_k, largest_transmission_limit, largest_timer, largest_number, largest_timeout_type}
use Rattle.sender_values.specs.declared.SenderState.{SenderState}
use Rattle.sender_values.specs.Start.{begun}
use Rattle.sender_events.specs.Events.{event_of_directive}
use Rattle.sender_events.specs.Rows.{initiate, resume, set_number, set_limit}

-- what holds of n and of the numbers above it holds of each number from n on
from : (P : ℕ → Type 0) (n d : ℕ) → P n → (n < d → P d) → n ≤ d → P d
from P n d p above l = go (eqb d n) refl
  where
    go : (b : Bool) → eqb d n ≡ b → P d
    go true e = subst P (sym (eqb-true d n e)) p
    go false e = above (omega (arith, eqb-false d n e))

-- what holds of n holds of a number from n to n
only : (P : ℕ → Type 0) (n d : ℕ) → P n → n ≤ d → d ≤ n → P d
only P n d p l h =
    let e : n ≡ d = omega arith in
    subst P e p

-- a value within its limit, else E40
within : (b : Bool) (x : FopEvent) → must b E40 x ≡ pick (not b) E40 x
within true x = refl
within false x = refl

-- two limits
within_both : (a b : Bool) (x : FopEvent) → must a E40 (must b E40 x) ≡ pick (not (a && b)) E40 x
within_both true b x = within b x
within_both false b x = refl

module _ (d v : ℕ) (s : SenderState) where
  -- Initiate AD service without CLCW check (1)
  pub initiated : d ≡ 1 → E23 ≡ event_of_directive d v s
  unfolding event_of_directive directive_event
  initiated e = rw e

  -- with CLCW check (2)
  pub initiated_checked : d ≡ 2 → E24 ≡ event_of_directive d v s
  unfolding event_of_directive directive_event
  initiated_checked e = rw e

  -- with Unlock (3), with Set V(R) (4)
  pub initiated_by_bc : {r : FopEvent} → r ≡ initiate d v s.variables.bc_out → 3 ≤ d → d < 5 → r ≡ event_of_directive d v s
  unfolding event_of_directive directive_event begun initiate
  initiated_by_bc e l h =
      let ready : Bool = s.variables.bc_out in
      let P : ℕ → Type 0 = λ n. initiate n v ready ≡ event_of_directive n v s in
      e ∙ from P 3 d refl (λ g. only P 4 d (within (leb v largest_number) (pick ready E27 E28)) g (omega arith)) l

  -- Terminate AD service (5)
  pub terminated : d ≡ 5 → E29 ≡ event_of_directive d v s
  unfolding event_of_directive directive_event
  terminated e = rw e

  -- Resume AD service (6)
  pub resumed : {r : FopEvent} → r ≡ resume s.variables.suspend_state → d ≡ 6 → r ≡ event_of_directive d v s
  unfolding event_of_directive directive_event begun resume
  resumed e k = e ∙ rw k refl

  -- Set V(S) (7), Set K (8)
  pub number_set : {r : FopEvent} → r ≡ set_number d v → 7 ≤ d → d < 9 → r ≡ event_of_directive d v s
  unfolding event_of_directive directive_event set_number
  number_set e l h =
      let P : ℕ → Type 0 = λ n. set_number n v ≡ event_of_directive n v s in
      e ∙ from P 7 d (within (leb v largest_number) E35) (λ g. only P 8 d (within_both (leb 1 v) (leb v largest_k) E36) g (omega arith)) l

  -- Set timer (9), Set transmission limit (10), Set Timeout_Type (11)
  pub limit_set : {r : FopEvent} → r ≡ set_limit d v → v < 65536 → 9 ≤ d → d < 12 → r ≡ event_of_directive d v s
  unfolding event_of_directive directive_event set_limit
  limit_set e t l h =
      let P : ℕ → Type 0 = λ n. set_limit n v ≡ event_of_directive n v s in
      let timer : P 9 =
      ap (λ b. must (leb 1 v) E40 (must b E40 E37)) (sym (le-leb v largest_timer (omega arith))) ∙ within_both (leb 1 v) (leb v largest_timer) E37 in
      let limit : P 10 = within_both (leb 1 v) (leb v largest_transmission_limit) E38 in
      e ∙ from P 9 d timer (λ g. from P 10 d limit (λ k. only P 11 d (within (leb v largest_timeout_type) E39) k (omega arith)) g) l

  -- no directive has the number 0, nor one above 11
  pub no_directive : d < 1 → E40 ≡ event_of_directive d v s
  unfolding event_of_directive directive_event
  no_directive h = rw (lt-leb 1 d h)

  pub no_directive_above : 12 ≤ d → E40 ≡ event_of_directive d v s
  unfolding event_of_directive directive_event
  no_directive_above h = rw (le-leb 1 d (omega arith), lt-leb d 11 h)
