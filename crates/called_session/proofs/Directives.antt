-- A directive's number and value narrowed on the way to the sender (crate pondreszi_sender): the sender's step is the same. A directive that
-- is invalid stays invalid; and the rows of a directive that has no use for its value never look at it.
use Rattle.std.specs.Prelude.{Some}
use Prim.Native.Nat.{ℕ, ◌<◌}
use mathlib.Core.Path.{◌≡◌, refl, sym, ap, ◌∙◌}
use mathlib.Core.Bool.{Bool, true, false, ◌&&◌}
use mathlib.Core.List.{List}
use native.Mathlib.Omega.{arith}
use borrow.Author.Tests.{leb-true, leb-false, lt-leb}
use lib.Dec.{leb, eqb}
use lib.ListN.{length}
use Rattle.base.specs.Choice.{pick, must}
use Rattle.base.proofs.Tests.{yes}
use Rattle.fop.specs.Limits.{largest_k, largest_timer, largest_transmission_limit, largest_number, largest_timeout_type}
use Rattle.fop.specs.declared.State.{State}
use Rattle.fop.specs.declared.State.TheVariants as state
use Rattle.fop.specs.declared.Event.{Event as FopEvent}
use Rattle.fop.specs.declared.Event.TheVariants.{E23, E24, E25, E26, E29, E30, E31, E32, E33, E34}
use Rattle.fop.specs.Table.{event_number, table78, cell78}
use Rattle.fop.specs.Events.{valid_directive, directive_event}
use Rattle.sender_values.specs.declared.SenderState.{SenderState}
use Rattle.sender_values.specs.declared.Work.{Work}
use Rattle.sender_values.specs.Start.{begun}
use Rattle.sender_table.specs.Rows.{done, done_all, done_cell, row_of, row_if}
use Rattle.sender_events.specs.Events.{event_of_directive}
use Rattle.fop.proofs.Choices.{by_pick, upto, ◌also◌}
use Rattle.sender.specs.Answers.{Step, refused_step}
use Rattle.sender_frames.specs.Limits.{need_of}
use Rattle.sender.specs.Events.{served_by, served, directive_of}
use Rattle.our_session.proofs.Meets.{invalid_is_40}
use Rattle.pondreszi_numbers.specs.Numbers.{largest_octet, largest_pair, narrow}
use Rattle.pondreszi_sender.specs.Senders.{uses_value, narrow_number, narrow_value}

-- a test that fails makes both fail
and_false : (a b : Bool) → b ≡ false → (a && b) ≡ false
and_false true b e = e
and_false false b e = refl

-- a number beyond 11 is invalid
beyond : (d v : ℕ) → 11 < d → valid_directive d v ≡ false
beyond d v h = first_fails _ _ (and_false (leb 1 d) (leb d 11) (lt-leb d 11 h)) where
  first_fails : (a b : Bool) → a ≡ false → (a && b) ≡ false
  first_fails a b e = ap (λ (x : Bool). x && b) e

-- a value beyond a limit, which is from 1 on
over : (v most : ℕ) → most < v → (leb 1 v && leb v most) ≡ false
over v most h = and_false (leb 1 v) (leb v most) (lt-leb v most h)

-- what holds in each state
by_state : (P : State → Type 0) → P state.S1 → P state.S2 → P state.S3 → P state.S4 → P state.S5 → P state.S6 → (s : State) → P s
by_state P a b c d e f state.S1 = a
by_state P a b c d e f state.S2 = b
by_state P a b c d e f state.S3 = c
by_state P a b c d e f state.S4 = d
by_state P a b c d e f state.S5 = e
by_state P a b c d e f state.S6 = f

-- rows that look at no value
module _ (v : ℕ) (w : Work) where
  abbrev Alike : FopEvent → State → Type 0
  Alike e s = done_cell (cell78 (table78 e) s) 0 w ≡ done_cell (cell78 (table78 e) s) v w

  cells : (s : State)
      → Alike E23 s × Alike E24 s × Alike E25 s × Alike E26 s × Alike E29 s × Alike E30 s × Alike E31 s × Alike E32 s × Alike E33 s × Alike E34 s
  unfolding table78 done_cell done_all done
  cells s = (
    by_state (Alike E23) refl refl refl refl refl refl s,
    by_state (Alike E24) refl refl refl refl refl refl s,
    by_state (Alike E25) refl refl refl refl refl refl s,
    by_state (Alike E26) refl refl refl refl refl refl s,
    by_state (Alike E29) refl refl refl refl refl refl s,
    by_state (Alike E30) refl refl refl refl refl refl s,
    by_state (Alike E31) refl refl refl refl refl refl s,
    by_state (Alike E32) refl refl refl refl refl refl s,
    by_state (Alike E33) refl refl refl refl refl refl s,
    by_state (Alike E34) refl refl refl refl refl refl s,
  )

module _ (s : SenderState) (store output : List ℕ) where
  abbrev step : ℕ → ℕ → Step
  step d v = directive_of d v s store output

  -- two invalid directives are one
  refused_12 : (d v : ℕ) → valid_directive d v ≡ false → step d v ≡ refused_step 12 s store output
  unfolding directive_of event_of_directive
  refused_12 d v t = yes _ _ _ (ap (λ (e : FopEvent). eqb (event_number e) 40) (invalid_is_40 d v s t))

  both_invalid : (d v c u : ℕ) → valid_directive d v ≡ false → valid_directive c u ≡ false → step d v ≡ step c u
  both_invalid d v c u p q = refused_12 d v p ∙ sym (refused_12 c u q)

  -- by its event, with the store judged by K
  abbrev step_at : FopEvent → ℕ → Step
  step_at e v = pick (eqb (event_number e) 40) (refused_step 12 s store output) (served s.settings.k (Some e) v s s store output)

  module _ (v : ℕ) where
    abbrev Unread : FopEvent → Type 0
    Unread e = step_at e 0 ≡ step_at e v

    unread : (e : FopEvent) → Alike v (begun s) e (begun s).state → Unread e
    unfolding served row_if row_of
    unread e h =
        ap (λ (w : Work). pick (eqb (event_number e) 40) (refused_step 12 s store output)
        (must (leb (need_of s) (length store)) (refused_step 11 s store output) (served_by (Some e) s w store output)))
        h

    module _ (large : largest_pair < v) where
      abbrev Narrowed : ℕ → Type 0
      Narrowed d = step (pick (uses_value d) 0 (narrow largest_octet 0 d)) 0 ≡ step d v

      within_11 : (d : ℕ) → d < 12 → Narrowed d
      unfolding directive_of event_of_directive directive_event begun
      within_11 =
          let c = cells v (begun s) s.state in
          let ss : ℕ = s.variables.suspend_state in
          upto Narrowed 12
          (both_invalid 0 0 0 v refl refl
          also unread E23 c.0
          also unread E24 c.1
          also by_pick Unread s.variables.bc_out {x = E25} {y = E26} (λ t. unread E25 c.2) (λ t. unread E26 c.3)
          also both_invalid 0 0 4 v refl (lt-leb v largest_number (omega (arith, large)))
          also unread E29 c.4
          also by_pick Unread (eqb ss 0) {x = E30} (λ t. unread E30 c.5)
          (λ t. by_pick Unread (eqb ss 1) {x = E31} (λ t. unread E31 c.6)
          (λ t. by_pick Unread (eqb ss 2) {x = E32} (λ t. unread E32 c.7)
          (λ t. by_pick Unread (eqb ss 3) {x = E33} {y = E34} (λ t. unread E33 c.8) (λ t. unread E34 c.9))))
          also both_invalid 0 0 7 v refl (lt-leb v largest_number (omega (arith, large)))
          also both_invalid 0 0 8 v refl (over v largest_k (omega (arith, large)))
          also both_invalid 0 0 9 v refl (over v largest_timer large)
          also both_invalid 0 0 10 v refl (over v largest_transmission_limit (omega (arith, large)))
          also both_invalid 0 0 11 v refl (lt-leb v largest_timeout_type (omega (arith, large)))
          also tt)

      -- whatever the number becomes, it is invalid where it was
      past_11 : (d : ℕ) → 11 < d → (a b : Bool) → step (pick a 0 (pick b d 0)) 0 ≡ step d v
      past_11 d h true b = both_invalid 0 0 d v refl (beyond d v h)
      past_11 d h false true = both_invalid d 0 d v (beyond d 0 h) (beyond d v h)
      past_11 d h false false = both_invalid 0 0 d v refl (beyond d v h)

      large_value : (d : ℕ) → Narrowed d
      large_value d = by (leb d 11) refl where
        by : (b : Bool) → leb d 11 ≡ b → Narrowed d
        by true e = within_11 d (omega (arith, leb-true d 11 e))
        by false e = past_11 d (leb-false d 11 e) (uses_value d) (leb d largest_octet)

    small_value : (d : ℕ) → step (narrow largest_octet 0 d) v ≡ step d v
    small_value d = by (leb d largest_octet) refl where
      by : (b : Bool) → leb d largest_octet ≡ b → step (pick b d 0) v ≡ step d v
      by true e = refl
      by false e = both_invalid 0 v d v refl (beyond d v (omega (arith, leb-false d largest_octet e)))

  -- the step of the narrowed directive
  pub narrowed : (d v : ℕ) → step (narrow_number d v) (narrow_value v) ≡ step d v
  narrowed d v = by (leb v largest_pair) refl where
    by : (b : Bool) → leb v largest_pair ≡ b
        → step (must b (pick (uses_value d) 0 (narrow largest_octet 0 d)) (narrow largest_octet 0 d)) (pick b v 0) ≡ step d v
    by true e = small_value v d
    by false e = large_value v (leb-false v largest_pair e) d
