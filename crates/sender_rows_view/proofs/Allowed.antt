-- Every cell of table 7-8 is allowed, in each state and at each Suspend_State that a sender can have: the mode in which its event begins leads
-- through its actions to one that its next state asks.
use Prim.Native.Nat.{ℕ, zero, suc, ◌≤◌}
use mathlib.Core.Path.{◌≡◌, refl, sym, subst}
use mathlib.Core.Bool.{Bool, true, false}
use mathlib.Core.List.{List}
use native.Mathlib.Omega.{arith}
use borrow.Author.Tests.{eq-eqb}
use Rattle.base.specs.Choice.{both}
use Rattle.base.proofs.Tests.{both_left, both_right}
use Rattle.fop.specs.Limits.{largest_suspend_state}
use Rattle.fop.specs.declared.Event.{Event as FopEvent}
use Rattle.fop.specs.declared.Event.TheVariants.{E1, E2, E3, E4, E5, E6, E7, E8, E9, E10, E11, E12, E13, E14, E15, E16, E17, E18, E19, E20, E21, E22, E23, E24, E25, E26, E27, E28, E29, E30, E31, E32, E33, E34}
use Rattle.fop.specs.Table.{table78, cell78}
use Rattle.fop.specs.declared.Event.TheVariants.{E35, E36, E37, E38, E39, E40, E41, E42, E43, E44, E45, E46, E101, E102, E103, E104}
use Rattle.fop.specs.declared.State.{State}
use Rattle.fop.specs.declared.State.TheVariants as state
use Rattle.sender_values.specs.declared.SenderState.{SenderState}
use Rattle.sender_rows_view.specs.State.{initial}
use Rattle.sender_rows_view.proofs.Rows.{Brings, nothing, acknowledging, again, offering, numbering, widening, clocking, limiting, timing, expiring, expiring_again, resuming, brings, Needed, Meets}
use Rattle.sender_rows_view.proofs.Mode.{same, implied, meets_at, after, after_all, allows}

-- a fact in each state
pub in_states : (P : State → Type 0) → P state.S1 → P state.S2 → P state.S3 → P state.S4 → P state.S5 → P state.S6 → (x : State) → P x
in_states P a b c d e f state.S1 = a
in_states P a b c d e f state.S2 = b
in_states P a b c d e f state.S3 = c
in_states P a b c d e f state.S4 = d
in_states P a b c d e f state.S5 = e
in_states P a b c d e f state.S6 = f

-- a test in every state
abbrev pub every : (State → Bool) → Bool
every p = both (p state.S1) (both (p state.S2) (both (p state.S3) (both (p state.S4) (both (p state.S5) (p state.S6)))))

pub every_in : (p : State → Bool) → every p ≡ true → (x : State) → p x ≡ true
every_in p t =
    let b = both_right (p state.S1) _ t in
    let c = both_right (p state.S2) _ b in
    let d = both_right (p state.S3) _ c in
    let e = both_right (p state.S4) _ d in
    in_states (λ x. p x ≡ true) (both_left (p state.S1) _ t) (both_left (p state.S2) _ b) (both_left (p state.S3) _ c) (both_left (p state.S4) _ d)
    (both_left (p state.S5) _ e) (both_right (p state.S5) _ e)

-- a test in every state, and in Initial at every Suspend_State
abbrev every_at : (State → ℕ → Bool) → Bool
every_at p =
    both (every (λ x. p x 0)) (both (p state.S6 1) (both (p state.S6 2) (both (p state.S6 3) (p state.S6 4))))

every_at_lem : (p : State → ℕ → Bool) → every_at p ≡ true → (x : State) (n : ℕ) → n ≤ largest_suspend_state → (initial x ≡ false → n ≡ 0) → p x n ≡ true
every_at_lem p t x n most out =
    let first = every_in (λ y. p y 0) (both_left _ _ t) in
    let outside : (y : State) → (initial y ≡ false → n ≡ 0) → initial y ≡ false → p y n ≡ true = λ y o i.
    subst (λ (k : ℕ). p y k ≡ true) (sym (o i)) (first y) in
    in_states (λ y. (initial y ≡ false → n ≡ 0) → p y n ≡ true) (λ o. outside state.S1 o refl) (λ o. outside state.S2 o refl) (λ o. outside state.S3 o refl)
    (λ o. outside state.S4 o refl) (λ o. outside state.S5 o refl) (λ o. suspended n most) x out where
      rest : both (p state.S6 1) (both (p state.S6 2) (both (p state.S6 3) (p state.S6 4))) ≡ true
      rest = both_right (every (λ y. p y 0)) _ t

      suspended : (k : ℕ) → k ≤ largest_suspend_state → p state.S6 k ≡ true
      suspended zero h = every_in (λ y. p y 0) (both_left _ _ t) state.S6
      suspended (suc zero) h = both_left _ _ rest
      suspended (suc (suc zero)) h = both_left _ _ (both_right (p state.S6 1) _ rest)
      suspended (suc (suc (suc zero))) h = both_left _ _ (both_right (p state.S6 2) _ (both_right (p state.S6 1) _ rest))
      suspended (suc (suc (suc (suc zero)))) h = both_right (p state.S6 3) _ (both_right (p state.S6 2) _ (both_right (p state.S6 1) _ rest))
      suspended (suc (suc (suc (suc (suc k))))) h = absurd (omega (arith, h))

-- an event that Resume AD Service is meets one Suspend_State only
abbrev cell_allowed : FopEvent → State → ℕ → Bool
cell_allowed e x n = implied (meets_at (brings e) n) (allows (brings e) x n (cell78 (table78 e) x))

meets_at_lem : (b : Brings) (o : List ℕ) (n : ℕ) (s : SenderState) → Needed b o n s → meets_at b s.variables.suspend_state ≡ true
meets_at_lem nothing o n s h = refl
meets_at_lem acknowledging o n s h = refl
meets_at_lem again o n s h = refl
meets_at_lem offering o n s h = refl
meets_at_lem numbering o n s h = refl
meets_at_lem widening o n s h = refl
meets_at_lem clocking o n s h = refl
meets_at_lem limiting o n s h = refl
meets_at_lem timing o n s h = refl
meets_at_lem expiring o n s h = refl
meets_at_lem expiring_again o n s h = refl
meets_at_lem (resuming k) o n s h = eq-eqb s.variables.suspend_state k h

-- the rows
rows : (e : FopEvent) → every_at (cell_allowed e) ≡ true
unfolding table78 allows after after_all same
rows E1 = refl
rows E2 = refl
rows E3 = refl
rows E4 = refl
rows E5 = refl
rows E6 = refl
rows E7 = refl
rows E8 = refl
rows E9 = refl
rows E10 = refl
rows E11 = refl
rows E12 = refl
rows E13 = refl
rows E14 = refl
rows E15 = refl
rows E16 = refl
rows E17 = refl
rows E18 = refl
rows E19 = refl
rows E20 = refl
rows E21 = refl
rows E22 = refl
rows E23 = refl
rows E24 = refl
rows E25 = refl
rows E26 = refl
rows E27 = refl
rows E28 = refl
rows E29 = refl
rows E30 = refl
rows E31 = refl
rows E32 = refl
rows E33 = refl
rows E34 = refl
rows E35 = refl
rows E36 = refl
rows E37 = refl
rows E38 = refl
rows E39 = refl
rows E40 = refl
rows E41 = refl
rows E42 = refl
rows E43 = refl
rows E44 = refl
rows E45 = refl
rows E46 = refl
rows E101 = refl
rows E102 = refl
rows E103 = refl
rows E104 = refl

pub allowed : (e : FopEvent) (o : List ℕ) (n : ℕ) (s : SenderState) → Meets e o n s → (x : State)
    → s.variables.suspend_state ≤ largest_suspend_state → (initial x ≡ false → s.variables.suspend_state ≡ 0)
    → allows (brings e) x s.variables.suspend_state (cell78 (table78 e) x) ≡ true
allowed e o n s h x most out =
    let k = s.variables.suspend_state in
    subst (λ (b : Bool). implied b (allows (brings e) x k (cell78 (table78 e) x)) ≡ true) (meets_at_lem (brings e) o n s h)
    (every_at_lem (cell_allowed e) (rows e) x k most out)
