-- The units that table 7-9 accepts: an AD frame's at E1 in Open, a BD frame's at E6 in every state, and no other. The cells are computed, one by
-- one; the rest follows by cases.
use mathlib.Core.Path.{◌≡◌, refl, sym, ap, ap₂, ◌∙◌}
use mathlib.Core.Bool.{false}
use mathlib.Core.Logic.{◌⊎◌, inl, inr, ⊎_elim}
use Prim.Native.Nat.{ℕ}
use native.Mathlib.Omega.{arith}
use lib.Dec.{eqb}
use Rattle.farm.specs.declared.State.{State}
use Rattle.farm.specs.declared.State.TheVariants.{Open, Wait, Lockout}
use Rattle.farm.specs.declared.Event.{Event}
use Rattle.farm.specs.declared.Event.TheVariants.{E1, E2, E3, E4, E5, E6, E7, E8, E9, E10, E11}
use Rattle.farm.specs.declared.AcceptedUnit.{AcceptedUnit}
use Rattle.farm.specs.declared.AcceptedUnit.TheVariants.{Ad, Bd}
use Rattle.std.specs.Prelude.{Option, None, Some}
use Rattle.farm.specs.Table.{event_number, table, accepts, unit_of}
use Rattle.farm.proofs.Cells.{by_state, by_event_lem, differ}

abbrev Cases : Event → State → Type 0
Cases e s = (unit_of e s ≡ None) ⊎ (((e ≡ E1) × (s ≡ Open) × (unit_of e s ≡ Some Ad)) ⊎ ((e ≡ E6) × (unit_of e s ≡ Some Bd)))

nowhere : (e : Event) → unit_of e Open ≡ None → unit_of e Wait ≡ None → unit_of e Lockout ≡ None → (s : State) → Cases e s
nowhere e a b c = by_state (Cases e) (inl a) (inl b) (inl c)

pub unit_cases : (e : Event) (s : State) → Cases e s
unfolding accepts table
unit_cases =
    by_event_lem (λ (e : Event). (s : State) → Cases e s)
    (by_state (Cases E1) (inr (inl (refl, refl, refl))) (inl refl) (inl refl))
    (nowhere E2 refl refl refl)
    (nowhere E3 refl refl refl)
    (nowhere E4 refl refl refl)
    (nowhere E5 refl refl refl)
    (by_state (Cases E6) (inr (inr (refl, refl))) (inr (inr (refl, refl))) (inr (inr (refl, refl))))
    (nowhere E7 refl refl refl)
    (nowhere E8 refl refl refl)
    (nowhere E9 refl refl refl)
    (nowhere E10 refl refl refl)
    (nowhere E11 refl refl refl)

-- events other than E1 and E6 accept none
pub no_unit_lem : (e : Event) (s : State) → eqb (event_number e) 1 ≡ false → eqb (event_number e) 6 ≡ false → unit_of e s ≡ None
no_unit_lem e s a b = ⊎_elim (λ h. h) (⊎_elim (λ h. differ e E1 a h.0) (λ h. differ e E6 b h.0)) (unit_cases e s)

-- an AD unit is E1's
pub ad_unit : (e : Event) (s : State) → unit_of e s ≡ Some Ad → e ≡ E1
ad_unit e s u = ⊎_elim (λ h. none (sym h ∙ u)) (⊎_elim (λ h. h.0) (λ h. bd (sym h.1 ∙ u))) (unit_cases e s)
  where
    none : {P : Type 0} → None ≡ Some Ad → P
    none h =
        let z : ◌≡◌ {A = ℕ} 0 1 = cc in
        absurd (omega arith)

    bd : {P : Type 0} → Some Bd ≡ Some Ad → P
    bd h =
        let z : ◌≡◌ {A = ℕ} 0 1 = cc in
        absurd (omega arith)

-- the unit of an event that was told, in a state that was told
pub unit_told_lem : (e e' : Event) (s s' : State) (u : Option AcceptedUnit) → e ≡ e' → s ≡ s' → u ≡ unit_of e' s' → u ≡ unit_of e s
unit_told_lem e e' s s' u p q h = h ∙ sym (ap₂ unit_of p q)

-- the unit of an event that was told, where no state tells it apart
pub unit_anywhere : (e e' : Event) (s : State) (u : Option AcceptedUnit) → e ≡ e' → u ≡ unit_of e' Open → u ≡ unit_of e' Wait → u ≡ unit_of e' Lockout
    → u ≡ unit_of e s
unit_anywhere e e' s u p a b c = by_state (λ (t : State). u ≡ unit_of e' t) a b c s ∙ ap (λ (x : Event). unit_of x s) (sym p)

pub ruleset units = (unit_told_lem, unit_anywhere)
