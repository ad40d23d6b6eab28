-- An event's name, and a row field by field.
use mathlib.Core.Path.{◌≡◌, refl, sym, ap, ◌∙◌}
use mathlib.Core.List.{List, [], ◌∷◌, ◌++◌, append_assoc}
use Prim.Native.Nat.{ℕ, ◌≤◌}
use native.Mathlib.Omega.{arith}
use Rattle.text.specs.Decimal.{decimal, digits_below}
use Rattle.text.specs.Fields.{tab, newline}
use Rattle.farm.specs.Table.{event_number}
use Rattle.farm.specs.declared.Event.{Event}
use Rattle.farm.specs.declared.Event.TheVariants.{E1, E2, E3, E4, E5, E6, E7, E8, E9, E10, E11}
use Rattle.program_rows.specs.Rows.{event_text, joined}

-- an event's name is E and its number
pub event_named : (e : Event) → event_text e ≡ 0x45 ∷ decimal (event_number e)
unfolding digits_below
event_named E1 = refl
event_named E2 = refl
event_named E3 = refl
event_named E4 = refl
event_named E5 = refl
event_named E6 = refl
event_named E7 = refl
event_named E8 = refl
event_named E9 = refl
event_named E10 = refl
event_named E11 = refl

-- and its number is one of the eleven
pub event_few : (e : Event) → event_number e ≤ 11
event_few E1 = omega arith
event_few E2 = omega arith
event_few E3 = omega arith
event_few E4 = omega arith
event_few E5 = omega arith
event_few E6 = omega arith
event_few E7 = omega arith
event_few E8 = omega arith
event_few E9 = omega arith
event_few E10 = omega arith
event_few E11 = omega arith

pub event_told : (e : Event) {r : ℕ} → r ≡ event_number e → (event_text e ≡ 0x45 ∷ decimal r) × (r ≤ 11)
event_told e p = (event_named e ∙ ap (λ (x : ℕ). 0x45 ∷ decimal x) (sym p), omega (arith, event_few e))

-- a row put together part by part is its fields joined
pub row_joined : (number state vr counter : List ℕ) (lockout wait retransmit : ℕ)
    → ((((((((0x45 ∷ []) ++ number) ++ (tab ∷ [])) ++ state) ++ (tab ∷ [])) ++ vr) ++ (tab ∷ lockout ∷ wait ∷ retransmit ∷ tab ∷ [])) ++ counter) ++ (newline ∷ [])
    ≡ joined ((0x45 ∷ number) ∷ state ∷ vr ∷ (lockout ∷ wait ∷ retransmit ∷ []) ∷ counter ∷ [])
row_joined number state vr counter lockout wait retransmit = simp append_assoc
