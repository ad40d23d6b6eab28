-- A text's fields by its first tab.
use mathlib.Core.Path.{◌≡◌, refl, ap}
use mathlib.Core.Bool.{Bool, true, false}
use mathlib.Core.List.{List, [], ◌∷◌}
use Prim.Native.Nat.{ℕ, suc, ◌+◌, ◌-◌, ◌<◌, ◌≤◌}
use native.Mathlib.Numerals.{add-one}
use native.Mathlib.Omega.{arith}
use lib.Dec.{eqb}
use lib.ListN.{length, take, drop}
use Rattle.base.specs.Choice.{pick}
use Rattle.base.proofs.Lists.{rest}
use Rattle.text.specs.Fields.{tab, before, fields_of}
use Rattle.text.specs.Cut.{cut_of}

-- a tab stands there
pub fields_cut : (s : List ℕ) → cut_of s < length s → fields_of s ≡ take (cut_of s) s ∷ fields_of (drop (cut_of s + 1) s)
unfolding cut_of fields_of
fields_cut s h = rw add-one (go s h)
  where
    go : (s : List ℕ) → cut_of s < length s → fields_of s ≡ take (cut_of s) s ∷ fields_of (drop (suc (cut_of s)) s)
    go [] h = absurd (omega arith)
    go (c ∷ s) h = step (eqb c tab) h (go s)
      where
        step : (b : Bool) → pick b 0 (suc (cut_of s)) < suc (length s)
            → (cut_of s < length s → fields_of s ≡ take (cut_of s) s ∷ fields_of (drop (suc (cut_of s)) s))
            → pick b ([] ∷ fields_of s) (before c (fields_of s)) ≡ take (pick b 0 (suc (cut_of s))) (c ∷ s) ∷ fields_of (drop (suc (pick b 0 (suc (cut_of s)))) (c ∷ s))
        step true h ih = refl
        step false h ih = ap (before c) (ih (omega arith))

-- none does
pub fields_whole : (s : List ℕ) → length s ≤ cut_of s → fields_of s ≡ s ∷ []
unfolding cut_of fields_of
fields_whole [] h = refl
fields_whole (c ∷ s) h = step (eqb c tab) h (fields_whole s)
  where
    step : (b : Bool) → suc (length s) ≤ pick b 0 (suc (cut_of s)) → (length s ≤ cut_of s → fields_of s ≡ s ∷ [])
        → pick b ([] ∷ fields_of s) (before c (fields_of s)) ≡ (c ∷ s) ∷ []
    step true h ih = absurd (omega arith)
    step false h ih = ap (before c) (ih (omega arith))

-- the same as the code cuts them
pub fields_split : (place : ℕ) (s : List ℕ) → place ≡ cut_of s → place < length s
    → fields_of s ≡ take place s ∷ fields_of (take (length s - (place + 1)) (drop (place + 1) s))
fields_split place s e h = rw (rest s (place + 1), e) (fields_cut s (omega arith))

-- there is a first field
pub fields_some : (s : List ℕ) → 0 < length (fields_of s)
unfolding fields_of
fields_some [] = omega arith
fields_some (c ∷ s) = step (eqb c tab) (fields_of s)
  where
    step : (b : Bool) (fields : List (List ℕ)) → 0 < length (pick b ([] ∷ fields) (before c fields))
    step true fields = omega arith
    step false [] = omega arith
    step false (f ∷ fields) = omega arith
