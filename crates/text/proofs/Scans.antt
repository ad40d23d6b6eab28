-- The definitions over what is left of a text from place i on, as a loop meets them.
use mathlib.Core.Path.{◌≡◌, refl, sym, ap, ap₂, ◌∙◌}
use mathlib.Core.Bool.{Bool, true, false, cond, not}
use mathlib.Core.Logic.{◌⊎◌, ⊎_elim}
use mathlib.Core.List.{List}
use Prim.Native.Nat.{ℕ, suc, ◌+◌, ◌-◌, ◌*◌, ◌<◌, ◌≤◌}
use borrow.Author.Tests.{le-leb, lt-leb, eq-eqb, ne_eqb, ltb-false}
use lib.ListN.{length, drop, get_or, drop_of_length-le}
use native.Mathlib.Omega.{arith}
use lib.Dec.{eqb, ltb}
use Rattle.std.specs.Prelude.{Some, None}
use Rattle.std.specs.Option.{unwrap_or}
use Rattle.std.specs.List.{position_or_len}
use Rattle.std.proofs.lemmas.List.Recursion.{is_position_or_len}
use Rattle.std.proofs.lemmas.List.Sums.{prefix_len-le-length}
use Rattle.base.specs.Choice.{pick}
use Rattle.base.specs.Octets.{same}
use Rattle.base.proofs.Tests.{both_false}
use Rattle.base.proofs.Lists.{next}
use Rattle.text.specs.Decimal.{digit_zero, value_within}
use Rattle.text.specs.Fields.{tab}
use Rattle.text.specs.Cut.{cut_of}

module _ (s : List ℕ) (i : ℕ) where
  pub cut_here : i < length s → get_or s i 0 ≡ tab → cut_of (drop i s) ≡ 0
  unfolding cut_of
  cut_here h e = ap cut_of (next s i h) ∙ simp (eq-eqb (get_or s i 0) tab e)

  pub cut_on : i < length s → (get_or s i 0 ≡ tab → ⊥) → cut_of (drop i s) ≡ suc (cut_of (drop (i + 1) s))
  unfolding cut_of
  cut_on h e = ap cut_of (next s i h) ∙ simp (ne_eqb (get_or s i 0) tab e)

  pub cut_end : length s ≤ i → cut_of (drop i s) ≡ 0
  unfolding cut_of
  cut_end h = ap cut_of (drop_of_length-le s h)

module _ (s t : List ℕ) (i : ℕ) where
  pub same_on : i < length s → i < length t → get_or s i 0 ≡ get_or t i 0 → same (drop i s) (drop i t) ≡ same (drop (i + 1) s) (drop (i + 1) t)
  same_on h k e = ap₂ same (next s i h) (next t i k) ∙ simp (eq-eqb (get_or s i 0) (get_or t i 0) e)

  pub same_differ : i < length s → i < length t → (get_or s i 0 ≡ get_or t i 0 → ⊥) → same (drop i s) (drop i t) ≡ false
  same_differ h k e = ap₂ same (next s i h) (next t i k) ∙ simp (ne_eqb (get_or s i 0) (get_or t i 0) e)

  pub same_end : length s ≤ i → length t ≤ i → same (drop i s) (drop i t) ≡ true
  same_end h k = ap₂ same (drop_of_length-le s h) (drop_of_length-le t k)

-- the first tab as the library's search finds it
cut_position : (s : List ℕ) → cut_of s ≡ position_or_len (λ c. eqb c tab) s
unfolding cut_of
cut_position s = is_position_or_len cut_of (λ c. eqb c tab) refl (λ c text. step (eqb c tab) (cut_of text)) s
  where
    step : (b : Bool) (n : ℕ) → pick b 0 (suc n) ≡ cond b 0 (1 + n)
    step true n = refl
    step false n = omega arith

-- and its answer, the length where there is none
pub cut_found : (s : List ℕ) → unwrap_or (cond (ltb (position_or_len (λ c. eqb c tab) s) (length s)) (Some (position_or_len (λ c. eqb c tab) s)) None) (length s) ≡ cut_of s
cut_found s = step (position_or_len (λ c. eqb c tab) s) (prefix_len-le-length (λ c. not (eqb c tab)) s) ∙ sym (cut_position s)
  where
    step : (n : ℕ) → n ≤ length s → unwrap_or (cond (ltb n (length s)) (Some n) None) (length s) ≡ n
    step n h = go (ltb n (length s)) refl
      where
        go : (b : Bool) → ltb n (length s) ≡ b → unwrap_or (cond b (Some n) None) (length s) ≡ n
        go true e = refl
        go false e = omega (arith, ltb-false n (length s) e)

module _ (limit a : ℕ) (s : List ℕ) (i : ℕ) where
  pub value_end : length s ≤ i → value_within limit a (drop i s) ≡ Some a
  unfolding value_within
  value_end h = ap (value_within limit a) (drop_of_length-le s h)

  module _ (h : i < length s) where
    value_low : get_or s i 0 < digit_zero → value_within limit a (drop i s) ≡ None
    unfolding value_within
    value_low k = ap (value_within limit a) (next s i h) ∙ simp (lt-leb digit_zero (get_or s i 0) k)

    value_high : 0x39 < get_or s i 0 → value_within limit a (drop i s) ≡ None
    unfolding value_within
    value_high k = ap (value_within limit a) (next s i h) ∙ simp (lt-leb (get_or s i 0) 0x39 k, both_false)

    pub value_other : (get_or s i 0 < digit_zero) ⊎ (0x39 < get_or s i 0) → value_within limit a (drop i s) ≡ None
    value_other k = ⊎_elim value_low value_high k

    module _ (l : digit_zero ≤ get_or s i 0) (u : get_or s i 0 ≤ 0x39) where
      pub value_big : limit < a * 10 + (get_or s i 0 - digit_zero) → value_within limit a (drop i s) ≡ None
      unfolding value_within
      value_big k =
          ap (value_within limit a) (next s i h)
          ∙ simp (le-leb digit_zero (get_or s i 0) l, le-leb (get_or s i 0) 0x39 u, lt-leb (a * 10 + (get_or s i 0 - digit_zero)) limit k)

      pub value_on : a * 10 + (get_or s i 0 - digit_zero) ≤ limit → value_within limit a (drop i s) ≡ value_within limit (a * 10 + (get_or s i 0 - digit_zero)) (drop (i + 1) s)
      unfolding value_within
      value_on k =
          ap (value_within limit a) (next s i h)
          ∙ simp (le-leb digit_zero (get_or s i 0) l, le-leb (get_or s i 0) 0x39 u, le-leb (a * 10 + (get_or s i 0 - digit_zero)) limit k)
