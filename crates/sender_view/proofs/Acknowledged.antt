-- The frames that N(R) acknowledges are the first of the sent queue: what is left is the list without them.
use mathlib.Core.Path.{◌≡◌, refl, sym, ap, ◌∙◌}
use mathlib.Core.Bool.{Bool, true, false}
use mathlib.Core.List.{List, ◌∷◌}
use Prim.Native.Nat.{ℕ, zero, suc, ◌+◌, ◌-◌, ◌≤◌, ◌<◌}
use native.Mathlib.Omega.{arith}
use borrow.Author.Tests.{ltb-true, ltb-false, lt-ltb, le-ltb}
use lib.Dec.{ltb}
use lib.ListN.{take, drop}
use lib.Seq.{take-nil, drop-nil}
use Rattle.base.specs.Choice.{pick}
use Rattle.base.specs.Modulo.{advanced, offset}
use Rattle.base.proofs.Tests.{yes, no}
use Rattle.fop.specs.Units.{Fdu}
use Rattle.fop.specs.Variables.{Entry}
use Rattle.fop.specs.Machine.{fdus, is_acknowledged, acknowledged, unacknowledged}
use Rattle.sender_values.specs.Actions.{least}
use Rattle.sender_view.specs.View.{entry_at, entries_from}
use Rattle.sender_view.proofs.Offsets.{offset_add, offset_of_offset, offset_between}

-- Which are acknowledged: those before place g.
module _ (lengths store : List ℕ) (f p nnr nr g : ℕ) where
  abbrev at : ℕ → Entry
  at i = entry_at lengths store f p i

  abbrev from : ℕ → ℕ → List Entry
  from i n = entries_from lengths store f p i n

  -- each of the first n is acknowledged where it stands before place g
  abbrev Before : ℕ → Type 0
  Before n = (j : ℕ) → j < n → is_acknowledged nnr nr (at j) ≡ ltb j g

  -- those that stay
  pub left : (i n : ℕ) → Before (i + n) → unacknowledged nnr nr (from i n) ≡ drop (g - i) (from i n)
  left i zero h = sym (drop-nil (g - i))
  left i (suc n) h = by (ltb i g) refl (left (suc i) n (λ j k. h j (omega arith))) where
    by : (b : Bool) → ltb i g ≡ b → unacknowledged nnr nr (from (suc i) n) ≡ drop (g - suc i) (from (suc i) n)
        → unacknowledged nnr nr (from i (suc n)) ≡ drop (g - i) (from i (suc n))
    by true e rest =
        let a : g - i ≡ suc (g - suc i) = omega (arith, ltb-true i g e) in
        yes _ _ _ (h i (omega arith) ∙ e) ∙ rest ∙ ap (λ (k : ℕ). drop k (from i (suc n))) (sym a)
    by false e rest =
        let a : g - i ≡ 0 = omega (arith, ltb-false i g e) in
        let b : g - suc i ≡ 0 = omega (arith, ltb-false i g e) in
        no _ _ _ (h i (omega arith) ∙ e)
        ∙ ap (λ (xs : List Entry). at i ∷ xs) (rest ∙ ap (λ (k : ℕ). drop k (from (suc i) n)) b)
        ∙ ap (λ (k : ℕ). drop k (from i (suc n))) (sym a)

  -- those that go
  pub gone : (i n : ℕ) → Before (i + n) → acknowledged nnr nr (from i n) ≡ fdus (take (g - i) (from i n))
  gone i zero h = ap fdus (sym (take-nil (g - i)))
  gone i (suc n) h = by (ltb i g) refl (gone (suc i) n (λ j k. h j (omega arith))) where
    by : (b : Bool) → ltb i g ≡ b → acknowledged nnr nr (from (suc i) n) ≡ fdus (take (g - suc i) (from (suc i) n))
        → acknowledged nnr nr (from i (suc n)) ≡ fdus (take (g - i) (from i (suc n)))
    by true e rest =
        let a : g - i ≡ suc (g - suc i) = omega (arith, ltb-true i g e) in
        yes _ _ _ (h i (omega arith) ∙ e) ∙ ap (λ (xs : List Fdu). (at i).fdu ∷ xs) rest
        ∙ ap (λ (k : ℕ). fdus (take k (from i (suc n)))) (sym a)
    by false e rest =
        let a : g - i ≡ 0 = omega (arith, ltb-false i g e) in
        let b : g - suc i ≡ 0 = omega (arith, ltb-false i g e) in
        no _ _ _ (h i (omega arith) ∙ e) ∙ rest ∙ ap (λ (k : ℕ). fdus (take k (from (suc i) n))) b
        ∙ ap (λ (k : ℕ). fdus (take k (from i (suc n)))) (sym a)

-- two comparisons that agree
same_test : (a b c d : ℕ) → (a < b → c < d) → (b ≤ a → d ≤ c) → ltb a b ≡ ltb c d
same_test a b c d f g = by (ltb a b) refl where
  by : (x : Bool) → ltb a b ≡ x → ltb a b ≡ ltb c d
  by true e = e ∙ sym (lt-ltb c d (f (ltb-true a b e)))
  by false e = e ∙ sym (le-ltb c d (g (ltb-false a b e)))

place_lt : (q s j x v : ℕ) → s ≤ q → x ≤ q → j < s → v ≡ q - x → v ≤ s → q - (s - j) < x → j < s - v
place_lt q s j x v a b c d e f = omega arith

place_no : (q s j x v : ℕ) → s ≤ q → x ≤ q → j < s → v ≡ q - x → s < v → q - (s - j) < x → j < s - s
place_no q s j x v a b c d e f = absurd (omega arith)

none_less : (s j : ℕ) → s - s ≤ j
none_less s j = omega arith

place_le : (q s j x v : ℕ) → s ≤ q → x ≤ q → j < s → v ≡ q - x → v ≤ s → x ≤ q - (s - j) → s - v ≤ j
place_le q s j x v a b c d e f = omega arith

-- the place of the number n in the queue
module _ (vs nnr n sent j : ℕ) (a : vs < 256) (b : nnr < 256) (c : n < 256) (e : sent ≤ offset vs nnr)
    (f : offset n nnr ≤ offset vs nnr) (h : j < sent) where
  -- V(S) - NN(R)
  abbrev q : ℕ
  q = offset vs nnr

  -- how far N(R) is from NN(R), and V(S) from N(R)
  abbrev x : ℕ
  x = offset n nnr

  abbrev v : ℕ
  v = offset vs n

  place_number : offset (advanced (offset vs sent) j) nnr ≡ q - (sent - j)
  place_number =
      let k : sent - (sent - j) ≡ j = omega arith in
      ap (λ (y : ℕ). offset (advanced (offset vs sent) y) nnr) (sym k)
      ∙ ap (λ (y : ℕ). offset y nnr) (offset_add vs sent (sent - j) (omega arith) (omega arith) a)
      ∙ offset_of_offset vs nnr (sent - j) a b (omega arith)

  pub acknowledged_place : ltb (offset (advanced (offset vs sent) j) nnr) (offset n nnr) ≡ ltb j (sent - least sent (offset vs n))
  acknowledged_place = ap (λ (y : ℕ). ltb y x) place_number ∙ by (ltb sent v) refl (offset_between vs nnr n a b c f) where
    by : (t : Bool) → ltb sent v ≡ t → v ≡ q - x → ltb (q - (sent - j)) x ≡ ltb j (sent - pick t sent v)
    by true g z = same_test (q - (sent - j)) x j (sent - sent) (place_no q sent j x v e f h z (ltb-true sent v g)) (λ y. none_less sent j)
    by false g z =
        let k : v ≤ sent = ltb-false sent v g in
        same_test (q - (sent - j)) x j (sent - v) (place_lt q sent j x v e f h z k) (place_le q sent j x v e f h z k)
