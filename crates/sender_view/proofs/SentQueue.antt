-- The sent queue as a list: what marking, unmarking and sending do to the counts is what they do to the list, and moving the units down
-- is dropping the first of the list.
use mathlib.Core.Path.{◌≡◌, refl, sym, ap, ◌∙◌}
use mathlib.Core.Bool.{Bool, true, false}
use mathlib.Core.List.{List, [], ◌∷◌, ◌++◌}
use mathlib.Core.Option.{none, some}
use Prim.Native.Nat.{ℕ, zero, suc, ◌+◌, ◌-◌, ◌≤◌, ◌<◌}
use native.Mathlib.Nat.{add-zero}
use native.Mathlib.Omega.{arith}
use borrow.Author.Tests.{le-leb, lt-leb, leb-false, leb-true}
use lib.Dec.{leb, leb-zero}
use lib.ListN.{length, drop, get_or}
use Rattle.base.specs.Limits.{largest_unit}
use Rattle.base.specs.Modulo.{advanced}
use Rattle.base.proofs.Tests.{yes, no}
use Rattle.store.specs.Slid.{slid}
use Rattle.store.specs.Places.{place_offset, unit_at, without}
use Rattle.store.proofs.Laws.{without_unit}
use Rattle.fop.specs.Variables.{Entry}
use Rattle.fop.specs.Machine.{mark_all, unmark, first_marked}
use Rattle.sender_view.specs.View.{entry_at, entries_from}
use Rattle.sender_values.specs.Actions.{units_held}
use Rattle.sender_view.proofs.Offsets.{mod_add, leb_minus}

-- n entries from place i, of which those before place p are unmarked
module _ (lengths store : List ℕ) (f : ℕ) where
  abbrev at : ℕ → ℕ → Entry
  at p i = entry_at lengths store f p i

  abbrev from : ℕ → ℕ → ℕ → List Entry
  from p i n = entries_from lengths store f p i n

  -- the unit at place i, marked or not, and then others
  abbrev put : ℕ → List Entry → Bool → List Entry
  put i xs b = record { fdu = (at 0 i).fdu; marked = b } ∷ xs

  -- all marked: the first 0 are unmarked
  pub mark_all_lem : (p i n : ℕ) → mark_all (from p i n) ≡ from 0 i n
  mark_all_lem p i zero = refl
  mark_all_lem p i (suc n) = ap (put i (mark_all (from p (suc i) n))) (sym (leb-zero i)) ∙ ap (λ (xs : List Entry). at 0 i ∷ xs) (mark_all_lem p (suc i) n)

  -- none of n is marked, by any p past them
  pub unmarked : (p q i n : ℕ) → i + n ≤ p → i + n ≤ q → from p i n ≡ from q i n
  unmarked p q i zero h k = refl
  unmarked p q i (suc n) h k =
      let a : i < p = omega arith in
      let b : i < q = omega arith in
      ap (put i (from p (suc i) n)) (lt-leb p i a ∙ sym (lt-leb q i b))
      ∙ ap (λ (xs : List Entry). at q i ∷ xs) (unmarked p q (suc i) n (omega arith) (omega arith))

  -- all of n are marked, by any p before them
  marked_past : (p q i n : ℕ) → p ≤ i → q ≤ i → from p i n ≡ from q i n
  marked_past p q i zero h k = refl
  marked_past p q i (suc n) h k =
      ap (put i (from p (suc i) n)) (le-leb p i h ∙ sym (le-leb q i k))
      ∙ ap (λ (xs : List Entry). at q i ∷ xs) (marked_past p q (suc i) n (omega arith) (omega arith))

  -- the oldest marked one is at p; with its mark off the oldest is at the next place
  pub unmark_first : (p i n : ℕ) → i ≤ p → p < i + n → unmark (from p i n) ≡ from (suc p) i n
  unmark_first p i zero h k = absurd (omega arith)
  unmark_first p i (suc n) h k = by (leb p i) refl (λ a. unmark_first p (suc i) n a (omega arith)) where
    by : (b : Bool) → leb p i ≡ b → (suc i ≤ p → unmark (from p (suc i) n) ≡ from (suc p) (suc i) n) → unmark (from p i (suc n)) ≡ from (suc p) i (suc n)
    by true e rest =
        let q : i < suc p = omega arith in
        let r : p ≤ i = leb-true p i e in
        yes _ _ _ e
        ∙ ap (put i (from p (suc i) n)) (sym (lt-leb (suc p) i q))
        ∙ ap (λ (xs : List Entry). at (suc p) i ∷ xs) (marked_past p (suc p) (suc i) n (omega arith) (omega arith))
    by false e rest =
        let q : i < suc p = omega arith in
        no _ _ _ e
        ∙ ap (put i (unmark (from p (suc i) n))) (e ∙ sym (lt-leb (suc p) i q))
        ∙ ap (λ (xs : List Entry). at (suc p) i ∷ xs) (rest (leb-false p i e))

  pub first_marked_lem : (p i n : ℕ) → i ≤ p → p < i + n → first_marked (from p i n) ≡ some (at p p).fdu
  first_marked_lem p i zero h k = absurd (omega arith)
  first_marked_lem p i (suc n) h k = by (leb p i) refl (λ a. first_marked_lem p (suc i) n a (omega arith)) where
    by : (b : Bool) → leb p i ≡ b → (suc i ≤ p → first_marked (from p (suc i) n) ≡ some (at p p).fdu) → first_marked (from p i (suc n)) ≡ some (at p p).fdu
    by true e rest =
        let q : i ≡ p = omega (arith, leb-true p i e) in
        yes _ _ _ e ∙ ap (λ (j : ℕ). some (at p j).fdu) q
    by false e rest = no _ _ _ e ∙ rest (leb-false p i e)

  -- nothing is marked before p
  pub none_marked : (p i n : ℕ) → i + n ≤ p → first_marked (from p i n) ≡ none
  none_marked p i zero h = refl
  none_marked p i (suc n) h =
      let a : i < p = omega arith in
      no _ _ _ (lt-leb p i a) ∙ none_marked p (suc i) n (omega arith)

  -- one more at the end
  pub one_more : (p i n : ℕ) → from p i (suc n) ≡ from p i n ++ (at p (i + n) ∷ [])
  one_more p i zero = ap (λ (j : ℕ). at p j ∷ []) (sym (add-zero i))
  one_more p i (suc n) =
      let q : suc i + n ≡ i + suc n = omega arith in
      ap (λ (xs : List Entry). at p i ∷ xs) (one_more p (suc i) n ∙ ap (λ (j : ℕ). from p (suc i) n ++ (at p j ∷ [])) q)

  -- without the first g it is those from place g on
  pub dropped : (p g i n : ℕ) → drop g (from p i (g + n)) ≡ from p (i + g) n
  dropped p zero i n =
      let a : 0 + n ≡ n = omega arith in
      let b : i ≡ i + 0 = omega arith in
      ap (from p i) a ∙ ap (λ (k : ℕ). from p k n) b
  dropped p (suc g) i n =
      let a : suc g + n ≡ suc (g + n) = omega arith in
      let b : suc i + g ≡ i + suc g = omega arith in
      ap (λ (k : ℕ). drop (suc g) (from p i k)) a ∙ dropped p g (suc i) n ∙ ap (λ (k : ℕ). from p k n) b

-- the units sent are held, whether or not one waits, and one more at most
pub held_least : (sent : ℕ) (b : Bool) → sent ≤ units_held sent b
held_least sent true = omega arith
held_least sent false = omega arith

pub held_most : (sent : ℕ) (b : Bool) → units_held sent b ≤ suc sent
held_most sent true = omega arith
held_most sent false = omega arith

-- The units past the first g, in the lengths and the store moved down, are those of the whole without its first g.
module _ (lengths store : List ℕ) (f p g staying : ℕ) (units : (i : ℕ) → get_or lengths i 0 ≤ largest_unit) (few : g + staying ≤ length lengths)
    (room : place_offset (g + staying) ≤ length store) where
  abbrev moved : List ℕ
  moved = without lengths g staying store

  entry_slid : (i : ℕ) → i < staying → entry_at (slid g lengths) moved (advanced f g) (p - g) i ≡ entry_at lengths store f p (g + i)
  entry_slid i h =
      let E : ℕ → List ℕ → Bool → Entry = λ n u b. record { fdu = record { ns = n; octets = u }; marked = b } in
      ap (λ (n : ℕ). E n (unit_at (slid g lengths) i moved) (leb (p - g) i)) (mod_add f g i)
      ∙ ap (λ (u : List ℕ). E (advanced f (g + i)) u (leb (p - g) i)) (without_unit lengths g store units staying i h few room)
      ∙ ap (E (advanced f (g + i)) (unit_at lengths (g + i) store)) (leb_minus p g i)

  pub entries_slid : (i n : ℕ) → i + n ≤ staying → entries_from (slid g lengths) moved (advanced f g) (p - g) i n ≡ entries_from lengths store f p (g + i) n
  entries_slid i zero a = refl
  entries_slid i (suc n) a =
      let q : g + suc i ≡ suc (g + i) = omega arith in
      ap (λ (x : Entry). x ∷ entries_from (slid g lengths) moved (advanced f g) (p - g) (suc i) n) (entry_slid i (omega arith))
      ∙ ap (λ (xs : List Entry). entry_at lengths store f p (g + i) ∷ xs) (entries_slid (suc i) n (omega arith) ∙ ap (λ (k : ℕ). entries_from lengths store f p k n) q)
