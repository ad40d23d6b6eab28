-- What the store holds after a unit was put or units were removed: a unit put is read back and the others stay; unit i after a removal is the unit
-- `count` places further on before it; every octet outside the units' new octets stays. All by `placed`, one unit after another.
use mathlib.Core.Path.{◌≡◌, refl, sym, ap, ◌∙◌}
use mathlib.Core.Bool.{Bool, true, false}
use mathlib.Core.List.{List, [], ◌∷◌, ◌++◌}
use mathlib.Core.Logic.{◌⊎◌, ⊎_elim}
use Prim.Native.Nat.{ℕ, zero, suc, ◌+◌, ◌-◌, ◌/◌, ◌<◌, ◌≤◌}
use native.Mathlib.Omega.{arith}
use borrow.Author.Tests.{leb-true, leb-false}
use lib.Dec.{leb}
use lib.ListN.{length, take, drop, get_or, set, length-drop, length-take, drop_of_length-le}
use lib.Seq.{length-take-le, take-nil, get_or-set_same, get_or-set_other, get_or-drop, get_or-take}
use Rattle.base.specs.Limits.{largest_unit}
use Rattle.memory.proofs.Parts.{placed_length, placed_there, placed_before, placed_after}
use Rattle.store.specs.Slid.{slid}
use Rattle.store.specs.Places.{place_offset, unit_at, unit_put, moved_down, without}
use Rattle.store.proofs.Parts.{slid_at}

-- no length is longer than a unit
abbrev pub Short : List ℕ → Type 0
Short lengths = (i : ℕ) → get_or lengths i 0 ≤ largest_unit

-- a unit is no longer than its length
unit_length : (lengths : List ℕ) (place : ℕ) (store : List ℕ) → length (unit_at lengths place store) ≤ get_or lengths place 0
unit_length lengths place store = omega (arith, length-take (get_or lengths place 0) (drop (place_offset place) store))

-- a place behind the end of the store has no unit
pub no_unit_lem : (lengths : List ℕ) (place : ℕ) (store : List ℕ) → length store / largest_unit < place → [] ≡ unit_at lengths place store
no_unit_lem lengths place store h =
    let b : length store ≤ place_offset place = omega arith in
    sym (ap (take (get_or lengths place 0)) (drop_of_length-le store {i = place_offset place} b) ∙ take-nil (get_or lengths place 0))

-- A unit put.
module _ (lengths store unit : List ℕ) (place : ℕ) where
  pub put_length : length (unit_put place unit store) ≡ length store
  put_length = placed_length store (place_offset place) unit

  -- it is read back
  pub put_there : place < length lengths → place_offset place + length unit ≤ length store
      → unit_at (set lengths place (length unit)) place (unit_put place unit store) ≡ unit
  put_there few room =
      ap (λ (n : ℕ). take n (drop (place_offset place) (unit_put place unit store))) (get_or-set_same lengths place (length unit) 0 few)
      ∙ placed_there store (place_offset place) unit room

  -- the units before it and behind it stay
  pub put_before : Short lengths → (i : ℕ) → i < place → unit_at (set lengths place (length unit)) i (unit_put place unit store) ≡ unit_at lengths i store
  put_before units i h =
      ap (λ (n : ℕ). take n (drop (place_offset i) (unit_put place unit store))) (get_or-set_other lengths place i (length unit) 0 (λ e. omega arith))
      ∙ placed_before store (place_offset place) unit (place_offset i) (get_or lengths i 0) (omega (arith, units i))

  pub put_behind : length unit ≤ largest_unit → (i : ℕ) → place < i → unit_at (set lengths place (length unit)) i (unit_put place unit store) ≡ unit_at lengths i store
  put_behind legal i h =
      ap (λ (n : ℕ). take n (drop (place_offset i) (unit_put place unit store))) (get_or-set_other lengths place i (length unit) 0 (λ e. omega arith))
      ∙ ap (take (get_or lengths i 0)) (placed_after store (place_offset place) unit (place_offset i) (omega arith))

  -- every octet behind it stays
  pub put_rest : (n : ℕ) → place_offset place + length unit ≤ n → drop n (unit_put place unit store) ≡ drop n store
  put_rest n h = placed_after store (place_offset place) unit n h

-- Units removed.
module _ (lengths : List ℕ) (count : ℕ) (store : List ℕ) where
  pub without_length : (staying : ℕ) → length (without lengths count staying store) ≡ length store
  unfolding without
  without_length zero = refl
  without_length (suc n) = placed_length (without lengths count n store) (place_offset n) _ ∙ without_length n

  module _ (units : Short lengths) where
    -- every octet behind the last unit's place stays
    pub without_behind : (staying n : ℕ) → place_offset staying ≤ n → drop n (without lengths count staying store) ≡ drop n store
    unfolding without
    without_behind zero n h = refl
    without_behind (suc k) n h =
        let s = without lengths count k store in
        placed_after s (place_offset k) (unit_at lengths (count + k) s) n (omega (arith, unit_length lengths (count + k) s, units (count + k)))
        ∙ without_behind k n (omega arith)

    -- so a unit that is still to be moved is the one that stood there
    still : (staying : ℕ) → unit_at lengths (count + staying) (without lengths count staying store) ≡ unit_at lengths (count + staying) store
    still n = ap (take (get_or lengths (count + n) 0)) (without_behind n (place_offset (count + n)) (omega arith))

    -- one more unit moved: those before it stay, and it is at its place
    module _ (n : ℕ) where
      abbrev s : List ℕ
      s = without lengths count n store

      abbrev last : List ℕ
      last = unit_at lengths (count + n) s

      abbrev m : ℕ → ℕ
      m k = get_or lengths (count + k) 0

      earlier : (i : ℕ) → i < n → take (m i) (drop (place_offset i) (moved_down lengths count n s)) ≡ take (m i) (drop (place_offset i) s)
      earlier i h = placed_before s (place_offset n) last (place_offset i) (m i) (omega (arith, units (count + i)))

      there : place_offset (count + suc n) ≤ length store → take (m n) (drop (place_offset n) (moved_down lengths count n s)) ≡ unit_at lengths (count + n) store
      there room =
          let r : length (drop (place_offset (count + n)) store) ≡ length store - place_offset (count + n) = length-drop (place_offset (count + n)) store in
          let l : length last ≡ m n = ap length (still n) ∙ length-take-le (m n) (drop (place_offset (count + n)) store) (omega (arith, r, room, units (count + n))) in
          let f : place_offset n + length last ≤ length s = omega (arith, l, room, units (count + n), without_length n) in
          ap (λ (k : ℕ). take k (drop (place_offset n) (moved_down lengths count n s))) (sym l) ∙ placed_there s (place_offset n) last f ∙ still n

    -- all of them, each at its place
    moved_there : (staying i : ℕ) → i < staying → place_offset (count + staying) ≤ length store
        → take (get_or lengths (count + i) 0) (drop (place_offset i) (without lengths count staying store)) ≡ unit_at lengths (count + i) store
    unfolding without
    moved_there zero i h room = absurd (omega arith)
    moved_there (suc n) i h room = by (leb n i) refl (λ k. moved_there n i k (omega arith)) where
      by : (b : Bool) → leb n i ≡ b
          → (i < n → take (m n i) (drop (place_offset i) (without lengths count n store)) ≡ unit_at lengths (count + i) store)
          → take (m n i) (drop (place_offset i) (moved_down lengths count n (without lengths count n store))) ≡ unit_at lengths (count + i) store
      by true e rest =
          let q : n ≡ i = omega (arith, leb-true n i e) in
          ap (λ (k : ℕ). take (m n k) (drop (place_offset k) (moved_down lengths count n (s n)))) (sym q)
          ∙ there n room
          ∙ ap (λ (k : ℕ). unit_at lengths (count + k) store) q
      by false e rest = earlier n i (leb-false n i e) ∙ rest (leb-false n i e)

    -- unit i is the one that stood `count` places further on
    pub without_unit : (staying i : ℕ) → i < staying → count + staying ≤ length lengths → place_offset (count + staying) ≤ length store
        → unit_at (slid count lengths) i (without lengths count staying store) ≡ unit_at lengths (count + i) store
    without_unit staying i h few room =
        ap (λ (n : ℕ). take n (drop (place_offset i) (without lengths count staying store))) (slid_at count i lengths (omega arith)) ∙ moved_there staying i h room

  -- an octet outside the octets of a unit moved stays
  below : (n k : ℕ) (s : List ℕ) → k < place_offset n → get_or (moved_down lengths count n s) k 0 ≡ get_or s k 0
  below n k s l =
      sym (get_or-take (suc k) (moved_down lengths count n s) k 0 (omega arith))
      ∙ ap (λ (x : List ℕ). get_or x k 0) (placed_before s (place_offset n) (unit_at lengths (count + n) s) 0 (suc k) (omega arith))
      ∙ get_or-take (suc k) s k 0 (omega arith)

  above : (n k : ℕ) (s : List ℕ) → place_offset n + get_or lengths (count + n) 0 ≤ k → get_or (moved_down lengths count n s) k 0 ≡ get_or s k 0
  above n k s l =
      let z : k + 0 ≡ k = omega arith in
      ap (λ (j : ℕ). get_or (moved_down lengths count n s) j 0) (sym z)
      ∙ sym (get_or-drop k (moved_down lengths count n s) 0 0)
      ∙ ap (λ (x : List ℕ). get_or x 0 0) (placed_after s (place_offset n) (unit_at lengths (count + n) s) k (omega (arith, unit_length lengths (count + n) s)))
      ∙ get_or-drop k s 0 0
      ∙ ap (λ (j : ℕ). get_or s j 0) z

  -- every octet that lies in none of the moved units' octets stays
  pub without_octet : (staying k : ℕ) → ((i : ℕ) → i < staying → (k < place_offset i) ⊎ (place_offset i + get_or lengths (count + i) 0 ≤ k))
      → get_or (without lengths count staying store) k 0 ≡ get_or store k 0
  unfolding without
  without_octet zero k h = refl
  without_octet (suc n) k h =
      let s = without lengths count n store in
      ⊎_elim (below n k s) (above n k s) (h n (omega arith)) ∙ without_octet n k (λ i l. h i (omega arith))

-- The lengths, moved down and with one set, are no longer than a unit.
short_append : (xs ys : List ℕ) → Short xs → Short ys → Short (xs ++ ys)
short_append [] ys a b i = b i
short_append (x ∷ xs) ys a b zero = a zero
short_append (x ∷ xs) ys a b (suc i) = short_append xs ys (λ j. a (suc j)) b i

short_drop : (k : ℕ) (xs : List ℕ) → Short xs → Short (drop k xs)
short_drop k xs a i = rw (get_or-drop k xs i 0) (a (k + i))

pub slid_short : (k : ℕ) (xs : List ℕ) → Short xs → Short (slid k xs)
unfolding slid
slid_short k xs a = short_append (drop k xs) (drop (length xs - k) xs) (short_drop k xs a) (short_drop (length xs - k) xs a)

pub set_short : (xs : List ℕ) (k x : ℕ) → x ≤ largest_unit → Short xs → Short (set xs k x)
set_short [] k x h a i = a i
set_short (y ∷ ys) zero x h a zero = h
set_short (y ∷ ys) zero x h a (suc i) = a (suc i)
set_short (y ∷ ys) (suc k) x h a zero = a zero
set_short (y ∷ ys) (suc k) x h a (suc i) = set_short ys k x h (λ j. a (suc j)) i
