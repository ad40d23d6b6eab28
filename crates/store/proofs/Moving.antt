-- Octets copied within memory, so a unit moved, and units one after another.
use mathlib.Core.Path.{◌≡◌, refl, sym, ap, ◌∙◌}
use mathlib.Core.List.{List, [], ◌∷◌, ◌++◌}
use Prim.Native.Nat.{ℕ, zero, suc, ◌+◌, ◌-◌, ◌<◌, ◌≤◌}
use native.Mathlib.Nat.{zero-add}
use native.Mathlib.Numerals.{add-one}
use native.Mathlib.Omega.{arith}
use lib.ListN.{length, get_or, take, drop, length-drop, length-take, take-append-drop}
use lib.Seq.{paste, length-take-le, take-length, take-take}
use Rattle.memory.specs.Placed.{placed}
use Rattle.memory.proofs.Laws.{placed_fits}
use Rattle.memory.proofs.Parts.{placed_own, placed_none}
use Rattle.store.specs.Places.{place_offset, unit_at, unit_put, moved_down, without}
use Rattle.store.proofs.Front.{placed_front}

-- what `copy_within` leaves: the octets placed
pub copied_within : (s : List ℕ) (from to count : ℕ) → to + count ≤ length s → from + count ≤ length s
    → paste s to (drop from s) (from + count - from) ≡ placed s to (take count (drop from s))
copied_within s from to count h k =
    let n : from + count - from ≡ count = omega arith in
    let l : length (take count (drop from s)) ≡ count = length-take-le count (drop from s) (rw (length-drop from s) (omega arith)) in
    ap (paste s to (drop from s)) n
    ∙ sym (placed_fits s to (take count (drop from s)) (omega arith) ∙ ap (λ (j : ℕ). take to s ++ take count (drop from s) ++ drop (to + j) s) l)

-- octets placed in front of where they stand
pub placed_down : (s octets : List ℕ) (from to : ℕ) → to + length octets ≤ from → from ≤ length s
    → placed (take from s) to octets ++ drop from s ≡ placed s to octets
placed_down s octets from to h k =
    let l : length (take from s) ≡ from = length-take-le from s k in
    sym (placed_front (take from s) (drop from s) to octets (omega (arith, l))) ∙ ap (λ (x : List ℕ). placed x to octets) (take-append-drop from s)

-- a part that is cut where the list ends is as long as what is left of it
part_own : (m : ℕ) (xs : List ℕ) → take (length (take m xs)) xs ≡ take m xs
part_own m xs = sym (take-take (length (take m xs)) m xs (omega (arith, length-take m xs))) ∙ take-length (take m xs)

-- A unit u moved down by as many octets as it has.
module _ (lengths : List ℕ) (count i : ℕ) (store u : List ℕ) (same : u ≡ unit_at lengths (count + i) store) where
  -- it lies within the store
  pub unit_within : 0 < length u → place_offset (count + i) + length u ≤ length store
  unit_within h =
      let m = get_or lengths (count + i) 0 in
      let l : length u ≡ length (unit_at lengths (count + i) store) = ap length same in
      omega (arith, l, length-take m (drop (place_offset (count + i)) store), length-drop (place_offset (count + i)) store)

  pub unit_moved : placed store (place_offset i) (take (length u) (drop (place_offset (count + i)) store)) ≡ moved_down lengths count i store
  unit_moved =
      ap (λ (x : List ℕ). placed store (place_offset i) (take (length x) (drop (place_offset (count + i)) store))) same
      ∙ ap (placed store (place_offset i)) (part_own (get_or lengths (count + i) 0) (drop (place_offset (count + i)) store))

  -- nothing moves where it is empty
  pub unit_empty : length u ≤ 0 → store ≡ moved_down lengths count i store
  unit_empty h = sym (ap (placed store (place_offset i)) (sym same ∙ length_zero u h) ∙ placed_none store (place_offset i)) where
    length_zero : (xs : List ℕ) → length xs ≤ 0 → xs ≡ []
    length_zero [] k = refl
    length_zero (x ∷ xs) k = absurd (omega arith)

-- no unit removed: each is placed where it stands
pub without_none : (lengths : List ℕ) (staying : ℕ) (store : List ℕ) → without lengths 0 staying store ≡ store
unfolding without
without_none lengths zero store = refl
without_none lengths (suc n) store =
    ap (moved_down lengths 0 n) (without_none lengths n store)
    ∙ ap (λ (k : ℕ). unit_put n (unit_at lengths k store) store) (zero-add n)
    ∙ placed_own store (place_offset n) (get_or lengths n 0)

-- the loop over the units: one more is moved
pub without_next : (lengths : List ℕ) (count i : ℕ) (store old : List ℕ) → old ≡ without lengths count i store
    → moved_down lengths count i old ≡ without lengths count (i + 1) store
unfolding without
without_next lengths count i store old e = ap (moved_down lengths count i) e ∙ ap (λ (n : ℕ). without lengths count n store) (sym (add-one i))
