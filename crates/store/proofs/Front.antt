-- A store with octets behind it: what lies in front is read, put and moved as if they were not lent, and they stay as they were.
use mathlib.Core.Path.{◌≡◌, refl, sym, ap, ◌∙◌}
use mathlib.Core.List.{List, ◌++◌, append_assoc}
use Prim.Native.Nat.{ℕ, zero, suc, ◌+◌, ◌-◌, ◌≤◌}
use native.Mathlib.Omega.{arith}
use lib.ListN.{length, take, drop, get_or, length-append, length-drop, length-take}
use lib.Seq.{take-append-le, drop-append-le}
use Rattle.memory.specs.Placed.{placed}
use Rattle.memory.proofs.Laws.{placed_fits}
use Rattle.store.specs.Places.{place_offset, unit_at, unit_put, moved_down, without}
use Rattle.store.proofs.Laws.{Short, without_length}

module _ (front behind : List ℕ) where
  -- octets placed
  pub placed_front : (place : ℕ) (octets : List ℕ) → place + length octets ≤ length front → placed (front ++ behind) place octets ≡ placed front place octets ++ behind
  placed_front place octets fits =
      let end = place + length octets in
      let l : length (front ++ behind) ≡ length front + length behind = length-append front behind in
      placed_fits (front ++ behind) place octets (omega arith)
      ∙ ap (λ (x : List ℕ). x ++ octets ++ drop end (front ++ behind)) (take-append-le place front behind (omega arith))
      ∙ ap (λ (x : List ℕ). take place front ++ octets ++ x) (drop-append-le end front behind fits)
      ∙ sym (append_assoc (take place front ++ octets) (drop end front) behind)
      ∙ ap (λ (x : List ℕ). x ++ behind) (sym (placed_fits front place octets fits))

  -- a unit read
  pub unit_front : (lengths : List ℕ) (place : ℕ) → place_offset place + get_or lengths place 0 ≤ length front
      → unit_at lengths place (front ++ behind) ≡ unit_at lengths place front
  unit_front lengths place h =
      let k : length (drop (place_offset place) front) ≡ length front - place_offset place = length-drop (place_offset place) front in
      ap (take (get_or lengths place 0)) (drop-append-le (place_offset place) front behind (omega arith))
      ∙ take-append-le (get_or lengths place 0) (drop (place_offset place) front) behind (omega arith)

  -- a unit put
  pub put_front : (place : ℕ) (unit : List ℕ) → place_offset place + length unit ≤ length front
      → unit_put place unit (front ++ behind) ≡ unit_put place unit front ++ behind
  put_front place unit h = placed_front (place_offset place) unit h

-- units removed
module _ (lengths : List ℕ) (count : ℕ) (front behind : List ℕ) (units : Short lengths) where
  moved_front : (i : ℕ) (s : List ℕ) → place_offset (count + suc i) ≤ length s → moved_down lengths count i (s ++ behind) ≡ moved_down lengths count i s ++ behind
  moved_front i s h =
      let u = unit_at lengths (count + i) s in
      let l : length u ≤ get_or lengths (count + i) 0 = omega (arith, length-take (get_or lengths (count + i) 0) (drop (place_offset (count + i)) s)) in
      ap (λ (x : List ℕ). unit_put i x (s ++ behind)) (unit_front s behind lengths (count + i) (omega (arith, units (count + i), h)))
      ∙ put_front s behind i u (omega (arith, units (count + i), l, h))

  pub without_front : (staying : ℕ) → place_offset (count + staying) ≤ length front
      → without lengths count staying (front ++ behind) ≡ without lengths count staying front ++ behind
  unfolding without
  without_front zero h = refl
  without_front (suc n) h =
      ap (moved_down lengths count n) (without_front n (omega (arith, h)))
      ∙ moved_front n (without lengths count n front) (omega (arith, h, without_length lengths count front n))
