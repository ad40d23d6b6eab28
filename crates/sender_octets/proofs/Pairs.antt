-- Numbers as two octets each: at each place, and read back.
use mathlib.Core.Path.{◌≡◌, refl, sym, ap, ap₂, ◌∙◌}
use mathlib.Core.List.{List, [], ◌∷◌, ◌++◌, append-nil}
use Prim.Native.Nat.{ℕ, zero, suc, ◌+◌, ◌-◌, ◌*◌, ◌/◌, ◌%◌, ◌≤◌, ◌<◌}
use native.Mathlib.Nat.{le_of_suc-le-suc, not-suc-le-zero}
use native.Mathlib.Omega.{arith}
use lib.ListN.{length, take, drop, get_or, set, length-append, get_or-append, drop_of_length-le}
use lib.Seq.{take_all, get_or-append-add, get_or-drop, drop-drop, paste, paste-suc}
use Rattle.base.specs.Octets.{Octets}
use Rattle.base.proofs.Lists.{next, octets_at_lem}
use Rattle.memory.specs.Placed.{placed}
use Rattle.memory.proofs.Laws.{placed_front, placed_behind}
use Rattle.sender_octets.specs.Kept.{pairs, pair_at, pairs_from}

pub length_pairs : (s : List ℕ) → length (pairs s) ≡ 2 * length s
length_pairs [] = refl
length_pairs (x ∷ s) = omega (arith, length_pairs s)

even : (s : List ℕ) (i : ℕ) → get_or (pairs s) (2 * i) 0 ≡ get_or s i 0 / 256
even [] i = refl
even (x ∷ s) zero = refl
even (x ∷ s) (suc i) =
    let e : 2 * suc i ≡ suc (suc (2 * i)) = omega arith in
    ap (λ (n : ℕ). get_or (pairs (x ∷ s)) n 0) e ∙ even s i

odd : (s : List ℕ) (i : ℕ) → get_or (pairs s) (suc (2 * i)) 0 ≡ get_or s i 0 % 256
odd [] i = refl
odd (x ∷ s) zero = refl
odd (x ∷ s) (suc i) =
    let e : suc (2 * suc i) ≡ suc (suc (suc (2 * i))) = omega arith in
    ap (λ (n : ℕ). get_or (pairs (x ∷ s)) n 0) e ∙ odd s i

-- the octet at a place: the first or the second of the number there
module _ (s : List ℕ) (place r : ℕ) where
  pub first_octet : place % 2 ≡ 0 → r ≡ get_or s (place / 2) 0 / 256 → r ≡ get_or (pairs s) place 0
  first_octet h e =
      let p : 2 * (place / 2) ≡ place = omega arith in
      e ∙ sym (even s (place / 2)) ∙ ap (λ (n : ℕ). get_or (pairs s) n 0) p

  pub second_octet : (place % 2 ≡ 0 → ⊥) → r ≡ get_or s (place / 2) 0 % 256 → r ≡ get_or (pairs s) place 0
  second_octet h e =
      let p : suc (2 * (place / 2)) ≡ place = omega arith in
      e ∙ sym (odd s (place / 2)) ∙ ap (λ (n : ℕ). get_or (pairs s) n 0) p

-- the octet at a place of the numbers joined to the lengths
module _ (numbers lengths : List ℕ) (place : ℕ) where
  pub octet_before : place < length numbers → get_or numbers place 0 ≡ get_or (numbers ++ pairs lengths) place 0
  octet_before h = sym (get_or-append numbers (pairs lengths) 0 place h)

  pub octet_behind : (n r : ℕ) → length numbers ≡ n → n ≤ place → r ≡ get_or (pairs lengths) (place - n) 0 → r ≡ get_or (numbers ++ pairs lengths) place 0
  octet_behind n r l h e =
      let p : length numbers + (place - n) ≡ place = omega arith in
      e ∙ sym (get_or-append-add numbers (pairs lengths) (place - n) 0) ∙ ap (λ (k : ℕ). get_or (numbers ++ pairs lengths) k 0) p

-- the two octets of one number more, stored behind a place
module _ (m : List ℕ) (at : ℕ) (s : List ℕ) (i : ℕ) where
  pub two_stored : {o : List ℕ} {high low : ℕ} → o ≡ paste m at (pairs s) (2 * i) → high ≡ get_or s i 0 / 256 → low ≡ get_or s i 0 % 256 → i < length s
      → at + 2 * length s ≤ length m → set (set o (at + 2 * i) high) (at + 2 * i + 1) low ≡ paste m at (pairs s) (2 * (i + 1))
  two_stored {o} {high} {low} e eh el h k =
      let n = length_pairs s in
      let p : at + 2 * i + 1 ≡ at + suc (2 * i) = omega arith in
      let q : suc (suc (2 * i)) ≡ 2 * (i + 1) = omega arith in
      let a : set o (at + 2 * i) high ≡ paste m at (pairs s) (suc (2 * i)) =
      ap₂ (λ (x : List ℕ) (v : ℕ). set x (at + 2 * i) v) e (eh ∙ sym (even s i)) ∙ paste-suc m at (pairs s) (2 * i) 0 (omega arith) (omega arith) in
      let b : set (paste m at (pairs s) (suc (2 * i))) (at + suc (2 * i)) low ≡ paste m at (pairs s) (suc (suc (2 * i))) =
      ap (set (paste m at (pairs s) (suc (2 * i))) (at + suc (2 * i))) (el ∙ sym (odd s i)) ∙ paste-suc m at (pairs s) (suc (2 * i)) 0 (omega arith) (omega arith) in
      ap₂ (λ (x : List ℕ) (j : ℕ). set x j low) a p ∙ b ∙ ap (paste m at (pairs s)) q

-- octets put at the front and others behind them are the two joined, put at the front
pub placed_joined : (m front behind : List ℕ) → length front + length behind ≤ length m → placed (placed m 0 front) (length front) behind ≡ placed m 0 (front ++ behind)
placed_joined m front behind h =
    placed_behind m front behind (placed m 0 front) (length front) (placed_front m front (omega arith)) refl h
    ∙ sym (placed_front m (front ++ behind) (omega (arith, length-append front behind)))

-- a list filled to its end
pub filled : (c d o : List ℕ) (i : ℕ) → o ≡ take i c ++ drop i d → length c ≤ i → length d ≤ i → o ≡ c
filled c d o i e h k = e ∙ ap₂ ◌++◌ (take_all i c h) (drop_of_length-le d k) ∙ append-nil c

pub length_joined : (numbers lengths : List ℕ) → length (numbers ++ pairs lengths) ≡ length numbers + 2 * length lengths
length_joined numbers lengths = simp (length-append, length_pairs)

-- numbers read from place i on
pub length_from : (o : List ℕ) (i n : ℕ) → length (pairs_from o i n) ≡ n
length_from o i zero = refl
length_from o i (suc n) = ap suc (length_from o (i + 2) n)

pub from_at : (o : List ℕ) (i n k : ℕ) → k < n → get_or (pairs_from o i n) k 0 ≡ pair_at o (i + 2 * k)
from_at o i zero k h = absurd (not-suc-le-zero h)
from_at o i (suc n) zero h =
    let e : i ≡ i + 2 * 0 = omega arith in
    ap (pair_at o) e
from_at o i (suc n) (suc k) h =
    let e : i + 2 + 2 * k ≡ i + 2 * suc k = omega arith in
    from_at o (i + 2) n k (le_of_suc-le-suc h) ∙ ap (pair_at o) e

-- a number from its two octets
pub pair_back : (x : ℕ) → x / 256 * 256 + x % 256 ≡ x
pair_back x = omega arith

-- where the rest from place i on is the octets of xs, xs is read there
pub pairs_back : (o : List ℕ) (i : ℕ) (xs : List ℕ) → drop i o ≡ pairs xs → pairs_from o i (length xs) ≡ xs
pairs_back o i [] e = refl
pairs_back o i (x ∷ xs) e =
    let a : get_or o i 0 ≡ x / 256 = here i 0 (omega arith) ∙ ap (λ (l : List ℕ). get_or l 0 0) e in
    let b : get_or o (i + 1) 0 ≡ x % 256 = here (i + 1) 1 refl ∙ ap (λ (l : List ℕ). get_or l 1 0) e in
    let t : drop (i + 2) o ≡ pairs xs = sym (drop-drop 2 i o) ∙ ap (drop 2) e in
    ap₂ ◌∷◌ (ap₂ (λ (h l : ℕ). h * 256 + l) a b ∙ pair_back x) (pairs_back o (i + 2) xs t)
  where
    here : (k j : ℕ) → k ≡ i + j → get_or o k 0 ≡ get_or (drop i o) j 0
    here k j p = ap (λ (n : ℕ). get_or o n 0) p ∙ sym (get_or-drop i o j 0)

-- and the octets of the numbers read there are those that stand there
pub pairs_from_lem : (o : List ℕ) (i n : ℕ) → Octets o → length o ≡ i + 2 * n → drop i o ≡ pairs (pairs_from o i n)
pairs_from_lem o i zero b e =
    let h : length o ≤ i = omega arith in
    drop_of_length-le o h
pairs_from_lem o i (suc n) b e =
    let x = get_or o i 0 in
    let y = get_or o (i + 1) 0 in
    let h : y < 256 = octets_at_lem o b (i + 1) in
    let high : x ≡ (x * 256 + y) / 256 = omega arith in
    let low : y ≡ (x * 256 + y) % 256 = omega arith in
    let p : i + 1 + 1 ≡ i + 2 = omega arith in
    next o i (omega arith)
    ∙ ap (λ (l : List ℕ). x ∷ l) (next o (i + 1) (omega arith) ∙ ap (λ (k : ℕ). y ∷ drop k o) p)
    ∙ ap₂ (λ (a b : ℕ). a ∷ b ∷ drop (i + 2) o) high low
    ∙ ap (λ (l : List ℕ). (x * 256 + y) / 256 ∷ (x * 256 + y) % 256 ∷ l) (pairs_from_lem o (i + 2) n b (omega arith))
