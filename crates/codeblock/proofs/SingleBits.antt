-- The law that every correction rests on. The column of a bit is the syndrome of a codeblock in which that bit alone is wrong. Of the 64
-- columns each has an odd weight, so none is zero; no two are the same; none is the tail sequence's with its filler bit cleared, 67 by its
-- seven parity bits; and bit 63 alone, the filler bit, has an odd one. It is computed once, over the 64 bits (`single_bits`).
use mathlib.Core.Path.{◌≡◌, refl, sym, ap, ap₂, ◌∙◌}
use mathlib.Core.Bool.{Bool, true, false, not}
use mathlib.Core.List.{List, [], ◌∷◌}
use Prim.Native.Nat.{ℕ, zero, suc, ◌+◌, ◌-◌, ◌*◌, ◌/◌, ◌%◌, ◌^◌, ◌<◌}
use native.Mathlib.Omega.{arith}
use borrow.Author.Tests.{eqb-true, eqb-false, eq-eqb, ltb-true}
use lib.Bits.{bit_xor, xor_shr, xor_mod, xor_comm}
use lib.Dec.{eqb, ltb}
use Rattle.base.specs.Choice.{pick, both}
use Rattle.base.proofs.Computed.{below, is_true, tabulate}
use Rattle.base.proofs.Tests.{apart}
use Rattle.base.proofs.Xor.{xor_undo}
use Rattle.codeblock.proofs.Sums.{moved_by}
use Rattle.codeblock.proofs.Flipped.{ones, rest_xor}

-- the column of bit i
abbrev pub column_of : ℕ → ℕ
column_of i = moved_by (7 - i / 8) (2 ^ (7 - i % 8))

-- of the bits that can be mended
abbrev pub columns63 : List ℕ
columns63 = tabulate column_of 63 0

-- the place of a number in a list whose first place is i, 64 where it is not there
abbrev pub place_in : ℕ → List ℕ → ℕ → ℕ
place_in i [] v = 64
place_in i (c ∷ cs) v = pick (eqb c v) i (place_in (suc i) cs v)

-- the syndrome of the tail sequence, its filler bit cleared
abbrev pub tail_syndrome : ℕ
tail_syndrome = 67 * 2

abbrev lawful : List ℕ → ℕ → Bool
lawful columns i =
    both (ltb (column_of i) 256)
    (both (eqb (place_in 0 columns (column_of i)) (i + i / 63))
    (both (eqb (ones 8 (column_of i) % 2) 1)
    (both (not (eqb (column_of i) tail_syndrome))
    (eqb (column_of i % 2) (i / 63)))))

pub record Single (i : ℕ) : Type 0 where
  pub within : column_of i < 256
  -- it is found at its own place; the filler bit's is not found
  pub found : place_in 0 columns63 (column_of i) ≡ i + i / 63
  pub odd : ones 8 (column_of i) % 2 ≡ 1
  pub untailed : column_of i ≡ tail_syndrome → ⊥
  pub filler : column_of i % 2 ≡ i / 63

five : (a b c d e : Bool) → both a (both b (both c (both d e))) ≡ true → (a ≡ true) × (b ≡ true) × (c ≡ true) × (d ≡ true) × (e ≡ true)
five true true true true e h = (refl, refl, refl, refl, h)
five true true true false e h = absurd (apart h)
five true true false d e h = absurd (apart h)
five true false c d e h = absurd (apart h)
five false b c d e h = absurd (apart h)

pub single_bits : (i : ℕ) → i < 64 → Single i
unfolding ones
single_bits i h =
    let t = five (ltb (column_of i) 256) (eqb (place_in 0 columns63 (column_of i)) (i + i / 63)) (eqb (ones 8 (column_of i) % 2) 1) (not (eqb (column_of i) tail_syndrome))
    (eqb (column_of i % 2) (i / 63)) (is_true (lawful columns63 i) (below (lawful columns63) 64 tt i h)) in
    record {
      within = ltb-true (column_of i) 256 t.0;
      found = eqb-true (place_in 0 columns63 (column_of i)) (i + i / 63) t.1;
      odd = eqb-true (ones 8 (column_of i) % 2) 1 t.2;
      untailed = λ e. apart (sym (ap not (eq-eqb (column_of i) tail_syndrome e)) ∙ t.3);
      filler = eqb-true (column_of i % 2) (i / 63) t.4;
    }

-- no two are the same
pub distinct : (i j : ℕ) → i < 64 → j < 64 → column_of i ≡ column_of j → i ≡ j
distinct i j hi hj e =
    let z : i + i / 63 ≡ j + j / 63 = sym (single_bits i hi).found ∙ ap (place_in 0 columns63) e ∙ (single_bits j hj).found in
    omega (arith, z)

-- weights add up modulo 2
bit_sum : (x y : ℕ) → x < 2 → y < 2 → bit_xor x y % 2 ≡ (x + y) % 2
bit_sum zero y hx hy = ap (λ (n : ℕ). n % 2) (omega arith)
bit_sum (suc zero) zero hx hy = refl
bit_sum (suc zero) (suc zero) hx hy = refl
bit_sum (suc zero) (suc (suc y)) hx hy = absurd (omega arith)
bit_sum (suc (suc x)) y hx hy = absurd (omega arith)

sums_add : (a b c d e f : ℕ) → a % 2 ≡ (b + c) % 2 → d % 2 ≡ (e + f) % 2 → (a + d) % 2 ≡ (b + e + (c + f)) % 2
sums_add a b c d e f h k = omega arith

ones_xor : (n a b : ℕ) → a < 256 → b < 256 → ones n (bit_xor a b) % 2 ≡ (ones n a + ones n b) % 2
unfolding ones
ones_xor zero a b ha hb = refl
ones_xor (suc n) a b ha hb =
    ap₂ (λ (x y : ℕ). (x + ones n y) % 2) (xor_shr a b 7) (rest_xor a b)
    ∙ sums_add (bit_xor (a / 128) (b / 128)) (a / 128) (b / 128) (ones n (bit_xor (a % 128 * 2) (b % 128 * 2))) (ones n (a % 128 * 2)) (ones n (b % 128 * 2))
    (bit_sum (a / 128) (b / 128) (omega arith) (omega arith)) (ones_xor n (a % 128 * 2) (b % 128 * 2) (omega arith) (omega arith))

-- a column more changes whether the weight is odd
pub weight_flips : (v i : ℕ) → v < 256 → i < 64 → ones 8 (bit_xor v (column_of i)) % 2 ≡ (ones 8 v + 1) % 2
weight_flips v i hv hi =
    let s = single_bits i hi in
    omega (arith, ones_xor 8 v (column_of i) hv s.within, s.odd)

-- no two add up to the tail sequence's syndrome with its filler bit: one of them would be the filler bit's, and the other 67
last_one : (i j : ℕ) → i < 64 → j < 64 → i ≡ 63 → bit_xor (column_of i) (column_of j) ≡ tail_syndrome + 1 → ⊥
last_one i j hi hj z e =
    let f : bit_xor 1 (column_of j) ≡ tail_syndrome + 1 = sym (ap (λ (k : ℕ). bit_xor (column_of k) (column_of j)) z) ∙ e in
    (single_bits j hj).untailed (sym (xor_undo (column_of j) 1) ∙ ap (λ (x : ℕ). bit_xor x 1) (xor_comm (column_of j) 1 ∙ f))

pub pair_untailed : (i j : ℕ) → i < 64 → j < 64 → bit_xor (column_of i) (column_of j) ≡ tail_syndrome + 1 → ⊥
pair_untailed i j hi hj e = go (eqb i 63) refl
  where
    go : (b : Bool) → eqb i 63 ≡ b → ⊥
    go true t = last_one i j hi hj (eqb-true i 63 t) e
    go false t =
        let f = (single_bits i hi).filler in
        let g = (single_bits j hj).filler in
        let n = eqb-false i 63 t in
        let s = bit_sum (column_of i % 2) (column_of j % 2) (omega arith) (omega arith) in
        let m : 1 ≡ bit_xor (column_of i % 2) (column_of j % 2) = ap (λ (x : ℕ). x % 2) (sym e) ∙ xor_mod (column_of i) (column_of j) 1 in
        last_one j i hj hi (omega (arith, f, g, n, s, m)) (xor_comm (column_of j) (column_of i) ∙ e)
