-- The syndrome of eight octets is zero where they are an encoding (`encoding_syndrome`), and linear: inverting a bit adds that bit's column
-- (`syndrome_flipped`). So a bit mends the block where its column is the syndrome (`flip_mends`), and mending is a search among the columns
-- (`mended_search`), which a table can hold.
use mathlib.Core.Path.{◌≡◌, refl, sym, ap, ◌∙◌}
use mathlib.Core.Bool.{Bool, true, false}
use mathlib.Core.List.{List}
use Prim.Native.Nat.{ℕ, zero, suc, ◌+◌, ◌-◌, ◌*◌, ◌/◌, ◌%◌, ◌^◌, ◌<◌, ◌≤◌}
use native.Mathlib.Omega.{arith}
use borrow.Author.Tests.{eq-eqb, ne_eqb, eqb-true, eqb-false}
use lib.Bits.{bit_xor, xor_comm, xor_self}
use lib.Dec.{eqb}
use lib.ListN.{length, take, get_or}
use Rattle.base.specs.Choice.{pick}
use Rattle.base.specs.Octets.{Octets}
use Rattle.base.proofs.Computed.{tabulate}
use Rattle.base.proofs.Lists.{below_take}
use Rattle.base.proofs.Xor.{xor_assoc, xor_equal, swap}
use Rattle.std.specs.Prelude.{Option}
use Rattle.codeblock.specs.declared.Judged.{Judged}
use Rattle.codeblock.specs.declared.Mode.{Mode}
use Rattle.codeblock.specs.Codeblock.{parity, error_control, syndrome_of, good, bad, is_encoding, flipped, mended, otherwise, judged}
use Rattle.codeblock.proofs.Codeblock.{length_flipped, eight_octets, encoding_last, encoding_judged, other_judged}
use Rattle.codeblock.proofs.Flipped.{weight_lt, octets_flipped}
use Rattle.codeblock.proofs.Sums.{moved_by, total, control_is, total_control, total_flip}
use Rattle.codeblock.proofs.SingleBits.{column_of, columns63, place_in, single_bits}

-- equal where the sum is zero, as tests
xor_test : (a b : ℕ) → eqb (bit_xor a b) 0 ≡ eqb a b
xor_test a b = go (eqb a b) refl
  where
    go : (t : Bool) → eqb a b ≡ t → eqb (bit_xor a b) 0 ≡ t
    go true e = eq-eqb (bit_xor a b) 0 (ap (λ (x : ℕ). bit_xor x b) (eqb-true a b e) ∙ xor_self b)
    go false e = ne_eqb (bit_xor a b) 0 (λ z. eqb-false a b e (xor_equal a b z))

pub encoding_syndrome : (block : List ℕ) → length block ≡ 8 → is_encoding block ≡ eqb (syndrome_of block) 0
unfolding syndrome_of
encoding_syndrome block l = encoding_last block l ∙ sym (xor_test (get_or block 7 0) (error_control (take 7 block)))

-- the syndrome is the block's sum, less the complemented bits
pub syndrome_total : (block : List ℕ) → length block ≡ 8 → Octets block → syndrome_of block ≡ bit_xor (total block) 0b1111_1110
unfolding syndrome_of
syndrome_total block l h =
    let t = take 7 block in
    let e = get_or block 7 0 in
    let p = parity t * 2 in
    ap (bit_xor e) (control_is t)
    ∙ xor_comm e (bit_xor 0b1111_1110 p)
    ∙ xor_assoc 0b1111_1110 p e
    ∙ xor_comm 0b1111_1110 (bit_xor p e)
    ∙ ap (λ (x : ℕ). bit_xor x 0b1111_1110) (total_control t e (below_take 256 7 block h) ∙ ap total (sym (eight_octets block l)))

module _ (block : List ℕ) (l : length block ≡ 8) (h : Octets block) where
  -- inverting a bit adds its column
  pub total_flipped : (i : ℕ) → i < 64 → total (flipped i block) ≡ bit_xor (total block) (column_of i)
  unfolding flipped
  total_flipped i k =
      let e : length block - 1 - i / 8 ≡ 7 - i / 8 = omega arith in
      total_flip block (i / 8) (2 ^ (7 - i % 8)) (omega arith) h (weight_lt i)
      ∙ ap (λ (n : ℕ). bit_xor (total block) (moved_by n (2 ^ (7 - i % 8)))) e

  pub syndrome_flipped : (i : ℕ) → i < 64 → syndrome_of (flipped i block) ≡ bit_xor (syndrome_of block) (column_of i)
  syndrome_flipped i k =
      syndrome_total (flipped i block) (length_flipped i block ∙ l) (octets_flipped i block h)
      ∙ ap (λ (x : ℕ). bit_xor x 0b1111_1110) (total_flipped i k)
      ∙ swap (total block) (column_of i) 0b1111_1110
      ∙ ap (λ (x : ℕ). bit_xor x (column_of i)) (sym (syndrome_total block l h))

  -- a bit mends the block where its column is the syndrome
  pub flip_mends : (i : ℕ) → i < 64 → is_encoding (flipped i block) ≡ eqb (column_of i) (syndrome_of block)
  flip_mends i k =
      encoding_syndrome (flipped i block) (length_flipped i block ∙ l)
      ∙ ap (λ (x : ℕ). eqb x 0) (syndrome_flipped i k ∙ xor_comm (syndrome_of block) (column_of i))
      ∙ xor_test (column_of i) (syndrome_of block)

-- the judgement by the bit that was found
abbrev pub mended_at : ℕ → List ℕ → Option Judged
mended_at i block = pick (eqb i 64) bad (good (take 7 (flipped i block)) 1)

module _ (block : List ℕ) (l : length block ≡ 8) (h : Octets block) where
  search_from : (n i : ℕ) → i + n ≤ 63 → mended n i block ≡ mended_at (place_in i (tabulate column_of n i) (syndrome_of block)) block
  unfolding mended
  search_from zero i k = refl
  search_from (suc n) i k =
      ap (λ (b : Bool). pick b (good (take 7 (flipped i block)) 1) (mended n (suc i) block)) (flip_mends block l h i (omega arith))
      ∙ go (eqb (column_of i) (syndrome_of block)) (search_from n (suc i) (omega arith))
    where
      go : (b : Bool) → mended n (suc i) block ≡ mended_at (place_in (suc i) (tabulate column_of n (suc i)) (syndrome_of block)) block
          → pick b (good (take 7 (flipped i block)) 1) (mended n (suc i) block)
          ≡ mended_at (pick b i (place_in (suc i) (tabulate column_of n (suc i)) (syndrome_of block))) block
      go true later = sym (ap (λ (b : Bool). pick b bad (good (take 7 (flipped i block)) 1)) (ne_eqb i 64 (λ e. omega arith)))
      go false later = later

  pub mended_search : mended 63 0 block ≡ mended_at (place_in 0 columns63 (syndrome_of block)) block
  mended_search = search_from 63 0 (omega arith)

-- where no column is the syndrome, no bit is found
pub none_found : (v : ℕ) → ((i : ℕ) → i < 63 → column_of i ≡ v → ⊥) → place_in 0 columns63 v ≡ 64
none_found v none = go 63 0 (omega arith)
  where
    go : (n i : ℕ) → i + n ≤ 63 → place_in i (tabulate column_of n i) v ≡ 64
    go zero i k = refl
    go (suc n) i k =
        ap (λ (b : Bool). pick b i (place_in (suc i) (tabulate column_of n (suc i)) v)) (ne_eqb (column_of i) v (none i (omega arith)))
        ∙ go n (suc i) (omega arith)

-- as for an odd one
pub odd_none : (v : ℕ) → v % 2 ≡ 1 → (i : ℕ) → i < 63 → column_of i ≡ v → ⊥
odd_none v o i k e =
    let z : column_of i % 2 ≡ v % 2 = ap (λ (x : ℕ). x % 2) e in
    omega (arith, z, o, (single_bits i (omega arith)).filler)

-- the syndrome by the error control octet
pub by_control : (block : List ℕ) {e : ℕ} → e ≡ error_control (take 7 block) → bit_xor (get_or block 7 0) e ≡ syndrome_of block
unfolding syndrome_of
by_control block e = ap (bit_xor (get_or block 7 0)) e

-- a codeblock judged by its syndrome v
module _ (block : List ℕ) (l : length block ≡ 8) {v : ℕ} (e : v ≡ syndrome_of block) where
  pub judged_zero : (mode : Mode) → v ≡ 0 → judged mode block ≡ good (take 7 block) 0
  judged_zero mode z = encoding_judged mode block (encoding_syndrome block l ∙ eq-eqb (syndrome_of block) 0 (sym e ∙ z))

  pub judged_other : (mode : Mode) → (v ≡ 0 → ⊥) → judged mode block ≡ otherwise mode block
  judged_other mode n = other_judged mode block (encoding_syndrome block l ∙ ne_eqb (syndrome_of block) 0 (λ z. n (e ∙ z)))
