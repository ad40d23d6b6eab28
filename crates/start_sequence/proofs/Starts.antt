-- What starts and what does not: all that is known of `starts` outside of this file. Two octets decide, by how many of their bits are
-- wrong; the code counts the ones of the sixteen bits' difference (`starts_by`). EB and 90 differ in six bits, so no octet is within one bit
-- of both, and what stands within one bit of the start sequence does not start an octet earlier (`none_before`).
use mathlib.Core.Path.{◌≡◌, refl, sym, ap, ap₂, ◌∙◌}
use mathlib.Core.Bool.{true, false}
use mathlib.Core.List.{List, [], ◌∷◌}
use Prim.Native.Nat.{ℕ, suc, ◌+◌, ◌*◌, ◌<◌, ◌≤◌}
use native.Mathlib.Nat.{add-zero}
use native.Mathlib.Numerals.{add-one}
use native.Mathlib.Omega.{arith}
use borrow.Author.Tests.{le-leb, lt-leb, leb-true}
use lib.Bits.{bit_xor, xor_block, xor_lt}
use lib.Count.{ones, ones_in, ones_cat}
use lib.Dec.{eqb, eqb→eq, leb}
use lib.ListN.{length, take, drop, get_or, length-drop}
use lib.Seq.{drop-cons}
use Rattle.base.specs.Octets.{bits_of, octet_bits}
use Rattle.base.specs.Distance.{differing, wrong_bits}
use Rattle.base.proofs.Computed.{below, is_true}
use Rattle.base.proofs.Distance.{wrong_octet}
use Rattle.start_sequence.specs.StartSequence.{start_sequence, recognized, starts}

-- how many bits of an octet received are wrong, of the first octet and of the second
abbrev first : ℕ → ℕ
first x = differing (bits_of 8 0xEB) (bits_of 8 x)

abbrev second : ℕ → ℕ
second y = differing (bits_of 8 0x90) (bits_of 8 y)

wrong_two : (x y : ℕ) → wrong_bits start_sequence (x ∷ y ∷ []) ≡ first x + second y
unfolding wrong_bits octet_bits differing
wrong_two x y = wrong_octet 0xEB x (0x90 ∷ []) (y ∷ []) ∙ ap (λ (n : ℕ). first x + n) (wrong_octet 0x90 y [] [] ∙ add-zero (second y))

-- two octets decide
pub starts_wrong : (x y : ℕ) (s : List ℕ) → starts (x ∷ y ∷ s) ≡ leb (wrong_bits start_sequence (x ∷ y ∷ [])) 1
unfolding starts recognized wrong_bits octet_bits bits_of
starts_wrong x y s = refl

pub starts_two : (x y : ℕ) (s t : List ℕ) → starts (x ∷ y ∷ s) ≡ starts (x ∷ y ∷ t)
starts_two x y s t = starts_wrong x y s ∙ sym (starts_wrong x y t)

-- one octet starts nothing
pub starts_one : (x : ℕ) → starts (x ∷ []) ≡ false
unfolding starts recognized octet_bits bits_of
starts_one x = refl

-- what stands behind two octets does not matter
pub starts_front : (s : List ℕ) → starts (take 2 s) ≡ starts s
starts_front [] = refl
starts_front (x ∷ []) = refl
starts_front (x ∷ y ∷ ys) = starts_two x y [] ys

-- at a place stand its octet and what is behind it
pub starts_octet : (s : List ℕ) (i : ℕ) → i < length s → starts (drop i s) ≡ starts (get_or s i 0 ∷ drop (i + 1) s)
starts_octet s i h = ap starts (drop-cons s i 0 h ∙ ap (λ (n : ℕ). get_or s i 0 ∷ drop n s) (sym (add-one i)))

-- what is within one bit starts
pub near_starts : (x y : ℕ) (s : List ℕ) → wrong_bits start_sequence (x ∷ y ∷ []) ≤ 1 → starts (x ∷ y ∷ s) ≡ true
near_starts x y s h = starts_wrong x y s ∙ le-leb (wrong_bits start_sequence (x ∷ y ∷ [])) 1 h

-- no octet is within one bit of both
far : (x : ℕ) → x < 256 → 6 ≤ first x + second x
unfolding differing bits_of
far x h = leb-true 6 (first x + second x) (is_true _ (below (λ (o : ℕ). leb 6 (first o + second o)) 256 tt x h))

-- and so nothing starts an octet earlier, whatever stands there
pub none_before : (o x y : ℕ) (s : List ℕ) → x < 256 → wrong_bits start_sequence (x ∷ y ∷ []) ≤ 1 → starts (o ∷ x ∷ s) ≡ false
none_before o x y s h near =
    starts_wrong o x s ∙ lt-leb (wrong_bits start_sequence (o ∷ x ∷ [])) 1 (omega (arith, wrong_two o x, wrong_two x y, far x h))

-- the wrong bits of an octet are the ones of its difference
first_ones : (x : ℕ) → x < 256 → ones (bit_xor x 0xEB) ≡ first x
unfolding differing bits_of ones ones_in
first_ones x h = eqb→eq (ones (bit_xor x 0xEB)) (first x) (below (λ (o : ℕ). eqb (ones (bit_xor o 0xEB)) (first o)) 256 tt x h)

second_ones : (x : ℕ) → x < 256 → ones (bit_xor x 0x90) ≡ second x
unfolding differing bits_of ones ones_in
second_ones x h = eqb→eq (ones (bit_xor x 0x90)) (second x) (below (λ (o : ℕ). eqb (ones (bit_xor o 0x90)) (second o)) 256 tt x h)

-- and those of two octets the ones of both, compared at once
at_once : (x y : ℕ) → x < 256 → y < 256 → ones (bit_xor (x * 0x100 + y) 0xEB90) ≡ wrong_bits start_sequence (x ∷ y ∷ [])
at_once x y hx hy =
    ap ones (xor_block 8 x 0xEB y 0x90 hy (omega arith))
    ∙ ones_cat 8 (bit_xor x 0xEB) (bit_xor y 0x90) (xor_lt 8 y 0x90 hy (omega arith))
    ∙ ap₂ ◌+◌ (first_ones x hx) (second_ones y hy)
    ∙ sym (wrong_two x y)

-- at a place, by its two octets
pub starts_by : (s : List ℕ) (i : ℕ) → i + 1 < length s → get_or s i 0 < 256 → get_or s (i + 1) 0 < 256
    → starts (drop i s) ≡ leb (ones (bit_xor (get_or s i 0 * 0x100 + get_or s (i + 1) 0) 0xEB90)) 1
starts_by s i h hx hy =
    let e : drop (suc i) s ≡ get_or s (i + 1) 0 ∷ drop (suc (suc i)) s = rw add-one (drop-cons s (suc i) 0 (omega arith)) in
    ap starts (drop-cons s i 0 (omega arith) ∙ ap (λ (l : List ℕ). get_or s i 0 ∷ l) e)
    ∙ starts_wrong (get_or s i 0) (get_or s (i + 1) 0) (drop (suc (suc i)) s)
    ∙ ap (λ (n : ℕ). leb n 1) (sym (at_once (get_or s i 0) (get_or s (i + 1) 0) hx hy))

-- and of octets from their front on
pub starts_by_octets : (s : List ℕ) → 2 ≤ length s → get_or s 0 0 < 256 → get_or s 1 0 < 256
    → starts s ≡ leb (ones (bit_xor (get_or s 0 0 * 0x100 + get_or s 1 0) 0xEB90)) 1
starts_by_octets s h hx hy = starts_by s 0 (omega arith) hx hy

-- less than two octets start nothing
pub starts_short : (s : List ℕ) → length s < 2 → starts s ≡ false
unfolding starts recognized octet_bits bits_of
starts_short [] h = refl
starts_short (x ∷ []) h = starts_one x
starts_short (x ∷ y ∷ ys) h = absurd (omega arith)

-- such as a last octet
pub starts_last : (s : List ℕ) (i : ℕ) → length s ≤ i + 1 → i < length s → starts (drop i s) ≡ false
starts_last s i h k = starts_short (drop i s) (omega (arith, length-drop i s))
