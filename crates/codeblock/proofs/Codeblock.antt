-- Laws of a received codeblock, in either mode: an encoding is good, what is good is an encoding or one bit away from one, and eight octets
-- are an encoding where their last is the error control octet of the others.
use mathlib.Core.Path.{◌≡◌, refl, sym, ap, ◌∙◌}
use mathlib.Core.Bool.{Bool, true, false}
use mathlib.Core.List.{List, [], ◌∷◌, ◌++◌}
use Prim.Native.Nat.{ℕ, zero, suc, ◌+◌, ◌-◌, ◌/◌, ◌%◌, ◌^◌, ◌<◌, ◌≤◌}
use native.Mathlib.Omega.{arith}
use lib.Bits.{bit_xor, xor_lt}
use lib.Dec.{eqb}
use lib.ListN.{length, take, drop, get_or, set, length-append, length-take, length-set, take-append-drop, drop_of_length-le}
use lib.Seq.{take_at, drop-cons}
use Rattle.base.specs.Choice.{pick}
use Rattle.base.specs.Octets.{Octets, same}
use Rattle.base.proofs.Register.{register_lt}
use Rattle.base.proofs.Tests.{apart, yes, no}
use Rattle.base.proofs.Lists.{same_equal, same_self, same_last, take_next, below_append}
use Rattle.std.specs.Prelude.{Option}
use Rattle.codeblock.specs.declared.Judged.{Judged}
use Rattle.codeblock.specs.declared.Mode.{Mode}
use Rattle.codeblock.specs.declared.Mode.TheVariants.{Detecting, Correcting}
use Rattle.codeblock.specs.Codeblock.{generator, parity, error_control, codeblock_of, good, bad, is_encoding, flipped, mended, otherwise, judged, is_good, information_of, corrected_of}

pub length_codeblock : (information : List ℕ) → length (codeblock_of information) ≡ length information + 1
unfolding codeblock_of
length_codeblock information = length-append information (error_control information ∷ [])

-- the filler bit is zero
pub filler_zero : (information : List ℕ) → error_control information % 2 ≡ 0
unfolding error_control
filler_zero information = omega arith

pub octets_codeblock : (information : List ℕ) → Octets information → Octets (codeblock_of information)
unfolding codeblock_of error_control parity
octets_codeblock information h =
    let l : parity information < 128 = register_lt 6 generator (omega arith) information 0 (omega arith) h in
    let x : bit_xor (parity information) 127 < 128 = xor_lt 7 (parity information) 127 l (omega arith) in
    below_append 256 information (error_control information ∷ []) h (omega arith, tt)

pub length_flipped : (i : ℕ) (block : List ℕ) → length (flipped i block) ≡ length block
unfolding flipped
length_flipped i block = length-set block (i / 8) _

-- the information of a block with a bit inverted is the information with that bit inverted, if it has it
take_inverted : (n k m : ℕ) (s : List ℕ) → set (take n s) k (bit_xor (get_or (take n s) k 0) m) ≡ take n (set s k (bit_xor (get_or s k 0) m))
take_inverted zero k m s = refl
take_inverted (suc n) k m [] = refl
take_inverted (suc n) zero m (x ∷ s) = refl
take_inverted (suc n) (suc k) m (x ∷ s) = ap (λ (l : List ℕ). x ∷ l) (take_inverted n k m s)

pub take_flipped : (n i : ℕ) (block : List ℕ) → flipped i (take n block) ≡ take n (flipped i block)
unfolding flipped
take_flipped n i block = take_inverted n (i / 8) (2 ^ (7 - i % 8)) block

-- the encoding of seven octets is one, and an encoding is that of its first seven octets
pub is_encoding_lem : (information : List ℕ) → length information ≡ 7 → is_encoding (codeblock_of information) ≡ true
unfolding is_encoding codeblock_of
is_encoding_lem information h = rw (take_at information (error_control information ∷ []) 7 h, same_self (information ++ (error_control information ∷ [])))

pub encoding_is : (block : List ℕ) → is_encoding block ≡ true → block ≡ codeblock_of (take 7 block)
unfolding is_encoding
encoding_is block e = same_equal block (codeblock_of (take 7 block)) e

pub encoding_length : (block : List ℕ) → is_encoding block ≡ true → length block ≡ 8
encoding_length block e =
    let l : length block ≡ length (take 7 block) + 1 = ap length (encoding_is block e) ∙ length_codeblock (take 7 block) in
    omega (arith, simp length-take at l)

-- an encoding is good with nothing corrected; what is none is judged by the mode
pub encoding_judged : (mode : Mode) (block : List ℕ) → is_encoding block ≡ true → judged mode block ≡ good (take 7 block) 0
unfolding judged
encoding_judged mode block e = yes _ _ _ e

pub other_judged : (mode : Mode) (block : List ℕ) → is_encoding block ≡ false → judged mode block ≡ otherwise mode block
unfolding judged
other_judged mode block e = no _ _ _ e

pub judged_codeblock : (mode : Mode) (information : List ℕ) → length information ≡ 7 → judged mode (codeblock_of information) ≡ good information 0
unfolding codeblock_of
judged_codeblock mode information h =
    encoding_judged mode (codeblock_of information) (is_encoding_lem information h)
    ∙ ap (λ (l : List ℕ). good l 0) (take_at information (error_control information ∷ []) 7 h)

-- what holds of a bad block, of an encoding, and of a block that one of its first 63 bits, inverted, makes an encoding, holds of every judgement
module _ (block : List ℕ) (P : Option Judged → Type 0) (of-bad : P bad) (of_one : (i : ℕ) → i < 63 → is_encoding (flipped i block) ≡ true → P (good (take 7 (flipped i block)) 1)) where
  of_mended : (n i : ℕ) → i + n ≤ 63 → P (mended n i block)
  unfolding mended
  of_mended zero i k = of-bad
  of_mended (suc n) i k = go (is_encoding (flipped i block)) refl (of_mended n (suc i) (omega arith))
    where
      go : (b : Bool) → is_encoding (flipped i block) ≡ b → P (mended n (suc i) block) → P (pick b (good (take 7 (flipped i block)) 1) (mended n (suc i) block))
      go true e later = of_one i (omega arith) e
      go false e later = later

  of_otherwise : (mode : Mode) → P (otherwise mode block)
  unfolding otherwise
  of_otherwise Detecting = of-bad
  of_otherwise Correcting = of_mended 63 0 (omega arith)

  pub of_judged : (is_encoding block ≡ true → P (good (take 7 block) 0)) → (mode : Mode) → P (judged mode block)
  unfolding judged
  of_judged of_none mode = go (is_encoding block) refl
    where
      go : (b : Bool) → is_encoding block ≡ b → P (pick b (good (take 7 block) 0) (otherwise mode block))
      go true e = of_none e
      go false e = of_otherwise mode

seven_first : (block : List ℕ) → length block ≡ 8 → length (take 7 block) ≡ 7
seven_first block l = simp length-take (omega arith)

flipped_eight : (block : List ℕ) (i : ℕ) → is_encoding (flipped i block) ≡ true → length block ≡ 8
flipped_eight block i e = sym (length_flipped i block) ∙ encoding_length (flipped i block) e

-- the information of a good codeblock has seven octets
pub good_seven : (mode : Mode) (block : List ℕ) → is_good (judged mode block) ≡ true → length (information_of (judged mode block)) ≡ 7
good_seven mode block =
    of_judged block (λ (j : Option Judged). is_good j ≡ true → length (information_of j) ≡ 7) (λ e. absurd (apart e))
    (λ i k e g. seven_first (flipped i block) (encoding_length (flipped i block) e)) (λ e g. seven_first block (encoding_length block e)) mode

-- at most one bit is corrected
pub corrects_few : (mode : Mode) (block : List ℕ) → corrected_of (judged mode block) ≤ 1
corrects_few mode block = of_judged block (λ (j : Option Judged). corrected_of j ≤ 1) (omega arith) (λ i k e. omega arith) (λ e. omega arith) mode

-- other lengths than eight are bad
pub judged_length : (mode : Mode) (block : List ℕ) → (length block ≡ 8 → ⊥) → judged mode block ≡ bad
judged_length mode block h =
    of_judged block (λ (j : Option Judged). j ≡ bad) refl (λ i k e. absurd (h (flipped_eight block i e))) (λ e. absurd (h (encoding_length block e))) mode

-- the detecting mode: an encoding, or bad
good_by : (b : Bool) (information : List ℕ) → is_good (pick b (good information 0) bad) ≡ b
good_by true information = refl
good_by false information = refl

detected : (block : List ℕ) → is_good (judged Detecting block) ≡ is_encoding block
unfolding judged otherwise
detected block = good_by (is_encoding block) (take 7 block)

-- what is good is the encoding of its first seven octets
pub good_is : (block : List ℕ) → is_good (judged Detecting block) ≡ true → block ≡ codeblock_of (take 7 block)
good_is block e = encoding_is block (sym (detected block) ∙ e)

pub good_judged : (block : List ℕ) → is_good (judged Detecting block) ≡ true → judged Detecting block ≡ good (take 7 block) 0
good_judged block e = encoding_judged Detecting block (sym (detected block) ∙ e)

pub bad_judged : (block : List ℕ) → is_good (judged Detecting block) ≡ false → judged Detecting block ≡ bad
unfolding otherwise
bad_judged block e = other_judged Detecting block (sym (detected block) ∙ e)

-- nothing is corrected
none_by : (b : Bool) (information : List ℕ) → corrected_of (pick b (good information 0) bad) ≡ 0
none_by true information = refl
none_by false information = refl

pub corrects_none : (block : List ℕ) → corrected_of (judged Detecting block) ≡ 0
unfolding judged otherwise
corrects_none block = none_by (is_encoding block) (take 7 block)

-- the first seven octets
pub first_seven : (block : List ℕ) → 7 ≤ length block
    → take 7 block ≡ get_or block 0 0 ∷ get_or block 1 0 ∷ get_or block 2 0 ∷ get_or block 3 0 ∷ get_or block 4 0 ∷ get_or block 5 0 ∷ get_or block 6 0 ∷ []
first_seven s l =
    take_next s 6 0 (omega arith)
    ∙ ap (λ (t : List ℕ). get_or s 0 0 ∷ t) (take_next s 5 1 (omega arith)
    ∙ ap (λ (t : List ℕ). get_or s 1 0 ∷ t) (take_next s 4 2 (omega arith)
    ∙ ap (λ (t : List ℕ). get_or s 2 0 ∷ t) (take_next s 3 3 (omega arith)
    ∙ ap (λ (t : List ℕ). get_or s 3 0 ∷ t) (take_next s 2 4 (omega arith)
    ∙ ap (λ (t : List ℕ). get_or s 4 0 ∷ t) (take_next s 1 5 (omega arith)
    ∙ ap (λ (t : List ℕ). get_or s 5 0 ∷ t) (take_next s 0 6 (omega arith)))))))

-- and the last behind them
pub eight_octets : (block : List ℕ) → length block ≡ 8 → block ≡ take 7 block ++ (get_or block 7 0 ∷ [])
eight_octets block h =
    let d : drop 7 block ≡ get_or block 7 0 ∷ [] = drop-cons block 7 0 (omega arith) ∙ ap (λ (l : List ℕ). get_or block 7 0 ∷ l) (drop_of_length-le block {i = 8} (omega arith)) in
    sym (take-append-drop 7 block) ∙ ap (λ (l : List ℕ). take 7 block ++ l) d

-- eight octets are an encoding by the last
pub encoding_last : (block : List ℕ) → length block ≡ 8 → is_encoding block ≡ eqb (get_or block 7 0) (error_control (take 7 block))
unfolding is_encoding codeblock_of
encoding_last block h =
    ap (λ (b : List ℕ). same b (take 7 block ++ (error_control (take 7 block) ∷ []))) (eight_octets block h)
    ∙ same_last (take 7 block) (get_or block 7 0) (error_control (take 7 block))
