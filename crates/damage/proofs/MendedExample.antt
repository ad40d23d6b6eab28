-- Document 02, order 3, computed. The premises of Mended are met by a CLTU with one wrong bit in its start sequence, in each codeblock, a parity bit
-- among them, and in its tail (`met`): the correcting mode reads it and counts two, the detecting mode refuses it (`readings`). No mode is better
-- in every way: where a codeblock one bit away ends a reading of the detecting mode, the correcting mode mends it and runs on to refusal 3
-- (`runs_on`). Two wrong bits are the most that are never taken for another word: three can be (`three_pass`), and in the tail too (`three_tail`).
use mathlib.Core.Path.{◌≡◌, refl}
use mathlib.Core.List.{List, [], ◌∷◌, ◌++◌}
use Prim.Native.Nat.{ℕ, ◌%◌, ◌<◌}
use native.Mathlib.Omega.{arith}
use borrow.Author.Tests.{leb-true, eqb-true}
use lib.Bits.{bit_xor, xor_lt}
use lib.Dec.{leb, eqb}
use lib.ListN.{take, length, drop, get_or, set, replicate}
use Rattle.base.specs.Octets.{Octets, bits_of, octet_bits}
use Rattle.base.specs.Outcome.{Outcome.done, Outcome.refused}
use Rattle.base.specs.Register.{shift_bit, shift_bits, register}
use Rattle.base.specs.Distance.{differing, wrong_bits}
use Rattle.base.proofs.Computed.{below, is_true}
use Rattle.base.proofs.Lists.{octets_at_lem, below_set, below_drop}
use Rattle.codeblock.specs.Codeblock.{parity, error_control, codeblock_of, good, is_encoding, flipped, mended, otherwise, judged}
use Rattle.codeblock.specs.declared.Mode.{Mode}
use Rattle.codeblock.specs.declared.Mode.TheVariants.{Detecting, Correcting}
use Rattle.randomizer.specs.Randomizer.{next_bit, later, octet, randomized}
use Rattle.start_sequence.specs.StartSequence.{start_sequence, recognized, starts, start_of}
use Rattle.encoded_data.specs.EncodedData.{encoded, good_run, information_in, corrected_in}
use Rattle.cltu.specs.Cltu.{filled, information_for, cltu_of, tail_sequence, reading_run, reading_by, reading}
use Rattle.damage.specs.Damage.{eight_at}
use Rattle.damage.specs.Few.{eight, FewWrong, FillerKept, changed_in}
use Rattle.damage.proofs.Parts.{octets_cltu}
use Rattle.damage.proofs.Example.{frame}

abbrev wrong_at : ℕ → ℕ → List ℕ → List ℕ
wrong_at place bits s = set s place (bit_xor (get_or s place 0) bits)

octets_wrong : (place bits : ℕ) (s : List ℕ) → bits < 256 → Octets s → Octets (wrong_at place bits s)
octets_wrong place bits s h o = below_set 256 s place (bit_xor (get_or s place 0) bits) o (xor_lt 8 (get_or s place 0) bits (octets_at_lem s o place) h)

-- the codeblocks and the tail of a frame's CLTU: a wrong bit of information in the first, of parity in the second, and one in the tail
abbrev body : List ℕ
body = wrong_at 20 0b0000_0100 (wrong_at 15 0b0100_0000 (wrong_at 3 0b0001_0000 (drop 2 (cltu_of frame))))

octets_sent : Octets (cltu_of frame)
octets_sent =
    octets_cltu frame (omega arith, (omega arith, (omega arith, (omega arith, (omega arith, (omega arith, (omega arith, (omega arith, tt)))))))) (omega arith)

octets_body : Octets body
octets_body =
    let a = drop 2 (cltu_of frame) in
    let b = wrong_at 3 0b0001_0000 a in
    let c = wrong_at 15 0b0100_0000 b in
    octets_wrong 20 0b0000_0100 c (omega arith) (octets_wrong 15 0b0100_0000 b (omega arith) (octets_wrong 3 0b0001_0000 a (omega arith) (below_drop 256 2 (cltu_of frame) octets_sent)))

pub met : FewWrong 1 frame body × FillerKept frame body
unfolding wrong_bits differing octet_bits bits_of cltu_of information_for encoded filled randomized octet later next_bit codeblock_of error_control parity register shift_bits shift_bit
met = (
  record {
    whole = leb-true 24 (length body) refl;
    octets = octets_body;
    few = λ b l. leb-true _ 1 (is_true _ (below (λ (j : ℕ). leb (wrong_bits (eight_at j (cltu_of frame)) (eight j body)) 1) 3 tt b (omega arith)));
  },
  λ b l. eqb-true _ 0 (is_true _ (below (λ (j : ℕ). eqb (get_or (eight j body) 7 0 % 2) 0) 2 tt b l)),
)

-- with one wrong bit in the start sequence too
pub readings :
    (reading Correcting (0xEA ∷ 0x90 ∷ body) 14 ≡ done (filled frame) (record { place = 18; corrected = 2 }))
    × (changed_in 2 (drop 2 (cltu_of frame)) body ≡ 2)
    × (reading Detecting (0xEA ∷ 0x90 ∷ body) 14 ≡ refused 2 2)
unfolding changed_in reading_by reading_run corrected_in information_in good_run start_of starts recognized differing octet_bits bits_of cltu_of information_for encoded filled randomized octet later next_bit judged otherwise mended flipped is_encoding codeblock_of error_control parity register shift_bits shift_bit
readings = (refl, refl, refl)

-- two wrong bits in the second codeblock: it is bad in either mode, and what was handed out is too short for the frame
abbrev twice : List ℕ
twice = wrong_at 11 0b0110_0000 (drop 2 (cltu_of frame))

pub two_met : FewWrong 2 frame twice
unfolding wrong_bits differing octet_bits bits_of cltu_of information_for encoded filled randomized octet later next_bit codeblock_of error_control parity register shift_bits shift_bit
two_met = record {
  whole = leb-true 24 (length twice) refl;
  octets = octets_wrong 11 0b0110_0000 (drop 2 (cltu_of frame)) (omega arith) (below_drop 256 2 (cltu_of frame) octets_sent);
  few = λ b l. leb-true _ 2 (is_true _ (below (λ (j : ℕ). leb (wrong_bits (eight_at j (cltu_of frame)) (eight j twice)) 2) 3 tt b (omega arith)));
}

pub two_short : (mode : Mode) → reading mode (start_sequence ++ twice) 14 ≡ done (take 7 (filled frame)) (record { place = 10; corrected = 0 })
unfolding reading_by reading_run corrected_in information_in good_run start_of starts recognized differing octet_bits bits_of cltu_of information_for encoded filled randomized octet later next_bit judged otherwise mended flipped is_encoding codeblock_of error_control parity register shift_bits shift_bit
two_short Detecting = refl
two_short Correcting = refl

-- a codeblock, and another with one wrong bit where the input ends
abbrev ended : List ℕ
ended = start_sequence ++ codeblock_of (replicate 7 0) ++ wrong_at 0 1 (codeblock_of (replicate 7 0))

pub runs_on :
    (reading Detecting ended 14 ≡ done (randomized 0 (replicate 7 0)) (record { place = 10; corrected = 0 }))
    × (reading Correcting ended 14 ≡ refused 3 18)
unfolding reading_by reading_run corrected_in information_in good_run start_of starts recognized differing octet_bits bits_of randomized octet later next_bit judged otherwise mended flipped is_encoding codeblock_of error_control parity register shift_bits shift_bit
runs_on = (refl, refl)

-- the codeblock of seven octets 00 with bits 0, 1 and 2 wrong: bit 39 is taken for the wrong one
abbrev passing : List ℕ
passing = 0xE0 ∷ 0 ∷ 0 ∷ 0 ∷ 0 ∷ 0 ∷ 0 ∷ 0xFE ∷ []

pub three_pass : (wrong_bits (codeblock_of (replicate 7 0)) passing ≡ 3) × (judged Correcting passing ≡ good (0xE0 ∷ 0 ∷ 0 ∷ 0 ∷ 0x01 ∷ 0 ∷ 0 ∷ []) 1)
unfolding wrong_bits differing octet_bits bits_of judged otherwise mended flipped is_encoding codeblock_of error_control parity register shift_bits shift_bit
three_pass = (refl, refl)

-- the tail sequence with bits 0, 1 and 63 wrong
abbrev passing_tail : List ℕ
passing_tail = 0x05 ∷ 0xC5 ∷ 0xC5 ∷ 0xC5 ∷ 0xC5 ∷ 0xC5 ∷ 0xC5 ∷ 0x78 ∷ []

pub three_tail : (wrong_bits tail_sequence passing_tail ≡ 3) × (judged Correcting passing_tail ≡ good (0x05 ∷ 0xC5 ∷ 0xC5 ∷ 0xC5 ∷ 0xC5 ∷ 0xC5 ∷ 0xC5 ∷ []) 1)
unfolding wrong_bits differing octet_bits bits_of judged otherwise mended flipped is_encoding codeblock_of error_control parity register shift_bits shift_bit
three_tail = (refl, refl)
