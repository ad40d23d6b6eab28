-- Computed examples. Three wrong bits are the most that are always found: with four a codeblock can be good (`four_pass`), and so can a
-- tail sequence (`four_tail`). And the premises are met: a frame that a sender handed down is under way (`sent_frame`), with damage in the first
-- codeblock of its CLTU, in the second and in the tail (`met`).
use mathlib.Core.Path.{◌≡◌, refl, sym, ap, ◌∙◌}
use mathlib.Core.Bool.{Bool, true, false}
use mathlib.Core.List.{List, [], ◌∷◌}
use Prim.Native.Nat.{ℕ, zero, suc, ◌*◌, ◌<◌, ◌≤◌}
use native.Mathlib.Omega.{arith}
use borrow.Author.Tests.{ltb-true, ltb-false, leb-true}
use lib.Bits.{bit_xor, xor_lt}
use lib.Dec.{T, ltb, leb, leb→le}
use lib.ListN.{length, take, drop, get_or, set, replicate, length-set, length-drop, drop_of_length-le}
use Rattle.base.specs.Limits.{largest_frame}
use Rattle.base.specs.Octets.{Octets, bits_of, octet_bits}
use Rattle.base.specs.Outcome.{answer, number_of, count_of}
use Rattle.base.specs.Register.{shift_bit, shift_bits, register}
use Rattle.base.proofs.Computed.{all, below, is_true}
use Rattle.base.proofs.Lists.{octets_at_lem, below_set}
use Rattle.base.proofs.Tests.{apart}
use Rattle.base.specs.Distance.{differing, wrong_bits}
use Rattle.codeblock.specs.Codeblock.{parity, error_control, codeblock_of, bad, is_encoding, otherwise, judged, is_good}
use Rattle.codeblock.specs.declared.Mode.TheVariants.{Detecting}
use Rattle.randomizer.specs.Randomizer.{next_bit, later, octet, randomized}
use Rattle.start_sequence.specs.StartSequence.{recognized, starts, start_of, Received}
use Rattle.start_sequence.proofs.Search.{sequence_received}
use Rattle.encoded_data.specs.EncodedData.{encoded, good_run, information_in, corrected_in}
use Rattle.cltu.specs.Cltu.{filled, information_for, cltu_of, tail_sequence, reading_run, reading_by, reading}
use Rattle.cltu.proofs.Places.{length_cltu}
use Rattle.session.specs.Ends.{tables}
use Rattle.session.specs.Session.{ad_request}
use Rattle.session.proofs.Trace.{computing, settings, after}
use Rattle.damage.specs.Damage.{eight_at, Damaged}
use Rattle.damage.proofs.Parts.{octets_cltu}

-- the codeblock of seven octets 00 with bits 0, 1, 2 and 39 wrong
abbrev passing : List ℕ
passing = 0xE0 ∷ 0 ∷ 0 ∷ 0 ∷ 0x01 ∷ 0 ∷ 0 ∷ 0xFE ∷ []

pub four_pass : (wrong_bits (codeblock_of (replicate 7 0)) passing ≡ 4) × (is_good (judged Detecting passing) ≡ true)
unfolding wrong_bits differing octet_bits bits_of judged otherwise is_encoding codeblock_of error_control parity register shift_bits shift_bit
four_pass = (refl, refl)

-- so four wrong bits are not always found
pub four_refuted : ((information block : List ℕ) → length information ≡ 7 → Octets information → length block ≡ 8 → Octets block
    → 1 ≤ wrong_bits (codeblock_of information) block → wrong_bits (codeblock_of information) block ≤ 4 → judged Detecting block ≡ bad) → ⊥
four_refuted found =
    let w : wrong_bits (codeblock_of (replicate 7 0)) passing ≡ 4 = four_pass.0 in
    let b : judged Detecting passing ≡ bad =
    found (replicate 7 0) passing refl (zeros 7) refl (omega arith, (omega arith, (omega arith, (omega arith, (omega arith, (omega arith, (omega arith, (omega arith, tt)))))))) (omega arith) (omega arith) in
    apart (sym (ap is_good b) ∙ four_pass.1)
  where
    zeros : (n : ℕ) → Octets (replicate n 0)
    zeros zero = tt
    zeros (suc n) = (omega arith, zeros n)

-- the tail sequence with bits 0, 1, 58 and 63 wrong
abbrev passing_tail : List ℕ
passing_tail = 0x05 ∷ 0xC5 ∷ 0xC5 ∷ 0xC5 ∷ 0xC5 ∷ 0xC5 ∷ 0xC5 ∷ 0x58 ∷ []

pub four_tail : (wrong_bits tail_sequence passing_tail ≡ 4) × (is_good (judged Detecting passing_tail) ≡ true)
unfolding wrong_bits differing octet_bits bits_of judged otherwise is_encoding codeblock_of error_control parity register shift_bits shift_bit
four_tail = (refl, refl)

-- a frame of eight octets with its right FECF
abbrev pub frame : List ℕ
frame = 0x00 ∷ 0x05 ∷ 0x24 ∷ 0x07 ∷ 0xFE ∷ 0x07 ∷ 0x15 ∷ 0x41 ∷ []

-- it is under way in a session of the tables where a unit was offered
pub sent_frame : (after (settings 3 2 9 3) (tables (settings 3 2 9 3)) (ad_request (7 ∷ []) largest_frame ∷ [])).frames ≡ frame ∷ []
unfolding computing
sent_frame = refl

-- its CLTU, of two codeblocks, with bits of one octet wrong
abbrev sent : List ℕ
sent = cltu_of frame

abbrev changed : ℕ → ℕ → List ℕ
changed place bits = set sent place (bit_xor (get_or sent place 0) bits)

octets_sent : Octets sent
octets_sent =
    octets_cltu frame (omega arith, (omega arith, (omega arith, (omega arith, (omega arith, (omega arith, (omega arith, (omega arith, tt)))))))) (omega arith)

-- two codeblocks and the tail are all: behind them stands nothing
few_all : (received : List ℕ) → T (all (λ b. leb (wrong_bits (eight_at b sent) (eight_at b received)) 3) 3 0)
    → (b : ℕ) → wrong_bits (eight_at b sent) (eight_at b received) ≤ 3
unfolding wrong_bits differing octet_bits
few_all received t b = go (ltb b 3) refl
  where
    go : (x : Bool) → ltb b 3 ≡ x → wrong_bits (eight_at b sent) (eight_at b received) ≤ 3
    go true e = leb-true _ 3 (is_true _ (below (λ j. leb (wrong_bits (eight_at j sent) (eight_at j received)) 3) 3 t b (ltb-true b 3 e)))
    go false e =
        let none : drop (8 * b) (drop 2 sent) ≡ [] =
        drop_of_length-le (drop 2 sent) {i = 8 * b} (simp length-drop (omega (arith, length_cltu frame, ltb-false b 3 e))) in
        rw none (omega arith)

damaged_changed : (place bits : ℕ) → bits < 256 → Received (take 2 (changed place bits))
    → T (all (λ b. leb (wrong_bits (eight_at b sent) (eight_at b (changed place bits))) 3) 3 0) → Damaged sent (changed place bits)
damaged_changed place bits h s t = record {
  same_length = length-set sent place _;
  octets = below_set 256 sent place (bit_xor (get_or sent place 0) bits) octets_sent (xor_lt 8 (get_or sent place 0) bits (octets_at_lem sent octets_sent place) h);
  start = s;
  few = few_all (changed place bits) t;
}

-- three wrong bits in the first codeblock, in the second, in the tail; one in the start sequence
pub met : Damaged sent (changed 5 0b0010_0101) × Damaged sent (changed 17 0b1100_0001) × Damaged sent (changed 20 0b0111_0000)
    × Damaged sent (changed 0 0b0000_0001)
unfolding wrong_bits differing octet_bits bits_of cltu_of information_for encoded filled randomized octet later next_bit codeblock_of error_control parity register shift_bits shift_bit
met = (
  damaged_changed 5 0b0010_0101 (omega arith) sequence_received tt,
  damaged_changed 17 0b1100_0001 (omega arith) sequence_received tt,
  damaged_changed 20 0b0111_0000 (omega arith) sequence_received tt,
  damaged_changed 0 0b0000_0001 (omega arith) (record { two = refl; within = (omega arith, (omega arith, tt)); near = leb→le 1 1 tt }) tt,
)

-- the first is refused with 2, the second hands out seven octets, too few for the frame, and the others the frame with its fill
pub readings :
    (number_of (answer (reading Detecting (changed 5 0b0010_0101) 14)) ≡ 2)
    × (count_of (answer (reading Detecting (changed 17 0b1100_0001) 14)) ≡ 7)
    × (reading Detecting (changed 20 0b0111_0000) 14 ≡ reading Detecting sent 14) × (reading Detecting (changed 0 0b0000_0001) 14 ≡ reading Detecting sent 14)
unfolding reading_by reading_run corrected_in information_in good_run start_of starts recognized differing octet_bits bits_of cltu_of information_for encoded filled randomized octet later next_bit judged otherwise is_encoding codeblock_of error_control parity register shift_bits shift_bit
readings = (refl, refl, refl, refl)
