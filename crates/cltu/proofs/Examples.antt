-- A computed example of each outcome of reading and of each refusal of writing, a CLTU behind an octet, and the exact needs: document 01's 26 and
-- 306, document 02's 1,186 (order 7).
use mathlib.Core.Path.{◌≡◌, refl}
use mathlib.Core.List.{List, [], ◌∷◌, ◌++◌}
use Prim.Native.Nat.{ℕ, ◌+◌}
use lib.ListN.{replicate}
use Rattle.base.specs.Outcome.{Outcome.done, answer, number_of}
use Rattle.base.specs.Register.{shift_bit, shift_bits, register}
use Rattle.base.specs.Limits.{smallest_frame, largest_frame, largest_input}
use Rattle.base.specs.Octets.{bits_of, octet_bits}
use Rattle.base.specs.Distance.{differing}
use Rattle.codeblock.specs.declared.Mode.{Mode}
use Rattle.codeblock.specs.declared.Mode.TheVariants.{Detecting, Correcting}
use Rattle.codeblock.specs.Codeblock.{parity, error_control, codeblock_of, is_encoding, flipped, mended, otherwise, judged}
use Rattle.randomizer.specs.Randomizer.{next_bit, later, octet, randomized}
use Rattle.start_sequence.specs.StartSequence.{start_sequence, recognized, starts, start_of}
use Rattle.encoded_data.specs.EncodedData.{encoded, good_run, information_in, corrected_in}
use Rattle.cltu.specs.Cltu.{filled, information_for, cltu_of, need, writing, reading_run, reading_by, reading}

-- a frame of eight octets
abbrev pub frame : List ℕ
frame = 0x30 ∷ 0x01 ∷ 0x00 ∷ 0x07 ∷ 0x00 ∷ 0x00 ∷ 0x12 ∷ 0x34 ∷ []

abbrev read_number : List ℕ → ℕ → ℕ
read_number input room = number_of (answer (reading Detecting input room))

-- done; no start; no block: eight octets 00 are no codeblock; no end; length; room
pub readings :
    (read_number (cltu_of frame) 14 ≡ 0)
    × (read_number [] 14 ≡ 1)
    × (read_number (start_sequence ++ replicate 8 0) 14 ≡ 2)
    × (read_number start_sequence 14 ≡ 3)
    × (read_number (replicate (largest_input + 1) 0) 14 ≡ 10)
    × (read_number (cltu_of frame) 13 ≡ 11)
unfolding reading_by reading_run corrected_in information_in good_run start_of starts recognized differing octet_bits bits_of cltu_of information_for encoded filled randomized octet later next_bit judged otherwise is_encoding codeblock_of error_control parity register shift_bits shift_bit
readings = (refl, refl, refl, refl, refl, refl)

-- behind an octet EB, EB EB 90: it holds no near place by itself, nor with the CLTU's first octet
pub behind : start_of (0xEB ∷ []) ≡ 1
unfolding start_of starts recognized differing octet_bits bits_of
behind = refl

pub read_behind : (mode : Mode) → reading mode (0xEB ∷ cltu_of frame) 14 ≡ done (filled frame) (record { place = 19; corrected = 0 })
unfolding reading_by reading_run corrected_in information_in good_run start_of starts recognized differing octet_bits bits_of cltu_of information_for encoded filled randomized octet later next_bit judged otherwise mended flipped is_encoding codeblock_of error_control parity register shift_bits shift_bit
read_behind Detecting = refl
read_behind Correcting = refl

-- length; room
pub writings : (number_of (answer (writing (replicate 7 0) (need largest_frame))) ≡ 10) × (number_of (answer (writing frame 25)) ≡ 11)
unfolding writing
writings = (refl, refl)

pub needs : (need smallest_frame ≡ 26) × (need 256 ≡ 306) × (need largest_frame ≡ 1186)
needs = (refl, refl, refl)
