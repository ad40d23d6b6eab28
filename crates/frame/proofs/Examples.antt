-- A computed example of each number that reading answers, and of each refusal of writing.
use mathlib.Core.Path.{◌≡◌, refl}
use mathlib.Core.List.{List, [], ◌∷◌, ◌++◌}
use Prim.Native.Nat.{ℕ, ◌+◌}
use lib.ListN.{take, replicate}
use Rattle.base.specs.Fields.{value_of, field_at}
use Rattle.base.specs.Octets.{bits_of, octet_bits}
use Rattle.base.specs.Outcome.{answer, number_of}
use Rattle.base.specs.Register.{shift_bit, shift_bits, register}
use Rattle.base.specs.Limits.{largest_frame, largest_spacecraft}
use Rattle.fecf.specs.Fecf.{fecf_of, syndrome_of, field_octets}
use Rattle.frame_header.specs.Header.{valid_header}
use Rattle.frame.specs.Frame.{raw_writing, writing, total_of, data_field, is_command, command_held, header_refusal, content_refusal, refusal_of}
use Rattle.frame.specs.declared.Kind.{Kind}
use Rattle.frame.specs.declared.Kind.TheVariants.{Bd, Unlock}

-- octets with their right FECF, whatever they are
abbrev pub checked : List ℕ → List ℕ
checked body = body ++ field_octets (fecf_of body)

-- the frame of Unlock for spacecraft 1, channel 0
abbrev pub unlock : List ℕ
unlock = checked (0x30 ∷ 0x01 ∷ 0x00 ∷ 0x07 ∷ 0x00 ∷ 0x00 ∷ [])

pub accepted : refusal_of unlock 1 0 ≡ 0
unfolding refusal_of content_refusal header_refusal valid_header command_held is_command data_field total_of field_at octet_bits bits_of value_of fecf_of syndrome_of register shift_bits shift_bit
accepted = refl

-- seven octets lent; the header says 1,024, of which eight are lent; seven octets of fill; another FECF; version 1; Unlock with sequence octet 1; another spacecraft;
-- no command
pub refused :
    (refusal_of (take 7 unlock) 1 0 ≡ 4)
    × (refusal_of (0x30 ∷ 0x01 ∷ 0x03 ∷ 0xFF ∷ 0x00 ∷ 0x00 ∷ 0x00 ∷ 0x00 ∷ []) 1 0 ≡ 4)
    × (refusal_of (unlock ++ replicate 7 0x55) 1 0 ≡ 5)
    × (refusal_of (0x30 ∷ 0x01 ∷ 0x00 ∷ 0x07 ∷ 0x00 ∷ 0x00 ∷ 0x00 ∷ 0x00 ∷ []) 1 0 ≡ 8)
    × (refusal_of (checked (0x70 ∷ 0x01 ∷ 0x00 ∷ 0x07 ∷ 0x00 ∷ 0x00 ∷ [])) 1 0 ≡ 6)
    × (refusal_of (checked (0x30 ∷ 0x01 ∷ 0x00 ∷ 0x07 ∷ 0x01 ∷ 0x00 ∷ [])) 1 0 ≡ 6)
    × (refusal_of unlock 2 0 ≡ 7)
    × (refusal_of (checked (0x30 ∷ 0x01 ∷ 0x00 ∷ 0x07 ∷ 0x00 ∷ 0x01 ∷ [])) 1 0 ≡ 9)
unfolding refusal_of content_refusal header_refusal valid_header command_held is_command data_field total_of field_at octet_bits bits_of value_of fecf_of syndrome_of register shift_bits shift_bit
refused = (refl, refl, refl, refl, refl, refl, refl, refl)

abbrev written_number : ℕ → ℕ → Kind → List ℕ → ℕ → ℕ
written_number spacecraft channel kind unit room = number_of (answer (writing spacecraft channel kind unit room))

-- an empty unit; a spacecraft beyond its limit; room
pub writings :
    (written_number 1 0 Bd [] largest_frame ≡ 10)
    × (written_number (largest_spacecraft + 1) 0 Unlock [] 8 ≡ 12)
    × (written_number 1 0 Unlock [] 7 ≡ 11)
unfolding raw_writing
writings = (refl, refl, refl)
