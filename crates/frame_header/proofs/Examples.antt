-- A computed example of a valid header, and of each way in which one is not.
use mathlib.Core.Path.{◌≡◌, refl}
use mathlib.Core.Bool.{true, false}
use mathlib.Core.List.{[], ◌∷◌}
use Rattle.base.specs.Fields.{value_of, field_at}
use Rattle.base.specs.Octets.{bits_of, octet_bits}
use Rattle.frame_header.specs.Header.{valid_header}

-- the header of Unlock for spacecraft 1, channel 0; that of an AD frame with N(S) 1
pub accepted :
    (valid_header (0x30 ∷ 0x01 ∷ 0x00 ∷ 0x07 ∷ 0x00 ∷ []) ≡ true)
    × (valid_header (0x00 ∷ 0x01 ∷ 0x00 ∷ 0x07 ∷ 0x01 ∷ []) ≡ true)
unfolding valid_header field_at octet_bits bits_of value_of
accepted = (refl, refl)

-- four octets; Version Number 1; Reserved Spare 1; type (0,1); types BC and BD with sequence octet 1
pub refused :
    (valid_header (0x30 ∷ 0x01 ∷ 0x00 ∷ 0x07 ∷ []) ≡ false)
    × (valid_header (0x70 ∷ 0x01 ∷ 0x00 ∷ 0x07 ∷ 0x00 ∷ []) ≡ false)
    × (valid_header (0x34 ∷ 0x01 ∷ 0x00 ∷ 0x07 ∷ 0x00 ∷ []) ≡ false)
    × (valid_header (0x10 ∷ 0x01 ∷ 0x00 ∷ 0x07 ∷ 0x00 ∷ []) ≡ false)
    × (valid_header (0x30 ∷ 0x01 ∷ 0x00 ∷ 0x07 ∷ 0x01 ∷ []) ≡ false)
    × (valid_header (0x20 ∷ 0x01 ∷ 0x00 ∷ 0x07 ∷ 0x01 ∷ []) ≡ false)
unfolding valid_header field_at octet_bits bits_of value_of
refused = (refl, refl, refl, refl, refl, refl)
