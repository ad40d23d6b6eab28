-- Computed examples: document 01's three flags, each with its bit, and an example of each refusal.
use mathlib.Core.Path.{◌≡◌, refl}
use mathlib.Core.Bool.{Bool, true, false}
use mathlib.Core.List.{[], ◌∷◌}
use Rattle.base.specs.Octets.{bits_of, octet_bits}
use Rattle.base.specs.Fields.{digits_of, value_of, packed, octets_of, field_at}
use Rattle.base.specs.Outcome.{answer, number_of}
use Rattle.clcw.specs.declared.Clcw.{Clcw}
use Rattle.clcw.specs.Clcw.{word_fields, clcw_of, writing, is_valid}
use Rattle.base.specs.Refusals.{result_number}
use Rattle.clcw.specs.Answers.{reading_of}

-- the three flags alone
abbrev pub flags : Bool → Bool → Bool → Clcw
flags lockout wait retransmit = record { channel = 0; lockout = lockout; wait = wait; retransmit = retransmit; counter = 0; report = 0 }

pub flag_bits :
    (clcw_of (flags true false false) ≡ 0x01 ∷ 0x00 ∷ 0x20 ∷ 0x00 ∷ [])
    × (clcw_of (flags false true false) ≡ 0x01 ∷ 0x00 ∷ 0x10 ∷ 0x00 ∷ [])
    × (clcw_of (flags false false true) ≡ 0x01 ∷ 0x00 ∷ 0x08 ∷ 0x00 ∷ [])
unfolding clcw_of word_fields octets_of packed value_of digits_of
flag_bits = (refl, refl, refl)

-- another channel's word, and three octets
pub refused : (result_number (reading_of (0x01 ∷ 0x0C ∷ 0x04 ∷ 0x11 ∷ []) 4) ≡ 7) × (result_number (reading_of (0x01 ∷ 0x0C ∷ 0x04 ∷ []) 3) ≡ 10)
unfolding reading_of is_valid field_at value_of octet_bits bits_of
refused = (refl, refl)

-- a channel beyond its limit, and three octets lent
pub writings :
    (number_of (answer (writing (record { channel = 64; lockout = false; wait = false; retransmit = false; counter = 0; report = 0 }) 4)) ≡ 12)
    × (number_of (answer (writing (flags false false false) 3)) ≡ 11)
unfolding writing
writings = (refl, refl)
