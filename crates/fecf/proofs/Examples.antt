-- Document 01: the octets 00 00 have the FECF 1D 0F.
use mathlib.Core.Path.{◌≡◌, refl}
use mathlib.Core.List.{[], ◌∷◌}
use Rattle.base.specs.Register.{shift_bit, shift_bits, register}
use Rattle.fecf.specs.Fecf.{fecf_of}

pub example : fecf_of (0 ∷ 0 ∷ []) ≡ 0x1D0F
unfolding fecf_of register shift_bits shift_bit
example = refl
