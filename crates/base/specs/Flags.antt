-- Flags as bits of a number.
use Rattle.std.specs.Prelude.{ℕ, ◌/◌, ◌%◌, Bool, true, false, eqb}

-- a flag as a bit: 1 where it is set, else 0
abbrev pub bit_of : Bool → ℕ
bit_of true = 1
bit_of false = 0

-- the bit of that weight is set
abbrev pub is_set : ℕ → ℕ → Bool
is_set flags weight = eqb (flags / weight % 2) 1
