-- Polynomials over bits, as numbers whose binary digits are the coefficients, and their division.
use Rattle.std.specs.Prelude.{ℕ, ◌*◌, ◌^◌, ◌<◌, ◌≡◌, List, [], ◌∷◌}
use Rattle.std.specs.Int.Bits.{bit_xor}
use Rattle.base.specs.Octets.{Bits}

-- start · x^n + p · m, where m's n coefficients are the bits, the highest power first (Horner's rule)
unfoldable pub horner : ℕ → ℕ → List ℕ → ℕ
horner p start [] = start
horner p start (b ∷ bs) = horner p (bit_xor (start * 2) (b * p)) bs

-- m · p, where m's coefficients are the bits
abbrev pub times : List ℕ → ℕ → ℕ
times bits p = horner p 0 bits

-- r is the remainder of a division by the generator, which has degree w:
-- dividend = quotient · generator + r, and r's degree is below w
pub record Remainder (w generator dividend r : ℕ) : Type 0 where
  pub quotient : List ℕ
  pub bits : Bits quotient
  pub divides : dividend ≡ bit_xor (times quotient generator) r
  pub degree : r < 2 ^ w
