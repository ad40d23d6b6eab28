-- Clause 8.5: the parity check bits are the remainder of the information times x^7 by x^7 + x^6 + x^2 + 1, and no other number is.
use mathlib.Core.Path.{◌≡◌}
use mathlib.Core.List.{List}
use Prim.Native.Nat.{ℕ}
use native.Mathlib.Omega.{arith}
use Rattle.base.specs.Octets.{Octets, octet_bits}
use Rattle.base.specs.Polynomial.{times, Remainder}
use Rattle.base.proofs.Division.{register_remainder, one_remainder}
use Rattle.codeblock.specs.Codeblock.{generator, parity}

-- x^7, and g(x) whole
abbrev pub x⁷ : ℕ
x⁷ = 0b1000_0000

abbrev pub g : ℕ
g = 0b1100_0101

pub parity_remainder : (information : List ℕ) → Octets information → Remainder 7 g (times (octet_bits information) x⁷) (parity information)
unfolding parity
parity_remainder information h = register_remainder 6 generator (omega arith) information 0 (omega arith) h

pub parity_only : (information : List ℕ) (r : ℕ) → Octets information → Remainder 7 g (times (octet_bits information) x⁷) r → r ≡ parity information
parity_only information r h m = one_remainder 7 g (omega arith) (omega arith) (times (octet_bits information) x⁷) r (parity information) m (parity_remainder information h)
