-- The shift register of the cyclic codes (clauses 6.2.4 and 8.5): a register of k + 1 bits, in which g is the generator
-- polynomial less its highest term. What it holds is a remainder of division: proofs/Division, `register_remainder`.
use Rattle.std.specs.Prelude.{ℕ, zero, suc, ◌*◌, ◌/◌, ◌%◌, ◌^◌, List, [], ◌∷◌}
use Rattle.std.specs.Int.Bits.{bit_xor}

module _ (k g : ℕ) where
  -- one bit b shifted in: the register moves up a place, and g is added where the bit that leaves it differs from b
  unfoldable pub shift_bit : ℕ → ℕ → ℕ
  shift_bit r b = bit_xor (r % 2 ^ k * 2) (bit_xor (r / 2 ^ k) b * g)

  -- the n most significant bits of an octet, the most significant first
  unfoldable pub shift_bits : ℕ → ℕ → ℕ → ℕ
  shift_bits zero r octet = r
  shift_bits (suc n) r octet = shift_bits n (shift_bit r (octet / 128)) (octet % 128 * 2)

  -- octets, from the preset r on
  unfoldable pub register : ℕ → List ℕ → ℕ
  register r [] = r
  register r (octet ∷ octets) = register (shift_bits 8 r octet) octets
