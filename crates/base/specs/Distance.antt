-- How many bits differ: the distance between lists of bits, and between octets.
use Rattle.std.specs.Prelude.{ℕ, ◌+◌, List, [], ◌∷◌}
use Rattle.std.specs.Int.Bits.{bit_xor}
use Rattle.base.specs.Octets.{octet_bits}

-- in how many places two lists of bits differ, lists of one length
unfoldable pub differing : List ℕ → List ℕ → ℕ
differing [] ys = 0
differing (x ∷ xs) [] = 0
differing (x ∷ xs) (y ∷ ys) = bit_xor x y + differing xs ys

-- how many bits are wrong in octets received for octets sent, of one length
unfoldable pub wrong_bits : List ℕ → List ℕ → ℕ
wrong_bits sent received = differing (octet_bits sent) (octet_bits received)
