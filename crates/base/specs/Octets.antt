-- Lists of octets and of bits.
use Rattle.std.specs.Prelude.{ℕ, zero, suc, ◌*◌, ◌/◌, ◌%◌, ◌<◌, Bool, true, false, List, [], ◌∷◌, ◌++◌, eqb}
use Rattle.base.specs.Choice.{both}

-- every number of the list is below a bound: 2 for bits, 256 for octets
abbrev pub Below : ℕ → List ℕ → Type 0
Below bound [] = Unit {0}
Below bound (x ∷ xs) = (x < bound) × Below bound xs

-- a list of bits
abbrev pub Bits : List ℕ → Type 0
Bits = Below 2

-- a list of octets
abbrev pub Octets : List ℕ → Type 0
Octets = Below 256

-- two lists are the same, number by number
abbrev pub same : List ℕ → List ℕ → Bool
same [] [] = true
same [] (y ∷ ys) = false
same (x ∷ xs) [] = false
same (x ∷ xs) (y ∷ ys) = both (eqb x y) (same xs ys)

-- the n most significant bits of an octet, the most significant first (clause 3, Conventions: bit 0 is the first transferred and the most significant)
unfoldable pub bits_of : ℕ → ℕ → List ℕ
bits_of zero octet = []
bits_of (suc n) octet = (octet / 128) ∷ bits_of n (octet % 128 * 2)

-- the bits of octets in the order of transmission
unfoldable pub octet_bits : List ℕ → List ℕ
octet_bits [] = []
octet_bits (octet ∷ octets) = bits_of 8 octet ++ octet_bits octets
