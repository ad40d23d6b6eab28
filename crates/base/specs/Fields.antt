-- Layouts: fields at the clause's bit locations, packed one behind the other into octets. A writer packs values, a reader takes
-- the field at the same location, so each layout stands once.
use Rattle.std.specs.Prelude.{ℕ, zero, suc, ◌+◌, ◌*◌, ◌/◌, ◌%◌, ◌^◌, Bool, List, [], ◌∷◌, ◌++◌, eqb, take, drop}
use Rattle.base.specs.Choice.{both}
use Rattle.base.specs.Octets.{octet_bits}

-- the w binary digits of a value, the most significant first
unfoldable pub digits_of : ℕ → ℕ → List ℕ
digits_of zero value = []
digits_of (suc w) value = (value / 2 ^ w % 2) ∷ digits_of w value

-- the number that bits are the digits of, behind those of a
unfoldable pub value_of : ℕ → List ℕ → ℕ
value_of a [] = a
value_of a (b ∷ bits) = value_of (a * 2 + b) bits

-- a field's location: its first bit and its width
pub record Location : Type 0 where
  pub first : ℕ
  pub width : ℕ

-- a location by its first bit and its width
abbrev pub at : ℕ → ℕ → Location
at first width = record { first = first; width = width }

-- a field that holds a value
pub record Field : Type 0 where
  pub location : Location
  pub value : ℕ

-- such a field by its two parts
abbrev pub holds : Location → ℕ → Field
holds location value = record { location = location; value = value }

-- fields one behind the other
unfoldable pub packed : List Field → List ℕ
packed [] = []
packed (field ∷ fields) = digits_of field.location.width field.value ++ packed fields

-- n octets of bits
unfoldable pub octets_of : ℕ → List ℕ → List ℕ
octets_of zero bits = []
octets_of (suc n) bits = value_of 0 (take 8 bits) ∷ octets_of n (drop 8 bits)

-- the value of the field at a location of octets
unfoldable pub field_at : Location → List ℕ → ℕ
field_at location octets = value_of 0 (take location.width (drop location.first (octet_bits octets)))

-- fields positioned contiguously: each begins where the one before it ends, the first at a bit, and the last ends at another
abbrev pub contiguous : ℕ → ℕ → List Field → Bool
contiguous end bit [] = eqb bit end
contiguous end bit (field ∷ fields) = both (eqb field.location.first bit) (contiguous end (bit + field.location.width) fields)
