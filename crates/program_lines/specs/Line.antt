-- Document 01, "The program": what a line says. Fields parted by tabs: SET, W, V(R), buffers; AD and N(S); BD; UNLOCK; SETVR and a
-- value; BAD; FREE. A line over 63 octets, or any other, is malformed.
use Rattle.std.specs.Prelude.{ℕ, List, [], ◌∷◌, leb, length, Option, Some, None}
use Rattle.base.specs.Choice.{pick, must}
use Rattle.base.specs.Octets.{same}
use Rattle.text.specs.Decimal.{number_within}
use Rattle.text.specs.Fields.{fields_of}
use Rattle.program_lines.specs.declared.Line.{Line}
use Rattle.program_lines.specs.declared.Line.TheVariants.{Set, Ad, Bd, Unlock, SetVr, Bad, Free, Malformed}

-- The words, octet by octet.

-- SET
abbrev pub word_set : List ℕ
word_set = 0x53 ∷ 0x45 ∷ 0x54 ∷ []

-- AD
abbrev pub word_ad : List ℕ
word_ad = 0x41 ∷ 0x44 ∷ []

-- BD
abbrev pub word_bd : List ℕ
word_bd = 0x42 ∷ 0x44 ∷ []

-- UNLOCK
abbrev pub word_unlock : List ℕ
word_unlock = 0x55 ∷ 0x4E ∷ 0x4C ∷ 0x4F ∷ 0x43 ∷ 0x4B ∷ []

-- SETVR
abbrev pub word_setvr : List ℕ
word_setvr = 0x53 ∷ 0x45 ∷ 0x54 ∷ 0x56 ∷ 0x52 ∷ []

-- BAD
abbrev pub word_bad : List ℕ
word_bad = 0x42 ∷ 0x41 ∷ 0x44 ∷ []

-- FREE
abbrev pub word_free : List ℕ
word_free = 0x46 ∷ 0x52 ∷ 0x45 ∷ 0x45 ∷ []

-- document 01: numbers are within an octet here; the receiver judges its settings
abbrev pub number_of : List ℕ → Option ℕ
number_of text = number_within 255 text

-- AD and N(S)
abbrev pub ad_line : Option ℕ → Line
ad_line (Some n) = Ad n
ad_line None = Malformed

-- SETVR and a value
abbrev pub set_vr_line : Option ℕ → Line
set_vr_line (Some n) = SetVr n
set_vr_line None = Malformed

-- SET, W, V(R), buffers
abbrev pub set_line : Option ℕ → Option ℕ → Option ℕ → Line
set_line (Some w) (Some v) (Some b) = Set w v b
set_line (Some w) (Some v) None = Malformed
set_line (Some w) None b = Malformed
set_line None v b = Malformed

-- the list of fields matched
unfoldable pub by_fields : List (List ℕ) → Line
by_fields [] = Malformed
by_fields (word ∷ []) =
    pick (same word word_bd) Bd
    (pick (same word word_unlock) Unlock
    (pick (same word word_bad) Bad
    (pick (same word word_free) Free Malformed)))
by_fields (word ∷ a ∷ []) =
    pick (same word word_ad) (ad_line (number_of a))
    (pick (same word word_setvr) (set_vr_line (number_of a)) Malformed)
by_fields (word ∷ a ∷ b ∷ []) = Malformed
by_fields (word ∷ a ∷ b ∷ c ∷ []) = pick (same word word_set) (set_line (number_of a) (number_of b) (number_of c)) Malformed
by_fields (word ∷ a ∷ b ∷ c ∷ d ∷ more) = Malformed

-- a line by its text; "one over 63 octets" is malformed
unfoldable pub line_of : List ℕ → Line
line_of text = must (leb (length text) 63) Malformed (by_fields (fields_of text))
