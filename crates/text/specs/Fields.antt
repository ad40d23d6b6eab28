-- Fields parted by tabs, and lines ended by newlines.
use Rattle.std.specs.Prelude.{ℕ, List, [], ◌∷◌, eqb, Option, None, Some}
use Rattle.base.specs.Choice.{pick}

-- a tab
abbrev pub tab : ℕ
tab = 0x09

-- a newline
abbrev pub newline : ℕ
newline = 0x0A

-- an octet in front of the first field
abbrev pub before : ℕ → List (List ℕ) → List (List ℕ)
before c [] = (c ∷ []) ∷ []
before c (field ∷ fields) = (c ∷ field) ∷ fields

-- the text split at each tab: one field more than there are tabs
unfoldable pub fields_of : List ℕ → List (List ℕ)
fields_of [] = [] ∷ []
fields_of (c ∷ text) = pick (eqb c tab) ([] ∷ fields_of text) (before c (fields_of text))

-- the fields of what follows a tab, where one follows
abbrev pub fields_behind : Option (List ℕ) → List (List ℕ)
fields_behind None = []
fields_behind (Some text) = fields_of text

-- the lines of a text. Document 01: "a last line needs no newline"; a final newline opens no further line.
unfoldable pub lines_of : List ℕ → List (List ℕ)
lines_of [] = []
lines_of (c ∷ text) = pick (eqb c newline) ([] ∷ lines_of text) (before c (lines_of text))
