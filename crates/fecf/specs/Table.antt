-- Document 02, order 1: the rule of the table of 256 entries.
use Rattle.std.specs.Prelude.{◌≡◌, List, [], ◌∷◌, ℕ, ◌<◌, get_or}
use Rattle.base.specs.Register.{register}
use Rattle.fecf.specs.Fecf.{generator}

-- the check of one octet, preset zero
unfoldable pub entry_of : ℕ → ℕ
entry_of octet = register 15 generator 0 (octet ∷ [])

-- "entry i is the check of octet i, preset zero"
pub record Rule (table : List ℕ) : Type 0 where
  pub rule : (i : ℕ) → i < 256 → get_or table i 0 ≡ entry_of i
