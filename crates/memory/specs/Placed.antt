-- Octets placed into lent memory.
use Rattle.std.specs.Prelude.{ℕ, ◌+◌, List, ◌++◌, leb, length, take, drop}
use Rattle.base.specs.Choice.{must}

-- the memory with octets from a place on; as it was where they do not fit
unfoldable pub placed : List ℕ → ℕ → List ℕ → List ℕ
placed memory place octets =
    must (leb (place + length octets) (length memory)) memory
    (take place memory ++ octets ++ drop (place + length octets) memory)
