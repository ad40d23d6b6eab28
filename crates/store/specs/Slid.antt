-- The lengths of the units, moved down.
use Rattle.std.specs.Prelude.{ℕ, ◌-◌, List, ◌++◌, length, drop}

-- the list without its first `count` numbers, and then its last `count`, which stay; as it was where it is shorter
unfoldable pub slid : ℕ → List ℕ → List ℕ
slid count memory = drop count memory ++ drop (length memory - count) memory
