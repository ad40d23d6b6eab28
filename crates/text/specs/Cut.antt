-- The first tab of a text.
use Rattle.std.specs.Prelude.{ℕ, suc, List, [], ◌∷◌, eqb}
use Rattle.base.specs.Choice.{pick}
use Rattle.text.specs.Fields.{tab}

-- its place, or the length where there is none
unfoldable pub cut_of : List ℕ → ℕ
cut_of [] = 0
cut_of (c ∷ text) = pick (eqb c tab) 0 (suc (cut_of text))
