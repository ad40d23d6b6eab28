-- What the answers of the code say.
use Rattle.std.specs.Prelude.{ℕ, List, leb, length}
use Rattle.base.specs.Choice.{must}
use Rattle.base.specs.Outcome.{Outcome, Outcome.done, Outcome.refused}

-- a text written at the front of lent output: 11 where the room is short
unfoldable pub written : List ℕ → ℕ → Outcome (Unit {0})
written text room = must (leb (length text) room) (refused 11 0) (done text tt)
