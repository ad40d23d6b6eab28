-- Where the octets do not fit, nothing is placed.
use mathlib.Core.Path.{sym}
use native.Mathlib.Omega.{arith}
use Rattle.memory.proofs.Laws.{placed_not}
use Rattle.randomizer.specs.Randomizer.{randomized}
use Rattle.randomizer.proofs.Randomized.{length_randomized}
use Rattle.randomizer.proofs.randomize.Goals as goal

pub returns-else-octets-out : goal.returns-else-octets-out
returns-else-octets-out c =
    let a = c.args in
    let s = a.octets.now in
    sym (placed_not a.out.now 0 (randomized 0 s) (omega (arith, length_randomized 0 s)))
