-- The loop's invariant: the output is the randomized run up to i, and as it was from there.
use mathlib.Core.Path.{◌≡◌}
use mathlib.Core.List.{◌++◌}
use lib.ListN.{take, drop}
use Rattle.randomizer.specs.Randomizer.{randomized}
use Rattle.randomizer.proofs.Sequence.randomize_run.Given as goal

abbrev pub invariant-loop-i : goal.invariant-loop-i
invariant-loop-i l = l.out ≡ take l.i (randomized 0 l.octets) ++ drop l.i l.initial.out
