-- The digits from a place on stand, and in front of them rest has its digits still to come.
use Rattle.std.proofs.Common.{◌≡◌, ◌++◌, ◌<◌, take, drop}
use Rattle.text.specs.Decimal.{decimal}
use Rattle.text.proofs.spell.Given as goal

abbrev pub invariant-loop-place : goal.invariant-loop-place
invariant-loop-place l = (0 < l.place → take l.place (decimal l.n) ≡ decimal l.rest) × (l.out ≡ take l.place l.initial.out ++ drop l.place (decimal l.n))
