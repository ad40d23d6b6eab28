-- The constant is the sequence: the checker computes the test over all its octets.
use mathlib.Core.Path.{refl}
use Rattle.randomizer.specs.Randomizer.{next_bit, later}
use Rattle.randomizer.proofs.Rule.{sequence_by_test}
use Rattle.randomizer.proofs.Sequence.new.Goals as goal

pub invariant_of-result : goal.invariant_of-result
unfolding next_bit later
invariant_of-result c = record { standard = sequence_by_test _ 255 refl tt }
