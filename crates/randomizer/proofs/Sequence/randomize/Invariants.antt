-- The loop's invariant: behind count runs, which stand randomized at the front of the output, the rest is left.
use Rattle.randomizer.proofs.Runs.{RunsDone}
use Rattle.randomizer.proofs.Sequence.randomize.Given as goal

abbrev pub invariant-loop-k : goal.invariant-loop-k
invariant-loop-k l = RunsDone l.octets l.initial.out l.out l.k-iterator.iter.rest.now l.k-iterator.iter.size l.k-iterator.count
