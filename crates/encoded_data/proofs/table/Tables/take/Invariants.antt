-- The loop's invariant: count codeblocks are taken, and the rest of the input is left.
use Prim.Native.Nat.{◌/◌}
use lib.ListN.{length}
use Rattle.codeblock.specs.Codeblock.{judged}
use Rattle.encoded_data.proofs.Scan.{Taken, Left}
use Rattle.encoded_data.proofs.table.Tables.take.Given as goal

abbrev pub invariant-loop-n : goal.invariant-loop-n
invariant-loop-n l =
    Taken (judged l.mode) (length l.input / 8) l.input l.initial.information l.information l.corrected l.n-iterator.count
    × Left l.input l.n-iterator.iter.rest.now l.n-iterator.iter.size l.n-iterator.count
    × (goal.iterator-loop-n).can_next l.n-iterator
    × (goal.iterator-loop-n).is_finite l.n-iterator
