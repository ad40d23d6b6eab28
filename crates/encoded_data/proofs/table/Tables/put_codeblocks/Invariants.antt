-- The loop's invariant: behind count codeblocks, which stand at the front of the output, the rest of the information is left.
use Rattle.encoded_data.proofs.Encoded.{Written}
use Rattle.encoded_data.proofs.table.Tables.put_codeblocks.Given as goal

abbrev pub invariant-loop-n : goal.invariant-loop-n
invariant-loop-n l = Written l.information l.initial.out l.out l.n-iterator.iter.rest.now l.n-iterator.iter.size l.n-iterator.count
