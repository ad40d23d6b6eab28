-- There are fewer records behind the first one.
use Rattle.std.proofs.Common.{length}
use Rattle.channels.proofs.records.+are_distinct.Given as goal

abbrev pub decreases-are_distinct : goal.decreases-are_distinct
decreases-are_distinct l = length l.records.now
