-- The loop's invariant: the first records are those of the octets, the others stand for none.
use Rattle.std.proofs.Common.{◌≡◌}
use Rattle.channel_octets.specs.Kept.{records_in}
use Rattle.channel_octets.proofs.Taken.{partly}
use Rattle.channel_octets.proofs.channels_in.Given as goal

abbrev pub invariant-loop-place : goal.invariant-loop-place
invariant-loop-place l = l.channels ≡ partly l.spacecraft l.pool (records_in l.table) l.place
