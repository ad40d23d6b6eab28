-- The loop's invariant: the octets that are left are whole records, and a table where all are one.
use Rattle.std.proofs.Common.{◌≡◌, ◌%◌, length}
use Rattle.channel_octets.specs.Kept.{record_octets, is_table}
use Rattle.channel_octets.proofs.is_table.Given as goal

abbrev pub invariant-loop-record : goal.invariant-loop-record
invariant-loop-record l =
    let left = l.record-iterator.rest.now in
    (l.record-iterator.size ≡ record_octets) × (length left % record_octets ≡ 0) × (is_table left ≡ is_table l.table)
