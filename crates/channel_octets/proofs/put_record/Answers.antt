-- Past the end nothing is placed.
use Rattle.std.proofs.Common.{◌*◌, sym, arith}
use Rattle.memory.proofs.Laws.{placed_not}
use Rattle.channel_octets.specs.Kept.{record_octets, octets_of}
use Rattle.channel_octets.proofs.put_record.Goals as goal

pub returns-else-place-table : goal.returns-else-place-table
returns-else-place-table c =
    let a = c.args in
    sym (placed_not a.table.now (a.place * record_octets) (octets_of a.channel) (omega arith))
