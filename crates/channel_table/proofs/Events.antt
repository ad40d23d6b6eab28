-- What an event does to a lent table: the table after it is `records_after`, so one element of it is changed at the most (`changes`). `receive` and
-- `release` promise it of the memory lent to them.
use Rattle.std.proofs.Common.{◌≡◌, List, sym, subst, arith}
use Rattle.std.proofs.lemmas.Grind.{common_steps}
use Rattle.receiver.specs.declared.Channel.{Channel}
use Rattle.channels.specs.Table.{Turn, records_after}
use Rattle.channel_table.specs.Changed.{Changed}

one_changed : (t : Turn) (before : List Channel) → Changed t before (records_after t before)
one_changed t before = record {
  count = grind (arith, common_steps);
  others = λ i d h. grind (arith, common_steps);
  told = λ d h. grind (arith, common_steps);
}

pub changes : (t : Turn) (before after : List Channel) → after ≡ records_after t before → Changed t before after
changes t before after e = subst (Changed t before) (sym e) (one_changed t before)
