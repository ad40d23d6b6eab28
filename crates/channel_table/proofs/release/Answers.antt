-- The record is put back, so one element of the lent table is changed at the most.
use Rattle.std.proofs.Common.{◌∙◌, ap}
use Rattle.channels.specs.Table.{Turn, records_after}
use Rattle.channel_table.proofs.Events.{changes}
use Rattle.channel_table.proofs.release.Goals as goal

pub returns-clause-changed : goal.returns-clause-changed
returns-clause-changed c =
    let before = c.args.records.now in
    changes _ before _ (c.put.ensures ∙ ap (λ (t : Turn). records_after t before) c.release_turn-turn.ensures)
