-- The row of the event with the number, if there is one.
use mathlib.Core.Path.{ap, ◌∙◌}
use Rattle.std.specs.Prelude.{Option}
use Rattle.fop.specs.declared.Event.{Event as FopEvent}
use Rattle.sender_table.specs.Rows.{row_if, row_numbered}
use Rattle.sender_rows.proofs.row_numbered.Goals as goal

pub returns : goal.returns
unfolding row_numbered
returns c = c.row.ensures ∙ ap (λ (e : Option FopEvent). row_if e c.args.value c.args.work) c.numbered.ensures
