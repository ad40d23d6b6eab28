-- No event keeps the work; else what the cell of the row chosen asks, done, is the event's row.
use mathlib.Core.Path.{sym, ap, ◌∙◌}
use Rattle.std.specs.Prelude.{Option}
use Rattle.fop.specs.declared.Event.{Event as FopEvent}
use Rattle.fop.specs.Table.{table78, cell78}
use Rattle.sender_values.specs.Actions.{to_state}
use Rattle.sender_table.specs.Rows.{row_if}
use Rattle.sender_table.specs.Cells.{filled_by}
use Rattle.sender_table.proofs.Done.{filled_asked_done, filled_row}
use Rattle.sender_rows.proofs.row.Goals as goal

pub returns-in_default : goal.returns-in_default
unfolding row_if
returns-in_default c = sym (ap (λ (e : Option FopEvent). row_if e c.args.value c.args.work) c.in_default.is)

pub returns : goal.returns
unfolding row_if
returns c =
    let a = c.args in
    let w = a.work in
    c.to_state.ensures
    ∙ ap (to_state c.filled_cell-asked.result.next) c.perform_all.ensures
    ∙ ap (filled_asked_done a.value w) (c.filled_cell-asked.ensures ∙ ap (λ (e : FopEvent). filled_by (cell78 (table78 e) w.state) w.state) c.unless_suspended-chosen.ensures)
    ∙ filled_row a.value w c.in-Some.event
    ∙ ap (λ (e : Option FopEvent). row_if e a.value w) (sym c.in-Some.is)
