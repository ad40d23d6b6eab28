-- The cell of the event with the number; no event asks what "Not Applicable" asks.
use mathlib.Core.Path.{sym, ap, ◌∙◌}
use Rattle.std.specs.Prelude.{Option}
use Rattle.fop.specs.declared.Event.{Event as FopEvent}
use Rattle.sender_table.specs.Cells.{asked_by, filled_by, cell_if}
use Rattle.sender_table.proofs.cell_numbered.Goals as goal

pub returns-in-Some : goal.returns-in-Some
unfolding cell_if
returns-in-Some c = c.filled_cell.ensures ∙ ap (λ (e : Option FopEvent). cell_if e c.args.state) (sym c.in-Some.is ∙ c.numbered.ensures)

pub returns-in-None : goal.returns-in-None
unfolding asked_by filled_by cell_if
returns-in-None c = c.asked.ensures ∙ ap (λ (e : Option FopEvent). cell_if e c.args.state) (sym c.in-None.is ∙ c.numbered.ensures)
