-- The rows of the filled data say what table 7-8 says: the checker compares them by computing.
use mathlib.Core.Path.{refl}
use Rattle.fop.specs.Table.{table78}
use Rattle.sender_table.specs.Cells.{asked_by, filled_by}
use Rattle.sender_table.proofs.Cells.{tells_filled}
use Rattle.sender_table.proofs.filled_cell.Goals as goal

pub filled_cell_in-requires : goal.filled_cell_in-requires
unfolding table78 asked_by filled_by
filled_cell_in-requires c = tells_filled _ (λ missing. refl)
