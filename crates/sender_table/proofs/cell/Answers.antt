-- The rows of the data say what table 7-8 says: the checker compares them by computing. A cell without an action is Not Applicable and names no next
-- state, any other names its own.
use mathlib.Core.Path.{refl, sym, ap, ◌∙◌}
use Rattle.std.specs.Prelude.{Option, Some, unwrap_or}
use Rattle.fop.specs.declared.State.{State}
use Rattle.fop.specs.Table.{table78}
use Rattle.sender_table.specs.Cells.{Asked, asked_by, asked_in}
use Rattle.sender_table.proofs.Cells.{tells}
use Rattle.sender_table.proofs.Next.{none_named, some_named}
use Rattle.sender_table.proofs.cell.Goals as goal
use Rattle.sender_table.proofs.cell.Goals.{in-empty, in_default}

pub cell_in-cell-requires : goal.cell_in-cell-requires
unfolding table78 asked_by
cell_in-cell-requires c = tells _ (λ missing. refl)

pub returns-clause-asked : goal.returns-clause-asked
returns-clause-asked c =
    let a = c.args in
    let x = c.cell_in-cell.result in
    let named : Option State → Asked = λ n. asked_in (record { actions = x.actions; next = n }) a.state in
    elim c.if-cell-lt1.branch [
      | in-empty w ↦ ap named w.next-is ∙ (none_named a.event a.state x.actions.now (unwrap_or x.next a.state) c.cell_in-cell.ensures w.in-empty.len_below).1
      | in_default w ↦ ap named w.next-is ∙ ap (λ (n : State). named (Some n)) w.unwrap_or.ensures ∙ c.cell_in-cell.ensures
    ]

pub returns-clause-next : goal.returns-clause-next
returns-clause-next c =
    let a = c.args in
    let x = c.cell_in-cell.result in
    elim c.if-cell-lt1.branch [
      | in-empty w ↦ w.next-is ∙ sym (none_named a.event a.state x.actions.now (unwrap_or x.next a.state) c.cell_in-cell.ensures w.in-empty.len_below).0
      | in_default w ↦
          w.next-is ∙ ap Some w.unwrap_or.ensures
          ∙ sym (some_named a.event a.state x.actions.now (unwrap_or x.next a.state) c.cell_in-cell.ensures w.in_default.len_at_least)
    ]
