-- The loop's invariant: the actions that are left, on the work so far, are all of them on the work at the start.
use mathlib.Core.Path.{◌≡◌}
use lib.ListN.{drop}
use Rattle.sender_table.specs.Rows.{done_all}
use Rattle.sender_rows.proofs.perform_all.Given as goal

abbrev pub invariant-loop-action : goal.invariant-loop-action
invariant-loop-action l = done_all (drop l.action-index l.actions) l.value l.work ≡ done_all l.fn.actions l.value l.initial.work
