-- The actions from an index on are the one there and those behind it; at the end there is none.
use mathlib.Core.Path.{sym, ap, ◌∙◌}
use mathlib.Core.List.{List}
use Prim.Native.Nat.{◌+◌}
use lib.ListN.{drop}
use Rattle.std.proofs.lemmas.List.{drop_more, drop_all}
use Rattle.fop.specs.declared.Action.{Action}
use Rattle.fop.specs.declared.Action.TheVariants.{Ignore}
use Rattle.sender_table.specs.Rows.{done_all}
use Rattle.sender_rows.proofs.perform_all.Goals as goal

pub loop-action-preserved : goal.loop-action-preserved
unfolding done_all
loop-action-preserved c =
    let a = c.args in
    let l = c.loop-action in
    ap (done_all (drop (l.action-index + 1) a.actions.now) a.value) c.perform-work.ensures
    ∙ ap (λ (s : List Action). done_all s a.value l.work) (sym (drop_more a.actions.now l.action-index Ignore c.loop-action-test.true))
    ∙ l.invariant

pub returns : goal.returns
unfolding done_all
returns c =
    let a = c.args in
    let l = c.loop-action in
    sym (ap (λ (s : List Action). done_all s a.value l.work) (drop_all l.action-index a.actions.now c.loop-action-test.false)) ∙ l.invariant
