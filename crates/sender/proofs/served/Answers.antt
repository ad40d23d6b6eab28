-- The lengths left are those of the units that stay, and the answer is by what serving it came to.
use mathlib.Core.Path.{ap, ◌∙◌}
use mathlib.Core.List.{List}
use Prim.Native.Nat.{ℕ}
use Rattle.base.specs.Refusals.{written_answer}
use Rattle.sender.specs.Answers.{concluded}
use Rattle.sender.proofs.Judged.{served_row}
use Rattle.sender.proofs.served.Goals as goal

pub returns : goal.returns
returns c =
    let a = c.args in
    let e = c.serve-written.ensures in
    let left = ap (λ (x : List ℕ). concluded a.event a.sender c.row-work.result x (written_answer c.serve-written.result)) c.lengths_left-lengths.ensures in
    let p = served_row a.k a.event a.value a.sender a.begun a.store.now a.output.now c.serve-written.result c.begin.ensures c.row-work.ensures
    (e.answer, (e.store, e.output)) (c.conclude.ensures ∙ left) in
    record { answer = p.0; store = p.1.0; output = p.1.1 }
