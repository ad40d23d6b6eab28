-- Too short a store is refused; else the frame is written, and the store changes where it is.
use mathlib.Core.Path.{◌≡◌, ap, ◌∙◌}
use borrow.Author.Rules.{rules}
use Rattle.std.specs.Prelude.{Ok, Err}
use Rattle.base.specs.Refusals.{written_answer}
use Rattle.sender.specs.Answers.{stored}
use Rattle.sender.specs.Events.{store_served}
use Rattle.sender.proofs.Steps.{Written}
use Rattle.sender.proofs.Judged.{served_short, served_on}
use Rattle.sender.proofs.serve.Goals as goal

pub returns-then-not-suffices : goal.returns-then-not-suffices
returns-then-not-suffices c =
    let a = c.args in
    let p = served_short a.k a.sender a.work a.store.now a.output.now c.suffices.ensures c.if-not-suffices.true in
    record { answer = p.0; store = p.1.0; output = p.1.1 }

pub returns-in_err-count : goal.returns-in_err-count
returns-in_err-count c =
    let a = c.args in
    let refusal = c.in_err-count.field-0.0 in
    let e : ◌≡◌ {A = Written} c.from_residual.result (Err refusal) = search rules in
    let n = c.in_err-count.ensures in
    let p = served_on a.k a.sender a.work a.store.now a.output.now c.suffices.ensures (Err refusal) c.if-not-suffices.false
    (n.answer, (ap (λ y. stored y (store_served a.sender a.work a.store.now) a.store.now) n.answer, n.memory)) in
    record { answer = ap written_answer e ∙ p.0; store = p.1.0; output = p.1.1 }

pub returns : goal.returns
returns c =
    let a = c.args in
    let n = c.in_ok-count.ensures in
    let p = served_on a.k a.sender a.work a.store.now a.output.now c.suffices.ensures (Ok c.in_ok-count.count) c.if-not-suffices.false
    (n.answer, (c.remove_oldest.ensures ∙ ap (λ y. stored y (store_served a.sender a.work a.store.now) a.store.now) n.answer, n.memory)) in
    record { answer = p.0; store = p.1.0; output = p.1.1 }
