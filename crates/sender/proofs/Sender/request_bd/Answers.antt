-- The request is refused, or taken by its row.
use mathlib.Core.Path.{refl, sym, ap, ◌∙◌}
use Rattle.base.specs.Refusals.{result_number}
use Rattle.base.proofs.Refusals.{some_number}
use Rattle.sender.specs.Events.{request_bd_of}
use Rattle.sender.proofs.Judged.{request_refused, request_taken, bd_row, bd_step}
use Rattle.sender.proofs.Sender.request_bd.Goals as goal

pub returns-in-Err : goal.returns-in-Err
unfolding request_bd_of
returns-in-Err c =
    let a = c.args in
    let p = request_refused bd_step a.self.fop a.unit.now a.store.now a.output.now (sym (ap result_number c.in-Err.is) ∙ c.request_refusal.ensures.number)
    (some_number c.in-Err.refusal) c.refused.ensures in
    record { answer = p.0; store = p.1.0; output = p.1.1 }

pub returns : goal.returns
unfolding request_bd_of
returns c =
    let a = c.args in
    let p = request_taken bd_step a.self.fop a.unit.now a.store.now a.output.now (sym (ap result_number c.in_default.is) ∙ c.request_refusal.ensures.number) refl
    (bd_row a.self.fop a.unit.now a.store.now a.output.now c.bd_event-event.ensures c.begin.ensures c.row-work.ensures (c.bypass_work.ensures.answer, c.bypass_work.ensures.output)) in
    record { answer = p.0; store = p.1.0; output = p.1.1 }
