-- The request is refused, or taken by its row.
use mathlib.Core.Path.{refl, sym, ap, ◌∙◌}
use Rattle.base.specs.Refusals.{result_number}
use Rattle.base.proofs.Refusals.{some_number}
use Rattle.sender.specs.Events.{request_ad_of}
use Rattle.sender.proofs.Judged.{request_refused, request_taken, ad_row, ad_step}
use Rattle.sender.proofs.Sender.request_ad.Goals as goal

pub returns-in-Err : goal.returns-in-Err
unfolding request_ad_of
returns-in-Err c =
    let a = c.args in
    let p = request_refused ad_step a.self.fop a.unit.now a.store.now a.output.now (sym (ap result_number c.in-Err.is) ∙ c.request_refusal.ensures.number)
    (some_number c.in-Err.refusal) c.refused.ensures in
    record { answer = p.0; store = p.1.0; output = p.1.1 }

pub offer_work-requires : goal.offer_work-requires
offer_work-requires c = c.in_default.ensures.fits

pub returns : goal.returns
unfolding request_ad_of
returns c =
    let a = c.args in
    let p = request_taken ad_step a.self.fop a.unit.now a.store.now a.output.now (sym (ap result_number c.in_default.is) ∙ c.request_refusal.ensures.number) refl
    (ad_row a.self.fop a.unit.now a.store.now a.output.now c.ad_event-event.ensures c.begin.ensures c.row-work.ensures (c.offer_work.ensures.answer, (c.offer_work.ensures.store, c.offer_work.ensures.output))) in
    record { answer = p.0; store = p.1.0; output = p.1.1 }
