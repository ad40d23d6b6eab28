-- The invalid directive is refused; another is served by its row.
use Rattle.sender.proofs.Judged.{directive_invalid, directive_served}
use Rattle.sender.proofs.Sender.directive.Goals as goal

pub returns-in-E40 : goal.returns-in-E40
returns-in-E40 c =
    let a = c.args in
    let p = directive_invalid a.number a.value a.self.fop a.store.now a.output.now
    c.directive_event-event.ensures c.in-E40.is c.refused.ensures in record { answer = p.0; store = p.1.0; output = p.1.1 }

pub returns : goal.returns
returns c =
    let a = c.args in
    let p = directive_served a.number a.value a.self.fop a.store.now a.output.now
    c.directive_event-event.ensures c.in_default.not-E40 c.window_of-k.ensures (c.served.ensures.answer, (c.served.ensures.store, c.served.ensures.output)) in
    record { answer = p.0; store = p.1.0; output = p.1.1 }
