-- The call for any event, of the directive narrowed.
use mathlib.Core.List.{[]}
use Rattle.pondreszi_sender.proofs.SenderCalls.{directive_called}
use Rattle.pondreszi.proofs.senders.pondreszi_sender_directive.Goals as goal

pub returns : goal.returns
returns c =
    let a = c.args in
    let p = directive_called a.number a.value a.state.now [] a.store.now a.output.now a.answer.now
    c.narrow_number.ensures c.narrow_u16.ensures (c.event_call.ensures.number, (c.event_call.ensures.state, (c.event_call.ensures.store, (c.event_call.ensures.output, c.event_call.ensures.answer)))) in record { number = p.0; state = p.1.0; store = p.1.1.0; output = p.1.1.1.0; answer = p.1.1.1.1 }
