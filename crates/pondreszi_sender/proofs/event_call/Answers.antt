-- The octets are no state, the answer has no room, or the event is told.
use native.Mathlib.Omega.{arith}
use Rattle.sender.specs.Events.{event_of}
use Rattle.pondreszi_sender.specs.Senders.{event_call}
use Rattle.pondreszi_sender.proofs.SenderCalls.{no_state, no_room, done}
use Rattle.pondreszi_sender.proofs.event_call.Goals as goal

pub returns-in-Err : goal.returns-in-Err
unfolding event_call
returns-in-Err c =
    let a = c.args in
    let p = no_state (λ s. event_of a.event a.octets.now s a.store.now a.output.now) a.state.now a.store.now a.output.now a.answer.now c.sender_in.ensures c.in-Err.is c.number-in-Err.ensures in record { number = p.0; state = p.1.0; store = p.1.1.0; output = p.1.1.1.0; answer = p.1.1.1.1 }

pub returns-in-Ok-2 : goal.returns-in-Ok-2
unfolding event_call
returns-in-Ok-2 c =
    let a = c.args in
    let p = no_room (λ s. event_of a.event a.octets.now s a.store.now a.output.now) a.state.now a.store.now a.output.now a.answer.now c.sender_in.ensures c.in-Ok-2.is (omega (arith, c.if-answer-ge-ANSWER_OCTETS.false)) c.number.ensures in record { number = p.0; state = p.1.0; store = p.1.1.0; output = p.1.1.1.0; answer = p.1.1.1.1 }

pub returns-in-Ok : goal.returns-in-Ok
unfolding event_call
returns-in-Ok c =
    let a = c.args in
    let p = done (λ s. event_of a.event a.octets.now s a.store.now a.output.now) a.state.now a.store.now a.output.now a.answer.now c.sender_in.ensures c.in-Ok.is (omega (arith, c.if-answer-ge-ANSWER_OCTETS.true)) (c.event-told.ensures.answer, (c.event-told.ensures.store, c.event-told.ensures.output)) (c.tell.ensures.number, (c.tell.ensures.state, c.tell.ensures.answer)) in record { number = p.0; state = p.1.0; store = p.1.1.0; output = p.1.1.1.0; answer = p.1.1.1.1 }
