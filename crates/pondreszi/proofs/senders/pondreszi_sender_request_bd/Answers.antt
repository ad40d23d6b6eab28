-- The call for any event, of a BD request.
use Rattle.sender.specs.Events.{event_of}
use Rattle.pondreszi_sender.specs.Senders.{event_call, request_bd_call}
use Rattle.pondreszi.proofs.senders.pondreszi_sender_request_bd.Goals as goal

pub returns : goal.returns
unfolding request_bd_call event_call event_of
returns c = record { number = c.event_call.ensures.number; state = c.event_call.ensures.state; store = c.event_call.ensures.store; output = c.event_call.ensures.output; answer = c.event_call.ensures.answer }
