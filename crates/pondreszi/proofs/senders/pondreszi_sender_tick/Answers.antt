-- The call for any event, of a tick.
use Rattle.sender.specs.Events.{event_of}
use Rattle.pondreszi_sender.specs.Senders.{event_call, tick_call}
use Rattle.pondreszi.proofs.senders.pondreszi_sender_tick.Goals as goal

pub returns : goal.returns
unfolding tick_call event_call event_of
returns c = record { number = c.event_call.ensures.number; state = c.event_call.ensures.state; store = c.event_call.ensures.store; output = c.event_call.ensures.output; answer = c.event_call.ensures.answer }
