-- What the callees ensure, put together, is the definition.
use Rattle.sender_values.specs.Parts.{with_variables, with_queues}
use Rattle.sender_values.specs.Actions.{send_control, hold_control}
use Rattle.sender_transmit.proofs.send_control.Goals as goal

pub returns : goal.returns
unfolding send_control hold_control with_variables with_queues
returns c = cc
