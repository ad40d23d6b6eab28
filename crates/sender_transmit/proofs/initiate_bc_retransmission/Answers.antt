-- What the callees ensure, put together, is the definition.
use Rattle.sender_values.specs.Parts.{with_queues}
use Rattle.sender_values.specs.Actions.{initiate_bc_retransmission, hold_control}
use Rattle.sender_transmit.proofs.initiate_bc_retransmission.Goals as goal

pub returns : goal.returns
unfolding initiate_bc_retransmission hold_control with_queues
returns c = cc
