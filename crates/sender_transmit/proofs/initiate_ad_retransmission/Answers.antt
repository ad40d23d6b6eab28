-- What the callees ensure, put together, is the definition.
use Rattle.sender_values.specs.Parts.{with_queues}
use Rattle.sender_values.specs.Actions.{initiate_ad_retransmission}
use Rattle.sender_transmit.proofs.initiate_ad_retransmission.Goals as goal

pub returns : goal.returns
unfolding initiate_ad_retransmission with_queues
returns c = cc
