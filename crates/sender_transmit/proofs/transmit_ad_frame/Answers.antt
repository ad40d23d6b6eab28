-- What the callees ensure, put together, is the definition.
use Rattle.sender_values.specs.Parts.{with_queues, with_variables}
use Rattle.sender_values.specs.Actions.{transmit_ad_frame}
use Rattle.sender_transmit.proofs.transmit_ad_frame.Goals as goal

pub returns : goal.returns
unfolding transmit_ad_frame with_queues with_variables
returns c = cc
