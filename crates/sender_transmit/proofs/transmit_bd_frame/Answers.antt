-- What the callees ensure, put together, is the definition.
use Rattle.sender_values.specs.Parts.{with_variables}
use Rattle.sender_values.specs.Actions.{transmit_bd_frame}
use Rattle.sender_transmit.proofs.transmit_bd_frame.Goals as goal

pub returns : goal.returns
unfolding transmit_bd_frame with_variables
returns c = cc
