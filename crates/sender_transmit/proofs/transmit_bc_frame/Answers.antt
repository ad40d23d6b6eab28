-- What the callees ensure, put together, is the definition.
use Rattle.sender_values.specs.Parts.{with_variables}
use Rattle.sender_values.specs.Actions.{transmit_bc_frame}
use Rattle.sender_transmit.proofs.transmit_bc_frame.Goals as goal

pub returns : goal.returns
unfolding transmit_bc_frame with_variables
returns c = cc
