-- What the callees ensure, put together, is the definition.
use Rattle.sender_values.specs.Parts.{with_variables}
use Rattle.sender_values.specs.Actions.{again}
use Rattle.sender_transmit.proofs.again.Goals as goal

pub returns : goal.returns
unfolding again with_variables
returns c = cc
