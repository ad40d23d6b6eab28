-- What the callees ensure, put together, is the definition.
use Rattle.sender_values.specs.Actions.{transmit_unlock}
use Rattle.sender_transmit.proofs.transmit_unlock.Goals as goal

pub returns : goal.returns
unfolding transmit_unlock
returns c = cc
