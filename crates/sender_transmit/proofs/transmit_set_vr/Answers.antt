-- What the callees ensure, put together, is the definition.
use Rattle.sender_values.specs.Actions.{transmit_set_vr}
use Rattle.sender_transmit.proofs.transmit_set_vr.Goals as goal

pub returns : goal.returns
unfolding transmit_set_vr
returns c = cc
