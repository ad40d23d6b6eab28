-- What the callees ensure, put together, is the definition.
use Rattle.sender_values.specs.Actions.{alert}
use Rattle.sender_release.proofs.alert.Goals as goal

pub returns : goal.returns
unfolding alert
returns c = cc
