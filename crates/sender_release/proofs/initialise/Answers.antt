-- What the callees ensure, put together, is the definition.
use Rattle.sender_values.specs.Actions.{initialise}
use Rattle.sender_release.proofs.initialise.Goals as goal

pub returns : goal.returns
unfolding initialise
returns c = cc
