-- What the callees ensure, put together, is the definition.
use Rattle.sender_values.specs.Actions.{resumed}
use Rattle.sender_values.proofs.values.resume.Goals as goal

pub returns : goal.returns
unfolding resumed
returns c = cc
