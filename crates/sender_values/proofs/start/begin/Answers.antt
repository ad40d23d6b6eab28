-- What the callees ensure, put together, is the definition.
use Rattle.sender_values.specs.Start.{begun}
use Rattle.sender_values.proofs.start.begin.Goals as goal

pub returns : goal.returns
unfolding begun
returns c = cc
