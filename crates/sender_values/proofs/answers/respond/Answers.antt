-- What the callees ensure, put together, is the definition.
use Rattle.sender_values.specs.Parts.{with_told}
use Rattle.sender_values.specs.Actions.{respond}
use Rattle.sender_values.proofs.answers.respond.Goals as goal

pub returns : goal.returns
unfolding respond with_told
returns c = cc
