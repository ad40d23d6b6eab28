-- The fields stored are those that the definition names.
use Rattle.std.proofs.Common.{refl}
use Rattle.sender_values.specs.Parts.{with_told}
use Rattle.sender_values.specs.Actions.{abort}
use Rattle.sender_values.proofs.answers.abort.Goals as goal

pub returns : goal.returns
unfolding abort with_told
returns c = refl
