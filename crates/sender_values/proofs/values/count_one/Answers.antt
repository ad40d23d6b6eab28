-- The fields stored are those that the definition names.
use Rattle.std.proofs.Common.{refl}
use Rattle.sender_values.specs.Parts.{with_variables}
use Rattle.sender_values.specs.Actions.{count_one}
use Rattle.sender_values.proofs.values.count_one.Goals as goal

pub returns : goal.returns
unfolding count_one with_variables
returns c = refl
