-- The fields stored are those that the definition names.
use Rattle.std.proofs.Common.{refl}
use Rattle.sender_values.specs.Parts.{with_told}
use Rattle.sender_values.specs.Actions.{suspend}
use Rattle.sender_values.proofs.answers.suspend.Goals as goal

pub returns : goal.returns
unfolding suspend with_told
returns c = refl
