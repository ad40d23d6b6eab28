-- The fields stored are those that the definition names.
use Rattle.std.proofs.Common.{refl}
use Rattle.sender_values.specs.Parts.{with_told}
use Rattle.sender_values.specs.Actions.{notify}
use Rattle.sender_values.proofs.answers.notify.Goals as goal

pub returns : goal.returns
unfolding notify with_told
returns c = refl
