-- The fields stored are those that the definition names.
use Rattle.std.proofs.Common.{refl}
use Rattle.sender_values.specs.Parts.{with_told}
use Rattle.sender_values.specs.Actions.{hand_down}
use Rattle.sender_values.proofs.answers.hand_down.Goals as goal

pub returns : goal.returns
unfolding hand_down with_told
returns c = refl
