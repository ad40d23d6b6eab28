-- The fields stored are those that the definition names.
use mathlib.Core.Path.{refl}
use Rattle.sender_values.specs.Parts.{with_queues}
use Rattle.sender_values.specs.Actions.{not_waiting}
use Rattle.sender_release.proofs.not_waiting.Goals as goal

pub returns : goal.returns
unfolding not_waiting with_queues
returns c = refl
