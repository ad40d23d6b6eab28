-- The fields stored are those that the definition names.
use Rattle.std.proofs.Common.{refl}
use Rattle.sender_values.specs.Parts.{with_queues}
use Rattle.sender_values.specs.Actions.{hold_control}
use Rattle.sender_values.proofs.values.hold_control.Goals as goal

pub returns : goal.returns
unfolding hold_control with_queues
returns c = refl
