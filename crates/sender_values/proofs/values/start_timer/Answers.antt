-- The fields stored are those that the definition names.
use Rattle.std.proofs.Common.{refl}
use Rattle.sender_values.specs.Parts.{with_variables}
use Rattle.sender_values.specs.Actions.{start_timer}
use Rattle.sender_values.proofs.values.start_timer.Goals as goal

pub returns : goal.returns
unfolding start_timer with_variables
returns c = refl
