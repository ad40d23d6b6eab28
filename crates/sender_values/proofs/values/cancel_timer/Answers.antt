-- The fields stored are those that the definition names.
use Rattle.std.proofs.Common.{refl}
use Rattle.sender_values.specs.Parts.{with_variables}
use Rattle.sender_values.specs.Actions.{cancel_timer}
use Rattle.sender_values.proofs.values.cancel_timer.Goals as goal

pub returns : goal.returns
unfolding cancel_timer with_variables
returns c = refl
