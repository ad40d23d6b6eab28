-- The fields stored are those that the definition names.
use Rattle.std.proofs.Common.{refl}
use Rattle.sender_values.specs.Actions.{to_state}
use Rattle.sender_values.proofs.values.to_state.Goals as goal

pub returns : goal.returns
unfolding to_state
returns c = refl
