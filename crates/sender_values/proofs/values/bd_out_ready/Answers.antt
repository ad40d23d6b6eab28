-- The fields stored are those that the definition names.
use Rattle.std.proofs.Common.{refl}
use Rattle.sender_values.specs.Parts.{with_variables}
use Rattle.sender_values.specs.Actions.{bd_out_ready}
use Rattle.sender_values.proofs.values.bd_out_ready.Goals as goal

pub returns : goal.returns
unfolding bd_out_ready with_variables
returns c = refl
