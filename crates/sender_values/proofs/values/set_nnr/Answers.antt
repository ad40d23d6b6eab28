-- The fields stored are those that the definition names.
use Rattle.std.proofs.Common.{refl}
use Rattle.sender_values.specs.Parts.{with_variables}
use Rattle.sender_values.specs.Actions.{set_nnr}
use Rattle.sender_values.proofs.values.set_nnr.Goals as goal

pub returns : goal.returns
unfolding set_nnr with_variables
returns c = refl
