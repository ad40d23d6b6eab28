-- The fields stored are those that the definition names.
use Rattle.std.proofs.Common.{refl}
use Rattle.sender_values.specs.Parts.{with_settings}
use Rattle.sender_values.specs.Actions.{set_t1_initial}
use Rattle.sender_values.proofs.values.set_t1_initial.Goals as goal

pub returns : goal.returns
unfolding set_t1_initial with_settings
returns c = refl
