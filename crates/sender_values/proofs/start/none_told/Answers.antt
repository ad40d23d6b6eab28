-- The fields made are those of the definition.
use Rattle.std.proofs.Common.{refl}
use Rattle.sender_values.specs.Start.{none_told}
use Rattle.sender_values.proofs.start.none_told.Goals as goal

pub returns : goal.returns
unfolding none_told
returns c = refl
