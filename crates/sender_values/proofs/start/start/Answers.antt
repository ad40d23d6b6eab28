-- The fields made are those of the definition.
use Rattle.std.proofs.Common.{refl}
use Rattle.sender_values.specs.Start.{start_of}
use Rattle.sender_values.proofs.start.start.Goals as goal

pub returns : goal.returns
unfolding start_of
returns c = refl
