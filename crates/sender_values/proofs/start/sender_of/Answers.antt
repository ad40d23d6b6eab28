-- The fields made are those of the definition.
use Rattle.std.proofs.Common.{refl}
use Rattle.sender_values.specs.Start.{sender_of}
use Rattle.sender_values.proofs.start.sender_of.Goals as goal

pub returns : goal.returns
unfolding sender_of
returns c = refl
