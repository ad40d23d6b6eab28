-- What the callees ensure, put together, is the definition.
use Rattle.sender_values.specs.Actions.{release_bc_frame}
use Rattle.sender_release.proofs.entries.release_bc_frame.Goals as goal

pub returns : goal.returns
unfolding release_bc_frame
returns c = cc
