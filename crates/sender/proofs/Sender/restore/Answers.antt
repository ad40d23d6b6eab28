-- The state is judged, then taken as it stands.
use mathlib.Core.Path.{refl}
use Rattle.sender.proofs.Starts.{restored, restored_not}
use Rattle.sender.proofs.Sender.restore.Goals as goal

pub returns-then-not-well_formed : goal.returns-then-not-well_formed
returns-then-not-well_formed c = restored_not c.args.state c.well_formed-2.result c.well_formed-2.ensures _ c.if-not-well_formed.true refl

pub returns : goal.returns
returns c = restored c.args.state c.well_formed-2.result c.well_formed-2.ensures c.if-not-well_formed.false
