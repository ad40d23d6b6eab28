-- What the callees ensure, put together, is the definition.
use mathlib.Core.Path.{◌≡◌, ◌∙◌}
use Prim.Native.Nat.{ℕ, min}
use native.Mathlib.Omega.{arith}
use Rattle.base.proofs.Tests.{tests}
use Rattle.sender_values.specs.Parts.{with_told, with_queues, with_variables}
use Rattle.sender_values.specs.Actions.{least, remove_acknowledged_frames}
use Rattle.sender_release.proofs.remove_acknowledged_frames.Goals as goal

least_min : (a b : ℕ) → min a b ≡ least a b
least_min a b = grind (arith, tests)

pub returns : goal.returns
unfolding remove_acknowledged_frames with_told with_queues with_variables
returns c =
    let m : c.min-work.result ≡ least c.args.work.queues.marked c.staying-rest.result = c.min-work.ensures ∙ least_min _ _ in
    cc
