-- Each way through the function is a case of the definition.
use Prim.Native.Nat.{◌<◌, ◌≤◌}
use native.Mathlib.Omega.{arith}
use Rattle.base.proofs.Tests.{tests}
use Rattle.sender_values.specs.Actions.{responses_with}
use Rattle.sender_values.proofs.answers.responses_with.Goals as goal

pub returns-then-count-lt-LARGEST_RESPONSES : goal.returns-then-count-lt-LARGEST_RESPONSES
unfolding responses_with
returns-then-count-lt-LARGEST_RESPONSES c =
    let room : c.args.responses.count < 4 = omega arith in
    simp c.from-count.ensures (search tests)

pub returns-else-count-lt-LARGEST_RESPONSES : goal.returns-else-count-lt-LARGEST_RESPONSES
unfolding responses_with
returns-else-count-lt-LARGEST_RESPONSES c =
    let full : 4 ≤ c.args.responses.count = omega arith in
    search tests
