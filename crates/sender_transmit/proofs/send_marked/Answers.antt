-- What the callees ensure, put together, is the definition.
use Rattle.std.proofs.Common.{◌≡◌}
use Rattle.base.specs.Modulo.{offset}
use Rattle.sender_values.specs.Parts.{with_queues, with_variables}
use Rattle.sender_values.specs.Actions.{send_marked}
use Rattle.sender_transmit.proofs.send_marked.Goals as goal

pub returns : goal.returns
unfolding send_marked with_queues with_variables
returns c =
    let w = c.args.work in
    let oldest : c.difference-place.result ≡ offset w.queues.sent w.queues.marked =
    c.difference-place.ensures in
    cc
