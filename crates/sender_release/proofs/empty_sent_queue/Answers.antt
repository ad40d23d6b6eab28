-- What the callees ensure, put together, is the definition.
use Rattle.sender_values.specs.Parts.{with_told, with_queues}
use Rattle.sender_values.specs.Actions.{emptied}
use Rattle.sender_release.proofs.empty_sent_queue.Goals as goal

pub returns : goal.returns
unfolding emptied with_told with_queues
returns c = cc
