-- What the callees ensure, put together, is the definition.
use Rattle.sender_values.specs.Parts.{with_queues}
use Rattle.sender_values.specs.Actions.{add_to_wait_queue}
use Rattle.sender_release.proofs.entries.add_to_wait_queue.Goals as goal

pub returns : goal.returns
unfolding add_to_wait_queue with_queues
returns c = cc
