-- What the callees ensure, put together, is the definition.
use Rattle.sender_values.specs.Actions.{purge_sent_queue}
use Rattle.sender_release.proofs.purge_sent_queue.Goals as goal

pub returns : goal.returns
unfolding purge_sent_queue
returns c = cc
