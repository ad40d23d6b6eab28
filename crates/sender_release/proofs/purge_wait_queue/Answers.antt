-- Each way through the function is a case of the definition.
use Rattle.sender_release.proofs.Ways.{purge_waiting, purge_none}
use Rattle.sender_release.proofs.purge_wait_queue.Goals as goal

pub returns-then-work : goal.returns-then-work
returns-then-work c = search purge_waiting

pub returns : goal.returns
returns c = search purge_none
