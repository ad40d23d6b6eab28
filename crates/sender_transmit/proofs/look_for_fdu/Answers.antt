-- Each way through the function is a case of the definition.
use borrow.Author.Tests.{not-true, not-false}
use Rattle.sender_transmit.proofs.Ways.{look_marked, look_new, look_full, look_none, look_not_ready}
use Rattle.sender_transmit.proofs.look_for_fdu.Goals as goal
use Rattle.sender_transmit.proofs.look_for_fdu.Goals.{else-work-via-then-work+else-in_window, else-work-via-else-work}

pub returns-then-not-work : goal.returns-then-not-work
returns-then-not-work c = search (not-true, look_not_ready)

pub returns-then-work-gt0 : goal.returns-then-work-gt0
returns-then-work-gt0 c = search (not-false, look_marked)

pub returns-then-in_window : goal.returns-then-in_window
returns-then-in_window c = search (not-false, look_new)

pub returns : goal.returns
returns c =
    elim c.else-work.branch [ else-work-via-then-work+else-in_window w ↦ search (not-false, look_full) | else-work-via-else-work w ↦ search (not-false, look_none) ]
