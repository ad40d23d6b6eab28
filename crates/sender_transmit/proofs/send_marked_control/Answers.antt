-- Each way through the function is a case of the definition.
use Rattle.sender_transmit.proofs.Ways.{control_marked_lem, control_unmarked, control_not_ready}
use Rattle.sender_transmit.proofs.send_marked_control.Goals as goal
use Rattle.sender_transmit.proofs.send_marked_control.Goals.{else-work-via-then-work+else-work-2, else-work-via-else-work}

pub returns-then-work-2 : goal.returns-then-work-2
returns-then-work-2 c = search control_marked_lem

pub returns : goal.returns
returns c =
    elim c.else-work.branch [ else-work-via-then-work+else-work-2 w ↦ search control_unmarked | else-work-via-else-work w ↦ search control_not_ready ]
