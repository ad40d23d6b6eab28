-- The start is refused, its state does not fit, or it is put at the front of the buffer.
use mathlib.Core.Path.{ap, ◌∙◌}
use native.Mathlib.Omega.{arith}
use Rattle.memory.specs.Placed.{placed}
use Rattle.pondreszi_sender.specs.Senders.{new_call}
use Rattle.pondreszi_sender.proofs.SenderCalls.{start_refused, start_no_room, start_done}
use Rattle.pondreszi.proofs.senders.pondreszi_sender_new.Goals as goal

pub returns-in-Err : goal.returns-in-Err
unfolding new_call
returns-in-Err c =
    let p = start_refused c.args.state.now c.started-start.ensures c.in-Err.is c.number-in-Err.ensures in record { number = p.0; state = p.1 }

pub returns-in-Ok : goal.returns-in-Ok
unfolding new_call
returns-in-Ok c =
    let p = start_no_room c.args.state.now c.started-start.ensures c.in-Ok.is (omega (arith, c.if-state-lt-STATE_OCTETS.true)) c.number.ensures in record { number = p.0; state = p.1 }

pub returns-in-Ok-2 : goal.returns-in-Ok-2
unfolding new_call
returns-in-Ok-2 c =
    let p = start_done c.args.state.now c.started-start.ensures c.in-Ok-2.is (omega (arith, c.if-state-lt-STATE_OCTETS.false)) c.state.ensures (c.put.ensures ∙ ap (placed c.args.state.now 0) c.octets_of.ensures) in record { number = p.0; state = p.1 }
