-- The number is none, or the call for any event, of an answer of the lower layer.
use native.Mathlib.Omega.{arith}
use mathlib.Core.List.{[]}
use Rattle.pondreszi_sender.specs.Senders.{lower_call}
use Rattle.pondreszi_sender.proofs.SenderCalls.{Leaves, lower_below, lower_above, lower_within}
use Rattle.pondreszi.proofs.senders.pondreszi_sender_lower_layer.Goals.{in_default-via-then-number-lt1, in_default-via-else-number-lt1+else-number-lt7}
use Rattle.pondreszi.proofs.senders.pondreszi_sender_lower_layer.Goals as goal

pub returns-in_default : goal.returns-in_default
returns-in_default c =
    let a = c.args in
    let p : Leaves c.number.result a.state.now a.store.now a.output.now a.answer.now (lower_call a.state.now a.number a.store.now a.output.now a.answer.now) =
    elim c.in_default.branch [
      | in_default-via-then-number-lt1 w ↦ lower_below a.number a.state.now a.store.now a.output.now a.answer.now (omega arith) c.number.ensures
      | in_default-via-else-number-lt1+else-number-lt7 w ↦ lower_above a.number a.state.now a.store.now a.output.now a.answer.now (omega arith) c.number.ensures
    ] in record { number = p.0; state = p.1.0; store = p.1.1.0; output = p.1.1.1.0; answer = p.1.1.1.1 }

pub returns-in-1-to-6 : goal.returns-in-1-to-6
returns-in-1-to-6 c =
    let a = c.args in
    let p = lower_within a.number a.state.now a.store.now a.output.now a.answer.now [] (omega arith) (omega arith)
    c.lower_numbered.ensures (c.event_call.ensures.number, (c.event_call.ensures.state, (c.event_call.ensures.store, (c.event_call.ensures.output, c.event_call.ensures.answer)))) in record { number = p.0; state = p.1.0; store = p.1.1.0; output = p.1.1.1.0; answer = p.1.1.1.1 }
