-- Refused where the octets are no state; else what `receive` answered, put into numbers, and the next receiver's state over the old one.
use mathlib.Core.Path.{refl, sym, ap, ◌∙◌}
use Rattle.base.specs.Refusals.{optional_number}
use Rattle.pondreszi_receiver.proofs.ReceiverCalls.{frame_refused_lem, frame_met, unit_length, kept_whole}
use Rattle.pondreszi_receiver.proofs.frame_call.Goals as goal

pub returns-in-Err : goal.returns-in-Err
returns-in-Err c =
    rw (frame_refused_lem c.args.state.now c.receiver_in.ensures.value c.in-Err.is c.args.frame.now)
    record { number = c.number.ensures; events = refl; units = refl; places = refl; counts = refl; states = refl }

pub returns-in-Some : goal.returns-in-Some
returns-in-Some c =
    let a = c.args in
    let z = c.keep.ensures ∙ kept_whole a.state.now c.receiver_in.ensures.value c.in-Ok.is c.receive-received.result.next in
    rw (frame_met a.state.now c.receiver_in.ensures.value c.in-Ok.is a.frame.now c.receive-received.ensures)
    record { number = c.number-in-Some.ensures ∙ sym (ap optional_number c.in-Some.is); events = c.event_number.ensures; units = c.unit_number.ensures; places = c.unit_place.ensures; counts = unit_length _ _ c.receive-received.ensures c.unit_count.ensures; states = z }

pub returns-in-None : goal.returns-in-None
returns-in-None c =
    let a = c.args in
    let z = c.keep.ensures ∙ kept_whole a.state.now c.receiver_in.ensures.value c.in-Ok.is c.receive-received.result.next in
    rw (frame_met a.state.now c.receiver_in.ensures.value c.in-Ok.is a.frame.now c.receive-received.ensures)
    record { number = sym (ap optional_number c.in-None.is); events = c.event_number.ensures; units = c.unit_number.ensures; places = c.unit_place.ensures; counts = unit_length _ _ c.receive-received.ensures c.unit_count.ensures; states = z }
