-- Refused where the octets are no state; else what `word` answered, put into numbers by `told_written`.
use mathlib.Core.Path.{refl, sym, ◌∙◌}
use lib.ListN.{length}
use Rattle.pondreszi_numbers.proofs.Told.{told_by_lem}
use Rattle.pondreszi_receiver.proofs.ReceiverCalls.{no_state, word_refused, word_met}
use Rattle.pondreszi_receiver.proofs.word_call.Goals as goal

pub returns-in-Err : goal.returns-in-Err
returns-in-Err c =
    let a = c.args in
    let t = c.told_written-in-Err.ensures in
    rw (word_refused a.state.now c.receiver_in.ensures.value c.in-Err.is (length a.output.now))
    record { number = t.number ∙ sym (no_state a.state.now c.receiver_in.ensures.value c.in-Err.is).1; memory = refl; counted = t.counted }

pub returns-in-Ok : goal.returns-in-Ok
returns-in-Ok c =
    let a = c.args in
    let p = told_by_lem (c.word.ensures.answer, c.word.ensures.memory) (c.told_written.ensures.number, c.told_written.ensures.counted) in
    rw (word_met a.state.now c.receiver_in.ensures.value c.in-Ok.is (length a.output.now)) record { number = p.0; memory = p.1.0; counted = p.1.1 }
