-- What `write` answered to the numbers narrowed, told by `told_written`.
use mathlib.Core.Bool.{not}
use lib.Dec.{eqb}
use Rattle.pondreszi_numbers.proofs.Told.{told_as}
use Rattle.pondreszi.proofs.Narrowed.{word_narrowed}
use Rattle.pondreszi.proofs.words.pondreszi_clcw_write.Goals as goal

pub returns : goal.returns
returns c =
    let a = c.args in
    let p = told_as a.output.now
    (word_narrowed (not (eqb a.lockout 0)) (not (eqb a.wait 0)) (not (eqb a.retransmit 0)) _ a.channel a.counter a.report
    c.with_number-judged.ensures c.narrow_u8-own_channel.ensures c.narrow_u8-farm_b_counter.ensures c.narrow_u8-report_value.ensures)
    (c.write-written.ensures.answer, c.write-written.ensures.memory) (c.told_written.ensures.number, c.told_written.ensures.counted) in record { number = p.0; memory = p.1.0; counted = p.1.1 }
