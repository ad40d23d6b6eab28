-- What `write_set_vr` answered to the numbers narrowed, told by `told_written`.
use Rattle.pondreszi_numbers.proofs.Told.{told_as}
use Rattle.pondreszi.proofs.Narrowed.{set_vr_narrowed}
use Rattle.pondreszi.proofs.frames.pondreszi_frame_write_set_vr.Goals as goal

pub returns : goal.returns
returns c =
    let a = c.args in
    let p = told_as a.output.now
    (set_vr_narrowed a.spacecraft a.channel a.value _ c.with_number-judged.ensures c.narrow_u16-own_spacecraft.ensures c.narrow_u8-own_channel.ensures c.narrow_u8-set_value.ensures)
    (c.write_set_vr-written.ensures.answer, c.write_set_vr-written.ensures.memory) (c.told_written.ensures.number, c.told_written.ensures.counted) in record { number = p.0; memory = p.1.0; counted = p.1.1 }
