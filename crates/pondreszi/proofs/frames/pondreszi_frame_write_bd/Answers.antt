-- What `write_bd` answered to the address narrowed, told by `told_written`.
use Rattle.pondreszi_numbers.proofs.Told.{told_as}
use Rattle.pondreszi.proofs.Narrowed.{frame_narrowed}
use Rattle.pondreszi.proofs.frames.pondreszi_frame_write_bd.Goals as goal

pub returns : goal.returns
returns c =
    let a = c.args in
    let p = told_as a.output.now (frame_narrowed 1 0 0 a.unit.now _ a.spacecraft a.channel c.narrow_u16-own_spacecraft.ensures c.narrow_u8-own_channel.ensures)
    (c.write_bd-written.ensures.answer, c.write_bd-written.ensures.memory) (c.told_written.ensures.number, c.told_written.ensures.counted) in record { number = p.0; memory = p.1.0; counted = p.1.1 }
