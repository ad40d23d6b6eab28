-- What `write_ad` answered to the numbers narrowed, told by `told_written`.
use Rattle.pondreszi_numbers.proofs.Told.{told_as}
use Rattle.pondreszi.proofs.Narrowed.{ad_narrowed}
use Rattle.pondreszi.proofs.frames.pondreszi_frame_write_ad.Goals as goal

pub returns : goal.returns
returns c =
    let a = c.args in
    let p = told_as a.output.now
    (ad_narrowed a.spacecraft a.channel a.number _ c.with_number-judged.ensures c.narrow_u16-own_spacecraft.ensures c.narrow_u8-own_channel.ensures c.narrow_u8-sequence_number.ensures
    a.unit.now) (c.write_ad-written.ensures.answer, c.write_ad-written.ensures.memory) (c.told_written.ensures.number, c.told_written.ensures.counted) in record { number = p.0; memory = p.1.0; counted = p.1.1 }
