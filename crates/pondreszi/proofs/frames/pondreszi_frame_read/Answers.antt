-- What `frame::read` answered to the address narrowed, told by `told_reading`.
use mathlib.Core.Path.{◌∙◌}
use Rattle.pondreszi.proofs.Narrowed.{reading_narrowed}
use Rattle.pondreszi.proofs.frames.pondreszi_frame_read.Goals as goal

pub returns : goal.returns
returns c =
    let a = c.args in
    let e = c.read-reading.ensures.value
    ∙ reading_narrowed a.octets.now (λ i. (c.shared_slice_known-1.given i).fits) a.spacecraft a.channel c.narrow_u16-own_spacecraft.ensures c.narrow_u8-own_channel.ensures in
    rw (← e) record { number = c.told_reading.ensures.number; kinds = c.told_reading.ensures.kinds; values = c.told_reading.ensures.values; totals = c.told_reading.ensures.totals; fields = c.told_reading.ensures.fields }
