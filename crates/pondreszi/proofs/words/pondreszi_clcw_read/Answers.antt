-- What `Clcw::read` answered to the channel narrowed, told by `told_reading`.
use mathlib.Core.Path.{◌∙◌}
use Rattle.pondreszi.proofs.Narrowed.{word_reading_narrowed}
use Rattle.pondreszi.proofs.words.pondreszi_clcw_read.Goals as goal

pub returns : goal.returns
returns c =
    let a = c.args in
    let e = c.read-reading.ensures.value
    ∙ word_reading_narrowed a.octets.now (λ i. (c.shared_slice_known-1.given i).fits) a.channel c.narrow_u8-own_channel.ensures in
    rw (← e) record { number = c.told_reading.ensures.number; validity = c.told_reading.ensures.validity; statuses = c.told_reading.ensures.statuses; radio = c.told_reading.ensures.radio; flagged = c.told_reading.ensures.flagged; counters = c.told_reading.ensures.counters; reports = c.told_reading.ensures.reports }
