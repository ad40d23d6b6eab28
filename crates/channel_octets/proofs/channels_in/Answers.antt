use Rattle.std.proofs.Common.{◌/◌, ◌<◌, length, arith}
use Rattle.channels.specs.Limits.{largest_channels}
use Rattle.channel_table.proofs.Lists.{few_fits}
use Rattle.channel_octets.specs.Kept.{record_octets}
use Rattle.channel_octets.proofs.Taken.{none_taken, one_taken, all_taken}
use Rattle.channel_octets.proofs.channels_in.Goals as goal

pub loop-place-init : goal.loop-place-init
loop-place-init c =
    let a = c.args in
    none_taken a.spacecraft a.pool a.table.now c.empty-channels.result c.empty-channels.ensures

pub loop-place-preserved : goal.loop-place-preserved
loop-place-preserved c =
    let a = c.args in
    let o = a.table.now in
    let k = few_fits (length o / record_octets) in
    let i = c.loop-place.place in
    let here : i < length o / record_octets = omega (arith, c.few-place-end.ensures, k.0) in
    let eight : i < largest_channels = omega (arith, c.few-place-end.ensures, k.1) in
    one_taken a.spacecraft a.pool o i here eight c.loop-place.channels c.with_record-channels.result c.record_in.result c.loop-place.invariant c.record_in.ensures c.with_record-channels.ensures

pub returns : goal.returns
returns c =
    let a = c.args in
    all_taken a.spacecraft a.pool a.table.now c.few-place-end.result c.loop-place.place c.few-place-end.ensures (omega arith) c.loop-place.channels c.loop-place.invariant
