-- V(R) is beyond its limit, or the receiver is what `new` gives for the numbers narrowed.
use mathlib.Core.Path.{◌≡◌, ◌∙◌}
use borrow.Author.Rules.{rules}
use native.Mathlib.Omega.{arith}
use Rattle.pondreszi_receiver.proofs.Narrowed.{receiver_narrowed, vr_beyond, vr_within}
use Rattle.pondreszi_receiver.proofs.started.Goals as goal

pub returns-in_default : goal.returns-in_default
returns-in_default c =
    let a = c.args in
    vr_beyond a.spacecraft a.channel a.window a.vr a.buffers (omega (arith, c.in_default.ensures))

pub returns : goal.returns
returns c =
    let a = c.args in
    let n : c.in-Ok.number ≡ a.vr = search rules in
    vr_within a.spacecraft a.channel a.window a.vr a.buffers (omega (arith, n, c.try_from.ensures))
    (c.new.ensures.value
    ∙ receiver_narrowed c.in-Ok.number a.spacecraft a.channel a.window a.buffers c.narrow_u16.ensures c.narrow_u8.ensures c.narrow_u8-2.ensures c.narrow_u8-3.ensures ∙ rw n)
