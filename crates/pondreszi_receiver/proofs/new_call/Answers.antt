-- Each return is one case of `new_call`.
use borrow.Author.Rules.{rules}
use mathlib.Core.Path.{refl}
use Rattle.pondreszi_receiver.proofs.ReceiverCalls.{new_setting, new_short, new_kept_lem}
use Rattle.pondreszi_receiver.proofs.new_call.Goals as goal

pub returns-in-Err : goal.returns-in-Err
returns-in-Err c =
    let a = c.args in
    rw (new_setting a.spacecraft a.channel a.window a.vr a.buffers a.state.now c.started.ensures c.in-Err.is) record { number = c.number-in-Err.ensures; states = refl }

pub returns-in-Ok : goal.returns-in-Ok
returns-in-Ok c =
    let a = c.args in
    rw (new_kept_lem a.spacecraft a.channel a.window a.vr a.buffers a.state.now c.started.ensures c.in-Ok.is (search rules))
    record { number = refl; states = c.keep.ensures }

pub returns-in-Ok-2 : goal.returns-in-Ok-2
returns-in-Ok-2 c =
    let a = c.args in
    rw (new_short a.spacecraft a.channel a.window a.vr a.buffers a.state.now c.started.ensures c.in-Ok-2.is (search rules)) record { number = c.number.ensures; states = refl }
