-- Refused where the octets are no state; else what `release` answered, put into numbers, and the next receiver's state over the old one.
use mathlib.Core.Path.{refl, ap, ◌∙◌}
use Rattle.std.specs.Prelude.{Result}
use Rattle.base.specs.declared.Refusal.{Refusal}
use Rattle.receiver.specs.declared.Received.{Received}
use Rattle.pondreszi_receiver.specs.Receivers.{released_by}
use Rattle.pondreszi_receiver.proofs.ReceiverCalls.{release_refused, release_met, kept_whole}
use Rattle.pondreszi_receiver.proofs.release_call.Goals as goal

pub returns-in-Err : goal.returns-in-Err
returns-in-Err c =
    rw (release_refused c.args.state.now c.receiver_in.ensures.value c.in-Err.is) record { number = c.number.ensures; events = refl; states = refl }

pub returns-in-Ok-release : goal.returns-in-Ok-release
returns-in-Ok-release c =
    let a = c.args in
    let e = release_met a.state.now c.receiver_in.ensures.value c.in-Ok.is c.release.result c.release.ensures.value in
    rw (e ∙ ap (λ (x : Result Received Refusal). released_by x a.state.now) c.in-Ok-release.is)
    record { number = refl; events = c.event_number.ensures; states = c.keep.ensures ∙ kept_whole a.state.now c.receiver_in.ensures.value c.in-Ok.is _ }

pub returns-in-Err-release : goal.returns-in-Err-release
returns-in-Err-release c =
    let a = c.args in
    let e = release_met a.state.now c.receiver_in.ensures.value c.in-Ok.is c.release.result c.release.ensures.value in
    rw (e ∙ ap (λ (x : Result Received Refusal). released_by x a.state.now) c.in-Err-release.is)
    record { number = c.number-in-Err-release.ensures; events = refl; states = refl }
