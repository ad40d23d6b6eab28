-- An answer of the lower layer is served by its event.
use mathlib.Core.Path.{refl}
use Rattle.std.specs.Prelude.{Some}
use Rattle.sender.proofs.Judged.{same_served, lower_served}
use Rattle.sender.proofs.Sender.lower_layer.Goals as goal

pub returns : goal.returns
returns c =
    let a = c.args in
    let s = a.self.fop in
    let e = c.served.ensures in
    let p = lower_served a.answer s a.store.now a.output.now c.lower_event.ensures
    (same_served (Some c.lower_event.result) s s a.store.now a.output.now c.from-k.ensures refl (e.answer, (e.store, e.output))) in
    record { answer = p.0; store = p.1.0; output = p.1.1 }
