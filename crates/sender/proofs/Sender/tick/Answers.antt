-- A tick is served by its event, of the state with the timer lowered.
use mathlib.Core.Path.{refl}
use Rattle.sender.proofs.Judged.{same_served, tick_served}
use Rattle.sender.proofs.Sender.tick.Goals as goal

pub returns : goal.returns
returns c =
    let a = c.args in
    let s = a.self.fop in
    let e = c.served.ensures in
    let p = tick_served s a.store.now a.output.now c.tick_event-event.ensures c.lower_timer.ensures
    (same_served c.tick_event-event.result s c.lower_timer.result a.store.now a.output.now c.from-k.ensures refl (e.answer, (e.store, e.output))) in
    record { answer = p.0; store = p.1.0; output = p.1.1 }
