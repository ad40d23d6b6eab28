-- The reading picks the case: a word and an invalid one are served, the others refused.
use mathlib.Core.Path.{refl, ap, ◌∙◌}
use Rattle.std.specs.Prelude.{Some, Ok}
use Rattle.fop.specs.declared.Event.TheVariants.{E15}
use Rattle.sender.proofs.Judged.{same_served, reading_told, word_served}
use Rattle.sender.proofs.Sender.control_word.Goals as goal

pub returns-in-Ok-Some : goal.returns-in-Ok-Some
returns-in-Ok-Some c =
    let a = c.args in
    let s = a.self.fop in
    let e = c.served.ensures in
    let p = word_served a.octets.now s a.store.now a.output.now c.read.ensures.value (c.in-Ok-Some.is ∙ ap Ok c.in-Ok-Some.field-0-is) c.word_event.ensures
    (same_served (Some c.word_event.result) s s a.store.now a.output.now c.from-k.ensures c.from.ensures (e.answer, (e.store, e.output))) in
    record { answer = p.0; store = p.1.0; output = p.1.1 }

pub returns-in-Ok-None : goal.returns-in-Ok-None
returns-in-Ok-None c =
    let a = c.args in
    let s = a.self.fop in
    let e = c.served-in-Ok-None.ensures in
    let p = reading_told a.octets.now s a.store.now a.output.now c.read.ensures.value (c.in-Ok-None.is ∙ ap Ok c.in-Ok-None.field-0-is)
    (same_served (Some E15) s s a.store.now a.output.now c.from-k.ensures refl (e.answer, (e.store, e.output))) in
    record { answer = p.0; store = p.1.0; output = p.1.1 }

pub returns-in-Err : goal.returns-in-Err
returns-in-Err c =
    let a = c.args in
    let p = reading_told a.octets.now a.self.fop a.store.now a.output.now c.read.ensures.value c.in-Err.is (c.refused.ensures, (refl, refl)) in
    record { answer = p.0; store = p.1.0; output = p.1.1 }
