-- A control word is refused, or that of the record of the channel that is named.
use Rattle.std.proofs.Common.{◌≡◌, ◌∙◌, sym, true, length}
use Rattle.base.proofs.Tests.{told}
use Rattle.channels.specs.Table.{table_holds}
use Rattle.channels.proofs.Judged.{word_absent, word_found}
use Rattle.channels.proofs.Table.word.Goals as goal

pub returns-in_default : goal.returns-in_default
returns-in_default c =
    let a = c.args in
    let t = a.self in
    let holds : table_holds t.spacecraft t.pool t.records.now ≡ true = sym c.if-not-holds.ensures in
    let x = told (word_absent t.spacecraft t.pool t.records.now holds a.number (length a.out.now) (sym c.place_of.ensures ∙ c.in_default.is)) a.out.now in
    record { answer = x.0; memory = x.1 }

pub returns : goal.returns
returns c =
    let a = c.args in
    let t = a.self in
    let holds : table_holds t.spacecraft t.pool t.records.now ≡ true = sym c.if-not-holds.ensures in
    let x = told (word_found t.spacecraft t.pool t.records.now holds a.number (length a.out.now) c.in-Some.place (sym c.place_of.ensures ∙ c.in-Some.is) c.word.result c.word.ensures) a.out.now in
    record { answer = c.write.ensures.answer ∙ x.0; memory = c.write.ensures.memory ∙ x.1 }
