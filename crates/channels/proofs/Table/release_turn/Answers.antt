-- A release is refused, or done by the record of the channel that it names.
use Rattle.std.proofs.Common.{◌≡◌, ◌∙◌, sym, true, rules, Err, None}
use Rattle.channels.specs.Table.{table_holds}
use Rattle.channels.proofs.Judged.{release_absent, release_refused, release_done}
use Rattle.channels.proofs.Table.release_turn.Goals as goal

pub returns-in_default : goal.returns-in_default
returns-in_default c =
    let t = c.args.self in
    let holds : table_holds t.spacecraft t.pool t.records.now ≡ true = sym c.if-not-holds.ensures in
    rw c.into-in_default.ensures (release_absent t.spacecraft t.pool t.records.now holds c.args.number (sym c.place_of.ensures ∙ c.in_default.is))

pub returns-in_err-answer : goal.returns-in_err-answer
returns-in_err-answer c =
    let t = c.args.self in
    let cs = t.records.now in
    let holds : table_holds t.spacecraft t.pool cs ≡ true = sym c.if-not-holds.ensures in
    let refused : c.from_residual.result ≡ Err (record { refusal = c.in_err-answer.field-0.0; event = None }) = search rules in
    rw refused
    (release_refused t.spacecraft t.pool cs holds c.args.number c.in-Some.place (sym c.place_of.ensures ∙ c.in-Some.is) c.has_room.result c.has_room.ensures c.release.result c.release.ensures
    c.in_err-answer.field-0.0 c.in_err-answer.was)

pub returns : goal.returns
returns c =
    let t = c.args.self in
    let cs = t.records.now in
    let holds : table_holds t.spacecraft t.pool cs ≡ true = sym c.if-not-holds.ensures in
    rw c.new.ensures
    (release_done t.spacecraft t.pool cs holds c.args.number c.in-Some.place (sym c.place_of.ensures ∙ c.in-Some.is) c.has_room.result c.has_room.ensures c.release.result c.release.ensures
    c.in_ok-answer.answer c.in_ok-answer.was)
