-- A frame is refused, or done by the record of the channel that it names.
use Rattle.std.proofs.Common.{◌≡◌, ◌∙◌, sym, ap, true, false, Some, Bool}
use Rattle.std.specs.Prelude.{is_some}
use Rattle.base.specs.Octets.{Octets}
use Rattle.base.proofs.Lists.{below_at}
use Rattle.base.proofs.Tests.{apart}
use Rattle.frame.specs.Answers.{reading_of}
use Rattle.channels.specs.Table.{no_channel, table_holds, addressed}
use Rattle.channels.proofs.Found.{found}
use Rattle.channels.proofs.Judged.{address, frame_refused, frame_done, no_frame}
use Rattle.channels.proofs.Table.frame_turn.Goals as goal
use Rattle.channels.proofs.Table.frame_turn.Goals.{then-is_some, else-is_some}

pub unreachable-requires : goal.unreachable-requires
unreachable-requires c =
    let a = c.args in
    let t = a.self in
    let cs = t.records.now in
    let n = c.channel_of-number.result in
    let holds : table_holds t.spacecraft t.pool cs ≡ true = sym c.if-not-holds.ensures in
    let octets : Octets a.octets.now = below_at 256 a.octets.now (λ i l. (c.type_inv.octets i).fits) in
    let none : is_some (found n cs) ≡ false = ap is_some (sym c.place_of-place.ensures ∙ c.in-Ok-None.is-1) in
    let by : (b : Bool) → b ≡ is_some (found n cs) → b ≡ false = λ b e. e ∙ none in
    let at : c.if-is_some.address ≡ no_channel =
    elim c.if-is_some.branch [ then-is_some w ↦ absurd (apart (sym (by true (w.if-is_some.ensures ∙ ap is_some c.place_of-place.ensures)))) | else-is_some w ↦ w.address-is ] in
    no_frame t.spacecraft t.pool cs holds a.octets.now octets c.in-Ok-None.field-0-0
    (ap (reading_of a.octets.now t.spacecraft) (sym at) ∙ sym c.read.ensures.value ∙ c.in-Ok-None.is-0)

pub returns-in-Err-default : goal.returns-in-Err-default
returns-in-Err-default c =
    let a = c.args in
    let t = a.self in
    let cs = t.records.now in
    let n = c.channel_of-number.result in
    let holds : table_holds t.spacecraft t.pool cs ≡ true = sym c.if-not-holds.ensures in
    let named = c.channel_of-number.ensures in
    let at : c.if-is_some.address ≡ addressed cs a.octets.now =
    elim c.if-is_some.branch [
      | then-is_some w ↦ w.address-is ∙ address t.spacecraft t.pool cs holds a.octets.now n named true (w.if-is_some.ensures ∙ ap is_some c.place_of-place.ensures)
      | else-is_some w ↦ w.address-is ∙ address t.spacecraft t.pool cs holds a.octets.now n named false (w.if-is_some.ensures ∙ ap is_some c.place_of-place.ensures)
    ] in
    rw c.frame.ensures
    (frame_refused t.spacecraft t.pool cs holds a.octets.now n named c.if-is_some.address at c.in-Err-default.refusal (sym c.read.ensures.value ∙ c.in-Err-default.is-0))

pub returns-in-Ok-Some : goal.returns-in-Ok-Some
returns-in-Ok-Some c =
    let a = c.args in
    let t = a.self in
    let cs = t.records.now in
    let n = c.channel_of-number.result in
    let holds : table_holds t.spacecraft t.pool cs ≡ true = sym c.if-not-holds.ensures in
    let some : found n cs ≡ Some c.in-Ok-Some.place = sym c.place_of-place.ensures ∙ c.in-Ok-Some.is-1 in
    let by : (b : Bool) → b ≡ is_some (found n cs) → b ≡ true = λ b e. e ∙ ap is_some some in
    let at : c.if-is_some.address ≡ n =
    elim c.if-is_some.branch [ then-is_some w ↦ w.address-is | else-is_some w ↦ absurd (apart (by false (w.if-is_some.ensures ∙ ap is_some c.place_of-place.ensures))) ] in
    rw c.new.ensures
    (frame_done t.spacecraft t.pool cs holds a.octets.now n c.channel_of-number.ensures c.in-Ok-Some.place some c.in-Ok-Some.fields
    (ap (reading_of a.octets.now t.spacecraft) (sym at) ∙ sym c.read.ensures.value ∙ c.in-Ok-Some.is-0) c.has_room.result c.has_room.ensures
    c.arrive_with-answer.result c.arrive_with-answer.ensures)
