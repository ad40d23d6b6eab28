-- The store changes where the frame is written and the unit is added.
use mathlib.Core.Path.{◌≡◌, sym, ◌∙◌}
use Rattle.std.specs.Prelude.{is_ok}
use Rattle.base.specs.Choice.{pick}
use Rattle.base.proofs.Tests.{yes, no}
use Rattle.store.specs.Places.{unit_put}
use Rattle.sender.specs.Events.{added}
use Rattle.sender.proofs.Judged.{offered_stored}
use Rattle.sender.proofs.offer_work.Goals as goal
use Rattle.sender.proofs.offer_work.Goals.{then-is_ok+then-adds, else-is_ok, else-is_ok-via-then-is_ok+else-adds, else-is_ok-via-else-is_ok}

pub returns : goal.returns
returns c =
    let a = c.args in
    let x = c.write_offered-written.result in
    let put = pick (added a.event a.sender) (unit_put a.sender.queues.sent a.unit.now a.store.now) a.store.now in
    let e : c.if-is_ok.store ≡ pick (is_ok x) put a.store.now =
    elim c.if-is_ok.branch [
      | then-is_ok+then-adds w ↦ w.store-is ∙ w.put_unit.ensures ∙ sym (yes _ _ _ (sym w.adds.ensures ∙ w.if-adds.true)) ∙ sym (yes _ _ _ (sym c.is_ok.ensures.value ∙ w.if-is_ok.true))
      | else-is_ok w ↦
          w.store-is
          ∙ elim w.else-is_ok.branch [
            | else-is_ok-via-then-is_ok+else-adds v ↦ sym (yes _ _ _ (sym c.is_ok.ensures.value ∙ v.if-is_ok.true) ∙ no _ _ _ (sym v.adds.ensures ∙ v.if-adds.false))
            | else-is_ok-via-else-is_ok v ↦ sym (no _ _ _ (sym c.is_ok.ensures.value ∙ v.if-is_ok.false))
          ]
    ] in
    let p = offered_stored a.event a.sender a.work a.unit.now a.store.now a.output.now x
    (c.write_offered-written.ensures.answer, c.write_offered-written.ensures.memory) c.lengths_offered-lengths.ensures c.conclude.ensures e in
    record { answer = p.0; store = p.1.0; output = p.1.1 }
