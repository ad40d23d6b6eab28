-- The answer is by what writing the frame came to.
use Rattle.std.specs.Prelude.{Some}
use Rattle.sender.proofs.Steps.{answered_by}
use Rattle.sender.proofs.bypass_work.Goals as goal

pub returns : goal.returns
returns c =
    let a = c.args in
    let p = answered_by (Some a.event) a.sender a.work a.sender.lengths c.write_handed-written.result c.conclude.result a.unit.now _ a.output.now
    (c.write_handed-written.ensures.answer, c.write_handed-written.ensures.memory) c.conclude.ensures in record { answer = p.0; output = p.1 }
