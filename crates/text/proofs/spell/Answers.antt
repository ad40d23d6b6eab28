use Rattle.std.proofs.Common.{arith}
use Rattle.text.proofs.Spelling.{left_on, put_on}
use Rattle.text.proofs.spell.Goals as goal

pub loop-place-preserved : goal.loop-place-preserved
loop-place-preserved c =
    let a = c.args in
    let l = c.loop-place in
    let h = c.loop-place-test.true in
    let w = l.invariant.0 h in (
      left_on a.n l.rest l.place a.out.now (omega arith) c.requires h l.auto.place w,
      put_on a.n l.rest l.place a.out.now (omega arith) c.requires h l.auto.place w l.out l.invariant.1,
    )
