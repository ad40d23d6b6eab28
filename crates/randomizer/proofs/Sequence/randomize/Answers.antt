use mathlib.Core.Path.{ap}
use Prim.Native.Nat.{ℕ, ◌*◌}
use native.Mathlib.Omega.{arith}
use Rattle.randomizer.proofs.Runs.{run_more, runs_end}
use Rattle.randomizer.proofs.Sequence.randomize.Goals as goal

pub loop-k-preserved : goal.loop-k-preserved
loop-k-preserved c =
    let s = c.in-Some.ensures.steps in
    run_more c.loop-k.invariant c.requires c.loop-k.auto.out _ _ _ _ _ _ _ s.0.0 s.0.1 (ap (λ (k : ℕ). k * 255) s.1) s.2 (omega arith) c.randomize_run.ensures

pub returns : goal.returns
returns c = runs_end c.loop-k.invariant c.requires c.loop-k.auto.out c.in-None.ensures.steps.0.1.0
