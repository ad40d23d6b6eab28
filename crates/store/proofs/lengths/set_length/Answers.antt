-- Beyond the last place nothing is set.
use mathlib.Core.Path.{sym}
use native.Mathlib.Omega.{arith}
use lib.Seq.{set_out}
use Rattle.store.proofs.lengths.set_length.Goals as goal

pub returns-else-place-lengths : goal.returns-else-place-lengths
returns-else-place-lengths c =
    let a = c.args in
    sym (set_out a.lengths.now a.place _ (omega arith))
