-- Where there is no room for the information of all whole codeblocks, none is taken; else all are looked at.
use mathlib.Core.Path.{refl, sym, ap}
use Prim.Native.Nat.{ℕ}
use native.Mathlib.Omega.{arith}
use lib.ListN.{length}
use Rattle.codeblock.specs.Codeblock.{judged}
use Rattle.encoded_data.specs.EncodedData.{good_run, information_in, corrected_in}
use Rattle.encoded_data.proofs.Scan.{whole_none}
use Rattle.encoded_data.proofs.take_good.Goals as goal

pub returns-then-information-input-clause-run : goal.returns-then-information-input-clause-run
unfolding good_run corrected_in
returns-then-information-input-clause-run c =
    let a = c.args in
    (sym (ap (λ (n : ℕ). good_run (judged a.mode) n a.input.now) (whole_none (length a.input.now) (length a.information.now) (omega arith))), refl)

pub returns-then-information-input-clause-memory : goal.returns-then-information-input-clause-memory
unfolding information_in
returns-then-information-input-clause-memory c = refl
