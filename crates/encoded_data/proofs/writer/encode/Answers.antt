-- Where the codeblocks do not fit, nothing is placed.
use mathlib.Core.Path.{sym}
use Prim.Native.Nat.{◌/◌}
use native.Mathlib.Omega.{arith}
use lib.ListN.{length}
use Rattle.memory.proofs.Laws.{placed_not}
use Rattle.encoded_data.specs.EncodedData.{encoded}
use Rattle.encoded_data.proofs.Encoded.{length_encoded}
use Rattle.encoded_data.proofs.writer.encode.Goals as goal

pub returns-else-information-out : goal.returns-else-information-out
returns-else-information-out c =
    let a = c.args in
    let s = a.information.now in
    sym (placed_not a.out.now 0 (encoded (length s / 7) s) (omega (arith, length_encoded (length s / 7) s (omega arith))))
