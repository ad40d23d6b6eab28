-- Start sequence, codeblocks and tail sequence, one behind the other.
use borrow.Author.Rules.{rules}
use mathlib.Core.Path.{◌∙◌}
use Prim.Native.Nat.{◌/◌}
use native.Mathlib.Omega.{arith}
use lib.ListN.{length}
use Rattle.encoded_data.specs.EncodedData.{encoded}
use Rattle.encoded_data.proofs.Encoded.{length_encoded}
use Rattle.cltu.proofs.Written.{put_parts}
use Rattle.cltu.proofs.writer.put_cltu.Goals as goal

pub returns : goal.returns
returns c =
    let a = c.args in
    let s = a.information.now in
    let n = length s / 7 in
    let started = c.put in
    let part = c.encode in
    c.put-2.ensures
    ∙ put_parts a.out.now started.new.memory part.new.out (encoded n s) a.end started.ensures part.ensures (omega (arith, length_encoded n s (omega arith))) (search rules)
