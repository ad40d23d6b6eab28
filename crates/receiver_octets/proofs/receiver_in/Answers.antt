-- The octets are as they are written, so the receiver that they hold is restored.
use Rattle.std.proofs.Common.{refl, arith, rules}
use Rattle.receiver_octets.specs.Kept.{receiver_in}
use Rattle.receiver_octets.proofs.Judged.{kept}
use Rattle.receiver_octets.proofs.Restored.{restored_is, restored_number}
use Rattle.receiver_octets.proofs.receiver_in.Goals as goal

pub returns : goal.returns
unfolding receiver_in
returns c =
    let o = c.args.octets.now in
    let written = kept o (omega arith) (λ i. (c.type_inv.octets i).fits) (record { mark = search rules; layout = search rules; low = omega arith; high = omega arith; flags = omega arith }) in
    let value = restored_is o written _ c.restore.result (rw (c.from_be_bytes.ensures, c.variables_in.ensures) refl) c.restore.ensures in
    record { value = value; number = restored_number o c.restore.result value }
