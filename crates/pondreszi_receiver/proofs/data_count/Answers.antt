-- The length field by its octets, and each return by whether the frame is whole.
use mathlib.Core.Path.{sym}
use mathlib.Core.Logic.{⊎_elim}
use native.Mathlib.Omega.{arith}
use Rattle.frame.proofs.Octets.{total_is}
use Rattle.pondreszi_receiver.proofs.Counted.{short_count, low_count, cut_count, whole_count}
use Rattle.pondreszi_receiver.proofs.data_count.Goals as goal

pub returns-then-frame-lt-SMALLEST_FRAME : goal.returns-then-frame-lt-SMALLEST_FRAME
returns-then-frame-lt-SMALLEST_FRAME c = sym (short_count c.args.frame.now (omega arith))

pub returns-then-total-lt-SMALLEST_FRAME : goal.returns-then-total-lt-SMALLEST_FRAME
returns-then-total-lt-SMALLEST_FRAME c =
    let s = c.args.frame.now in
    let t = total_is s (λ i. (c.type_inv.frame i).fits) (omega arith) in
    sym (⊎_elim (λ h. low_count s (omega (arith, t, h, c.from_be_bytes.ensures))) (λ h. cut_count s (omega (arith, t, h.1, c.from_be_bytes.ensures))) c.then-total-lt-SMALLEST_FRAME.either)

pub returns : goal.returns
returns c =
    let s = c.args.frame.now in
    let t = total_is s (λ i. (c.type_inv.frame i).fits) (omega arith) in
    omega (arith, t, c.from_be_bytes.ensures, whole_count s (omega (arith, t, c.from_be_bytes.ensures)) (omega (arith, t, c.from_be_bytes.ensures)))
