use mathlib.Core.Path.{◌≡◌, sym, ap, ◌∙◌}
use Prim.Native.Nat.{ℕ, ◌*◌}
use native.Mathlib.Nat.{add-zero}
use native.Mathlib.Omega.{arith}
use lib.Bits.{bit_xor}
use Rattle.base.proofs.Register.{octet_shifted, octets_shifted}
use Rattle.base.proofs.Xor.{double}
use Rattle.codeblock.specs.Codeblock.{parity, error_control}
use Rattle.encoded_data.proofs.table.Tables.control_by.Goals as goal

pub loop-octet-preserved : goal.loop-octet-preserved
loop-octet-preserved c =
    let e = c.next_parity-parity.ensures in
    (omega (arith, e), octet_shifted c.loop-octet.invariant.1 c.loop-octet-test.true (omega (arith, e)))

pub returns : goal.returns
unfolding error_control parity
returns c =
    let l = c.loop-octet in
    let s = c.args.information.now in
    let e : l.parity ≡ parity s * 2 = omega (arith, octets_shifted l.invariant.1 c.loop-octet-test.false, l.invariant.0) in
    ap (λ (x : ℕ). bit_xor x 254) e ∙ sym (double (parity s) 127) ∙ sym (add-zero (bit_xor (parity s) 127 * 2))
