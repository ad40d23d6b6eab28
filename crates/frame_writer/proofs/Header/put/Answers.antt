-- Header, data and FECF are put one behind the other.
use mathlib.Core.Path.{◌∙◌}
use native.Mathlib.Omega.{arith}
use Rattle.base.proofs.Pairs.{pair_parted}
use Rattle.base.specs.Flags.{bit_of}
use Rattle.frame_writer.proofs.Emitted.{emitted}
use Rattle.frame_writer.proofs.Header.put.Goals as goal

pub returns : goal.returns
returns c =
    let a = c.args in
    let h = a.self in
    emitted (bit_of h.bypass) (bit_of h.control) h.number h.spacecraft h.channel a.field.now a.out.now c.octets.result c.put.new.memory c.put-2.new.memory
    c.to_be_bytes.result c.put-3.new.memory c.fecf-check.result (omega arith) c.octets.ensures c.put.ensures c.put-2.ensures c.fecf-check.ensures
    (c.to_be_bytes.ensures ∙ pair_parted c.fecf-check.result c.fecf-check.type_inv) c.put-3.ensures
