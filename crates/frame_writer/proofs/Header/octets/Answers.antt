-- The packed header by its octets.
use borrow.Author.Rules.{rules}
use mathlib.Core.Path.{sym, ◌∙◌}
use native.Mathlib.Omega.{arith}
use Rattle.base.proofs.Pairs.{pair_parted}
use Rattle.base.proofs.Tests.{bit_le}
use Rattle.base.specs.Flags.{bit_of}
use Rattle.frame_header.proofs.Packed.{header_octets}
use Rattle.frame_writer.proofs.Header.octets.Goals as goal

pub returns : goal.returns
returns c =
    let h = c.args.self in
    rw (c.to_be_bytes-spacecraft.ensures ∙ pair_parted h.spacecraft (omega arith), c.to_be_bytes-last.ensures ∙ pair_parted _ (omega arith), c.from.ensures, c.from-2.ensures)
    (sym (header_octets (bit_of h.bypass) (bit_of h.control) h.spacecraft h.channel c.args.n h.number
    (bit_le h.bypass) (bit_le h.control) (search rules) (search rules) (search rules) (omega arith) (search rules)))
