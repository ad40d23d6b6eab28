-- The loop's invariant: the octets that are left, shifted into the register so far, give what all give.
use Rattle.base.proofs.Register.{OctetsLeft}
use Rattle.fecf.specs.Fecf.{generator, preset}
use Rattle.fecf.proofs.fecf_by_table.Given as goal

abbrev pub invariant-loop-octet : goal.invariant-loop-octet
invariant-loop-octet l = OctetsLeft 15 generator preset l.message l.register l.octet-index
