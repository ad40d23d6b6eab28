-- The loop's invariant: the octets that are left, shifted into the register so far, give what all give; the register stands a place up.
use mathlib.Core.Path.{◌≡◌}
use Prim.Native.Nat.{◌/◌, ◌%◌}
use Rattle.base.proofs.Register.{OctetsLeft}
use Rattle.codeblock.specs.Codeblock.{generator}
use Rattle.encoded_data.proofs.table.Tables.control_by.Given as goal

abbrev pub invariant-loop-octet : goal.invariant-loop-octet
invariant-loop-octet l = (l.parity % 2 ≡ 0) × OctetsLeft 6 generator 0 l.information (l.parity / 2) l.octet-index
