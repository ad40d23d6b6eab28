-- The constant keeps the table's rule: the checker computes the test over all its entries. The answer is then what the loop over octets promises.
use mathlib.Core.Path.{refl}
use Rattle.base.specs.Register.{shift_bit, shift_bits, register}
use Rattle.fecf.specs.Table.{entry_of}
use Rattle.fecf.proofs.Rule.{rule_by_test}
use Rattle.fecf.proofs.fecf.Goals as goal

pub fecf_by_table-requires : goal.fecf_by_table-requires
unfolding entry_of register shift_bits shift_bit
fecf_by_table-requires c = rule_by_test _ refl tt
