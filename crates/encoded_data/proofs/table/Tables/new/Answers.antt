-- The constants keep their rules, by computed tests over all entries (codeblock/proofs/ByTable).
use mathlib.Core.Path.{refl}
use Rattle.base.specs.Register.{shift_bit, shift_bits, register}
use Rattle.codeblock.specs.Codeblock.{parity}
use Rattle.codeblock.specs.Table.{share_of}
use Rattle.codeblock.proofs.ByTable.{share_table, bit_table}
use Rattle.encoded_data.proofs.table.Tables.new.Goals as goal

pub invariant_of-result : goal.invariant_of-result
unfolding share_of parity register shift_bits shift_bit
invariant_of-result c = record { share_table = share_table _ refl tt; bit_table = bit_table _ refl tt }
