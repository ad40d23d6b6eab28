-- By both tables: codeblock/proofs/ByTable, `next_two`.
use borrow.Author.Rules.{rules}
use mathlib.Core.Path.{ap₂, ◌∙◌}
use lib.Bits.{bit_xor}
use Rattle.codeblock.proofs.ByTable.{next_two}
use Rattle.encoded_data.proofs.table.Tables.next_two.Goals as goal

pub returns : goal.returns
returns c =
    let a = c.args in
    ap₂ bit_xor c.share.ensures c.share-2.ensures
    ∙ next_two a.parity a.first a.second c.requires (search rules) (search rules) (search rules)
