-- By the first table: codeblock/proofs/ByTable, `next_parity`.
use borrow.Author.Rules.{rules}
use mathlib.Core.Path.{◌∙◌}
use Rattle.codeblock.proofs.ByTable.{next_parity}
use Rattle.encoded_data.proofs.table.Tables.next_parity.Goals as goal

pub returns : goal.returns
returns c = c.share.ensures ∙ next_parity c.args.parity c.args.octet c.requires (search rules) (search rules)
