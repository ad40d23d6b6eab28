-- By the first record and those behind it.
use Rattle.std.proofs.Common.{◌∙◌, refl, true, false, not, ap}
use Rattle.channels.proofs.Found.{distinct_by}
use Rattle.channels.proofs.records.+are_distinct.Goals as goal

pub returns-then-is_none : goal.returns-then-is_none
returns-then-is_none t c =
    c.are_distinct.ensures ∙ distinct_by c.args.records.now c.in-len1-up.len_at_least true refl c.place_of.ensures (c.is_none.ensures ∙ ap not c.if-is_none.true)

pub returns-else-is_none : goal.returns-else-is_none
returns-else-is_none t c =
    c.if-is_none.false ∙ distinct_by c.args.records.now c.in-len1-up.len_at_least false refl c.place_of.ensures (c.is_none.ensures ∙ ap not c.if-is_none.false)
