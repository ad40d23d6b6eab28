use Rattle.std.proofs.Common.{arith}
use Rattle.text.proofs.Cuts.{fields_split, fields_whole}
use Rattle.text.proofs.first_field.Goals as goal

pub returns-then-place-text : goal.returns-then-place-text
returns-then-place-text c = fields_split c.cut-place.result c.args.text.now c.cut-place.ensures c.if-place-text.true

pub returns-else-place-text : goal.returns-else-place-text
returns-else-place-text c = fields_whole c.args.text.now (omega (arith, c.cut-place.ensures))
