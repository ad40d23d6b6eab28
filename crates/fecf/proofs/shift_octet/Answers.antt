-- An octet goes through the table by its rule: proofs/Rule, `through`.
use borrow.Author.Rules.{rules}
use Rattle.fecf.proofs.Rule.{through}
use Rattle.fecf.proofs.shift_octet.Goals as goal

pub returns : goal.returns
returns c =
    rw (c.from.ensures, c.place.ensures)
    (through c.args.table.now c.args.register c.args.octet c.requires (search rules) (search rules))
