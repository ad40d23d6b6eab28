-- Each field that is not judged is what table 6-4's location makes of its octet.
use borrow.Author.Rules.{rules}
use mathlib.Core.Path.{sym}
use Rattle.clcw.proofs.Word.{received_is}
use Rattle.clcw.proofs.all_fields.Goals as goal

pub returns : goal.returns
returns c =
    rw c.word.ensures
    (sym (received_is c.args.octets (search rules) (λ i. search rules)))
