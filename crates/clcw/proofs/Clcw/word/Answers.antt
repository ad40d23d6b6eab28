-- Each field is what table 6-4's location makes of its octet.
use borrow.Author.Rules.{rules}
use mathlib.Core.Path.{sym}
use Rattle.clcw.proofs.Word.{word_is}
use Rattle.clcw.proofs.Clcw.word.Goals as goal

pub returns : goal.returns
returns c = sym (word_is c.args.octets (search rules) (λ i. search rules))
