-- The octets are those that the word's fields give; the sums fit since a flag's bit is there at most once.
use borrow.Author.Rules.{rules}
use mathlib.Core.Path.{sym}
use native.Mathlib.Omega.{arith}
use Rattle.base.proofs.Tests.{bit_le}
use Rattle.clcw.proofs.Word.{octets_are}
use Rattle.clcw.proofs.Clcw.octets.Goals as goal

pub overflow_add-result : goal.overflow_add-result
overflow_add-result c =
    let word = c.args.self in
    omega (arith, bit_le word.lockout, bit_le word.wait)

pub overflow_add-result-2 : goal.overflow_add-result-2
overflow_add-result-2 c =
    let word = c.args.self in
    omega (arith, bit_le word.lockout, bit_le word.wait, bit_le word.retransmit)

pub overflow_add-result-3 : goal.overflow_add-result-3
overflow_add-result-3 c =
    let word = c.args.self in
    omega (arith, bit_le word.lockout, bit_le word.wait, bit_le word.retransmit)

pub returns : goal.returns
returns c =
    let word = c.args.self in
    simp (c.from-lockout.ensures, c.from-wait.ensures, c.from-retransmit.ensures)
    (sym (octets_are word (search rules) (search rules) (search rules)))
