-- A field that is shorter than each word, or longer.
use Rattle.std.proofs.Common.{arith}
use Rattle.base.proofs.Lists.{same_length_not}
use Rattle.program_lines.specs.Line.{word_bd, word_unlock, word_bad, word_free, by_fields}
use Rattle.program_lines.proofs.one.Goals as goal

pub returns-in_default : goal.returns-in_default
unfolding by_fields
returns-in_default c =
    let w = c.args.word.now in
    rw (same_length_not w word_bd (λ e. omega arith), same_length_not w word_unlock (λ e. omega arith), same_length_not w word_bad (λ e. omega arith), same_length_not w word_free (λ e. omega arith))

pub returns-in_default-18 : goal.returns-in_default-18
unfolding by_fields
returns-in_default-18 c =
    let w = c.args.word.now in
    rw (same_length_not w word_bd (λ e. omega arith), same_length_not w word_unlock (λ e. omega arith), same_length_not w word_bad (λ e. omega arith), same_length_not w word_free (λ e. omega arith))
