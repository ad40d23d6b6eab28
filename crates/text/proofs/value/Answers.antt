use Rattle.std.proofs.Common.{sym, ap, ◌∙◌, ◌+◌, drop, arith}
use Rattle.text.specs.Decimal.{value_within}
use Rattle.text.proofs.Scans.{value_other, value_big, value_on, value_end}
use Rattle.text.proofs.value.Goals as goal

pub returns-then-not-is_ascii_digit : goal.returns-then-not-is_ascii_digit
returns-then-not-is_ascii_digit c =
    let l = c.loop-octet in
    let a = c.args in
    sym (value_other a.limit l.value a.text.now l.octet-index (omega arith) c.if-not-is_ascii_digit.ensures.cases) ∙ l.invariant.1

pub returns-in_err-checked_mul : goal.returns-in_err-checked_mul
returns-in_err-checked_mul c =
    let l = c.loop-octet in
    let a = c.args in
    let digit = c.if-not-is_ascii_digit.ensures.cases in
    let big = c.in_err-checked_mul.ensures in
    c.from_residual.ensures
    ∙ sym (value_big a.limit l.value a.text.now l.octet-index (omega arith) digit.0 digit.1 (omega arith))
    ∙ l.invariant.1

pub returns-in_err-value : goal.returns-in_err-value
returns-in_err-value c =
    let l = c.loop-octet in
    let a = c.args in
    let digit = c.if-not-is_ascii_digit.ensures.cases in
    let ten = c.in_ok-checked_mul.ensures in
    let big = c.in_err-value.ensures in
    c.from_residual-in_err-value.ensures
    ∙ sym (value_big a.limit l.value a.text.now l.octet-index (omega arith) digit.0 digit.1 (omega arith))
    ∙ l.invariant.1

pub returns-then-limit-value : goal.returns-then-limit-value
returns-then-limit-value c =
    let l = c.loop-octet in
    let a = c.args in
    let digit = c.if-not-is_ascii_digit.ensures.cases in
    let ten = c.in_ok-checked_mul.ensures in
    let more = c.in_ok-value.ensures in
    sym (value_big a.limit l.value a.text.now l.octet-index (omega arith) digit.0 digit.1 (omega arith)) ∙ l.invariant.1

pub loop-octet-preserved : goal.loop-octet-preserved
loop-octet-preserved c =
    let l = c.loop-octet in
    let a = c.args in
    let digit = c.if-not-is_ascii_digit.ensures.cases in
    let ten = c.in_ok-checked_mul.ensures in
    let more = c.in_ok-value.ensures in (
      c.if-limit-value.false,
      ap (λ v. value_within a.limit v (drop (l.octet-index + 1) a.text.now)) (omega arith)
          ∙ sym (value_on a.limit l.value a.text.now l.octet-index (omega arith) digit.0 digit.1 (omega arith)) ∙ l.invariant.1,
    )

pub returns : goal.returns
returns c =
    let l = c.loop-octet in
    let a = c.args in
    sym (value_end a.limit l.value a.text.now l.octet-index (omega arith)) ∙ l.invariant.1
