-- The tests one behind the other are those of the definition.
use borrow.Author.Rules.{rules}
use borrow.Author.Tests.{eqb-true, ne_eqb}
use mathlib.Core.Path.{sym, ◌∙◌}
use native.Mathlib.Omega.{arith}
use Rattle.base.proofs.Tests.{apart}
use Rattle.clcw.proofs.Word.{valid_is, valid_last}
use Rattle.clcw.proofs.valid.Goals.{then-octets-eq0, else-octets-eq0, then-octets-eq1, else-octets-eq1}
use Rattle.clcw.proofs.valid.Goals as goal

pub returns-then-octets-eq0-2 : goal.returns-then-octets-eq0-2
returns-then-octets-eq0-2 c =
    let s = c.args.octets in
    elim c.if-octets-eq1.branch [
      | then-octets-eq1 w ↦ elim c.if-octets-eq0.branch [
        | then-octets-eq0 v ↦ sym (valid_last s (search rules) (λ i. search rules) (omega arith)
            (eqb-true _ 1 (sym v.value-is ∙ w.if-octets-eq1.true)) (eqb-true _ 0 (sym w.value-is ∙ c.if-octets-eq0-2.true)))
        | else-octets-eq0 v ↦ absurd (apart (sym (ne_eqb _ 0 v.if-octets-eq0.false) ∙ sym v.value-is ∙ w.if-octets-eq1.true))
      ]
      | else-octets-eq1 w ↦ absurd (apart (sym w.if-octets-eq1.false ∙ sym w.value-is ∙ c.if-octets-eq0-2.true))
    ]

pub returns-else-octets-eq0-2 : goal.returns-else-octets-eq0-2
returns-else-octets-eq0-2 c =
    let s = c.args.octets in
    let e = valid_is s (search rules) (λ i. search rules) in
    elim c.if-octets-eq1.branch [
      | then-octets-eq1 w ↦ elim c.if-octets-eq0.branch [
        | then-octets-eq0 v ↦ grind (arith, e)
        | else-octets-eq0 v ↦ grind (arith, e)
      ]
      | else-octets-eq1 w ↦ elim c.if-octets-eq0.branch [
        | then-octets-eq0 v ↦ grind (arith, e)
        | else-octets-eq0 v ↦ grind (arith, e)
      ]
    ]
