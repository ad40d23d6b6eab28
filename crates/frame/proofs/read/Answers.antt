-- A refusal is handed on; a frame that is not refused has our address, and its fields at their places.
use borrow.Author.Rules.{rules}
use mathlib.Core.Path.{◌≡◌, sym, ap, ap₂, ◌∙◌}
use Prim.Native.Nat.{ℕ, ◌-◌}
use native.Mathlib.Omega.{arith}
use Rattle.std.specs.Prelude.{Ok, Err}
use Rattle.base.specs.Refusals.{result_number}
use Rattle.frame.specs.Frame.{command_held}
use Rattle.frame.specs.declared.Kind.{Kind}
use Rattle.frame.specs.Answers.{fields_of, reading_of}
use Rattle.frame.proofs.Named.{same_refusal}
use Rattle.frame.proofs.Accepted.{accepted, reading_frame}
use Rattle.frame.proofs.read.Goals as goal

pub returns-in_err-judge : goal.returns-in_err-judge
unfolding reading_of
returns-in_err-judge c =
    let e : c.from_residual.result ≡ Err c.in_err-judge.field-0.0 = search rules in
    let n = c.in_err-judge.ensures in
    record { value = e ∙ same_refusal {A = Unit {0}} tt (fields_of c.args.octets.now) _ n.value; number = ap result_number e ∙ n.number }

pub total-total-requires : goal.total-total-requires
total-total-requires c = (accepted _ _ _ (sym c.in_ok-judge.ensures.number)).lent

pub invariant_of-frame : goal.invariant_of-frame
invariant_of-frame c =
    let y = accepted _ _ _ (sym c.in_ok-judge.ensures.number) in
    let e = c.total-total.ensures in
    record { within = (omega arith, omega arith) }

pub kind-requires : goal.kind-requires
kind-requires c =
    let y = accepted _ _ _ (sym c.in_ok-judge.ensures.number) in
    let e = c.total-total.ensures in
    (e, ap (λ (n : ℕ). command_held c.args.octets.now n) e ∙ y.held)

pub overflow_sub-result : goal.overflow_sub-result
overflow_sub-result c =
    let y = accepted _ _ _ (sym c.in_ok-judge.ensures.number) in
    omega (arith, c.total-total.ensures)

pub returns : goal.returns
returns c =
    let a = c.args in
    let none = sym c.in_ok-judge.ensures.number in record {
      value =
          ap₂ (λ (v : Kind) (n : ℕ). Ok (record { kind = v; spacecraft = a.spacecraft; channel = a.channel; total = n; field = n - 7 })) c.kind.ensures c.total-total.ensures
          ∙ sym (reading_frame _ _ _ none);
      number = sym none;
    }
