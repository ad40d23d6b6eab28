-- After a refusal the part is empty; else it is the data field of a frame whose lengths are within their limits.
use mathlib.Core.Path.{◌≡◌, sym, ap, ◌∙◌}
use Prim.Native.Nat.{ℕ, ◌-◌}
use native.Mathlib.Omega.{arith}
use lib.ListN.{take, drop}
use Rattle.frame.specs.Frame.{total_of, data_field}
use Rattle.frame.proofs.Named.{none_where, some_where}
use Rattle.frame.proofs.Accepted.{accepted, part_refused, part_frame}
use Rattle.frame.proofs.data_field.Goals as goal

pub returns-then-is_err : goal.returns-then-is_err
returns-then-is_err c = sym (part_refused _ _ _ (λ z. some_where _ (sym c.is_err.ensures.value ∙ c.if-is_err.true) (c.judge.ensures.number ∙ z)))

pub total-requires : goal.total-requires
total-requires c = (accepted _ _ _ (sym c.judge.ensures.number ∙ none_where _ (sym c.is_err.ensures.value ∙ c.if-is_err.false))).lent

pub overflow_sub-end : goal.overflow_sub-end
overflow_sub-end c =
    let y = accepted _ _ _ (sym c.judge.ensures.number ∙ none_where _ (sym c.is_err.ensures.value ∙ c.if-is_err.false)) in
    omega (arith, c.total.ensures)

pub slice_bounds-result-count : goal.slice_bounds-result-count
slice_bounds-result-count c =
    let y = accepted _ _ _ (sym c.judge.ensures.number ∙ none_where _ (sym c.is_err.ensures.value ∙ c.if-is_err.false)) in
    omega (arith, c.total.ensures)

pub slice_bounds-result-start : goal.slice_bounds-result-start
slice_bounds-result-start c =
    let y = accepted _ _ _ (sym c.judge.ensures.number ∙ none_where _ (sym c.is_err.ensures.value ∙ c.if-is_err.false)) in
    omega (arith, c.total.ensures)

pub slice_bounds-result-end-2 : goal.slice_bounds-result-end-2
slice_bounds-result-end-2 c =
    let y = accepted _ _ _ (sym c.judge.ensures.number ∙ none_where _ (sym c.is_err.ensures.value ∙ c.if-is_err.false)) in
    omega (arith, c.total.ensures)

pub returns : goal.returns
unfolding data_field
returns c =
    let none = sym c.judge.ensures.number ∙ none_where _ (sym c.is_err.ensures.value ∙ c.if-is_err.false) in
    let y = accepted _ _ _ none in
    let s = c.args.octets.now in
    let e : c.total.result - 2 - 5 ≡ total_of s - 7 = omega (arith, c.total.ensures) in
    ap (λ (n : ℕ). take n (drop 5 s)) e ∙ sym (part_frame _ _ _ none)
