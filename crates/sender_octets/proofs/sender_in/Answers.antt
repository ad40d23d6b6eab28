-- The octets are judged by their length, by the state that they would hold, and by that state.
use borrow.Author.Rules.{rules}
use mathlib.Core.Path.{refl, ap, ◌∙◌}
use mathlib.Core.List.{List}
use Prim.Native.Nat.{ℕ}
use native.Mathlib.Omega.{arith}
use lib.ListN.{length, take, length-take}
use Rattle.base.specs.Octets.{same}
use Rattle.base.proofs.Lists.{below_at}
use Rattle.sender.specs.Start.{restored_of}
use Rattle.sender_octets.specs.Kept.{number_octets, state_in}
use Rattle.sender_octets.proofs.Judged.{no_length, no_state, judged, compared}
use Rattle.sender_octets.proofs.sender_in.Goals as goal

pub returns-in_default : goal.returns-in_default
returns-in_default c =
    let o = c.args.octets.now in
    no_state o (no_length o c.in_default.ensures.1) refl

pub slice_bounds-same-end : goal.slice_bounds-same-end
slice_bounds-same-end c =
    let whole = c.in-Ok.ensures.1 in
    simp length-take (omega (arith, whole.long, ap length whole.same))

pub returns-then-not-same : goal.returns-then-not-same
returns-then-not-same c =
    let o = c.args.octets.now in
    let whole = c.in-Ok.ensures.1 in
    let octets = below_at 256 o (λ i h. (c.type_inv.octets i).fits) in
    let state = c.state_in-state.ensures ∙ ap state_in whole.same in
    let numbers = c.same.ensures ∙ ap (λ (s : List ℕ). same (take number_octets s) c.numbers_of.result) whole.same in
    let judgement = compared o c.numbers_of.result octets whole.long state c.numbers_of.ensures (search rules) numbers c.if-not-same.true in
    no_state o judgement refl

pub returns : goal.returns
returns c =
    let o = c.args.octets.now in
    let whole = c.in-Ok.ensures.1 in
    let octets = below_at 256 o (λ i h. (c.type_inv.octets i).fits) in
    let state = c.state_in-state.ensures ∙ ap state_in whole.same in
    let numbers = c.same.ensures ∙ ap (λ (s : List ℕ). same (take number_octets s) c.numbers_of.result) whole.same in
    let judgement = compared o c.numbers_of.result octets whole.long state c.numbers_of.ensures (search rules) numbers c.if-not-same.false in
    judged o judgement (c.restore.ensures ∙ ap restored_of state)
