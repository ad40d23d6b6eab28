-- The numbers and the lengths are put over all of the octets.
use borrow.Author.Rules.{rules}
use mathlib.Core.Path.{◌≡◌, ap, ◌∙◌}
use mathlib.Core.List.{List, ◌++◌, append-nil}
use Prim.Native.Nat.{ℕ, ◌≤◌}
use native.Mathlib.Omega.{arith}
use lib.ListN.{length, replicate, drop_of_length-le}
use Rattle.memory.proofs.Laws.{placed_front}
use Rattle.store.specs.Places.{places}
use Rattle.sender_octets.specs.Kept.{number_octets, state_octets, pairs}
use Rattle.sender_octets.proofs.Pairs.{length_joined}
use Rattle.sender_octets.proofs.writer.join.Goals as goal

pub returns : goal.returns
returns c =
    let a = c.args in
    let n : length a.numbers ≡ number_octets = search rules in
    let m : length a.lengths ≡ places = search rules in
    let o = a.numbers ++ pairs a.lengths in
    let k : length o ≡ state_octets = omega (arith, n, m, length_joined a.numbers a.lengths) in
    let zeros : List ℕ = replicate state_octets 0 in
    let z : length zeros ≤ length o = omega (arith, k) in
    c.put_parts.ensures
    ∙ placed_front zeros o (omega (arith, k))
    ∙ ap (λ (x : List ℕ). o ++ x) (drop_of_length-le zeros z)
    ∙ append-nil o
