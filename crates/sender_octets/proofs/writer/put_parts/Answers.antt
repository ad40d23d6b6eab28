-- The lengths are put behind the numbers, so the two are put joined; where they do not fit nothing is put.
use mathlib.Core.Path.{◌≡◌, sym, ap₂, ◌∙◌}
use mathlib.Core.List.{List, ◌++◌}
use Prim.Native.Nat.{ℕ}
use native.Mathlib.Omega.{arith}
use lib.ListN.{length, length-append}
use Rattle.memory.specs.Placed.{placed}
use Rattle.memory.proofs.Laws.{placed_not}
use Rattle.sender_octets.specs.Kept.{state_octets, pairs}
use Rattle.sender_octets.proofs.Pairs.{length_pairs, placed_joined}
use Rattle.sender_octets.proofs.writer.put_parts.Goals as goal

pub returns-then-octets-lt-STATE_OCTETS : goal.returns-then-octets-lt-STATE_OCTETS
returns-then-octets-lt-STATE_OCTETS c =
    let n = c.args.numbers.now in
    let g = c.args.lengths.now in
    let e : length (n ++ pairs g) ≡ state_octets = length-append n (pairs g) ∙ omega (arith, c.requires.0, c.requires.1, length_pairs g) in
    sym (placed_not c.args.octets.now 0 (n ++ pairs g) (omega (arith, e, c.if-octets-lt-STATE_OCTETS.true)))

pub returns : goal.returns
returns c =
    let m = c.args.octets.now in
    let n = c.args.numbers.now in
    let g = c.args.lengths.now in
    c.put_lengths.ensures
    ∙ ap₂ (λ (x : List ℕ) (k : ℕ). placed x k (pairs g)) c.put.ensures (sym c.requires.0)
    ∙ placed_joined m n (pairs g) (omega (arith, c.requires.0, c.requires.1, length_pairs g, c.if-octets-lt-STATE_OCTETS.false))
