use borrow.Author.Rules.{rules}
use mathlib.Core.Path.{◌≡◌, sym, ap, ◌∙◌}
use mathlib.Core.List.{List, ◌++◌, append-nil}
use Prim.Native.Nat.{ℕ, ◌+◌}
use native.Mathlib.Omega.{arith}
use lib.Bits.{bit_xor}
use lib.ListN.{length, get_or, drop_of_length-le}
use Rattle.base.proofs.Lists.{store_by, stored}
use Rattle.randomizer.specs.Randomizer.{octet, randomized}
use Rattle.randomizer.proofs.Randomized.{randomized_at, length_randomized, sequence_at}
use Rattle.randomizer.proofs.Sequence.randomize_run.Goals as goal

pub loop-i-preserved : goal.loop-i-preserved
loop-i-preserved c =
    let l = c.loop-i in
    let a = c.args in
    let s = a.octets.now in
    let o = length_randomized 0 s in
    let e : get_or a.self.octets.now l.i 0 ≡ octet (0 + l.i) =
    ap (λ (t : List ℕ). get_or t l.i 0) a.self.standard ∙ sequence_at 255 0 l.i (omega arith) in
    store_by (randomized 0 s) a.out.now l.out l.i (bit_xor (get_or s l.i 0) (get_or a.self.octets.now l.i 0)) l.invariant
    (ap (bit_xor (get_or s l.i 0)) e ∙ sym (randomized_at 0 s l.i (search rules)))
    (omega arith) (omega arith)

pub returns : goal.returns
returns c =
    let l = c.loop-i in
    let a = c.args in
    let r = randomized 0 a.octets.now in
    let o = length_randomized 0 a.octets.now in
    l.invariant
    ∙ stored r a.out.now l.i (omega arith)
    ∙ ap (λ (d : List ℕ). r ++ d) (drop_of_length-le a.out.now {i = length r} (omega arith))
    ∙ append-nil r
