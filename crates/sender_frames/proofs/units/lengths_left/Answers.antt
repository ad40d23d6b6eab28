-- Where no unit leaves, the lengths are as they were.
use mathlib.Core.Path.{◌≡◌, sym, ap, ◌∙◌}
use Prim.Native.Nat.{ℕ}
use native.Mathlib.Omega.{arith}
use Rattle.store.specs.Slid.{slid}
use Rattle.store.proofs.Parts.{slid_none}
use Rattle.sender_frames.proofs.units.lengths_left.Goals as goal

pub returns-else-count-gt0 : goal.returns-else-count-gt0
returns-else-count-gt0 c =
    let a = c.args in
    let none : 0 ≡ a.count = omega (arith, c.if-count-gt0.false) in
    sym (slid_none a.lengths) ∙ ap (λ (n : ℕ). slid n a.lengths) none
