-- What is copied down is the rest; a list that is shorter stays.
use mathlib.Core.Path.{◌≡◌, sym, ap, ◌∙◌}
use mathlib.Core.List.{List, ◌++◌}
use Prim.Native.Nat.{ℕ, ◌-◌, ◌<◌}
use native.Mathlib.Omega.{arith}
use lib.ListN.{length, drop, drop_of_length-le}
use lib.Seq.{paste}
use Rattle.base.proofs.Lists.{rest}
use Rattle.store.specs.Slid.{slid}
use Rattle.store.proofs.lengths.slide_lengths.Goals as goal

slid_down : (s : List ℕ) (count : ℕ) → paste s 0 (drop count s) (length s - count) ≡ slid count s
unfolding slid
slid_down s count = grind (arith, rest s count)

pub returns-then-count-lengths : goal.returns-then-count-lengths
returns-then-count-lengths c = c.copy_within.ensures.after ∙ slid_down _ _

slid_short : (s : List ℕ) (count : ℕ) → length s < count → s ≡ slid count s
unfolding slid
slid_short s count h =
    let q : length s - count ≡ 0 = omega arith in
    sym (ap (λ (x : List ℕ). x ++ drop (length s - count) s) (drop_of_length-le s {i = count} (omega arith)) ∙ ap (λ (k : ℕ). drop k s) q)

pub returns-else-count-lengths : goal.returns-else-count-lengths
returns-else-count-lengths c = search slid_short
