-- The sequence repeats after 255 octets, so its first 255 tell every octet.
use mathlib.Core.Path.{ap, ◌∙◌}
use mathlib.Core.List.{List}
use Prim.Native.Nat.{ℕ, ◌%◌}
use lib.ListN.{get_or}
use Rattle.randomizer.proofs.Randomized.{sequence_tells}
use Rattle.randomizer.proofs.Sequence.octet_at.Goals as goal

pub returns : goal.returns
returns c =
    let k = c.args.place in
    ap (λ (l : List ℕ). get_or l (k % 255) 0) c.args.self.standard ∙ sequence_tells k
