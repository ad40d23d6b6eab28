-- The frame at the front of memory that is all fill; as many octets as its codeblocks take are randomized.
use borrow.Author.Rules.{rules}
use mathlib.Core.Path.{◌≡◌, ap, ◌∙◌}
use mathlib.Core.List.{List}
use Prim.Native.Nat.{ℕ, ◌*◌}
use native.Mathlib.Omega.{arith}
use lib.ListN.{take}
use Rattle.base.specs.Limits.{largest_frame}
use Rattle.encoded_data.proofs.Scan.{part_front}
use Rattle.memory.specs.Placed.{placed}
use Rattle.randomizer.specs.Randomizer.{randomized}
use Rattle.cltu.specs.Cltu.{codeblocks, filled, information_for}
use Rattle.cltu.proofs.Places.{length_filled}
use Rattle.cltu.proofs.Written.{filled_front}
use Rattle.cltu.proofs.writer.put_information.Goals as goal

pub returns : goal.returns
unfolding information_for
returns c =
    let a = c.args in
    let f = a.frame.now in
    let p = c.put in
    let e : take a.count p.new.memory ≡ filled f =
    part_front (filled f) _ p.new.memory a.count (p.ensures ∙ filled_front f (7 * codeblocks largest_frame) (search rules)) (omega (arith, length_filled f)) in
    c.randomize.ensures ∙ ap (λ (x : List ℕ). placed a.information.now 0 (randomized 0 x)) e
