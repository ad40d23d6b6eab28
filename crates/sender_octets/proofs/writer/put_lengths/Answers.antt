use mathlib.Core.List.{List}
use borrow.Author.Rules.{rules}
use mathlib.Core.List.{List}
use mathlib.Core.Path.{◌≡◌, refl, ap, ◌∙◌}
use Prim.Native.Nat.{ℕ, ◌*◌, ◌<◌, ◌/◌, ◌%◌}
use native.Mathlib.Omega.{arith}
use lib.ListN.{length, get_or, length-set}
use lib.Seq.{paste, paste-zero}
use Rattle.memory.proofs.Laws.{pasted}
use Rattle.sender_octets.specs.Kept.{number_octets, pairs}
use Rattle.sender_octets.proofs.Pairs.{length_pairs, two_stored}
use Rattle.sender_octets.proofs.writer.put_lengths.Goals as goal

pub loop-i-init : goal.loop-i-init
loop-i-init c = let a = c.args in (search rules, paste-zero a.octets.now number_octets (pairs a.lengths.now), refl)

pub bounds-octets-place-in-loop-i : goal.bounds-octets-place-in-loop-i
bounds-octets-place-in-loop-i c = simp length-set (omega arith)

pub loop-i-preserved : goal.loop-i-preserved
loop-i-preserved c =
    let m = c.args.octets.now in
    let g = c.args.lengths.now in
    let x = get_or g c.loop-i.i 0 in
    let small : x < 65536 = c.fits-lengths c.loop-i.i in
    let high : x / 256 % 256 ≡ x / 256 = omega arith in (
      search rules,
      two_stored m number_octets g c.loop-i.i c.loop-i.invariant.1 (ap (λ (l : List ℕ). get_or l 0 0) c.to_be_bytes.ensures ∙ high)
          (ap (λ (l : List ℕ). get_or l 1 0) c.to_be_bytes.ensures) (omega (arith, c.requires.1)) (omega (arith, c.requires.0, c.requires.1)),
      simp length-set c.loop-i.invariant.2,
    )

pub shape_of-octets : goal.shape_of-octets
shape_of-octets c = c.loop-i.invariant.2

pub returns : goal.returns
returns c =
    let m = c.args.octets.now in
    let g = c.args.lengths.now in
    let n = length_pairs g in
    let e : 2 * c.loop-i.i ≡ length (pairs g) = omega (arith, c.requires.1, c.loop-i.invariant.0) in
    c.loop-i.invariant.1 ∙ ap (paste m number_octets (pairs g)) e ∙ pasted m number_octets (pairs g) (omega (arith, c.requires.0, c.requires.1))
