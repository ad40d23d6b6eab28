-- The first place is found, or there is none.
use borrow.Author.Rules.{rules}
use mathlib.Core.Path.{◌≡◌}
use Prim.Native.Nat.{ℕ}
use lib.ListN.{length}
use Rattle.std.specs.Prelude.{MatchOption}
use Rattle.start_sequence.specs.StartSequence.{start_of}
use Rattle.start_sequence.proofs.Search.{place_told}
use Rattle.start_sequence.proofs.find_start.Goals as goal

pub returns : goal.returns
returns c =
    let s = c.args.input.now in
    let f = c.first_place.ensures in
    let e : MatchOption c.first_place.result (start_of s ≡ length s) (λ (i : ℕ). start_of s ≡ i) = place_told s c.first_place.result f.there f.before f.none in
    search rules
