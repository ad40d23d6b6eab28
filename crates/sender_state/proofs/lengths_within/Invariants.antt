-- The test so far is that of the lengths met.
use mathlib.Core.Path.{◌≡◌}
use lib.Dec.{leb}
use lib.ListN.{take}
use Rattle.std.specs.List.{list_all}
use Rattle.base.specs.Limits.{largest_unit}
use Rattle.sender_state.proofs.lengths_within.Given as goal

abbrev pub invariant-loop-length : goal.invariant-loop-length
invariant-loop-length l = l.within ≡ list_all (λ length. leb length largest_unit) (take l.length-index l.lengths)
