-- The test so far is that of the lengths met.
use mathlib.Core.Path.{◌≡◌}
use lib.Dec.{leb}
use lib.ListN.{take}
use Rattle.std.specs.List.{list_all}
use Rattle.sender_state.proofs.lengths_filled.Given as goal

abbrev pub invariant-loop-length : goal.invariant-loop-length
invariant-loop-length l = l.filled ≡ list_all (leb 1) (take l.length-index l.lengths)
