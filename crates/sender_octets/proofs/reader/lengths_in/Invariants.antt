-- The loop's invariant: the first i lengths are those read, the others are as they were.
use mathlib.Core.Path.{◌≡◌}
use mathlib.Core.List.{◌++◌}
use Prim.Native.Nat.{◌-◌, ◌≤◌}
use lib.ListN.{length, take, drop}
use Rattle.store.specs.Places.{places}
use Rattle.sender_octets.specs.Kept.{number_octets, pairs_from}
use Rattle.sender_octets.proofs.reader.lengths_in.Given as goal

abbrev pub invariant-loop-i : goal.invariant-loop-i
invariant-loop-i l = (l.i ≤ places) × (l.lengths ≡ take l.i (pairs_from l.octets number_octets places) ++ drop l.i l.initial.lengths) × (length l.lengths ≡ places)

abbrev pub decreases-loop-i : goal.decreases-loop-i
decreases-loop-i l = places - l.i
