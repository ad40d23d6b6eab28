-- The loop's invariant: the octets of the first i lengths stand behind the numbers.
use mathlib.Core.Path.{◌≡◌}
use Prim.Native.Nat.{◌*◌, ◌-◌, ◌≤◌}
use lib.ListN.{length}
use lib.Seq.{paste}
use Rattle.store.specs.Places.{places}
use Rattle.sender_octets.specs.Kept.{number_octets, pairs}
use Rattle.sender_octets.proofs.writer.put_lengths.Given as goal

abbrev pub invariant-loop-i : goal.invariant-loop-i
invariant-loop-i l = (l.i ≤ places) × (l.octets ≡ paste l.initial.octets number_octets (pairs l.lengths) (2 * l.i)) × (length l.octets ≡ length l.initial.octets)

abbrev pub decreases-loop-i : goal.decreases-loop-i
decreases-loop-i l = places - l.i
