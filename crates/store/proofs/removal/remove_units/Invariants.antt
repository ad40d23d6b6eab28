-- The loop's invariant: the first i units are moved.
use mathlib.Core.Path.{◌≡◌}
use Rattle.store.specs.Places.{without}
use Rattle.store.proofs.removal.remove_units.Given as goal

abbrev pub invariant-loop-i : goal.invariant-loop-i
invariant-loop-i l = l.store ≡ without l.lengths l.count l.i l.initial.store
