-- No unit removed leaves the store as it is; else one unit is moved after another.
use mathlib.Core.Path.{◌≡◌, refl, sym, ap, ◌∙◌}
use Prim.Native.Nat.{ℕ}
use native.Mathlib.Omega.{arith}
use Rattle.store.specs.Places.{without}
use Rattle.store.proofs.Moving.{without_none, without_next}
use Rattle.store.proofs.removal.remove_units.Goals as goal

pub loop-i-init : goal.loop-i-init
unfolding without
loop-i-init c = refl

pub loop-i-preserved : goal.loop-i-preserved
loop-i-preserved c = c.move_unit.ensures ∙ without_next c.args.lengths.now c.args.count c.loop-i.i c.args.store.now c.loop-i.store c.loop-i.invariant

pub returns-else-count-gt0 : goal.returns-else-count-gt0
returns-else-count-gt0 c =
    let a = c.args in
    let e : a.count ≡ 0 = omega arith in
    sym (ap (λ (n : ℕ). without a.lengths.now n a.staying a.store.now) e ∙ without_none a.lengths.now a.staying a.store.now)
