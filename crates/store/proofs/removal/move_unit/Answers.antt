-- A unit that is not empty lies within the store, and its octets are put down; an empty one leaves the store as it is.
use mathlib.Core.Path.{◌≡◌, ap₂, ◌∙◌}
use mathlib.Core.List.{List, ◌++◌}
use Prim.Native.Nat.{ℕ, ◌+◌, ◌≤◌}
use native.Mathlib.Omega.{arith}
use lib.ListN.{length, take, drop, length-take}
use Rattle.store.specs.Places.{place_offset, unit_at}
use Rattle.store.proofs.Moving.{copied_within, placed_down, unit_within, unit_moved, unit_empty}
use Rattle.store.proofs.removal.move_unit.Goals as goal

pub returns-then-octets-eq0 : goal.returns-then-octets-eq0
returns-then-octets-eq0 c =
    let a = c.args in
    let same = rw (c.from.ensures, c.from-2.ensures) at c.unit_at-octets.ensures in
    unit_empty a.lengths.now a.count a.i a.store.now _ same (omega (arith, c.if-octets-eq0.true))

pub returns-then-octets-from : goal.returns-then-octets-from
returns-then-octets-from c =
    let a = c.args in
    let s = a.store.now in
    let u = c.unit_at-octets.result.now in
    let same : u ≡ unit_at a.lengths.now (a.count + a.i) s = rw (c.from.ensures, c.from-2.ensures) at c.unit_at-octets.ensures in
    let within : place_offset (a.count + a.i) + length u ≤ length s = unit_within a.lengths.now a.count a.i s u same (omega (arith, c.if-octets-eq0.false)) in
    let near : place_offset a.i + length u ≤ place_offset (a.count + a.i) = omega (arith, c.if-octets-from.true, c.from.ensures, c.from-2.ensures, c.from-to.ensures) in
    let behind = rw (c.from.ensures, c.from-2.ensures) at c.split_at_mut-front.ensures.back in
    let put = rw (c.split_at_mut-front.ensures.front, c.split_at_mut-front.ensures.back, c.from.ensures, c.from-2.ensures, c.from-to.ensures) at c.put.ensures in
    ap₂ (λ (x y : List ℕ). x ++ y) put behind
    ∙ placed_down s (take (length u) (drop (place_offset (a.count + a.i)) s)) (place_offset (a.count + a.i)) (place_offset a.i)
    (omega (arith, near, length-take (length u) (drop (place_offset (a.count + a.i)) s))) (omega (arith, within))
    ∙ unit_moved a.lengths.now a.count a.i s u same

pub returns : goal.returns
returns c =
    let a = c.args in
    let u = c.unit_at-octets.result.now in
    let same : u ≡ unit_at a.lengths.now (a.count + a.i) a.store.now = rw (c.from.ensures, c.from-2.ensures) at c.unit_at-octets.ensures in
    let within : place_offset (a.count + a.i) + length u ≤ length a.store.now = unit_within a.lengths.now a.count a.i a.store.now u same (omega (arith, c.if-octets-eq0.false)) in
    let moved = rw (c.from.ensures, c.from-2.ensures, c.from-to.ensures) at c.copy_within.ensures.after in
    moved
    ∙ copied_within a.store.now (place_offset (a.count + a.i)) (place_offset a.i) (length u) (omega arith) within
    ∙ unit_moved a.lengths.now a.count a.i a.store.now u same
