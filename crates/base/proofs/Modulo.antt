-- Counting modulo 256: two counters that began alike show the same number only where they were advanced alike, and their
-- offset is the difference of their advances, as long as these are less than 256 apart.
use mathlib.Core.Path.{◌≡◌}
use Prim.Native.Nat.{ℕ, ◌+◌, ◌-◌, ◌<◌, ◌≤◌}
use native.Mathlib.Omega.{arith}
use Rattle.base.specs.Modulo.{advanced, offset}

pub offset_advanced : (n a b : ℕ) → b ≤ a → a < b + 256 → offset (advanced n a) (advanced n b) ≡ a - b
offset_advanced n a b h k = omega arith

pub offset_back : (n a b : ℕ) → a < b → b ≤ a + 256 → offset (advanced n a) (advanced n b) ≡ 256 - (b - a)
offset_back n a b h k = omega arith
