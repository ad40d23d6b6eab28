-- The larger of two numbers, and so the octets that a sender needs of the store: they grow with K and with the units outstanding, and never
-- exceed those of all places.
use mathlib.Core.Path.{◌≡◌, refl}
use mathlib.Core.Bool.{Bool, true, false}
use Prim.Native.Nat.{ℕ, ◌+◌, ◌≤◌, max}
use native.Mathlib.Omega.{arith}
use borrow.Author.Tests.{leb-true, leb-false}
use lib.Dec.{leb}
use Rattle.base.proofs.Tests.{tests}
use Rattle.base.specs.Choice.{pick}
use Rattle.base.specs.Limits.{largest_k}
use Rattle.fop.specs.Store.{larger, store_need}
use Rattle.store.specs.Places.{places, place_offset}

module _ (a b : ℕ) where
  pub larger_max : max a b ≡ larger a b
  unfolding larger
  larger_max = grind (arith, tests)

  pub larger_first : a ≤ larger a b
  unfolding larger
  larger_first = by (leb a b) refl where
    by : (t : Bool) → leb a b ≡ t → a ≤ pick t b a
    by true e = leb-true a b e
    by false e = omega arith

  pub larger_second : b ≤ larger a b
  unfolding larger
  larger_second = by (leb a b) refl where
    by : (t : Bool) → leb a b ≡ t → b ≤ pick t b a
    by true e = omega arith
    by false e = omega (arith, leb-false a b e)

  pub larger_most : (m : ℕ) → a ≤ m → b ≤ m → larger a b ≤ m
  unfolding larger
  larger_most m p q = by (leb a b) where
    by : (t : Bool) → pick t b a ≤ m
    by true = q
    by false = p

-- the need falls with the units outstanding
pub need_fewer : (k a b : ℕ) → a ≤ b → store_need k a ≤ store_need k b
need_fewer k a b h = omega (arith, larger_most k a (larger k b) (larger_first k b) (omega (arith, h, larger_second k b)))

-- a unit more within K needs no more
pub need_window : (k a b : ℕ) → b ≤ k → store_need k b ≤ store_need k a
need_window k a b h = omega (arith, larger_most k b k (omega arith) h, larger_first k a)

-- the units outstanding and the one waiting lie inside it
pub need_units : (k outstanding i : ℕ) → i ≤ outstanding → place_offset (i + 1) ≤ store_need k outstanding
need_units k outstanding i h = omega (arith, h, larger_second k outstanding)

-- it is never more than all places
pub need_most : (k outstanding : ℕ) → k ≤ largest_k → outstanding ≤ largest_k → store_need k outstanding ≤ place_offset places
need_most k outstanding p q = omega (arith, larger_most k outstanding largest_k p q)
