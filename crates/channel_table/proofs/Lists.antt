-- The records copied so far stand at the front of the eight: one more is copied (`copied_at`); and how many there are to copy (`few_fits`).
use mathlib.Core.Path.{◌≡◌, refl, ap}
use Prim.Native.Nat.{ℕ, zero, suc, ◌+◌, ◌≤◌, ◌<◌}
use native.Mathlib.Nat.{not-suc-le-zero, le_of_suc-le-suc}
use native.Mathlib.Numerals.{add-one}
use native.Mathlib.Omega.{arith}
use mathlib.Core.Bool.{Bool, true, false}
use mathlib.Core.List.{List, [], ◌∷◌, ◌++◌}
use lib.Dec.{leb}
use lib.ListN.{length, get_or, set, take, drop}
use borrow.Author.Tests.{leb-true}
use Rattle.channels.specs.Limits.{largest_channels}
use Rattle.channel_table.specs.Taken.{few_of}

-- base/proofs/Lists has it of octets (`store`)
pub copied_at : {A : Type 0} (xs zs : List A) (i : ℕ) (d : A) → i < length xs → i < length zs
    → set (take i xs ++ drop i zs) i (get_or xs i d) ≡ take (i + 1) xs ++ drop (i + 1) zs
copied_at {A} xs zs i d l m = rw add-one (go xs zs i l m)
  where
    go : (xs zs : List A) (i : ℕ) → i < length xs → i < length zs → set (take i xs ++ drop i zs) i (get_or xs i d) ≡ take (suc i) xs ++ drop (suc i) zs
    go [] zs i l m = absurd (not-suc-le-zero l)
    go (x ∷ xs) [] i l m = absurd (not-suc-le-zero m)
    go (x ∷ xs) (z ∷ zs) zero l m = refl
    go (x ∷ xs) (z ∷ zs) (suc i) l m = ap (λ (ys : List A). x ∷ ys) (go xs zs i (le_of_suc-le-suc l) (le_of_suc-le-suc m))

few_by : (n : ℕ) (b : Bool) → leb n largest_channels ≡ b → (few_of n ≤ n) × (few_of n ≤ largest_channels)
few_by n true e = (rw e (omega arith), rw e (leb-true n largest_channels e))
few_by n false e = (rw e (omega arith), rw e (omega arith))

-- no more records are taken than there are, nor more than eight
pub few_fits : (n : ℕ) → (few_of n ≤ n) × (few_of n ≤ largest_channels)
few_fits n = few_by n (leb n largest_channels) refl
