-- The tests on the way to a `return`, as rules that decide a definition's choices; and what an outcome promises.
use mathlib.Core.Path.{◌≡◌, refl, sym, ap}
use mathlib.Core.Bool.{Bool, true, false}
use mathlib.Core.List.{List}
use Prim.Native.Nat.{ℕ, ◌≤◌}
use native.Mathlib.Omega.{arith}
use borrow.Author.Tests.{lt-ltb, le-ltb, le-leb, lt-leb, eq-eqb, ne_eqb}
use Rattle.base.specs.Choice.{pick, must, both}
use Rattle.base.specs.Flags.{bit_of}
use Rattle.base.specs.Outcome.{Outcome, answer, after}

pub ruleset tests = (lt-ltb, le-ltb, le-leb, lt-leb, eq-eqb, ne_eqb)

pub both_false : (b : Bool) → both b false ≡ false
both_false true = refl
both_false false = refl

pub both_left : (a b : Bool) → both a b ≡ true → a ≡ true
both_left true b e = refl
both_left false b e = e

-- false is not true
pub apart : false ≡ true → ⊥
apart e =
    let z : ◌≡◌ {A = ℕ} 0 1 = cc in
    omega arith

pub both_right : (a b : Bool) → both a b ≡ true → b ≡ true
both_right true b e = e
both_right false b e = absurd (apart e)

pub both_true : (b : Bool) → both b true ≡ b
both_true true = refl
both_true false = refl

-- a choice whose test is decided
pub yes : {A : Type 0} (b : Bool) (x y : A) → b ≡ true → pick b x y ≡ x
yes b x y p = rw p

pub no : {A : Type 0} (b : Bool) (x y : A) → b ≡ false → pick b x y ≡ y
no b x y p = rw p

-- a test that cannot hold
pub not_so : (b : Bool) → (b ≡ true → ⊥) → b ≡ false
not_so true h = absurd (h refl)
not_so false h = refl

-- a chain of checks that gives no refusal: this check held, and the rest gives none
pub must_on : (t : Bool) (refusal on : ℕ) → (refusal ≡ 0 → ⊥) → must t refusal on ≡ 0 → (t ≡ true) × (on ≡ 0)
must_on true refusal on n e = (refl, e)
must_on false refusal on n e = absurd (n e)

-- a flag's bit is there once at the most
pub bit_le : (b : Bool) → bit_of b ≤ 1
bit_le true = omega arith
bit_le false = omega arith

-- an equation of outcomes says what the caller is told, and what the lent output holds
pub told : {A : Type 0} {o p : Outcome A} → o ≡ p → (old : List ℕ) → (answer p ≡ answer o) × (after p old ≡ after o old)
told e old = (ap answer (sym e), ap (λ x. after x old) (sym e))
