-- Choices by a test: what holds on both sides of a choice holds of it; what a test of two parts says of each; and a fact at each of the
-- numbers below a bound.
use mathlib.Core.Path.{◌≡◌, refl}
use mathlib.Core.Bool.{Bool, true, false, ◌&&◌, true≢false, false≢true}
use mathlib.Core.Option.{none, some}
use Prim.Native.Nat.{ℕ, zero, suc, ◌<◌}
use native.Mathlib.Nat.{le_of_suc-le-suc, not-suc-le-zero}
use native.Mathlib.Omega.{arith}
use lib.Dec.{T}
use Rattle.base.specs.Choice.{pick}

pub by_pick : {A : Type 0} (P : A → Type 0) (b : Bool) {x y : A} → (b ≡ true → P x) → (b ≡ false → P y) → P (pick b x y)
by_pick P true f g = f refl
by_pick P false f g = g refl

-- where there is none, there is not one
pub none_some : {A : Type 0} {x : A} → none ≡ some x → ⊥
none_some e = let z : ◌≡◌ {A = ℕ} 0 1 = cc in omega arith

-- a test that is true is not false
pub never : {A : Type 0} → true ≡ false → A
never e = absurd (true≢false e)

pub and_l : (a b : Bool) → T (a && b) → T a
and_l true b t = tt
and_l false b t = t

pub and_r : (a b : Bool) → T (a && b) → T b
and_r true b t = t
and_r false b t = absurd t

pub and_both : (a b : Bool) → (a && b) ≡ true → (a ≡ true) × (b ≡ true)
and_both true b e = (refl, e)
and_both false b e = absurd (false≢true e)

-- a check that gives no refusal held
pub unrefused : (b : Bool) (number : ℕ) → ◌≡◌ {A = ℕ} (pick b 0 (suc number)) 0 → b ≡ true
unrefused true number e = refl
unrefused false number e = absurd (omega arith)

-- the numbers below n, each with its fact
abbrev pub Upto : (ℕ → Type 0) → ℕ → Type 0
Upto P zero = Unit {0}
Upto P (suc n) = P zero × Upto (λ k. P (suc k)) n

pub upto : (P : ℕ → Type 0) (n : ℕ) → Upto P n → (k : ℕ) → k < n → P k
upto P zero each k h = absurd (not-suc-le-zero h)
upto P (suc n) each zero h = each.0
upto P (suc n) each (suc k) h = upto (λ j. P (suc j)) n each.1 k (le_of_suc-le-suc h)

-- a pair, for a chain of them
infixr 5 ◌also◌
abbrev pub ◌also◌ : {A B : Type 0} → A → B → A × B
a also b = (a, b)
