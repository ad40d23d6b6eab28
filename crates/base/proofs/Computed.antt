-- A rule at every number below a bound, by one computed test; a table's rule (`table_follows`); and a list that a function tabulates.
use mathlib.Core.Path.{◌≡◌, refl, ◌∙◌, subst, sym}
use mathlib.Core.Bool.{Bool, true, false, not}
use mathlib.Core.List.{List, [], ◌∷◌}
use Prim.Native.Nat.{ℕ, zero, suc, ◌+◌, ◌<◌}
use native.Mathlib.Nat.{add-zero, zero-add, add-suc, suc-add, le_of_suc-le-suc, not-suc-le-zero}
use lib.Dec.{T, eqb, eqb→eq}
use lib.ListN.{length, get_or}
use Rattle.base.specs.Choice.{both}

first : (a b : Bool) → T (both a b) → T a
first true b t = tt
first false b t = t

second : (a b : Bool) → T (both a b) → T b
second true b t = t
second false b t = absurd t

-- the test f passes at the n numbers from i on
abbrev pub all : (ℕ → Bool) → ℕ → ℕ → Bool
all f zero i = true
all f (suc n) i = both (f i) (all f n (suc i))

from : (f : ℕ → Bool) (n i : ℕ) → T (all f n i) → (k : ℕ) → k < n → T (f (i + k))
from f zero i t k h = absurd (not-suc-le-zero h)
from f (suc n) i t zero h = subst (λ (m : ℕ). T (f m)) (sym (add-zero i)) (first (f i) (all f n (suc i)) t)
from f (suc n) i t (suc k) h =
    subst (λ (m : ℕ). T (f m)) (suc-add i k ∙ sym (add-suc i k))
    (from f n (suc i) (second (f i) (all f n (suc i)) t) k (le_of_suc-le-suc h))

pub below : (f : ℕ → Bool) (n : ℕ) → T (all f n 0) → (k : ℕ) → k < n → T (f k)
below f n t k h = subst (λ (m : ℕ). T (f m)) (zero-add k) (from f n 0 t k h)

-- the entries of a list from place i on are what f tells, tested one after another
abbrev pub follows : (ℕ → ℕ) → ℕ → List ℕ → Bool
follows f i [] = true
follows f i (x ∷ xs) = both (eqb x (f i)) (follows f (suc i) xs)

follows_from : (f : ℕ → ℕ) (i : ℕ) (xs : List ℕ) → T (follows f i xs) → (k : ℕ) → k < length xs → get_or xs k 0 ≡ f (i + k)
follows_from f i [] t k h = absurd (not-suc-le-zero h)
follows_from f i (x ∷ xs) t zero h =
    eqb→eq x (f i) (first (eqb x (f i)) (follows f (suc i) xs) t) ∙ subst (λ (m : ℕ). f i ≡ f m) (sym (add-zero i)) refl
follows_from f i (x ∷ xs) t (suc k) h =
    follows_from f (suc i) xs (second (eqb x (f i)) (follows f (suc i) xs) t) k (le_of_suc-le-suc h)
    ∙ subst (λ (m : ℕ). f (suc i + k) ≡ f m) (suc-add i k ∙ sym (add-suc i k)) refl

-- so each entry of a table is what f tells of its place
pub table_follows : (table : List ℕ) (f : ℕ → ℕ) → T (follows f 0 table) → (i : ℕ) → i < length table → get_or table i 0 ≡ f i
table_follows table f t i h = follows_from f 0 table t i h ∙ subst (λ (m : ℕ). f (0 + i) ≡ f m) (zero-add i) refl

-- f at the n numbers from i on
abbrev pub tabulate : (ℕ → ℕ) → ℕ → ℕ → List ℕ
tabulate f zero i = []
tabulate f (suc n) i = f i ∷ tabulate f n (suc i)

pub get_d_tabulate : (f : ℕ → ℕ) (n i k : ℕ) → k < n → get_or (tabulate f n i) k 0 ≡ f (i + k)
get_d_tabulate f zero i k h = absurd (not-suc-le-zero h)
get_d_tabulate f (suc n) i zero h = subst (λ (m : ℕ). f i ≡ f m) (sym (add-zero i)) refl
get_d_tabulate f (suc n) i (suc k) h =
    get_d_tabulate f n (suc i) k (le_of_suc-le-suc h)
    ∙ subst (λ (m : ℕ). f (suc i + k) ≡ f m) (suc-add i k ∙ sym (add-suc i k)) refl

-- a computed test as an equation
pub is_true : (b : Bool) → T b → b ≡ true
is_true true t = refl
is_true false t = absurd t

-- two tests that agree below a bound
abbrev pub alike : Bool → Bool → Bool
alike true b = b
alike false b = not b

alike_equal : (a b : Bool) → T (alike a b) → a ≡ b
alike_equal true true t = refl
alike_equal true false t = absurd t
alike_equal false true t = absurd t
alike_equal false false t = refl

pub agree : (f g : ℕ → Bool) (n : ℕ) → T (all (λ x. alike (f x) (g x)) n 0) → (x : ℕ) → x < n → f x ≡ g x
agree f g n t x h = alike_equal (f x) (g x) (below (λ y. alike (f y) (g y)) n t x h)
