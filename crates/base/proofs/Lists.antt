-- Laws of lists for the two kinds of loop: one that fills the front of lent output place by place (`store`, `stored`), and
-- one that scans its input (`next`, `rest`).
use mathlib.Core.Path.{◌≡◌, refl, sym, ap, ◌∙◌}
use mathlib.Core.Bool.{true, false}
use mathlib.Core.List.{List, [], ◌∷◌, ◌++◌}
use Prim.Native.Nat.{ℕ, zero, suc, ◌+◌, ◌-◌, ◌<◌}
use native.Mathlib.Nat.{le_of_suc-le-suc, not-suc-le-zero, le_refl}
use native.Mathlib.Numerals.{add-one}
use native.Mathlib.Omega.{arith}
use borrow.Author.Tests.{eqb-true, eq-eqb}
use lib.Dec.{eqb}
use lib.ListN.{length, take, drop, get_or, set, length-drop}
use lib.Seq.{drop-cons, take_all, take-length}
use Rattle.base.specs.Octets.{Below, Octets, same}
use Rattle.base.proofs.Tests.{apart, not_so, both_left, both_right, both_true}

-- a store takes the list that is c's up to i, and d's from there, one place on
pub store : (c d : List ℕ) (i : ℕ) → i < length c → i < length d → set (take i c ++ drop i d) i (get_or c i 0) ≡ take (i + 1) c ++ drop (i + 1) d
store c d i h k = rw add-one (go c d i h k)
  where
    go : (c d : List ℕ) (i : ℕ) → i < length c → i < length d → set (take i c ++ drop i d) i (get_or c i 0) ≡ take (suc i) c ++ drop (suc i) d
    go [] d i h k = absurd (not-suc-le-zero h)
    go (x ∷ xs) [] i h k = absurd (not-suc-le-zero k)
    go (x ∷ xs) (y ∷ ys) zero h k = refl
    go (x ∷ xs) (y ∷ ys) (suc i) h k = ap (λ (l : List ℕ). x ∷ l) (go xs ys i (le_of_suc-le-suc h) (le_of_suc-le-suc k))

-- the same where the list and the number stored are known by equations
pub store_by : (c d o : List ℕ) (i v : ℕ) → o ≡ take i c ++ drop i d → v ≡ get_or c i 0 → i < length c → i < length d
    → set o i v ≡ take (i + 1) c ++ drop (i + 1) d
store_by c d o i v eo ev h k = ap (λ (l : List ℕ). set l i v) eo ∙ ap (set (take i c ++ drop i d) i) ev ∙ store c d i h k

-- with all of c it is c, and d from there
pub stored : (c d : List ℕ) (i : ℕ) → i ≡ length c → take i c ++ drop i d ≡ c ++ drop (length c) d
stored c d i e = rw (e, take-length)

-- the rest of a list, as a loop that counts up by one meets it
pub next : (s : List ℕ) (i : ℕ) → i < length s → drop i s ≡ get_or s i 0 ∷ drop (i + 1) s
next s i h = rw add-one (drop-cons s i 0 h)

-- a part `&s[a..]` is the rest of the list
pub rest : (s : List ℕ) (a : ℕ) → take (length s - a) (drop a s) ≡ drop a s
rest s a = take_all (length s - a) (drop a s) (simp length-drop (le_refl (length s - a)))

-- the test whether two lists are the same, and their equality
pub same_equal : (xs ys : List ℕ) → same xs ys ≡ true → xs ≡ ys
same_equal [] [] e = refl
same_equal [] (y ∷ ys) e = absurd (apart e)
same_equal (x ∷ xs) [] e = absurd (apart e)
same_equal (x ∷ xs) (y ∷ ys) e =
    let h : x ≡ y = eqb-true x y (both_left (eqb x y) (same xs ys) e) in
    let t : xs ≡ ys = same_equal xs ys (both_right (eqb x y) (same xs ys) e) in
    cc

pub same_self : (xs : List ℕ) → same xs xs ≡ true
same_self [] = refl
same_self (x ∷ xs) = rw (eq-eqb x x refl, same_self xs)

pub same_not : (xs ys : List ℕ) → same xs ys ≡ false → xs ≡ ys → ⊥
same_not xs ys d e = apart (sym d ∙ ap (same xs) (sym e) ∙ same_self xs)

pub same_length_not : (xs ys : List ℕ) → (length xs ≡ length ys → ⊥) → same xs ys ≡ false
same_length_not xs ys h = not_so (same xs ys) (λ e. h (ap length (same_equal xs ys e)))

-- n elements from place k on, one by one
pub take_next : (s : List ℕ) (n k : ℕ) → k < length s → take (suc n) (drop k s) ≡ get_or s k 0 ∷ take n (drop (suc k) s)
take_next s n k h = ap (take (suc n)) (drop-cons s k 0 h)

-- lists that differ in their last number at the most
pub same_last : (xs : List ℕ) (a b : ℕ) → same (xs ++ (a ∷ [])) (xs ++ (b ∷ [])) ≡ eqb a b
same_last [] a b = both_true (eqb a b)
same_last (x ∷ xs) a b = rw (eq-eqb x x refl, same_last xs a b)

-- numbers below a bound: by each place, at each place
pub below_at : (bound : ℕ) (s : List ℕ) → ((i : ℕ) → i < length s → get_or s i 0 < bound) → Below bound s
below_at bound [] h = tt
below_at bound (x ∷ s) h = (h 0 (omega arith), below_at bound s (λ i k. h (suc i) (omega arith)))

pub octets_at_lem : (s : List ℕ) → Octets s → (i : ℕ) → get_or s i 0 < 256
octets_at_lem [] h i = omega arith
octets_at_lem (x ∷ s) h zero = h.0
octets_at_lem (x ∷ s) h (suc i) = octets_at_lem s h.1 i

-- and of lists joined, of a part, and after a store
pub below_append : (bound : ℕ) (xs ys : List ℕ) → Below bound xs → Below bound ys → Below bound (xs ++ ys)
below_append bound [] ys h k = k
below_append bound (x ∷ xs) ys h k = (h.0, below_append bound xs ys h.1 k)

pub below_take : (bound n : ℕ) (s : List ℕ) → Below bound s → Below bound (take n s)
below_take bound zero s h = tt
below_take bound (suc n) [] h = tt
below_take bound (suc n) (x ∷ s) h = (h.0, below_take bound n s h.1)

pub below_drop : (bound n : ℕ) (s : List ℕ) → Below bound s → Below bound (drop n s)
below_drop bound zero s h = h
below_drop bound (suc n) [] h = tt
below_drop bound (suc n) (x ∷ s) h = below_drop bound n s h.1

pub below_set : (bound : ℕ) (s : List ℕ) (i v : ℕ) → Below bound s → v < bound → Below bound (set s i v)
below_set bound [] i v h k = tt
below_set bound (x ∷ s) zero v h k = (k, h.1)
below_set bound (x ∷ s) (suc i) v h k = (h.0, below_set bound s i v h.1 k)
