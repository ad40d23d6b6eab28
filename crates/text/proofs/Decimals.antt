-- A number's decimal text by its last digit, for every number of 64 bits.
use mathlib.Core.Path.{◌≡◌, refl, sym, ap, ◌∙◌}
use mathlib.Core.Bool.{Bool, true, false}
use mathlib.Core.Logic.{◌⊎◌, inl, inr, ⊎_elim}
use mathlib.Core.List.{List, [], ◌∷◌, ◌++◌}
use Prim.Native.Nat.{ℕ, zero, suc, ◌+◌, ◌*◌, ◌/◌, ◌%◌, ◌^◌, ◌<◌, ◌≤◌}
use native.Mathlib.Nat.{pow-suc}
use native.Mathlib.Omega.{arith}
use borrow.Author.Tests.{le-leb, lt-leb, leb-true, leb-false}
use lib.ListN.{length, get_or, length-append, get_or-append}
use lib.Dec.{leb}
use Rattle.text.specs.Decimal.{digit_zero, digits_below, decimal}

-- one number is at most the other, or above it
pub order : (m n : ℕ) → (m ≤ n) ⊎ (n < m)
order m n = go (leb m n) refl
  where
    go : (b : Bool) → leb m n ≡ b → (m ≤ n) ⊎ (n < m)
    go true e = inl (leb-true m n e)
    go false e = inr (leb-false m n e)

pub one_digit : (fuel n : ℕ) → n ≤ 9 → digits_below fuel n ≡ (digit_zero + n) ∷ []
unfolding digits_below
one_digit zero n h =
    let e : n % 10 ≡ n = omega arith in
    ap (λ (x : ℕ). (digit_zero + x) ∷ []) e
one_digit (suc fuel) n h = simp (le-leb n 9 h)

pub more_digits : (fuel n : ℕ) → 9 < n → digits_below (suc fuel) n ≡ digits_below fuel (n / 10) ++ ((digit_zero + n % 10) ∷ [])
unfolding digits_below
more_digits fuel n h = simp (lt-leb n 9 h)

-- more fuel than there are digits changes nothing
enough : (fuel n : ℕ) → n < 10 ^ suc fuel → digits_below fuel n ≡ digits_below (suc fuel) n
enough zero n h = one_digit 0 n (omega arith) ∙ sym (one_digit 1 n (omega arith))
enough (suc fuel) n h =
    let p : 10 ^ suc (suc fuel) ≡ 10 ^ suc fuel * 10 = pow-suc 10 (suc fuel) in
    ⊎_elim (λ s. one_digit (suc fuel) n s ∙ sym (one_digit (suc (suc fuel)) n s))
    (λ l.
    more_digits fuel n l
    ∙ ap (λ (s : List ℕ). s ++ ((digit_zero + n % 10) ∷ [])) (enough fuel (n / 10) (omega arith))
    ∙ sym (more_digits (suc fuel) n l))
    (order n 9)

pub decimal_one : (n : ℕ) → n ≤ 9 → decimal n ≡ (digit_zero + n) ∷ []
decimal_one n h = one_digit 19 n h

pub decimal_more : (n : ℕ) → 9 < n → n < 2 ^ 64 → decimal n ≡ decimal (n / 10) ++ ((digit_zero + n % 10) ∷ [])
decimal_more n h k = more_digits 18 n h ∙ ap (λ (s : List ℕ). s ++ ((digit_zero + n % 10) ∷ [])) (enough 18 (n / 10) (omega arith))

-- there are digits, at most one more than the fuel, and the first is no zero but in 0 itself
pub some_digits : (fuel n : ℕ) → 0 < length (digits_below fuel n)
unfolding digits_below
some_digits zero n = omega arith
some_digits (suc fuel) n =
    ⊎_elim (λ s. omega (arith, ap length (one_digit (suc fuel) n s)))
    (λ l. omega (arith, ap length (more_digits fuel n l) ∙ length-append (digits_below fuel (n / 10)) ((digit_zero + n % 10) ∷ [])))
    (order n 9)

pub most_digits : (fuel n : ℕ) → length (digits_below fuel n) ≤ suc fuel
unfolding digits_below
most_digits zero n = omega arith
most_digits (suc fuel) n =
    ⊎_elim (λ s. omega (arith, ap length (one_digit (suc fuel) n s)))
    (λ l.
    omega
    (arith, most_digits fuel (n / 10), ap length (more_digits fuel n l) ∙ length-append (digits_below fuel (n / 10)) ((digit_zero + n % 10) ∷ [])))
    (order n 9)

pub first_digit : (fuel n : ℕ) → 0 < n → n < 10 ^ suc fuel → digit_zero < get_or (digits_below fuel n) 0 0
first_digit zero n p h = omega (arith, ap (λ (s : List ℕ). get_or s 0 0) (one_digit 0 n (omega arith)))
first_digit (suc fuel) n p h =
    let e : 10 ^ suc (suc fuel) ≡ 10 ^ suc fuel * 10 = pow-suc 10 (suc fuel) in
    ⊎_elim (λ s. omega (arith, ap (λ (s : List ℕ). get_or s 0 0) (one_digit (suc fuel) n s)))
    (λ l.
    omega (
      arith,
      first_digit fuel (n / 10) (omega arith) (omega arith),
      ap (λ (s : List ℕ). get_or s 0 0) (more_digits fuel n l)
          ∙ get_or-append (digits_below fuel (n / 10)) ((digit_zero + n % 10) ∷ []) 0 0 (some_digits fuel (n / 10)),
    ))
    (order n 9)

-- its length
pub length_one : (n : ℕ) → n ≤ 9 → length (decimal n) ≡ 1
length_one n h = ap length (decimal_one n h)

pub length_more : (n : ℕ) → 9 < n → n < 2 ^ 64 → length (decimal n) ≡ length (decimal (n / 10)) + 1
length_more n h k = ap length (decimal_more n h k) ∙ length-append (decimal (n / 10)) ((digit_zero + n % 10) ∷ [])

-- an octet's text has three digits at the most
pub length_octet : (n : ℕ) → n < 256 → length (decimal n) ≤ 3
length_octet n h =
    ⊎_elim (λ s. omega (arith, length_one n s))
    (λ l.
    ⊎_elim (λ s. omega (arith, length_more n l (omega arith), length_one (n / 10) s))
    (λ m. omega (arith, length_more n l (omega arith), length_more (n / 10) m (omega arith), length_one (n / 10 / 10) (omega arith)))
    (order (n / 10) 9))
    (order n 9)
