-- Texts and numbers of 64 bits are a bijection: a number's decimal text is read as that number, and a text that is read as a number
-- is that number's decimal text. So a sign, a leading zero or any other octet is refused.
use mathlib.Core.Path.{◌≡◌, refl, sym, ap, ap₂, ◌∙◌}
use mathlib.Core.Bool.{Bool, true, false}
use mathlib.Core.Logic.{⊎_elim}
use mathlib.Core.List.{List, [], ◌∷◌, ◌++◌, append_assoc, append-nil}
use Prim.Native.Nat.{ℕ, zero, suc, ◌+◌, ◌-◌, ◌*◌, ◌/◌, ◌%◌, ◌^◌, ◌<◌, ◌≤◌}
use native.Mathlib.Nat.{pow-suc}
use native.Mathlib.Omega.{arith}
use borrow.Author.Tests.{le-leb, leb-true, eq-eqb, ne_eqb}
use lib.Dec.{leb, eqb}
use lib.ListN.{length, get_or}
use Rattle.std.specs.Prelude.{Option, Some, None}
use Rattle.base.specs.Choice.{pick, must, both}
use Rattle.base.proofs.Tests.{apart, both_left, both_right, both_false}
use Rattle.text.specs.Decimal.{digit_zero, digits_below, decimal, is_digit, value_within, number_within}
use Rattle.text.proofs.Decimals.{order, one_digit, more_digits, some_digits, first_digit, decimal_one, decimal_more, length_one}

-- a digit more
pub value_next_lem : (limit a c : ℕ) (text : List ℕ) → digit_zero ≤ c → c ≤ 0x39 → a * 10 + (c - digit_zero) ≤ limit
    → value_within limit a (c ∷ text) ≡ value_within limit (a * 10 + (c - digit_zero)) text
unfolding value_within
value_next_lem limit a c text l h w = simp (le-leb digit_zero c l, le-leb c 0x39 h, le-leb (a * 10 + (c - digit_zero)) limit w)

-- the number goes on over further digits
abbrev onward : ℕ → Option ℕ → List ℕ → Option ℕ
onward limit (Some a) text = value_within limit a text
onward limit None text = None

must_onward : (limit : ℕ) (t : Bool) (v : Option ℕ) (text : List ℕ) → onward limit (must t None v) text ≡ must t None (onward limit v text)
must_onward limit true v text = refl
must_onward limit false v text = refl

value_append : (limit a : ℕ) (xs ys : List ℕ) → value_within limit a (xs ++ ys) ≡ onward limit (value_within limit a xs) ys
unfolding value_within
value_append limit a [] ys = refl
value_append limit a (c ∷ xs) ys = simp (must_onward, value_append limit (a * 10 + (c - digit_zero)) xs ys)

-- a text without a leading zero is its value; any other is none
pub number_value : (limit : ℕ) (text : List ℕ) → 0 < length text → (1 < length text → get_or text 0 0 ≡ digit_zero → ⊥)
    → number_within limit text ≡ value_within limit 0 text
unfolding number_within
number_value limit [] h k = absurd (omega arith)
number_value limit (c ∷ []) h k = simp both_false
number_value limit (c ∷ d ∷ text) h k = simp (ne_eqb c digit_zero (k (omega arith)))

pub number_empty : (limit : ℕ) (text : List ℕ) → length text ≡ 0 → number_within limit text ≡ None
unfolding number_within
number_empty limit [] h = refl
number_empty limit (c ∷ text) h = absurd (omega arith)

pub number_zero : (limit : ℕ) (text : List ℕ) → 1 < length text → get_or text 0 0 ≡ digit_zero → number_within limit text ≡ None
unfolding number_within
number_zero limit [] h e = absurd (omega arith)
number_zero limit (c ∷ text) h e = simp (eq-eqb c digit_zero e, le-leb 1 (length text) (omega arith))

-- the last digit
last_digit : (limit a d n : ℕ) → d ≤ 9 → n ≤ limit → a * 10 + d ≡ n → value_within limit a ((digit_zero + d) ∷ []) ≡ Some n
unfolding value_within
last_digit limit a d n h w e =
    let s : digit_zero + d - digit_zero ≡ d = omega arith in
    value_next_lem limit a (digit_zero + d) [] (omega arith) (omega arith) (omega arith)
    ∙ ap (λ (x : ℕ). Some (a * 10 + x)) s
    ∙ ap Some e

value_digits : (fuel limit n : ℕ) → n < 10 ^ suc fuel → n ≤ limit → value_within limit 0 (digits_below fuel n) ≡ Some n
value_digits zero limit n p h = ap (value_within limit 0) (one_digit 0 n (omega arith)) ∙ last_digit limit 0 n n (omega arith) h (omega arith)
value_digits (suc fuel) limit n p h =
    let e : 10 ^ suc (suc fuel) ≡ 10 ^ suc fuel * 10 = pow-suc 10 (suc fuel) in
    ⊎_elim (λ s. ap (value_within limit 0) (one_digit (suc fuel) n s) ∙ last_digit limit 0 n n s h (omega arith))
    (λ l.
    ap (value_within limit 0) (more_digits fuel n l)
    ∙ value_append limit 0 (digits_below fuel (n / 10)) ((digit_zero + n % 10) ∷ [])
    ∙ ap (λ (v : Option ℕ). onward limit v ((digit_zero + n % 10) ∷ [])) (value_digits fuel limit (n / 10) (omega arith) (omega arith))
    ∙ last_digit limit (n / 10) (n % 10) n (omega arith) h (omega arith))
    (order n 9)

pub number_decimal : (limit n : ℕ) → n ≤ limit → limit < 2 ^ 64 → number_within limit (decimal n) ≡ Some n
number_decimal limit n h k =
    number_value limit (decimal n) (some_digits 19 n)
    (λ m. ⊎_elim (λ s e. omega (arith, length_one n s)) (λ l e. omega (arith, first_digit 19 n (omega arith) (omega arith))) (order n 9))
    ∙ value_digits 19 limit n (omega arith) h

none_some : (n : ℕ) → None ≡ Some n → ⊥
none_some n e =
    let z : ◌≡◌ {A = ℕ} 0 1 = cc in
    omega arith

-- a check that held, in front of a number
must_some : (t : Bool) (v : Option ℕ) (n : ℕ) → must t None v ≡ Some n → (t ≡ true) × (v ≡ Some n)
must_some true v n e = (refl, e)
must_some false v n e = absurd (none_some n e)

pick_some : (t : Bool) (v : Option ℕ) (n : ℕ) → pick t None v ≡ Some n → (t ≡ false) × (v ≡ Some n)
pick_some true v n e = absurd (none_some n e)
pick_some false v n e = (refl, e)

-- what a number's digits keep to
record Next (limit a c n : ℕ) (text : List ℕ) : Type 0 where
  low : digit_zero ≤ c
  high : c ≤ 0x39
  within : a * 10 + (c - digit_zero) ≤ limit
  rest : value_within limit (a * 10 + (c - digit_zero)) text ≡ Some n

value_first : (limit a c n : ℕ) (text : List ℕ) → value_within limit a (c ∷ text) ≡ Some n → Next limit a c n text
unfolding value_within
value_first limit a c n text e =
    let d = must_some (is_digit c) _ n e in
    let w = must_some (leb (a * 10 + (c - digit_zero)) limit) _ n d.1 in
    record {
      low = leb-true digit_zero c (both_left (leb digit_zero c) (leb c 0x39) d.0);
      high = leb-true c 0x39 (both_right (leb digit_zero c) (leb c 0x39) d.0);
      within = leb-true (a * 10 + (c - digit_zero)) limit w.0;
      rest = w.1;
    }

same_some : (limit a n : ℕ) → value_within limit a [] ≡ Some n → a ≡ n
unfolding value_within
same_some limit a n e = cc

-- a number that is read is within the limit
value_within_lem : (limit a n : ℕ) (text : List ℕ) → a ≤ limit → value_within limit a text ≡ Some n → n ≤ limit
value_within_lem limit a n [] h e = omega (arith, same_some limit a n e)
value_within_lem limit a n (c ∷ text) h e =
    let f = value_first limit a c n text e in
    value_within_lem limit (a * 10 + (c - digit_zero)) n text f.within f.rest

pub number_within_lem : (limit n : ℕ) (text : List ℕ) → number_within limit text ≡ Some n → n ≤ limit
unfolding number_within
number_within_lem limit n [] e = absurd (none_some n e)
number_within_lem limit n (c ∷ text) e =
    value_within_lem limit 0 n (c ∷ text) (omega arith) (pick_some (both (eqb c digit_zero) (leb 1 (length text))) (value_within limit 0 (c ∷ text)) n e).1

-- digits behind a number that has a decimal text
value_back : (limit a n : ℕ) (text : List ℕ) → 0 < a → limit < 2 ^ 64 → value_within limit a text ≡ Some n → decimal a ++ text ≡ decimal n
value_back limit a n [] p k e = append-nil (decimal a) ∙ ap decimal (same_some limit a n e)
value_back limit a n (c ∷ text) p k e =
    let f = value_first limit a c n text e in
    let v = a * 10 + (c - digit_zero) in
    let q : a ≡ v / 10 = omega arith in
    let r : c ≡ digit_zero + v % 10 = omega arith in
    sym (append_assoc (decimal a) (c ∷ []) text)
    ∙ ap (λ (s : List ℕ). s ++ text) (ap₂ (λ (x y : ℕ). decimal x ++ (y ∷ [])) q r ∙ sym (decimal_more v (omega arith) (omega arith)))
    ∙ value_back limit v n text (omega arith) k f.rest

-- the first digit alone
one_back : (limit c n : ℕ) (text : List ℕ) → Next limit 0 c n text → decimal (0 * 10 + (c - digit_zero)) ≡ c ∷ []
one_back limit c n text f =
    let r : digit_zero + (0 * 10 + (c - digit_zero)) ≡ c = omega arith in
    decimal_one (0 * 10 + (c - digit_zero)) (omega arith) ∙ ap (λ (x : ℕ). x ∷ []) r

pub decimal_number : (limit n : ℕ) (text : List ℕ) → limit < 2 ^ 64 → number_within limit text ≡ Some n → text ≡ decimal n
unfolding number_within
decimal_number limit n [] k e = absurd (none_some n e)
decimal_number limit n (c ∷ []) k e =
    let v = pick_some (both (eqb c digit_zero) (leb 1 (length {A = ℕ} []))) (value_within limit 0 (c ∷ [])) n e in
    let f = value_first limit 0 c n [] v.1 in
    sym (one_back limit c n [] f) ∙ ap decimal (same_some limit (0 * 10 + (c - digit_zero)) n f.rest)
decimal_number limit n (c ∷ d ∷ text) k e =
    let v = pick_some (both (eqb c digit_zero) (leb 1 (length (d ∷ text)))) (value_within limit 0 (c ∷ d ∷ text)) n e in
    let f = value_first limit 0 c n (d ∷ text) v.1 in
    let z : c ≡ digit_zero → ⊥ = λ h. apart (sym v.0 ∙ rw (eq-eqb c digit_zero h, le-leb 1 (length (d ∷ text)) (omega arith))) in
    let p : 0 < 0 * 10 + (c - digit_zero) = ⊎_elim (λ h. absurd (z (omega arith))) (λ h. omega arith) (order c digit_zero) in
    ap (λ (s : List ℕ). s ++ (d ∷ text)) (sym (one_back limit c n (d ∷ text) f)) ∙ value_back limit (0 * 10 + (c - digit_zero)) n (d ∷ text) p k f.rest
