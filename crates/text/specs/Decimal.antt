-- Decimal numbers as text: document 01, "The program": "Numbers are decimal, no sign, no leading zero."
use Rattle.std.specs.Prelude.{ℕ, zero, suc, ◌+◌, ◌-◌, ◌*◌, ◌/◌, ◌%◌, Bool, List, [], ◌∷◌, ◌++◌, leb, eqb, length, Option, Some, None}
use Rattle.base.specs.Choice.{pick, must, both}

-- the digit 0
abbrev pub digit_zero : ℕ
digit_zero = 0x30

-- the text of a number: its digits, the most significant first; below 10 one digit
unfoldable pub digits_below : ℕ → ℕ → List ℕ
digits_below zero n = (digit_zero + n % 10) ∷ []
digits_below (suc fuel) n = pick (leb n 9) ((digit_zero + n) ∷ []) (digits_below fuel (n / 10) ++ ((digit_zero + n % 10) ∷ []))

-- 20 digits hold every number of 64 bits
abbrev pub decimal : ℕ → List ℕ
decimal n = digits_below 19 n

-- 0 to 9
abbrev pub is_digit : ℕ → Bool
is_digit c = both (leb digit_zero c) (leb c 0x39)

-- the digits of a text behind the value a, where the value stays within a limit
unfoldable pub value_within : ℕ → ℕ → List ℕ → Option ℕ
value_within limit a [] = Some a
value_within limit a (c ∷ text) =
    must (is_digit c) None
    (must (leb (a * 10 + (c - digit_zero)) limit) None
    (value_within limit (a * 10 + (c - digit_zero)) text))

-- the number within a limit that a text is: not empty, no leading zero but in 0 itself. It is n exactly where the text is n's
-- decimal text (proofs/Canonical, `number_decimal` and `decimal_number`).
unfoldable pub number_within : ℕ → List ℕ → Option ℕ
number_within limit [] = None
number_within limit (c ∷ text) = pick (both (eqb c digit_zero) (leb 1 (length text))) None (value_within limit 0 (c ∷ text))
