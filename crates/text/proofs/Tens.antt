-- How many digits a number has, by powers of ten.
use Rattle.std.proofs.Common.{◌≡◌, ℕ, zero, suc, ◌+◌, ◌*◌, ◌/◌, ◌%◌, ◌^◌, ◌≤◌, ◌<◌, ◌∙◌, [], ◌∷◌, length, ap, arith}
use native.Mathlib.Nat.{pow-suc}
use lib.ListN.{length-append}
use Rattle.std.specs.Prelude.{Option, Some, None, IfSome, IfNone}
use Rattle.std.specs.Option.{unwrap_or}
use Rattle.text.specs.Decimal.{digit_zero, digits_below, decimal}
use Rattle.text.proofs.Decimals.{one_digit, more_digits, length_one}

some_tens : (k : ℕ) → 1 ≤ 10 ^ k
some_tens zero = omega arith
some_tens (suc k) = omega (arith, pow-suc 10 k, some_tens k)

pub length_tens : (fuel k n : ℕ) → k ≤ fuel → 10 ^ k ≤ n → n < 10 * 10 ^ k → length (digits_below fuel n) ≡ k + 1
length_tens fuel zero n f h l = ap length (one_digit fuel n (omega arith))
length_tens zero (suc k) n f h l = absurd (omega arith)
length_tens (suc fuel) (suc k) n f h l =
    let p : 10 ^ suc k ≡ 10 ^ k * 10 = pow-suc 10 k in
    let q : 1 ≤ 10 ^ k = some_tens k in
    let more = ap length (more_digits fuel n (omega arith)) ∙ length-append (digits_below fuel (n / 10)) ((digit_zero + n % 10) ∷ []) in
    omega (arith, more, length_tens fuel k (n / 10) (omega arith) (omega arith) (omega arith))

-- as the library's logarithm tells them
pub digits_told : (n : ℕ) (tens : Option ℕ) → IfNone tens (n ≡ 0) → IfSome tens (λ k. 10 ^ k ≤ n) → IfSome tens (λ k. n < 10 * 10 ^ k) → IfSome tens (λ k. k < 20)
    → 1 + unwrap_or tens 0 ≡ length (decimal n)
digits_told n None z l h b = omega (arith, length_one n (omega arith))
digits_told n (Some k) z l h b = omega (arith, length_tens 19 k n (omega arith) l h)
