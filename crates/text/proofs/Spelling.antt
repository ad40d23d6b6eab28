-- A number's digits written from the last one to the first.
use mathlib.Core.Path.{◌≡◌, refl, sym, ap, ◌∙◌}
use mathlib.Core.Logic.{⊎_elim}
use mathlib.Core.List.{List, [], ◌∷◌, ◌++◌, append_assoc}
use Prim.Native.Nat.{ℕ, ◌+◌, ◌-◌, ◌/◌, ◌%◌, ◌^◌, ◌<◌, ◌≤◌}
use native.Mathlib.Numerals.{add-one}
use native.Mathlib.Omega.{arith}
use lib.ListN.{length, take, drop, get_or, set, length-append, take-append-drop}
use lib.Seq.{take-suc, take_at, set_at, drop_at, length-take-le}
use Rattle.text.specs.Decimal.{digit_zero, decimal}
use Rattle.text.proofs.Decimals.{order, decimal_one, decimal_more}

-- a number's digits by the last one
record Lasts (rest : ℕ) : Type 0 where
  front : List ℕ
  whole : decimal rest ≡ front ++ ((digit_zero + rest % 10) ∷ [])
  more : 0 < length front → front ≡ decimal (rest / 10)

lasts : (rest : ℕ) → rest < 2 ^ 64 → Lasts rest
lasts rest h =
    ⊎_elim (λ s.
    let e : rest ≡ rest % 10 = omega arith in
    record { front = []; whole = decimal_one rest s ∙ ap (λ (x : ℕ). (digit_zero + x) ∷ []) e; more = λ k. absurd (omega arith) })
    (λ l. record { front = decimal (rest / 10); whole = decimal_more rest l h; more = λ k. refl })
    (order rest 9)

-- the last digit of rest put in front of the digits that stand
module _ (n rest place : ℕ) (old : List ℕ) (small : rest < 2 ^ 64) (room : length old ≡ length (decimal n)) (some : 0 < place) (fits : place ≤ length old)
    (left : take place (decimal n) ≡ decimal rest) where
  split : take place (decimal n) ≡ (lasts rest small).front ++ ((digit_zero + rest % 10) ∷ [])
  split = left ∙ (lasts rest small).whole

  before : length (lasts rest small).front ≡ place - 1
  before = omega (
    arith,
    ap length split ∙ length-append (lasts rest small).front ((digit_zero + rest % 10) ∷ []),
    length-take-le place (decimal n) (omega arith),
  )

  whole : decimal n ≡ (lasts rest small).front ++ ((digit_zero + rest % 10) ∷ drop place (decimal n))
  whole =
      sym (take-append-drop place (decimal n))
      ∙ ap (λ (t : List ℕ). t ++ drop place (decimal n)) split
      ∙ append_assoc (lasts rest small).front ((digit_zero + rest % 10) ∷ []) (drop place (decimal n))

  from : drop (place - 1) (decimal n) ≡ (digit_zero + rest % 10) ∷ drop place (decimal n)
  from = ap (drop (place - 1)) whole ∙ drop_at (lasts rest small).front ((digit_zero + rest % 10) ∷ drop place (decimal n)) (place - 1) before

  pub left_on : 0 < place - 1 → take (place - 1) (decimal n) ≡ decimal (rest / 10)
  left_on h =
      ap (take (place - 1)) whole
      ∙ take_at (lasts rest small).front ((digit_zero + rest % 10) ∷ drop place (decimal n)) (place - 1) before
      ∙ (lasts rest small).more (omega (arith, before))

  pub put_on : (out : List ℕ) → out ≡ take place old ++ drop place (decimal n)
      → set out (place - 1) (digit_zero + rest % 10) ≡ take (place - 1) old ++ drop (place - 1) (decimal n)
  put_on out memory =
      let e : place ≡ place - 1 + 1 = omega arith in
      let h : place - 1 < length old = omega arith in
      let t : take (place - 1 + 1) old ≡ take (place - 1) old ++ (get_or old (place - 1) 0 ∷ []) = rw (add-one, take-suc old (place - 1) 0 h) in
      ap (λ (o : List ℕ). set o (place - 1) (digit_zero + rest % 10))
      (memory
      ∙ ap (λ (o : List ℕ). o ++ drop place (decimal n)) (ap (λ (p : ℕ). take p old) e ∙ t)
      ∙ append_assoc (take (place - 1) old) (get_or old (place - 1) 0 ∷ []) (drop place (decimal n)))
      ∙ set_at (take (place - 1) old) (get_or old (place - 1) 0) (drop place (decimal n)) (digit_zero + rest % 10) (place - 1) (length-take-le (place - 1) old (omega arith))
      ∙ ap (λ (o : List ℕ). take (place - 1) old ++ o) (sym from)
