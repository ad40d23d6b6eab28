-- The random sequence is the recurrence of h(x) on bits from eight ones (`begins`, `recurrence`), its octets are made of its
-- bits (`octet_bits_lem`), and its period is 255 bits and no less (`period`, `least_period`).
use mathlib.Core.Path.{◌≡◌, refl, sym, ap, ◌∙◌}
use mathlib.Core.Bool.{not}
use Prim.Native.Nat.{ℕ, zero, suc, ◌+◌, ◌-◌, ◌*◌, ◌/◌, ◌%◌, ◌^◌, ◌<◌, ◌≤◌}
use native.Mathlib.Nat.{add_comm, zero-add, suc-add}
use native.Mathlib.Omega.{arith}
use lib.Dec.{T, T_not, eqb, eqb→eq}
use Rattle.base.proofs.Computed.{below}
use Rattle.randomizer.specs.Randomizer.{next_bit, later, all_ones, bit, octet}

-- the register one bit later
abbrev step : ℕ → ℕ
step q = q % 128 * 2 + next_bit q

next_bit_lt : (q : ℕ) → next_bit q < 2
unfolding next_bit
next_bit_lt q = omega arith

step_lt : (q : ℕ) → step q < 256
step_lt q = omega (arith, next_bit_lt q)

pub later_lt : (n q : ℕ) → q < 256 → later n q < 256
unfolding later
later_lt zero q h = h
later_lt (suc n) q h = later_lt n (step q) (step_lt q)

pub later_add : (n m q : ℕ) → later (n + m) q ≡ later m (later n q)
unfolding later
later_add zero m q = ap (λ (j : ℕ). later j q) (zero-add m)
later_add (suc n) m q = ap (λ (j : ℕ). later j q) (suc-add n m) ∙ later_add n m (step q)

-- binary digit m of a number
abbrev digit : ℕ → ℕ → ℕ
digit m q = q / 2 ^ m % 2

-- a digit moves up a place with each bit
moves : (m q : ℕ) → m < 7 → digit (suc m) (step q) ≡ digit m q
moves zero q h = omega (arith, next_bit_lt q)
moves (suc zero) q h = omega (arith, next_bit_lt q)
moves (suc (suc zero)) q h = omega (arith, next_bit_lt q)
moves (suc (suc (suc zero))) q h = omega (arith, next_bit_lt q)
moves (suc (suc (suc (suc zero)))) q h = omega (arith, next_bit_lt q)
moves (suc (suc (suc (suc (suc zero))))) q h = omega (arith, next_bit_lt q)
moves (suc (suc (suc (suc (suc (suc zero)))))) q h = omega (arith, next_bit_lt q)
moves (suc (suc (suc (suc (suc (suc (suc m))))))) q h = absurd (omega arith)

moved : (i q : ℕ) → i ≤ 7 → digit 7 (later i q) ≡ digit (7 - i) q
unfolding later
moved zero q h = refl
moved (suc i) q h =
    let e : 7 - i ≡ suc (7 - suc i) = omega arith in
    moved i (step q) (omega arith) ∙ ap (λ (m : ℕ). digit m (step q)) e ∙ moves (7 - suc i) q (omega arith)

bit_digit : (n : ℕ) → bit n ≡ digit 7 (later n all_ones)
unfolding bit
bit_digit n = omega (arith, later_lt n all_ones (omega arith))

-- the eight bits from bit n on stand in the register
bit_at : (n i : ℕ) → i ≤ 7 → bit (n + i) ≡ digit (7 - i) (later n all_ones)
bit_at n i h = bit_digit (n + i) ∙ ap (digit 7) (later_add n i all_ones) ∙ moved i (later n all_ones) h

pub octet_bits_lem : (k i : ℕ) → i ≤ 7 → bit (8 * k + i) ≡ octet k / 2 ^ (7 - i) % 2
unfolding octet
octet_bits_lem k i h = bit_at (8 * k) i h

pub begins : (n : ℕ) → n < 8 → bit n ≡ 1
unfolding bit later next_bit
begins n h = eqb→eq (bit n) 1 (below (λ m. eqb (bit m) 1) 8 tt n h)

low_digit : (q : ℕ) → digit 0 (step q) ≡ next_bit q
low_digit q = omega (arith, next_bit_lt q)

-- a number of eight digits, made of them
abbrev made : ℕ → ℕ
made q =
    digit 7 q * 128 + digit 6 q * 64 + digit 5 q * 32 + digit 4 q * 16 + digit 3 q * 8 + digit 2 q * 4 + digit 1 q * 2 + digit 0 q

made_of : (q : ℕ) → q < 256 → q ≡ made q
made_of q h = eqb→eq q (made q) (below (λ m. eqb m (made m)) 256 tt q h)

pub recurrence : (n : ℕ) → bit (n + 8) ≡ (bit (n + 6) + bit (n + 4) + bit (n + 3) + bit (n + 2) + bit (n + 1) + bit n) % 2
unfolding next_bit later
recurrence n =
    let q = later n all_ones in
    let a : bit (n + 8) ≡ digit 0 (step q) = bit_digit (n + 8) ∙ ap (digit 7) (later_add n 8 all_ones) ∙ moved 7 (step q) (omega arith) in
    a
    ∙ low_digit q
    ∙ sym (rw (bit_at n 6 (omega arith), bit_at n 4 (omega arith), bit_at n 3 (omega arith), bit_at n 2 (omega arith), bit_at n 1 (omega arith), bit_digit n))

-- 255 bits on, the register is at all ones again, and not before
pub period : (n : ℕ) → bit (n + 255) ≡ bit n
unfolding bit later next_bit
period n = ap (λ (j : ℕ). later j all_ones / 128) (add_comm n 255) ∙ ap (λ (q : ℕ). q / 128) (later_add 255 n all_ones)

pub least_period : (p : ℕ) → 0 < p → p < 255 → ((n : ℕ) → bit (n + p) ≡ bit n) → ⊥
unfolding later next_bit
least_period p l h e =
    let q = later p all_ones in
    let b : (i : ℕ) → i < 8 → i ≤ 7 → digit (7 - i) (later p all_ones) ≡ 1 = λ i k m. sym (bit_at p i m) ∙ ap bit (add_comm p i) ∙ e i ∙ begins i k in
    let z : later p all_ones ≡ 255 =
    made_of q (later_lt p all_ones (omega arith))
    ∙ rw (b 0 (omega arith) (omega arith), b 1 (omega arith) (omega arith), b 2 (omega arith) (omega arith), b 3 (omega arith) (omega arith), b 4 (omega arith) (omega arith), b 5 (omega arith) (omega arith), b 6 (omega arith) (omega arith), b 7 (omega arith) (omega arith)) in
    let s : suc (p - 1) ≡ p = omega arith in
    let t : T (not (eqb (later (suc (p - 1)) all_ones) 255)) = below (λ m. not (eqb (later (suc m) all_ones) 255)) 254 tt (p - 1) (omega arith) in
    T_not (eqb (later (suc (p - 1)) all_ones) 255) t (rw (ap (λ (j : ℕ). later j all_ones) s ∙ z) tt)
