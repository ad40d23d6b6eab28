-- The sequence by octets: its period, randomizing octet by octet and part by part, and that randomizing twice gives the octets back.
use mathlib.Core.Path.{◌≡◌, refl, sym, ap, ap₂, ◌∙◌}
use mathlib.Core.List.{List, [], ◌∷◌}
use Prim.Native.Nat.{ℕ, zero, suc, ◌+◌, ◌*◌, ◌/◌, ◌%◌, ◌<◌}
use native.Mathlib.Nat.{zero-add, add-zero, suc-add, add-suc, suc-mul, le_of_suc-le-suc, not-suc-le-zero}
use native.Mathlib.Omega.{arith}
use lib.Bits.{bit_xor, xor_lt}
use lib.ListN.{length, take, drop, get_or}
use Rattle.base.specs.Octets.{Octets}
use Rattle.base.proofs.Xor.{xor_undo}
use Rattle.randomizer.specs.Randomizer.{next_bit, later, all_ones, octet, randomized, sequence_of}
use Rattle.randomizer.proofs.Recurrence.{later_lt, later_add}

pub octet_lt : (k : ℕ) → octet k < 256
unfolding octet
octet_lt k = later_lt (8 * k) all_ones (omega arith)

-- the next octet stands eight bits later
pub octet_next_lem : (k : ℕ) → octet (k + 1) ≡ later 8 (octet k)
unfolding octet
octet_next_lem k =
    let e : 8 * (k + 1) ≡ 8 * k + 8 = omega arith in
    ap (λ (j : ℕ). later j all_ones) e ∙ later_add (8 * k) 8 all_ones

-- 255 octets are eight periods of 255 bits
repeats : (n : ℕ) → later (n * 255) all_ones ≡ all_ones
unfolding later next_bit
repeats zero = refl
repeats (suc n) =
    let e : suc n * 255 ≡ 255 + n * 255 = omega (arith, suc-mul n 255) in
    ap (λ (j : ℕ). later j all_ones) e ∙ later_add 255 (n * 255) all_ones ∙ repeats n

pub octet_period : (k : ℕ) → octet (k % 255) ≡ octet k
unfolding octet
octet_period k =
    let e : 8 * k ≡ 8 * (k / 255) * 255 + 8 * (k % 255) = omega arith in
    sym (ap (λ (j : ℕ). later j all_ones) e ∙ later_add (8 * (k / 255) * 255) (8 * (k % 255)) all_ones ∙ ap (later (8 * (k % 255))) (repeats (8 * (k / 255))))

-- the sequence as a list
pub length_sequence : (n k : ℕ) → length (sequence_of n k) ≡ n
unfolding sequence_of
length_sequence zero k = refl
length_sequence (suc n) k = ap suc (length_sequence n (suc k))

pub sequence_at : (n k i : ℕ) → i < n → get_or (sequence_of n k) i 0 ≡ octet (k + i)
unfolding sequence_of
sequence_at zero k i h = absurd (not-suc-le-zero h)
sequence_at (suc n) k zero h = ap octet (sym (add-zero k))
sequence_at (suc n) k (suc i) h = sequence_at n (suc k) i (le_of_suc-le-suc h) ∙ ap octet (suc-add k i ∙ sym (add-suc k i))

-- its first 255 octets tell every octet
pub sequence_tells : (k : ℕ) → get_or (sequence_of 255 0) (k % 255) 0 ≡ octet k
sequence_tells k = sequence_at 255 0 (k % 255) (omega arith) ∙ ap octet (zero-add (k % 255)) ∙ octet_period k

-- randomizing is undone by doing it again, and goes octet by octet
pub randomized_twice : (k : ℕ) (xs : List ℕ) → randomized k (randomized k xs) ≡ xs
unfolding randomized
randomized_twice k [] = refl
randomized_twice k (x ∷ xs) = rw (xor_undo, randomized_twice (suc k) xs)

pub length_randomized : (k : ℕ) (xs : List ℕ) → length (randomized k xs) ≡ length xs
unfolding randomized
length_randomized k [] = refl
length_randomized k (x ∷ xs) = ap suc (length_randomized (suc k) xs)

pub randomized_at : (k : ℕ) (xs : List ℕ) (i : ℕ) → i < length xs → get_or (randomized k xs) i 0 ≡ bit_xor (get_or xs i 0) (octet (k + i))
unfolding randomized
randomized_at k [] i h = absurd (not-suc-le-zero h)
randomized_at k (x ∷ xs) zero h = ap (λ (j : ℕ). bit_xor x (octet j)) (sym (add-zero k))
randomized_at k (x ∷ xs) (suc i) h =
    randomized_at (suc k) xs i (le_of_suc-le-suc h)
    ∙ ap (λ (j : ℕ). bit_xor (get_or xs i 0) (octet j)) (suc-add k i ∙ sym (add-suc k i))

-- a part's front and its rest; where the sequence's octets repeat, so does randomizing
pub randomized_take : (m k : ℕ) (xs : List ℕ) → take m (randomized k xs) ≡ randomized k (take m xs)
unfolding randomized
randomized_take zero k xs = refl
randomized_take (suc m) k [] = refl
randomized_take (suc m) k (x ∷ xs) = ap (λ (l : List ℕ). bit_xor x (octet k) ∷ l) (randomized_take m (suc k) xs)

pub randomized_drop : (i k : ℕ) (xs : List ℕ) → drop i (randomized k xs) ≡ randomized (k + i) (drop i xs)
unfolding randomized
randomized_drop zero k xs = ap (λ (j : ℕ). randomized j xs) (sym (add-zero k))
randomized_drop (suc i) k [] = refl
randomized_drop (suc i) k (x ∷ xs) = randomized_drop i (suc k) xs ∙ ap (λ (j : ℕ). randomized j (drop i xs)) (suc-add k i ∙ sym (add-suc k i))

pub randomized_period : (k l : ℕ) (xs : List ℕ) → k % 255 ≡ l % 255 → randomized k xs ≡ randomized l xs
unfolding randomized
randomized_period k l [] e = refl
randomized_period k l (x ∷ xs) e =
    ap₂ (λ (o : ℕ) (r : List ℕ). bit_xor x o ∷ r)
    (sym (octet_period k) ∙ ap octet e ∙ octet_period l)
    (randomized_period (suc k) (suc l) xs (omega arith))

-- a part whose place is a multiple of 255 is randomized from the sequence's beginning
pub randomized_part : (i m : ℕ) (xs : List ℕ) → i % 255 ≡ 0 → take m (drop i (randomized 0 xs)) ≡ randomized 0 (take m (drop i xs))
randomized_part i m xs e =
    ap (take m) (randomized_drop i 0 xs) ∙ randomized_take m (0 + i) (drop i xs) ∙ randomized_period (0 + i) 0 (take m (drop i xs)) (omega arith)

pub octets_randomized : (k : ℕ) (xs : List ℕ) → Octets xs → Octets (randomized k xs)
unfolding randomized
octets_randomized k [] h = tt
octets_randomized k (x ∷ xs) h = (xor_lt 8 x (octet k) h.0 (octet_lt k), octets_randomized (suc k) xs h.1)
