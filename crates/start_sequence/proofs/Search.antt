-- The search for the first start sequence: one step of it (`search_on`, `search_found`); where it ends if it begins at no place before
-- (`first_place`, `none_found`, `place_told`); and what is known of where it ends: a start sequence stands there, whole, and none earlier
-- (`found_starts`, `start_room`, `none_earlier`); one that stands behind octets that hold none, at most one bit of it wrong, is the one found
-- (`first_near`, `first_start`).
use mathlib.Core.Path.{◌≡◌, refl, sym, ap, ◌∙◌}
use mathlib.Core.Bool.{Bool, true, false}
use mathlib.Core.List.{List, [], ◌∷◌, ◌++◌}
use Prim.Native.Nat.{ℕ, zero, suc, ◌+◌, ◌<◌, ◌≤◌}
use native.Mathlib.Nat.{le_of_suc-le-suc, not-suc-le-zero}
use native.Mathlib.Numerals.{add-one}
use native.Mathlib.Omega.{arith}
use lib.ListN.{length, drop}
use lib.Seq.{drop-cons}
use Rattle.std.specs.Prelude.{Option, Some, None, IfSome, IfNone, MatchOption}
use Rattle.base.specs.Choice.{pick}
use Rattle.base.specs.Octets.{bits_of, octet_bits}
use Rattle.base.specs.Distance.{differing, wrong_bits}
use Rattle.base.proofs.Tests.{apart, yes, no}
use Rattle.start_sequence.specs.StartSequence.{start_sequence, starts, start_of, Received}
use Rattle.start_sequence.proofs.Starts.{near_starts, none_before, starts_two, starts_one}

-- no start at i: the search goes on; a start at i: it ends
pub search_on : (s : List ℕ) (i : ℕ) → i < length s → starts (drop i s) ≡ false → start_of (drop i s) ≡ suc (start_of (drop (i + 1) s))
unfolding start_of
search_on s i h e =
    let e' = rw (drop-cons s i 0) at e in
    rw (add-one, drop-cons s i 0, e')

pub search_found : (s : List ℕ) (i : ℕ) → i < length s → starts (drop i s) ≡ true → start_of (drop i s) ≡ 0
unfolding start_of
search_found s i h e =
    let e' = rw (drop-cons s i 0) at e in
    rw (drop-cons s i 0, e')

-- where a start is found, its two octets are there
pub start_room : (s : List ℕ) → start_of s < length s → start_of s + 2 ≤ length s
unfolding start_of
start_room [] h = absurd (not-suc-le-zero h)
start_room (x ∷ []) h = absurd (go (starts (x ∷ [])) (starts_one x) h)
  where
    go : (b : Bool) → b ≡ false → pick b 0 1 < 1 → ⊥
    go true e h = apart (sym e)
    go false e h = omega arith
start_room (x ∷ y ∷ ys) h = go (starts (x ∷ y ∷ ys)) (start_room (y ∷ ys)) h
  where
    go : (b : Bool) → (start_of (y ∷ ys) < length (y ∷ ys) → start_of (y ∷ ys) + 2 ≤ length (y ∷ ys))
        → pick b 0 (suc (start_of (y ∷ ys))) < length (x ∷ y ∷ ys) → pick b 0 (suc (start_of (y ∷ ys))) + 2 ≤ length (x ∷ y ∷ ys)
    go true ih h = omega arith
    go false ih h =
        let l = ih (le_of_suc-le-suc h) in
        omega arith

-- a start sequence stands where it is found
pub found_starts : (s : List ℕ) → start_of s < length s → starts (drop (start_of s) s) ≡ true
unfolding start_of
found_starts [] h = absurd (not-suc-le-zero h)
found_starts (x ∷ xs) h = go (starts (x ∷ xs)) refl h (found_starts xs)
  where
    go : (b : Bool) → starts (x ∷ xs) ≡ b → pick b 0 (suc (start_of xs)) < suc (length xs)
        → (start_of xs < length xs → starts (drop (start_of xs) xs) ≡ true) → starts (drop (pick b 0 (suc (start_of xs))) (x ∷ xs)) ≡ true
    go true e h ih = e
    go false e h ih = ih (omega arith)

-- what is within one bit of the start sequence is the first found behind octets that hold nothing within one bit; none reaches into it
module _ (a b : ℕ) (received : Received (a ∷ b ∷ [])) (behind : List ℕ) where
  abbrev rest : List ℕ
  rest = a ∷ b ∷ behind

  first_two : (before : List ℕ) → start_of before ≡ length before → start_of (before ++ rest) ≡ length before
  unfolding start_of
  first_two [] h = yes (starts rest) 0 (suc (start_of (b ∷ behind))) (near_starts a b behind received.near)
  first_two (x ∷ []) h = no (starts (x ∷ rest)) 0 (suc (start_of rest)) (none_before x a b (b ∷ behind) received.within.0 received.near) ∙ ap suc (first_two [] refl)
  first_two (x ∷ y ∷ ys) h = go (starts (x ∷ y ∷ ys)) (starts ((x ∷ y ∷ ys) ++ rest)) (starts_two x y ys (ys ++ rest)) h (first_two (y ∷ ys))
    where
      go : (b c : Bool) → b ≡ c → pick b 0 (suc (start_of (y ∷ ys))) ≡ suc (suc (length ys))
          → (start_of (y ∷ ys) ≡ length (y ∷ ys) → start_of ((y ∷ ys) ++ rest) ≡ length (y ∷ ys))
          → pick c 0 (suc (start_of ((y ∷ ys) ++ rest))) ≡ suc (suc (length ys))
      go true c d e ih = absurd (omega arith)
      go false true d e ih = absurd (apart d)
      go false false d e ih = ap suc (ih (omega arith))

pub first_near : (before octets behind : List ℕ) → Received octets → start_of before ≡ length before → start_of (before ++ (octets ++ behind)) ≡ length before
first_near before [] behind received h = absurd (omega (arith, received.two))
first_near before (a ∷ []) behind received h = absurd (omega (arith, received.two))
first_near before (a ∷ b ∷ []) behind received h = first_two a b received behind before h
first_near before (a ∷ b ∷ c ∷ cs) behind received h = absurd (omega (arith, received.two))

-- such as the start sequence itself
pub sequence_received : Received start_sequence
unfolding wrong_bits differing octet_bits bits_of
sequence_received = record { two = refl; within = (omega arith, (omega arith, tt)); near = omega arith }

pub first_start : (before behind : List ℕ) → start_of before ≡ length before → start_of (before ++ (start_sequence ++ behind)) ≡ length before
first_start before behind h = first_near before start_sequence behind sequence_received h

-- nothing starts before the place found; where nothing starts, the length is found
pub none_earlier : (s : List ℕ) (i : ℕ) → i < start_of s → starts (drop i s) ≡ false
unfolding start_of
none_earlier [] i h = absurd (not-suc-le-zero h)
none_earlier (x ∷ xs) i h = go (starts (x ∷ xs)) refl i h (none_earlier xs)
  where
    go : (b : Bool) → starts (x ∷ xs) ≡ b → (i : ℕ) → i < pick b 0 (suc (start_of xs))
        → ((j : ℕ) → j < start_of xs → starts (drop j xs) ≡ false) → starts (drop i (x ∷ xs)) ≡ false
    go true e i h ih = absurd (not-suc-le-zero h)
    go false e zero h ih = e
    go false e (suc i) h ih = ih i (le_of_suc-le-suc h)

pub none_found : (s : List ℕ) → ((i : ℕ) → i < length s → starts (drop i s) ≡ false) → start_of s ≡ length s
unfolding start_of
none_found [] h = refl
none_found (x ∷ xs) h =
    no (starts (x ∷ xs)) 0 (suc (start_of xs)) (h 0 (omega arith)) ∙ ap suc (none_found xs (λ i l. h (suc i) (omega arith)))

-- the first place where one starts
pub first_place : (s : List ℕ) (i : ℕ) → i < length s → starts (drop i s) ≡ true → ((k : ℕ) → k < i → starts (drop k s) ≡ false) → start_of s ≡ i
unfolding start_of
first_place [] i h e none = absurd (not-suc-le-zero h)
first_place (x ∷ xs) zero h e none = yes (starts (x ∷ xs)) 0 (suc (start_of xs)) e
first_place (x ∷ xs) (suc i) h e none =
    no (starts (x ∷ xs)) 0 (suc (start_of xs)) (none 0 (omega arith)) ∙ ap suc (first_place xs i (le_of_suc-le-suc h) e (λ k l. none (suc k) (omega arith)))

-- so where a search ends that names such a place, or none
pub place_told : (s : List ℕ) (r : Option ℕ) → IfSome r (λ i. (i < length s) × (starts (drop i s) ≡ true))
    → IfSome r (λ i. (k : ℕ) → k < i → starts (drop k s) ≡ false) → IfNone r ((k : ℕ) → k < length s → starts (drop k s) ≡ false)
    → MatchOption r (start_of s ≡ length s) (λ i. start_of s ≡ i)
place_told s None there before none = none_found s none
place_told s (Some i) there before none = first_place s i there.0 there.1 before
