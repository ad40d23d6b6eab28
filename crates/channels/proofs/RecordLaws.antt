-- Laws of lists of records: where the record of a channel stands (`place_of`, `record_of`), what one record changed for another of its number leaves (every
-- other record, the numbers, the count), and what it makes of the sum held (`held_set`). By recursion over the list, as the definitions go.
use mathlib.Core.Path.{◌≡◌, refl, sym, ap, ◌∙◌}
use mathlib.Core.Bool.{Bool, true, false, ◌||◌}
use mathlib.Core.List.{List, [], ◌∷◌}
use Prim.Native.Nat.{ℕ, zero, suc, ◌+◌, ◌<◌, ◌≤◌}
use native.Mathlib.Omega.{arith}
use borrow.Author.Tests.{eqb-true}
use lib.Dec.{eqb}
use lib.ListN.{length, get_or, set, get_or-eq_default}
use lib.Seq.{get_or-set_same, get_or-set_other, map-set_same}
use Rattle.base.specs.Choice.{pick}
use Rattle.base.proofs.Tests.{apart, both_left, both_right}
use Rattle.receiver.specs.declared.Channel.{Channel}
use Rattle.channels.specs.Table.{is_in, place_of, distinct, held_in, record_holds, all_hold, no_record, record_of}
use Rattle.channels.specs.Isolation.{numbers}

-- The place of a channel's record.

pub place_within : (n : ℕ) (cs : List Channel) → is_in n cs ≡ true → place_of n cs < length cs
place_within n [] e = absurd (apart e)
place_within n (c ∷ cs) e = go (eqb c.number n) (place_within n cs) e
  where
    go : (b : Bool) → (is_in n cs ≡ true → place_of n cs < length cs) → (b || is_in n cs) ≡ true → pick b 0 (suc (place_of n cs)) < suc (length cs)
    go true later f = omega arith
    go false later f = omega (arith, later f)

pub place_past : (n : ℕ) (cs : List Channel) → is_in n cs ≡ false → place_of n cs ≡ length cs
place_past n [] e = refl
place_past n (c ∷ cs) e = go (eqb c.number n) (place_past n cs) e
  where
    go : (b : Bool) → (is_in n cs ≡ false → place_of n cs ≡ length cs) → (b || is_in n cs) ≡ false → pick b 0 (suc (place_of n cs)) ≡ suc (length cs)
    go true later f = absurd (apart (sym f))
    go false later f = ap suc (later f)

-- the record of a channel has its number
pub record_number : (n : ℕ) (cs : List Channel) → is_in n cs ≡ true → (record_of n cs).number ≡ n
record_number n [] e = absurd (apart e)
record_number n (c ∷ cs) e = go (eqb c.number n) refl (record_number n cs) e
  where
    go : (b : Bool) → eqb c.number n ≡ b → (is_in n cs ≡ true → (record_of n cs).number ≡ n) → (b || is_in n cs) ≡ true
        → (get_or (c ∷ cs) (pick b 0 (suc (place_of n cs))) no_record).number ≡ n
    go true p later f = eqb-true c.number n p
    go false p later f = later f

pub record_none : (n : ℕ) (cs : List Channel) → is_in n cs ≡ false → record_of n cs ≡ no_record
record_none n cs e = get_or-eq_default cs no_record (omega (arith, place_past n cs e))

-- two channels' records stand apart
pub place_apart : (m n : ℕ) (cs : List Channel) → (m ≡ n → ⊥) → is_in m cs ≡ true → place_of m cs ≡ place_of n cs → ⊥
place_apart m n cs d e p = go (is_in n cs) refl
  where
    go : (b : Bool) → is_in n cs ≡ b → ⊥
    go true f = d (sym (record_number m cs e) ∙ ap (λ (i : ℕ). (get_or cs i no_record).number) p ∙ record_number n cs f)
    go false f = omega (arith, place_within m cs e, place_past n cs f)

-- whether one is for a channel is by the numbers alone
abbrev among : ℕ → List ℕ → Bool
among n [] = false
among n (k ∷ ks) = eqb k n || among n ks

in_among : (n : ℕ) (cs : List Channel) → is_in n cs ≡ among n (numbers cs)
in_among n [] = refl
in_among n (c ∷ cs) = ap (λ (b : Bool). eqb c.number n || b) (in_among n cs)

pub in_numbers : (n : ℕ) (cs cs' : List Channel) → numbers cs ≡ numbers cs' → is_in n cs ≡ is_in n cs'
in_numbers n cs cs' e = in_among n cs ∙ ap (among n) e ∙ sym (in_among n cs')

-- One record changed for another of its number.

module _ (d : Channel) where
  pub in_set : (n : ℕ) (cs : List Channel) (i : ℕ) → d.number ≡ (get_or cs i no_record).number → is_in n (set cs i d) ≡ is_in n cs
  in_set n [] i e = refl
  in_set n (c ∷ cs) zero e = rw e
  in_set n (c ∷ cs) (suc i) e = rw (in_set n cs i e)

  pub place_set : (n : ℕ) (cs : List Channel) (i : ℕ) → d.number ≡ (get_or cs i no_record).number → place_of n (set cs i d) ≡ place_of n cs
  place_set n [] i e = refl
  place_set n (c ∷ cs) zero e = rw e
  place_set n (c ∷ cs) (suc i) e = rw (place_set n cs i e)

  pub distinct_set : (cs : List Channel) (i : ℕ) → d.number ≡ (get_or cs i no_record).number → distinct (set cs i d) ≡ distinct cs
  distinct_set [] i e = refl
  distinct_set (c ∷ cs) zero e = rw e
  distinct_set (c ∷ cs) (suc i) e = rw (in_set c.number cs i e, distinct_set cs i e)

  pub hold_set : (cs : List Channel) (i : ℕ) → record_holds d ≡ true → all_hold cs ≡ true → all_hold (set cs i d) ≡ true
  hold_set [] i e h = refl
  hold_set (c ∷ cs) zero e h = rw (e, both_right (record_holds c) (all_hold cs) h)
  hold_set (c ∷ cs) (suc i) e h = rw (both_left (record_holds c) (all_hold cs) h, hold_set cs i e (both_right (record_holds c) (all_hold cs) h))

  -- the sum held, with what the record held before and what it holds after
  pub held_set : (cs : List Channel) (i : ℕ) → i < length cs → held_in (set cs i d) + (get_or cs i no_record).held ≡ held_in cs + d.held
  held_set [] i h = omega arith
  held_set (c ∷ cs) zero h = omega arith
  held_set (c ∷ cs) (suc i) h = omega (arith, held_set cs i (omega arith))

-- the record of a channel is not more than all of them
pub held_within : (cs : List Channel) (i : ℕ) → (get_or cs i no_record).held ≤ held_in cs
held_within [] i = omega arith
held_within (c ∷ cs) zero = omega arith
held_within (c ∷ cs) (suc i) = omega (arith, held_within cs i)

-- every record is within the limits, also where none is
pub record_holds_lem : (cs : List Channel) (i : ℕ) → all_hold cs ≡ true → record_holds (get_or cs i no_record) ≡ true
record_holds_lem [] i h = refl
record_holds_lem (c ∷ cs) zero h = both_left (record_holds c) (all_hold cs) h
record_holds_lem (c ∷ cs) (suc i) h = record_holds_lem cs i (both_right (record_holds c) (all_hold cs) h)

-- The record of the channel n changed for d, which has its number.
module _ (n : ℕ) (cs : List Channel) (here : is_in n cs ≡ true) (d : Channel) (number : d.number ≡ (record_of n cs).number) where
  pub own_set : record_of n (set cs (place_of n cs) d) ≡ d
  own_set = rw (place_set d n cs (place_of n cs) number) (get_or-set_same cs (place_of n cs) d no_record (place_within n cs here))

  pub others_set : (m : ℕ) → (m ≡ n → ⊥) → record_of m (set cs (place_of n cs) d) ≡ record_of m cs
  others_set m other = rw (place_set d m cs (place_of n cs) number) (get_or-set_other cs (place_of n cs) (place_of m cs) d no_record (λ p. place_apart n m cs (λ q. other (sym q)) here (sym p)))

  pub numbers_set : numbers (set cs (place_of n cs) d) ≡ numbers cs
  numbers_set = map-set_same (λ (c : Channel). c.number) cs (place_of n cs) d no_record number
