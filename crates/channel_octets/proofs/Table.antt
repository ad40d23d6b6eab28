-- Records one behind the other: the record at a place is in the octets from there on (`record_at_lem`), and octets are those of their records where the first
-- are those of the first record and the others are a table (`table_next_lem`).
use mathlib.Core.Path.{◌≡◌, refl, sym, ap, ap₂, ◌∙◌}
use mathlib.Core.Bool.{Bool, true, false}
use mathlib.Core.List.{List, [], ◌∷◌, ◌++◌}
use Prim.Native.Nat.{ℕ, zero, suc, ◌+◌, ◌*◌, ◌/◌, ◌%◌, ◌<◌, ◌≤◌}
use native.Mathlib.Nat.{le_of_suc-le-suc, not-suc-le-zero}
use native.Mathlib.Omega.{arith}
use borrow.Author.Tests.{eq-eqb}
use lib.Dec.{eqb}
use lib.ListN.{length, take, drop, get_or, take-append-drop}
use lib.Seq.{drop-drop, length-take-le}
use Rattle.std.proofs.lemmas.List.{take-append-le}
use Rattle.std.proofs.Math.ListN.{get_or-append, length-append}
use Rattle.std.proofs.Math.Seq.{drop-append_seam}
use Rattle.base.specs.Choice.{both}
use Rattle.base.specs.Octets.{same}
use Rattle.base.proofs.Lists.{rest}
use Rattle.receiver.specs.declared.Channel.{Channel}
use Rattle.channel_octets.specs.Kept.{record_octets, octets_of, record_in, table_octets, records_from, is_table}

pub length_records : (n : ℕ) (o : List ℕ) → length (records_from n o) ≡ n
length_records zero o = refl
length_records (suc n) o = ap suc (length_records n (drop record_octets o))

-- the octets behind a record
pub behind : (i : ℕ) (o : List ℕ) → drop (i * record_octets) (drop record_octets o) ≡ drop (suc i * record_octets) o
behind i o =
    let e : record_octets + i * record_octets ≡ suc i * record_octets = omega arith in
    drop-drop (i * record_octets) record_octets o ∙ ap (λ (k : ℕ). drop k o) e

pub record_at_lem : (n i : ℕ) (o : List ℕ) (d : Channel) → i < n → get_or (records_from n o) i d ≡ record_in (drop (i * record_octets) o)
record_at_lem zero i o d h = absurd (not-suc-le-zero h)
record_at_lem (suc n) zero o d h = refl
record_at_lem (suc n) (suc i) o d h = record_at_lem n i (drop record_octets o) d (le_of_suc-le-suc h) ∙ ap record_in (behind i o)

-- lists joined are the same where their parts are
same_append : (xs ys us vs : List ℕ) → length xs ≡ length us → same (xs ++ ys) (us ++ vs) ≡ both (same xs us) (same ys vs)
same_append [] ys [] vs e = refl
same_append [] ys (u ∷ us) vs e = absurd (omega arith)
same_append (x ∷ xs) ys [] vs e = absurd (omega arith)
same_append (x ∷ xs) ys (u ∷ us) vs e = ap (both (eqb x u)) (same_append xs ys us vs (omega arith)) ∙ grouped (eqb x u) (same xs us) (same ys vs)
  where
    grouped : (a b c : Bool) → both a (both b c) ≡ both (both a b) c
    grouped true b c = refl
    grouped false b c = refl

-- octets are those of n records
abbrev pub are_of : ℕ → List ℕ → Bool
are_of n o = same o (table_octets (records_from n o))

table_first : (n : ℕ) (o : List ℕ) → record_octets ≤ length o
    → are_of (suc n) o ≡ both (same (take record_octets o) (octets_of (record_in o))) (are_of n (drop record_octets o))
table_first n o h =
    ap (λ (l : List ℕ). same l (table_octets (records_from (suc n) o))) (sym (take-append-drop record_octets o))
    ∙ same_append (take record_octets o) (drop record_octets o) (octets_of (record_in o)) (table_octets (records_from n (drop record_octets o))) (length-take-le record_octets o h)

-- octets that are whole records are a table where they are those of their records
pub whole_table : (o : List ℕ) → length o % record_octets ≡ 0 → is_table o ≡ are_of (length o / record_octets) o
unfolding is_table
whole_table o e = rw (eq-eqb (length o % record_octets) 0 e)

-- the record that octets begin with
record_front : (x rest : List ℕ) → length x ≡ record_octets → record_in (x ++ rest) ≡ record_in x
record_front x rest e =
    rw (
      get_or-append x rest 0 2 (omega (arith, e)),
      get_or-append x rest 0 3 (omega (arith, e)),
      get_or-append x rest 0 4 (omega (arith, e)),
      get_or-append x rest 0 5 (omega (arith, e)),
      get_or-append x rest 0 6 (omega (arith, e)),
      get_or-append x rest 0 7 (omega (arith, e)),
      get_or-append x rest 0 8 (omega (arith, e)),
    )
    refl

-- a table by its first record and the octets behind it
module _ (x rest : List ℕ) (e : length x ≡ record_octets) (whole : length (x ++ rest) % record_octets ≡ 0) where
  pub whole_behind : length rest % record_octets ≡ 0
  whole_behind = omega (arith, e, whole, length-append x rest)

  pub table_next_lem : (b : Bool) → b ≡ same (take record_octets x) (octets_of (record_in x)) → both b (is_table rest) ≡ is_table (x ++ rest)
  table_next_lem b h =
      let long : record_octets ≤ length (x ++ rest) = omega (arith, e, length-append x rest) in
      let count : length (x ++ rest) / record_octets ≡ suc (length rest / record_octets) = omega (arith, e, length-append x rest) in
      let back : drop record_octets (x ++ rest) ≡ rest = ap (λ (k : ℕ). drop k (x ++ rest)) (sym e) ∙ drop-append_seam x rest in
      let first : same (take record_octets (x ++ rest)) (octets_of (record_in (x ++ rest))) ≡ b =
      ap₂ (λ (l : List ℕ) (c : Channel). same l (octets_of c)) (take-append-le record_octets x rest (omega (arith, e))) (record_front x rest e) ∙ sym h in
      sym
      (whole_table (x ++ rest) whole
      ∙ ap (λ (n : ℕ). are_of n (x ++ rest)) count
      ∙ table_first (length rest / record_octets) (x ++ rest) long
      ∙ ap₂ (λ (t : Bool) (l : List ℕ). both t (are_of (length rest / record_octets) l)) first back
      ∙ ap (both b) (sym (whole_table rest whole_behind)))

-- no octets are a table
pub table_end : (o : List ℕ) → length o % record_octets ≡ 0 → length o < record_octets → is_table o ≡ true
table_end [] w h = whole_table [] refl
table_end (x ∷ o) w h = absurd (omega (arith, w, h))
