-- What the library's searches and sums over the records come to: the place of a channel's record, the units that all hold, and whether all hold.
use Rattle.std.proofs.Common.{◌≡◌, ℕ, ◌+◌, ◌<◌, ◌≤◌, Bool, true, false, not, ◌||◌, ◌&&◌, List, [], ◌∷◌, Option, Some, None, length, refl, sym, ap, ◌∙◌, arith, if◌then◌else◌, ◌-◌, take, drop}
use Rattle.std.specs.Prelude.{is_some}
use Rattle.std.specs.List.{position, position_or_len, sum_by, list_all}
use Rattle.std.proofs.lemmas.List.Sums.{sum_by-cons}
use borrow.Author.Tests.{lt-ltb, ltb-true}
use lib.Dec.{is_le, ltb, eqb}
use Prim.Native.Nat.compare
use Prim.Native.Nat.{zero, suc}
use native.Mathlib.Nat.{le_of_suc-le-suc, not-suc-le-zero}
use lib.ListN.{get_or}
use lib.Seq.{take-length}
use Rattle.base.specs.Choice.{pick, both}
use Rattle.farm.specs.declared.State.TheVariants.{Open}
use Rattle.receiver.specs.declared.Channel.{Channel}
use Rattle.channels.specs.Table.{is_in, place_of, held_in, distinct, record_holds, all_hold, no_record, record_of}

module _ (m : ℕ) where
  place_is : (cs : List Channel) → position_or_len (λ (c : Channel). eqb c.number m) cs ≡ place_of m cs
  place_is [] = refl
  place_is (c ∷ cs) = go (eqb c.number m) (place_is cs)
    where
      go : (b : Bool) → position_or_len (λ (d : Channel). eqb d.number m) cs ≡ place_of m cs
          → (if not b then 1 + position_or_len (λ (d : Channel). eqb d.number m) cs else 0) ≡ pick b 0 (suc (place_of m cs))
      go true e = refl
      go false e = omega (arith, e)

  -- a record for the channel m is there where its place is one of theirs
  pub is_in_place : (cs : List Channel) → is_in m cs ≡ ltb (place_of m cs) (length cs)
  is_in_place [] = refl
  is_in_place (c ∷ cs) = go (eqb c.number m) (is_in_place cs)
    where
      go : (b : Bool) → is_in m cs ≡ ltb (place_of m cs) (length cs) → (b || is_in m cs) ≡ ltb (pick b 0 (suc (place_of m cs))) (suc (length cs))
      go true e = sym (lt-ltb 0 (suc (length cs)) (omega arith))
      go false e = e ∙ sym (ap is_le (compare.suc-suc (suc (place_of m cs)) (length cs)))

  pub position_is : (cs : List Channel) → position (λ (c : Channel). eqb c.number m) cs ≡ pick (is_in m cs) (Some (place_of m cs)) None
  position_is cs = rw (place_is cs, is_in_place cs) (go (ltb (place_of m cs) (length cs)))
    where
      go : (b : Bool) → (if b then Some (place_of m cs) else None) ≡ pick b (Some (place_of m cs)) None
      go true = refl
      go false = refl

pub held_is : (cs : List Channel) → sum_by (λ (c : Channel). c.held) cs ≡ held_in cs
held_is [] = refl
held_is (c ∷ cs) = sum_by-cons (λ (d : Channel). d.held) c cs ∙ ap (λ (n : ℕ). c.held + n) (held_is cs)

and_both : (a b c : Bool) → b ≡ c → (a && b) ≡ both a c
and_both true b c e = e
and_both false b c e = refl

pub all_is : (cs : List Channel) → list_all record_holds cs ≡ all_hold cs
all_is [] = refl
all_is (c ∷ cs) = and_both (record_holds c) (list_all record_holds cs) (all_hold cs) (all_is cs)

-- what an array's element is past its end
abbrev pub blank : Channel
blank = record {
  number = 0;
  window = 0;
  held = 0;
  variables = record { state = Open; vr = 0; lockout = false; wait = false; retransmit = false; counter = 0 };
}

-- what stands past the end is not told at a place before it
same_at : (cs : List Channel) (i : ℕ) (d e : Channel) → i < length cs → get_or cs i d ≡ get_or cs i e
same_at [] i d e h = absurd (not-suc-le-zero h)
same_at (c ∷ cs) zero d e h = refl
same_at (c ∷ cs) (suc i) d e h = same_at cs i d e (le_of_suc-le-suc h)

-- The record that is found for the channel m, or none.
module _ (m : ℕ) (cs : List Channel) where
  abbrev pub found : Option ℕ
  found = position (λ (c : Channel). eqb c.number m) cs

  pub is_found : is_some found ≡ is_in m cs
  is_found = ap is_some (position_is m cs) ∙ go (is_in m cs)
    where
      go : (x : Bool) → is_some (pick x (Some (place_of m cs)) None) ≡ x
      go true = refl
      go false = refl

  of_found : {o : Option ℕ} → found ≡ o → pick (is_in m cs) (Some (place_of m cs)) None ≡ o
  of_found e = sym (position_is m cs) ∙ e

  pub missing : found ≡ None → is_in m cs ≡ false
  missing e = go (is_in m cs) (of_found e)
    where
      go : (b : Bool) → pick b (Some (place_of m cs)) None ≡ None → b ≡ false
      go true h = let z : ◌≡◌ {A = ℕ} 0 1 = cc h in absurd (omega arith)
      go false h = refl

  module _ (p : ℕ) (e : found ≡ Some p) where
    pub there : is_in m cs ≡ true
    there = go (is_in m cs) (of_found e)
      where
        go : (b : Bool) → pick b (Some (place_of m cs)) None ≡ Some p → b ≡ true
        go true h = refl
        go false h = let z : ◌≡◌ {A = ℕ} 0 1 = cc h in absurd (omega arith)

    pub place : p ≡ place_of m cs
    place = go (is_in m cs) (of_found e)
      where
        go : (b : Bool) → pick b (Some (place_of m cs)) None ≡ Some p → p ≡ place_of m cs
        go true h = cc h
        go false h = let z : ◌≡◌ {A = ℕ} 0 1 = cc h in absurd (omega arith)

    pub within : p < length cs
    within = omega (arith, place, ltb-true (place_of m cs) (length cs) (sym (is_in_place m cs) ∙ there))

    pub record_found : get_or cs p blank ≡ record_of m cs
    record_found = same_at cs p blank no_record within ∙ ap (λ (i : ℕ). get_or cs i no_record) place

-- No two are for one channel where none behind the first is for its channel, and no two of those behind it are for one.
behind : (cs : List Channel) → take (length cs - 1) (drop 1 cs) ≡ drop 1 cs
behind [] = refl
behind (c ∷ cs) =
    let e : suc (length cs) - 1 ≡ length cs = omega arith in
    ap (λ (n : ℕ). take n cs) e ∙ take-length cs

abbrev others : List Channel → List Channel
others cs = take (length cs - 1) (drop 1 cs)

negated : (b y : Bool) → y ≡ not b → b ≡ not y
negated true false e = refl
negated false true e = refl
negated true true e = let z : ◌≡◌ {A = ℕ} 0 1 = cc e in absurd (omega arith)
negated false false e = let z : ◌≡◌ {A = ℕ} 0 1 = cc e in absurd (omega arith)

pub distinct_by : (cs : List Channel) → 1 ≤ length cs → {m : ℕ} {o : Option ℕ} (b : Bool) → m ≡ (get_or cs 0 blank).number → o ≡ found m (others cs) → is_some o ≡ not b
    → both b (distinct (others cs)) ≡ distinct cs
distinct_by [] h b f e n = absurd (not-suc-le-zero h)
distinct_by (c ∷ cs) h {m} {o} b f e n =
    let k : is_in m cs ≡ not b = sym (is_found m cs) ∙ ap (λ (ds : List Channel). is_some (found m ds)) (sym (behind (c ∷ cs))) ∙ ap is_some (sym e) ∙ n in
    ap (λ (ds : List Channel). both b (distinct ds)) (behind (c ∷ cs))
    ∙ ap (λ (x : Bool). both x (distinct cs)) (negated b (is_in m cs) k)
    ∙ ap (λ (number : ℕ). both (not (is_in number cs)) (distinct cs)) f
