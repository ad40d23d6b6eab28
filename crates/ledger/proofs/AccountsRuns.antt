-- A run's numbers find the right places. The units on the Sent_Queue have numbers that follow one another and are fewer than 256, so the unit last
-- accepted with such a number is the one on the queue, whatever units had that number before (`cut`): a run of the first of them settles exactly
-- these, in their order (`settle`).
use mathlib.Core.Path.{◌≡◌, refl, sym, ap, ap₂, subst, ◌∙◌}
use mathlib.Core.List.{List, [], ◌∷◌, ◌++◌, map, append_assoc, cons≢nil, head-eq_of_cons-eq, tail-eq_of_cons-eq}
use mathlib.Core.Option.{Option, none, some}
use Prim.Native.Nat.{ℕ, suc, ◌+◌, ◌≤◌}
use native.Mathlib.Omega.{arith}
use lib.ListN.{length, length-append}
use lib.Seq.{append_snoc}
use borrow.Author.Tests.{eq-eqb, ne_eqb}
use Rattle.base.specs.Choice.{pick}
use Rattle.base.specs.Modulo.{advanced}
use Rattle.fop.specs.Limits.{largest_number}
use Rattle.fop.specs.Units.{Fdu}
use Rattle.fop.specs.declared.Run.{Run}
use Rattle.fop.specs.Answers as answers
use Rattle.fop.proofs.Choices.{none_some}
use Rattle.ledger.specs.Ledger.{Turn, Accepted, Fate, Settled, confirmed, denied, places, settled_places, has_number, or_else, last_with, run_of}
use Rattle.ledger.specs.Accounted.{fdu_at, fdus_at}
use Rattle.ledger.proofs.Flow.{Follows}
use Rattle.ledger.proofs.AccountsLists.{places_append, settled_append}

-- an accepted unit that is u: its place, and its number
pub record Is (a : Accepted) (u : Fdu) : Type 0 where
  pub at : ℕ
  pub place : a.place ≡ some at
  pub number : a.number ≡ some u.ns

is_unit : (ts : List Turn) (a : Accepted) (u : Fdu) → fdu_at ts a.place a.number ≡ some u → Is a u
is_unit ts a u e = go a.place a.number refl refl e
  where
    go : (p n : Option ℕ) → a.place ≡ p → a.number ≡ n → fdu_at ts p n ≡ some u → Is a u
    go none n h k e = absurd (none_some e)
    go (some i) none h k e = absurd (none_some e)
    go (some i) (some n) h k e = record { at = i; place = h; number = k ∙ ap some (cc) }

-- The unit last accepted with a number.

or_else_assoc : (a b c : Option ℕ) → or_else (or_else a b) c ≡ or_else a (or_else b c)
or_else_assoc none b c = refl
or_else_assoc (some i) b c = refl

last_append : (xs ys : List Accepted) (x : ℕ) → last_with (xs ++ ys) x ≡ or_else (last_with ys x) (last_with xs x)
last_append [] ys x = sym (or_else_none (last_with ys x))
  where
    or_else_none : (a : Option ℕ) → or_else a none ≡ a
    or_else_none none = refl
    or_else_none (some i) = refl
last_append (a ∷ xs) ys x = rw (last_append xs ys x) (or_else_assoc (last_with ys x) (last_with xs x) (pick (has_number a.number x) a.place none))

-- no unit has the number x where their numbers follow one another from x + k on, up to below x + 256
absent : (ts : List Turn) (xs : List Accepted) (us : List Fdu) (x k : ℕ) → fdus_at ts xs ≡ map some us → Follows (advanced x k) us → 1 ≤ k
    → k + length us ≤ largest_number → x ≤ largest_number → last_with xs x ≡ none
absent ts [] us x k e f l m b = refl
absent ts (a ∷ xs) [] x k e f l m b = absurd (cons≢nil e)
absent ts (a ∷ xs) (u ∷ us) x k e f l m b =
    let i : Is a u = is_unit ts a u (head-eq_of_cons-eq e) in
    let z : advanced (advanced x k) 1 ≡ advanced x (k + 1) = omega arith in
    rw (
      absent ts xs us x (k + 1) (tail-eq_of_cons-eq e) (rw z at f.1) (omega arith) (omega arith) b,
      i.number,
      f.0,
      ne_eqb (advanced x k) x (omega arith),
    )

-- the number of the first of units that follow one another finds it
finds : (ts : List Turn) (before xs : List Accepted) (a : Accepted) (u : Fdu) (us : List Fdu) (x : ℕ) → fdus_at ts (a ∷ xs) ≡ map some (u ∷ us)
    → Follows x (u ∷ us) → length (u ∷ us) ≤ largest_number → x ≤ largest_number → last_with (before ++ (a ∷ xs)) x ≡ a.place
finds ts before xs a u us x e f m b =
    let i : Is a u = is_unit ts a u (head-eq_of_cons-eq e) in
    rw (
      last_append before (a ∷ xs) x,
      absent ts xs us x 1 (tail-eq_of_cons-eq e) f.1 (omega arith) (omega arith) b,
      i.number,
      f.0,
      eq-eqb x x refl,
      i.place,
    )

-- Units xs with the numbers from x on, the first of them those of us and the others those of vs: a run of the first settles them.
pub record Cut (ts : List Turn) (fate : Fate) (units : List Accepted) (x : ℕ) (us vs : List Fdu) (xs : List Accepted) : Type 0 where
  pub taken : List Accepted
  pub rest : List Accepted
  pub whole : xs ≡ taken ++ rest
  pub settles : settled_places (run_of fate units x (length us)) ≡ places taken
  pub left : fdus_at ts rest ≡ map some vs

pub cut : (ts : List Turn) (fate : Fate) (before xs : List Accepted) (us vs : List Fdu) (x : ℕ) → fdus_at ts xs ≡ map some (us ++ vs)
    → Follows x (us ++ vs) → length (us ++ vs) ≤ largest_number → x ≤ largest_number → Cut ts fate (before ++ xs) x us vs xs
cut ts fate before xs [] vs x e f m b = record { taken = []; rest = xs; whole = refl; settles = refl; left = e }
cut ts fate before [] (u ∷ us) vs x e f m b = absurd (cons≢nil (sym e))
cut ts fate before (a ∷ xs) (u ∷ us) vs x e f m b =
    let c : Cut ts fate ((before ++ (a ∷ [])) ++ xs) (advanced x 1) us vs xs =
    cut ts fate (before ++ (a ∷ [])) xs us vs (advanced x 1) (tail-eq_of_cons-eq e) f.1 (omega arith) (omega arith) in
    record {
      taken = a ∷ c.taken;
      rest = c.rest;
      whole = ap (◌∷◌ a) c.whole;
      settles = ap₂ ◌∷◌ (finds ts before xs a u (us ++ vs) x e f m b) (rw append_snoc at c.settles);
      left = c.left;
    }

-- Both runs of an answer.

follows_first : (us vs : List Fdu) (x : ℕ) → Follows x (us ++ vs) → Follows x us
follows_first [] vs x f = tt
follows_first (u ∷ us) vs x f = (f.0, follows_first us vs (advanced x 1) f.1)

follows_rest : (us vs : List Fdu) (x : ℕ) → x ≤ largest_number → Follows x (us ++ vs) → Follows (advanced x (length us)) vs
follows_rest [] vs x b f =
    let z : advanced x 0 ≡ x = omega arith in
    rw z f
follows_rest (u ∷ us) vs x b f =
    let z : advanced (advanced x 1) (length us) ≡ advanced x (suc (length us)) = omega arith in
    rw z at (follows_rest us vs (advanced x 1) (omega arith) f.1)

pub follows_append : (us vs : List Fdu) (x : ℕ) → x ≤ largest_number → Follows x us → Follows (advanced x (length us)) vs → Follows x (us ++ vs)
follows_append [] vs x b f g =
    let z : advanced x 0 ≡ x = omega arith in
    rw z at g
follows_append (u ∷ us) vs x b f g =
    let z : advanced x (suc (length us)) ≡ advanced (advanced x 1) (length us) = omega arith in
    (f.0, follows_append us vs (advanced x 1) (omega arith) f.1 (rw z at g))

-- a run as the answer gives it
abbrev pub run_by : Fate → List Accepted → Run → List Settled
run_by fate units r = run_of fate units r.number r.count

run_from_lem : (fate : Fate) (units : List Accepted) (us : List Fdu) (x : ℕ) → Follows x us → run_by fate units (answers.run_of us) ≡ run_of fate units x (length us)
run_from_lem fate units [] x f = refl
run_from_lem fate units (u ∷ us) x f = ap (λ (n : ℕ). run_of fate units n (suc (length us))) f.0

-- Of the units accepted, some were settled before; the others are those of c, d and q, in this order. The answer's runs settle those of c and d.
pub record Settle (ts : List Turn) (before units : List Accepted) (c d q : List Fdu) : Type 0 where
  pub front : List Accepted
  pub back : List Accepted
  pub whole : units ≡ front ++ back
  pub settles : places before ++ settled_places (run_by confirmed units (answers.run_of c) ++ run_by denied units (answers.run_of d)) ≡ places front
  pub left : fdus_at ts back ≡ map some q

pub settle : (ts : List Turn) (before xs : List Accepted) (c d q : List Fdu) (x : ℕ) → fdus_at ts xs ≡ map some (c ++ (d ++ q)) → Follows x (c ++ (d ++ q))
    → length (c ++ (d ++ q)) ≤ largest_number → x ≤ largest_number → Settle ts before (before ++ xs) c d q
settle ts before xs c d q x e f m b = go (cut ts confirmed before xs c (d ++ q) x e f m b)
  where
    both : (one : Cut ts confirmed (before ++ xs) x c (d ++ q) xs) → Cut ts denied (before ++ xs) (advanced x (length c)) d q one.rest
        → (before ++ one.taken) ++ one.rest ≡ before ++ xs → Settle ts before (before ++ xs) c d q
    both one two same = record {
      front = (before ++ one.taken) ++ two.taken;
      back = two.rest;
      whole = sym same ∙ ap (◌++◌ (before ++ one.taken)) two.whole ∙ sym (append_assoc (before ++ one.taken) two.taken two.rest);
      settles = rw (
        run_from_lem confirmed (before ++ xs) c x (follows_first c (d ++ q) x f),
        run_from_lem denied (before ++ xs) d (advanced x (length c)) (follows_first d q (advanced x (length c)) (follows_rest c (d ++ q) x b f)),
        settled_append,
        one.settles,
        two.settles,
        places_append (before ++ one.taken) two.taken,
        places_append before one.taken,
        append_assoc,
      );
      left = two.left;
    }

    go : Cut ts confirmed (before ++ xs) x c (d ++ q) xs → Settle ts before (before ++ xs) c d q
    go one =
        let same : (before ++ one.taken) ++ one.rest ≡ before ++ xs = append_assoc before one.taken one.rest ∙ ap (◌++◌ before) (sym one.whole) in
        both one (subst (λ (l : List Accepted). Cut ts denied l (advanced x (length c)) d q one.rest) same
        (cut ts denied (before ++ one.taken) one.rest d q (advanced x (length c)) one.left (follows_rest c (d ++ q) x b f)
        (omega (arith, length-append c (d ++ q))) (omega arith))) same
