-- What ties the ledger of a list of events to table 7-8's machine after it (`Tied`), and that order 11's claims follow from it (`claims`): the units
-- settled are the first of those accepted, and the others are those on the Sent_Queue, so these are the ones outstanding.
use mathlib.Core.Path.{◌≡◌, refl, sym, ap, ◌∙◌}
use mathlib.Core.Bool.{Bool, true, false}
use mathlib.Core.List.{List, ◌++◌, map}
use mathlib.Core.Option.{Option, some}
use Prim.Native.Nat.{ℕ, ◌+◌, ◌≤◌}
use native.Mathlib.Omega.{arith}
use lib.ListN.{length, length-map}
use Rattle.base.specs.Choice.{pick}
use Rattle.fop.specs.Units.{Own}
use Rattle.fop.specs.Variables.{Fop}
use Rattle.fop.specs.Machine.{fdus}
use Rattle.ledger.specs.Ledger.{Turn, Accepted, Ledger, confirmed, denied, ledger, places, settled_places, with_fate, outstanding}
use Rattle.ledger.specs.Accounted.{Accounted, is_offered, unit_at, fdus_at, waiting_in}
use Rattle.ledger.proofs.Flow.{Well}
use Rattle.ledger.proofs.AccountsLists.{weight, weight_append, here, each, nowhere, times_weight, length_weight, all_places_lem, offers, offers_each, offers_nowhere, offers_here}
use Rattle.ledger.proofs.AccountsLists.{places_append, length_places, fates_weight, AllOffered, left_out, left_all}

pub record Tied (ts : List Turn) (f : Fop) (l : Ledger) : Type 0 where
  pub well : Well f
  pub turns : l.turns ≡ length ts
  -- rejected, accepted and waiting are the requests offered, each once
  pub weighed : (g : Option ℕ → ℕ) → weight g l.rejected + (weight g (places l.accepted) + weight g (map some l.waiting)) ≡ offers g 0 ts
  -- the accepted ones: those settled, and those on the Sent_Queue
  pub front : List Accepted
  pub back : List Accepted
  pub whole : l.accepted ≡ front ++ back
  pub settled : settled_places l.settled ≡ places front
  pub stands : fdus_at ts back ≡ map some (fdus f.queues.sent_queue)
  -- the one waiting is that on the Wait_Queue
  pub waits : map (unit_at ts) l.waiting ≡ waiting_in f.queues.wait_queue

module _ (ts : List Turn) (f : Fop) (l : Ledger) (t : Tied ts f l) where
  -- each place once, where a request stands
  once_here : (i : ℕ) → weight (here i) l.rejected + (weight (here i) (places l.accepted) + weight (here i) (map some l.waiting))
      ≡ pick (is_offered ts i) 1 0
  once_here i =
      let z : 0 + i ≡ i = omega arith in
      t.weighed (here i) ∙ (rw z at (offers_here 0 i ts))

  is_offered_lem : (i : ℕ) → 1 ≤ weight (here i) l.rejected + (weight (here i) (places l.accepted) + weight (here i) (map some l.waiting))
      → is_offered ts i ≡ true
  is_offered_lem i h = go (is_offered ts i) (once_here i)
    where
      go : (b : Bool) → weight (here i) l.rejected + (weight (here i) (places l.accepted) + weight (here i) (map some l.waiting)) ≡ pick b 1 0 → b ≡ true
      go true e = refl
      go false e = absurd (omega arith)

  pub waiting_offered : AllOffered ts (map some l.waiting)
  waiting_offered i h = is_offered_lem i (omega arith)

  -- the weight of the accepted, part by part
  parts : (g : Option ℕ → ℕ) → weight g (places l.accepted) ≡ weight g (places t.front) + weight g (places t.back)
  parts g = rw (t.whole, places_append) (weight_append g (places t.front) (places t.back))

  pub back_offered : AllOffered ts (places t.back)
  back_offered i h = is_offered_lem i (omega (arith, parts (here i)))

  -- every response speaks of a unit
  nowhere_none : weight nowhere l.rejected + (weight nowhere (places l.accepted) + weight nowhere (map some l.waiting)) ≡ 0
  nowhere_none = t.weighed nowhere ∙ offers_nowhere 0 ts

  at_most_one : (i : ℕ) → weight (here i) (places l.accepted) ≤ 1
  at_most_one i = go (is_offered ts i) (once_here i)
    where
      go : (b : Bool) → weight (here i) l.rejected + (weight (here i) (places l.accepted) + weight (here i) (map some l.waiting)) ≡ pick b 1 0
          → weight (here i) (places l.accepted) ≤ 1
      go true e = omega arith
      go false e = omega arith

  pub outstanding_is : outstanding l ≡ t.back
  unfolding outstanding
  outstanding_is =
      rw (t.settled, t.whole)
      (left_out (places t.front) t.front t.back (omega (arith, nowhere_none, parts nowhere)) (λ i h. h)
      ∙ left_all (places t.front) t.back (λ i h. omega (arith, at_most_one i, parts (here i))))

module _ (own : Own) (ts : List Turn) (f : Fop) (t : Tied ts f (ledger own ts)) where
  abbrev l : Ledger
  l = ledger own ts

  stand_places : (g : Option ℕ → ℕ) → weight g (with_fate confirmed l.settled) + (weight g (with_fate denied l.settled) + weight g (places (outstanding l)))
      ≡ weight g (places l.accepted)
  stand_places g =
      rw (outstanding_is ts f l t)
      (omega (arith, fates_weight g l.settled, ap (weight g) t.settled, parts ts f l t g))

  pub claims : Accounted own ts f
  claims = record {
    once = λ i.
        omega (arith, times_weight i l.rejected, times_weight i (places l.accepted), times_weight i (map some l.waiting), once_here ts f l t i);
    known =
        (all_places_lem l.rejected (omega (arith, nowhere_none ts f l t)), all_places_lem (places l.accepted) (omega (arith, nowhere_none ts f l t)));
    fates = λ i.
        omega (
          arith,
          times_weight i (with_fate confirmed l.settled),
          times_weight i (with_fate denied l.settled),
          times_weight i (places (outstanding l)),
          times_weight i (places l.accepted),
          stand_places (here i),
        );
    order = rw (outstanding_is ts f l t, t.settled, t.whole) (sym (places_append t.front t.back));
    total =
        omega (
          arith,
          offers_each 0 ts,
          t.weighed each,
          length_weight l.rejected,
          length_weight (map some l.waiting),
          length-map l.waiting some,
          length_weight (with_fate confirmed l.settled),
          length_weight (with_fate denied l.settled),
          length_weight (places (outstanding l)),
          length_places (outstanding l),
          stand_places each,
        );
    waits = t.waits;
    stands = rw (outstanding_is ts f l t) t.stands;
  }
