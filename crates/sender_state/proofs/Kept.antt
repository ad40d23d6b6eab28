-- The lengths of a state that was kept: the first are at least 1, and all are those of a unit at the most. Where the counts hold, the units held
-- have places.
use mathlib.Core.Path.{◌≡◌, refl, sym, ap, ◌∙◌}
use mathlib.Core.Bool.{Bool, true, false, ◌&&◌}
use mathlib.Core.List.{List, [], ◌∷◌}
use Prim.Native.Nat.{ℕ, zero, suc, ◌≤◌, min}
use borrow.Author.Tests.{leb-true}
use lib.Dec.{leb}
use lib.ListN.{length, take}
use lib.Seq.{take_all}
use native.Mathlib.Omega.{arith}
use Rattle.std.specs.List.{list_all}
use Rattle.base.specs.Choice.{both}
use Rattle.base.specs.Limits.{largest_unit}
use Rattle.base.proofs.Tests.{both_left}
use Rattle.store.specs.Places.{places}
use Rattle.fop.specs.Limits.{largest_k}
use Rattle.sender_values.specs.declared.Variables.{Variables}
use Rattle.sender_values.specs.declared.Queues.{Queues}
use Rattle.sender_values.specs.Actions.{units_held}
use Rattle.sender_state.specs.State.{numbers_hold, lengths_hold}

exchanged : (a f b c : Bool) → both a (both b (f && c)) ≡ ((a && f) && (b && c))
exchanged true true true c = refl
exchanged true true false c = refl
exchanged true false true c = refl
exchanged true false false c = refl
exchanged false f b c = refl

within : (b : Bool) {c d : Bool} → c ≡ d → both b c ≡ (b && d)
within true e = e
within false e = refl

by_all : (n : ℕ) (s : List ℕ) → lengths_hold n s ≡ (list_all (leb 1) (take n s) && list_all (λ x. leb x largest_unit) s)
by_all zero [] = refl
by_all zero (x ∷ s) = within (leb x largest_unit) (by_all zero s)
by_all (suc n) [] = refl
by_all (suc n) (x ∷ s) =
    ap (λ (b : Bool). both (leb 1 x) (both (leb x largest_unit) b)) (by_all n s)
    ∙ exchanged (leb 1 x) (list_all (leb 1) (take n s)) (leb x largest_unit) (list_all (λ y. leb y largest_unit) s)

-- more units than there are lengths are as many as there are
at_most : (n m : ℕ) (s : List ℕ) → m ≡ min n (length s) → take m s ≡ take n s
at_most n m s e = grind (arith, take_all m s, take_all n s)

module _ (n m : ℕ) (s : List ℕ) (least : m ≡ min n (length s)) where
  pub filled_within : {a b : Bool} → a ≡ list_all (leb 1) (take m s) → a ≡ true → b ≡ list_all (λ x. leb x largest_unit) s → b ≡ lengths_hold n s
  filled_within p t q = rw (by_all n s, sym (at_most n m s least), sym p, t) q

  pub not_filled : {a : Bool} → a ≡ list_all (leb 1) (take m s) → a ≡ false → a ≡ lengths_hold n s
  not_filled p f = rw (by_all n s, sym (at_most n m s least), sym p, f)

-- of more units than there are lengths no more is asked than of as many
pub all_held : (s : List ℕ) (n : ℕ) → length s ≤ n → lengths_hold (length s) s ≡ lengths_hold n s
all_held [] zero h = refl
all_held [] (suc n) h = refl
all_held (x ∷ s) zero h = absurd (omega arith)
all_held (x ∷ s) (suc n) h = ap (λ (b : Bool). both (leb 1 x) (both (leb x largest_unit) b)) (all_held s n (omega arith))

-- where the counts hold, the units held have places
pub held_places : (v : Variables) (q : Queues) (n : ℕ) → numbers_hold v q ≡ true → n ≡ units_held q.sent q.waiting → n ≤ places
held_places v q n h e = go q.waiting e where
  sent : q.sent ≤ largest_k
  sent = leb-true q.sent largest_k (both_left (leb q.sent largest_k) _ h)

  go : (w : Bool) → n ≡ units_held q.sent w → n ≤ places
  go true p = omega (arith, sent)
  go false p = omega (arith, sent)
