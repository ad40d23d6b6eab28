-- The table machine's answer and next state, by how the event is judged: 10, 12 and 7 refuse it; where they do not, 11 does if the store lent is
-- too small, or if the frame handed down does not fit. So a step of our sender that agrees with the machine's work does as the machine does.
use Prim.Native.Nat.{ℕ, ◌≤◌}
use mathlib.Core.Path.{◌≡◌, refl, sym, ap, ap₂, ◌∙◌}
use mathlib.Core.Bool.{Bool, true, false}
use mathlib.Core.List.{List}
use borrow.Author.Tests.{le-leb, eq-eqb, eqb-true}
use lib.Dec.{leb, eqb}
use Rattle.base.specs.Choice.{pick}
use Rattle.base.proofs.Tests.{apart, no}
use Rattle.fop.specs.Units.{Own}
use Rattle.fop.specs.Variables as machine
use Rattle.fop.specs.Variables.{Fop}
use Rattle.fop.specs.Events.{SenderEvent, work}
use Rattle.fop.specs.Answers.{Answer, octets_down, room, needed, judged, sender_refusal, sender_answer, sender_next, answered, refused}
use Rattle.fop.specs.Store.{need_at, store_refusal, lent_answer, lent_next}
use Rattle.sender_values.specs.declared.SenderState.{SenderState}
use Rattle.sender_values.specs.Start.{begun}
use Rattle.sender_view.specs.View.{fop_of}
use Rattle.sender.specs.Answers as sender
use Rattle.sender.specs.Answers.{Step, refused_step}
use Rattle.our_session.specs.Ours.{answer_by}
use Rattle.our_session.specs.Does.{Does, Well}
use Rattle.our_session.proofs.Concluding.{Agrees}

-- the refusal, by whether the frame fits or the store suffices, and how the event was judged: j, or 11, or 0
abbrev pub number : Bool → ℕ → ℕ
number b j = pick (eqb j 0) (pick b 0 11) j

pub number_short : (j : ℕ) → eqb (number false j) 0 ≡ false
number_short j = by (eqb j 0) refl where
  by : (b : Bool) → eqb j 0 ≡ b → eqb (pick b 11 j) 0 ≡ false
  by true z = refl
  by false z = z

-- x where the event is not refused, else y by the refusal
abbrev unless : {A : Type 0} → A → (ℕ → A) → ℕ → A
unless x y k = pick (eqb k 0) x (y k)

fits : {A : Type 0} (x : A) (y : ℕ → A) (b : Bool) → pick b x (y 11) ≡ unless x y (number b 0)
fits x y true = refl
fits x y false = refl

stays : {A : Type 0} (x : A) (y : ℕ → A) (b : Bool) (j : ℕ) → eqb j 0 ≡ false → unless x y (number b j) ≡ y j
stays x y b j h = ap (λ (t : Bool). unless x y (pick t (pick b 0 11) j)) h ∙ ap (λ (t : Bool). pick t x (y j)) h

module _ (own : Own) (stored lent : ℕ) (e : SenderEvent) (f : Fop) where
  abbrev m : machine.Work
  m = work own e f

  abbrev answer_if : Bool → ℕ → Answer
  answer_if b j = unless (answered own m) (λ k. refused k f) (number b j)

  abbrev next_if : Bool → ℕ → Fop
  next_if b j = unless m.fop (λ k. f) (number b j)

  -- the answer and the next state, by the refusal by the store
  answer_by_lem : (r : ℕ) → store_refusal own e stored f ≡ r → lent_answer own e stored lent f ≡ unless (sender_answer own e lent f) (λ k. refused k f) r
  unfolding lent_answer
  answer_by_lem r q = ap (unless (sender_answer own e lent f) (λ k. refused k f)) q

  next_by : (r : ℕ) → store_refusal own e stored f ≡ r → lent_next own e stored lent f ≡ unless (sender_next own e lent f) (λ k. f) r
  unfolding lent_next
  next_by r q = ap (unless (sender_next own e lent f) (λ k. f)) q

  pub refusal_is : (j : ℕ) (b : Bool) → judged own e ≡ j → leb (need_at e f) stored ≡ b → store_refusal own e stored f ≡ number b j
  unfolding store_refusal
  refusal_is j b p q = ap₂ number q p

  -- not refused by 10, 12 or 7, and the store suffices
  pub agreed : (x : Step) → judged own e ≡ 0 → leb (need_at e f) stored ≡ true → Agrees own lent f m x → Well own x.answer.next.fop → Does own stored lent e f x
  unfolding sender_answer sender_next sender_refusal needed
  agreed x j s a w =
      let b = leb (room (octets_down own m.frames)) lent in
      let z = refusal_is 0 true j s in
      record {
        answer = a.answer ∙ fits (answered own m) (λ k. refused k f) b ∙ ap (λ (k : ℕ). answer_if b k) (sym j) ∙ sym (answer_by_lem 0 z);
        next = a.next ∙ fits m.fop (λ k. f) b ∙ ap (λ (k : ℕ). next_if b k) (sym j) ∙ sym (next_by 0 z);
        well = w;
        good = λ r. a.good;
      }

  -- refused by the number r: 10, 12 or 7, or 11 for the store
  pub refuses : (x : Step) (r : ℕ) → store_refusal own e stored f ≡ r → eqb r 0 ≡ false → answer_by x ≡ refused r f
      → fop_of (begun x.answer.next.fop) x.answer.next.fop.lengths x.store ≡ f → Well own x.answer.next.fop → Does own stored lent e f x
  refuses x r q h a n w = record {
    answer = a ∙ sym (answer_by_lem r q ∙ no _ _ _ h);
    next = n ∙ sym (next_by r q ∙ no _ _ _ h);
    well = w;
    good = λ z. absurd (apart (sym h ∙ eq-eqb r 0 (sym q ∙ z)));
  }

  pub judged_refused : (j : ℕ) → judged own e ≡ j → eqb j 0 ≡ false → store_refusal own e stored f ≡ j
  judged_refused j p h = refusal_is j _ p refl ∙ no _ _ _ h

  pub store_refused : judged own e ≡ 0 → leb (need_at e f) stored ≡ false → store_refusal own e stored f ≡ 11
  store_refused p q = refusal_is 0 false p q

  -- an event that is not refused is not refused by the store
  pub done_stored : (lent_answer own e stored lent f).refusal ≡ 0 → store_refusal own e stored f ≡ 0
  unfolding lent_answer
  done_stored = by (eqb (store_refusal own e stored f) 0) refl where
    by : (b : Bool) → eqb (store_refusal own e stored f) 0 ≡ b
        → (pick b (sender_answer own e lent f) (refused (store_refusal own e stored f) f)).refusal ≡ 0 → store_refusal own e stored f ≡ 0
    by true z h = eqb-true (store_refusal own e stored f) 0 z
    by false z h = h

  -- where the store is too small, a refusal: 10, 12 or 7, else 11
  pub short : leb (need_at e f) stored ≡ false
      → (lent_answer own e stored lent f ≡ refused (number false (judged own e)) f) × (lent_next own e stored lent f ≡ f)
  short s =
      let z = refusal_is (judged own e) false refl s in
      (answer_by_lem _ z ∙ no _ _ _ (number_short (judged own e)), next_by _ z ∙ no _ _ _ (number_short (judged own e)))

  -- where the store suffices, the tables' own answer and next state
  enough : leb (need_at e f) stored ≡ true → (j : ℕ) → judged own e ≡ j
      → (lent_answer own e stored lent f ≡ sender_answer own e lent f) × (lent_next own e stored lent f ≡ sender_next own e lent f)
  unfolding sender_answer sender_next sender_refusal
  enough s j p = by (eqb j 0) refl where
    b : Bool
    b = leb (needed own e f) lent

    by : (t : Bool) → eqb j 0 ≡ t → (lent_answer own e stored lent f ≡ sender_answer own e lent f) × (lent_next own e stored lent f ≡ sender_next own e lent f)
    by true t = let z = refusal_is 0 true (p ∙ eqb-true j 0 t) s in (answer_by_lem 0 z, next_by 0 z)
    by false t =
        let z = judged_refused j p t in (
          answer_by_lem j z ∙ no _ _ _ t ∙ sym (ap (λ (k : ℕ). answer_if b k) p ∙ stays (answered own m) (λ k. refused k f) b j t),
          next_by j z ∙ no _ _ _ t ∙ sym (ap (λ (k : ℕ). next_if b k) p ∙ stays m.fop (λ k. f) b j t),
        )

  pub suffices_answer : need_at e f ≤ stored → lent_answer own e stored lent f ≡ sender_answer own e lent f
  suffices_answer h = (enough (le-leb (need_at e f) stored h) (judged own e) refl).0

  pub suffices_next : need_at e f ≤ stored → lent_next own e stored lent f ≡ sender_next own e lent f
  suffices_next h = (enough (le-leb (need_at e f) stored h) (judged own e) refl).1

-- a refused step keeps sender and store
module _ (own : Own) (s : SenderState) (store output : List ℕ) (number : ℕ) where
  pub refused_keeps : fop_of (begun (refused_step number s store output).answer.next.fop) (refused_step number s store output).answer.next.fop.lengths (refused_step number s store output).store ≡ fop_of (begun s) s.lengths store
  unfolding sender.refusing
  refused_keeps = refl

  pub refused_well : Well own s → Well own (refused_step number s store output).answer.next.fop
  unfolding sender.refusing
  refused_well w = w
