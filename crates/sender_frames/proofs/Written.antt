-- What writing the frame handed down promises; its unit stood at its place in the store before the event.
use mathlib.Core.Path.{◌≡◌, sym, ap, ◌∙◌}
use mathlib.Core.List.{List}
use Prim.Native.Nat.{ℕ, ◌+◌}
use borrow.Author.Tests.{eq-eqb, ne_eqb}
use Rattle.std.specs.Prelude.{Result}
use Rattle.base.specs.Outcome.{Outcome, answer, after}
use Rattle.base.specs.Refusals.{written_answer}
use Rattle.base.proofs.Tests.{yes, no}
use Rattle.base.specs.declared.Refusal.{Refusal}
use Rattle.sender_values.specs.declared.SenderState.{SenderState}
use Rattle.sender_values.specs.declared.Work.{Work}
use Rattle.store.specs.Places.{unit_at}
use Rattle.sender_frames.specs.Frames.{place_handed, unit_before, unit_offered}

-- what writing a frame promises
abbrev pub Writes : Result ℕ Refusal → List ℕ → Outcome (Unit {0}) → List ℕ → Type 0
Writes x new o old = (written_answer x ≡ answer o) × (new ≡ after o old)

-- the unit that an event hands down which offers none stood behind the units that it confirms
pub stood_behind : (s : SenderState) (w : Work) (store : List ℕ) {place : ℕ} → place ≡ place_handed w.told.handed + w.told.confirmed.count
    → unit_at s.lengths place store ≡ unit_before s w store
stood_behind s w store p = ap (λ (n : ℕ). unit_at s.lengths n store) p

-- the unit that an AD request hands down: the one offered, which would be the last of the sent ones, or an older one
module _ (s : SenderState) (w : Work) (o store : List ℕ) {place : ℕ} (at_place : place ≡ place_handed w.told.handed) where
  pub offered_newest : place ≡ s.queues.sent → o ≡ unit_offered s w o store
  offered_newest h = sym (yes _ _ _ (eq-eqb _ _ (sym at_place ∙ h)))

  pub offered_older : (place ≡ s.queues.sent → ⊥) → unit_at s.lengths place store ≡ unit_offered s w o store
  offered_older h =
      ap (λ (p : ℕ). unit_at s.lengths p store) at_place ∙ sym (no _ _ _ (ne_eqb _ _ (λ p. h (at_place ∙ p))))
