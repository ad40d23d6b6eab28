-- The answer, the store and the output that the code leaves are those of a step.
use mathlib.Core.Path.{◌≡◌, refl, sym, ap, ◌∙◌}
use mathlib.Core.Bool.{Bool, true, false}
use mathlib.Core.List.{List}
use Prim.Native.Nat.{ℕ}
use lib.ListN.{length}
use Rattle.base.specs.Choice.{pick, must}
use Rattle.base.specs.Outcome.{Outcome, answer, after, number_of}
use Rattle.base.specs.Outcome as outcome
use Rattle.std.specs.Prelude.{Option, Result, Ok, Err, is_ok}
use Rattle.base.specs.Refusals.{written_answer}
use Rattle.base.specs.declared.Refusal.{Refusal}
use Rattle.fop.specs.declared.Event.{Event as FopEvent}
use Rattle.sender_values.specs.declared.SenderState.{SenderState}
use Rattle.sender_values.specs.declared.Work.{Work}
use Rattle.sender_frames.specs.Frames.{handed_writing}
use Rattle.sender_frames.proofs.Written.{Writes}
use Rattle.sender.specs.declared.Answer.{Answer}
use Rattle.sender.specs.Answers.{Step, refusing, refused_step, concluded, stored, step_by}

-- a check that holds, and one that fails
pub holds : {A : Type 0} (b : Bool) (refusal on : A) → b ≡ true → must b refusal on ≡ on
holds b refusal on p = rw p

pub fails : {A : Type 0} (b : Bool) (refusal on : A) → b ≡ false → must b refusal on ≡ refusal
fails b refusal on p = rw p

-- A chain of checks told by a number n, 0 where all hold: where n is the number k that the chain gives, the chain t itself is the refusal by n,
-- or goes on.
module _ {A : Type 0} (refusal : ℕ → A) (on : A) (n : ℕ) where
  abbrev pub Told : ℕ → A → Type 0
  Told k t = (n ≡ k → (n ≡ 0 → ⊥) → t ≡ refusal n) × (n ≡ k → n ≡ 0 → t ≡ on)

  pub no_check : Told 0 on
  no_check = (λ p h. absurd (h p), λ p h. refl)

  pub check : (b : Bool) (x : ℕ) {k : ℕ} {t : A} → (x ≡ 0 → ⊥) → Told k t → Told (must b x k) (must b (refusal x) t)
  check true x z m = m
  check false x z m = (λ p h. ap refusal (sym p), λ p h. absurd (z (sym p ∙ h)))

-- what an event promises
abbrev pub Meets : Answer → List ℕ → List ℕ → Step → Type 0
Meets a store output t = (a ≡ t.answer) × ((store ≡ t.store) × (output ≡ t.output))

-- what writing a frame came to
abbrev pub Written : Type 0
Written = Result ℕ Refusal

-- a step by another that it is
pub same_step : {a : Answer} {store output : List ℕ} {t u : Step} → t ≡ u → Meets a store output u → Meets a store output t
same_step p h =
    (h.0 ∙ ap (λ (x : Step). x.answer) (sym p), (h.1.0 ∙ ap (λ (x : Step). x.store) (sym p), h.1.1 ∙ ap (λ (x : Step). x.output) (sym p)))

-- a step that refuses
pub refuses : (n : ℕ) (s : SenderState) {a : Answer} {store output : List ℕ} {t : Step} → t ≡ refused_step n s store output → a ≡ refusing n s
    → Meets a store output t
refuses n s p e = same_step p (e, (refl, refl))

-- a store that the event does not change, whatever was written
pub stored_same : (y : outcome.Answer (Unit {0})) (store : List ℕ) → store ≡ stored y store store
stored_same (outcome.Answer.done count more) store = refl
stored_same (outcome.Answer.refused number place) store = refl

-- the store changes exactly where the frame is written
pub stored_by : (x : Written) (new old : List ℕ) → stored (written_answer x) new old ≡ pick (is_ok x) new old
stored_by (Ok count) new old = refl
stored_by (Err refusal) new old = refl

-- the writing of the frame handed down, with its unit
abbrev pub handing : SenderState → Work → List ℕ → List ℕ → Outcome (Unit {0})
handing s w unit output = handed_writing s.settings w.told.handed unit (length output)

-- the answer by the frame written
pub answered_by : (event : Option FopEvent) (s : SenderState) (w : Work) (ls : List ℕ) (x : Written) (a : Answer) (unit out output : List ℕ) → Writes x out (handing s w unit output) output
    → a ≡ concluded event s w ls (written_answer x)
    → (a ≡ concluded event s w ls (answer (handing s w unit output))) × (out ≡ after (handing s w unit output) output)
answered_by event s w ls x a unit out output f e = (e ∙ ap (concluded event s w ls) f.0, f.1)

-- an event judged: the answer and the store by what writing its frame came to
module _ (event : Option FopEvent) (s : SenderState) (w : Work) (ls : List ℕ) (x : Written) (a : Answer) (unit out new old output : List ℕ)
    (written : Writes x out (handing s w unit output) output) (told : a ≡ concluded event s w ls (written_answer x)) where
  pub step_written : (store : List ℕ) → store ≡ stored (written_answer x) new old → Meets a store out (step_by event s w ls (handing s w unit output) new old output)
  step_written store q =
      let r = answered_by event s w ls x a unit out output written told in
      (r.0, (q ∙ ap (λ y. stored y new old) written.0, r.1))
