-- What our sender answers where an event was judged, by what the table machine's work on it is: the machine's answer and state where the
-- frame handed down fits into the output lent, else 11, and nothing changes.
use Rattle.std.specs.Prelude as code
use Prim.Native.Nat.{ℕ, ◌≤◌}
use mathlib.Core.Path.{◌≡◌, refl, sym, ap, ◌∙◌}
use mathlib.Core.Bool.{Bool, true, false}
use mathlib.Core.List.{List, ◌++◌}
use mathlib.Core.Option.{Option, none, some}
use native.Mathlib.Omega.{arith}
use borrow.Author.Tests.{ne_eqb}
use lib.Dec.{leb, eqb}
use lib.ListN.{length, take, drop}
use lib.Seq.{take-append_seam}
use Rattle.base.specs.Choice.{pick}
use Rattle.base.specs.Outcome.{Outcome, Outcome.done}
use Rattle.base.specs.Outcome as outcome
use Rattle.fop.specs.Units.{Own, Frame}
use Rattle.fop.specs.declared.Event.{Event as FopEvent}
use Rattle.fop.specs.Variables as machine
use Rattle.fop.specs.Variables.{Fop}
use Rattle.fop.specs.declared.Run.{Run}
use Rattle.fop.specs.Answers.{Answer, run_of, octets_down, room, answered, refused}
use Rattle.sender_values.specs.declared.SenderState.{SenderState}
use Rattle.sender_values.specs.declared.Work.{Work}
use Rattle.sender_values.specs.Actions.{responses_with}
use Rattle.sender_values.specs.Start.{begun, sender_of}
use Rattle.sender_view.specs.View.{responses_of, fop_of, view}
use Rattle.sender_rows_view.specs.State.{Good}
use Rattle.sender.specs.Answers as sender
use Rattle.sender.specs.Answers.{Step, step_by, refused_step}
use Rattle.our_session.specs.Ours.{handed_down, event_told, answer_by, lent_output}
use Rattle.our_session.proofs.Writing.{octets_in, fitting}

-- what a step of our sender is to the table machine: f is the machine's state before it, and m its work on the event
pub record Agrees (own : Own) (lent : ℕ) (f : Fop) (m : machine.Work) (x : Step) : Type 0 where
  pub answer : answer_by x ≡ pick (leb (room (octets_down own m.frames)) lent) (answered own m) (refused 11 f)
  pub next : fop_of (begun x.answer.next.fop) x.answer.next.fop.lengths x.store ≡ pick (leb (room (octets_down own m.frames)) lent) m.fop f
  pub good : Good own x.answer.next.fop x.store

-- a frame has octets
abbrev pub SomeOctets : Option (List ℕ) → Type 0
SomeOctets none = Unit {0}
SomeOctets (some y) = 1 ≤ length y

-- the frame that stands in the output is the one handed down
down_is : (x : Option (List ℕ)) (old : List ℕ) → SomeOctets x
    → handed_down (length (octets_in x)) (octets_in x ++ drop (length (octets_in x)) old) ≡ x
down_is none old h = refl
down_is (some y) old h =
    ap (λ (b : Bool). pick b none (some (take (length y) (y ++ drop (length y) old)))) (ne_eqb (length y) 0 (λ e. absurd (omega (arith, h, e))))
    ∙ ap (λ (z : List ℕ). some z) (take-append_seam y (drop (length y) old))

-- the refusals, by their numbers
module _ (s : SenderState) (store output : List ℕ) where
  abbrev Refuses : ℕ → Type 0
  Refuses number = answer_by (refused_step number s store output) ≡ refused number (fop_of (begun s) s.lengths store)

  pub refuses_any : (number : ℕ) → Refuses number
  unfolding sender.refusing begun responses_with
  refuses_any number = by (eqb number 12) refl where
    by : (b : Bool) → eqb number 12 ≡ b → Refuses number
    by true t = rw t refl
    by false t = rw t refl

module _ (own : Own) (event : code.Option FopEvent) (o : List ℕ) (n : ℕ) (s : SenderState) (store lengths new : List ℕ) (w : Work)
    (m : machine.Work) (lent : ℕ) (is : m ≡ view (event_told event) o n m.confirmed m.denied w lengths new) (c : run_of m.confirmed ≡ w.told.confirmed)
    (d : run_of m.denied ≡ w.told.denied) (after : Good own (sender_of w lengths) new) (before : Good own s store)
    (some_octets : SomeOctets (octets_down own m.frames)) where
  abbrev down : Option (List ℕ)
  down = octets_down own m.frames

  -- the answer's fields that are not the same by themselves
  abbrev whole : Option (List ℕ) → Run → Run → Answer
  whole x p q = record {
    refusal = 0;
    event = event_told event;
    state = w.state;
    down = x;
    abort = w.told.abort;
    responses = responses_of w.told.responses;
    alert = w.told.alert;
    suspended = w.told.suspended;
    confirmed = p;
    denied = q;
  }

  abbrev done_step : Step
  done_step = step_by event s w lengths (done (octets_in down) tt) new store (lent_output lent)

  done_answer : answer_by done_step ≡ answered own m
  unfolding sender.answered
  done_answer =
      ap (λ (x : Option (List ℕ)). whole x w.told.confirmed w.told.denied) (down_is down (lent_output lent) some_octets)
      ∙ ap (λ (p : Run). whole down p w.told.denied) (sym c)
      ∙ ap (λ (q : Run). whole down (run_of m.confirmed) q) (sym d)
      ∙ ap (λ (x : List Frame). whole (octets_down own x) (run_of m.confirmed) (run_of m.denied)) (ap (λ (y : machine.Work). y.frames) is)
      ∙ sym (ap (answered own) is)

  done_next : fop_of (begun done_step.answer.next.fop) done_step.answer.next.fop.lengths done_step.store ≡ m.fop
  unfolding sender.answered begun sender_of
  done_next = sym (ap (λ (y : machine.Work). y.fop) is)

  -- by whether it fits
  abbrev step_if : Bool → Step
  step_if b = step_by event s w lengths (pick b (done (octets_in down) tt) (outcome.Outcome.refused 11 0)) new store (lent_output lent)

  abbrev AgreesIf : Bool → Type 0
  AgreesIf b =
      (answer_by (step_if b) ≡ pick b (answered own m) (refused 11 (fop_of (begun s) s.lengths store)))
      × (fop_of (begun (step_if b).answer.next.fop) (step_if b).answer.next.fop.lengths (step_if b).store ≡ pick b m.fop (fop_of (begun s) s.lengths store))
      × Good own (step_if b).answer.next.fop (step_if b).store

  agrees_if : (b : Bool) → AgreesIf b
  unfolding sender.answered sender.refusing
  agrees_if true = (done_answer, done_next, after)
  agrees_if false = (refuses_any s store (lent_output lent) 11, refl, before)

  pub concludes : Agrees own lent (fop_of (begun s) s.lengths store) m (step_by event s w lengths (fitting down lent) new store (lent_output lent))
  concludes =
      let a = agrees_if (leb (room down) lent) in
      record { answer = a.0; next = a.1; good = a.2 }
