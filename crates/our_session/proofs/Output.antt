-- What the lent output held before an event is never looked at: our sender's answer, its next state and its store depend on the length of the
-- output alone. So the session of our ends (specs/Ours), which lends an output of zeros, stands for every output of the same length.
use Rattle.std.specs.Prelude.{Option}
use Prim.Native.Nat.{ℕ}
use mathlib.Core.Path.{◌≡◌, refl, sym, ap, ◌∙◌}
use mathlib.Core.List.{List, ◌++◌}
use lib.ListN.{length, take, drop}
use lib.Seq.{take-append_seam}
use Rattle.base.specs.Outcome.{Outcome, Outcome.done, Outcome.refused}
use Rattle.fop.specs.declared.Event.{Event as FopEvent}
use Rattle.fop.specs.Events.{SenderEvent}
use Rattle.sender_values.specs.declared.Work.{Work}
use Rattle.sender.specs.Answers.{answered, refusing, step_by}
use Rattle.our_session.specs.Ours.{Held, step_of, held_after, answer_by}
use Rattle.our_session.proofs.Steps.{concluded}

-- the frame handed down is what was written, whatever stands behind it
same_front : (y a b : List ℕ) → take (length y) (y ++ drop (length y) a) ≡ take (length y) (y ++ drop (length y) b)
same_front y a b = take-append_seam y (drop (length y) a) ∙ sym (take-append_seam y (drop (length y) b))

module _ (x : Held) (a b : List ℕ) where
  same_by : (k : Option FopEvent) (w : Work) (ls : List ℕ) (o : Outcome (Unit {0})) (new : List ℕ)
      → answer_by (step_by k x.sender.fop w ls o new x.store a) ≡ answer_by (step_by k x.sender.fop w ls o new x.store b)
  unfolding answered refusing
  same_by k w ls (done y more) new = rw (same_front y a b)
  same_by k w ls (refused number place) new = refl

-- the sender and its store after an event, and the answer, by the length of the output lent
pub output_content_free : (e : SenderEvent) (x : Held) (a b : List ℕ) → length a ≡ length b
    → (held_after (step_of e a x) ≡ held_after (step_of e b x)) × (answer_by (step_of e a x) ≡ answer_by (step_of e b x))
output_content_free e x a b same =
    let c = concluded x (length b) e in (
      ap held_after (c.is a same) ∙ sym (ap held_after (c.is b refl)),
      ap answer_by (c.is a same) ∙ same_by x a b c.event c.work c.lengths c.writing c.new ∙ sym (ap answer_by (c.is b refl)),
    )
