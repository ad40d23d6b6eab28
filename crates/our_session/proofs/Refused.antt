-- A refused event keeps the sender, its store and the output, whatever the sender's state: where writing the frame is refused, all is as it
-- was, and what is done is not refused.
use Rattle.std.specs.Prelude.{Option}
use Prim.Native.Nat.{ℕ}
use mathlib.Core.Logic.{◌≢◌}
use mathlib.Core.Path.{◌≡◌, refl, sym, subst}
use mathlib.Core.List.{List}
use lib.ListN.{length}
use Rattle.base.specs.Outcome.{Outcome, Outcome.done, Outcome.refused}
use Rattle.fop.specs.declared.Event.{Event as FopEvent}
use Rattle.fop.specs.Events.{SenderEvent}
use Rattle.sender_values.specs.declared.Work.{Work}
use Rattle.sender.specs.Answers.{Step, answered, refusing, step_by}
use Rattle.our_session.specs.Ours.{Held, step_of, held_after}
use Rattle.our_session.specs.Demand.{refusal_of, RefusedKeepsAll}
use Rattle.our_session.proofs.Steps.{concluded}

module _ (x : Held) (output : List ℕ) where
  abbrev Keeps : Step → Type 0
  Keeps step = refusal_of step ≢ 0 → (held_after step ≡ x) × (step.output ≡ output)

  by_writing : (k : Option FopEvent) (w : Work) (ls : List ℕ) (o : Outcome (Unit {0})) (new : List ℕ) → Keeps (step_by k x.sender.fop w ls o new x.store output)
  unfolding answered refusing
  by_writing k w ls (done octets more) new h = absurd (h refl)
  by_writing k w ls (refused number place) new h = (refl, refl)

  keeps : (e : SenderEvent) → Keeps (step_of e output x)
  keeps e =
      let c = concluded x (length output) e in
      subst Keeps (sym (c.is output refl)) (by_writing c.event c.work c.lengths c.writing c.new)

pub refused_keeps_all : RefusedKeepsAll
refused_keeps_all = record { held = λ e output x h. (keeps x output e h).0; output = λ e output x h. (keeps x output e h).1 }
