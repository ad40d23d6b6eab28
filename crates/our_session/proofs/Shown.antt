-- An event whose row shows the machine's work (crate sender_rows_view, proofs/Rows) agrees with it, by the unit that is written: the one that the
-- machine hands down.
use Rattle.std.specs.Prelude.{Option, None, Some}
use Prim.Native.Nat.{ℕ, ◌≤◌, ◌<◌}
use mathlib.Core.Path.{◌≡◌, sym, ap, subst, ◌∙◌}
use mathlib.Core.Bool.{Bool, true, false}
use mathlib.Core.List.{List, []}
use native.Mathlib.Nat.{le_trans}
use native.Mathlib.Omega.{arith}
use lib.ListN.{length, length-replicate}
use Rattle.base.specs.Outcome.{Outcome}
use Rattle.frame.specs.Frame.{bypass_of, control_of, number_of, data_of, frame_of}
use Rattle.frame.proofs.Lengths.{length_frame}
use Rattle.frame.specs.declared.Kind.{Kind}
use Rattle.frame.specs.declared.Kind.TheVariants as kind
use Rattle.fop.specs.Units.{Own, Frame, written}
use Rattle.fop.specs.declared.Event.{Event as FopEvent}
use Rattle.fop.specs.Variables as machine
use Rattle.fop.specs.Answers.{octets_down}
use Rattle.sender_values.specs.declared.Handed.{Handed}
use Rattle.sender_values.specs.declared.Handed.TheVariants as handed
use Rattle.sender_values.specs.declared.SenderState.{SenderState}
use Rattle.sender_values.specs.declared.Work.{Work}
use Rattle.sender_values.specs.Start.{begun}
use Rattle.sender_view.specs.View.{fop_of, frames_of}
use Rattle.sender_values.specs.Actions.{units_held}
use Rattle.store.specs.Places.{unit_at}
use Rattle.store.proofs.Need.{need_units}
use Rattle.sender_rows_view.specs.State.{Good}
use Rattle.sender_rows_view.proofs.Rows.{Shows}
use Rattle.sender.specs.Answers.{step_by}
use Rattle.sender_frames.specs.Frames.{handed_writing}
use Rattle.our_session.specs.Ours.{lent_output}
use Rattle.our_session.proofs.Writing.{Fits, fitting, unit_fits, Carries, handed_fits}
use Rattle.our_session.proofs.Concluding.{Agrees, SomeOctets, concludes}

-- every frame handed down has octets
module _ (own : Own) where
  long : (k : Kind) (u : List ℕ) → 1 ≤ length (frame_of own.spacecraft own.channel k u)
  long k u = omega (arith, length_frame (bypass_of k) (control_of k) (number_of k) own.spacecraft own.channel (data_of k u))

  pub frames_long : (h : Option Handed) (lengths store o : List ℕ) → SomeOctets (octets_down own (frames_of h lengths store o))
  unfolding written
  frames_long None lengths store o = tt
  frames_long (Some (handed.Ad n i)) lengths store o = long (kind.Ad n) (unit_at lengths i store)
  frames_long (Some handed.Bd) lengths store o = long kind.Bd o
  frames_long (Some handed.Unlock) lengths store o = long kind.Unlock []
  frames_long (Some (handed.SetVr n)) lengths store o = long (kind.SetVr n) []

-- the unit at a place that holds one of the sent units
pub held_fits : (own : Own) (s : SenderState) (store : List ℕ) (i : ℕ) → Good own s store → i < s.queues.sent → Fits (unit_at s.lengths i store)
unfolding begun
held_fits own s store i g h =
    unit_fits s.lengths store i (g.filled i (below s.queues.sent s.queues.waiting h))
    (g.formed.units i) (le_trans (need_units s.settings.k s.queues.sent i (omega (arith, h))) g.formed.room) where
      below : (sent : ℕ) (waiting : Bool) → i < sent → i < units_held sent waiting
      below sent true k = omega arith
      below sent false k = k

-- an event that shows the machine's work, by the unit u that is written, the lengths and the store after it
module _ (own : Own) (e : FopEvent) (o : List ℕ) (n : ℕ) (s : SenderState) (store lengths new u : List ℕ) (lent : ℕ) (w : Work) (m : machine.Work) (good : Good own s store)
    (shows : Shows own e o n w lengths new m)
    (carried : Carries own s.settings good.spacecraft good.channel good.spacecraft_most good.channel_most lengths new o u lent w.told.handed) where
  written_is : handed_writing s.settings w.told.handed u (length (lent_output lent)) ≡ fitting (octets_down own m.frames) lent
  written_is =
      ap (handed_writing s.settings w.told.handed u) (length-replicate lent 0)
      ∙ handed_fits own s.settings good.spacecraft good.channel good.spacecraft_most good.channel_most lengths new o u lent w.told.handed carried
      ∙ ap (λ (x : List Frame). fitting (octets_down own x) lent) (sym (ap (λ (x : machine.Work). x.frames) shows.is))

  some_octets : SomeOctets (octets_down own m.frames)
  some_octets =
      subst (λ (x : List Frame). SomeOctets (octets_down own x)) (sym (ap (λ (x : machine.Work). x.frames) shows.is))
      (frames_long own w.told.handed lengths new o)

  pub shown : Agrees own lent (fop_of (begun s) s.lengths store) m
      (step_by (Some e) s w lengths (handed_writing s.settings w.told.handed u (length (lent_output lent))) new store (lent_output lent))
  shown =
      subst (λ (x : Outcome (Unit {0})). Agrees own lent (fop_of (begun s) s.lengths store) m (step_by (Some e) s w lengths x new store (lent_output lent))) (sym written_is)
      (concludes own (Some e) o n s store lengths new w m lent shows.is shows.confirmed shows.denied shows.good good some_octets)
