-- Each action of table 7-8 keeps what is known, from its mode to the next (`keeps`), and so do actions in their order.
use mathlib.Core.Path.{refl, sym, ap, ◌∙◌}
use mathlib.Core.Bool.{Bool, true, false}
use mathlib.Core.List.{List, [], ◌∷◌, ◌++◌, append_assoc}
use Prim.Native.Nat.{ℕ, ◌≤◌}
use native.Mathlib.Omega.{arith}
use Rattle.fop.specs.Limits.{largest_number}
use Rattle.fop.specs.Units.{Unlock, SetVR}
use Rattle.fop.specs.declared.Action.{Action}
use Rattle.fop.specs.declared.Action.TheVariants.{Ignore, Accept, Reject, Confirm, RejectAd, AcceptBd, RejectBd, AddToWaitQueue, LookForFdu, LookForDirective}
use Rattle.fop.specs.declared.Action.TheVariants.{RemoveAcknowledgedFrames, InitiateAdRetransmission, InitiateBcRetransmission, ReleaseBcFrame, CancelTimer, StartTimer, Alert, Initialise, TransmitUnlock}
use Rattle.fop.specs.declared.Action.TheVariants.{TransmitSetVr, TransmitBd, SetSuspendState, Suspend, Resume, SetVs, SetNnr, SetK, SetT1Initial, SetTransmissionLimit, SetTimeoutType, AdOutReady, BcOutReady, BdOutReady}
use Rattle.fop.specs.Variables.{Fop, Work, on_fop, set_sequence}
use Rattle.fop.specs.Machine.{perform, perform_all, remove_acknowledged}
use Rattle.fop.specs.Events.{SenderEvent}
use Rattle.session.proofs.Queue.{fdus_mark}
use Rattle.ledger.proofs.Numbers.{kept_wait, kept_window, kept_empty, in_order, kept_removed}
use Rattle.ledger.proofs.Modes.{Given, unit, surplus, word, number, width, nothing, Mode, offered, serving, answered, bad, view, Holding, KeptIn}
use Rattle.ledger.proofs.After.{turns, uncovered, queueing, added, removed, numbered, widened, after, after_all}
use Rattle.ledger.proofs.Saying.{quiet_keeps, reject_keeps, purge_keeps}
use Rattle.ledger.proofs.Sending.{look_keeps, bd_keeps, bc_keeps, directive_keeps}

module _ (e : SenderEvent) (f : Fop) where
  -- the unit offered is put on the Wait_Queue, which is empty
  add_keeps : (g : Given) (w : Work) (m : Mode) → Holding e f g m (view w) → Holding e f g (added g m) (view (perform AddToWaitQueue w))
  unfolding perform
  add_keeps unit w m h = turns e f unit queueing bad bad bad w (perform AddToWaitQueue w) by (λ h. tt) (λ h. tt) (λ h. tt) m h
    where
      by : (b : Bool) → Holding e f unit (offered b) (view w) → Holding e f unit (queueing b) (view (perform AddToWaitQueue w))
      by true h = tt
      by false h = (
        kept_wait h.0 w.asked.octets h.1.1,
        h.1,
        h.2,
        record { units = h.3.units; undenied = h.3.undenied; no_frame = h.3.no_frame; waiting = refl; quiet = h.3.quiet },
        h.1.0,
      )
  add_keeps surplus w m h = tt
  add_keeps word w m h = tt
  add_keeps number w m h = tt
  add_keeps width w m h = tt
  add_keeps nothing w m h = tt

  -- what N(R) acknowledges is confirmed
  remove_keeps : (g : Given) (w : Work) (m : Mode) → Holding e f g m (view w) → Holding e f g (removed g m) (view (remove_acknowledged w))
  unfolding remove_acknowledged
  remove_keeps unit w m h = tt
  remove_keeps surplus w m h = tt
  remove_keeps word w m h =
      turns e f word uncovered bad serving bad w (remove_acknowledged w) (λ b h. tt) (λ h. tt)
      (λ h. (
        kept_removed w.fop.queues.sent_queue h.0.standing w.asked.value h.1.0 h.1.1 h.0,
        (h.1.0, omega (arith, h.1.0)),
        h.2,
        record {
          units =
              h.3.units
              ∙ ap (◌++◌ w.confirmed) (sym (in_order w.fop.queues.sent_queue h.0.standing w.asked.value h.1.0 h.1.1))
              ∙ sym (append_assoc w.confirmed _ _);
          undenied = h.3.undenied;
          no_frame = h.3.no_frame;
          waiting = h.3.waiting;
          quiet = h.3.quiet;
        },
      )) (λ h. tt) m h
  remove_keeps number w m h = tt
  remove_keeps width w m h = tt
  remove_keeps nothing w m h = tt

  -- V(S) or NN(R) is set, with both queues empty
  number_keeps : (g : Given) (w : Work) (vs nnr : ℕ) → (w.asked.value ≤ largest_number → KeptIn (view w) → (vs ≤ largest_number) × (nnr ≤ largest_number)) → (m : Mode)
      → Holding e f g m (view w) → Holding e f g (numbered g m) (view (on_fop (set_sequence vs nnr w.fop.queues.sent_queue w.fop) w))
  number_keeps unit w vs nnr b m h = tt
  number_keeps surplus w vs nnr b m h = tt
  number_keeps word w vs nnr b m h = tt
  number_keeps number w vs nnr b m h =
      turns e f number uncovered bad bad (answered true) w (on_fop (set_sequence vs nnr w.fop.queues.sent_queue w.fop) w) (λ b h. tt) (λ h. tt) (λ h. tt)
      (λ h. let l = b h.1 h.0 in (rw (h.2.none_sent, h.2.none_waits) (kept_empty vs nnr w.fop.preset.k l.0 l.1 h.0.window), h.1, h.2)) m h
  number_keeps width w vs nnr b m h = tt
  number_keeps nothing w vs nnr b m h = tt

  -- K is set
  k_keeps : (g : Given) (w : Work) (m : Mode) → Holding e f g m (view w) → Holding e f g (widened g m) (view (perform SetK w))
  unfolding perform
  k_keeps unit w m h = tt
  k_keeps surplus w m h = tt
  k_keeps word w m h = tt
  k_keeps number w m h = tt
  k_keeps width w m h =
      turns e f width uncovered bad serving (answered true) w (perform SetK w) (λ b h. tt) (λ h. tt)
      (λ h. (kept_window h.0 w.asked.value h.1, h.1, h.2, h.3)) (λ h. (kept_window h.0 w.asked.value h.1, h.1, h.2)) m h
  k_keeps nothing w m h = tt

  module _ (g : Given) where
    abbrev I : Mode → Work → Type 0
    I m w = Holding e f g m (view w)

    keeps : (x : Action) (m : Mode) (w : Work) → I m w → I (after g x m) (perform x w)
    unfolding perform
    keeps Ignore m w h = h
    keeps Accept m w h = quiet_keeps e f g w _ (λ is. refl) m h
    keeps Reject m w h = quiet_keeps e f g w _ (λ is. refl) m h
    keeps Confirm m w h = quiet_keeps e f g w _ (λ is. refl) m h
    keeps RejectAd m w h = reject_keeps e f g w m h
    keeps AcceptBd m w h = quiet_keeps e f g w _ (λ is. refl) m h
    keeps RejectBd m w h = quiet_keeps e f g w _ (λ is. refl) m h
    keeps AddToWaitQueue m w h = add_keeps g w m h
    keeps LookForFdu m w h = look_keeps e f g w m h
    keeps LookForDirective m w h = directive_keeps e f g w m h
    keeps RemoveAcknowledgedFrames m w h = remove_keeps g w m h
    keeps InitiateAdRetransmission m w h = rw (fdus_mark w.fop.queues.sent_queue) h
    keeps InitiateBcRetransmission m w h = h
    keeps ReleaseBcFrame m w h = h
    keeps CancelTimer m w h = h
    keeps StartTimer m w h = h
    keeps (Alert r) m w h = purge_keeps e f g w m h
    keeps Initialise m w h = purge_keeps e f g w m h
    keeps TransmitUnlock m w h = bc_keeps e f g w Unlock m h
    keeps TransmitSetVr m w h = bc_keeps e f g w (SetVR w.asked.value) m h
    keeps TransmitBd m w h = bd_keeps e f g w m h
    keeps (SetSuspendState n) m w h = h
    keeps Suspend m w h = h
    keeps Resume m w h = h
    keeps SetVs m w h = number_keeps g w w.asked.value w.fop.numbers.nnr (λ v k. (v, k.standing.nnr_most)) m h
    keeps SetNnr m w h = number_keeps g w w.fop.numbers.vs w.asked.value (λ v k. (k.standing.vs_most, v)) m h
    keeps SetK m w h = k_keeps g w m h
    keeps SetT1Initial m w h = h
    keeps SetTransmissionLimit m w h = h
    keeps SetTimeoutType m w h = h
    keeps AdOutReady m w h = h
    keeps BcOutReady m w h = h
    keeps BdOutReady m w h = h

    pub keeps_all : (xs : List Action) (m : Mode) (w : Work) → I m w → I (after_all g xs m) (perform_all xs w)
    unfolding perform_all
    keeps_all [] m w h = h
    keeps_all (x ∷ xs) m w h = keeps_all xs (after g x m) (perform x w) (keeps x m w h)
