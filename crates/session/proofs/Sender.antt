-- Every row of table 7-8 that the session can meet keeps the sender's invariant, action by action.
use mathlib.Core.Path.{◌≡◌, refl, sym, ap, subst, ◌∙◌}
use mathlib.Core.Bool.{false}
use mathlib.Core.List.{List, [], ◌∷◌, ◌++◌, append_assoc, append-nil}
use mathlib.Core.Option.{Option, some}
use Prim.Native.Nat.{ℕ, ◌+◌, ◌-◌, ◌<◌}
use native.Mathlib.Omega.{arith}
use lib.Dec.{T}
use lib.ListN.{length, take, drop}
use Rattle.base.specs.Modulo.{advanced, offset}
use Rattle.fop.specs.Units.{Fdu, Frame, AD, BD}
use Rattle.fop.specs.declared.Action.{Action}
use Rattle.fop.specs.declared.Action.TheVariants.{Ignore, SetSuspendState, Suspend, Resume, Accept, Reject, Confirm}
use Rattle.fop.specs.declared.Event.{Event as FopEvent}
use Rattle.fop.specs.Table.{Cell, cell, if_not_suspended, NotApplicable, table78, cell78}
use Rattle.fop.specs.declared.Action.TheVariants.{RejectAd, AcceptBd, RejectBd, AddToWaitQueue, LookForFdu, LookForDirective, RemoveAcknowledgedFrames, InitiateAdRetransmission}
use Rattle.fop.specs.declared.Action.TheVariants.{InitiateBcRetransmission, ReleaseBcFrame, CancelTimer, StartTimer, Alert, Initialise, TransmitUnlock, TransmitSetVr, TransmitBd}
use Rattle.fop.specs.declared.Action.TheVariants.{SetVs, SetNnr, SetK, SetT1Initial, SetTransmissionLimit, SetTimeoutType, AdOutReady, BcOutReady, BdOutReady}
use Rattle.fop.specs.Variables.{Fop, Work}
use Rattle.fop.specs.Machine.{fdus, first_marked, acknowledged, unacknowledged, perform, perform_all}
use Rattle.fop.specs.Variables.{begin}
use Rattle.fop.specs.Effective.{effective_of, effective}
use Rattle.fop.specs.Machine.{perform_cell, transmit_ad, send_waiting, send_next, look_for_fdu, purge, remove_acknowledged, fop_do}
use Rattle.fop.proofs.Ways.{look_ways, purge_ways}
use Rattle.session.proofs.Core.{add_all}
use Rattle.session.proofs.Lists.{add_all_append}
use Rattle.session.proofs.Values.{Bounds, Mode, live, dead, bad, Given, word, unit, nothing, WI, resent, sent_new, sent_bd_lem, confirmed, queue_length, queue_at}
use Rattle.session.proofs.Values.{run_places}
use Rattle.session.proofs.Queue.{fdus_mark, fdus_unmark, fdus_append, found, ack}
use Rattle.session.proofs.Rows.{after, after_all, mode_of, cell_ok, leads, Passes}
use Rattle.session.proofs.Suspended.{suspend_all_lem}

module _ (n : ℕ) (P : Bounds) (C : ℕ) (gone : List (Option ℕ)) (acc sent0 : List Fdu) (fr0 : List Frame) (given : Given) (a : ℕ) where
  abbrev pub WInv : Mode → Work → Type 0
  WInv m w =
      WI n P C gone acc given a m (add_all n sent0 w.frames) (fr0 ++ w.frames) w.confirmed w.denied (fdus w.fop.queues.sent_queue) w.fop.numbers.vs
      w.fop.numbers.nnr
      w.fop.preset w.asked.value w.fop.queues.wait_queue w.asked.octets

  look_keeps : (w : Work) → WInv live w → WInv live (look_for_fdu w)
  unfolding send_next send_waiting transmit_ad
  look_keeps w h = look_ways (WInv live) w h again new
    where
      again : (u : Fdu) → first_marked w.fop.queues.sent_queue ≡ some u → WInv live (send_next (some u) w)
      again u e =
          let i = found w.fop.queues.sent_queue u e in
          rw (add_all_append n sent0 w.frames (AD u ∷ []), ← append_assoc fr0 w.frames (AD u ∷ []), fdus_unmark w.fop.queues.sent_queue)
          (resent n P C gone acc given a _ _ _ _ _ _ _ _ w.asked.value w.fop.queues.wait_queue w.asked.octets h u i.0 i.1 i.2)

      new : (o : List ℕ) → offset w.fop.numbers.vs w.fop.numbers.nnr < w.fop.preset.k → w.fop.queues.wait_queue ≡ some o → WInv live (send_waiting (some o) w)
      new o r e =
          let u : Fdu = record { ns = w.fop.numbers.vs; octets = o } in
          rw (
            add_all_append n sent0 w.frames (AD u ∷ []),
            ← append_assoc fr0 w.frames (AD u ∷ []),
            fdus_append w.fop.queues.sent_queue (record { fdu = u; marked = false } ∷ []),
          )
          (sent_new n P C gone acc given a _ _ _ _ _ _ _ _ w.asked.value w.fop.queues.wait_queue w.asked.octets h r u refl (rw e at h.5))

  purge_live : (w : Work) → WInv live w → WInv dead (purge w)
  purge_live w h =
      let c : w.confirmed ++ (fdus w.fop.queues.sent_queue ++ []) ≡ drop C (add_all n sent0 w.frames) = rw (append-nil (fdus w.fop.queues.sent_queue)) h.1.cut in
      purge_ways (WInv dead) w (
        h.0,
        record {
          after = fdus w.fop.queues.sent_queue;
          cut = h.1.cut;
          empty = refl;
          denied = rw (h.1.undenied, h.1.fresh) (run_places n C _ w.confirmed (fdus w.fop.queues.sent_queue) [] h.0.num c (omega arith));
        },
        h.2,
        h.3,
        h.4,
        tt,
      ) (λ r v k. k)

  purge_dead : (w : Work) → WInv dead w → WInv dead (purge w)
  purge_dead w h =
      purge_ways (WInv dead) w (
        h.0,
        record { after = h.1.after; cut = h.1.cut; empty = refl; denied = rw (h.1.empty, append-nil w.denied) h.1.denied },
        h.2,
        h.3,
        h.4,
        tt,
      ) (λ r v k. k)

module _ (n : ℕ) (P : Bounds) (C : ℕ) (gone : List (Option ℕ)) (acc sent0 : List Fdu) (fr0 : List Frame) where
  -- what is acknowledged, of a sender in service
  pub acks : (a : ℕ) (w : Work) → WInv n P C gone acc sent0 fr0 word a live w
      → (acknowledged w.fop.numbers.nnr w.asked.value w.fop.queues.sent_queue ≡ take (offset w.asked.value w.fop.numbers.nnr) (fdus w.fop.queues.sent_queue))
      × (fdus (unacknowledged w.fop.numbers.nnr w.asked.value w.fop.queues.sent_queue) ≡ drop (offset w.asked.value w.fop.numbers.nnr) (fdus w.fop.queues.sent_queue))
  acks a w h =
      let ln = queue_length C (add_all n sent0 w.frames) w.confirmed (fdus w.fop.queues.sent_queue) h.1.cut in
      let z : offset w.asked.value w.fop.numbers.nnr - 0 ≡ offset w.asked.value w.fop.numbers.nnr = omega arith in
      rw z at (ack n (C + length w.confirmed) w.fop.numbers.nnr w.asked.value h.1.is_nn w.fop.queues.sent_queue 0
      (λ i l. ap (λ (x : Fdu). x.ns) (queue_at C (add_all n sent0 w.frames) w.confirmed (fdus w.fop.queues.sent_queue) h.1.cut i)
      ∙ h.0.num.at (C + (length w.confirmed + i)) (omega arith) ∙ ap (λ (x : ℕ). advanced n x) (omega arith))
      (omega arith))

  remove_keeps : (given : Given) (a : ℕ) (m : Mode) (w : Work) → WInv n P C gone acc sent0 fr0 given a m w
      → WInv n P C gone acc sent0 fr0 given a (after given RemoveAcknowledgedFrames m) (remove_acknowledged w)
  unfolding remove_acknowledged
  remove_keeps word a live w h =
      let k = acks a w h in
      rw (k.0, k.1) (confirmed n P C gone acc word a _ _ _ _ _ _ _ _ w.asked.value w.fop.queues.wait_queue w.asked.octets h)
  remove_keeps word a dead w h = tt
  remove_keeps word a bad w h = tt
  remove_keeps unit a m w h = tt
  remove_keeps nothing a m w h = tt

  wait_keeps : (given : Given) (a : ℕ) (m : Mode) (w : Work) → WInv n P C gone acc sent0 fr0 given a m w
      → WInv n P C gone acc sent0 fr0 given a (after given AddToWaitQueue m) (perform AddToWaitQueue w)
  unfolding perform
  wait_keeps word a m w h = tt
  wait_keeps nothing a m w h = tt
  wait_keeps unit a live w h = (h.0, h.1, h.2, h.3, h.4, h.3)
  wait_keeps unit a dead w h = (h.0, h.1, h.2, h.3, h.4, h.3)
  wait_keeps unit a bad w h = tt

  bd_keeps : (given : Given) (a : ℕ) (m : Mode) (w : Work) → WInv n P C gone acc sent0 fr0 given a m w
      → WInv n P C gone acc sent0 fr0 given a (after given TransmitBd m) (perform TransmitBd w)
  unfolding perform
  bd_keeps word a m w h = tt
  bd_keeps nothing a m w h = tt
  bd_keeps unit a m w h =
      rw (add_all_append n sent0 w.frames (BD w.asked.octets ∷ []), ← append_assoc fr0 w.frames (BD w.asked.octets ∷ []))
      (sent_bd_lem n P C gone acc a m _ _ _ _ _ _ _ _ w.asked.value w.fop.queues.wait_queue w.asked.octets h)

module _ (n : ℕ) (P : Bounds) (C : ℕ) (gone : List (Option ℕ)) (acc sent0 : List Fdu) (fr0 : List Frame) (given : Given) (a : ℕ) where
  abbrev I : Mode → Work → Type 0
  I m w = WInv n P C gone acc sent0 fr0 given a m w

  pub keeps : (x : Action) (m : Mode) (w : Work) → I m w → I (after given x m) (perform x w)
  unfolding perform
  keeps Accept m w h = h
  keeps Reject m w h = h
  keeps Confirm m w h = h
  keeps RejectAd m w h = h
  keeps AcceptBd m w h = h
  keeps RejectBd m w h = h
  keeps Ignore m w h = h
  keeps AddToWaitQueue m w h = wait_keeps n P C gone acc sent0 fr0 given a m w h
  keeps LookForFdu live w h = look_keeps n P C gone acc sent0 fr0 given a w h
  keeps LookForFdu dead w h = tt
  keeps LookForFdu bad w h = tt
  keeps LookForDirective m w h = tt
  keeps RemoveAcknowledgedFrames m w h = remove_keeps n P C gone acc sent0 fr0 given a m w h
  keeps InitiateAdRetransmission m w h = rw (fdus_mark w.fop.queues.sent_queue) h
  keeps InitiateBcRetransmission m w h = h
  keeps ReleaseBcFrame m w h = h
  keeps CancelTimer m w h = h
  keeps StartTimer m w h = h
  keeps (Alert r) live w h = purge_live n P C gone acc sent0 fr0 given a w h
  keeps (Alert r) dead w h = purge_dead n P C gone acc sent0 fr0 given a w h
  keeps (Alert r) bad w h = tt
  keeps Initialise m w h = tt
  keeps TransmitUnlock m w h = tt
  keeps TransmitSetVr m w h = tt
  keeps TransmitBd m w h = bd_keeps n P C gone acc sent0 fr0 given a m w h
  keeps SetVs m w h = tt
  keeps SetNnr m w h = tt
  keeps SetK m w h = tt
  keeps SetT1Initial m w h = tt
  keeps SetTransmissionLimit m w h = tt
  keeps SetTimeoutType m w h = tt
  keeps (SetSuspendState s) m w h = h
  keeps Suspend m w h = h
  keeps Resume m w h = h
  keeps AdOutReady m w h = h
  keeps BcOutReady m w h = h
  keeps BdOutReady m w h = h

  keeps_all : (xs : List Action) (m : Mode) (w : Work) → I m w → I (after_all given xs m) (perform_all xs w)
  unfolding perform_all
  keeps_all [] m w h = h
  keeps_all (x ∷ xs) m w h = keeps_all xs (after given x m) (perform x w) (keeps x m w h)

  cell_keeps : (c : Cell) (w : Work) → T (cell_ok given w.fop.suspend_state w.fop.state c) → I (mode_of (effective w.fop)) w
      → I (mode_of (effective (perform_cell c w).fop)) (perform_cell c w)
  unfolding perform_cell
  cell_keeps NotApplicable w t h = h
  cell_keeps (if_not_suspended xs ys s) w t h = absurd t
  cell_keeps (cell xs s) w t h =
      subst (λ (n : ℕ). I (mode_of (effective_of s n)) (perform_cell (cell xs s) w)) (sym (suspend_all_lem xs w))
      (subst (λ (m : Mode). I m (perform_cell (cell xs s) w)) (leads given w.fop.suspend_state w.fop.state xs s t)
      (keeps_all xs (mode_of (effective w.fop)) w h))

  pub do_keeps : (e : FopEvent) (o : List ℕ) (v : ℕ) (f : Fop) → Passes given e f → I (mode_of (effective f)) (begin (some e) o v f)
      → I (mode_of (effective (fop_do e o v f).fop)) (fop_do e o v f)
  unfolding fop_do
  do_keeps e o v f t h = cell_keeps (cell78 (table78 e) f.state) (begin (some e) o v f) t h
