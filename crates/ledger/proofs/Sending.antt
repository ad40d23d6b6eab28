-- What is handed down: Look for FDU sends a marked unit again, or the unit waiting, which is then accepted and the newest on the Sent_Queue; other frames
-- are of no AD unit.
use mathlib.Core.Path.{◌≡◌, refl, sym, ap, subst, ◌∙◌}
use mathlib.Core.Bool.{true, false}
use mathlib.Core.List.{List, [], ◌∷◌, ◌++◌, append-nil, append_assoc}
use mathlib.Core.Option.{Option, none, some}
use Prim.Native.Nat.{ℕ, ◌≤◌, ◌<◌}
use Rattle.base.specs.Modulo.{offset}
use Rattle.fop.specs.Limits.{largest_number}
use Rattle.fop.specs.Units.{Fdu, Frame, AD, BD}
use Rattle.fop.specs.declared.Response.{Response}
use Rattle.fop.specs.declared.Response.TheVariants.{AcceptAdUnit}
use Rattle.fop.specs.declared.Action.TheVariants.{TransmitBd}
use Rattle.fop.specs.Variables.{Fop, Work}
use Rattle.fop.specs.Machine.{fdus, first_marked, perform, transmit_ad, send_waiting, send_next, look_for_fdu, look_for_directive, transmit_bc}
use Rattle.fop.specs.Events.{SenderEvent, request_ad}
use Rattle.fop.proofs.Ways.{look_ways, directive_ways}
use Rattle.session.proofs.Queue.{fdus_unmark, fdus_append}
use Rattle.ledger.specs.Accounted.{is_request}
use Rattle.ledger.proofs.Flow.{Quiet, Asks, silent, offer_accepted, waiting_accepted}
use Rattle.ledger.proofs.Numbers.{same_unit, kept_sent}
use Rattle.ledger.proofs.Heard.{accepts_now}
use Rattle.ledger.proofs.Modes.{waited, Given, Mode, answered, bad, view, Holding, KeptIn, StillIn, Told, still_told, queued_asks}
use Rattle.ledger.proofs.After.{turns, uncovered, looked, handing, emptily}

module _ (e : SenderEvent) (f : Fop) where
  -- the unit is accepted, and sent with the number n
  abbrev Sent : List Response → ℕ → List ℕ → Type 0
  Sent rs n o = Asks e (waited f) none rs (AD (record { ns = n; octets = o }) ∷ []) (record { ns = n; octets = o } ∷ [])

  -- by what is awaited, and what it means that it still waits, or is sent
  looks : (g : Given) (w : Work) (awaited : Option (List ℕ)) → KeptIn (view w) → StillIn e f awaited (view w)
      → ((fs : List Frame) → Asks e (waited f) awaited w.responses fs [])
      → ((o : List ℕ) → awaited ≡ some o → Sent (w.responses ++ (AcceptAdUnit ∷ [])) w.fop.numbers.vs o) → Holding e f g (answered false) (view (look_for_fdu w))
  unfolding send_next send_waiting transmit_ad
  looks g w awaited k h stays sent = look_ways (λ v. Holding e f g (answered false) (view v)) w (k, told w.frames) again new
    where
      told : (fs : List Frame) → Told e f (fdus w.fop.queues.sent_queue) w.confirmed w.denied w.fop.queues.wait_queue fs w.responses
      told fs = still_told e f h fs w.responses (stays fs)

      again : (u : Fdu) → first_marked w.fop.queues.sent_queue ≡ some u → Holding e f g (answered false) (view (send_next (some u) w))
      again u q = rw (fdus_unmark w.fop.queues.sent_queue) (k, told (w.frames ++ (AD u ∷ [])))

      new : (o : List ℕ) → offset w.fop.numbers.vs w.fop.numbers.nnr < w.fop.preset.k → w.fop.queues.wait_queue ≡ some o
          → Holding e f g (answered false) (view (send_waiting (some o) w))
      new o r q =
          let us : List Fdu = fdus w.fop.queues.sent_queue in
          let u : Fdu = record { ns = w.fop.numbers.vs; octets = o } in
          rw (fdus_append w.fop.queues.sent_queue (record { fdu = u; marked = false } ∷ []), h.no_frame) (
            kept_sent k u refl r,
            record {
              new = u ∷ [];
              units =
                  ap (λ (vs : List Fdu). vs ++ (u ∷ [])) h.units ∙ append_assoc w.confirmed us (u ∷ [])
                  ∙ ap (λ (vs : List Fdu). vs ++ (us ++ (u ∷ []))) (sym (append-nil w.confirmed) ∙ ap (◌++◌ w.confirmed) (sym h.undenied));
              asks = sent o (sym h.waiting ∙ q);
            },
          )

  pub look_keeps : (g : Given) (w : Work) (m : Mode) → Holding e f g m (view w) → Holding e f g (looked m) (view (look_for_fdu w))
  look_keeps g w =
      turns e f g uncovered (answered false) (answered false) bad w (look_for_fdu w) (λ b h. tt)
      (λ h. looks g w (some w.asked.octets) h.0 h.3 (queued_asks e f w.asked.octets h.2 h.4 w.responses h.3.quiet)
      (λ o q. subst (Sent (w.responses ++ (AcceptAdUnit ∷ [])) w.fop.numbers.vs) (same_unit q) (offer h.2 h.4 h.3.quiet h.0.standing.vs_most)))
      (λ h. looks g w (waited f) h.0 h.3 (λ fs. silent h.2 h.3.quiet) (λ o q. wait h.2 h.3.quiet h.0.standing.vs_most o q)) (λ h. tt)
    where
      offer : e ≡ request_ad w.asked.octets → waited f ≡ none → Quiet w.responses → w.fop.numbers.vs ≤ largest_number
          → Sent (w.responses ++ (AcceptAdUnit ∷ [])) w.fop.numbers.vs w.asked.octets
      offer q n h l = rw (q, n) (offer_accepted l (accepts_now w.responses h))

      wait : is_request e ≡ false → Quiet w.responses → w.fop.numbers.vs ≤ largest_number → (o : List ℕ) → waited f ≡ some o
          → Sent (w.responses ++ (AcceptAdUnit ∷ [])) w.fop.numbers.vs o
      wait n h l o q = rw q (waiting_accepted n l (accepts_now w.responses h))

  module _ (g : Given) (w : Work) where
    -- a BD unit is handed down
    pub bd_keeps : (m : Mode) → Holding e f g m (view w) → Holding e f g (handing m) (view (perform TransmitBd w))
    unfolding perform
    bd_keeps =
        turns e f g uncovered bad (answered false) (answered true) w (perform TransmitBd w) (λ b h. tt) (λ h. tt)
        (λ h. (h.0, still_told e f h.3 (w.frames ++ (BD w.asked.octets ∷ [])) w.responses (silent h.2 h.3.quiet))) (λ h. h)

    -- a type-BC frame is, or is again
    pub bc_keeps : (x : Frame) (m : Mode) → Holding e f g m (view w) → Holding e f g (emptily m) (view (transmit_bc x w))
    unfolding transmit_bc
    bc_keeps x = turns e f g uncovered bad bad (answered true) w (transmit_bc x w) (λ b h. tt) (λ h. tt) (λ h. tt) (λ h. h)

    pub directive_keeps : (m : Mode) → Holding e f g m (view w) → Holding e f g (emptily m) (view (look_for_directive w.fop.queues.bc_frame w))
    directive_keeps =
        turns e f g uncovered bad bad (answered true) w (look_for_directive w.fop.queues.bc_frame w) (λ b h. tt) (λ h. tt) (λ h. tt)
        (λ h. directive_ways (λ v. Holding e f g (answered true) (view v)) w h (λ b. h) w.fop.queues.bc_frame)
