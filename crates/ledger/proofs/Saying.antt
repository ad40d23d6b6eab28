-- Each action of table 7-8 keeps what is known, from its mode to the next (`keeps`): one law for each kind of action.
use mathlib.Core.Path.{◌≡◌, refl, sym, ap, subst, ◌∙◌}
use mathlib.Core.Bool.{Bool, true, false}
use mathlib.Core.List.{List, [], ◌∷◌, ◌++◌, append-nil}
use mathlib.Core.Option.{Option, none, some}
use Prim.Native.Nat.{ℕ}
use Rattle.fop.specs.Units.{Fdu, Frame}
use Rattle.fop.specs.declared.Response.{Response}
use Rattle.fop.specs.declared.Response.TheVariants.{RejectAdUnit, DenyDirective}
use Rattle.fop.specs.Variables.{BcEntry, Fop, Work, respond}
use Rattle.fop.specs.Machine.{fdus, deny_bc, reject_waiting, purge}
use Rattle.fop.specs.Events.{SenderEvent, request_ad}
use Rattle.fop.proofs.Choices.{none_some}
use Rattle.fop.proofs.Ways.{emptied}
use Rattle.ledger.specs.Accounted.{is_request}
use Rattle.ledger.proofs.Flow.{Quiet, Asks, silent, offer_rejected, waiting_rejected}
use Rattle.ledger.proofs.Numbers.{kept_empty}
use Rattle.ledger.proofs.Heard.{quiet_more, rejects_now, asks_more}
use Rattle.ledger.proofs.Modes.{before, waited, Given, Mode, offered, serving, answered, bad, view, Holding, KeptIn, BringsIn, still_told}
use Rattle.ledger.proofs.After.{turns, uncovered, quietly, purged, rejected}

module _ (e : SenderEvent) (f : Fop) where
  module _ (g : Given) (w : Work) where
    abbrev In : Mode → Type 0
    In m = Holding e f g m (view w)

    abbrev To : Mode → Work → Type 0
    To m v = Holding e f g m (view v)

    -- a response that says nothing of AD units
    pub quiet_keeps : (r : Response) → Quiet (r ∷ []) → (m : Mode) → In m → To (quietly m) (respond r w)
    quiet_keeps r q =
        turns e f g uncovered bad serving (answered true) w (respond r w) (λ b h. tt) (λ h. tt)
        (λ h. (
          h.0,
          h.1,
          h.2,
          record {
            units = h.3.units;
            undenied = h.3.undenied;
            no_frame = h.3.no_frame;
            waiting = h.3.waiting;
            quiet = quiet_more w.responses h.3.quiet (r ∷ []) q;
          },
        ))
        (λ h. (
          h.0,
          h.1,
          record {
            none_sent = h.2.none_sent;
            none_waits = h.2.none_waits;
            units = h.2.units;
            asks = λ fs. asks_more (r ∷ []) q (h.2.asks fs);
          },
        ))

    -- the unit offered is rejected
    pub reject_keeps : (m : Mode) → In m → To (rejected m) (respond RejectAdUnit w)
    reject_keeps = turns e f g answered bad bad bad w (respond RejectAdUnit w) by (λ h. tt) (λ h. tt) (λ h. tt)
      where
        asks : e ≡ request_ad w.asked.octets → Quiet w.responses → (fs : List Frame) → Asks e (waited f) (waited f) (w.responses ++ (RejectAdUnit ∷ [])) fs []
        asks q h fs =
            subst (λ (x : SenderEvent). Asks x (waited f) (waited f) (w.responses ++ (RejectAdUnit ∷ [])) fs []) (sym q) (offer_rejected (rejects_now w.responses h))

        by : (b : Bool) → In (offered b) → To (answered b) (respond RejectAdUnit w)
        by false h = (h.0, still_told e f h.3 w.frames (w.responses ++ (RejectAdUnit ∷ [])) (asks h.2 h.3.quiet w.frames))
        by true h = (
          h.0,
          h.1,
          record {
            none_sent = h.4.0;
            none_waits = h.4.1;
            units = h.3.units ∙ ap (◌++◌ w.confirmed) (h.4.0 ∙ sym h.3.undenied);
            asks = λ fs. subst (λ (u : Option (List ℕ)). Asks e (waited f) u (w.responses ++ (RejectAdUnit ∷ [])) fs []) (sym h.3.waiting ∙ h.4.1) (asks h.2 h.3.quiet fs);
          },
        )

    -- Purging: both queues are emptied, the units sent are denied, and the unit waiting is rejected. Between these nothing is said of AD units.
    abbrev Between : Work → Type 0
    Between v =
        KeptIn (view v) × BringsIn e f g (view v) × (is_request e ≡ false) × (fdus v.fop.queues.sent_queue ≡ []) × (v.fop.queues.wait_queue ≡ none)
        × (before f ≡ v.confirmed ++ v.denied) × Quiet v.responses

    kept_none : KeptIn (view w) → KeptIn (view (emptied w))
    kept_none h = kept_empty w.fop.numbers.vs w.fop.numbers.nnr w.fop.preset.k h.standing.vs_most h.standing.nnr_most h.window

    empties_serving : In serving → Between (emptied w)
    empties_serving h = (
      kept_none h.0,
      h.1,
      h.2,
      refl,
      refl,
      h.3.units ∙ ap (λ (d : List Fdu). w.confirmed ++ (d ++ fdus w.fop.queues.sent_queue)) (sym h.3.undenied),
      h.3.quiet,
    )

    empties_emptied : In (answered true) → To (answered true) (emptied w)
    empties_emptied h = (
      kept_none h.0,
      h.1,
      record {
        none_sent = refl;
        none_waits = refl;
        units = h.2.units ∙ ap (◌++◌ w.confirmed) (sym (append-nil w.denied) ∙ ap (◌++◌ w.denied) (sym h.2.none_sent));
        asks = h.2.asks;
      },
    )

    denies : (b : Option BcEntry) (v : Work) → Between v → Between (deny_bc b v)
    unfolding deny_bc
    denies none v h = h
    denies (some b) v h = (h.0, h.1, h.2, h.3, h.4, h.5, quiet_more v.responses h.6 (DenyDirective ∷ []) (λ is. refl))

    rejects : (o : Option (List ℕ)) → o ≡ waited f → (v : Work) → Between v → To (answered true) (reject_waiting o v)
    unfolding reject_waiting
    rejects none q v h = (
      h.0,
      h.1,
      record {
        none_sent = h.3;
        none_waits = h.4;
        units = h.5;
        asks = λ fs. subst (λ (u : Option (List ℕ)). Asks e u none v.responses fs []) q (silent h.2 h.6);
      },
    )
    rejects (some o) q v h = (
      h.0,
      h.1,
      record {
        none_sent = h.3;
        none_waits = h.4;
        units = h.5;
        asks =
            λ fs. subst (λ (u : Option (List ℕ)). Asks e u none (v.responses ++ (RejectAdUnit ∷ [])) fs []) q (waiting_rejected h.2 (rejects_now v.responses h.6));
      },
    )

    rejects_none : (o : Option (List ℕ)) → o ≡ none → (v : Work) → To (answered true) v → To (answered true) (reject_waiting o v)
    unfolding reject_waiting
    rejects_none none q v h = h
    rejects_none (some o) q v h = absurd (none_some (sym q))

  module _ (g : Given) (w : Work) where
    denies_none : (b : Option BcEntry) → Holding e f g (answered true) (view w) → Holding e f g (answered true) (view (deny_bc b w))
    unfolding deny_bc
    denies_none none h = h
    denies_none (some b) h = quiet_keeps g w DenyDirective (λ is. refl) (answered true) h

  pub purge_keeps : (g : Given) (w : Work) (m : Mode) → Holding e f g m (view w) → Holding e f g (purged m) (view (purge w))
  unfolding purge
  purge_keeps g w =
      let wt : Option (List ℕ) = w.fop.queues.wait_queue in
      let bc : Option BcEntry = w.fop.queues.bc_frame in
      turns e f g uncovered bad (answered true) (answered true) w (purge w) (λ b h. tt) (λ h. tt)
      (λ h. rejects g w wt h.3.waiting (deny_bc bc (emptied w)) (denies g w bc (emptied w) (empties_serving g w h)))
      (λ h. rejects_none g w wt h.2.none_waits (deny_bc bc (emptied w)) (denies_none g (emptied w) bc (empties_emptied g w h)))
