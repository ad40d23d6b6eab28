-- What the answers of tied ends say: alerts and refusals.
use mathlib.Core.Logic.{◌⊎◌, inl, inr}
use mathlib.Core.Path.{◌≡◌, refl, sym, ap, ◌∙◌, subst}
use mathlib.Core.Bool.{Bool, true, false, false≢true}
use mathlib.Core.List.{List, [], ◌∷◌, map}
use Prim.Native.Nat.{ℕ, ◌-◌, ◌<◌}
use native.Mathlib.Omega.{arith}
use lib.Dec.{ltb}
use lib.ListN.{length}
use borrow.Author.Tests.{ltb-true, ltb-false}
use Rattle.base.specs.Choice.{pick}
use Rattle.fop.specs.Units.{Frame, Word, legal, written, word_octets}
use Rattle.fop.specs.Variables.{Fop, Work, Preset}
use Rattle.fop.specs.Events.{SenderEvent, request_ad, request_bd, lower, directive, word_arrives, work, fop_word}
use Rattle.fop.specs.Answers.{Answer, judged, needed, sender_refusal, sender_answer, refused}
use Rattle.session.specs.Ends.{Settings, Within, Ends, Brought, Tied, tables}
use Rattle.session.specs.Session.{Linked}
use Rattle.session.specs.Stronger.{LimitOnly, InSession}
use Rattle.fop.specs.Events as fop
use Rattle.fop.specs.declared.Alert.{Alert}
use Rattle.fop.specs.declared.Alert.TheVariants.{Synch, Clcw, Limit, Nnr, Lockout, T1, Term, Llif}
use Rattle.session.specs.Stronger.{KnownAlert}
use Rattle.suspension.specs.Suspension.{suspends_at}
use Rattle.suspension.proofs.Told.{tick_told}
use Rattle.suspension.proofs.Begins.{tick_begins}
use Rattle.suspension.proofs.Law.{work_told}
use Rattle.fop.proofs.Choices.{by_pick}
use Rattle.session.proofs.Alerts.{Allowed, own_alert, ad_alerts, bd_alerts, tick_alerts, lower_alerts, directive_alerts}
use Rattle.session.proofs.Inv.{in_mode, Inv, goes_is, word_read, fine}
use Rattle.session.proofs.Core.{Session, goes, used, is_held}
use Rattle.session.proofs.Chan.{Wds}
use Rattle.session.proofs.Link.{Rel, tables_tied, fly_reads, Reads}
use Rattle.session.proofs.Keys.{Tidy}
use Rattle.session.proofs.WordAlerts.{word_alerts}
use Rattle.session.proofs.Theorem.{oldest_word}
use Rattle.session.proofs.Received.{receiver_of, received_is, released_is}
use Rattle.session.proofs.Refusals.{refusal_is, Mild, mild}
use Rattle.base.specs.Choice.{must}
use Rattle.fop.specs.Answers as ans
use Rattle.receiver.specs.Channel as channel
use Rattle.receiver.specs.Receiver as farm
use Rattle.farm.specs.declared.Event.TheVariants.{E10}
use Rattle.receiver.specs.declared.Receiver.{Receiver}
use Rattle.receiver.specs.declared.Received.{Received}
use Rattle.std.specs.Prelude as code
use Rattle.base.specs.Refusals.{optional_number}
use Rattle.std.specs.Prelude.{None, Some, Ok, Err}
use Rattle.base.specs.declared.Refusal.TheVariants.{Release}
use Rattle.session.specs.Receiver.{frame_arrives, release_buffer, ReceiverAnswer, release_answer, receiver_answer}

own_known : (set : Settings) (r : code.Option Alert) → Allowed own_alert r → KnownAlert set r
own_known set r (inl e) = inl e
own_known set r (inr (Term, e, t)) = inr (inl e)
own_known set r (inr (T1, e, t)) = absurd t
own_known set r (inr (Llif, e, t)) = inr (inr (inr (inl e)))
own_known set r (inr (Synch, e, t)) = absurd t
own_known set r (inr (Clcw, e, t)) = absurd t
own_known set r (inr (Nnr, e, t)) = absurd t
own_known set r (inr (Lockout, e, t)) = absurd t
own_known set r (inr (Limit, e, t)) = absurd t

timer_known : (set : Settings) (r : code.Option Alert) (type : ℕ) → type ≡ set.timeout_type → (r ≡ None) ⊎ ((r ≡ Some T1) × (type ≡ 0)) → KnownAlert set r
timer_known set r type s (inl e) = inl e
timer_known set r type s (inr e) = inr (inr (inl (e.0, sym s ∙ e.1)))

limit_known : (set : Settings) (r : code.Option Alert) → LimitOnly set.limit r → KnownAlert set r
limit_known set r (inl e) = inl e
limit_known set r (inr e) = inr (inr (inr (inr e)))

-- an event of the session is one that it brings
pub brought : (ws : List (List ℕ)) (e : SenderEvent) → InSession ws e → Brought e
brought ws (request_ad o) h = tt
brought ws (request_bd o) h = tt
brought ws fop.tick h = tt
brought ws (lower l) h = tt
brought ws (directive d v) h = h
brought ws (word_arrives s) h = tt

by_legal : (b : Bool) → (◌≡◌ {A = ℕ} (pick b 0 10) 0) ⊎ (◌≡◌ {A = ℕ} (pick b 0 10) 10)
by_legal true = inl refl
by_legal false = inr refl

module _ (set : Settings) (vw : Within set) (m : Ends) (t : Tied set m) (σ : Linked m) (γ : Linked (tables set)) (κ : Session)
    (R : Rel set vw m t σ κ) (G : Rel set vw (tables set) (tables_tied set) γ κ) (I : Inv set κ) (Q : Tidy set.n κ) where
  pub answer_is : (e : SenderEvent) → Brought e → (lent : ℕ) → m.answer e lent σ.sender ≡ sender_answer set.own e lent κ.fop
  answer_is e i lent = t.answer e i lent σ.sender R.good ∙ ap (λ (f : Fop). sender_answer set.own e lent f) R.fop

  -- what holds of the answer where the event goes through, and where it is refused
  pub answer_ways : (P : Answer → Type 0) (e : SenderEvent) → Brought e → (lent : ℕ)
      → (goes set.own e lent κ.fop ≡ true → P (ans.answered set.own (work set.own e κ.fop)))
      → P (refused (sender_refusal set.own e lent κ.fop) κ.fop) → P (m.answer e lent σ.sender)
  unfolding sender_answer
  answer_ways P e i lent h r = subst P (sym (answer_is e i lent)) (by_pick P (goes set.own e lent κ.fop) h (λ b. r))

  -- the oldest word, as it was reported
  pub oldest_read : (s : List ℕ) (ws : List (List ℕ)) → σ.words ≡ s ∷ ws
      → (w : Word) × (more : List Word) × (κ.words ≡ w ∷ more) × (s ≡ word_octets set.own w)
      × Wds set.n (length κ.confirmed) (length κ.accepted) (w ∷ more)
      × (work set.own (word_arrives s) κ.fop ≡ fop_word w κ.fop) × (judged set.own (word_arrives s) ≡ 0)
  oldest_read s ws e =
      let l = oldest_word set vw _ _ κ.words s ws I.words (sym e ∙ R.words) in
      let wd : Wds set.n (length κ.confirmed) (length κ.accepted) (l.0 ∷ l.1) = rw l.2 at I.words in (
        l.0,
        l.1,
        l.2,
        l.3,
        wd,
        ap (λ (x : List ℕ). work set.own (word_arrives x) κ.fop) l.3 ∙ word_read set vw l.0 κ.fop wd.3 (omega (arith, wd.1)),
        ap (λ (x : List ℕ). judged set.own (word_arrives x)) l.3 ∙ fine set vw l.0 wd.3 (omega (arith, wd.1)),
      )

  pub word_alert_lem : (s : List ℕ) (ws : List (List ℕ)) (lent : ℕ) → σ.words ≡ s ∷ ws → LimitOnly set.limit (m.answer (word_arrives s) lent σ.sender).alert
  word_alert_lem s ws lent e =
      let l = oldest_read s ws e in
      answer_ways (λ a. LimitOnly set.limit a.alert) (word_arrives s) tt lent
      (λ g. subst (λ (w : Work). LimitOnly set.limit w.notices.alert) (sym l.5) (word_alerts set κ I Q l.0 l.1 l.2)) (inl refl)

  -- the alerts
  known : (e : SenderEvent) → Brought e → (lent : ℕ) → KnownAlert set (work set.own e κ.fop).notices.alert → KnownAlert set (m.answer e lent σ.sender).alert
  known e i lent h = answer_ways (λ a. KnownAlert set a.alert) e i lent (λ g. h) (inl refl)

  pub alerts : (e : SenderEvent) (lent : ℕ) → InSession σ.words e → KnownAlert set (m.answer e lent σ.sender).alert
  unfolding work
  alerts (request_ad o) lent h = known (request_ad o) tt lent (own_known set _ (ad_alerts κ.fop (in_mode set κ I) o))
  alerts (request_bd o) lent h = known (request_bd o) tt lent (own_known set _ (bd_alerts κ.fop (in_mode set κ I) o))
  alerts fop.tick lent h = known fop.tick tt lent (timer_known set _ _ (ap (λ (p : Preset). p.timeout_type) I.is_set) (tick_alerts κ.fop (in_mode set κ I)))
  alerts (lower l) lent h = known (lower l) tt lent (own_known set _ (lower_alerts κ.fop (in_mode set κ I) l))
  alerts (directive d v) lent h = known (directive d v) h lent (own_known set _ (directive_alerts κ.fop (in_mode set κ I) d v h))
  alerts (word_arrives s) lent h = limit_known set _ (word_alert_lem s h.0 lent h.1)

  -- the Suspend notification, which only an expiry that suspends gives
  pub notified : (e : SenderEvent) (lent : ℕ) → InSession σ.words e → (m.answer e lent σ.sender).suspended ≡ true
      → (e ≡ fop.tick) × (suspends_at γ.sender ≡ true)
  notified e lent h s =
      let t = answer_ways (λ a. a.suspended ≡ true → (e ≡ fop.tick) × (suspends_at κ.fop ≡ true)) e (brought σ.words e h) lent
      (λ g. work_told set.own e κ.fop) (λ x. absurd (false≢true x)) s in
      (t.0, ap suspends_at G.fop ∙ t.1)

  pub notifies : (lent : ℕ) → suspends_at γ.sender ≡ true → (m.answer fop.tick lent σ.sender).suspended ≡ true
  unfolding work judged needed sender_answer
  notifies lent s =
      let u : suspends_at κ.fop ≡ true = ap suspends_at (sym G.fop) ∙ s in
      let none : needed set.own fop.tick κ.fop ≡ 0 = ap ans.room (tick_begins set.own κ.fop u).2 in
      ap (λ (a : Answer). a.suspended) (answer_is fop.tick tt lent)
      ∙ ap (λ (b : Bool). (pick b (ans.answered set.own (work set.own fop.tick κ.fop)) (refused (sender_refusal set.own fop.tick lent κ.fop) κ.fop)).suspended)
      (goes_is set.own fop.tick lent κ.fop refl (omega (arith, none))) ∙ (tick_told κ.fop).0 ∙ u

  judge : (e : SenderEvent) → InSession σ.words e → (judged set.own e ≡ 0) ⊎ (judged set.own e ≡ 10)
  unfolding judged
  judge (request_ad o) h = by_legal (legal o)
  judge (request_bd o) h = by_legal (legal o)
  judge fop.tick h = inl refl
  judge (lower l) h = inl refl
  judge (directive d v) (inl h) = inl (rw h)
  judge (directive d v) (inr h) = inl (rw h)
  judge (word_arrives s) h = inl (oldest_read s h.0 h.1).6

  pub refusals : (e : SenderEvent) (lent : ℕ) → InSession σ.words e → Mild (m.answer e lent σ.sender).refusal
  unfolding sender_refusal
  refusals e lent h =
      subst Mild (sym (ap (λ (a : Answer). a.refusal) (answer_is e (brought σ.words e h) lent) ∙ refusal_is set.own e lent κ.fop))
      (mild (judged set.own e) (needed set.own e κ.fop) lent (judge e h))

  oldest : (l : List Frame) (s : List ℕ) (fs : List (List ℕ)) → Reads l → s ∷ fs ≡ map (written set.own) l
      → (receiver_answer (frame_arrives s) (receiver_of set (used κ) κ.farm)).refusal ≡ 0
  unfolding receiver_answer farm.answered channel.answered
  oldest [] s fs h e = let z : ◌≡◌ {A = ℕ} 0 1 = cc in absurd (omega arith)
  oldest (x ∷ xs) s fs h e =
      let a : s ≡ written set.own x = cc in
      ap (λ (y : List ℕ). optional_number (farm.receive_of (receiver_of set (used κ) κ.farm) y).refusal) a
      ∙ ap (λ (y : Received). optional_number y.refusal) (received_is set vw (used κ) κ.farm x h.0)

  pub frame_refusal_lem : (s : List ℕ) (fs : List (List ℕ)) → σ.frames ≡ s ∷ fs → (m.answer_receiver (frame_arrives s) σ.receiver).refusal ≡ 0
  frame_refusal_lem s fs e =
      ap (λ (a : ReceiverAnswer). a.refusal) (t.answer_receiver (frame_arrives s) σ.receiver R.good_receiver)
      ∙ ap (λ (r : Receiver). (receiver_answer (frame_arrives s) r).refusal) R.farm
      ∙ oldest κ.frames s fs (fly_reads set.n _ κ.sent I.base.num _ _ κ.frames I.base.fly) (sym e ∙ R.frames)

  abbrev pub ReleasedOrNot : ReceiverAnswer → Type 0
  ReleasedOrNot a = ((a.refusal ≡ 0) × (κ.released < length κ.accepted)) ⊎ ((a.refusal ≡ 13) × (κ.released ≡ length κ.accepted))

  pub release_refusal_lem : ReleasedOrNot (m.answer_receiver release_buffer σ.receiver)
  unfolding receiver_answer farm.answered channel.answered
  release_refusal_lem =
      subst ReleasedOrNot
      (sym (t.answer_receiver release_buffer σ.receiver R.good_receiver ∙ ap (λ (f : Receiver). receiver_answer release_buffer f) R.farm
      ∙ ap release_answer (released_is set vw (used κ) κ.farm)))
      (go (is_held κ) refl)
    where
      go : (b : Bool) → ltb 0 (length κ.accepted - κ.released) ≡ b
          → ReleasedOrNot (release_answer (must b (Err Release) (Ok (farm.answered code.None E10 0 (receiver_of set (used κ - 1) κ.farm)))))
      go true z = inl (refl, omega (arith, ltb-true 0 (length κ.accepted - κ.released) z))
      go false z = inr (refl, omega (arith, ltb-false 0 (length κ.accepted - κ.released) z, R.stock.below))
