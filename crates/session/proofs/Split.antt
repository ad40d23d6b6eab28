-- The claims on denied units (specs/Beyond, `Split`) of all tied ends, at whatever they have come to: `on_board` and `unconfirmed` (Denied) in the
-- words of the claims, and `no_others`, since nothing more is accepted where the sender has ended (Ended). The ends' session and the tables' are both
-- seen as one of Core.
use mathlib.Core.Logic.{◌↔◌}
use mathlib.Core.Path.{◌≡◌, refl, sym, ap, ◌∙◌}
use mathlib.Core.Bool.{true, false≢true}
use mathlib.Core.List.{List, [], ◌∷◌}
use Prim.Native.Nat.{ℕ, ◌+◌, ◌≤◌}
use lib.ListN.{length, get_or}
use Rattle.fop.specs.declared.State.TheVariants.{S6}
use Rattle.fop.specs.Variables.{Fop}
use Rattle.receiver.specs.declared.Receiver.{Receiver}
use Rattle.session.specs.Ends.{Settings, Within, Ends, Tied, tables}
use Rattle.session.specs.Session.{Linked, History, no_unit}
use Rattle.session.specs.Claims.{member}
use Rattle.session.specs.Channels.{LinkEvent, demanded, frame_stays, word_stays, frame_filled, frame_again, noise, word_noise, negative_window, link_step, link_run}
use Rattle.session.specs.Beyond.{no_ad, none_again, OnBoard, Before, Split}
use Rattle.session.specs.Suspension.{link_rejects}
use Rattle.session.proofs.Suspended.{admitted_serving}
use Rattle.session.proofs.Core.{Session}
use Rattle.session.proofs.Inv.{Inv}
use Rattle.session.proofs.Link.{Rel, tables_tied}
use Rattle.session.proofs.Channels as core
use Rattle.session.proofs.Channels.{link_keeps}
use Rattle.session.proofs.Linked.{same_link}
use Rattle.session.proofs.Denied as denied
use Rattle.session.proofs.Ended.{Ended, link_ended, frames_none}

-- none of a list of events is the recorder's
none_first : (e : LinkEvent) (es : List LinkEvent) → none_again (e ∷ es) ≡ true → (none_again (e ∷ []) ≡ true) × (none_again es ≡ true)
none_first (demanded e) es h = (refl, h)
none_first (frame_stays fill) es h = (refl, h)
none_first (word_stays lent) es h = (refl, h)
none_first (frame_filled fill) es h = (refl, h)
none_first (frame_again i) es h = (h, absurd (false≢true h))
none_first (noise o) es h = (refl, h)
none_first (word_noise o lent) es h = (refl, h)

-- nothing more is accepted
no_more : (set : Settings) (vw : Within set) (m : Ends) (t : Tied set m) (kept : ℕ) → kept ≤ negative_window set → (es : List LinkEvent) → none_again es ≡ true
    → (σ : Linked m) (κ : Session) → Rel set vw m t σ κ → Inv set κ → Ended κ → (link_run set kept m es σ).history.accepted ≡ κ.accepted
unfolding link_run
no_more set vw m t kept most [] n σ κ R I h = ap (λ (x : History). x.accepted) R.history
no_more set vw m t kept most (e ∷ es) n σ κ R I h =
    let b = none_first e es n in
    let k = link_ended set kept e κ b.0 h in
    let a = admitted_serving (link_rejects e) κ.fop h.initial.unsuspended in
    no_more set vw m t kept most es b.1 (link_step set kept m e σ) (core.link_step set kept e κ) (same_link set vw m t kept most e σ κ a R I)
    (link_keeps set vw kept most e κ a I) k.0
    ∙ k.1

module _ (set : Settings) (vw : Within set) (m : Ends) (t : Tied set m) (σ : Linked m) (γ : Linked (tables set)) (κ : Session)
    (R : Rel set vw m t σ κ) (G : Rel set vw (tables set) (tables_tied set) γ κ) (I : Inv set κ)
    (kept : ℕ) (most : kept ≤ negative_window set) where
  state_is : γ.sender.state ≡ S6 → κ.fop.state ≡ S6
  state_is s = ap (λ (f : Fop). f.state) (sym G.fop) ∙ s

  suspension_is : γ.sender.suspend_state ≡ 0 → κ.fop.suspend_state ≡ 0
  suspension_is z = ap (λ (f : Fop). f.suspend_state) (sym G.fop) ∙ z

  on_board_lem : γ.sender.state ≡ S6 → γ.sender.suspend_state ≡ 0 → (i : ℕ) → member i σ.history.denied ≡ true
      → OnBoard σ.history i ↔ Before γ.receiver.farm.channel.variables.vr (get_or σ.history.sent i no_unit).ns
  on_board_lem s z i h =
      let vr : γ.receiver.farm.channel.variables.vr ≡ κ.farm.vr = ap (λ (f : Receiver). f.farm.channel.variables.vr) G.farm in
      rw (vr, R.history) (denied.on_board_lem set κ I (state_is s) (suspension_is z) i (rw R.history at h))

  unconfirmed : length σ.history.accepted ≤ length σ.history.confirmed + set.k
  unconfirmed = rw R.history (denied.unconfirmed set κ I)

  ended : γ.sender.state ≡ S6 → γ.sender.suspend_state ≡ 0 → no_ad set.own σ.frames ≡ true → Ended κ
  ended s z n = record { initial = record { state = state_is s; unsuspended = suspension_is z }; none = frames_none set vw m t σ κ R I n }

  pub split : Split set kept m σ γ
  split = record {
    on_board = on_board_lem;
    no_others = λ s z n es a. no_more set vw m t kept most es a σ κ R I (ended s z n) ∙ ap (λ (x : History). x.accepted) (sym R.history);
    unconfirmed = unconfirmed;
  }
