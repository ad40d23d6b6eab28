-- What the receiver hands out (specs/Beyond, `HandsOut`): the unit of an AD frame that is accepted, and nothing else. By the answer to a frame under
-- way (Link, `answer_to_lem`): a unit is handed out where the cell of table 7-9 accepts one, and there the histories count it. A frame with fill behind it
-- is answered and counted as the frame alone (`FilledAlike`).
use mathlib.Core.Logic.{◌⊎◌, inl, inr}
use mathlib.Core.Path.{◌≡◌, refl, sym, ap, ◌∙◌, subst}
use mathlib.Core.List.{List, [], ◌∷◌, ◌++◌, map}
use mathlib.Core.Option.{none, some}
use mathlib.Core.Bool.{Bool, true}
use Prim.Native.Nat.{ℕ, ◌/◌, ◌≤◌}
use native.Mathlib.Omega.{arith}
use lib.ListN.{length}
use Rattle.base.specs.Choice.{pick}
use Rattle.fop.specs.Units.{Fdu, Frame, AD, written}
use Rattle.farm.specs.Table.{unit_of}
use Rattle.farm.specs.declared.AcceptedUnit.{AcceptedUnit}
use Rattle.farm.specs.declared.AcceptedUnit.TheVariants.{Ad, Bd}
use Rattle.std.specs.Prelude.{Some, None, Result, Ok, Err}
use Rattle.std.specs.Prelude as code
use Rattle.base.specs.declared.Refusal.{Refusal}
use Rattle.receiver.specs.declared.Received.{Received}
use Rattle.receiver.specs.Receiver.{part_for, release_of}
use Rattle.session.specs.Frames.{read}
use Rattle.session.specs.Receiver.{frame_arrives, release_buffer, ReceiverAnswer, handed_out, release_answer, receiver_answer}
use Rattle.session.specs.Ends.{Settings, Within, Ends, Tied}
use Rattle.session.specs.Session.{Linked, History, frame_in}
use Rattle.session.specs.Session as ses
use Rattle.session.specs.Channels.{frame_stays, frame_filled, is_fill}
use Rattle.session.specs.Beyond.{HandsOut, FilledAlike}
use Rattle.session.proofs.Core.{Session, taken, is_handed, frame_event, free, frame_come, receiver, step_with, step}
use Rattle.session.proofs.Inv.{Inv}
use Rattle.session.proofs.Link.{Rel, Reads, same_step, answer_to_lem, fly_reads}
use Rattle.session.proofs.Theorem.{oldest_frame}
use Rattle.session.proofs.Next.{history_of}
use Rattle.session.proofs.Channels as core
use Rattle.session.proofs.Linked.{same_link}
use Rattle.session.proofs.Filled.{fill_is, filled_alike, answered_alike}

-- by what the cell accepts
by_unit : (x : code.Option AcceptedUnit) (o : List ℕ) (u : Fdu) (l : List Fdu)
    → ((handed_out x (part_for x o) ≡ some o) × (taken (AD u) (is_handed x) l ≡ l ++ (u ∷ [])))
    ⊎ ((handed_out x (part_for x o) ≡ none) × (taken (AD u) (is_handed x) l ≡ l))
by_unit None o u l = inr (refl, refl)
by_unit (Some Ad) o u l = inl (refl, refl)
by_unit (Some Bd) o u l = inl (refl, refl)

released_none : (x : Result Received Refusal) → (release_answer x).unit ≡ none
released_none (Ok received) = refl
released_none (Err refusal) = refl

module _ (set : Settings) (vw : Within set) (m : Ends) (t : Tied set m) (σ : Linked m) (κ : Session) (R : Rel set vw m t σ κ) (I : Inv set κ) where
  module _ (s : List ℕ) (fs : List (List ℕ)) (u : Fdu) (e : σ.frames ≡ s ∷ fs) (q : read set.own s ≡ AD u) where
    -- the frame, as octets and among those of Core
    abbrev all_read : Reads κ.frames
    all_read = fly_reads set.n _ κ.sent I.base.num _ _ κ.frames I.base.fly

    place : (more : List Frame) × (κ.frames ≡ AD u ∷ more)
    place = oldest_frame set vw κ.frames s fs (AD u) all_read (sym e ∙ R.frames) q

    octets_are : s ≡ written set.own (AD u)
    octets_are =
        let w : s ∷ fs ≡ map (written set.own) (AD u ∷ place.0) = sym e ∙ R.frames ∙ ap (map (written set.own)) place.1 in
        cc

    -- what its cell accepts
    abbrev unit : code.Option AcceptedUnit
    unit = unit_of (frame_event set.w (free set κ) (AD u) κ.farm) κ.farm.state

    handed_is : (m.answer_receiver (frame_arrives s) σ.receiver).unit ≡ handed_out unit (part_for unit u.octets)
    handed_is =
        ap (λ (x : List ℕ). (m.answer_receiver (frame_arrives x) σ.receiver).unit) octets_are
        ∙ ap (λ (a : ReceiverAnswer). a.unit) (answer_to_lem set vw m t σ κ (AD u) R (subst Reads place.1 all_read).0)

    accepted_is : (ses.step set m frame_in σ).history.accepted ≡ taken (AD u) (is_handed unit) κ.accepted
    unfolding step step_with frame_come receiver
    accepted_is =
        ap (λ (h : History). h.accepted) (same_step set vw m t frame_in σ κ refl R I).history
        ∙ ap (λ (l : List Frame). (frame_come set (free set κ) l κ).accepted) place.1

    before : κ.accepted ≡ σ.history.accepted
    before = ap (λ (h : History). h.accepted) (sym R.history)

    hands : (((m.answer_receiver (frame_arrives s) σ.receiver).unit ≡ some u.octets)
        × ((ses.step set m frame_in σ).history.accepted ≡ σ.history.accepted ++ (u ∷ [])))
        ⊎ (((m.answer_receiver (frame_arrives s) σ.receiver).unit ≡ none) × ((ses.step set m frame_in σ).history.accepted ≡ σ.history.accepted))
    hands = by (by_unit unit u.octets u κ.accepted)
      where
        by : ((handed_out unit (part_for unit u.octets) ≡ some u.octets) × (taken (AD u) (is_handed unit) κ.accepted ≡ κ.accepted ++ (u ∷ [])))
            ⊎ ((handed_out unit (part_for unit u.octets) ≡ none) × (taken (AD u) (is_handed unit) κ.accepted ≡ κ.accepted))
            → (((m.answer_receiver (frame_arrives s) σ.receiver).unit ≡ some u.octets)
            × ((ses.step set m frame_in σ).history.accepted ≡ σ.history.accepted ++ (u ∷ [])))
            ⊎ (((m.answer_receiver (frame_arrives s) σ.receiver).unit ≡ none)
            × ((ses.step set m frame_in σ).history.accepted ≡ σ.history.accepted))
        by (inl h) = inl (handed_is ∙ h.0, accepted_is ∙ h.1 ∙ ap (λ (l : List Fdu). l ++ (u ∷ [])) before)
        by (inr h) = inr (handed_is ∙ h.0, accepted_is ∙ h.1 ∙ before)

  pub hands_out_lem : HandsOut set m σ
  unfolding receiver_answer
  hands_out_lem = record {
    frame = hands;
    released = ap (λ (a : ReceiverAnswer). a.unit) (t.answer_receiver release_buffer σ.receiver R.good_receiver)
        ∙ released_none (release_of (t.farm σ.receiver));
  }

  -- with fill behind it
  module _ (kept : ℕ) (most : kept ≤ set.w / 2) where
    by_frames : (l : List Frame) → Reads l → (s : List ℕ) (fs : List (List ℕ)) (fill : List ℕ) → s ∷ fs ≡ map (written set.own) l → is_fill fill ≡ true
        → m.answer_receiver (frame_arrives (s ++ fill)) σ.receiver ≡ m.answer_receiver (frame_arrives s) σ.receiver
    by_frames [] h s fs fill e f = absurd (omega (arith, ap length e))
    by_frames (x ∷ l) h s fs fill e f =
        let i = fill_is fill f in
        let z : s ≡ written set.own x = cc in
        rw z (answered_alike set vw m t σ κ (written set.own x ++ fill) (written set.own x) R (filled_alike set vw x h.0 fill i.0 i.1))

    pub filled_answers : FilledAlike set kept m σ
    unfolding core.link_step
    filled_answers = record {
      answer = λ s fs fill e f.
          by_frames κ.frames (fly_reads set.n _ κ.sent I.base.num _ _ κ.frames I.base.fly) s fs fill (sym e ∙ R.frames) f;
      history = λ fill f.
          (same_link set vw m t kept most (frame_filled fill) σ κ refl R I).history
          ∙ ap (λ (b : Bool). history_of (pick b (step set frame_in κ) κ)) f
          ∙ sym (same_step set vw m t frame_in σ κ refl R I).history;
      stays = λ fill f.
          (same_link set vw m t kept most (frame_stays fill) σ κ refl R I).history
          ∙ ap (λ (b : Bool). history_of (pick b (frame_come set (free set κ) (core.stays_ad κ.frames) κ) κ)) f
          ∙ sym (same_link set vw m t kept most (frame_stays []) σ κ refl R I).history;
    }
