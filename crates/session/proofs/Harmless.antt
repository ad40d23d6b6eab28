-- N: what the readers refuse changes nothing (specs/Beyond, `Harmless`), of tied ends and of the tables. The laws of refused octets (Noise) at the
-- states that the ends and the tables share.
use mathlib.Core.Path.{◌≡◌, refl, sym, ap, ◌∙◌, subst}
use mathlib.Core.Bool.{true}
use mathlib.Core.List.{List, [], ◌∷◌}
use Prim.Native.Nat.{ℕ, ◌/◌, ◌≤◌}
use Rattle.fop.specs.Units.{Refused, other, read_word}
use Rattle.fop.specs.Events.{word_arrives}
use Rattle.std.specs.Prelude.{Err}
use Rattle.base.specs.Refusals.{refusal_number}
use Rattle.base.specs.declared.Refusal.{Refusal}
use Rattle.frame.specs.Answers.{reading_of}
use Rattle.fop.specs.Answers.{refused, sender_answer, sender_next}
use Rattle.receiver.specs.declared.Receiver.{Receiver}
use Rattle.session.specs.Frames.{read}
use Rattle.session.specs.Receiver.{frame_arrives, ReceiverAnswer, receiver_next, receiver_answer}
use Rattle.session.specs.Ends.{Settings, Within, Ends, Tied, tables}
use Rattle.session.specs.Session.{Linked, History, frame_lost, word_lost, frame_come, word_come, to_sender, step, after_frame, after_sender}
use Rattle.session.specs.Channels.{demanded, noise, word_noise, is_refused, is_refused_word, link_step, link_run}
use Rattle.session.specs.Beyond.{Harmless}
use Rattle.session.proofs.Channels as core
use Rattle.session.proofs.Core.{Session, used}
use Rattle.session.proofs.Received.{receiver_of}
use Rattle.session.proofs.Inv.{Inv}
use Rattle.session.proofs.Link.{Rel, tables_tied, refusal_through}
use Rattle.session.proofs.Linked.{same_link, history_kept}
use Rattle.session.proofs.Noise.{refused_number, discarded, frame_next_lem, frame_answer_lem, word_number, word_next, word_answer_lem}

module _ (set : Settings) (vw : Within set) (m : Ends) (t : Tied set m) (kept : ℕ) (most : kept ≤ set.w / 2)
    (σ : Linked m) (γ : Linked (tables set)) (κ : Session)
    (R : Rel set vw m t σ κ) (G : Rel set vw (tables set) (tables_tied set) γ κ) (I : Inv set κ) where
  -- the receiver that both have
  abbrev r : Receiver
  r = receiver_of set (used κ) κ.farm

  -- octets that the frame reader refuses
  module _ (o : List ℕ) (n : ℕ) (q : read set.own o ≡ Refused n) where
    reading_is : (refusal : Refusal) × ((reading_of o set.own.spacecraft set.own.channel ≡ Err refusal) × (refusal_number refusal ≡ n))
    reading_is = refused_number set.own o n q

    frame_answer : receiver_answer (frame_arrives o) r ≡ discarded n
    frame_answer = frame_answer_lem r o reading_is.0 reading_is.1.0 ∙ ap discarded reading_is.1.1

    answer_is : m.answer_receiver (frame_arrives o) σ.receiver ≡ discarded n
    answer_is =
        t.answer_receiver (frame_arrives o) σ.receiver R.good_receiver ∙ ap (receiver_answer (frame_arrives o)) R.farm
        ∙ frame_answer

    -- of the tables
    receiver_stays : receiver_next (frame_arrives o) γ.receiver ≡ γ.receiver
    receiver_stays =
        subst (λ (x : Receiver). receiver_next (frame_arrives o) x ≡ x) (sym G.farm) (frame_next_lem r o reading_is.0 reading_is.1.0)

    history_stays : after_frame (read set.own o) (receiver_answer (frame_arrives o) γ.receiver) γ.history ≡ γ.history
    history_stays =
        ap (λ (x : Receiver). after_frame (read set.own o) (receiver_answer (frame_arrives o) x) γ.history) G.farm
        ∙ ap (λ (a : ReceiverAnswer). after_frame (read set.own o) a γ.history) frame_answer
        ∙ subst (λ (x : History). after_frame (read set.own o) (discarded n) x ≡ x) (sym G.history)
        (history_kept κ n (read set.own o))

    noise_stays : link_step set kept (tables set) (noise o) γ ≡ γ
    unfolding link_step frame_come
    noise_stays = rw (ap is_refused q, receiver_stays, history_stays)

  -- octets refused as a control word
  module _ (o : List ℕ) (lent n : ℕ) (h : read_word set.own o ≡ other n) where
    word_answer_is : m.answer (word_arrives o) lent σ.sender ≡ refused n κ.fop
    word_answer_is =
        t.answer (word_arrives o) tt lent σ.sender R.good ∙ ap (sender_answer set.own (word_arrives o) lent) R.fop
        ∙ word_answer_lem set.own o n h lent κ.fop

    sender_stays : sender_next set.own (word_arrives o) lent γ.sender ≡ γ.sender
    sender_stays = word_next set.own o n h lent γ.sender

    word_stays_lem : link_step set kept (tables set) (word_noise o lent) γ ≡ γ
    unfolding link_step word_come to_sender
    word_stays_lem =
        let q : after_sender set (refused n γ.sender) γ.history ≡ γ.history =
        subst (λ (x : History). after_sender set (refused n γ.sender) x ≡ x) (sym G.history) (refusal_through set vw n γ.sender κ) in
        rw (h, sender_stays, word_answer_lem set.own o n h lent γ.sender, q)

  pub harmless : Harmless set kept m σ γ
  unfolding core.link_step
  harmless = record {
    frame = λ o n q.
        (answer_is o n q, (same_link set vw m t kept most (noise o) σ κ refl R I).history ∙ sym R.history, noise_stays o n q);
    word = λ o lent n q. (
      word_answer_is o lent n q ∙ ap (refused n) (sym G.fop),
      word_number set.own o n q lent κ.fop,
      (same_link set vw m t kept most (word_noise o lent) σ κ refl R I).history ∙ sym R.history,
      word_stays_lem o lent n q,
    );
  }

-- A frame x that is damaged on the way, so that octets o arrive in its place and are refused: this noise, and the frame's loss. And so of a word.
pub damaged_frame : (set : Settings) (kept : ℕ) (m : Ends) (σ : Linked m) (o x : List ℕ) (fs : List (List ℕ)) → is_refused (read set.own o) ≡ true
    → σ.frames ≡ x ∷ fs → frame_come set m (o ∷ fs) σ ≡ link_run set kept m (noise o ∷ demanded frame_lost ∷ []) σ
unfolding link_run link_step frame_come step
damaged_frame set kept m σ o x fs h e = rw (h, e)

pub damaged_word : (set : Settings) (kept : ℕ) (m : Ends) (σ : Linked m) (o x : List ℕ) (lent : ℕ) (ws : List (List ℕ))
    → is_refused_word (read_word set.own o) ≡ true → σ.words ≡ x ∷ ws
    → word_come set m lent (o ∷ ws) σ ≡ link_run set kept m (word_noise o lent ∷ demanded word_lost ∷ []) σ
unfolding link_run link_step word_come to_sender step
damaged_word set kept m σ o x lent ws h e = rw (h, e)
