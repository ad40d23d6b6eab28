-- A frame that arrives with fill behind it is answered as the frame alone: reading and data part are the same (Octets, `filled_back`), and the
-- receiver goes by these alone. So the session of tied ends goes on as if the frame had arrived alone (`filled_in`).
use mathlib.Core.Path.{◌≡◌, refl, sym, ap, ◌∙◌}
use mathlib.Core.Bool.{Bool, true, false}
use mathlib.Core.List.{List, [], ◌∷◌, ◌++◌, map}
use Prim.Native.Nat.{ℕ, ◌≤◌}
use borrow.Author.Tests.{leb-true}
use lib.Dec.{leb}
use lib.ListN.{length}
use Rattle.base.specs.Choice.{pick}
use Rattle.base.specs.Octets.{Octets}
use Rattle.frame.specs.Answers.{FrameReading, reading_of, part_of}
use Rattle.frame.specs.declared.Kind.TheVariants as kind
use Rattle.fop.specs.Units.{Frame, AD, BD, Unlock, SetVR, Refused, Own, are_octets, written}
use Rattle.farm.specs.declared.Variables.{Variables}
use Rattle.receiver.specs.Receiver as farm
use Rattle.session.specs.Frames.{read}
use Rattle.session.specs.Receiver.{frame_arrives, receiver_next, receiver_answer}
use Rattle.session.specs.Ends.{Settings, Within, Ends, Tied}
use Rattle.session.specs.Session.{Linked, frame_come}
use Rattle.session.specs.Channels.{largest_fill, is_fill, with_fill}
use Rattle.fop.proofs.Choices.{by_pick, and_both}
use Rattle.session.proofs.Core.{Session, used}
use Rattle.session.proofs.Received.{Readable, receiver_of}
use Rattle.session.proofs.Octets.{octets_are, filled_back, ad_legal, bd_legal}
use Rattle.session.proofs.Link.{Rel, Reads}

-- what fill is
pub fill_is : (fill : List ℕ) → is_fill fill ≡ true → (length fill ≤ largest_fill) × Octets fill
fill_is fill e =
    let h = and_both (leb (length fill) largest_fill) (are_octets fill) e in (leb-true (length fill) largest_fill h.0, octets_are fill h.1)

-- octets that are read alike at an address
pub record Alike (own : Own) (s x : List ℕ) : Type 0 where
  pub reading : reading_of s own.spacecraft own.channel ≡ reading_of x own.spacecraft own.channel
  pub part : part_of s own.spacecraft own.channel ≡ part_of x own.spacecraft own.channel

-- are the same to the histories
read_alike : (own : Own) (s x : List ℕ) → Alike own s x → read own s ≡ read own x
unfolding read
read_alike own s x a = rw (a.reading, a.part)

-- and to a receiver of that address
module _ (set : Settings) (k : ℕ) (v : Variables) (s x : List ℕ) (a : Alike set.own s x) where
  next_alike : receiver_next (frame_arrives s) (receiver_of set k v) ≡ receiver_next (frame_arrives x) (receiver_of set k v)
  unfolding receiver_next farm.receive_of
  next_alike = ap (λ (y : FrameReading). (farm.by_reading (receiver_of set k v) y).next) a.reading

  answer_alike : receiver_answer (frame_arrives s) (receiver_of set k v) ≡ receiver_answer (frame_arrives x) (receiver_of set k v)
  unfolding receiver_answer farm.receive_of farm.unit_part
  answer_alike = rw (a.reading, a.part)

module _ (set : Settings) (vw : Within set) where
  -- a frame under way with fill behind it
  pub filled_alike : (x : Frame) → Readable x → (fill : List ℕ) → length fill ≤ largest_fill → Octets fill
      → Alike set.own (written set.own x ++ fill) (written set.own x)
  unfolding written
  filled_alike (AD u) h fill few o =
      let b = filled_back set.own vw.spacecraft vw.channel (kind.Ad u.ns) u.octets fill
      (ad_legal set.own vw.spacecraft vw.channel u h.0 h.1) few o in
      record { reading = b.0; part = b.1 }
  filled_alike (BD u) h fill few o =
      let b = filled_back set.own vw.spacecraft vw.channel kind.Bd u fill (bd_legal set.own vw.spacecraft vw.channel u h) few o in
      record { reading = b.0; part = b.1 }
  filled_alike Unlock h fill few o = absurd h
  filled_alike (SetVR v) h fill few o = absurd h
  filled_alike (Refused r) h fill few o = absurd h

  module _ (m : Ends) (t : Tied set m) where
    -- octets that are read alike are answered alike
    pub answered_alike : (σ : Linked m) (κ : Session) (s x : List ℕ) → Rel set vw m t σ κ → Alike set.own s x
        → m.answer_receiver (frame_arrives s) σ.receiver ≡ m.answer_receiver (frame_arrives x) σ.receiver
    answered_alike σ κ s x R a =
        t.answer_receiver (frame_arrives s) σ.receiver R.good_receiver ∙ ap (receiver_answer (frame_arrives s)) R.farm
        ∙ answer_alike set (used κ) κ.farm s x a ∙ ap (receiver_answer (frame_arrives x)) (sym R.farm)
        ∙ sym (t.answer_receiver (frame_arrives x) σ.receiver R.good_receiver)

    -- octets that are read as the frame is, in its place
    pub arrives_alike : (σ : Linked m) (κ τ : Session) (s x : List ℕ) (fs : List (List ℕ)) → Rel set vw m t σ κ → Alike set.own s x
        → Rel set vw m t (frame_come set m (x ∷ fs) σ) τ → Rel set vw m t (frame_come set m (s ∷ fs) σ) τ
    unfolding frame_come
    arrives_alike σ κ τ s x fs R a S =
        let next : t.farm (m.next_receiver (frame_arrives s) σ.receiver) ≡ t.farm (m.next_receiver (frame_arrives x) σ.receiver) =
        t.next_receiver (frame_arrives s) σ.receiver R.good_receiver ∙ ap (receiver_next (frame_arrives s)) R.farm
        ∙ next_alike set (used κ) κ.farm s x a ∙ ap (receiver_next (frame_arrives x)) (sym R.farm)
        ∙ sym (t.next_receiver (frame_arrives x) σ.receiver R.good_receiver) in
        let answer = answered_alike σ κ s x R a in
        record {
          good = S.good;
          good_receiver = t.keeps_receiver (frame_arrives s) σ.receiver R.good_receiver;
          fop = S.fop;
          farm = next ∙ S.farm;
          stock = S.stock;
          frames = S.frames;
          words = S.words;
          history = rw (read_alike set.own s x a, answer) S.history;
        }

    -- the oldest frame with fill behind it: as the frame alone, or where it is no fill nothing arrives
    pub filled_in : (σ : Linked m) (κ τ : Session) (fill : List ℕ) (l : List Frame) → Reads l → Rel set vw m t σ κ
        → Rel set vw m t (frame_come set m (map (written set.own) l) σ) τ
        → Rel set vw m t (frame_come set m (with_fill fill (map (written set.own) l)) σ) (pick (is_fill fill) τ κ)
    unfolding frame_come
    filled_in σ κ τ fill [] rd R S = by_pick (Rel set vw m t σ) (is_fill fill) (λ b. S) (λ b. R)
    filled_in σ κ τ fill (x ∷ fs) rd R S = by (is_fill fill) refl
      where
        by : (b : Bool) → is_fill fill ≡ b
            → Rel set vw m t (frame_come set m (pick b ((written set.own x ++ fill) ∷ map (written set.own) fs) []) σ) (pick b τ κ)
        by true e =
            let f = fill_is fill e in
            arrives_alike σ κ τ _ _ (map (written set.own) fs) R (filled_alike x rd.0 fill f.0 f.1) S
        by false e = R
