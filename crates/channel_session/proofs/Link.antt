-- A session of one channel of tied ends, octets and all, is Core's (`same_step`), in which an event of the channel is `step_with` with room where the pool has
-- room and a release is done where it is not refused, and an event of another channel changes nothing. The sender's half is crate session's (proofs/Link,
-- `Half`); of the receiver it has the records (`Ties`).
use mathlib.Core.Logic.{inl, inr}
use mathlib.Core.Path.{◌≡◌, refl, sym, ap, ◌∙◌, subst}
use mathlib.Core.Bool.{Bool, true, false, not, ◌&&◌}
use mathlib.Core.List.{List, [], ◌∷◌, map}
use Prim.Native.Nat.{ℕ, ◌+◌, ◌/◌}
use native.Mathlib.Omega.{arith}
use borrow.Author.Tests.{eqb-false, not-true}
use lib.Dec.{eqb, leb}
use lib.ListN.{length}
use Rattle.base.specs.Choice.{pick, must}
use Rattle.fop.specs.Units.{Frame, are_octets, written, word_octets}
use Rattle.fop.specs.Events.{request_ad, request_bd, directive}
use Rattle.fop.specs.Events as fop
use Rattle.farm.specs.Table.{step_of}
use Rattle.farm.specs.declared.Event.TheVariants.{E10}
use Rattle.farm.specs.declared.Variables.{Variables}
use Rattle.receiver.specs.declared.Channel.{Channel}
use Rattle.session.specs.Frames.{read}
use Rattle.session.specs.Receiver.{ReceiverAnswer, word_length}
use Rattle.session.specs.Ends.{Settings, Within}
use Rattle.session.specs.Session.{Linked, History, Event, ad_request, bd_request, ticks, lower_says, terminate, resume, word_in, word_lost, word_made, frame_in, frame_lost, release, after_frame, after_release, rest}
use Rattle.session.specs.Session as ses
use Rattle.session.specs.Channels.{is_refused}
use Rattle.session.proofs.Core as core
use Rattle.session.proofs.Core.{Session}
use Rattle.session.proofs.Chan.{Fly}
use Rattle.session.proofs.Inv.{Inv}
use Rattle.session.proofs.Next.{history_of}
use Rattle.session.proofs.Octets.{told_if}
use Rattle.session.proofs.Received.{Readable}
use Rattle.session.proofs.Link.{SenderTied, Half, half_plain, half_word_in, half_relink, map_rest, word_enters, answer_to, said, reads, fly_reads}
use Rattle.channels.specs.Table.{has_room}
use Rattle.channel_session.specs.Ends as ends
use Rattle.channel_session.specs.Ends.{Pool, ManyEnds, Tied, TableEvent, TableAnswer, table_next, table_answer, table_word, seen}
use Rattle.channel_session.specs.Session as counting
use Rattle.channel_session.specs.Session.{ChannelEvent, own, other_frame, other_release, Counted, Joined, another, channel_step}
use Rattle.channel_session.proofs.Known.{Known, is_done, frame_answer_lem, frame_known, release_answer_lem, release_known, word_answer_lem, other_frame_known, other_release_known}

module _ (set : Settings) (vw : Within set) (pool : Pool) where
  -- what the sender's half asks of the sender
  abbrev sender_of : (m : ManyEnds) → Tied set pool m → SenderTied set vw (seen set m)
  sender_of m t = record { fop = t.fop; Good = t.Good; keeps = t.keeps; next = t.next; answer = t.answer }

  -- the receiver's records are cs, as the channel has them
  pub record Ties (m : ManyEnds) (t : Tied set pool m) (cs : List Channel) (r : m.Receiver) (v : Variables) : Type 0 where
    pub good : t.GoodReceiver r
    pub records : t.records r ≡ cs
    pub known : Known set vw pool cs v

  abbrev pub Rel : (m : ManyEnds) → Tied set pool m → List Channel → Linked (seen set m) → Session → Type 0
  Rel m t cs σ κ = Half set vw (seen set m) (sender_of m t) (λ r v a k. Ties m t cs r v) σ κ

  -- the records after an event of the channel
  abbrev pub frame_records : List Frame → List Channel → List Channel
  frame_records [] cs = cs
  frame_records (x ∷ fs) cs = table_next set pool (ends.frame (written set.own x)) cs

  abbrev pub own_records : Event → Session → List Channel → List Channel
  own_records (ad_request o lent) κ cs = cs
  own_records (bd_request o lent) κ cs = cs
  own_records (ticks lent) κ cs = cs
  own_records (lower_says l lent) κ cs = cs
  own_records (terminate v lent) κ cs = cs
  own_records (resume v lent) κ cs = cs
  own_records (word_in lent) κ cs = cs
  own_records word_lost κ cs = cs
  own_records (word_made lent) κ cs = cs
  own_records frame_in κ cs = frame_records κ.frames cs
  own_records frame_lost κ cs = cs
  own_records release κ cs = table_next set pool (ends.release set.own.channel) cs

  -- octets that are no frame of the channel arrive
  abbrev pub is_other : List ℕ → Bool
  is_other o = are_octets o && is_refused (read set.own o)

  -- and after every event
  abbrev pub next_records : ChannelEvent → Session → List Channel → List Channel
  next_records (own e) κ cs = own_records e κ cs
  next_records (other_frame o) κ cs = pick (is_other o) (table_next set pool (ends.frame o) cs) cs
  next_records (other_release n) κ cs = pick (not (eqb n set.own.channel)) (table_next set pool (ends.release n) cs) cs

  -- Core's session after it
  abbrev pub core_step : ChannelEvent → List Channel → Session → Session
  core_step (own e) cs κ = core.step_with set (has_room pool.size cs) (is_done set vw pool cs) e κ
  core_step (other_frame o) cs κ = κ
  core_step (other_release n) cs κ = κ

  module _ (m : ManyEnds) (t : Tied set pool m) where
    -- the receiver after an event
    tie_on : (e : TableEvent) (cs : List Channel) (r : m.Receiver) (v w : Variables) → Ties m t cs r v → Known set vw pool (table_next set pool e cs) w
        → Ties m t (table_next set pool e cs) (m.next_receiver e r) w
    tie_on e cs r v w T k =
        record {
          good = t.keeps_receiver e r T.good;
          records = t.next_receiver e r T.good ∙ ap (table_next set pool e) T.records;
          known = k;
        }

    -- and its answer
    pub tie_answer : (e : TableEvent) (cs : List Channel) (r : m.Receiver) (v : Variables) → Ties m t cs r v → m.answer_receiver e r ≡ table_answer set pool e cs
    tie_answer e cs r v T = t.answer_receiver e r T.good ∙ ap (table_answer set pool e) T.records

    -- a frame arrives
    arrives : (cs : List Channel) (σ : Linked (seen set m)) (κ : Session) (x : Frame) (fs : List Frame) → Rel m t cs σ κ → Inv set κ
        → Fly (set.w / 2) κ.sent (length κ.accepted) (length κ.accepted) (x ∷ fs) → Readable x
        → Rel m t (frame_records (x ∷ fs) cs) (ses.frame_come set (seen set m) (map (written set.own) (x ∷ fs)) σ)
        (core.frame_come set (has_room pool.size cs) (x ∷ fs) κ)
    unfolding ses.frame_come core.frame_come core.receiver
    arrives cs σ κ x fs R I h rx =
        let s : List ℕ = written set.own x in
        let room : Bool = has_room pool.size cs in
        let a : ends.seen_answer (m.answer_receiver (ends.frame (written set.own x)) σ.receiver) ≡ answer_to set vw (has_room pool.size cs) κ x =
        ap ends.seen_answer (tie_answer (ends.frame s) cs σ.receiver κ.farm R.receiver) ∙ frame_answer_lem set vw pool cs κ.farm R.receiver.known x rx in
        record {
          good = R.good;
          fop = R.fop;
          receiver = tie_on (ends.frame s) cs σ.receiver κ.farm _ R.receiver (frame_known set vw pool cs κ.farm R.receiver.known x rx);
          frames = refl;
          words = R.words;
          history = ap (λ (y : Frame). after_frame y (ends.seen_answer (m.answer_receiver (ends.frame s) σ.receiver)) σ.history) (reads set vw x rx)
              ∙ ap (λ (b : ReceiverAnswer). after_frame x b σ.history) a ∙ ap (λ (y : History). after_frame x (answer_to set vw room κ x) y) R.history
              ∙ said set vw room κ x fs I h;
        }

    -- the oldest frame to the receiver
    got : (cs : List Channel) (σ : Linked (seen set m)) (κ : Session) (fs : List Frame) → Rel m t cs σ κ → Inv set κ
        → Fly (set.w / 2) κ.sent (length κ.accepted) (length κ.accepted) fs
        → Rel m t (frame_records fs cs) (ses.frame_come set (seen set m) (map (written set.own) fs) σ) (core.frame_come set (has_room pool.size cs) fs κ)
    unfolding ses.frame_come core.frame_come
    got cs σ κ [] R I h = R
    got cs σ κ (x ∷ fs) R I h = arrives cs σ κ x fs R I h (fly_reads set.n _ κ.sent I.base.num _ _ (x ∷ fs) h).0

    -- a release
    released : (cs : List Channel) (σ : Linked (seen set m)) (κ : Session) (v : Variables) (k : ℕ) → Rel m t cs σ κ
        → Known set vw pool (table_next set pool (ends.release set.own.channel) cs) v
        → (ses.releases (seen set m) σ).history ≡ history_of (core.receiver v κ.accepted κ.accepted_bd k κ.frames κ)
        → Rel m t (table_next set pool (ends.release set.own.channel) cs) (ses.releases (seen set m) σ)
        (core.receiver v κ.accepted κ.accepted_bd k κ.frames κ)
    unfolding ses.releases core.receiver
    released cs σ κ v k R K h =
        record {
          good = R.good;
          fop = R.fop;
          receiver = tie_on (ends.release set.own.channel) cs σ.receiver κ.farm v R.receiver K;
          frames = R.frames;
          words = R.words;
          history = h;
        }

    -- b says whether it is done
    gave : (cs : List Channel) (b : Bool) (σ : Linked (seen set m)) (κ : Session) → Rel m t cs σ κ
        → Known set vw pool (table_next set pool (ends.release set.own.channel) cs) (pick b (step_of E10 0 κ.farm) κ.farm)
        → (m.answer_receiver (ends.release set.own.channel) σ.receiver).refusal ≡ must b 13 0
        → Rel m t (table_next set pool (ends.release set.own.channel) cs) (ses.releases (seen set m) σ) (core.releases b κ)
    unfolding ses.releases core.releases core.receiver after_release
    gave cs true σ κ R K a = released cs σ κ (step_of E10 0 κ.farm) (κ.released + 1) R K (rw (a, R.history))
    gave cs false σ κ R K a = released cs σ κ κ.farm κ.released R K (rw (a, R.history))

    -- the channel's control word
    pub word_is : (cs : List Channel) (σ : Linked (seen set m)) (κ : Session) → Rel m t cs σ κ → Inv set κ → (lent : ℕ)
        → m.word set.own.channel lent σ.receiver ≡ told_if (leb word_length lent) (word_octets set.own (core.report κ.farm))
    word_is cs σ κ R I lent =
        t.word set.own.channel lent σ.receiver R.receiver.good ∙ ap (table_word set pool set.own.channel lent) R.receiver.records
        ∙ word_answer_lem set vw pool cs κ.farm R.receiver.known lent (omega (arith, I.receiver.counted))

    -- every event of the channel
    own_step : (e : Event) (cs : List Channel) (σ : Linked (seen set m)) (κ : Session) → Rel m t cs σ κ → Inv set κ
        → Inv set (core_step (own e) cs κ) → Rel m t (own_records e κ cs) (ses.step set (seen set m) e σ) (core_step (own e) cs κ)
    unfolding ses.step core.step_with
    own_step (ad_request o lent) cs σ κ R I J = half_plain set vw (seen set m) (sender_of m t) _ σ κ (request_ad o) tt lent R J
    own_step (bd_request o lent) cs σ κ R I J = half_plain set vw (seen set m) (sender_of m t) _ σ κ (request_bd o) tt lent R J
    own_step (ticks lent) cs σ κ R I J = half_plain set vw (seen set m) (sender_of m t) _ σ κ fop.tick tt lent R J
    own_step (lower_says l lent) cs σ κ R I J = half_plain set vw (seen set m) (sender_of m t) _ σ κ (fop.lower l) tt lent R J
    own_step (terminate v lent) cs σ κ R I J = half_plain set vw (seen set m) (sender_of m t) _ σ κ (directive 5 v) (inl refl) lent R J
    own_step (resume v lent) cs σ κ R I J = half_plain set vw (seen set m) (sender_of m t) _ σ κ (directive 6 v) (inr refl) lent R J
    own_step (word_in lent) cs σ κ R I J =
        subst (λ (l : List (List ℕ)). Rel m t cs (ses.word_come set (seen set m) lent l σ) (core.word_come set lent κ.words κ)) (sym R.words)
        (half_word_in set vw (seen set m) (sender_of m t) _ σ κ lent κ.words R J)
    own_step word_lost cs σ κ R I J =
        half_relink set vw (seen set m) (sender_of m t) _ σ κ κ.frames (rest κ.words) σ.frames (rest σ.words) R R.frames
        (ap rest R.words ∙ map_rest (word_octets set.own) κ.words)
    own_step (word_made lent) cs σ κ R I J =
        half_relink set vw (seen set m) (sender_of m t) _ σ κ κ.frames _ σ.frames _ R R.frames
        (rw (R.words, word_is cs σ κ R I lent) (word_enters set vw (leb word_length lent) (core.report κ.farm) κ.words))
    own_step frame_in cs σ κ R I J =
        subst (λ (l : List (List ℕ)). Rel m t (frame_records κ.frames cs) (ses.frame_come set (seen set m) l σ) (core.frame_come set (has_room pool.size cs) κ.frames κ))
        (sym R.frames) (got cs σ κ κ.frames R I I.base.fly)
    own_step frame_lost cs σ κ R I J =
        half_relink set vw (seen set m) (sender_of m t) _ σ κ (rest κ.frames) κ.words (rest σ.frames) σ.words R
        (ap rest R.frames ∙ map_rest (written set.own) κ.frames) R.words
    own_step release cs σ κ R I J =
        gave cs (is_done set vw pool cs) σ κ R (release_known set vw pool cs κ.farm R.receiver.known)
        (ap (λ (b : TableAnswer). b.refusal) (tie_answer (ends.release set.own.channel) cs σ.receiver κ.farm R.receiver)
        ∙ release_answer_lem set vw pool cs κ.farm R.receiver.known)

    -- an event of another channel, where it is one
    other_step : (b : Bool) (e : TableEvent) (count : TableAnswer → Counted → Counted) (cs : List Channel) (τ : Joined set m) (κ : Session) → Rel m t cs τ.linked κ
        → (b ≡ true → Known set vw pool (table_next set pool e cs) κ.farm)
        → Rel m t (pick b (table_next set pool e cs) cs) (another set m b e count τ).linked κ
    other_step true e count cs τ κ R k =
        record {
          good = R.good;
          fop = R.fop;
          receiver = tie_on e cs τ.linked.receiver κ.farm κ.farm R.receiver (k refl);
          frames = R.frames;
          words = R.words;
          history = R.history;
        }
    other_step false e count cs τ κ R k = R

    -- every event
    pub same_step : (e : ChannelEvent) (cs : List Channel) (τ : Joined set m) (κ : Session) → Rel m t cs τ.linked κ → Inv set κ → Inv set (core_step e cs κ)
        → Rel m t (next_records e κ cs) (channel_step set m e τ).linked (core_step e cs κ)
    unfolding channel_step
    same_step (own e) cs τ κ R I J = own_step e cs τ.linked κ R I J
    same_step (other_frame o) cs τ κ R I J =
        other_step (is_other o) (ends.frame o) counting.after_frame cs τ κ R (other_frame_known set vw pool cs κ.farm R.receiver.known o)
    same_step (other_release n) cs τ κ R I J =
        other_step (not (eqb n set.own.channel)) (ends.release n) counting.after_release cs τ κ R
        (λ b. other_release_known set vw pool cs κ.farm R.receiver.known n (λ e. eqb-false n set.own.channel (not-true (eqb n set.own.channel) b) (sym e)))
