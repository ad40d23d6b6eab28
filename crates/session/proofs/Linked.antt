-- The session of tied ends over channels that repeat and noise, octets and all, is Core's over the same events (Channels); and what holds of
-- Core's session after every list of them holds of both.
use mathlib.Core.Path.{◌≡◌, refl, sym, ap, ◌∙◌, subst}
use mathlib.Core.Bool.{Bool, true, false, ◌&&◌}
use mathlib.Core.List.{List, [], ◌∷◌, ◌++◌, map, map-append}
use mathlib.Core.Option.{none, some}
use Prim.Native.Nat.{ℕ, ◌/◌, ◌≤◌}
use lib.ListN.{get_or}
use Rattle.base.specs.Choice.{pick}
use Rattle.fop.specs.Units.{Fdu, Frame, AD, BD, Unlock, SetVR, Refused, WordReceived, valid, invalid, other, written, word_octets, read_word}
use Rattle.fop.specs.Variables.{Fop}
use Rattle.fop.specs.Events.{word_arrives}
use Rattle.receiver.specs.declared.Receiver.{Receiver}
use Rattle.session.specs.Frames.{read}
use Rattle.session.specs.Receiver.{frame_arrives, ReceiverAnswer, receiver_next, receiver_answer}
use Rattle.session.specs.Ends.{Settings, Within, Ends, Tied, tables}
use Rattle.session.specs.Session.{Event, Linked, History, frame_in, begins, enters, after_frame, no_unit, run}
use Rattle.session.specs.Session as ses
use Rattle.session.specs.Channels.{LinkEvent, demanded, frame_stays, word_stays, frame_filled, frame_again, noise, word_noise, is_ad, is_refused, is_refused_word, stays, is_fill, with_fill, arriving, is_kept}
use Rattle.session.specs.Channels as spec
use Rattle.session.specs.Suspension.{admits, rejects, link_rejects, unrejected, link_unrejected}
use Rattle.fop.proofs.Choices.{and_both}
use Rattle.session.proofs.Core as core
use Rattle.session.proofs.Core.{Session, used, free}
use Rattle.session.proofs.Received.{receiver_of}
use Rattle.session.proofs.Inv.{Inv}
use Rattle.session.proofs.Receiver.{begun, start_inv}
use Rattle.session.proofs.Next.{history_of}
use Rattle.session.proofs.Link.{Rel, Reads, reads, fly_reads, word_in_lem, got, relink, plain, same_step, at_start_lem, tables_tied}
use Rattle.session.proofs.Channels.{stays_ad, add_again, stays_under_way, link_step, link_keeps}
use Rattle.session.proofs.Buffers.{frame_stock}
use Rattle.session.proofs.Filled.{filled_in}
use Rattle.base.specs.Refusals.{refusal_number}
use Rattle.session.proofs.Noise.{refused_reading, discarded, frame_next_lem, frame_answer_lem, refuses}

-- the channels as octets and as they are read
map_stays : {A B : Type 0} (f : A → B) (l : List A) → stays (map f l) ≡ map f (stays l)
map_stays f [] = refl
map_stays f (x ∷ l) = refl

map_chosen : {A B : Type 0} (f : A → B) (b : Bool) (l : List A) → pick b (map f l) [] ≡ map f (pick b l [])
map_chosen f true l = refl
map_chosen f false l = refl

-- an answer of E9 leaves the histories as they were
pub history_kept : (κ : Session) (n : ℕ) (x : Frame) → after_frame x (discarded n) (history_of κ) ≡ history_of κ
unfolding after_frame
history_kept κ n (AD u) = refl
history_kept κ n (BD o) = refl
history_kept κ n Unlock = refl
history_kept κ n (SetVR v) = refl
history_kept κ n (Refused r) = refl

module _ (set : Settings) (vw : Within set) where
  map_stays_ad : (l : List Frame) → Reads l → spec.stays_ad set.own (map (written set.own) l) ≡ map (written set.own) (stays_ad l)
  map_stays_ad [] h = refl
  map_stays_ad (x ∷ fs) h =
      ap (λ (y : Frame). pick (is_ad y) (stays (map (written set.own) (x ∷ fs))) []) (reads set vw x h.0)
      ∙ map_chosen (written set.own) (is_ad x) (stays (x ∷ fs))

  reads_stay : (l : List Frame) → Reads l → Reads (stays_ad l)
  reads_stay [] h = tt
  reads_stay (AD u ∷ fs) h = (h.0, h)
  reads_stay (BD o ∷ fs) h = tt
  reads_stay (Unlock ∷ fs) h = tt
  reads_stay (SetVR v ∷ fs) h = tt
  reads_stay (Refused r ∷ fs) h = tt

  map_again : (b : Bool) (u : Fdu) (fs : List Frame)
      → enters (map (written set.own) fs) (pick b (some (written set.own (AD u))) none) ≡ map (written set.own) (pick b (fs ++ (AD u ∷ [])) fs)
  map_again true u fs = sym (map-append (written set.own) fs (AD u ∷ []))
  map_again false u fs = refl

  module _ (m : Ends) (t : Tied set m) where
    -- octets that the frame reader refuses
    noise_in : (σ : Linked m) (κ : Session) (o : List ℕ) (fs : List (List ℕ)) → Rel set vw m t σ κ → fs ≡ σ.frames → is_refused (read set.own o) ≡ true
        → Rel set vw m t (ses.frame_come set m (o ∷ fs) σ) κ
    unfolding ses.frame_come
    noise_in σ κ o fs R e h =
        let n = refused_reading set.own o h in
        let r : Receiver = receiver_of set (used κ) κ.farm in
        let a : m.answer_receiver (frame_arrives o) σ.receiver ≡ discarded (refusal_number n.0) =
        t.answer_receiver (frame_arrives o) σ.receiver R.good_receiver ∙ ap (receiver_answer (frame_arrives o)) R.farm ∙ frame_answer_lem r o n.0 n.1 in
        record {
          good = R.good;
          good_receiver = t.keeps_receiver (frame_arrives o) σ.receiver R.good_receiver;
          fop = R.fop;
          farm = t.next_receiver (frame_arrives o) σ.receiver R.good_receiver ∙ ap (receiver_next (frame_arrives o)) R.farm
              ∙ frame_next_lem r o n.0 n.1;
          stock = R.stock;
          frames = e ∙ R.frames;
          words = R.words;
          history = ap (λ (b : ReceiverAnswer). after_frame (read set.own o) b σ.history) a
              ∙ ap (λ (x : History). after_frame (read set.own o) (discarded (refusal_number n.0)) x) R.history
              ∙ history_kept κ (refusal_number n.0) (read set.own o);
        }

    -- octets refused as a control word
    word_noise_in : (σ : Linked m) (κ : Session) (o : List ℕ) (lent r : ℕ) (ws : List (List ℕ)) → Rel set vw m t σ κ → Inv set κ → ws ≡ σ.words
        → read_word set.own o ≡ other r → Rel set vw m t (ses.word_come set m lent (o ∷ ws) σ) κ
    unfolding ses.word_come core.sender
    word_noise_in σ κ o lent r ws R I e q =
        let same : core.sender set (word_arrives o) lent κ ≡ κ = rw (refuses set.own o r q lent κ.fop) in
        rw e (subst (Rel set vw m t _) same (plain set vw m t σ κ (word_arrives o) tt lent R (subst (Inv set) (sym same) I)))

    noise_arrives : (b : Bool) (σ : Linked m) (κ : Session) (o : List ℕ) → Rel set vw m t σ κ → is_refused (read set.own o) ≡ b
        → Rel set vw m t (ses.frame_come set m (arriving b o σ.frames) σ) κ
    unfolding ses.frame_come
    noise_arrives true σ κ o R h = noise_in σ κ o σ.frames R refl h
    noise_arrives false σ κ o R h = R

    pub word_noise_arrives : (x : WordReceived) (σ : Linked m) (κ : Session) (o : List ℕ) (lent : ℕ) → Rel set vw m t σ κ → Inv set κ → read_word set.own o ≡ x
        → Rel set vw m t (ses.word_come set m lent (arriving (is_refused_word x) o σ.words) σ) κ
    unfolding ses.word_come
    word_noise_arrives (valid w) σ κ o lent R I q = R
    word_noise_arrives invalid σ κ o lent R I q = R
    word_noise_arrives (other r) σ κ o lent R I q = word_noise_in σ κ o lent r σ.words R I refl q

    module _ (kept : ℕ) (most : kept ≤ set.w / 2) where
      -- every event
      pub same_link : (e : LinkEvent) (σ : Linked m) (κ : Session) → admits (link_rejects e) κ.fop ≡ true → Rel set vw m t σ κ → Inv set κ
          → Rel set vw m t (spec.link_step set kept m e σ) (link_step set kept e κ)
      unfolding spec.link_step link_step ses.step
      same_link (demanded e) σ κ a R I = same_step set vw m t e σ κ a R I
      same_link (frame_stays fill) σ κ a R I =
          let all : Reads κ.frames = fly_reads set.n _ κ.sent I.base.num _ _ κ.frames I.base.fly in
          let l = ap (spec.stays_ad set.own) R.frames ∙ map_stays_ad κ.frames all in
          let τ = core.frame_come set (free set κ) (stays_ad κ.frames) κ in
          subst (λ (fs : List (List ℕ)). Rel set vw m t (ses.frame_come set m (with_fill fill fs) σ) (pick (is_fill fill) τ κ)) (sym l)
          (filled_in set vw m t σ κ τ fill (stays_ad κ.frames) (reads_stay κ.frames all) R
          (got set vw m t σ κ (stays_ad κ.frames) R I (stays_under_way set vw κ I)
          (frame_stock set vw κ (stays_ad κ.frames) I (stays_under_way set vw κ I) R.stock)))
      same_link (word_stays lent) σ κ a R I =
          let l = ap stays R.words ∙ map_stays (word_octets set.own) κ.words in
          subst (λ (ws : List (List ℕ)). Rel set vw m t (ses.word_come set m lent ws σ) (core.word_come set lent (stays κ.words) κ)) (sym l)
          (word_in_lem set vw m t σ κ lent (stays κ.words) R (link_keeps set vw kept most (word_stays lent) κ a I))
      same_link (frame_filled fill) σ κ a R I =
          let rd : Reads κ.frames = fly_reads set.n _ κ.sent I.base.num _ _ κ.frames I.base.fly in
          let S = subst (λ (fs : List (List ℕ)). Rel set vw m t (ses.frame_come set m fs σ) (core.step set frame_in κ)) R.frames
          (same_step set vw m t frame_in σ κ a R I) in
          subst (λ (fs : List (List ℕ)). Rel set vw m t (ses.frame_come set m (with_fill fill fs) σ) (pick (is_fill fill) (core.step set frame_in κ) κ)) (sym R.frames)
          (filled_in set vw m t σ κ (core.step set frame_in κ) fill κ.frames rd R S)
      same_link (frame_again i) σ κ a R I =
          relink set vw m t σ κ (add_again kept κ.sent i κ.frames) κ.words _ σ.words R
          (rw (R.frames, R.history) (map_again (is_kept kept κ.sent i) (get_or κ.sent i no_unit) κ.frames)) R.words
      same_link (noise o) σ κ a R I = noise_arrives (is_refused (read set.own o)) σ κ o R refl
      same_link (word_noise o lent) σ κ a R I = word_noise_arrives (read_word set.own o) σ κ o lent R I refl

-- the two sessions after a list of events, both seen as one, with whatever X else every event keeps
module _ (set : Settings) (vw : Within set) (m : Ends) (t : Tied set m) (kept : ℕ) (most : kept ≤ set.w / 2) where
  -- the ends' session, the tables' and Core's are one
  pub record Same (X : Session → Type 0) (σ : Linked m) (γ : Linked (tables set)) : Type 0 where
    pub session : Session
    pub ends : Rel set vw m t σ session
    pub of_tables : Rel set vw (tables set) (tables_tied set) γ session
    pub inv : Inv set session
    pub also : X session

  -- what every event keeps that is admitted
  abbrev pub Keeping : (Session → Type 0) → Type 0
  Keeping X = (e : LinkEvent) (κ : Session) → admits (link_rejects e) κ.fop ≡ true → Inv set κ → X κ → X (link_step set kept e κ)

  pub same_run : (X : Session → Type 0) → Keeping X → (es : List LinkEvent) (σ : Linked m) (γ : Linked (tables set))
      → link_unrejected set kept es γ ≡ true → Same X σ γ
      → Same X (spec.link_run set kept m es σ) (spec.link_run set kept (tables set) es γ)
  unfolding spec.link_run link_unrejected
  same_run X keeps [] σ γ u s = s
  same_run X keeps (e ∷ es) σ γ u s =
      let b = and_both (admits (link_rejects e) γ.sender) _ u in
      let a : admits (link_rejects e) s.session.fop ≡ true = subst (λ (f : Fop). admits (link_rejects e) f ≡ true) s.of_tables.fop b.0 in
      same_run X keeps es (spec.link_step set kept m e σ) (spec.link_step set kept (tables set) e γ) b.1 (record {
        session = link_step set kept e s.session;
        ends = same_link set vw m t kept most e σ s.session a s.ends s.inv;
        of_tables = same_link set vw (tables set) (tables_tied set) kept most e γ s.session a s.of_tables s.inv;
        inv = link_keeps set vw kept most e s.session a s.inv;
        also = keeps e s.session a s.inv s.also;
      })

  -- and so from the start
  pub from_start : (X : Session → Type 0) → Keeping X → X (begun set) → (es : List LinkEvent) → link_unrejected set kept es (begins (tables set)) ≡ true
      → Same X (spec.link_run set kept m es (begins m)) (spec.link_run set kept (tables set) es (begins (tables set)))
  from_start X keeps x es u =
      same_run X keeps es (begins m) (begins (tables set)) u (record {
        session = begun set;
        ends = at_start_lem set vw m t;
        of_tables = at_start_lem set vw (tables set) (tables_tied set);
        inv = start_inv set vw;
        also = x;
      })

-- a list of demand 3's events alone
pub run_demanded : (set : Settings) (kept : ℕ) (m : Ends) (es : List Event) (σ : Linked m) → spec.link_run set kept m (map demanded es) σ ≡ run set m es σ
unfolding spec.link_run spec.link_step run
run_demanded set kept m [] σ = refl
run_demanded set kept m (e ∷ es) σ = run_demanded set kept m es (ses.step set m e σ)

-- in which no lower-layer reject comes while suspended
pub unrejected_demanded : (set : Settings) (kept : ℕ) (es : List Event) (γ : Linked (tables set)) → link_unrejected set kept (map demanded es) γ ≡ unrejected set es γ
unfolding link_unrejected unrejected spec.link_step
unrejected_demanded set kept [] γ = refl
unrejected_demanded set kept (e ∷ es) γ =
    ap (λ (b : Bool). admits (rejects e) γ.sender && b) (unrejected_demanded set kept es (ses.step set (tables set) e γ))

-- so what holds over all events, holds over demand 3's
pub as_demanded : (set : Settings) (m : Ends) (P : Linked m → Linked (tables set) → Type 0) (es : List Event)
    → P (spec.link_run set 0 m (map demanded es) (begins m)) (spec.link_run set 0 (tables set) (map demanded es) (begins (tables set)))
    → P (run set m es (begins m)) (run set (tables set) es (begins (tables set)))
as_demanded set m P es h =
    subst (P (run set m es (begins m))) (run_demanded set 0 (tables set) es (begins (tables set)))
    (subst (λ σ. P σ (spec.link_run set 0 (tables set) (map demanded es) (begins (tables set)))) (run_demanded set 0 m es (begins m)) h)
