-- The session of tied ends, octets and all, is that of the table machines.
use mathlib.Core.Logic.{inl, inr}
use mathlib.Core.Path.{◌≡◌, refl, sym, ap, ◌∙◌, subst}
use mathlib.Core.Bool.{Bool, true, false}
use mathlib.Core.List.{List, [], ◌∷◌, ◌++◌, map, append-nil, map-append}
use mathlib.Core.Option.{some}
use Prim.Native.Nat.{◌-◌, ◌/◌, ℕ, suc, ◌+◌, ◌≤◌, max}
use native.Mathlib.Omega.{arith}
use lib.Dec.{leb}
use lib.ListN.{length}
use Rattle.base.specs.Choice.{pick, must}
use Rattle.fop.specs.Units.{Fdu, Frame, AD, BD, Unlock, SetVR, Refused, Word, legal, written, word_octets}
use Rattle.fop.specs.Variables.{Fop, Work}
use Rattle.fop.specs.Events.{SenderEvent, request_ad, request_bd, directive, word_arrives, work}
use Rattle.fop.specs.Answers.{run_of, octets_down, sender_answer, sender_next, sender_refusal, refused}
use Rattle.fop.specs.Answers as ans
use Rattle.farm.specs.Table.{step_of}
use Rattle.receiver.specs.Channel as channel
use Rattle.receiver.specs.Receiver as farm
use Rattle.receiver.specs.Receiver.{word_of}
use Rattle.farm.specs.declared.Event.TheVariants.{E10}
use Rattle.farm.specs.declared.Variables.{Variables}
use Rattle.receiver.specs.declared.Receiver.{Receiver}
use Rattle.receiver.specs.declared.Received.{Received}
use Rattle.base.specs.declared.Refusal.{Refusal}
use Rattle.std.specs.Prelude as code
use Rattle.std.specs.Prelude.{Result, Ok, Err}
use Rattle.base.specs.declared.Refusal.TheVariants.{Release}
use Rattle.session.specs.Receiver as rcv
use Rattle.session.specs.Receiver.{frame_arrives, release_buffer, ReceiverAnswer, receiver_next, release_answer, receiver_answer, word_length, receiver_word}
use Rattle.session.specs.Frames.{read}
use Rattle.session.specs.Ends.{Settings, Within, Ends, Brought, Tied, tables, start_receiver}
use Rattle.session.specs.Session.{Linked, History, Event, ad_request, bd_request, ticks, lower_says, terminate, resume, word_in, word_lost, word_made, frame_in, frame_lost, release}
use Rattle.session.specs.Session.{begins, to_sender, after_sender, after_frame, after_release, enters, sent_after, sent_bd_after, locks}
use Rattle.session.specs.Session.{add_sent, add_bd, rest}
use Rattle.fop.specs.Events as fop
use Rattle.session.specs.Session as ses
use Rattle.session.specs.Suspension.{admits, rejects}
use Rattle.session.proofs.Core as core
use Rattle.session.proofs.Received.{Readable, receiver_of, received_is, part_is, released_is, answer_by, accepted_is, accepted_bd_is, used_is}
use Rattle.session.proofs.Buffers.{Stock, Stocked, stock_keeps, start_stock}
use Rattle.session.proofs.Core.{add_word, frame_event, star, used, free, is_held, Session, add_all, add_bds, first_of, goes}
use Rattle.session.proofs.Lists.{Numbered}
use Rattle.session.proofs.Chan.{Fly}
use Rattle.session.proofs.Octets.{ad_back, bd_back, told_if, word_told_lem}
use Rattle.session.proofs.Inv.{Inv}
use Rattle.session.proofs.Receiver.{step_keeps, ad_cases, begun}
use Rattle.session.proofs.Next.{history_of}
use Rattle.session.proofs.Few.{work_few}

-- each frame reads back
abbrev pub Reads : List Frame → Type 0
Reads [] = Unit {0}
Reads (x ∷ xs) = Readable x × Reads xs

-- so do the frames under way
pub fly_reads : (n K : ℕ) (s : List Fdu) → Numbered n s → (A H : ℕ) (fs : List Frame) → Fly K s A H fs → Reads fs
fly_reads n K s h A H [] f = tt
fly_reads n K s h A H (AD u ∷ fs) f = (
  (ap (λ (x : Fdu). legal x.octets) f.1 ∙ h.ok f.0 f.2, omega (arith, ap (λ (x : Fdu). x.ns) f.1, h.at f.0 f.2)),
  fly_reads n K s h A (max H (suc f.0)) fs f.5,
)
fly_reads n K s h A H (BD o ∷ fs) f = (f.0, fly_reads n K s h A H fs f.1)
fly_reads n K s h A H (Unlock ∷ fs) f = absurd f
fly_reads n K s h A H (SetVR v ∷ fs) f = absurd f
fly_reads n K s h A H (Refused r ∷ fs) f = absurd f

-- and the last of them
reads_last : (fs gs : List Frame) → Reads (fs ++ gs) → Reads gs
reads_last [] gs h = h
reads_last (x ∷ fs) gs h = reads_last fs gs h.1

-- a frame that is written reads as it was
pub reads : (set : Settings) → Within set → (x : Frame) → Readable x → read set.own (written set.own x) ≡ x
reads set vw (AD u) h = ad_back set.own vw.spacecraft vw.channel u h.0 h.1
reads set vw (BD o) h = bd_back set.own vw.spacecraft vw.channel o h
reads set vw Unlock h = absurd h
reads set vw (SetVR v) h = absurd h
reads set vw (Refused r) h = absurd h

-- an answer's run
run_is : (l : List Fdu) → run_of l ≡ record { number = first_of l; count = length l }
run_is [] = refl
run_is (u ∷ us) = refl

pub map_rest : {A B : Type 0} (f : A → B) (l : List A) → rest (map f l) ≡ map f (rest l)
map_rest f [] = refl
map_rest f (x ∷ l) = refl

-- the frames that an event hands down read back
pub reads_of : (set : Settings) (e : SenderEvent) (lent : ℕ) (κ : Session) → goes set.own e lent κ.fop ≡ true → Inv set (core.sender set e lent κ)
    → Reads (work set.own e κ.fop).frames
unfolding core.sender core.answered
reads_of set e lent κ b J =
    let τ : Session = core.answered set.n (work set.own e κ.fop) κ in
    let K : Inv set (core.answered set.n (work set.own e κ.fop) κ) = rw b at J in
    reads_last κ.frames (work set.own e κ.fop).frames
    (fly_reads set.n _ τ.sent K.base.num (length τ.accepted) (length τ.accepted) τ.frames K.base.fly)

-- what the answer's octets say of Sent, and of the channel
module _ (set : Settings) (vw : Within set) where
  sent_through : (s : List Fdu) (fr : List Frame) → length fr ≤ 1 → Reads fr → sent_after set.own set.n s (octets_down set.own fr) ≡ add_all set.n s fr
  sent_through s [] l h = refl
  sent_through s (x ∷ []) l h = ap (add_sent set.n s) (reads set vw x h.0)
  sent_through s (x ∷ y ∷ fr) l h = absurd (omega arith)

  bd_through : (s : List (List ℕ)) (fr : List Frame) → length fr ≤ 1 → Reads fr → sent_bd_after set.own s (octets_down set.own fr) ≡ add_bds s fr
  bd_through s [] l h = refl
  bd_through s (x ∷ []) l h = ap (add_bd s) (reads set vw x h.0)
  bd_through s (x ∷ y ∷ fr) l h = absurd (omega arith)

  down_through : (fs fr : List Frame) → length fr ≤ 1
      → enters (map (written set.own) fs) (octets_down set.own fr) ≡ map (written set.own) (fs ++ fr)
  down_through fs [] l = ap (map (written set.own)) (sym (append-nil fs))
  down_through fs (x ∷ []) l = sym (map-append (written set.own) fs (x ∷ []))
  down_through fs (x ∷ y ∷ fr) l = absurd (omega arith)

  answer_through : (w : Work) (κ : Session) → length w.frames ≤ 1 → Reads w.frames
      → after_sender set (ans.answered set.own w) (history_of κ) ≡ history_of (core.answered set.n w κ)
  unfolding after_sender core.answered
  answer_through w κ l h =
      rw (run_is w.confirmed, run_is w.denied, sent_through κ.sent w.frames l h, bd_through κ.sent_bd w.frames l h)

  pub refusal_through : (r : ℕ) (f : Fop) (κ : Session) → after_sender set (refused r f) (history_of κ) ≡ history_of κ
  unfolding after_sender
  refusal_through r f κ = rw (append-nil κ.confirmed, append-nil κ.denied)

  pub word_enters : (b : Bool) (w : Word) (ws : List Word)
      → enters (map (word_octets set.own) ws) (told_if b (word_octets set.own w)).word ≡ map (word_octets set.own) (add_word b w ws)
  word_enters true w ws = sym (map-append (word_octets set.own) ws (w ∷ []))
  word_enters false w ws = refl

  -- the receiver's answer to a frame of the session; room: a buffer is free
  abbrev pub answer_to : Bool → Session → Frame → ReceiverAnswer
  answer_to room κ x = answer_by (frame_event set.w room x κ.farm) κ.farm.state x

  -- no frame of the session locks the receiver out
  unlocks : (room : Bool) (κ : Session) (x : Frame) (fs : List Frame) → Inv set κ
      → Fly (set.w / 2) κ.sent (length κ.accepted) (length κ.accepted) (x ∷ fs)
      → locks (some (frame_event set.w room x κ.farm)) ≡ false
  unfolding frame_event
  unlocks room κ (AD u) fs I h = ad_cases set vw κ room u fs I h (λ e. locks (some e) ≡ false) (λ i p. refl) (λ i p. refl) (λ i. refl) (λ i. refl)
  unlocks room κ (BD o) fs I h = refl
  unlocks room κ Unlock fs I h = absurd h
  unlocks room κ (SetVR v) fs I h = absurd h
  unlocks room κ (Refused r) fs I h = absurd h

  -- the histories after the receiver's answer
  pub said : (room : Bool) (κ : Session) (x : Frame) (fs : List Frame) → Inv set κ
      → Fly (set.w / 2) κ.sent (length κ.accepted) (length κ.accepted) (x ∷ fs)
      → after_frame x (answer_to room κ x) (history_of κ) ≡ history_of (core.frame_come set room (x ∷ fs) κ)
  unfolding core.frame_come core.receiver after_frame
  said room κ x fs I h = rw (unlocks room κ x fs I h, accepted_is set vw κ I room x fs h, accepted_bd_is set vw κ I room x)

  -- what `Tied` says of the sender
  pub record SenderTied (m : Ends) : Type 1 where
    pub fop : m.Sender → Fop
    pub Good : m.Sender → Type 0
    pub keeps : (e : SenderEvent) → Brought e → (lent : ℕ) (x : m.Sender) → Good x → Good (m.next e lent x)
    pub next : (e : SenderEvent) → Brought e → (lent : ℕ) (x : m.Sender) → Good x → fop (m.next e lent x) ≡ sender_next set.own e lent (fop x)
    pub answer : (e : SenderEvent) → Brought e → (lent : ℕ) (x : m.Sender) → Good x → m.answer e lent x ≡ sender_answer set.own e lent (fop x)

  -- The sender's half. Of the receiver it has what X says, by FARM-1's variables, the units accepted and the releases done: no event of the sender
  -- changes that.
  module _ (m : Ends) (t : SenderTied m) (X : m.Receiver → Variables → List Fdu → ℕ → Type 0) where
    -- the ends' session, seen as the table machines'
    pub record Half (σ : Linked m) (κ : Session) : Type 0 where
      pub good : t.Good σ.sender
      pub fop : t.fop σ.sender ≡ κ.fop
      pub receiver : X σ.receiver κ.farm κ.accepted κ.released
      pub frames : σ.frames ≡ map (written set.own) κ.frames
      pub words : σ.words ≡ map (word_octets set.own) κ.words
      pub history : σ.history ≡ history_of κ

    -- an event of the sender, with ws the words left; b says whether it goes through
    chosen : (b : Bool) (w : Work) (r : ℕ) (σ : Linked m) (κ : Session) (e : SenderEvent) → Brought e → (lent : ℕ) (ws : List Word) → Half σ κ
        → (b ≡ true → (length w.frames ≤ 1) × Reads w.frames)
        → t.fop (m.next e lent σ.sender) ≡ pick b w.fop κ.fop
        → m.answer e lent σ.sender ≡ pick b (ans.answered set.own w) (refused r κ.fop)
        → Half (to_sender set m e lent (map (word_octets set.own) ws) σ)
        (pick b (core.answered set.n w (core.channels κ.frames ws κ)) (core.channels κ.frames ws κ))
    unfolding to_sender core.channels core.answered
    chosen true w r σ κ e i lent ws R h f a =
        let g = h refl in
        record {
          good = t.keeps e i lent σ.sender R.good;
          fop = f;
          receiver = R.receiver;
          frames = rw (a, R.frames) (down_through κ.frames w.frames g.0);
          words = refl;
          history = rw (a, R.history) (answer_through w κ g.0 g.1);
        }
    chosen false w r σ κ e i lent ws R h f a =
        record {
          good = t.keeps e i lent σ.sender R.good;
          fop = f;
          receiver = R.receiver;
          frames = rw (a, R.frames);
          words = refl;
          history = rw (a, R.history) (refusal_through r κ.fop κ);
        }

    -- an event of the sender
    to_sender_lem : (σ : Linked m) (κ : Session) (e : SenderEvent) → Brought e → (lent : ℕ) (ws : List Word) → Half σ κ
        → Inv set (core.sender set e lent (core.channels κ.frames ws κ))
        → Half (to_sender set m e lent (map (word_octets set.own) ws) σ) (core.sender set e lent (core.channels κ.frames ws κ))
    unfolding core.sender core.channels sender_answer sender_next core.answered
    to_sender_lem σ κ e i lent ws R J =
        chosen (goes set.own e lent κ.fop) (work set.own e κ.fop) (sender_refusal set.own e lent κ.fop) σ κ e i lent ws R
        (λ b. (work_few set.own e κ.fop, reads_of set e lent (core.channels κ.frames ws κ) b J))
        (t.next e i lent σ.sender R.good ∙ ap (λ (f : Fop). sender_next set.own e lent f) R.fop)
        (t.answer e i lent σ.sender R.good ∙ ap (λ (f : Fop). sender_answer set.own e lent f) R.fop)

    -- the oldest word to the sender
    pub half_word_in : (σ : Linked m) (κ : Session) (lent : ℕ) (ws : List Word) → Half σ κ → Inv set (core.word_come set lent ws κ)
        → Half (ses.word_come set m lent (map (word_octets set.own) ws) σ) (core.word_come set lent ws κ)
    unfolding ses.word_come core.word_come
    half_word_in σ κ lent [] R J = R
    half_word_in σ κ lent (w ∷ ws) R J = to_sender_lem σ κ (word_arrives (word_octets set.own w)) tt lent ws R J

    -- an event of the sender that is no word
    pub half_plain : (σ : Linked m) (κ : Session) (e : SenderEvent) → Brought e → (lent : ℕ) → Half σ κ → Inv set (core.sender set e lent κ)
        → Half (to_sender set m e lent σ.words σ) (core.sender set e lent κ)
    unfolding core.channels to_sender core.sender
    half_plain σ κ e i lent R J = rw R.words (to_sender_lem σ κ e i lent κ.words R J)

    -- other channels
    pub half_relink : (σ : Linked m) (κ : Session) (fs : List Frame) (ws : List Word) (fs' ws' : List (List ℕ)) → Half σ κ → fs' ≡ map (written set.own) fs
        → ws' ≡ map (word_octets set.own) ws → Half (ses.channels m fs' ws' σ) (core.channels fs ws κ)
    unfolding core.channels
    half_relink σ κ fs ws fs' ws' R f w =
        record { good = R.good; fop = R.fop; receiver = R.receiver; frames = f; words = w; history = R.history }

  module _ (m : Ends) (t : Tied set m) where
    -- the ends' session, seen as the table machines'
    pub record Rel (σ : Linked m) (κ : Session) : Type 0 where
      pub good : t.Good σ.sender
      pub good_receiver : t.GoodReceiver σ.receiver
      pub fop : t.fop σ.sender ≡ κ.fop
      pub farm : t.farm σ.receiver ≡ receiver_of set (used κ) κ.farm
      pub stock : Stocked set κ
      pub frames : σ.frames ≡ map (written set.own) κ.frames
      pub words : σ.words ≡ map (word_octets set.own) κ.words
      pub history : σ.history ≡ history_of κ

    -- the sender's half of it
    abbrev sender : SenderTied m
    sender = record { fop = t.fop; Good = t.Good; keeps = t.keeps; next = t.next; answer = t.answer }

    abbrev Known : m.Receiver → Variables → List Fdu → ℕ → Type 0
    Known r v a k = t.GoodReceiver r × (t.farm r ≡ receiver_of set (length a - k) v) × Stock set (length a) k v.state

    halved : (σ : Linked m) (κ : Session) → Rel σ κ → Half m sender Known σ κ
    halved σ κ R =
        record {
          good = R.good;
          fop = R.fop;
          receiver = (R.good_receiver, R.farm, R.stock);
          frames = R.frames;
          words = R.words;
          history = R.history;
        }

    whole : (σ : Linked m) (κ : Session) → Half m sender Known σ κ → Rel σ κ
    whole σ κ H =
        record {
          good = H.good;
          good_receiver = H.receiver.0;
          fop = H.fop;
          farm = H.receiver.1;
          stock = H.receiver.2;
          frames = H.frames;
          words = H.words;
          history = H.history;
        }

    -- the start
    pub at_start_lem : Rel (begins m) (begun set)
    unfolding begins start_receiver
    at_start_lem =
        record {
          good = t.good;
          good_receiver = t.good_receiver;
          fop = t.start;
          farm = t.start_receiver;
          stock = start_stock set;
          frames = refl;
          words = refl;
          history = refl;
        }

    -- the oldest word to the sender
    pub word_in_lem : (σ : Linked m) (κ : Session) (lent : ℕ) (ws : List Word) → Rel σ κ → Inv set (core.word_come set lent ws κ)
        → Rel (ses.word_come set m lent (map (word_octets set.own) ws) σ) (core.word_come set lent ws κ)
    word_in_lem σ κ lent ws R J = whole _ _ (half_word_in m sender Known σ κ lent ws (halved σ κ R) J)

    -- the receiver's answer to a frame under way
    pub answer_to_lem : (σ : Linked m) (κ : Session) (x : Frame) → Rel σ κ → Readable x
        → m.answer_receiver (frame_arrives (written set.own x)) σ.receiver ≡ answer_to (free set κ) κ x
    unfolding receiver_answer farm.answered channel.answered
    answer_to_lem σ κ x R rx =
        t.answer_receiver (frame_arrives (written set.own x)) σ.receiver R.good_receiver
        ∙ ap (λ (g : Receiver). receiver_answer (frame_arrives (written set.own x)) g) R.farm
        ∙ rw (received_is set vw (used κ) κ.farm x rx, part_is set vw (used κ) κ.farm x rx)

    -- a frame arrives
    arrives : (σ : Linked m) (κ : Session) (x : Frame) (fs : List Frame) → Rel σ κ → Inv set κ
        → Fly (set.w / 2) κ.sent (length κ.accepted) (length κ.accepted) (x ∷ fs)
        → Readable x → Stocked set (core.frame_come set (free set κ) (x ∷ fs) κ)
        → Rel (ses.frame_come set m (map (written set.own) (x ∷ fs)) σ) (core.frame_come set (free set κ) (x ∷ fs) κ)
    unfolding ses.frame_come core.frame_come core.receiver receiver_next farm.answered channel.answered
    arrives σ κ x fs R I h rx S =
        let rd : read set.own (written set.own x) ≡ x = reads set vw x rx in
        let got = received_is set vw (used κ) κ.farm x rx in
        let b : m.answer_receiver (frame_arrives (written set.own x)) σ.receiver ≡ answer_to (free set κ) κ x = answer_to_lem σ κ x R rx in
        record {
          good = R.good;
          good_receiver = t.keeps_receiver (frame_arrives (written set.own x)) σ.receiver R.good_receiver;
          fop = R.fop;
          farm = t.next_receiver (frame_arrives (written set.own x)) σ.receiver R.good_receiver
              ∙ ap (λ (g : Receiver). receiver_next (frame_arrives (written set.own x)) g) R.farm
              ∙ ap (λ (y : Received). y.next) got
              ∙ ap (λ (k : ℕ). receiver_of set k (step_of (frame_event set.w (free set κ) x κ.farm) (star x) κ.farm))
              (used_is set vw κ I R.stock.below x fs h);
          stock = S;
          frames = refl;
          words = R.words;
          history = ap (λ (y : Frame). after_frame y (m.answer_receiver (frame_arrives (written set.own x)) σ.receiver) σ.history) rd
              ∙ ap (λ (b : ReceiverAnswer). after_frame x b σ.history) b ∙ ap (λ (h : History). after_frame x (answer_to (free set κ) κ x) h) R.history
              ∙ said (free set κ) κ x fs I h;
        }

    -- the oldest frame to the receiver
    pub got : (σ : Linked m) (κ : Session) (fs : List Frame) → Rel σ κ → Inv set κ → Fly (set.w / 2) κ.sent (length κ.accepted) (length κ.accepted) fs
        → Stocked set (core.frame_come set (free set κ) fs κ)
        → Rel (ses.frame_come set m (map (written set.own) fs) σ) (core.frame_come set (free set κ) fs κ)
    unfolding ses.frame_come core.frame_come
    got σ κ [] R I h S = R
    got σ κ (x ∷ fs) R I h S =
        arrives σ κ x fs R I h (fly_reads set.n _ κ.sent I.base.num _ _ (x ∷ fs) h).0 S

    -- a release; b says whether a buffer is taken
    gave : (b : Bool) (σ : Linked m) (κ : Session) → Rel σ κ → Stocked set (core.releases b κ)
        → t.farm (m.next_receiver release_buffer σ.receiver) ≡ rcv.after_release
        (must b (Err Release) (Ok (farm.answered code.None E10 0 (receiver_of set (used κ - 1) κ.farm)))) (receiver_of set (used κ) κ.farm)
        → m.answer_receiver release_buffer σ.receiver ≡ release_answer
        (must b (Err Release) (Ok (farm.answered code.None E10 0 (receiver_of set (used κ - 1) κ.farm))))
        → Rel (ses.releases m σ) (core.releases b κ)
    unfolding ses.releases core.releases core.receiver after_release farm.answered channel.answered
    gave true σ κ R S f a =
        let z : used κ - 1 + 0 ≡ length κ.accepted - (κ.released + 1) = omega arith in
        record {
          good = R.good;
          good_receiver = t.keeps_receiver release_buffer σ.receiver R.good_receiver;
          fop = R.fop;
          farm = f ∙ ap (λ (k : ℕ). receiver_of set k (step_of E10 0 κ.farm)) z;
          stock = S;
          frames = R.frames;
          words = R.words;
          history = rw (a, R.history);
        }
    gave false σ κ R S f a =
        record {
          good = R.good;
          good_receiver = t.keeps_receiver release_buffer σ.receiver R.good_receiver;
          fop = R.fop;
          farm = f;
          stock = S;
          frames = R.frames;
          words = R.words;
          history = rw (a, R.history);
        }

    -- an event of the sender that is no word
    pub plain : (σ : Linked m) (κ : Session) (e : SenderEvent) → Brought e → (lent : ℕ) → Rel σ κ → Inv set (core.sender set e lent κ)
        → Rel (to_sender set m e lent σ.words σ) (core.sender set e lent κ)
    plain σ κ e i lent R J = whole _ _ (half_plain m sender Known σ κ e i lent (halved σ κ R) J)

    -- other channels
    pub relink : (σ : Linked m) (κ : Session) (fs : List Frame) (ws : List Word) (fs' ws' : List (List ℕ)) → Rel σ κ → fs' ≡ map (written set.own) fs
        → ws' ≡ map (word_octets set.own) ws → Rel (ses.channels m fs' ws' σ) (core.channels fs ws κ)
    unfolding core.channels
    relink σ κ fs ws fs' ws' R f w =
        record { good = R.good; good_receiver = R.good_receiver; fop = R.fop; farm = R.farm; stock = R.stock; frames = f; words = w; history = R.history }

    -- the receiver's control word: its channel and counter are within their limits
    pub word_is : (σ : Linked m) (κ : Session) → Rel σ κ → Inv set κ → (lent : ℕ)
        → m.word lent σ.receiver ≡ told_if (leb word_length lent) (word_octets set.own (core.report κ.farm))
    unfolding receiver_word core.report word_octets word_of
    word_is σ κ R I lent =
        t.word lent σ.receiver R.good_receiver ∙ ap (receiver_word lent) R.farm
        ∙ word_told_lem (word_of (receiver_of set (used κ) κ.farm)) lent vw.channel (omega (arith, I.receiver.counted))

    -- every event
    pub same_step : (e : Event) (σ : Linked m) (κ : Session) → admits (rejects e) κ.fop ≡ true → Rel σ κ → Inv set κ
        → Rel (ses.step set m e σ) (core.step set e κ)
    unfolding ses.step core.step core.step_with receiver_next receiver_answer
    same_step (ad_request o lent) σ κ a R I = plain σ κ (request_ad o) tt lent R (step_keeps set vw (ad_request o lent) κ a I)
    same_step (bd_request o lent) σ κ a R I = plain σ κ (request_bd o) tt lent R (step_keeps set vw (bd_request o lent) κ a I)
    same_step (ticks lent) σ κ a R I = plain σ κ fop.tick tt lent R (step_keeps set vw (ticks lent) κ a I)
    same_step (lower_says l lent) σ κ a R I = plain σ κ (fop.lower l) tt lent R (step_keeps set vw (lower_says l lent) κ a I)
    same_step (terminate v lent) σ κ a R I = plain σ κ (directive 5 v) (inl refl) lent R (step_keeps set vw (terminate v lent) κ a I)
    same_step (resume v lent) σ κ a R I = plain σ κ (directive 6 v) (inr refl) lent R (step_keeps set vw (resume v lent) κ a I)
    same_step (word_in lent) σ κ a R I =
        subst (λ (l : List (List ℕ)). Rel (ses.word_come set m lent l σ) (core.word_come set lent κ.words κ)) (sym R.words)
        (word_in_lem σ κ lent κ.words R (step_keeps set vw (word_in lent) κ a I))
    same_step word_lost σ κ a R I =
        relink σ κ κ.frames (rest κ.words) σ.frames (rest σ.words) R R.frames (ap rest R.words ∙ map_rest (word_octets set.own) κ.words)
    same_step (word_made lent) σ κ a R I =
        relink σ κ κ.frames _ σ.frames _ R R.frames
        (rw (R.words, word_is σ κ R I lent) (word_enters (leb word_length lent) (core.report κ.farm) κ.words))
    same_step frame_in σ κ a R I =
        subst (λ (l : List (List ℕ)). Rel (ses.frame_come set m l σ) (core.frame_come set (free set κ) κ.frames κ)) (sym R.frames)
        (got σ κ κ.frames R I I.base.fly (stock_keeps set vw frame_in κ I R.stock))
    same_step frame_lost σ κ a R I =
        relink σ κ (rest κ.frames) κ.words (rest σ.frames) σ.words R (ap rest R.frames ∙ map_rest (written set.own) κ.frames) R.words
    same_step release σ κ a R I =
        gave (is_held κ) σ κ R (stock_keeps set vw release κ I R.stock)
        (t.next_receiver release_buffer σ.receiver R.good_receiver ∙ ap (λ (f : Receiver). receiver_next release_buffer f) R.farm
        ∙ ap (λ (y : Result Received Refusal). rcv.after_release y (receiver_of set (used κ) κ.farm)) (released_is set vw (used κ) κ.farm))
        (t.answer_receiver release_buffer σ.receiver R.good_receiver ∙ ap (λ (f : Receiver). receiver_answer release_buffer f) R.farm
        ∙ ap release_answer (released_is set vw (used κ) κ.farm))

-- the table machines are ends of this kind
abbrev pub tables_tied : (set : Settings) → Tied set (tables set)
tables_tied set =
    record {
      fop = λ f. f;
      farm = λ f. f;
      Good = λ f. Unit {0};
      GoodReceiver = λ f. Unit {0};
      good = tt;
      good_receiver = tt;
      keeps = λ e i lent x g. tt;
      keeps_receiver = λ e x g. tt;
      start = refl;
      start_receiver = refl;
      next = λ e i lent x g. refl;
      answer = λ e i lent x g. refl;
      next_receiver = λ e x g. refl;
      answer_receiver = λ e x g. refl;
      word = λ lent x g. refl;
    }
