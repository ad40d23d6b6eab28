-- The receiver's events, and the channels', keep the session's invariant, whether or not a buffer is free.
use mathlib.Core.Logic.{◌≢◌}
use mathlib.Core.Path.{◌≡◌, refl, ap, ◌∙◌}
use mathlib.Core.Bool.{Bool, true, false}
use mathlib.Core.List.{List, [], ◌∷◌, ◌++◌}
use Prim.Native.Nat.{ℕ, suc, ◌+◌, ◌-◌, ◌/◌, ◌%◌, ◌≤◌, ◌<◌, max}
use native.Mathlib.Omega.{arith}
use lib.Dec.{leb, ltb, eqb}
use lib.ListN.{length, get_or, length-append}
use lib.Seq.{take-suc}
use borrow.Author.Tests.{ltb-true, ltb-false, eqb-true, eqb-false, ne_eqb, le-ltb, le-leb, lt-ltb}
use Rattle.base.specs.Choice.{pick, both}
use Rattle.base.specs.Modulo.{advanced, offset}
use Rattle.base.proofs.Modulo.{offset_advanced, offset_back}
use Rattle.fop.specs.Units.{Fdu, Frame, AD, BD, Unlock, SetVR, Refused, Word}
use Rattle.farm.specs.Table.{table, perform, perform_all, step_of, accepts, unit_of}
use Rattle.farm.specs.Window.{not_wait, ad_event}
use Rattle.farm.specs.declared.State.{State as FarmState}
use Rattle.farm.specs.declared.State.TheVariants.{Open, Wait, Lockout}
use Rattle.farm.specs.declared.Event.{Event as FarmEvent}
use Rattle.farm.specs.declared.Event.TheVariants.{E1, E2, E3, E4, E5, E6, E10}
use Rattle.farm.specs.declared.Variables.{Variables}
use Rattle.session.specs.Receiver.{word_length}
use Rattle.session.specs.Ends.{Settings, Within, start_sender, start_receiver}
use Rattle.session.specs.Session.{no_unit, rest, Event, ad_request, bd_request, ticks, lower_says, terminate, resume, word_in, word_lost, word_made, frame_in, frame_lost, release}
use Rattle.session.specs.Stronger.{Sub, none_left}
use Rattle.session.specs.Suspension.{admits, rejects}
use Rattle.fop.proofs.Choices.{by_pick, never}
use Rattle.session.proofs.Core.{Session, channels, receiver, frame_come, frame_event, is_handed, releases, taken, taken_bd, report, step_with, step, free}
use Rattle.session.proofs.Core.{is_held}
use Rattle.session.proofs.Lists.{numbered_nil}
use Rattle.session.proofs.Chan.{Fly, fly_mono, Wds, wds_lower, wds_higher, wds_add}
use Rattle.session.proofs.Values.{refly}
use Rattle.session.proofs.Bds.{bds_of, bd_lost, bd_accepted}
use Rattle.session.proofs.Inv.{Inv, Rcv, is_locked, words_are, ad_keeps, bd_keeps, lower_keeps, ticks_keeps, terminate_keeps, resume_keeps, word_keeps}

-- a receiver that accepted no AD unit, with fs the frames left
unchanged : (set : Settings) (σ : Session) (v : Variables) (b : List (List ℕ)) (fs : List Frame) (r : ℕ) → Inv set σ
    → Fly (set.w / 2) σ.sent (length σ.accepted) (length σ.accepted) fs → Sub (b ++ bds_of fs) σ.sent_bd
    → Rcv set v (length σ.accepted) (length b)
    → Inv set (receiver v σ.accepted b r fs σ)
unfolding receiver
unchanged set σ v b fs r I f s h =
    record { base = refly I.base f; side = I.side; suspension = I.suspension; is_set = I.is_set; waiting = I.waiting; places = I.places; words = I.words; receiver = h; bd = s }

-- one that accepted the expected unit
accepted : (set : Settings) (σ : Session) (v : Variables) (u : Fdu) (fs : List Frame) → Inv set σ
    → u ≡ get_or σ.sent (length σ.accepted) no_unit → length σ.accepted < length σ.sent
    → Fly (set.w / 2) σ.sent (length σ.accepted) (suc (length σ.accepted)) fs → Sub (σ.accepted_bd ++ bds_of fs) σ.sent_bd
    → Rcv set v (suc (length σ.accepted)) (length σ.accepted_bd)
    → Inv set (receiver v (σ.accepted ++ (u ∷ [])) σ.accepted_bd σ.released fs σ)
unfolding receiver
accepted set σ v u fs I eu b f s h =
    let la : length (σ.accepted ++ (u ∷ [])) ≡ suc (length σ.accepted) = length-append σ.accepted (u ∷ []) ∙ omega arith in
    record {
      base = record {
        num = I.base.num;
        order = rw (la, take-suc σ.sent (length σ.accepted) no_unit b, ← eu, ← I.base.order);
        behind = omega arith;
        truly = omega arith;
        room = I.base.room;
        fits = I.base.fits;
        small = I.base.small;
        fly = fly_mono (set.w / 2) σ.sent _ _ _ _ fs (omega arith) (omega arith) f;
      };
      side = I.side;
      suspension = I.suspension;
      is_set = I.is_set;
      waiting = I.waiting;
      places = I.places;
      words = wds_higher set.n _ _ _ σ.words (omega arith) I.words;
      receiver = rw la h;
      bd = s;
    }

-- a frame that is discarded, or lost
pub tail_fly : (K : ℕ) (s : List Fdu) (A : ℕ) (f : Frame) (fs : List Frame) → Fly K s A A (f ∷ fs) → Fly K s A A fs
tail_fly K s A (AD u) fs h = fly_mono K s A A A (max A (suc h.0)) fs (omega arith) (omega arith) h.5
tail_fly K s A (BD o) fs h = h.1
tail_fly K s A Unlock fs h = absurd h
tail_fly K s A (SetVR v) fs h = absurd h
tail_fly K s A (Refused r) fs h = absurd h

-- the variables in a state
abbrev pub at : FarmState → Variables → Variables
at s v = record { state = s; vr = v.vr; lockout = v.lockout; wait = v.wait; retransmit = v.retransmit; counter = v.counter }

-- the receiver's part with another state, other flags and counter
rcv_with : {set : Settings} {v : Variables} {A D : ℕ} → Rcv set v A D → (s : FarmState) (l w r : Bool) (c E : ℕ) → l ≡ false → is_locked s ≡ false
    → c ≡ (set.counter + E) % 4
    → Rcv set (record { state = s; vr = v.vr; lockout = l; wait = w; retransmit = r; counter = c }) A E
rcv_with h s l w r c E e u k = record { is_vr = h.is_vr; unlocked = u; no_lock = e; counted = k }

module _ (set : Settings) (σ : Session) (u : Fdu) (fs : List Frame) (I : Inv set σ) where
  abbrev R : FarmEvent → FarmState → Type 0
  R e s =
      Inv set (receiver (step_of e 0 (at s σ.farm)) (taken (AD u) (is_handed (unit_of e s)) σ.accepted) σ.accepted_bd σ.released fs σ)

  module _ (fl : Fly (set.w / 2) σ.sent (length σ.accepted) (length σ.accepted) fs) (sb : Sub (σ.accepted_bd ++ bds_of fs) σ.sent_bd) where
    stays : (v : Variables) → Rcv set v (length σ.accepted) (length σ.accepted_bd)
        → Inv set (receiver v σ.accepted σ.accepted_bd σ.released fs σ)
    stays v h = unchanged set σ v σ.accepted_bd fs σ.released I fl sb h

    takes : u ≡ get_or σ.sent (length σ.accepted) no_unit → length σ.accepted < length σ.sent
        → Fly (set.w / 2) σ.sent (length σ.accepted) (suc (length σ.accepted)) fs
        → (s : FarmState) → is_locked s ≡ false → R E1 s
    unfolding table step_of perform_all perform accepts
    takes e b f Open l =
        accepted set σ _ u fs I e b f sb
        (record { is_vr = omega (arith, I.receiver.is_vr); unlocked = refl; no_lock = I.receiver.no_lock; counted = I.receiver.counted })
    takes e b f Wait l = stays _ (rcv_with I.receiver Wait _ _ _ _ _ I.receiver.no_lock refl I.receiver.counted)
    takes e b f Lockout l = never l

    drops_e2 : (s : FarmState) → is_locked s ≡ false → R E2 s
    unfolding table step_of perform_all perform accepts
    drops_e2 Open l = stays _ (rcv_with I.receiver Wait _ true true _ _ I.receiver.no_lock refl I.receiver.counted)
    drops_e2 Wait l = stays _ (rcv_with I.receiver Wait _ _ _ _ _ I.receiver.no_lock refl I.receiver.counted)
    drops_e2 Lockout l = never l

    drops_e3 : (s : FarmState) → is_locked s ≡ false → R E3 s
    unfolding table step_of perform_all perform accepts
    drops_e3 Open l = stays _ (rcv_with I.receiver Open _ _ true _ _ I.receiver.no_lock refl I.receiver.counted)
    drops_e3 Wait l = stays _ (rcv_with I.receiver Wait _ _ _ _ _ I.receiver.no_lock refl I.receiver.counted)
    drops_e3 Lockout l = never l

    drops_e4 : (s : FarmState) → is_locked s ≡ false → R E4 s
    unfolding table step_of perform_all perform accepts
    drops_e4 Open l = stays _ (rcv_with I.receiver Open _ _ _ _ _ I.receiver.no_lock refl I.receiver.counted)
    drops_e4 Wait l = stays _ (rcv_with I.receiver Wait _ _ _ _ _ I.receiver.no_lock refl I.receiver.counted)
    drops_e4 Lockout l = never l

-- which events an AD frame of the session can be: P holds of it if P holds of E1 and E2 where it is expected, of E3 where units before it are
-- missing, and of E4 where it was accepted before
pub ad_cases : (set : Settings) → Within set → (σ : Session) (room : Bool) (u : Fdu) (fs : List Frame) → Inv set σ
    → (h : Fly (set.w / 2) σ.sent (length σ.accepted) (length σ.accepted) (AD u ∷ fs)) → (P : FarmEvent → Type 0)
    → (h.0 ≡ length σ.accepted → both room (not_wait σ.farm.state) ≡ true → P E1)
    → (h.0 ≡ length σ.accepted → both room (not_wait σ.farm.state) ≡ false → P E2)
    → (length σ.accepted < h.0 → P E3)
    → (h.0 < length σ.accepted → P E4)
    → P (ad_event set.w σ.farm.state room (offset u.ns σ.farm.vr))
unfolding ad_event
ad_cases set vw σ room u fs I h P p1 p2 p3 p4 = go (ltb h.0 (length σ.accepted)) refl
  where
    half : set.w / 2 ≤ 127
    half = omega (arith, vw.farm_most)

    d_is : offset u.ns σ.farm.vr ≡ offset (advanced set.n h.0) (advanced set.n (length σ.accepted))
    d_is =
        let ns : u.ns ≡ advanced set.n h.0 = ap (λ (x : Fdu). x.ns) h.1 ∙ I.base.num.at h.0 h.2 in
        rw (ns, I.receiver.is_vr)

    go : (b : Bool) → ltb h.0 (length σ.accepted) ≡ b
        → P (pick (eqb (offset u.ns σ.farm.vr) 0) (pick (both room (not_wait σ.farm.state)) E1 E2)
        (pick (ltb (offset u.ns σ.farm.vr) (set.w / 2)) E3 (pick (leb 256 (offset u.ns σ.farm.vr + set.w / 2)) E4 E5)))
    go true b =
        let l : h.0 < length σ.accepted = ltb-true _ _ b in
        let e : offset u.ns σ.farm.vr ≡ 256 - (length σ.accepted - h.0) =
        d_is ∙ offset_back set.n h.0 (length σ.accepted) l (omega (arith, h.3, I.base.small)) in
        let k : length σ.accepted - h.0 ≤ set.w / 2 = omega (arith, h.3) in
        let z : offset u.ns σ.farm.vr ≢ 0 = λ q. omega (arith, e, q, half, k) in
        let y : set.w / 2 ≤ offset u.ns σ.farm.vr = omega (arith, e, half, k) in
        let x : 256 ≤ offset u.ns σ.farm.vr + set.w / 2 = omega (arith, e, half, k) in
        rw (
          ne_eqb (offset u.ns σ.farm.vr) 0 z,
          le-ltb (offset u.ns σ.farm.vr) (set.w / 2) y,
          le-leb 256
              (offset u.ns σ.farm.vr + set.w / 2) x,
        ) (p4 l)
    go false b =
        let l : length σ.accepted ≤ h.0 = ltb-false _ _ b in
        let e : offset u.ns σ.farm.vr ≡ h.0 - length σ.accepted =
        d_is ∙ offset_advanced set.n h.0 (length σ.accepted) l (omega (arith, h.4, I.base.small)) in
        let k : h.0 - length σ.accepted < set.w / 2 = omega (arith, h.4) in
        by_pick P (eqb (offset u.ns σ.farm.vr) 0)
        (λ t. let i : h.0 ≡ length σ.accepted = omega (arith, eqb-true (offset u.ns σ.farm.vr) 0 t, e) in
        by_pick P (both room (not_wait σ.farm.state)) (λ p. p1 i p) (λ p. p2 i p))
        (λ t. let y : offset u.ns σ.farm.vr < set.w / 2 = omega (arith, e, half, k) in
        rw (lt-ltb (offset u.ns σ.farm.vr) (set.w / 2) y) (p3 (omega (arith, eqb-false (offset u.ns σ.farm.vr) 0 t, e))))

bd_cell : (set : Settings) (σ : Session) (o : List ℕ) (fs : List Frame) → Inv set σ
    → Fly (set.w / 2) σ.sent (length σ.accepted) (length σ.accepted) fs
    → Sub (σ.accepted_bd ++ bds_of (BD o ∷ fs)) σ.sent_bd → (s : FarmState) → is_locked s ≡ false
    → Inv set (receiver (step_of E6 0 (at s σ.farm)) σ.accepted (taken_bd (BD o) (is_handed (unit_of E6 s)) σ.accepted_bd) σ.released fs σ)
unfolding table step_of perform_all perform accepts
bd_cell set σ o fs I fl sb Open l =
    let k : (σ.farm.counter + 1) % 4 ≡ (set.counter + length (σ.accepted_bd ++ (o ∷ []))) % 4 =
    omega (arith, length-append σ.accepted_bd (o ∷ []), I.receiver.counted) in
    unchanged set σ _ (σ.accepted_bd ++ (o ∷ [])) fs σ.released I fl (bd_accepted σ.accepted_bd σ.sent_bd o fs sb)
    (rcv_with I.receiver Open _ _ _ _ _ I.receiver.no_lock refl k)
bd_cell set σ o fs I fl sb Wait l =
    let k : (σ.farm.counter + 1) % 4 ≡ (set.counter + length (σ.accepted_bd ++ (o ∷ []))) % 4 =
    omega (arith, length-append σ.accepted_bd (o ∷ []), I.receiver.counted) in
    unchanged set σ _ (σ.accepted_bd ++ (o ∷ [])) fs σ.released I fl (bd_accepted σ.accepted_bd σ.sent_bd o fs sb)
    (rcv_with I.receiver Wait _ _ _ _ _ I.receiver.no_lock refl k)
bd_cell set σ o fs I fl sb Lockout l = never l

pub frame_keeps : (set : Settings) → Within set → (σ : Session) (room : Bool) (l : List Frame) → Inv set σ
    → Fly (set.w / 2) σ.sent (length σ.accepted) (length σ.accepted) l
    → Sub (σ.accepted_bd ++ bds_of l) σ.sent_bd → Inv set (frame_come set room l σ)
unfolding frame_come frame_event
frame_keeps set vw σ room [] I h sb = I
frame_keeps set vw σ room (AD u ∷ fs) I h sb =
    let fl = tail_fly (set.w / 2) σ.sent (length σ.accepted) (AD u) fs h in
    ad_cases set vw σ room u fs I h (λ e. R set σ u fs I e σ.farm.state)
    (λ i p. takes set σ u fs I fl sb (rw (← i) h.1) (omega arith) (fly_mono (set.w / 2) σ.sent _ _ _ _ fs (omega arith) (omega arith) h.5)
    σ.farm.state I.receiver.unlocked)
    (λ i p. drops_e2 set σ u fs I fl sb σ.farm.state I.receiver.unlocked)
    (λ i. drops_e3 set σ u fs I fl sb σ.farm.state I.receiver.unlocked)
    (λ i. drops_e4 set σ u fs I fl sb σ.farm.state I.receiver.unlocked)
frame_keeps set vw σ room (BD o ∷ fs) I h sb = bd_cell set σ o fs I h.1 sb σ.farm.state I.receiver.unlocked
frame_keeps set vw σ room (Unlock ∷ fs) I h sb = absurd h
frame_keeps set vw σ room (SetVR v ∷ fs) I h sb = absurd h
frame_keeps set vw σ room (Refused r ∷ fs) I h sb = absurd h

rest_fly : (K : ℕ) (s : List Fdu) (A : ℕ) (l : List Frame) → Fly K s A A l → Fly K s A A (rest l)
rest_fly K s A [] h = h
rest_fly K s A (f ∷ fs) h = tail_fly K s A f fs h

lost_keeps : (set : Settings) (σ : Session) → Inv set σ → Inv set (channels (rest σ.frames) σ.words σ)
unfolding channels
lost_keeps set σ I =
    record {
      base = refly I.base (rest_fly (set.w / 2) σ.sent (length σ.accepted) σ.frames I.base.fly);
      side = I.side;
      suspension = I.suspension;
      is_set = I.is_set;
      waiting = I.waiting;
      places = I.places;
      words = I.words;
      receiver = I.receiver;
      bd = bd_lost σ.accepted_bd σ.sent_bd σ.frames I.bd;
    }

release_cell : (set : Settings) (σ : Session) → Inv set σ → (s : FarmState) → is_locked s ≡ false
    → Inv set (receiver (step_of E10 0 (at s σ.farm)) σ.accepted σ.accepted_bd (σ.released + 1) σ.frames σ)
unfolding table step_of perform_all perform
release_cell set σ I Open l =
    unchanged set σ _ σ.accepted_bd σ.frames (σ.released + 1) I I.base.fly I.bd
    (rcv_with I.receiver Open _ _ _ _ _ I.receiver.no_lock refl I.receiver.counted)
release_cell set σ I Wait l =
    unchanged set σ _ σ.accepted_bd σ.frames (σ.released + 1) I I.base.fly I.bd
    (rcv_with I.receiver Open _ _ _ _ _ I.receiver.no_lock refl I.receiver.counted)
release_cell set σ I Lockout l = never l

rest_words : (n lo hi : ℕ) (ws : List Word) → Wds n lo hi ws → Wds n lo hi (rest ws)
rest_words n lo hi [] h = h
rest_words n lo hi (w ∷ ws) h = wds_lower n h.0 lo hi ws h.2 h.4

reported : (set : Settings) (σ : Session) → Inv set σ → Wds set.n (length σ.confirmed) (length σ.accepted) (σ.words ++ (report σ.farm ∷ []))
unfolding report
reported set σ I = wds_add set.n _ _ σ.words (report σ.farm) I.receiver.is_vr (omega (arith, I.receiver.counted)) I.words

-- every event that is admitted keeps the invariant, whatever it is told of the buffers
pub step_with_keeps : (set : Settings) → Within set → (room held : Bool) (e : Event) (σ : Session) → admits (rejects e) σ.fop ≡ true → Inv set σ
    → Inv set (step_with set room held e σ)
unfolding step_with releases
step_with_keeps set vw room held (ad_request o lent) σ a I = ad_keeps set lent o σ I
step_with_keeps set vw room held (bd_request o lent) σ a I = bd_keeps set lent o σ I
step_with_keeps set vw room held (ticks lent) σ a I = ticks_keeps set lent σ I
step_with_keeps set vw room held (lower_says l lent) σ a I = lower_keeps set lent l σ a I
step_with_keeps set vw room held (terminate v lent) σ a I = terminate_keeps set v lent σ I
step_with_keeps set vw room held (resume v lent) σ a I = resume_keeps set v lent σ I
step_with_keeps set vw room held (word_in lent) σ a I = word_keeps set vw lent σ σ.words I I.words
step_with_keeps set vw room held word_lost σ a I = words_are set σ (rest σ.words) I (rest_words set.n _ _ σ.words I.words)
step_with_keeps set vw room held (word_made lent) σ a I =
    words_are set σ _ I (by_pick (Wds set.n _ _) (leb word_length lent) (λ t. reported set σ I) (λ t. I.words))
step_with_keeps set vw room held frame_in σ a I = frame_keeps set vw σ room σ.frames I I.base.fly I.bd
step_with_keeps set vw room held frame_lost σ a I = lost_keeps set σ I
step_with_keeps set vw room held release σ a I =
    by_pick (Inv set) held (λ t. release_cell set σ I σ.farm.state I.receiver.unlocked) (λ t. I)

pub step_keeps : (set : Settings) → Within set → (e : Event) (σ : Session) → admits (rejects e) σ.fop ≡ true → Inv set σ → Inv set (step set e σ)
unfolding step
step_keeps set vw e σ a I = step_with_keeps set vw (free set σ) (is_held σ) e σ a I

-- the start
abbrev pub begun : Settings → Session
begun set = record {
  fop = start_sender set;
  farm = (start_receiver set).farm.channel.variables;
  frames = [];
  words = [];
  sent = [];
  accepted = [];
  confirmed = [];
  denied = [];
  released = 0;
  sent_bd = [];
  accepted_bd = [];
}

pub start_inv : (set : Settings) → Within set → Inv set (begun set)
unfolding start_sender start_receiver
start_inv set vw =
    record {
      base = record {
        num = numbered_nil set.n;
        order = refl;
        behind = omega arith;
        truly = omega arith;
        room = omega arith;
        fits = vw.fits;
        small = omega (arith, vw.farm_most);
        fly = tt;
      };
      side = record { cut = refl; undenied = refl; fresh = refl; is_vs = omega (arith, vw.number); is_nn = omega (arith, vw.number) };
      suspension = record { outside = tt; alerting = λ z. refl };
      is_set = refl;
      waiting = tt;
      places = refl;
      words = omega arith;
      receiver = record { is_vr = omega (arith, vw.number); unlocked = refl; no_lock = refl; counted = omega (arith, vw.counter_most) };
      bd = none_left;
    }
