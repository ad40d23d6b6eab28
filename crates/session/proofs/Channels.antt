-- The events of channels that repeat and of noise, in Core's session: each of them keeps the invariant, and what the stronger claims need besides.
-- A frame or word that stays is one that stands twice, so the laws of arrivals over any channel (Receiver, Inv, Tidy) hold of it; a frame with fill behind it arrives as the frame alone; the
-- recorder's frame is one of the last NW units sent, which is all that the invariant asks of a frame under way; noise changes nothing.
use mathlib.Core.Path.{◌≡◌, refl}
use mathlib.Core.Bool.{Bool, true, false, ◌&&◌, false≢true}
use mathlib.Core.List.{List, [], ◌∷◌, ◌++◌, append-nil}
use Prim.Native.Nat.{ℕ, suc, ◌+◌, ◌/◌, ◌≤◌, ◌<◌, max}
use native.Mathlib.Omega.{arith}
use borrow.Author.Tests.{ltb-true, leb-true}
use lib.Dec.{ltb, leb}
use lib.ListN.{length, get_or}
use Rattle.base.specs.Choice.{pick}
use Rattle.fop.specs.Units.{Fdu, Frame, AD, BD, Unlock, SetVR, Refused, Word}
use Rattle.session.specs.Ends.{Settings, Within}
use Rattle.session.specs.Session.{frame_in, no_unit}
use Rattle.session.specs.Stronger.{Sub}
use Rattle.session.specs.Suspension.{admits, link_rejects}
use Rattle.session.specs.Channels.{LinkEvent, demanded, frame_stays, word_stays, frame_filled, frame_again, noise, word_noise, is_ad, stays, is_fill, is_kept}
use Rattle.fop.proofs.Choices.{by_pick}
use Rattle.session.proofs.Core.{Session, channels, word_come, frame_come, free, step}
use Rattle.session.proofs.Chan.{Fly, fly_mono, fly_add, Wds}
use Rattle.session.proofs.Values.{refly}
use Rattle.session.proofs.Bds.{bds_of, bd_handed, bd_part}
use Rattle.session.proofs.Inv.{Inv, words_are, word_keeps}
use Rattle.session.proofs.Receiver.{frame_keeps, step_keeps}
use Rattle.session.proofs.Buffers.{Stocked, frame_stock, word_stock, stock_keeps}
use Rattle.session.proofs.Keys.{Keys, Tidy}
use Rattle.session.proofs.Tidy.{frame_tidy, word_tidy, words_tidy, step_tidy}
use Rattle.session.proofs.Once.{Once, step_once, word_in_lem, frame_in_lem}

-- the frames under way, where the oldest is an AD frame and stays
abbrev pub stays_ad : List Frame → List Frame
stays_ad [] = []
stays_ad (x ∷ fs) = pick (is_ad x) (stays (x ∷ fs)) []

-- with the frame that a recorder of so many units repeats
abbrev pub add_again : ℕ → List Fdu → ℕ → List Frame → List Frame
add_again kept sent i fs = pick (is_kept kept sent i) (fs ++ (AD (get_or sent i no_unit) ∷ [])) fs

-- an event
unfoldable pub link_step : Settings → ℕ → LinkEvent → Session → Session
link_step set kept (demanded e) σ = step set e σ
link_step set kept (frame_stays fill) σ = pick (is_fill fill) (frame_come set (free set σ) (stays_ad σ.frames) σ) σ
link_step set kept (word_stays lent) σ = word_come set lent (stays σ.words) σ
link_step set kept (frame_filled fill) σ = pick (is_fill fill) (step set frame_in σ) σ
link_step set kept (frame_again i) σ = channels (add_again kept σ.sent i σ.frames) σ.words σ
link_step set kept (noise o) σ = σ
link_step set kept (word_noise o lent) σ = σ

-- the channels, where the oldest stays
stays_fly : (H : ℕ) (s : List Fdu) (A : ℕ) (fs : List Frame) → 1 ≤ H → Fly H s A A fs → Fly H s A A (stays_ad fs)
stays_fly H s A [] l h = tt
stays_fly H s A (AD u ∷ fs) l h =
    let again : Fly H s A (max A (suc h.0)) (AD u ∷ fs) = (
      h.0,
      h.1,
      h.2,
      omega (arith, h.3),
      h.4,
      fly_mono H s A A _ (max A (suc h.0)) fs (omega arith) (omega arith) h.5,
    ) in
    (h.0, h.1, h.2, h.3, h.4, again)
stays_fly H s A (BD o ∷ fs) l h = tt
stays_fly H s A (Unlock ∷ fs) l h = tt
stays_fly H s A (SetVR v ∷ fs) l h = tt
stays_fly H s A (Refused r ∷ fs) l h = tt

stays_words : (n lo hi : ℕ) (ws : List Word) → Wds n lo hi ws → Wds n lo hi (stays ws)
stays_words n lo hi [] h = h
stays_words n lo hi (w ∷ ws) h = (h.0, h.1, h.2, h.3, (h.0, h.1, omega arith, h.3, h.4))

stays_keys : (n S lo hi : ℕ) (ws : List Word) → Keys n S lo hi ws → Keys n S lo hi (stays ws)
stays_keys n S lo hi [] h = h
stays_keys n S lo hi (w ∷ ws) h = (h.0, h.1, h.2, h.3, h.4, h.5, (h.0, h.1, omega arith, h.3, h.4, h.5, h.6))

-- no BD unit is added to what is under way
none_bd : (a b : List (List ℕ)) (fs : List Frame) → Sub (a ++ bds_of fs) b → Sub (a ++ []) b
none_bd a b fs h = rw (append-nil a) (bd_part a b fs h)

stays_bd : (a b : List (List ℕ)) (fs : List Frame) → Sub (a ++ bds_of fs) b → Sub (a ++ bds_of (stays_ad fs)) b
stays_bd a b [] h = h
stays_bd a b (AD u ∷ fs) h = h
stays_bd a b (BD o ∷ fs) h = none_bd a b (BD o ∷ fs) h
stays_bd a b (Unlock ∷ fs) h = none_bd a b (Unlock ∷ fs) h
stays_bd a b (SetVR v ∷ fs) h = none_bd a b (SetVR v ∷ fs) h
stays_bd a b (Refused r ∷ fs) h = none_bd a b (Refused r ∷ fs) h

-- one of the last units sent
pub kept_is : (kept : ℕ) (s : List Fdu) (i : ℕ) → is_kept kept s i ≡ true → (i < length s) × (length s ≤ i + kept)
kept_is kept s i = by_first (ltb i (length s)) refl
  where
    by_first : (b : Bool) → ltb i (length s) ≡ b → (b && leb (length s) (i + kept)) ≡ true → (i < length s) × (length s ≤ i + kept)
    by_first true e t = (ltb-true i (length s) e, leb-true (length s) (i + kept) t)
    by_first false e t = absurd (false≢true t)

-- the frames under way, where the oldest stays
pub stays_under_way : (set : Settings) → Within set → (σ : Session) → Inv set σ
    → Fly (set.w / 2) σ.sent (length σ.accepted) (length σ.accepted) (stays_ad σ.frames)
stays_under_way set vw σ I = stays_fly (set.w / 2) σ.sent (length σ.accepted) σ.frames (omega (arith, vw.farm_least)) I.base.fly

module _ (set : Settings) (vw : Within set) (kept : ℕ) (most : kept ≤ set.w / 2) where
  -- and the words
  words_under_way : (σ : Session) → Inv set σ → Wds set.n (length σ.confirmed) (length σ.accepted) (stays σ.words)
  words_under_way σ I = stays_words set.n _ _ σ.words I.words

  -- the recorder's frame
  again : (σ : Session) (i : ℕ) → Inv set σ → is_kept kept σ.sent i ≡ true
      → Inv set (channels (σ.frames ++ (AD (get_or σ.sent i no_unit) ∷ [])) σ.words σ)
  unfolding channels
  again σ i I t =
      let k = kept_is kept σ.sent i t in
      record {
        base = refly I.base
            (fly_add (set.w / 2) σ.sent _ _ σ.frames _ i refl k.0 I.base.behind (omega (arith, k.1, most)) (omega (arith, k.0, I.base))
            I.base.fly);
        side = I.side;
        suspension = I.suspension;
        is_set = I.is_set;
        waiting = I.waiting;
        places = I.places;
        words = I.words;
        receiver = I.receiver;
        bd = bd_handed σ.accepted_bd σ.sent_bd σ.frames (AD (get_or σ.sent i no_unit) ∷ []) I.bd;
      }

  -- the channels as they are
  as_they_are : (σ : Session) → Inv set σ → Inv set (channels σ.frames σ.words σ)
  as_they_are σ I = words_are set σ σ.words I I.words

  -- every event that is admitted keeps the invariant
  pub link_keeps : (e : LinkEvent) (σ : Session) → admits (link_rejects e) σ.fop ≡ true → Inv set σ → Inv set (link_step set kept e σ)
  unfolding link_step
  link_keeps (demanded e) σ a I = step_keeps set vw e σ a I
  link_keeps (frame_stays fill) σ a I =
      by_pick (Inv set) (is_fill fill) (λ b.
      frame_keeps set vw σ (free set σ) (stays_ad σ.frames) I (stays_under_way set vw σ I) (stays_bd σ.accepted_bd σ.sent_bd σ.frames I.bd))
      (λ b. I)
  link_keeps (word_stays lent) σ a I = word_keeps set vw lent σ (stays σ.words) I (words_under_way σ I)
  link_keeps (frame_filled fill) σ a I = by_pick (Inv set) (is_fill fill) (λ b. step_keeps set vw frame_in σ a I) (λ b. I)
  link_keeps (frame_again i) σ a I =
      by_pick (λ (fs : List Frame). Inv set (channels fs σ.words σ)) (is_kept kept σ.sent i) (λ t. again σ i I t) (λ t. as_they_are σ I)
  link_keeps (noise o) σ a I = I
  link_keeps (word_noise o lent) σ a I = I

  -- the flags' invariant
  pub link_tidy : (e : LinkEvent) (σ : Session) → admits (link_rejects e) σ.fop ≡ true → Inv set σ → Tidy set.n σ → Tidy set.n (link_step set kept e σ)
  unfolding link_step
  link_tidy (demanded e) σ a I t = step_tidy set vw e σ a I t
  link_tidy (frame_stays fill) σ a I t =
      by_pick (Tidy set.n) (is_fill fill) (λ b. frame_tidy set vw σ (free set σ) (stays_ad σ.frames) I t (stays_under_way set vw σ I)) (λ b. t)
  link_tidy (word_stays lent) σ a I t =
      word_tidy set vw lent σ (stays σ.words) I t (words_under_way σ I) (stays_keys set.n _ _ _ σ.words t.keys)
  link_tidy (frame_filled fill) σ a I t = by_pick (Tidy set.n) (is_fill fill) (λ b. step_tidy set vw frame_in σ a I t) (λ b. t)
  link_tidy (frame_again i) σ a I t = words_tidy set.n σ _ σ.words t t.keys
  link_tidy (noise o) σ a I t = t
  link_tidy (word_noise o lent) σ a I t = t

  -- what a transmission limit of 1 gives
  pub link_once : (e : LinkEvent) (σ : Session) → Once σ.fop → Once (link_step set kept e σ).fop
  unfolding link_step channels
  link_once (demanded e) σ o = step_once set e σ o
  link_once (frame_stays fill) σ o =
      by_pick (λ (τ : Session). Once τ.fop) (is_fill fill) (λ b. frame_in_lem set (free set σ) (stays_ad σ.frames) σ o) (λ b. o)
  link_once (word_stays lent) σ o = word_in_lem set lent (stays σ.words) σ o
  link_once (frame_filled fill) σ o = by_pick (λ (τ : Session). Once τ.fop) (is_fill fill) (λ b. step_once set frame_in σ o) (λ b. o)
  link_once (frame_again i) σ o = o
  link_once (noise s) σ o = o
  link_once (word_noise s lent) σ o = o

  -- the buffers
  pub link_stock : (e : LinkEvent) (σ : Session) → Inv set σ → Stocked set σ → Stocked set (link_step set kept e σ)
  unfolding link_step channels
  link_stock (demanded e) σ I h = stock_keeps set vw e σ I h
  link_stock (frame_stays fill) σ I h =
      by_pick (Stocked set) (is_fill fill) (λ b. frame_stock set vw σ (stays_ad σ.frames) I (stays_under_way set vw σ I) h) (λ b. h)
  link_stock (word_stays lent) σ I h = word_stock set lent (stays σ.words) σ h
  link_stock (frame_filled fill) σ I h = by_pick (Stocked set) (is_fill fill) (λ b. stock_keeps set vw frame_in σ I h) (λ b. h)
  link_stock (frame_again i) σ I h = h
  link_stock (noise o) σ I h = h
  link_stock (word_noise o lent) σ I h = h
