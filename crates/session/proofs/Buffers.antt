-- The single receiver's buffers: those taken are at most those set, and a receiver that waits has none free. The session's invariant
-- (Inv) does not need this.
use mathlib.Core.Path.{◌≡◌, sym, ◌∙◌}
use mathlib.Core.Bool.{true, false, false≢true}
use mathlib.Core.List.{List, [], ◌∷◌}
use Prim.Native.Nat.{ℕ, ◌+◌, ◌-◌, ◌/◌, ◌≤◌}
use native.Mathlib.Omega.{arith}
use lib.Dec.{ltb}
use lib.ListN.{length, length-append}
use borrow.Author.Tests.{ltb-true, ltb-false}
use Rattle.base.specs.Choice.{both}
use Rattle.base.proofs.Tests.{both_left, both_true, both_false}
use Rattle.fop.specs.Units.{Fdu, Frame, AD, BD, Unlock, SetVR, Refused, Word, word_octets}
use Rattle.fop.specs.Events.{SenderEvent, request_ad, request_bd, lower, directive, word_arrives}
use Rattle.fop.specs.Events as fop
use Rattle.farm.specs.Table.{table, perform, perform_all, step_of, accepts, unit_of}
use Rattle.farm.specs.Window.{not_wait}
use Rattle.farm.specs.declared.State.{State as FarmState}
use Rattle.farm.specs.declared.State.TheVariants.{Open, Wait, Lockout}
use Rattle.farm.specs.declared.Event.{Event as FarmEvent}
use Rattle.farm.specs.declared.Event.TheVariants.{E1, E2, E3, E4, E6, E10}
use Rattle.farm.specs.declared.Variables.{Variables}
use Rattle.session.specs.Ends.{Settings, Within, start_receiver}
use Rattle.session.specs.Session.{Event, ad_request, bd_request, ticks, lower_says, terminate, resume, word_in, word_lost, word_made, frame_in, frame_lost, release}
use Rattle.fop.proofs.Choices.{by_pick, never}
use Rattle.session.proofs.Core.{Session, answered, sender, goes, channels, receiver, word_come, frame_come, frame_event, is_handed, taken, releases}
use Rattle.session.proofs.Core.{step_with, step, free, is_held}
use Rattle.session.proofs.Chan.{Fly}
use Rattle.session.proofs.Inv.{Inv, is_locked}
use Rattle.session.proofs.Receiver.{at, ad_cases, begun}

-- a receiver that waits has every buffer taken: A units accepted are B, the buffers set and the releases done
abbrev pub Full : FarmState → ℕ → ℕ → Type 0
Full Open A B = Unit {0}
Full Wait A B = A ≡ B
Full Lockout A B = Unit {0}

-- with A accepted and R released
pub record Stock (set : Settings) (A R : ℕ) (s : FarmState) : Type 0 where
  pub below : R ≤ A
  pub most : A ≤ set.buffers + R
  pub full : Full s A (set.buffers + R)

abbrev pub Stocked : Settings → Session → Type 0
Stocked set σ = Stock set (length σ.accepted) σ.released σ.farm.state

module _ (set : Settings) (a : List Fdu) (u : Fdu) (R : ℕ) (v : Variables) where
  -- after the event e in the state s
  abbrev After : FarmEvent → FarmState → Type 0
  After e s = Stock set (length (taken (AD u) (is_handed (unit_of e s)) a)) R (step_of e 0 (at s v)).state

  module _ (below : R ≤ length a) (most : length a ≤ set.buffers + R) where
    e1_stock : (s : FarmState) → both (ltb (length a - R) set.buffers) (not_wait s) ≡ true → is_locked s ≡ false → After E1 s
    unfolding table step_of perform_all perform accepts
    e1_stock Open p l =
        let k : ltb (length a - R) set.buffers ≡ true = both_left (ltb (length a - R) set.buffers) true p in
        record {
          below = omega (arith, length-append a (u ∷ []));
          most = omega (arith, length-append a (u ∷ []), ltb-true (length a - R) set.buffers k);
          full = tt;
        }
    e1_stock Wait p l = absurd (false≢true (sym (both_false (ltb (length a - R) set.buffers)) ∙ p))
    e1_stock Lockout p l = never l

    e2_stock : (s : FarmState) → both (ltb (length a - R) set.buffers) (not_wait s) ≡ false → is_locked s ≡ false
        → Full s (length a) (set.buffers + R) → After E2 s
    unfolding table step_of perform_all perform accepts
    e2_stock Open p l f =
        let k : ltb (length a - R) set.buffers ≡ false = sym (both_true (ltb (length a - R) set.buffers)) ∙ p in
        record { below = below; most = most; full = omega (arith, ltb-false (length a - R) set.buffers k) }
    e2_stock Wait p l f = record { below = below; most = most; full = f }
    e2_stock Lockout p l f = never l

    e3_stock : (s : FarmState) → is_locked s ≡ false → Full s (length a) (set.buffers + R) → After E3 s
    unfolding table step_of perform_all perform accepts
    e3_stock Open l f = record { below = below; most = most; full = tt }
    e3_stock Wait l f = record { below = below; most = most; full = f }
    e3_stock Lockout l f = never l

    e4_stock : (s : FarmState) → is_locked s ≡ false → Full s (length a) (set.buffers + R) → After E4 s
    unfolding table step_of perform_all perform accepts
    e4_stock Open l f = record { below = below; most = most; full = tt }
    e4_stock Wait l f = record { below = below; most = most; full = f }
    e4_stock Lockout l f = never l

    e6_stock : (s : FarmState) → is_locked s ≡ false → Full s (length a) (set.buffers + R) → Stock set (length a) R (step_of E6 0 (at s v)).state
    unfolding table step_of perform_all perform accepts
    e6_stock Open l f = record { below = below; most = most; full = tt }
    e6_stock Wait l f = record { below = below; most = most; full = f }
    e6_stock Lockout l f = never l

    e10_stock : (s : FarmState) → is_locked s ≡ false → ltb 0 (length a - R) ≡ true → Stock set (length a) (R + 1) (step_of E10 0 (at s v)).state
    unfolding table step_of perform_all perform
    e10_stock Open l p = record { below = omega (arith, ltb-true 0 (length a - R) p); most = omega arith; full = tt }
    e10_stock Wait l p = record { below = omega (arith, ltb-true 0 (length a - R) p); most = omega arith; full = tt }
    e10_stock Lockout l p = never l

sender_stock : (set : Settings) (e : SenderEvent) (lent : ℕ) (σ : Session) → Stocked set σ → Stocked set (sender set e lent σ)
unfolding sender answered
sender_stock set e lent σ h = by_pick (Stocked set) (goes set.own e lent σ.fop) (λ t. h) (λ t. h)

pub word_stock : (set : Settings) (lent : ℕ) (ws : List Word) (σ : Session) → Stocked set σ → Stocked set (word_come set lent ws σ)
unfolding word_come channels
word_stock set lent [] σ h = h
word_stock set lent (w ∷ ws) σ h = sender_stock set (word_arrives (word_octets set.own w)) lent (channels σ.frames ws σ) h

pub frame_stock : (set : Settings) → Within set → (σ : Session) (l : List Frame) → Inv set σ
    → Fly (set.w / 2) σ.sent (length σ.accepted) (length σ.accepted) l → Stocked set σ → Stocked set (frame_come set (free set σ) l σ)
unfolding frame_come frame_event receiver
frame_stock set vw σ [] I f h = h
frame_stock set vw σ (AD u ∷ fs) I f h =
    ad_cases set vw σ (free set σ) u fs I f (λ e. After set σ.accepted u σ.released σ.farm e σ.farm.state)
    (λ i p. e1_stock set σ.accepted u σ.released σ.farm h.below h.most σ.farm.state p I.receiver.unlocked)
    (λ i p. e2_stock set σ.accepted u σ.released σ.farm h.below h.most σ.farm.state p I.receiver.unlocked h.full)
    (λ i. e3_stock set σ.accepted u σ.released σ.farm h.below h.most σ.farm.state I.receiver.unlocked h.full)
    (λ i. e4_stock set σ.accepted u σ.released σ.farm h.below h.most σ.farm.state I.receiver.unlocked h.full)
frame_stock set vw σ (BD o ∷ fs) I f h =
    e6_stock set σ.accepted (record { ns = 0; octets = [] }) σ.released σ.farm h.below h.most σ.farm.state I.receiver.unlocked h.full
frame_stock set vw σ (Unlock ∷ fs) I f h = absurd f
frame_stock set vw σ (SetVR v ∷ fs) I f h = absurd f
frame_stock set vw σ (Refused r ∷ fs) I f h = absurd f

-- every event keeps it
pub stock_keeps : (set : Settings) → Within set → (e : Event) (σ : Session) → Inv set σ → Stocked set σ → Stocked set (step set e σ)
unfolding step step_with channels releases receiver
stock_keeps set vw (ad_request o lent) σ I h = sender_stock set (request_ad o) lent σ h
stock_keeps set vw (bd_request o lent) σ I h = sender_stock set (request_bd o) lent σ h
stock_keeps set vw (ticks lent) σ I h = sender_stock set fop.tick lent σ h
stock_keeps set vw (lower_says l lent) σ I h = sender_stock set (lower l) lent σ h
stock_keeps set vw (terminate v lent) σ I h = sender_stock set (directive 5 v) lent σ h
stock_keeps set vw (resume v lent) σ I h = sender_stock set (directive 6 v) lent σ h
stock_keeps set vw (word_in lent) σ I h = word_stock set lent σ.words σ h
stock_keeps set vw word_lost σ I h = h
stock_keeps set vw (word_made lent) σ I h = h
stock_keeps set vw frame_in σ I h = frame_stock set vw σ σ.frames I I.base.fly h
stock_keeps set vw frame_lost σ I h = h
stock_keeps set vw release σ I h =
    by_pick (Stocked set) (is_held σ)
    (λ t. e10_stock set σ.accepted (record { ns = 0; octets = [] }) σ.released σ.farm h.below h.most σ.farm.state
    I.receiver.unlocked t) (λ t. h)

pub start_stock : (set : Settings) → Stocked set (begun set)
unfolding start_receiver
start_stock set = record { below = omega arith; most = omega arith; full = tt }
