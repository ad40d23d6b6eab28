-- What a call of the receiver comes to, by what restoring its state answered; and the state of a receiver put over another state is the whole
-- buffer, since a state has 12 octets.
use mathlib.Core.Path.{◌≡◌, refl, sym, ap, ◌∙◌}
use mathlib.Core.Bool.{Bool, true, false}
use mathlib.Core.List.{List, ◌++◌, append-nil}
use Prim.Native.Nat.{ℕ, ◌≤◌, ◌<◌}
use native.Mathlib.Omega.{arith}
use borrow.Author.Tests.{le-leb, lt-leb, eqb-true, eqb-false}
use lib.Dec.{eqb}
use lib.ListN.{length, drop, drop_of_length-le}
use Rattle.base.specs.Choice.{pick}
use Rattle.base.specs.Outcome.{Outcome.refused}
use Rattle.memory.specs.Placed.{placed}
use Rattle.memory.proofs.Laws.{placed_fits}
use Rattle.frame.specs.Frame.{refusal_of}
use Rattle.frame.specs.Answers.{FrameReading}
use Rattle.frame.proofs.Accepted.{reading_refused}
use Rattle.clcw.specs.Clcw.{writing}
use Rattle.receiver_octets.specs.Kept.{octets_of, receiver_in, is_state, restored_of}
use Rattle.receiver.specs.Channel as channel
use Rattle.receiver.specs.Receiver.{answered, by_reading, receive_of, unit_part, release_of, word_of}
use Rattle.receiver.specs.declared.Receiver.{Receiver}
use Rattle.receiver.specs.declared.Received.{Received}
use Rattle.std.specs.Prelude.{None, Result, Ok, Err}
use Rattle.base.specs.Refusals.{refusal_number}
use Rattle.base.specs.declared.Refusal.{Refusal}
use Rattle.base.specs.declared.Refusal.TheVariants.{Setting}
use Rattle.receiver_octets.proofs.Restored.{state_only}
use Rattle.pondreszi_receiver.specs.Receivers.{unit_count, starting, start_given, new_call, received, frame_call, released_by, release_call, word_call}
use Rattle.pondreszi_receiver.proofs.Counted.{unit_counted}

-- the octets of a receiver at the front of a buffer that has room for them
octets_front : (old : List ℕ) (r : Receiver) → 12 ≤ length old → placed old 0 (octets_of r) ≡ octets_of r ++ drop 12 old
unfolding octets_of
octets_front old r h = placed_fits old 0 (octets_of r) h

-- a unit is accepted only of a frame that is not refused
module _ (r : Receiver) (frame : List ℕ) where
  abbrev refusal : ℕ
  refusal = refusal_of frame r.farm.spacecraft r.farm.channel.number

  none_of_refused : (refusal ≡ 0 → ⊥) → (receive_of r frame).unit ≡ None
  unfolding receive_of by_reading answered channel.answered
  none_of_refused d = ap (λ (x : FrameReading). (by_reading r x).unit) (reading_refused frame r.farm.spacecraft r.farm.channel.number d).0

  not_refused : ((receive_of r frame).unit ≡ None → ⊥) → refusal ≡ 0
  not_refused h = go (eqb refusal 0) refl
    where
      go : (b : Bool) → eqb refusal 0 ≡ b → refusal ≡ 0
      go true e = eqb-true refusal 0 e
      go false e = absurd (h (none_of_refused (eqb-false refusal 0 e)))

  pub unit_length : {a : Received} → a ≡ receive_of r frame → {n : ℕ} → n ≡ unit_count a.unit frame → n ≡ length (unit_part r frame)
  unfolding unit_part
  unit_length f p =
      p ∙ ap (λ (x : Received). unit_count x.unit frame) f ∙ unit_counted frame r.farm.spacecraft r.farm.channel.number (receive_of r frame).unit not_refused

module _ (o : List ℕ) {start : Result Receiver Refusal} (e : start ≡ restored_of o) where
  -- octets that are no state are refused by 12
  module _ {refusal : Refusal} (p : start ≡ Err refusal) where
    pub no_state : (is_state o ≡ false) × (12 ≡ refusal_number refusal)
    unfolding restored_of
    no_state = go (is_state o) (sym e ∙ p)
      where
        go : (b : Bool) → pick b (Ok (receiver_in o)) (Err Setting) ≡ Err refusal → (b ≡ false) × (12 ≡ refusal_number refusal)
        go true q =
            let z : ◌≡◌ {A = ℕ} 0 1 = cc in
            absurd (omega arith)
        go false q =
            let z : Setting ≡ refusal = cc in
            (refl, ap refusal_number z)

    pub frame_refused_lem : (frame : List ℕ)
        → frame_call o frame ≡ record { number = refusal_number refusal; event = 0; unit = 0; first = 0; count = 0; state = o }
    unfolding frame_call
    frame_refused_lem frame =
        rw no_state.0 (ap (λ (n : ℕ). record { number = n; event = 0; unit = 0; first = 0; count = 0; state = o }) no_state.1)

    pub release_refused : release_call o ≡ record { number = refusal_number refusal; event = 0; state = o }
    unfolding release_call
    release_refused = rw no_state.0 (ap (λ (n : ℕ). record { number = n; event = 0; state = o }) no_state.1)

    pub word_refused : (lent : ℕ) → word_call o lent ≡ refused 12 0
    unfolding word_call
    word_refused lent = rw no_state.0

  -- a state is the receiver's that it holds
  module _ {r : Receiver} (p : start ≡ Ok r) where
    held : (is_state o ≡ true) × (r ≡ receiver_in o)
    unfolding restored_of
    held = go (is_state o) (sym e ∙ p)
      where
        go : (b : Bool) → pick b (Ok (receiver_in o)) (Err Setting) ≡ Ok r → (b ≡ true) × (r ≡ receiver_in o)
        go true q =
            let z : receiver_in o ≡ r = cc in
            (refl, sym z)
        go false q =
            let z : ◌≡◌ {A = ℕ} 0 1 = cc in
            absurd (omega arith)

    pub frame_met : (frame : List ℕ) {a : Received} → a ≡ receive_of r frame → frame_call o frame ≡ received a (unit_part r frame)
    unfolding frame_call
    frame_met frame f =
        rw held.0
        (ap (λ (x : Receiver). received (receive_of x frame) (unit_part x frame)) (sym held.1) ∙ ap (λ (x : Received). received x (unit_part r frame)) (sym f))

    pub release_met : (released : Result Received Refusal) → released ≡ release_of r → release_call o ≡ released_by released o
    unfolding release_call
    release_met released f = rw held.0 (ap (λ (x : Result Received Refusal). released_by x o) (ap release_of (sym held.1) ∙ sym f))

    pub word_met : (lent : ℕ) → word_call o lent ≡ writing (word_of r) lent
    unfolding word_call
    word_met lent = rw held.0 (ap (λ (x : Receiver). writing (word_of x) lent) (sym held.1))

    -- the state of the next receiver takes the place of this one's
    pub kept_whole : (next : Receiver) → placed o 0 (octets_of next) ≡ octets_of next
    unfolding octets_of
    kept_whole next =
        let l : length o ≡ 12 = sym (ap length (state_only o held.0)) in
        let h : length o ≤ 12 = omega arith in
        octets_front o next (omega arith) ∙ ap (λ (x : List ℕ). octets_of next ++ x) (drop_of_length-le o h) ∙ append-nil (octets_of next)

-- a new receiver
module _ (spacecraft channel window vr buffers : ℕ) (old : List ℕ) {start : Result Receiver Refusal} (e : start ≡ start_given spacecraft channel window vr buffers) where
  pub new_setting : {refusal : Refusal} → start ≡ Err refusal
      → new_call spacecraft channel window vr buffers old ≡ record { number = refusal_number refusal; state = old }
  unfolding new_call
  new_setting p = ap (λ (x : Result Receiver Refusal). starting x old) (sym e ∙ p)

  module _ {r : Receiver} (p : start ≡ Ok r) where
    pub new_short : length old < 12 → new_call spacecraft channel window vr buffers old ≡ record { number = 11; state = old }
    unfolding new_call
    new_short h = ap (λ (x : Result Receiver Refusal). starting x old) (sym e ∙ p) ∙ rw (lt-leb 12 (length old) h)

    pub new_kept_lem : 12 ≤ length old → new_call spacecraft channel window vr buffers old ≡ record { number = 0; state = placed old 0 (octets_of r) }
    unfolding new_call
    new_kept_lem h = ap (λ (x : Result Receiver Refusal). starting x old) (sym e ∙ p) ∙ rw (le-leb 12 (length old) h, octets_front old r h)
