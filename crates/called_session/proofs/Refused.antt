-- A refused call leaves state, store and output as they were, whatever octets are lent as a state: octets that are no state are not touched,
-- and those of a state are put back as they were, since a refused event has the same next state.
use Rattle.std.specs.Prelude.{Result, Ok, Err}
use Prim.Native.Nat.{ℕ}
use mathlib.Core.Logic.{◌≢◌}
use mathlib.Core.Path.{◌≡◌, refl, sym, ap, subst, ◌∙◌}
use mathlib.Core.Bool.{Bool, true, false}
use mathlib.Core.List.{List, ◌++◌}
use native.Mathlib.Nat.{add-zero}
use lib.Dec.{leb}
use lib.ListN.{length, drop}
use Rattle.base.specs.Choice.{must}
use Rattle.base.specs.Outcome.{Outcome, Outcome.done, Outcome.refused, answer, after, number_of}
use Rattle.memory.specs.Placed.{placed}
use Rattle.frame.specs.Answers.{FrameReading, reading_of}
use Rattle.receiver_octets.specs.Kept as farm
use Rattle.receiver.specs.Channel as channel
use Rattle.receiver.specs.Receiver.{become, answered, arrived, by_reading, receive_of, unit_part, release_of}
use Rattle.farm.specs.declared.Event.TheVariants.{E9}
use Rattle.receiver.specs.declared.Receiver.{Receiver}
use Rattle.receiver.specs.declared.Received.{Received}
use Rattle.base.specs.Refusals.{optional_number}
use Rattle.base.specs.declared.Refusal.{Refusal}
use Rattle.farm.specs.declared.Variables.{Variables}
use Rattle.farm.specs.Table.{step_of}
use Rattle.farm.proofs.Cells.{e9_keeps}
use Rattle.receiver_octets.proofs.Restored as farm-restored
use Rattle.sender_values.specs.declared.SenderState.{SenderState}
use Rattle.sender.specs.declared.Sender.{Sender}
use Rattle.sender.specs.Answers.{Step}
use Rattle.sender.specs.Events.{lower_layer_of}
use Rattle.sender_octets.specs.Kept.{state_octets, octets_of, state_in, is_state, sender_in}
use Rattle.sender_octets.specs.Answer.{answer_octets}
use Rattle.sender_octets.proofs.Back.{state_only, refused_no_state}
use Rattle.pondreszi_receiver.specs.Receivers as receiver
use Rattle.pondreszi_sender.specs.Senders as sender
use Rattle.pondreszi_sender.specs.Senders.{Called, refused_call, done_call, called_with, called_by, lower_numbered, narrow_number, narrow_value, started_call, start_given}
use Rattle.called_session.specs.Refused.{Unchanged, RefusedKeeps}
use Rattle.called_session.proofs.Ways.{Way, refused_same, asks_ad, asks_bd, directs, ticks, lowers, words}
use Rattle.called_session.proofs.Sender.{placed_whole, reached}

-- what is written, by what comes of it
writes : {A : Type 0} (w : Outcome A) (output : List ℕ) → number_of (answer w) ≢ 0 → after w output ≡ output
writes (done octets more) output h = absurd (h refl)
writes (refused number place) output h = refl

-- The receiver.
starts : (x : Result Receiver Refusal) (state : List ℕ) → (receiver.starting x state).number ≢ 0 → (receiver.starting x state).state ≡ state
starts (Ok r) state = by (leb farm.state_octets (length state)) where
  old : receiver.Called
  old = record { number = 11; state = state }

  new : receiver.Called
  new = record { number = 0; state = farm.octets_of r ++ drop farm.state_octets state }

  by : (b : Bool) → (must b old new).number ≢ 0 → (must b old new).state ≡ state
  by true h = absurd (h refl)
  by false h = refl
starts (Err refusal) state = λ h. refl

-- a frame that is refused is E9, which changes nothing
read_same : (r : Receiver) (x : FrameReading) → optional_number (by_reading r x).refusal ≢ 0 → (by_reading r x).next ≡ r
unfolding by_reading arrived answered channel.answered
read_same r (Ok fields) h = absurd (h refl)
read_same r (Err refusal) h =
    ap (λ (n : ℕ). become n (step_of E9 0 r.farm.channel.variables) r) (add-zero r.farm.channel.held)
    ∙ ap (λ (v : Variables). become r.farm.channel.held v r) (e9_keeps 0 r.farm.channel.variables)

frame_same : (state frame : List ℕ) → (receiver.frame_call state frame).number ≢ 0 → (receiver.frame_call state frame).state ≡ state
unfolding receiver.frame_call receive_of
frame_same state frame = by (farm.is_state state) refl where
  r : Receiver
  r = farm.receiver_in state

  old : receiver.Frame
  old = record { number = 12; event = 0; unit = 0; first = 0; count = 0; state = state }

  new : receiver.Frame
  new = receiver.received (receive_of r frame) (unit_part r frame)

  by : (b : Bool) → farm.is_state state ≡ b → (must b old new).number ≢ 0 → (must b old new).state ≡ state
  by true e h = ap farm.octets_of (read_same r (reading_of frame r.farm.spacecraft r.farm.channel.number) h) ∙ farm-restored.state_only state e
  by false e h = refl

released_same : (x : Result Received Refusal) (state : List ℕ) → (receiver.released_by x state).number ≢ 0 → (receiver.released_by x state).state ≡ state
released_same (Ok a) state h = absurd (h refl)
released_same (Err refusal) state h = refl

release_same : (state : List ℕ) → (receiver.release_call state).number ≢ 0 → (receiver.release_call state).state ≡ state
unfolding receiver.release_call
release_same state = by (farm.is_state state) where
  old : receiver.Release
  old = record { number = 12; event = 0; state = state }

  new : receiver.Release
  new = receiver.released_by (release_of (farm.receiver_in state)) state

  by : (b : Bool) → (must b old new).number ≢ 0 → (must b old new).state ≡ state
  by true h = released_same (release_of (farm.receiver_in state)) state h
  by false h = refl

-- The sender.
new_same : (x : Result Sender Refusal) (state : List ℕ) → (started_call x state).number ≢ 0 → (started_call x state).state ≡ state
new_same (Err refusal) state = λ h. refl
new_same (Ok s) state = by (leb state_octets (length state)) where
  old : sender.New
  old = record { number = 11; state = state }

  new : sender.New
  new = record { number = 0; state = placed state 0 (octets_of s.fop) }

  by : (b : Bool) → (must b old new).number ≢ 0 → (must b old new).state ≡ state
  by true h = absurd (h refl)
  by false h = refl

module _ (state store output told : List ℕ) where
  -- an event that goes one of the two ways
  module _ (event : SenderState → Step) (goes : (s : SenderState) → Way s store output (event s)) where
    event_same : is_state state ≡ true → (s : SenderState) → s ≡ state_in state → (event s).answer.refusal ≢ 0
        → Unchanged (done_call (event s) state told) state store output
    event_same is s p h =
        let k = refused_same s store output (event s) (goes s) h in
        let o : octets_of (event s).answer.next.fop ≡ state = ap octets_of (k.next ∙ p) ∙ state_only state is in
        record {
          state = ap (placed state 0) o ∙ placed_whole state state refl;
          store = k.store_kept;
          output = k.output_kept;
        }

    -- what a call leaves, by the sender that its octets give
    abbrev Kept : Result Sender Refusal → Type 0
    Kept x = (called_with x event state store output told).number ≢ 0 → Unchanged (called_with x event state store output told) state store output

    called_same : (called_by event state store output told).number ≢ 0 → Unchanged (called_by event state store output told) state store output
    called_same = by (is_state state) refl where
      on : Called
      on = done_call (event (state_in state)) state told

      none : Called
      none = refused_call 11 state store output told

      room : is_state state ≡ true → (b : Bool) → (must b none on).number ≢ 0 → Unchanged (must b none on) state store output
      room e true h = event_same e (state_in state) refl h
      room e false h = record { state = refl; store = refl; output = refl }

      by : (b : Bool) → is_state state ≡ b → Kept (sender_in state)
      by true e = subst Kept (sym (reached state e)) (room e (leb answer_octets (length told)))
      by false e = subst Kept (sym (refused_no_state state e)) (λ h. record { state = refl; store = refl; output = refl })

  lower_same : (n : ℕ) → (sender.lower_call state n store output told).number ≢ 0
      → Unchanged (sender.lower_call state n store output told) state store output
  unfolding sender.lower_call
  lower_same n = by (leb 1 n) (leb n 6) where
    on : Called
    on = called_by (λ s. lower_layer_of (lower_numbered n) s store output) state store output told

    by : (a b : Bool)
        → (must a (refused_call 12 state store output told) (must b (refused_call 12 state store output told) on)).number ≢ 0
        → Unchanged (must a (refused_call 12 state store output told) (must b (refused_call 12 state store output told) on)) state store output
    by true true h = called_same (λ s. lower_layer_of (lower_numbered n) s store output) (λ s. lowers s store output (lower_numbered n)) h
    by true false h = record { state = refl; store = refl; output = refl }
    by false b h = record { state = refl; store = refl; output = refl }

pub refused_keeps : RefusedKeeps
unfolding receiver.new_call sender.new_call sender.request_ad_call sender.request_bd_call sender.directive_call sender.tick_call sender.word_call
refused_keeps = record {
  writers = writes;
  receiver_new = λ spacecraft channel window vr buffers state. starts (receiver.start_given spacecraft channel window vr buffers) state;
  receiver_frame = frame_same;
  receiver_release = release_same;
  sender_new = λ k t1 limit type spacecraft channel vs nnr store state.
      new_same (start_given k t1 limit type spacecraft channel vs nnr (length store)) state;
  request_ad = λ state unit store output told. called_same state store output told _ (λ s. asks_ad s store output unit);
  request_bd = λ state unit store output told. called_same state store output told _ (λ s. asks_bd s store output unit);
  directive = λ state d v store output told. called_same state store output told _ (λ s. directs s store output (narrow_number d v) (narrow_value v));
  tick = λ state store output told. called_same state store output told _ (λ s. ticks s store output);
  lower_layer = λ state n store output told. lower_same state store output told n;
  control_word = λ state word store output told. called_same state store output told _ (λ s. words s store output word);
}
