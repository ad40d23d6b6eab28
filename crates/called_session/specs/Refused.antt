-- "A refusal changes no octet of any lent buffer", of every exported function, whatever octets are lent as its state: a number other than 0
-- leaves state, store and output as they were. The answer's buffer is the one exception: it is where a sender's event is told, a refused one too.
-- The functions that are not here lend no buffer to be written: they return a number, or tell numbers that are always written.
use Rattle.std.specs.Prelude.{ℕ, ◌≢◌, ◌≡◌, List}
use Rattle.base.specs.Outcome.{Outcome, answer, after, number_of}
use Rattle.pondreszi_sender.specs.Senders.{Called, request_ad_call, request_bd_call, tick_call, word_call, lower_call, directive_call}
use Rattle.pondreszi_sender.specs.Senders as sender
use Rattle.pondreszi_receiver.specs.Receivers as receiver

-- a call that left what was lent as it was
pub record Unchanged (call : Called) (old_state old_store old_output : List ℕ) : Type 0 where
  pub state : call.state ≡ old_state
  pub store : call.store ≡ old_store
  pub output : call.output ≡ old_output

-- by exported function
pub record RefusedKeeps : Type 1 where
  -- `pondreszi_codeblock_judge`, `_cltu_write`, `_cltu_read`, `_frame_write_ad`, `_frame_write_bd`, `_frame_write_unlock`, `_frame_write_set_vr`,
  -- `_clcw_write`, `_receiver_word`: their contracts give the output as what an `Outcome` leaves, and the number by its answer; so it is a law of outcomes
  pub writers : {A : Type 0} (w : Outcome A) (output : List ℕ) → number_of (answer w) ≢ 0 → after w output ≡ output
  -- `pondreszi_receiver_new`, `_receiver_frame`, `_receiver_release`
  pub receiver_new : (spacecraft channel window vr buffers : ℕ) (state : List ℕ)
      → (receiver.new_call spacecraft channel window vr buffers state).number ≢ 0
      → (receiver.new_call spacecraft channel window vr buffers state).state ≡ state
  pub receiver_frame : (state frame : List ℕ) → (receiver.frame_call state frame).number ≢ 0 → (receiver.frame_call state frame).state ≡ state
  pub receiver_release : (state : List ℕ) → (receiver.release_call state).number ≢ 0 → (receiver.release_call state).state ≡ state
  -- `pondreszi_sender_new`
  pub sender_new : (k t1 limit type spacecraft channel vs nnr : ℕ) (store state : List ℕ)
      → (sender.new_call k t1 limit type spacecraft channel vs nnr store state).number ≢ 0
      → (sender.new_call k t1 limit type spacecraft channel vs nnr store state).state ≡ state
  -- `pondreszi_sender_request_ad`, `_request_bd`, `_directive`, `_tick`, `_lower_layer`, `_control_word`
  pub request_ad : (state unit store output told : List ℕ) → (request_ad_call state unit store output told).number ≢ 0
      → Unchanged (request_ad_call state unit store output told) state store output
  pub request_bd : (state unit store output told : List ℕ) → (request_bd_call state unit store output told).number ≢ 0
      → Unchanged (request_bd_call state unit store output told) state store output
  pub directive : (state : List ℕ) (d v : ℕ) (store output told : List ℕ) → (directive_call state d v store output told).number ≢ 0
      → Unchanged (directive_call state d v store output told) state store output
  pub tick : (state store output told : List ℕ) → (tick_call state store output told).number ≢ 0
      → Unchanged (tick_call state store output told) state store output
  pub lower_layer : (state : List ℕ) (n : ℕ) (store output told : List ℕ) → (lower_call state n store output told).number ≢ 0
      → Unchanged (lower_call state n store output told) state store output
  pub control_word : (state word store output told : List ℕ) → (word_call state word store output told).number ≢ 0
      → Unchanged (word_call state word store output told) state store output
