-- Our two ends as callers in C and Rust have them: states as octets that the caller keeps, answers as octets and numbers. Each event of the
-- session is one call, by the definition that the exported function equals (crates pondreszi_sender and pondreszi_receiver).
use Rattle.std.specs.Prelude.{ℕ, ◌≡◌, true, List, eqb, take, drop, replicate}
use Rattle.std.proofs.Math.Option.{Option, none, some}
use Rattle.base.specs.Choice.{pick}
use Rattle.base.specs.Outcome.{Outcome, answer, after, number_of, count_of}
use Rattle.fop.specs.Units.{are_octets}
use Rattle.fop.specs.Events.{SenderEvent, request_ad, request_bd, tick, lower, directive, word_arrives}
use Rattle.fop.specs.declared.Lower.{Lower}
use Rattle.fop.specs.Answers.{Answer}
use Rattle.sender_view.specs.View.{responses_of}
use Rattle.receiver_octets.specs.Kept.{octets_of as receiver_octets}
use Rattle.session.specs.Receiver.{ReceiverEvent, frame_arrives, release_buffer, ReceiverAnswer, WordAnswer}
pub use Rattle.session.specs.Receiver.{event_numbered}
use Rattle.session.specs.Ends.{Settings, Ends, start_receiver}
use Rattle.sender.specs.Answers.{refused_step}
use Rattle.sender_octets.specs.Kept.{is_state, state_in}
use Rattle.sender_octets.specs.Answer.{answer_octets, answer_in}
use Rattle.pondreszi_sender.specs.Senders.{Called, called_by, request_ad_call, request_bd_call, tick_call, word_call, lower_call, directive_call}
use Rattle.pondreszi_receiver.specs.Receivers as receiver
use Rattle.our_session.specs.Ours.{Held, Begins, event_told, handed_down, lent_output}

-- what a caller keeps of a sender: the octets of its state, and its store
pub record Kept : Type 0 where
  pub state : List ℕ
  pub store : List ℕ

-- an answer's buffer of exactly its length; what it held is not looked at (proofs/Sender, `answer_buffer_free`)
abbrev pub lent_answer : List ℕ
lent_answer = replicate answer_octets 0

-- the numbers of the lower layer's answers, 1 to 6
abbrev pub lower_called : Lower → ℕ
lower_called Lower.AdAccept = 1
lower_called Lower.AdReject = 2
lower_called Lower.BcAccept = 3
lower_called Lower.BcReject = 4
lower_called Lower.BdAccept = 5
lower_called Lower.BdReject = 6

-- units and words are lent as octets; a list with a number above 255 cannot be lent, and counts as one of a wrong length (10), as it does in
-- crate fop, specs/Units
abbrev pub if_octets : List ℕ → List ℕ → Kept → Called → Called
if_octets o output x called =
    pick (are_octets o) called (called_by (λ s. refused_step 10 s x.store output) x.state x.store output lent_answer)

-- the call that each event of the session is
unfoldable pub call_of : SenderEvent → List ℕ → Kept → Called
call_of (request_ad o) output x = if_octets o output x (request_ad_call x.state o x.store output lent_answer)
call_of (request_bd o) output x = if_octets o output x (request_bd_call x.state o x.store output lent_answer)
call_of tick output x = tick_call x.state x.store output lent_answer
call_of (lower l) output x = lower_call x.state (lower_called l) x.store output lent_answer
call_of (directive d v) output x = directive_call x.state d v x.store output lent_answer
call_of (word_arrives s) output x = if_octets s output x (word_call x.state s x.store output lent_answer)

-- what the caller keeps after it
abbrev pub kept_after : Called → Kept
kept_after called = record { state = called.state; store = called.store }

-- document 01's answer, by the number returned, the answer's octets and the output
unfoldable pub answer_called : Called → Answer
answer_called called = record {
  refusal = called.number;
  event = event_told (answer_in called.answer).met;
  state = (answer_in called.answer).state;
  down = handed_down (answer_in called.answer).down called.output;
  abort = (answer_in called.answer).abort;
  responses = responses_of (answer_in called.answer).responses;
  alert = (answer_in called.answer).alert;
  suspended = (answer_in called.answer).suspended;
  confirmed = (answer_in called.answer).confirmed;
  denied = (answer_in called.answer).denied;
}

-- the unit accepted: `count` octets of the caller's frame from `first` on
abbrev pub unit_called : receiver.Frame → List ℕ → Option (List ℕ)
unit_called told frame = pick (eqb told.unit 0) none (some (take told.count (drop told.first frame)))

-- what the receiver tells of a frame and of a release
unfoldable pub receiver_called : ReceiverEvent → List ℕ → ReceiverAnswer
receiver_called (frame_arrives s) state =
    record {
      refusal = (receiver.frame_call state s).number;
      event = event_numbered (receiver.frame_call state s).event;
      unit = unit_called (receiver.frame_call state s) s;
    }
receiver_called release_buffer state =
    record { refusal = (receiver.release_call state).number; event = event_numbered (receiver.release_call state).event; unit = none }

-- the octets of its state after it
unfoldable pub receiver_after : ReceiverEvent → List ℕ → List ℕ
receiver_after (frame_arrives s) state = (receiver.frame_call state s).state
receiver_after release_buffer state = (receiver.release_call state).state

-- its control word: `count` octets at the front of the output, where it is not refused
abbrev pub word_written : Outcome (Unit {0}) → List ℕ → WordAnswer
word_written w output = record {
  refusal = number_of (answer w);
  word = pick (eqb (number_of (answer w)) 0) (some (take (count_of (answer w)) (after w output))) none;
}

-- the sender and store that a caller keeps, as crate our_session has them
abbrev pub held_in : Kept → Held
held_in x = record { sender = record { fop = state_in x.state }; store = x.store }

-- "It starts synchronised and active": the octets of a state, and the sender that they hold begins the session
pub record BeginsKept (set : Settings) (x : Kept) : Type 0 where
  pub is : is_state x.state ≡ true
  pub begins : Begins set (held_in x)

-- the two ends of a caller, with what it keeps of the sender at the start; the receiver's state is that of the session's start
abbrev pub called : Settings → Kept → Ends
called set x = record {
  Sender = Kept;
  Receiver = List ℕ;
  sender = x;
  receiver = receiver_octets (start_receiver set);
  next = λ e lent x. kept_after (call_of e (lent_output lent) x);
  answer = λ e lent x. answer_called (call_of e (lent_output lent) x);
  next_receiver = receiver_after;
  answer_receiver = receiver_called;
  word = λ lent state. word_written (receiver.word_call state lent) (lent_output lent);
}
