-- The receiver's end of the session: crate receiver's definitions, as events and answers.
use Rattle.std.specs.Prelude.{List, ℕ, Some, None, Result, Ok, Err, eqb}
use Rattle.std.specs.Prelude as code
use Rattle.std.proofs.Math.Option.{Option, none, some}
use Rattle.base.specs.Choice.{pick}
use Rattle.base.specs.Outcome.{Outcome, Outcome.done, Outcome.refused}
use Rattle.clcw.specs.Clcw.{writing}
use Rattle.receiver.specs.Receiver.{receive_of, unit_part, release_of, word_of}
use Rattle.farm.specs.declared.Event.{Event as FarmEvent}
use Rattle.farm.specs.declared.Event.TheVariants.{E1, E2, E3, E4, E5, E6, E7, E8, E9, E10, E11}
use Rattle.receiver.specs.declared.Receiver.{Receiver}
use Rattle.receiver.specs.declared.Received.{Received}
use Rattle.farm.specs.declared.AcceptedUnit.{AcceptedUnit}
use Rattle.base.specs.declared.Refusal.{Refusal}
use Rattle.base.specs.Refusals.{refusal_number, optional_number}

-- what the receiver is asked: "to the receiver the oldest frame or a release"
pub data ReceiverEvent : Type 0 where
  frame_arrives : List ℕ → ReceiverEvent
  release_buffer : ReceiverEvent

-- the refusal (with E9 the frame's, which is still an event; 13 for a release when none is taken), the event of table 7-9 if any, and the
-- unit handed out if any
pub record ReceiverAnswer : Type 0 where
  pub refusal : ℕ
  pub event : Option FarmEvent
  pub unit : Option (List ℕ)

-- the event of table 7-9 by the number that a caller is told; 0 is none
abbrev pub event_numbered : ℕ → Option FarmEvent
event_numbered n =
    pick (eqb n 1) (some E1) (pick (eqb n 2) (some E2) (pick (eqb n 3) (some E3) (pick (eqb n 4) (some E4) (pick (eqb n 5) (some E5)
    (pick (eqb n 6) (some E6) (pick (eqb n 7) (some E7) (pick (eqb n 8) (some E8) (pick (eqb n 9) (some E9) (pick (eqb n 10) (some E10)
    (pick (eqb n 11) (some E11) none))))))))))

-- the receiver after a release: refused, it is as it was
abbrev pub after_release : Result Received Refusal → Receiver → Receiver
after_release (Ok received) r = received.next
after_release (Err refusal) r = r

-- the receiver after an event
unfoldable pub receiver_next : ReceiverEvent → Receiver → Receiver
receiver_next (frame_arrives s) r = (receive_of r s).next
receiver_next release_buffer r = after_release (release_of r) r

-- the unit handed out: the frame's data part where a unit is accepted
abbrev pub handed_out : code.Option AcceptedUnit → List ℕ → Option (List ℕ)
handed_out None part = none
handed_out (Some unit) part = some part

-- the answer to a frame; one that is refused is E9 with the refusal's number
abbrev pub frame_answer : Received → List ℕ → ReceiverAnswer
frame_answer received part =
    record { refusal = optional_number received.refusal; event = some received.event; unit = handed_out received.unit part }

-- the answer to a release: E10, or 13
abbrev pub release_answer : Result Received Refusal → ReceiverAnswer
release_answer (Ok received) = record { refusal = optional_number received.refusal; event = some received.event; unit = none }
release_answer (Err refusal) = record { refusal = refusal_number refusal; event = none; unit = none }

-- what the receiver answers
unfoldable pub receiver_answer : ReceiverEvent → Receiver → ReceiverAnswer
receiver_answer (frame_arrives s) r = frame_answer (receive_of r s) (unit_part r s)
receiver_answer release_buffer r = release_answer (release_of r)

-- clause 6.3.1: a control word is four octets
abbrev pub word_length : ℕ
word_length = 4

-- what the receiver answers when its control word is asked for (E11): the refusal, 0 for done, and the word's octets where it is not refused
pub record WordAnswer : Type 0 where
  pub refusal : ℕ
  pub word : Option (List ℕ)

-- by what writing the word comes to
abbrev pub word_told : Outcome (Unit {0}) → WordAnswer
word_told (done octets more) = record { refusal = 0; word = some octets }
word_told (refused number place) = record { refusal = number; word = none }

-- "the receiver's control word, with V(R), flags and counter as table 7-9 gives them", written by crate clcw into room of this length
unfoldable pub receiver_word : ℕ → Receiver → WordAnswer
receiver_word lent r = word_told (writing (word_of r) lent)
