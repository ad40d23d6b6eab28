-- What the sender answers, and when it refuses: "Sender events are judged 10, 12, 7, 11, then by the table."
use Rattle.std.specs.Prelude.{Bool, false, List, [], ◌∷◌, ℕ, leb, eqb, length, None}
use Rattle.std.specs.Prelude as code
use Rattle.std.proofs.Math.Option.{Option, none, some}
use Rattle.base.specs.Choice.{pick}
use Rattle.fop.specs.Units.{Fdu, Frame, Own, WordReceived, valid, invalid, other, legal, written, read_word}
use Rattle.fop.specs.declared.Alert.{Alert}
use Rattle.fop.specs.declared.Response.{Response}
use Rattle.fop.specs.declared.Response.TheVariants.{RejectDirective}
use Rattle.fop.specs.declared.Run.{Run}
use Rattle.fop.specs.declared.State.{State}
use Rattle.fop.specs.declared.Event.{Event as FopEvent}
use Rattle.fop.specs.declared.Event.TheVariants.{E40}
use Rattle.fop.specs.Variables.{Fop, Work}
use Rattle.fop.specs.Events.{SenderEvent, request_ad, request_bd, tick, lower, directive, word_arrives, valid_directive, work}

-- "two runs of units, confirmed and denied, each by first number and count, 0 and 0 where empty": units that follow one another, as a run
abbrev pub run_of : List Fdu → Run
run_of [] = record { number = 0; count = 0 }
run_of (u ∷ us) = record { number = u.ns; count = length (u ∷ us) }

-- document 01: "Each event's answer gives the next state, the frame handed down if any, any abort to the lower layer, every response of the
-- table's actions in their order .., the alert if any with its reason, and two runs of units". Besides: document 01's refusal, 0 for done;
-- the event of table 7-8, if any; and whether a Suspend notification is issued (clause 7.9.2.18; document 02, order 9).
pub record Answer : Type 0 where
  pub refusal : ℕ
  pub event : Option FopEvent
  pub state : State
  pub down : Option (List ℕ)
  pub abort : Bool
  pub responses : List Response
  pub alert : code.Option Alert
  pub suspended : Bool
  pub confirmed : Run
  pub denied : Run

-- the octets of the frame handed down, if any (at most one: session, proofs/Few)
abbrev pub octets_down : Own → List Frame → Option (List ℕ)
octets_down own [] = none
octets_down own (x ∷ xs) = some (written own x)

-- the room that the frame handed down needs, exactly
abbrev pub room : Option (List ℕ) → ℕ
room none = 0
room (some s) = length s

-- the room that an event needs: none where no frame is handed down
unfoldable pub needed : Own → SenderEvent → Fop → ℕ
needed own e f = room (octets_down own (work own e f).frames)

-- 7 for another channel's word, 10 for one not of four octets; an invalid word is no refusal
abbrev pub other_refusal : WordReceived → ℕ
other_refusal (valid w) = 0
other_refusal invalid = 0
other_refusal (other r) = r

-- 10, 12 and 7: length, directive, channel
unfoldable pub judged : Own → SenderEvent → ℕ
judged own (request_ad o) = pick (legal o) 0 10
judged own (request_bd o) = pick (legal o) 0 10
judged own tick = 0
judged own (lower l) = 0
judged own (directive d v) = pick (valid_directive d v) 0 12
judged own (word_arrives s) = other_refusal (read_word own s)

-- then 11: the room lent is shorter than the need
unfoldable pub sender_refusal : Own → SenderEvent → ℕ → Fop → ℕ
sender_refusal own e lent f = pick (eqb (judged own e) 0) (pick (leb (needed own e f) lent) 0 11) (judged own e)

-- the answer to an event that is not refused
abbrev pub answered : Own → Work → Answer
answered own w = record {
  refusal = 0;
  event = w.asked.event;
  state = w.fop.state;
  down = octets_down own w.frames;
  abort = w.notices.abort;
  responses = w.responses;
  alert = w.notices.alert;
  suspended = w.notices.suspended;
  confirmed = run_of w.confirmed;
  denied = run_of w.denied;
}

-- a refusal; 12 is the table's reject of the invalid directive (E40)
abbrev pub refused : ℕ → Fop → Answer
refused r f = record {
  refusal = r;
  event = pick (eqb r 12) (some E40) none;
  state = f.state;
  down = none;
  abort = false;
  responses = pick (eqb r 12) (RejectDirective ∷ []) [];
  alert = None;
  suspended = false;
  confirmed = run_of [];
  denied = run_of [];
}

-- `lent` is the length of the output lent for a frame
unfoldable pub sender_answer : Own → SenderEvent → ℕ → Fop → Answer
sender_answer own e lent f =
    pick (eqb (sender_refusal own e lent f) 0) (answered own (work own e f)) (refused (sender_refusal own e lent f) f)

-- a refusal keeps the state
unfoldable pub sender_next : Own → SenderEvent → ℕ → Fop → Fop
sender_next own e lent f = pick (eqb (sender_refusal own e lent f) 0) (work own e f).fop f
