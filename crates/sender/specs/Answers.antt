-- What the sender answers: document 01's answer to an event, and its refusals.
use Rattle.std.specs.Prelude.{ℕ, false, List, eqb, replicate, Option, None, Some}
use Rattle.base.specs.Choice.{pick}
use Rattle.base.specs.Outcome.{Outcome, Answer.done, Answer.refused, answer, after}
use Rattle.base.specs.Outcome as outcome
use Rattle.fop.specs.declared.Event.{Event as FopEvent}
use Rattle.fop.specs.declared.Event.TheVariants.{E40}
use Rattle.sender_values.specs.declared.Handed.{Handed}
use Rattle.sender_values.specs.declared.Handed.TheVariants as handed
use Rattle.fop.specs.declared.Response.TheVariants.{RejectDirective}
use Rattle.sender_values.specs.declared.Responses.{Responses}
use Rattle.fop.specs.declared.Run.{Run}
use Rattle.sender_values.specs.declared.SenderState.{SenderState}
use Rattle.sender_values.specs.declared.Work.{Work}
use Rattle.sender_values.specs.Actions.{response_number, responses_with}
use Rattle.sender_values.specs.Limits.{largest_responses}
use Rattle.sender_values.specs.Start.{sender_of}
use Rattle.sender.specs.declared.Answer.{Answer}
use Rattle.sender.specs.declared.FrameKind.{FrameKind}
use Rattle.sender.specs.declared.FrameKind.TheVariants as kind

-- no response
abbrev pub no_responses : Responses
no_responses = record { count = 0; numbers = replicate largest_responses 0 }

-- 12 is the table's reject of the invalid directive (E40)
abbrev pub refused_responses : ℕ → Responses
refused_responses number = pick (eqb number 12) (responses_with (response_number RejectDirective) no_responses) no_responses

-- and E40 is its event; any other refusal is no event
abbrev pub refused_event : ℕ → Option FopEvent
refused_event number = pick (eqb number 12) (Some E40) None

-- "0 and 0 where empty"
abbrev pub empty_run : Run
empty_run = record { number = 0; count = 0 }

-- table 6-3 and clause 7.8: the kind of the frame handed down
abbrev pub kind_handed : Option Handed → Option FrameKind
kind_handed None = None
kind_handed (Some (handed.Ad n i)) = Some kind.Ad
kind_handed (Some handed.Bd) = Some kind.Bd
kind_handed (Some handed.Unlock) = Some kind.Unlock
kind_handed (Some (handed.SetVr n)) = Some kind.SetVr

-- an event that is not refused: the table's event, if it is one, the count of octets handed down, and what the work tells
unfoldable pub answered : Option FopEvent → ℕ → Work → List ℕ → Answer
answered event down w lengths = record {
  refusal = 0;
  event = event;
  state = w.state;
  down = down;
  abort = w.told.abort;
  alert = w.told.alert;
  suspended = w.told.suspended;
  responses = w.told.responses;
  confirmed = w.told.confirmed;
  denied = w.told.denied;
  kind = kind_handed w.told.handed;
  next = record { fop = sender_of w lengths };
}

-- a refusal by its number: nothing changes
unfoldable pub refusing : ℕ → SenderState → Answer
refusing number s = record {
  refusal = number;
  event = refused_event number;
  state = s.state;
  down = 0;
  abort = false;
  alert = None;
  suspended = false;
  responses = refused_responses number;
  confirmed = empty_run;
  denied = empty_run;
  kind = None;
  next = record { fop = s };
}

-- the answer, the store and the output after an event
pub record Step : Type 0 where
  pub answer : Answer
  pub store : List ℕ
  pub output : List ℕ

-- a refused event: "A refusal changes no octet of any lent buffer."
abbrev pub refused_step : ℕ → SenderState → List ℕ → List ℕ → Step
refused_step number s store output = record { answer = refusing number s; store = store; output = output }

-- the answer by what writing the frame handed down came to
abbrev pub concluded : Option FopEvent → SenderState → Work → List ℕ → outcome.Answer (Unit {0}) → Answer
concluded event s w lengths (done count more) = answered event count w lengths
concluded event s w lengths (refused number place) = refusing number s

-- the store by the same: changed only where the event is done
abbrev pub stored : outcome.Answer (Unit {0}) → List ℕ → List ℕ → List ℕ
stored (done count more) new old = new
stored (refused number place) new old = old

-- an event judged, by what writing the frame handed down comes to; after it the units have these lengths
abbrev pub step_by : Option FopEvent → SenderState → Work → List ℕ → Outcome (Unit {0}) → List ℕ → List ℕ → List ℕ → Step
step_by event s w lengths writing new old output =
    record { answer = concluded event s w lengths (answer writing); store = stored (answer writing) new old; output = after writing output }
