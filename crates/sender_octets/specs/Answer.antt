-- The sender's answer as 18 octets.
--
--   0 refusal            3-4 octets of the frame handed down     8 count of responses          13 confirmed, first number   15 denied, first number
--   1 event of table 7-8 5 abort (1 or 0)                        9-12 the responses, 1 to 8    14 confirmed, count          16 denied, count
--   2 state, 1 to 6      6 alert, 0 to 8; 7 suspended (1 or 0)                                 17 kind of the frame handed down
--
-- The responses: 1 and 2 accept and reject of an AD unit, 3 and 4 of a BD unit, 5 and 6 of a directive; 7 and 8 positive and negative confirm of
-- a directive. The alerts: 1 synch, 2 CLCW, 3 limit, 4 NN(R), 5 lockout, 6 T1, 7 term, 8 LLIF; 0 none.
-- The kinds: 1 AD, 2 BD, 3 Unlock, 4 Set V(R); 0 none.
use Rattle.std.specs.Prelude.{ℕ, ◌/◌, ◌%◌, Bool, List, [], ◌∷◌, Option, None, Some, eqb, take, drop, get_or}
use Rattle.base.specs.Choice.{pick}
use Rattle.base.specs.Flags.{bit_of, is_set}
use Rattle.sender_values.specs.Limits.{largest_responses}
use Rattle.fop.specs.declared.Alert.{Alert}
use Rattle.fop.specs.declared.Alert.TheVariants as alert
use Rattle.fop.specs.declared.Event.{Event as FopEvent}
use Rattle.fop.specs.Table.{event_number, event_of, as_code}
use Rattle.sender_values.specs.declared.Responses.{Responses}
use Rattle.fop.specs.declared.Run.{Run}
use Rattle.fop.specs.declared.State.{State as FopState}
use Rattle.sender.specs.declared.Answer.{Answer}
use Rattle.sender.specs.declared.FrameKind.{FrameKind}
use Rattle.sender.specs.declared.FrameKind.TheVariants as kind
use Rattle.sender_octets.specs.Kept.{state_number, state_numbered, pair_at}

-- the octets of an answer
abbrev pub answer_octets : ℕ
answer_octets = 18

-- table 7-4: the reason of an Alert notification by number, 0 where there is none
abbrev pub alert_number : Option Alert → ℕ
alert_number None = 0
alert_number (Some alert.Synch) = 1
alert_number (Some alert.Clcw) = 2
alert_number (Some alert.Limit) = 3
alert_number (Some alert.Nnr) = 4
alert_number (Some alert.Lockout) = 5
alert_number (Some alert.T1) = 6
alert_number (Some alert.Term) = 7
alert_number (Some alert.Llif) = 8

-- and back; any other number as none
abbrev pub alert_numbered : ℕ → Option Alert
alert_numbered n =
    pick (eqb n 1) (Some alert.Synch)
    (pick (eqb n 2) (Some alert.Clcw)
    (pick (eqb n 3) (Some alert.Limit)
    (pick (eqb n 4) (Some alert.Nnr)
    (pick (eqb n 5) (Some alert.Lockout)
    (pick (eqb n 6) (Some alert.T1) (pick (eqb n 7) (Some alert.Term) (pick (eqb n 8) (Some alert.Llif) None)))))))

-- table 6-3 and clause 7.8: the kind of the frame handed down by number
abbrev pub kind_number : Option FrameKind → ℕ
kind_number None = 0
kind_number (Some kind.Ad) = 1
kind_number (Some kind.Bd) = 2
kind_number (Some kind.Unlock) = 3
kind_number (Some kind.SetVr) = 4

-- and back; any other number as none
abbrev pub kind_numbered : ℕ → Option FrameKind
kind_numbered n =
    pick (eqb n 1) (Some kind.Ad) (pick (eqb n 2) (Some kind.Bd) (pick (eqb n 3) (Some kind.Unlock) (pick (eqb n 4) (Some kind.SetVr) None)))

-- the event of table 7-8 by number, 0 where there is none
abbrev pub number_if : Option FopEvent → ℕ
number_if None = 0
number_if (Some e) = event_number e

-- and back; any other number as none
abbrev pub event_numbered : ℕ → Option FopEvent
event_numbered n = as_code (event_of n)

-- an answer as octets
unfoldable pub octets_of_answer : Answer → List ℕ
octets_of_answer a =
    a.refusal ∷ number_if a.event ∷ state_number a.state ∷ a.down / 256 % 256 ∷ a.down % 256 ∷ bit_of a.abort ∷ alert_number a.alert ∷ bit_of a.suspended
    ∷ a.responses.count ∷ get_or a.responses.numbers 0 0 ∷ get_or a.responses.numbers 1 0 ∷ get_or a.responses.numbers 2 0 ∷ get_or a.responses.numbers 3 0
    ∷ a.confirmed.number ∷ a.confirmed.count ∷ a.denied.number ∷ a.denied.count ∷ kind_number a.kind ∷ []

-- document 01, "Each event's answer gives ..": all that an answer tells; the next state's own octets are another buffer's (specs/Kept). The event
-- stands in it by its number, as the octet has it, and itself, `met`.
pub record Told : Type 0 where
  pub refusal : ℕ
  pub event : ℕ
  pub met : Option FopEvent
  pub state : FopState
  pub down : ℕ
  pub abort : Bool
  pub alert : Option Alert
  pub suspended : Bool
  pub responses : Responses
  pub confirmed : Run
  pub denied : Run
  pub kind : Option FrameKind

-- what an answer tells
abbrev pub told_by : Answer → Told
told_by a = record {
  refusal = a.refusal;
  event = number_if a.event;
  met = a.event;
  state = a.state;
  down = a.down;
  abort = a.abort;
  alert = a.alert;
  suspended = a.suspended;
  responses = a.responses;
  confirmed = a.confirmed;
  denied = a.denied;
  kind = a.kind;
}

-- what the octets of an answer tell
unfoldable pub answer_in : List ℕ → Told
answer_in o = record {
  refusal = get_or o 0 0;
  event = get_or o 1 0;
  met = event_numbered (get_or o 1 0);
  state = state_numbered (get_or o 2 0);
  down = pair_at o 3;
  abort = is_set (get_or o 5 0) 1;
  alert = alert_numbered (get_or o 6 0);
  suspended = is_set (get_or o 7 0) 1;
  responses = record { count = get_or o 8 0; numbers = take largest_responses (drop 9 o) };
  confirmed = record { number = get_or o 13 0; count = get_or o 14 0 };
  denied = record { number = get_or o 15 0; count = get_or o 16 0 };
  kind = kind_numbered (get_or o 17 0);
}
