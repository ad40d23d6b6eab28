-- Our own two ends in document 01's session: the sender by the definitions that its public functions equal (crate sender), the receiver by
-- crate receiver's.
use Rattle.std.specs.Prelude as code
use Rattle.std.specs.Prelude.{ℕ, ◌≡◌, List, [], ◌∷◌, Some, None, Result, Ok, Err, eqb, length, take, replicate}
use Rattle.std.proofs.Math.Option.{Option, none, some}
use Rattle.base.specs.Choice.{pick}
use Rattle.base.specs.declared.Refusal.{Refusal}
use Rattle.fop.specs.Units.{are_octets}
use Rattle.fop.specs.Events.{SenderEvent, request_ad, request_bd, tick, lower, directive, word_arrives}
use Rattle.fop.specs.Variables.{Fop}
use Rattle.fop.specs.Answers.{Answer}
use Rattle.fop.specs.declared.Event.{Event as FopEvent}
use Rattle.sender_values.specs.declared.Settings.{Settings as SenderSettings}
use Rattle.sender_values.specs.Start.{start_of, begun}
use Rattle.sender_view.specs.View.{responses_of, fop_of}
use Rattle.sender_rows_view.specs.State.{Good}
use Rattle.receiver.specs.declared.Receiver.{Receiver}
use Rattle.session.specs.Ends.{Settings, Ends, start_sender, start_receiver}
use Rattle.session.specs.Receiver.{receiver_next, receiver_answer, receiver_word}
use Rattle.sender.specs.declared.Sender.{Sender}
use Rattle.sender.specs.declared.Answer.{Answer as SenderAnswer}
use Rattle.sender.specs.Answers.{Step, refused_step}
use Rattle.sender.specs.Start.{starting_of}
use Rattle.sender.specs.Events.{request_ad_of, request_bd_of, directive_of, tick_of, lower_layer_of, control_word_of}

-- the sender with its store: "The lent store of units is part of the state."
pub record Held : Type 0 where
  pub sender : Sender
  pub store : List ℕ

-- units and words are lent as octets; a list with a number above 255 cannot be lent, and counts as one of a wrong length (10), as it does
-- in crate fop, specs/Units
abbrev pub if_octets : List ℕ → Held → List ℕ → Step → Step
if_octets o x output step = pick (are_octets o) step (refused_step 10 x.sender.fop x.store output)

-- what each event of the session is to our sender
unfoldable pub step_of : SenderEvent → List ℕ → Held → Step
step_of (request_ad o) output x = if_octets o x output (request_ad_of x.sender.fop o x.store output)
step_of (request_bd o) output x = if_octets o x output (request_bd_of x.sender.fop o x.store output)
step_of tick output x = tick_of x.sender.fop x.store output
step_of (lower l) output x = lower_layer_of l x.sender.fop x.store output
step_of (directive d v) output x = directive_of d v x.sender.fop x.store output
step_of (word_arrives s) output x = if_octets s x output (control_word_of s x.sender.fop x.store output)

-- the sender and its store after it
abbrev pub held_after : Step → Held
held_after step = record { sender = step.answer.next; store = step.store }

-- the frame handed down: the first `count` octets of the output
abbrev pub handed_down : ℕ → List ℕ → Option (List ℕ)
handed_down count output = pick (eqb count 0) none (some (take count output))

-- the event of table 7-8, if it is one
abbrev pub event_told : code.Option FopEvent → Option FopEvent
event_told None = none
event_told (Some event) = some event

-- document 01's answer, by what our sender answers and leaves in the output
abbrev pub answer_of : SenderAnswer → List ℕ → Answer
answer_of a output = record {
  refusal = a.refusal;
  event = event_told a.event;
  state = a.state;
  down = handed_down a.down output;
  abort = a.abort;
  responses = responses_of a.responses;
  alert = a.alert;
  suspended = a.suspended;
  confirmed = a.confirmed;
  denied = a.denied;
}

-- the answer of a step
abbrev pub answer_by : Step → Answer
answer_by step = answer_of step.answer step.output

-- output of this length; what it held is not looked at (proofs/Output, `output_content_free`)
abbrev pub lent_output : ℕ → List ℕ
lent_output lent = replicate lent 0

-- the sender's part of the settings
abbrev pub sender_settings : Settings → SenderSettings
sender_settings set = record {
  k = set.k;
  t1_initial = set.t1;
  transmission_limit = set.limit;
  timeout_type = set.timeout_type;
  spacecraft = set.own.spacecraft;
  channel = set.own.channel;
}

-- the least settings within the limits
abbrev pub least_settings : SenderSettings
least_settings = record { k = 1; t1_initial = 1; transmission_limit = 1; timeout_type = 0; spacecraft = 0; channel = 0 }

-- the sender that a start gives; where the start is refused there is none, and one with the least settings stands for it
abbrev pub sender_started : Result Sender Refusal → Sender
sender_started (Ok sender) = sender
sender_started (Err refusal) = record { fop = start_of least_settings 0 0 }

-- "A sender starts Initial, .. with the numbers and settings given", here one number for V(S) and NN(R), and the store that it is lent
unfoldable pub fresh_held : Settings → ℕ → List ℕ → Held
fresh_held set number store = record { sender = sender_started (starting_of (sender_settings set) number number (length store)); store = store }

-- the sender with its store after events, each with the room lent for its frame
abbrev pub held_after_all : List (SenderEvent × ℕ) → Held → Held
held_after_all [] x = x
held_after_all (e ∷ es) x = held_after_all es (held_after (step_of e.0 (lent_output e.1) x))

-- a fresh sender that is told to initiate without check (directive 1)
abbrev pub start_held : Settings → List ℕ → Held
start_held set store = held_after_all ((directive 1 0, 0) ∷ []) (fresh_held set set.n store)

-- what the sender with its store reads as: the variables of table 7-8
abbrev pub reads : Held → Fop
reads x = fop_of (begun x.sender.fop) x.sender.fop.lengths x.store

-- "It starts synchronised and active": a well-formed sender, however it came there, whose variables are those of the session's start
pub record Begins (set : Settings) (x : Held) : Type 0 where
  pub good : Good set.own x.sender.fop x.store
  pub start : reads x ≡ start_sender set

-- our two ends, with the sender and its store as they are at the start
abbrev pub ours : Settings → Held → Ends
ours set x = record {
  Sender = Held;
  Receiver = Receiver;
  sender = x;
  receiver = start_receiver set;
  next = λ e lent x. held_after (step_of e (lent_output lent) x);
  answer = λ e lent x. answer_by (step_of e (lent_output lent) x);
  next_receiver = receiver_next;
  answer_receiver = receiver_answer;
  word = receiver_word;
}
