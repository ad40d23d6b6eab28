-- The sender across the boundary: its state as octets in a lent buffer, its answer as octets in another (crate sender_octets).
use Rattle.std.specs.Prelude.{ℕ, Bool, ◌||◌, List, leb, eqb, length, Result, Ok, Err}
use Rattle.base.specs.Choice.{pick, must}
use Rattle.base.specs.Refusals.{refusal_number}
use Rattle.base.specs.declared.Refusal.{Refusal}
use Rattle.base.specs.declared.Refusal.TheVariants.{Setting}
use Rattle.memory.specs.Placed.{placed}
use Rattle.fop.specs.Limits.{largest_number, largest_timer, largest_transmission_limit}
use Rattle.sender_values.specs.declared.SenderState.{SenderState}
use Rattle.sender_values.specs.declared.Settings.{Settings}
use Rattle.fop.specs.declared.Lower.{Lower}
use Rattle.fop.specs.declared.Lower.TheVariants as lower
use Rattle.sender.specs.declared.Event.{Event}
use Rattle.sender.specs.declared.Sender.{Sender}
use Rattle.sender.specs.Answers.{Step}
use Rattle.sender.specs.Start.{starting_of}
use Rattle.sender.specs.Events.{request_ad_of, request_bd_of, directive_of, tick_of, lower_layer_of, control_word_of, event_of}
use Rattle.sender_octets.specs.Kept.{state_octets, octets_of, sender_in}
use Rattle.sender_octets.specs.Answer.{answer_octets, octets_of_answer}
use Rattle.pondreszi_numbers.specs.Numbers.{largest_octet, largest_pair, narrow}

-- a call by its number, and all lent memory after it
pub record Called : Type 0 where
  pub number : ℕ
  pub state : List ℕ
  pub store : List ℕ
  pub output : List ℕ
  pub answer : List ℕ

-- a call that reaches no sender changes nothing
abbrev pub refused_call : ℕ → List ℕ → List ℕ → List ℕ → List ℕ → Called
refused_call number state store output answer = record { number = number; state = state; store = store; output = output; answer = answer }

-- an event: its refusal, 0 for done; the sender's next state and its answer, a refusal's too, at the front of their buffers
abbrev pub done_call : Step → List ℕ → List ℕ → Called
done_call step state answer = record {
  number = step.answer.refusal;
  state = placed state 0 (octets_of step.answer.next.fop);
  store = step.store;
  output = step.output;
  answer = placed answer 0 (octets_of_answer step.answer);
}

-- octets that are no state are 12; an answer's buffer that is too short is 11; then the event
abbrev pub called_with : Result Sender Refusal → (SenderState → Step) → List ℕ → List ℕ → List ℕ → List ℕ → Called
called_with (Err refusal) event state store output answer = refused_call (refusal_number refusal) state store output answer
called_with (Ok sender) event state store output answer =
    must (leb answer_octets (length answer)) (refused_call 11 state store output answer) (done_call (event sender.fop) state answer)

-- a call by the sender that the octets of the state are
abbrev pub called_by : (SenderState → Step) → List ℕ → List ℕ → List ℕ → List ℕ → Called
called_by event state store output answer = called_with (sender_in state) event state store output answer

-- a call for any event, with the octets that it brings
unfoldable pub event_call : List ℕ → Event → List ℕ → List ℕ → List ℕ → List ℕ → Called
event_call state event octets store output answer = called_by (λ s. event_of event octets s store output) state store output answer

-- `pondreszi_sender_request_ad`: Request to transfer an AD unit (E19, E20)
unfoldable pub request_ad_call : List ℕ → List ℕ → List ℕ → List ℕ → List ℕ → Called
request_ad_call state unit store output answer = called_by (λ s. request_ad_of s unit store output) state store output answer

-- `pondreszi_sender_request_bd`: Request to transfer a BD unit (E21, E22)
unfoldable pub request_bd_call : List ℕ → List ℕ → List ℕ → List ℕ → List ℕ → Called
request_bd_call state unit store output answer = called_by (λ s. request_bd_of s unit store output) state store output answer

-- `pondreszi_sender_tick`: a tick of the timer (E16 to E18, E104 where it expires)
unfoldable pub tick_call : List ℕ → List ℕ → List ℕ → List ℕ → Called
tick_call state store output answer = called_by (λ s. tick_of s store output) state store output answer

-- `pondreszi_sender_control_word`: a control word, any octets (E1 to E15, E101 to E103)
unfoldable pub word_call : List ℕ → List ℕ → List ℕ → List ℕ → List ℕ → Called
word_call state word store output answer = called_by (λ s. control_word_of word s store output) state store output answer

-- An answer of the lower layer by its number, 1 to 6: AD_Accept, AD_Reject, BC_Accept, BC_Reject, BD_Accept, BD_Reject; any other is 12.
abbrev pub lower_numbered : ℕ → Lower
lower_numbered n =
    pick (eqb n 1) lower.AdAccept
    (pick (eqb n 2) lower.AdReject (pick (eqb n 3) lower.BcAccept (pick (eqb n 4) lower.BcReject (pick (eqb n 5) lower.BdAccept lower.BdReject))))

-- `pondreszi_sender_lower_layer`: an answer of the lower layer (E41 to E46)
unfoldable pub lower_call : List ℕ → ℕ → List ℕ → List ℕ → List ℕ → Called
lower_call state n store output answer =
    must (leb 1 n) (refused_call 12 state store output answer)
    (must (leb n 6) (refused_call 12 state store output answer) (called_by (λ s. lower_layer_of (lower_numbered n) s store output) state store output answer))

-- A directive's number beyond one octet is 0 for the sender, and so is that of a directive whose value does not fit into two octets, where it
-- has a use for it; both are the invalid directive.
abbrev pub uses_value : ℕ → Bool
uses_value d = eqb d 4 || leb 7 d

-- the directive's number as the sender takes it
abbrev pub narrow_number : ℕ → ℕ → ℕ
narrow_number d v = must (leb v largest_pair) (pick (uses_value d) 0 (narrow largest_octet 0 d)) (narrow largest_octet 0 d)

-- and its value
abbrev pub narrow_value : ℕ → ℕ
narrow_value v = narrow largest_pair 0 v

-- `pondreszi_sender_directive`: a directive by its number and value (E23 to E40)
unfoldable pub directive_call : List ℕ → ℕ → ℕ → List ℕ → List ℕ → List ℕ → Called
directive_call state d v store output answer =
    called_by (λ s. directive_of (narrow_number d v) (narrow_value v) s store output) state store output answer

-- A new sender: 12 and 11 as it judges, then 11 where the buffer is too short; nothing changes.
pub record New : Type 0 where
  pub number : ℕ
  pub state : List ℕ

-- a start, its state at the front of the lent buffer
abbrev pub started_call : Result Sender Refusal → List ℕ → New
started_call (Err refusal) state = record { number = refusal_number refusal; state = state }
started_call (Ok sender) state =
    must (leb state_octets (length state)) (record { number = 11; state = state }) (record { number = 0; state = placed state 0 (octets_of sender.fop) })

-- the settings given
abbrev pub settings_of : ℕ → ℕ → ℕ → ℕ → ℕ → ℕ → Settings
settings_of k t1 limit type spacecraft channel =
    record { k = k; t1_initial = t1; transmission_limit = limit; timeout_type = type; spacecraft = spacecraft; channel = channel }

-- a sender by the numbers given: 12 where one is outside its limit, T1_Initial, Transmission_Limit, V(S) and NN(R) too
unfoldable pub start_given : ℕ → ℕ → ℕ → ℕ → ℕ → ℕ → ℕ → ℕ → ℕ → Result Sender Refusal
start_given k t1 limit type spacecraft channel vs nnr lent =
    must (leb t1 largest_timer) (Err Setting)
    (must (leb limit largest_transmission_limit) (Err Setting)
    (must (leb vs largest_number) (Err Setting)
    (must (leb nnr largest_number) (Err Setting)
    (starting_of (settings_of k t1 limit type spacecraft channel) vs nnr lent))))

-- `pondreszi_sender_new`: a sender at its start (document 01, "FOP-1")
unfoldable pub new_call : ℕ → ℕ → ℕ → ℕ → ℕ → ℕ → ℕ → ℕ → List ℕ → List ℕ → New
new_call k t1 limit type spacecraft channel vs nnr store state =
    started_call (start_given k t1 limit type spacecraft channel vs nnr (length store)) state
