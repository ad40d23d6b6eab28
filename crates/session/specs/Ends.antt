-- The settings of a session, the start, and a pair of ends: whatever they do, and what it is that they do as the tables say.
use Rattle.std.specs.Prelude.{◌≡◌, ◌⊎◌, false, ℕ, ◌/◌, ◌%◌, ◌≤◌}
use Rattle.base.specs.Limits.{largest_spacecraft, largest_channel}
use Rattle.fop.specs.Limits.{largest_k, largest_transmission_limit, largest_timer, largest_number, largest_timeout_type}
use Rattle.fop.specs.Units.{Own}
use Rattle.fop.specs.declared.State.TheVariants.{S1}
use Rattle.fop.specs.Variables.{Fop, at_start, set_state, set_clock}
use Rattle.fop.specs.Events.{SenderEvent, request_ad, request_bd, tick, lower, directive, word_arrives}
use Rattle.fop.specs.Answers.{Answer, sender_next, sender_answer}
use Rattle.receiver.specs.Receiver.{largest_buffers}
use Rattle.farm.specs.declared.State.TheVariants.{Open}
use Rattle.receiver.specs.declared.Receiver.{Receiver}
use Rattle.session.specs.Receiver.{ReceiverEvent, ReceiverAnswer, WordAnswer, receiver_next, receiver_answer, receiver_word}

-- "the FARM-B counter modulo 4"
abbrev pub largest_counter : ℕ
largest_counter = 3

-- n is V(S), NN(R) and V(R) at the start ("n is V(S) at the start"); k the sender's window K and w the receiver's W; the count of AD
-- buffers; T1_Initial in ticks; Transmission_Limit; Timeout_Type; the address of both ends; Transmission_Count and the FARM-B counter at the start
pub record Settings : Type 0 where
  pub n : ℕ
  pub k : ℕ
  pub w : ℕ
  pub buffers : ℕ
  pub t1 : ℕ
  pub limit : ℕ
  pub timeout_type : ℕ
  pub own : Own
  pub count : ℕ
  pub counter : ℕ

-- "settings within limits, K at most PW", by document 01, "Limits"
pub record Within (s : Settings) : Type 0 where
  pub number : s.n ≤ largest_number
  pub window_least : 1 ≤ s.k
  pub window_most : s.k ≤ largest_k
  pub even : s.w % 2 ≡ 0
  pub farm_least : 2 ≤ s.w
  pub farm_most : s.w ≤ 254
  pub fits : s.k ≤ s.w / 2
  pub buffers_least : 1 ≤ s.buffers
  pub buffers_most : s.buffers ≤ largest_buffers
  pub timer_least : 1 ≤ s.t1
  pub timer_most : s.t1 ≤ largest_timer
  pub limit_least : 1 ≤ s.limit
  pub limit_most : s.limit ≤ largest_transmission_limit
  pub timeout_most : s.timeout_type ≤ largest_timeout_type
  pub spacecraft : s.own.spacecraft ≤ largest_spacecraft
  pub channel : s.own.channel ≤ largest_channel
  pub count_least : 1 ≤ s.count
  pub count_most : s.count ≤ largest_transmission_limit
  pub counter_most : s.counter ≤ largest_counter

-- "Synchronised and active": "sender Active, queues empty, flags ready, timer stopped, V(S) = NN(R) = V(R), receiver as at its start, both
-- of one spacecraft and channel". That leaves Transmission_Count open.
unfoldable pub start_sender : Settings → Fop
start_sender s =
    set_clock 0 s.count
    (set_state S1 (at_start s.n s.n (record { k = s.k; transmission_limit = s.limit; t1_initial = s.t1; timeout_type = s.timeout_type })))

-- The receiver's part: Open, flags zero, no buffer taken, V(R) as set. Document 01's start is the case counter 0; a receiver that carried out
-- Unlock or Set V(R) has counted it.
unfoldable pub start_receiver : Settings → Receiver
start_receiver s = record {
  farm = record {
    spacecraft = s.own.spacecraft;
    buffers = s.buffers;
    channel = record {
      number = s.own.channel;
      window = s.w;
      held = 0;
      variables = record { state = Open; vr = s.n; lockout = false; wait = false; retransmit = false; counter = s.counter };
    };
  };
}

-- A sender and a receiver, whatever they are: how they stand at the start, and the next state, answer and control word that they give. A
-- number is the room lent for a frame or word.
pub record Ends : Type 1 where
  pub Sender : Type 0
  pub Receiver : Type 0
  pub sender : Sender
  pub receiver : Receiver
  pub next : SenderEvent → ℕ → Sender → Sender
  pub answer : SenderEvent → ℕ → Sender → Answer
  pub next_receiver : ReceiverEvent → Receiver → Receiver
  pub answer_receiver : ReceiverEvent → Receiver → ReceiverAnswer
  pub word : ℕ → Receiver → WordAnswer

-- the ends that the tables themselves are: table 7-8 by crate fop, table 7-9 by crates farm and receiver
abbrev pub tables : Settings → Ends
tables s = record {
  Sender = Fop;
  Receiver = Receiver;
  sender = start_sender s;
  receiver = start_receiver s;
  next = sender_next s.own;
  answer = sender_answer s.own;
  next_receiver = receiver_next;
  answer_receiver = receiver_answer;
  word = receiver_word;
}

-- the directives that a session brings: Terminate (5) and, by document 02, order 9, Resume (6)
abbrev pub SessionDirective : ℕ → Type 0
SessionDirective d = (d ≡ 5) ⊎ (d ≡ 6)

-- what a session brings to its sender
abbrev pub Brought : SenderEvent → Type 0
Brought (request_ad o) = Unit {0}
Brought (request_bd o) = Unit {0}
Brought tick = Unit {0}
Brought (lower l) = Unit {0}
Brought (directive d v) = SessionDirective d
Brought (word_arrives s) = Unit {0}

-- What the contracts of the ends' functions give: of a well-formed state, which every event of a session keeps well-formed, the state seen as
-- the tables' state, and the answer, are what the tables give.
pub record Tied (s : Settings) (m : Ends) : Type 1 where
  pub fop : m.Sender → Fop
  pub farm : m.Receiver → Receiver
  pub Good : m.Sender → Type 0
  pub GoodReceiver : m.Receiver → Type 0
  pub good : Good m.sender
  pub good_receiver : GoodReceiver m.receiver
  pub keeps : (e : SenderEvent) → Brought e → (lent : ℕ) (x : m.Sender) → Good x → Good (m.next e lent x)
  pub keeps_receiver : (e : ReceiverEvent) (x : m.Receiver) → GoodReceiver x → GoodReceiver (m.next_receiver e x)
  pub start : fop m.sender ≡ start_sender s
  pub start_receiver : farm m.receiver ≡ start_receiver s
  pub next : (e : SenderEvent) → Brought e → (lent : ℕ) (x : m.Sender) → Good x → fop (m.next e lent x) ≡ sender_next s.own e lent (fop x)
  pub answer : (e : SenderEvent) → Brought e → (lent : ℕ) (x : m.Sender) → Good x → m.answer e lent x ≡ sender_answer s.own e lent (fop x)
  pub next_receiver : (e : ReceiverEvent) (x : m.Receiver) → GoodReceiver x → farm (m.next_receiver e x) ≡ receiver_next e (farm x)
  pub answer_receiver : (e : ReceiverEvent) (x : m.Receiver) → GoodReceiver x → m.answer_receiver e x ≡ receiver_answer e (farm x)
  pub word : (lent : ℕ) (x : m.Receiver) → GoodReceiver x → m.word lent x ≡ receiver_word lent (farm x)
