-- Document 02, order 8: a sender of one channel and a receiver of several, whatever they are, and what it is that they do as the tables say.
use Rattle.std.specs.Prelude.{◌≡◌, true, List, [], ℕ}
use Rattle.std.proofs.Math.Option.{Option}
use Rattle.fop.specs.Variables.{Fop}
use Rattle.fop.specs.Events.{SenderEvent}
use Rattle.fop.specs.Answers.{Answer, sender_next, sender_answer}
use Rattle.receiver.specs.declared.Channel.{Channel}
use Rattle.session.specs.Receiver.{ReceiverEvent, frame_arrives, release_buffer, ReceiverAnswer, WordAnswer, handed_out, word_told}
pub use Rattle.session.specs.Receiver.{event_numbered}
use Rattle.session.specs.Ends.{Settings, Ends, Brought, start_sender, start_receiver}
use Rattle.channels.specs.Table.{Turn}
use Rattle.channels.specs.Table.{is_in, held_in, table_holds, record_of, records_after, frame_turn, unit_part, release_turn, word_writing}

-- the receiver's start: the size of its pool, and the records of its channels
pub record Pool : Type 0 where
  pub size : ℕ
  pub records : List Channel

-- at the start all channels hold none (document 01: "receiver as at its start"): a table that is not refused, with a record for the session's channel as at its start
pub record Begins (set : Settings) (pool : Pool) : Type 0 where
  pub holds : table_holds set.own.spacecraft pool.size pool.records ≡ true
  pub none : held_in pool.records ≡ 0
  pub there : is_in set.own.channel pool.records ≡ true
  pub start : record_of set.own.channel pool.records ≡ (start_receiver set).farm.channel

-- what the receiver is asked: lent octets, a release that names its channel
pub data TableEvent : Type 0 where
  frame : List ℕ → TableEvent
  release : ℕ → TableEvent

-- what it answers: document 01's refusal, the event of table 7-9 by its number, the channel that it is of, and the unit handed out
pub record TableAnswer : Type 0 where
  pub refusal : ℕ
  pub event : ℕ
  pub channel : ℕ
  pub unit : Option (List ℕ)

-- A sender and a receiver of several channels. A number is the room lent for a frame or word; a control word is asked of a channel.
pub record ManyEnds : Type 1 where
  pub Sender : Type 0
  pub Receiver : Type 0
  pub sender : Sender
  pub receiver : Receiver
  pub next : SenderEvent → ℕ → Sender → Sender
  pub answer : SenderEvent → ℕ → Sender → Answer
  pub next_receiver : TableEvent → Receiver → Receiver
  pub answer_receiver : TableEvent → Receiver → TableAnswer
  pub word : ℕ → ℕ → Receiver → WordAnswer

-- a turn as the answer
abbrev pub answer_by : Turn → List ℕ → TableAnswer
answer_by t part = record { refusal = t.refusal; event = t.event; channel = t.channel; unit = handed_out t.unit part }

module _ (set : Settings) (pool : Pool) where
  abbrev spacecraft : ℕ
  spacecraft = set.own.spacecraft

  abbrev pub table_next : TableEvent → List Channel → List Channel
  table_next (frame s) cs = records_after (frame_turn spacecraft pool.size cs s) cs
  table_next (release n) cs = records_after (release_turn spacecraft pool.size cs n) cs

  abbrev pub table_answer : TableEvent → List Channel → TableAnswer
  table_answer (frame s) cs = answer_by (frame_turn spacecraft pool.size cs s) (unit_part spacecraft pool.size cs s)
  table_answer (release n) cs = answer_by (release_turn spacecraft pool.size cs n) []

  abbrev pub table_word : ℕ → ℕ → List Channel → WordAnswer
  table_word n lent cs = word_told (word_writing spacecraft pool.size cs n lent)

  -- the ends that the tables themselves are
  abbrev pub tables : ManyEnds
  tables = record {
    Sender = Fop;
    Receiver = List Channel;
    sender = start_sender set;
    receiver = pool.records;
    next = sender_next set.own;
    answer = sender_answer set.own;
    next_receiver = table_next;
    answer_receiver = table_answer;
    word = table_word;
  }

-- What the contracts of the ends' functions give, as session/specs/Ends `Tied`.
pub record Tied (set : Settings) (pool : Pool) (m : ManyEnds) : Type 1 where
  pub fop : m.Sender → Fop
  pub records : m.Receiver → List Channel
  pub Good : m.Sender → Type 0
  pub GoodReceiver : m.Receiver → Type 0
  pub good : Good m.sender
  pub good_receiver : GoodReceiver m.receiver
  pub keeps : (e : SenderEvent) → Brought e → (lent : ℕ) (x : m.Sender) → Good x → Good (m.next e lent x)
  pub keeps_receiver : (e : TableEvent) (x : m.Receiver) → GoodReceiver x → GoodReceiver (m.next_receiver e x)
  pub start : fop m.sender ≡ start_sender set
  pub start_records : records m.receiver ≡ pool.records
  pub next : (e : SenderEvent) → Brought e → (lent : ℕ) (x : m.Sender) → Good x → fop (m.next e lent x) ≡ sender_next set.own e lent (fop x)
  pub answer : (e : SenderEvent) → Brought e → (lent : ℕ) (x : m.Sender) → Good x → m.answer e lent x ≡ sender_answer set.own e lent (fop x)
  pub next_receiver : (e : TableEvent) (x : m.Receiver) → GoodReceiver x → records (m.next_receiver e x) ≡ table_next set pool e (records x)
  pub answer_receiver : (e : TableEvent) (x : m.Receiver) → GoodReceiver x → m.answer_receiver e x ≡ table_answer set pool e (records x)
  pub word : (n lent : ℕ) (x : m.Receiver) → GoodReceiver x → m.word n lent x ≡ table_word set pool n lent (records x)

-- Seen from the session's channel.

-- an event of the session at this channel, and its answer
abbrev pub named : ℕ → ReceiverEvent → TableEvent
named n (frame_arrives s) = frame s
named n release_buffer = release n

abbrev pub seen_answer : TableAnswer → ReceiverAnswer
seen_answer a = record { refusal = a.refusal; event = event_numbered a.event; unit = a.unit }

-- the two ends of one channel, as session/specs/Ends has them
abbrev pub seen : Settings → ManyEnds → Ends
seen set m = record {
  Sender = m.Sender;
  Receiver = m.Receiver;
  sender = m.sender;
  receiver = m.receiver;
  next = m.next;
  answer = m.answer;
  next_receiver = λ e x. m.next_receiver (named set.own.channel e) x;
  answer_receiver = λ e x. seen_answer (m.answer_receiver (named set.own.channel e) x);
  word = λ lent x. m.word set.own.channel lent x;
}
