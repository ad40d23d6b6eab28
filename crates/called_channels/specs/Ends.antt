-- Document 02, order 8: the sender of one channel out of a pair of ends (session/specs/Ends), with a receiver of several channels in the other's place.
use Rattle.std.specs.Prelude.{ℕ}
use Rattle.session.specs.Receiver.{WordAnswer}
use Rattle.session.specs.Ends.{Ends}
use Rattle.channel_session.specs.Ends.{TableEvent, TableAnswer, ManyEnds}

-- a receiver of several channels, whatever it is; a control word is asked of a channel, with room for so many octets
pub record Several : Type 1 where
  pub Receiver : Type 0
  pub receiver : Receiver
  pub next : TableEvent → Receiver → Receiver
  pub answer : TableEvent → Receiver → TableAnswer
  pub word : ℕ → ℕ → Receiver → WordAnswer

-- the sender of the pair with it; the pair's own receiver is not looked at
abbrev pub with : Ends → Several → ManyEnds
with m r = record {
  Sender = m.Sender;
  Receiver = r.Receiver;
  sender = m.sender;
  receiver = r.receiver;
  next = m.next;
  answer = m.answer;
  next_receiver = r.next;
  answer_receiver = r.answer;
  word = r.word;
}
