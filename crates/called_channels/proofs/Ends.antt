-- A sender that is tied to table 7-8 and a receiver of several channels that is tied to the records' definitions are ends of channel_session: each brings its
-- half of the tie (`with_tied`). The lent table's definitions are the tables' (`lent_tied`).
use Prim.Native.Nat.{ℕ}
use mathlib.Core.Path.{◌≡◌, refl}
use mathlib.Core.List.{List}
use Rattle.receiver.specs.declared.Channel.{Channel}
use Rattle.session.specs.Ends.{Settings, Ends}
use Rattle.session.specs.Ends as session
use Rattle.channel_session.specs.Ends.{Pool, TableEvent, Tied, table_next, table_answer, table_word}
use Rattle.called_channels.specs.Ends.{Several, with}
use Rattle.called_channels.specs.Ours.{lent}

-- what the contracts of the receiver's functions give: the receiver's half of channel_session/specs/Ends `Tied`.
pub record TiedSeveral (set : Settings) (pool : Pool) (r : Several) : Type 1 where
  pub records : r.Receiver → List Channel
  pub Good : r.Receiver → Type 0
  pub good : Good r.receiver
  pub keeps : (e : TableEvent) (x : r.Receiver) → Good x → Good (r.next e x)
  pub start : records r.receiver ≡ pool.records
  pub next : (e : TableEvent) (x : r.Receiver) → Good x → records (r.next e x) ≡ table_next set pool e (records x)
  pub answer : (e : TableEvent) (x : r.Receiver) → Good x → r.answer e x ≡ table_answer set pool e (records x)
  pub word : (n lent : ℕ) (x : r.Receiver) → Good x → r.word n lent x ≡ table_word set pool n lent (records x)

-- both halves together
pub with_tied : (set : Settings) (pool : Pool) (m : Ends) (r : Several) → session.Tied set m → TiedSeveral set pool r → Tied set pool (with m r)
with_tied set pool m r s t = record {
  fop = s.fop;
  records = t.records;
  Good = s.Good;
  GoodReceiver = t.Good;
  good = s.good;
  good_receiver = t.good;
  keeps = s.keeps;
  keeps_receiver = t.keeps;
  start = s.start;
  start_records = t.start;
  next = s.next;
  answer = s.answer;
  next_receiver = t.next;
  answer_receiver = t.answer;
  word = t.word;
}

pub lent_tied : (set : Settings) (pool : Pool) → TiedSeveral set pool (lent set pool)
lent_tied set pool = record {
  records = λ cs. cs;
  Good = λ cs. Unit {0};
  good = tt;
  keeps = λ e x g. tt;
  start = refl;
  next = λ e x g. refl;
  answer = λ e x g. refl;
  word = λ n lent x g. refl;
}
