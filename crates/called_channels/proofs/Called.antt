-- A caller's receiver of several channels is tied to the records' definitions (`called_tied`): octets that are a table stand for the records that they hold,
-- and a call leaves those of the records after it (channel_octets/proofs/Table, `table_back`).
use Rattle.std.specs.Prelude as code
use Rattle.std.specs.Prelude.{None}
use Prim.Native.Nat.{ℕ}
use mathlib.Core.Path.{◌≡◌, refl, sym, ap, ◌∙◌}
use mathlib.Core.Bool.{Bool, true, false}
use mathlib.Core.List.{List, []}
use mathlib.Core.Option.{Option, none}
use lib.Dec.{eqb}
use Rattle.base.specs.Choice.{pick, must}
use Rattle.base.specs.Outcome.{Outcome, Outcome.refused}
use Rattle.clcw.specs.Clcw.{writing}
use Rattle.farm.specs.Table.{unit_of}
use Rattle.farm.specs.declared.State.{State}
use Rattle.farm.specs.declared.Event.TheVariants.{E10}
use Rattle.farm.specs.declared.AcceptedUnit.{AcceptedUnit}
use Rattle.farm.proofs.Cells.{by_state}
use Rattle.frame.specs.Answers.{part_of}
use Rattle.receiver.specs.declared.Channel.{Channel}
use Rattle.receiver.specs.Channel as channel
use Rattle.session.specs.Receiver.{handed_out, word_told}
use Rattle.session.specs.Ends.{Settings}
use Rattle.channels.specs.Table.{Turn, is_in, record_of, table_holds, records_after, addressed, frame_turn, unit_part, release_turn, word_of, word_writing}
use Rattle.channels.proofs.Turns.{ReleaseCase, given_back, release_case}
use Rattle.channel_session.specs.Ends.{TableEvent, frame, release, TableAnswer, answer_by, table_next, table_answer}
use Rattle.channel_octets.specs.Kept.{records_in, is_table}
use Rattle.channel_octets.proofs.Back.{table_back}
use Rattle.pondreszi_receiver.specs.Receivers.{Release}
use Rattle.pondreszi_channels.specs.Channels.{Frame, table_after, received, frame_call, released_by, release_call, word_call}
use Rattle.our_session.specs.Ours.{lent_output}
use Rattle.called_session.specs.Called.{word_written}
use Rattle.called_session.proofs.Receiver.{part_taken, unit_back, written_told}
use Rattle.called_channels.specs.Called.{unit_told, called_answer, called_next, pool_in, called_table}
use Rattle.called_channels.proofs.Ends.{TiedSeveral}

-- the octets after an event hold the records after it
after_table : (t : Turn) (o : List ℕ) → is_table (table_after t o) ≡ true
after_table t o = (table_back (records_after t (records_in o))).0

after_back : (t : Turn) (o : List ℕ) → records_in (table_after t o) ≡ records_after t (records_in o)
after_back t o = (table_back (records_after t (records_in o))).1

-- the row of E10 hands no unit out
given_unit : (c : Channel) → (given_back c).unit ≡ None
unfolding channel.answered
given_unit c = by_state (λ (s : State). unit_of E10 s ≡ None) refl refl refl c.variables.state

-- a release that is done is of the channel named, one that is not of none; it brings no unit
module _ (spacecraft pool : ℕ) (cs : List Channel) (n : ℕ) where
  pub release_channel_lem : pick (eqb (release_turn spacecraft pool cs n).refusal 0) n 0 ≡ (release_turn spacecraft pool cs n).channel
  release_channel_lem = by (release_case spacecraft pool cs n)
    where
      by : {t : Turn} → ReleaseCase spacecraft pool cs n t → pick (eqb t.refusal 0) n 0 ≡ t.channel
      by (ReleaseCase.unheld h) = refl
      by (ReleaseCase.absent h e) = refl
      by (ReleaseCase.none h here b) = refl
      by (ReleaseCase.done h here b) = refl

  pub release_unit : (release_turn spacecraft pool cs n).unit ≡ None
  release_unit = by (release_case spacecraft pool cs n)
    where
      by : {t : Turn} → ReleaseCase spacecraft pool cs n t → t.unit ≡ None
      by (ReleaseCase.unheld h) = refl
      by (ReleaseCase.absent h e) = refl
      by (ReleaseCase.none h here b) = refl
      by (ReleaseCase.done h here b) = given_unit (record_of n cs)

module _ (spacecraft pool : ℕ) (o : List ℕ) (e : is_table o ≡ true) where
  abbrev cs : List Channel
  cs = records_in o

  pub frame_is : (s : List ℕ) → frame_call spacecraft pool o s ≡ received (frame_turn spacecraft pool cs s) (unit_part spacecraft pool cs s) o
  unfolding frame_call
  frame_is s = rw e

  pub release_is_lem : (n : ℕ) → release_call spacecraft pool o n ≡ released_by (release_turn spacecraft pool cs n) o
  unfolding release_call
  release_is_lem n = rw e

  pub word_is : (n lent : ℕ) → word_call spacecraft pool o n lent ≡ word_writing spacecraft pool cs n lent
  unfolding word_call
  word_is n lent = rw e

  -- the control word, whatever the output held
  pub word_told_lem : (n lent : ℕ) (output : List ℕ) → word_written (word_call spacecraft pool o n lent) output ≡ word_told (word_writing spacecraft pool cs n lent)
  unfolding word_writing
  word_told_lem n lent output = ap (λ (w : Outcome (Unit {0})). word_written w output) (word_is n lent) ∙ by (table_holds spacecraft pool cs) (is_in n cs)
    where
      by : (x y : Bool) → word_written (must x (refused 12 0) (must y (refused 7 0) (writing (word_of (record_of n cs)) lent))) output
          ≡ word_told (must x (refused 12 0) (must y (refused 7 0) (writing (word_of (record_of n cs)) lent)))
      by true true = written_told (word_of (record_of n cs)) lent output
      by true false = refl
      by false y = refl

  -- what a caller is told is what the records' definitions answer
  abbrev answering : TableEvent → TableAnswer
  answering (frame s) = answer_by (frame_turn spacecraft pool cs s) (unit_part spacecraft pool cs s)
  answering (release n) = answer_by (release_turn spacecraft pool cs n) []

  answer_is : (x : TableEvent) → called_answer spacecraft pool x o ≡ answering x
  unfolding called_answer unit_part
  answer_is (frame s) =
      let t : Turn = frame_turn spacecraft pool cs s in
      ap (λ (f : Frame). record { refusal = f.number; event = f.event; channel = f.channel; unit = unit_told f s }) (frame_is s)
      ∙ ap (λ (u : Option (List ℕ)). record { refusal = t.refusal; event = t.event; channel = t.channel; unit = u })
      (unit_back t.unit s (part_of s spacecraft (addressed cs s)) (part_taken s spacecraft (addressed cs s)))
  answer_is (release n) =
      let t : Turn = release_turn spacecraft pool cs n in
      ap (λ (x : Release). record { refusal = x.number; event = x.event; channel = pick (eqb x.number 0) n 0; unit = none }) (release_is_lem n)
      ∙ ap (λ (c : ℕ). record { refusal = t.refusal; event = t.event; channel = c; unit = none }) (release_channel_lem spacecraft pool cs n)
      ∙ ap (λ (u : code.Option AcceptedUnit). record { refusal = t.refusal; event = t.event; channel = t.channel; unit = handed_out u [] }) (sym (release_unit spacecraft pool cs n))

  abbrev turn_of : TableEvent → Turn
  turn_of (frame s) = frame_turn spacecraft pool cs s
  turn_of (release n) = release_turn spacecraft pool cs n

  after_is : (x : TableEvent) → called_next spacecraft pool x o ≡ table_after (turn_of x) o
  unfolding called_next
  after_is (frame s) = ap (λ (f : Frame). f.table) (frame_is s)
  after_is (release n) = ap (λ (x : Release). x.state) (release_is_lem n)

-- a caller's receiver, from the octets of a table
pub called_tied : (set : Settings) (size : ℕ) (o : List ℕ) → is_table o ≡ true → TiedSeveral set (pool_in size o) (called_table set size o)
called_tied set size o e = record {
  records = records_in;
  Good = λ x. is_table x ≡ true;
  good = e;
  keeps = λ x y g. ap is_table (after_is set.own.spacecraft size y g x) ∙ after_table (turn_of set.own.spacecraft size y g x) y;
  start = refl;
  next = next;
  answer = answer;
  word = λ n lent y g. word_told_lem set.own.spacecraft size y g n lent (lent_output lent);
} where
  next : (x : TableEvent) (y : List ℕ) → is_table y ≡ true → records_in (called_next set.own.spacecraft size x y) ≡ table_next set (pool_in size o) x (records_in y)
  next (frame s) y g = ap records_in (after_is set.own.spacecraft size y g (frame s)) ∙ after_back (frame_turn set.own.spacecraft size (records_in y) s) y
  next (release n) y g = ap records_in (after_is set.own.spacecraft size y g (release n)) ∙ after_back (release_turn set.own.spacecraft size (records_in y) n) y

  answer : (x : TableEvent) (y : List ℕ) → is_table y ≡ true → called_answer set.own.spacecraft size x y ≡ table_answer set (pool_in size o) x (records_in y)
  answer (frame s) y g = answer_is set.own.spacecraft size y g (frame s)
  answer (release n) y g = answer_is set.own.spacecraft size y g (release n)
