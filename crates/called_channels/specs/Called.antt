-- Document 02, order 8: the receiver of several channels as callers in C and Rust have it: its records as octets that the caller keeps, answers as numbers
-- and a part of the caller's frame, by the definitions that the exported functions equal (crate pondreszi_channels).
use Rattle.std.specs.Prelude.{ℕ, List, eqb, take, drop}
use Rattle.std.proofs.Math.Option.{Option, none, some}
use Rattle.base.specs.Choice.{pick}
use Rattle.session.specs.Ends.{Settings}
use Rattle.channel_session.specs.Ends.{Pool, TableEvent, frame, release, TableAnswer}
use Rattle.channel_octets.specs.Kept.{records_in}
use Rattle.pondreszi_channels.specs.Channels.{Frame, frame_call, release_call, word_call}
use Rattle.our_session.specs.Ours.{lent_output}
use Rattle.called_session.specs.Called.{word_written}
use Rattle.called_channels.specs.Ends.{Several}

-- the unit accepted: `count` octets of the caller's frame from `first` on
abbrev pub unit_told : Frame → List ℕ → Option (List ℕ)
unit_told told s = pick (eqb told.unit 0) none (some (take told.count (drop told.first s)))

module _ (spacecraft pool : ℕ) where
  -- what the caller is told
  unfoldable pub called_answer : TableEvent → List ℕ → TableAnswer
  called_answer (frame s) o =
      record {
        refusal = (frame_call spacecraft pool o s).number;
        event = (frame_call spacecraft pool o s).event;
        channel = (frame_call spacecraft pool o s).channel;
        unit = unit_told (frame_call spacecraft pool o s) s;
      }
  -- a release tells no channel; a done one is of the channel that the caller named
  called_answer (release n) o =
      record {
        refusal = (release_call spacecraft pool o n).number;
        event = (release_call spacecraft pool o n).event;
        channel = pick (eqb (release_call spacecraft pool o n).number 0) n 0;
        unit = none;
      }

  -- the octets of its table after it
  unfoldable pub called_next : TableEvent → List ℕ → List ℕ
  called_next (frame s) o = (frame_call spacecraft pool o s).table
  called_next (release n) o = (release_call spacecraft pool o n).state

-- the pool of the octets that a caller keeps
abbrev pub pool_in : ℕ → List ℕ → Pool
pool_in size o = record { size = size; records = records_in o }

-- a caller's receiver, with the octets that it keeps at the start; spacecraft and the pool's size come with each call
abbrev pub called_table : Settings → ℕ → List ℕ → Several
called_table set size o = record {
  Receiver = List ℕ;
  receiver = o;
  next = called_next set.own.spacecraft size;
  answer = called_answer set.own.spacecraft size;
  word = λ n lent x. word_written (word_call set.own.spacecraft size x n lent) (lent_output lent);
}
