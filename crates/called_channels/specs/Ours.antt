-- Document 02, order 8: our receiver of several channels, by value (crate channels) and over a lent table of records (crate channel_table), by the
-- definitions that their public functions equal.
use Rattle.std.specs.Prelude.{ℕ, ◌≤◌, ◌≡◌, List, [], length}
use Rattle.base.specs.Octets.{Octets}
use Rattle.session.specs.Receiver.{handed_out, word_told}
use Rattle.session.specs.Ends.{Settings}
use Rattle.channels.specs.declared.Channels.{Channels}
use Rattle.channels.specs.Channels.{Turned, records_in, receive_of, unit_part, release_of, word_of}
use Rattle.channels.specs.Limits.{largest_channels}
use Rattle.channels.specs.Isolation as isolation
use Rattle.channel_session.specs.Ends.{Pool, TableEvent, frame, release, TableAnswer, tables}
use Rattle.called_channels.specs.Ends.{Several}

-- what an event answers
abbrev pub answer_by : Turned → List ℕ → TableAnswer
answer_by t part = record { refusal = t.refusal; event = t.event; channel = t.channel; unit = handed_out t.unit part }

unfoldable pub value_answer : TableEvent → Channels → TableAnswer
value_answer (frame s) r = answer_by (receive_of r s) (unit_part r s)
value_answer (release n) r = answer_by (release_of r n) []

-- and the receiver after it
unfoldable pub value_next : TableEvent → Channels → Channels
value_next (frame s) r = (receive_of r s).next
value_next (release n) r = (release_of r n).next

-- the same in the terms of channels/specs/Isolation
abbrev pub told_value : Turned → List ℕ → isolation.Told
told_value t part = isolation.turn t.refusal t.event t.channel t.unit part

-- by value
abbrev pub by_value : Channels → Several
by_value r = record { Receiver = Channels; receiver = r; next = value_next; answer = value_answer; word = λ n lent x. word_told (word_of x n lent) }

-- a receiver by value at the session's start: its spacecraft, its pool and, of its array, the records
pub record BeginsValue (set : Settings) (pool : Pool) (r : Channels) : Type 0 where
  pub spacecraft : r.spacecraft ≡ set.own.spacecraft
  pub size : r.pool ≡ pool.size
  pub in_array : r.count ≤ length r.records
  pub records : records_in r ≡ pool.records

-- An event of the receiver by value is the event on its records (channels/specs/Isolation), where they are in its array, which has eight: so what is said there is said of it.
pub record AsValue (r : Channels) : Type 0 where
  pub frame_tells : r.count ≤ largest_channels → (s : List ℕ) (o : Octets s)
      → told_value (receive_of r s) (unit_part r s) ≡ isolation.told isolation.ours r.spacecraft r.pool (records_in r) (isolation.frame_arrives s o)
  pub release_tells : r.count ≤ largest_channels → (n : ℕ)
      → told_value (release_of r n) [] ≡ isolation.told isolation.ours r.spacecraft r.pool (records_in r) (isolation.release_buffer n)
  pub frame_leaves : r.count ≤ largest_channels → r.count ≤ length r.records → (s : List ℕ) (o : Octets s)
      → records_in (receive_of r s).next ≡ isolation.after isolation.ours r.spacecraft r.pool (records_in r) (isolation.frame_arrives s o)
  pub release_leaves : r.count ≤ largest_channels → r.count ≤ length r.records → (n : ℕ)
      → records_in (release_of r n).next ≡ isolation.after isolation.ours r.spacecraft r.pool (records_in r) (isolation.release_buffer n)

-- over a lent table of records: its functions' promises are the tables' definitions themselves
abbrev pub lent : Settings → Pool → Several
lent set pool = record {
  Receiver = (tables set pool).Receiver;
  receiver = pool.records;
  next = (tables set pool).next_receiver;
  answer = (tables set pool).answer_receiver;
  word = (tables set pool).word;
}
