-- Document 02, order 8, "Records by value first": an array of eight, of which the first `count` are records; what each event makes of it is specs/Table.
use Rattle.std.specs.Prelude.{ℕ, List, ◌++◌, leb, take, drop, Option, None, Result}
use Rattle.base.specs.Choice.{must}
use Rattle.base.specs.Outcome.{Outcome, Outcome.refused}
use Rattle.farm.specs.declared.AcceptedUnit.{AcceptedUnit}
use Rattle.receiver.specs.declared.Channel.{Channel}
use Rattle.channels.specs.declared.Channels.{Channels}
use Rattle.channels.specs.declared.Change.{Change}
use Rattle.channels.specs.declared.Refused.{Refused}
use Rattle.channels.specs.Limits.{largest_channels}
use Rattle.channels.specs.Table as table
use Rattle.channels.specs.Table.{Turn, nothing_of, turn_of, records_after, frame_turn, release_turn, word_writing}

-- its records
abbrev pub records_in : Channels → List Channel
records_in s = take s.count s.records

-- with other records in their place
abbrev pub with_records : List Channel → Channels → Channels
with_records cs s = record { spacecraft = s.spacecraft; pool = s.pool; count = s.count; records = cs ++ drop s.count s.records }

-- What an event gives: what it comes to but for the record that changes, with the receiver next.
pub record Turned : Type 0 where
  pub refusal : ℕ
  pub event : ℕ
  pub channel : ℕ
  pub unit : Option AcceptedUnit
  pub next : Channels

-- in code
abbrev pub turned_of : Result Change Refused × Channels → Turned
turned_of x = record {
  refusal = (turn_of x.1.count x.0).refusal;
  event = (turn_of x.1.count x.0).event;
  channel = (turn_of x.1.count x.0).channel;
  unit = (turn_of x.1.count x.0).unit;
  next = x.1;
}

-- what an event comes to, with the receiver next
abbrev pub told : Turn → Channels → Turned
told t s = record {
  refusal = t.refusal;
  event = t.event;
  channel = t.channel;
  unit = t.unit;
  next = with_records (records_after t (records_in s)) s;
}

-- 12, nothing changed
abbrev pub refused_count : Channels → Turned
refused_count s = record { refusal = 12; event = 0; channel = 0; unit = None; next = s }

-- what lent octets come to, with the one record that changes; "Over eight records .. are 12"
unfoldable pub frame_turn_of : Channels → List ℕ → Turn
frame_turn_of s octets = must (leb s.count largest_channels) (nothing_of 12 0 s.count) (frame_turn s.spacecraft s.pool (records_in s) octets)

-- lent octets; "Over eight records .. are 12"
unfoldable pub receive_of : Channels → List ℕ → Turned
receive_of s octets = must (leb s.count largest_channels) (refused_count s) (told (frame_turn s.spacecraft s.pool (records_in s) octets) s)

-- the unit that they bring, a part of them
unfoldable pub unit_part : Channels → List ℕ → List ℕ
unit_part s octets = must (leb s.count largest_channels) (take 0 octets) (table.unit_part s.spacecraft s.pool (records_in s) octets)

-- what a release that names the channel n comes to, likewise
unfoldable pub release_turn_of : Channels → ℕ → Turn
release_turn_of s n = must (leb s.count largest_channels) (nothing_of 12 0 s.count) (release_turn s.spacecraft s.pool (records_in s) n)

-- a release that names the channel n
unfoldable pub release_of : Channels → ℕ → Turned
release_of s n = must (leb s.count largest_channels) (refused_count s) (told (release_turn s.spacecraft s.pool (records_in s) n) s)

-- the control word of the channel n, in output of `lent` octets
unfoldable pub word_of : Channels → ℕ → ℕ → Outcome (Unit {0})
word_of s n lent = must (leb s.count largest_channels) (refused 12 0) (word_writing s.spacecraft s.pool (records_in s) n lent)
