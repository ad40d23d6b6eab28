-- The records of a lent table, taken by value (channels/specs/Channels).
use Rattle.std.specs.Prelude.{ℕ, List, ◌++◌, leb, length, take, drop, set, replicate}
use Rattle.base.specs.Choice.{pick}
use Rattle.receiver.specs.declared.Channel.{Channel}
use Rattle.channels.specs.declared.Channels.{Channels}
use Rattle.channels.specs.Limits.{largest_channels}
use Rattle.channels.specs.Table.{no_record}

-- how many are taken: all of up to eight, none of more
abbrev pub few_of : ℕ → ℕ
few_of count = pick (leb count largest_channels) count 0

-- eight places without a record
abbrev pub no_records : List Channel
no_records = replicate largest_channels no_record

-- a receiver with as many channels, its records not yet taken
abbrev pub empty_of : ℕ → ℕ → ℕ → Channels
empty_of spacecraft pool count = record { spacecraft = spacecraft; pool = pool; count = count; records = no_records }

-- one more record is taken
abbrev pub with_record : Channels → ℕ → Channel → Channels
with_record s place c = record { spacecraft = s.spacecraft; pool = s.pool; count = s.count; records = set s.records place c }

-- the receiver of a lent table; where there are more than eight records, its count says so
abbrev pub taken_of : ℕ → ℕ → List Channel → Channels
taken_of spacecraft pool cs = record {
  spacecraft = spacecraft;
  pool = pool;
  count = length cs;
  records = take (few_of (length cs)) cs ++ drop (few_of (length cs)) no_records;
}
