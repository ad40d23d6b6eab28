-- The receiver of up to eight channels across the boundary (document 02, order 8): its records as octets in one lent buffer (channel_octets/specs/Kept),
-- spacecraft and pool with each call, its answers as numbers.
use Rattle.std.specs.Prelude.{ℕ, suc, false, List, ◌++◌, leb, length, drop, Result, Ok, Err}
use Rattle.base.specs.Choice.{must}
use Rattle.base.specs.Limits.{largest_spacecraft}
use Rattle.base.specs.Outcome as outcome
use Rattle.base.specs.declared.Refusal.{Refusal}
use Rattle.base.specs.declared.Refusal.TheVariants.{Setting}
use Rattle.fop.specs.Limits.{largest_number}
use Rattle.farm.specs.declared.State.TheVariants.{Open}
use Rattle.receiver.specs.declared.Channel.{Channel}
use Rattle.channels.specs.declared.Channels.{Channels}
use Rattle.channels.specs.Table.{Turn, record_holds, records_after, frame_turn, unit_part, release_turn, word_writing}
use Rattle.channel_table.specs.Taken.{taken_of}
use Rattle.channel_octets.specs.Kept.{record_octets, octets_of, table_octets, records_in, is_table}
use Rattle.pondreszi_numbers.specs.Numbers.{largest_octet, largest_pair, narrow}
use Rattle.pondreszi_receiver.specs.Receivers.{Called, Release, unit_number, unit_place}

-- document 01, "FARM-1": a channel at its start: Open, flags and counter zero, V(R) as set, no unit held
abbrev pub at_start : ℕ → ℕ → ℕ → Channel
at_start channel window vr = record {
  number = channel;
  window = window;
  held = 0;
  variables = record { state = Open; vr = vr; lockout = false; wait = false; retransmit = false; counter = 0 };
}

-- the same by the numbers given: 12 where one is outside its limit, V(R) too
unfoldable pub start_given : ℕ → ℕ → ℕ → Result Channel Refusal
start_given channel window vr =
    must (leb vr largest_number) (Err Setting) (must (record_holds (at_start channel window vr)) (Err Setting) (Ok (at_start channel window vr)))

-- the receiver that a call meets: its records those of the lent table, 12 for octets that are none; a number that has too many bits is handed on as one
-- beyond its limit (pondreszi_numbers/specs)
unfoldable pub taking : ℕ → ℕ → List ℕ → Result Channels Refusal
taking spacecraft pool table =
    must (is_table table) (Err Setting)
    (Ok (taken_of (narrow largest_pair (suc largest_spacecraft) spacecraft) (narrow largest_octet largest_octet pool) (records_in table)))

-- `pondreszi_channel_new`: the record of a channel at its start, at the front of a lent buffer: 12 where a number is outside its limit, V(R) too, then 11
-- where the buffer is too short
unfoldable pub new_call : ℕ → ℕ → ℕ → List ℕ → Called
new_call channel window vr old =
    must (leb vr largest_number) (record { number = 12; state = old })
    (must (record_holds (at_start channel window vr)) (record { number = 12; state = old })
    (must (leb record_octets (length old)) (record { number = 11; state = old })
    (record { number = 0; state = octets_of (at_start channel window vr) ++ drop record_octets old })))

-- the answer to a frame: document 01's refusal, 0 for done; the event of table 7-9, 0 for none; the channel that it is of, 0 for none; the unit
-- accepted, where it begins in the frame and its octets; the table after it
pub record Frame : Type 0 where
  pub number : ℕ
  pub event : ℕ
  pub channel : ℕ
  pub unit : ℕ
  pub first : ℕ
  pub count : ℕ
  pub table : List ℕ

-- the octets of the records after an event
abbrev pub table_after : Turn → List ℕ → List ℕ
table_after t table = table_octets (records_after t (records_in table))

-- by what it came to, and the unit that it brings
abbrev pub received : Turn → List ℕ → List ℕ → Frame
received t part table = record {
  number = t.refusal;
  event = t.event;
  channel = t.channel;
  unit = unit_number t.unit;
  first = unit_place t.unit;
  count = length part;
  table = table_after t table;
}

-- `pondreszi_channels_frame`: lent octets arrive as a frame; a lent buffer that is no table is 12, no event, and nothing changes
unfoldable pub frame_call : ℕ → ℕ → List ℕ → List ℕ → Frame
frame_call spacecraft pool table frame =
    must (is_table table) (record { number = 12; event = 0; channel = 0; unit = 0; first = 0; count = 0; table = table })
    (received (frame_turn spacecraft pool (records_in table) frame) (unit_part spacecraft pool (records_in table) frame) table)

abbrev pub released_by : Turn → List ℕ → Release
released_by t table = record { number = t.refusal; event = t.event; state = table_after t table }

-- `pondreszi_channels_release`: a release that names a channel; one that has no record, any number above 63 too, is 7
unfoldable pub release_call : ℕ → ℕ → List ℕ → ℕ → Release
release_call spacecraft pool table channel =
    must (is_table table) (record { number = 12; event = 0; state = table }) (released_by (release_turn spacecraft pool (records_in table) channel) table)

-- `pondreszi_channels_word`: the control word of a channel, into output of `lent` octets
unfoldable pub word_call : ℕ → ℕ → List ℕ → ℕ → ℕ → outcome.Outcome (Unit {0})
word_call spacecraft pool table channel lent =
    must (is_table table) (outcome.Outcome.refused 12 0) (word_writing spacecraft pool (records_in table) channel lent)
