-- Document 02, order 8: the records of up to eight virtual channels and the pool that they share, and what each event makes of them. A record is crate
-- receiver's (specs/Channel): "each with its own window, V(R), flags and counter", and the AD units that it holds.
use Rattle.std.specs.Prelude.{ℕ, suc, ◌+◌, ◌%◌, Bool, true, false, not, ◌||◌, List, [], ◌∷◌, leb, ltb, eqb, length, get_or, set, Option, Some, None, Result, Ok, Err}
use Rattle.base.specs.Choice.{pick, must, both}
use Rattle.base.specs.Fields.{field_at}
use Rattle.base.specs.Limits.{largest_spacecraft, largest_channel}
use Rattle.base.specs.Outcome.{Outcome, Outcome.refused}
use Rattle.base.specs.Refusals.{refusal_number}
use Rattle.base.specs.declared.Refusal.{Refusal}
use Rattle.clcw.specs.declared.Clcw.{Clcw}
use Rattle.clcw.specs.Clcw.{writing}
use Rattle.farm.specs.Table.{event_number}
use Rattle.farm.specs.declared.State.TheVariants.{Open}
use Rattle.farm.specs.declared.Event.{Event}
use Rattle.farm.specs.declared.AcceptedUnit.{AcceptedUnit}
use Rattle.frame_header.specs.Header.{virtual_channel_identifier}
use Rattle.frame.specs.Answers.{FrameReading, reading_of, part_of}
use Rattle.receiver.specs.declared.Channel.{Channel}
use Rattle.receiver.specs.declared.ChannelAnswer.{ChannelAnswer}
use Rattle.receiver.specs.Channel.{arrived, release_of}
use Rattle.receiver.specs.Receiver.{part_for}
use Rattle.receiver.specs.State.{flags_hold}
use Rattle.channels.specs.Limits.{largest_channels, largest_pool}
use Rattle.channels.specs.declared.Change.{Change}
use Rattle.channels.specs.declared.Refused.{Refused}

-- The records.

-- one of them is for the channel n
abbrev pub is_in : ℕ → List Channel → Bool
is_in n [] = false
is_in n (c ∷ cs) = eqb c.number n || is_in n cs

-- its place; the count of records where none is
abbrev pub place_of : ℕ → List Channel → ℕ
place_of n [] = 0
place_of n (c ∷ cs) = pick (eqb c.number n) 0 (suc (place_of n cs))

-- no two are for one channel
abbrev pub distinct : List Channel → Bool
distinct [] = true
distinct (c ∷ cs) = both (not (is_in c.number cs)) (distinct cs)

-- the AD units that all of them hold, each in a buffer of the pool
abbrev pub held_in : List Channel → ℕ
held_in [] = 0
held_in (c ∷ cs) = c.held + held_in cs

-- a record within document 01's limits ("Receiver window W even, 2 to 254"; channel; counter), its flags those of its state
abbrev pub record_holds : Channel → Bool
record_holds c =
    both (leb c.number largest_channel)
    (both (eqb (c.window % 2) 0)
    (both (leb 2 c.window)
    (both (leb c.window 254)
    (both (flags_hold c.variables.state c.variables.lockout c.variables.wait c.variables.retransmit) (ltb c.variables.counter 4)))))

abbrev pub all_hold : List Channel → Bool
all_hold [] = true
all_hold (c ∷ cs) = both (record_holds c) (all_hold cs)

-- "Over eight records, two for one channel or more held than the pool are 12, judged first"; so are a pool or a spacecraft outside its limits, and a
-- record that no receiver has
unfoldable pub table_holds : ℕ → ℕ → List Channel → Bool
table_holds spacecraft pool cs =
    both (leb spacecraft largest_spacecraft)
    (both (leb 1 pool)
    (both (leb pool largest_pool)
    (both (leb (length cs) largest_channels)
    (both (all_hold cs) (both (distinct cs) (leb (held_in cs) pool))))))

-- the pool has a free buffer
abbrev pub has_room : ℕ → List Channel → Bool
has_room pool cs = ltb (held_in cs) pool

-- what stands where there is no record
abbrev pub no_record : Channel
no_record = record {
  number = 0;
  window = 2;
  held = 0;
  variables = record { state = Open; vr = 0; lockout = false; wait = false; retransmit = false; counter = 0 };
}

-- the record of the channel n
abbrev pub record_of : ℕ → List Channel → Channel
record_of n cs = get_or cs (place_of n cs) no_record

-- What an event comes to (`Turn`): document 01's refusal, 0 for done; the event's number in table 7-9, 0 where it is none; the channel that it is of, 0
-- where it is of none; the unit accepted; and the one record that changes, with its place: the count of records where none does.

pub record Turn : Type 0 where
  pub refusal : ℕ
  pub event : ℕ
  pub channel : ℕ
  pub unit : Option AcceptedUnit
  pub place : ℕ
  pub next : Channel

-- nothing changes, of so many records
abbrev pub nothing_of : ℕ → ℕ → ℕ → Turn
nothing_of refusal event count = record { refusal = refusal; event = event; channel = 0; unit = None; place = count; next = no_record }

abbrev pub nothing : ℕ → ℕ → List Channel → Turn
nothing refusal event cs = nothing_of refusal event (length cs)

-- the answer of the channel n, whose record stands at a place
abbrev pub turned_at : ℕ → ℕ → ChannelAnswer → Turn
turned_at place n a = record { refusal = 0; event = event_number a.event; channel = n; unit = a.unit; place = place; next = a.next }

abbrev pub turned : ℕ → ChannelAnswer → List Channel → Turn
turned n a cs = turned_at (place_of n cs) n a

-- what it comes to in code, of so many records
abbrev pub number_or_none : Option Event → ℕ
number_or_none (Some event) = event_number event
number_or_none None = 0

abbrev pub turn_of : ℕ → Result Change Refused → Turn
turn_of count (Ok change) =
    record { refusal = 0; event = event_number change.event; channel = change.channel; unit = change.unit; place = change.place; next = change.next }
turn_of count (Err nothing_done) = nothing_of (refusal_number nothing_done.refusal) (number_or_none nothing_done.event) count

-- the records after it
abbrev pub records_after : Turn → List Channel → List Channel
records_after t cs = set cs t.place t.next

-- A frame.

-- no frame has this channel
abbrev pub no_channel : ℕ
no_channel = suc largest_channel

-- "Refusal 7 now means none of the eight": the address at which a frame is read is that of the channel it names, where one of the records is for it;
-- else one that no frame has, so 7 is judged where it was (frame/proofs/Back, `own_beyond`)
abbrev pub addressed : List Channel → List ℕ → ℕ
addressed cs octets = pick (is_in (field_at virtual_channel_identifier octets) cs) (field_at virtual_channel_identifier octets) no_channel

-- "A refused frame is E9 of no channel and changes no record."
abbrev pub by_reading : ℕ → List Channel → ℕ → FrameReading → Turn
by_reading pool cs n (Ok fields) = turned n (arrived (has_room pool cs) (record_of n cs) fields.kind) cs
by_reading pool cs n (Err refusal) = nothing (refusal_number refusal) 9 cs

unfoldable pub frame_turn : ℕ → ℕ → List Channel → List ℕ → Turn
frame_turn spacecraft pool cs octets =
    must (table_holds spacecraft pool cs) (nothing 12 0 cs)
    (by_reading pool cs (addressed cs octets) (reading_of octets spacecraft (addressed cs octets)))

-- the unit that it brings, as a part of the lent frame; empty where none is accepted
unfoldable pub unit_part : ℕ → ℕ → List Channel → List ℕ → List ℕ
unit_part spacecraft pool cs octets = part_for (frame_turn spacecraft pool cs octets).unit (part_of octets spacecraft (addressed cs octets))

-- A release, "each release naming its channel": absent is 7; "A release naming a channel that holds a buffer gives one back and is E10. Naming one that
-- holds none is 13, except for a channel in Wait while the pool has room: that is E10 and the pool stays as it was." (receiver/specs/Channel, `release_of`)
abbrev pub by_release : ℕ → List Channel → Result ChannelAnswer Refusal → Turn
by_release n cs (Ok a) = turned n a cs
by_release n cs (Err refusal) = nothing (refusal_number refusal) 0 cs

unfoldable pub release_turn : ℕ → ℕ → List Channel → ℕ → Turn
release_turn spacecraft pool cs n =
    must (table_holds spacecraft pool cs) (nothing 12 0 cs)
    (must (is_in n cs) (nothing 7 0 cs) (by_release n cs (release_of (has_room pool cs) (record_of n cs))))

-- The control word of a channel (E11), with its V(R), flags and counter; 12 and 7 as above, then 11.
abbrev pub word_of : Channel → Clcw
word_of c = record {
  channel = c.number;
  lockout = c.variables.lockout;
  wait = c.variables.wait;
  retransmit = c.variables.retransmit;
  counter = c.variables.counter;
  report = c.variables.vr;
}

unfoldable pub word_writing : ℕ → ℕ → List Channel → ℕ → ℕ → Outcome (Unit {0})
word_writing spacecraft pool cs n lent =
    must (table_holds spacecraft pool cs) (refused 12 0) (must (is_in n cs) (refused 7 0) (writing (word_of (record_of n cs)) lent))
