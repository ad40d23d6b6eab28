-- Document 01, "FARM-1": the receiver's record, and what each of its functions answers: its channel's answers (specs/Channel), where there is room as
-- long as a buffer is not taken, and frames are read at its address.
use Rattle.std.specs.Prelude.{ℕ, ◌-◌, ◌%◌, Bool, false, List, [], leb, ltb, eqb, Option, Some, None, Result, Ok, Err}
use Rattle.base.specs.Choice.{must}
use Rattle.base.specs.Limits.{largest_spacecraft, largest_channel}
use Rattle.base.specs.declared.Refusal.{Refusal}
use Rattle.base.specs.declared.Refusal.TheVariants.{Setting, Release}
use Rattle.frame.specs.Answers.{FrameReading, reading_of, part_of}
use Rattle.frame.specs.declared.Kind.{Kind}
use Rattle.clcw.specs.declared.Clcw.{Clcw}
use Rattle.farm.specs.declared.State.TheVariants.{Open}
use Rattle.farm.specs.declared.Event.{Event}
use Rattle.farm.specs.declared.Event.TheVariants.{E9, E10}
use Rattle.farm.specs.declared.Variables.{Variables}
use Rattle.receiver.specs.Channel as channel
use Rattle.receiver.specs.declared.Channel.{Channel}
use Rattle.farm.specs.declared.AcceptedUnit.{AcceptedUnit}
use Rattle.farm.specs.declared.AcceptedUnit.TheVariants.{Ad as AdUnit, Bd as BdUnit}
use Rattle.receiver.specs.declared.ChannelAnswer.{ChannelAnswer}
use Rattle.receiver.specs.declared.Receiver.{Receiver}
use Rattle.receiver.specs.declared.Received.{Received}

-- document 01, "Limits": "Receiver buffers for AD units 1 to 8"
abbrev pub largest_buffers : ℕ
largest_buffers = 8

-- document 01, "Start: Open, flags and counter zero, V(R) and buffer count as set"
abbrev pub at_start : ℕ → ℕ → ℕ → ℕ → ℕ → Receiver
at_start spacecraft channel window vr buffers = record {
  farm = record {
    spacecraft = spacecraft;
    buffers = buffers;
    channel = record {
      number = channel;
      window = window;
      held = 0;
      variables = record { state = Open; vr = vr; lockout = false; wait = false; retransmit = false; counter = 0 };
    };
  };
}

-- document 01, "Limits": where every setting is within its limit go on, else the refusal
abbrev pub must_be_within : {A : Type 0} → ℕ → ℕ → ℕ → ℕ → A → A → A
must_be_within spacecraft channel window buffers refusal on =
    must (leb spacecraft largest_spacecraft) refusal
    (must (leb channel largest_channel) refusal
    (must (eqb (window % 2) 0) refusal
    (must (leb 2 window) refusal
    (must (leb window 254) refusal
    (must (leb 1 buffers) refusal
    (must (leb buffers largest_buffers) refusal on))))))

-- a new receiver, or 12 where a setting is outside its limit
unfoldable pub start_of : ℕ → ℕ → ℕ → ℕ → ℕ → Result Receiver Refusal
start_of spacecraft channel window vr buffers =
    must_be_within spacecraft channel window buffers (Err Setting) (Ok (at_start spacecraft channel window vr buffers))

-- and document 01's number of it
abbrev pub start_refusal : ℕ → ℕ → ℕ → ℕ → ℕ
start_refusal spacecraft channel window buffers = must_be_within spacecraft channel window buffers 12 0

-- the receiver with its channel as an event leaves it
abbrev pub with_channel : Channel → Receiver → Receiver
with_channel c r = record { farm = record { spacecraft = r.farm.spacecraft; buffers = r.farm.buffers; channel = c } }

-- the receiver with other variables and another count of buffers taken
abbrev pub become : ℕ → Variables → Receiver → Receiver
become taken variables r = with_channel (channel.become taken variables r.farm.channel) r

-- a buffer is free for an AD unit: each unit held has taken one
abbrev pub has_room : Receiver → Bool
has_room r = ltb r.farm.channel.held r.farm.buffers

-- the channel's answer as the receiver's, which carries the refusal where there was one
abbrev pub told_by : Option Refusal → ChannelAnswer → Receiver → Received
told_by refusal a r = record { refusal = refusal; event = a.event; unit = a.unit; next = with_channel a.next r }

-- an event by the table: the receiver after it, and its answer
unfoldable pub answered : Option Refusal → Event → ℕ → Receiver → Received
answered refusal e star r = told_by refusal (channel.answered e star r.farm.channel) r

-- a valid frame of a kind
unfoldable pub arrived : Receiver → Kind → Received
arrived r kind = told_by None (channel.arrived (has_room r) r.farm.channel kind) r

-- document 01: "A frame that is refused is event E9 to the receiver"
unfoldable pub by_reading : Receiver → FrameReading → Received
by_reading r (Ok fields) = arrived r fields.kind
by_reading r (Err refusal) = answered (Some refusal) E9 0 r

-- lent octets, read as a frame of our address
unfoldable pub receive_of : Receiver → List ℕ → Received
receive_of r octets = by_reading r (reading_of octets r.farm.spacecraft r.farm.channel.number)

-- the unit that a frame brings: its data part where it is accepted, else empty
abbrev pub part_for : Option AcceptedUnit → List ℕ → List ℕ
part_for None part = []
part_for (Some AdUnit) part = part
part_for (Some BdUnit) part = part

-- the unit's octets, as a part of the lent frame
unfoldable pub unit_part : Receiver → List ℕ → List ℕ
unit_part r octets = part_for (receive_of r octets).unit (part_of octets r.farm.spacecraft r.farm.channel.number)

-- document 01: "a release gives one back and is E10"; 13 where none is taken
unfoldable pub release_of : Receiver → Result Received Refusal
release_of r = must (ltb 0 r.farm.channel.held) (Err Release) (Ok (answered None E10 0 (become (r.farm.channel.held - 1) r.farm.channel.variables r)))

-- and document 01's number of it
abbrev pub release_refusal : Receiver → ℕ
release_refusal r = must (ltb 0 r.farm.channel.held) 13 0

-- E11: the control word, with V(R), flags and counter as they are
unfoldable pub word_of : Receiver → Clcw
word_of r = record {
  channel = r.farm.channel.number;
  lockout = r.farm.channel.variables.lockout;
  wait = r.farm.channel.variables.wait;
  retransmit = r.farm.channel.variables.retransmit;
  counter = r.farm.channel.variables.counter;
  report = r.farm.channel.variables.vr;
}
