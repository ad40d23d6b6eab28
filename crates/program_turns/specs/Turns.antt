-- Document 01, "The program": what a line does to the session, and what is written for it.
use Rattle.std.specs.Prelude.{ℕ, None, Result, Ok, Err}
use Rattle.base.specs.declared.Refusal.{Refusal}
use Rattle.frame.specs.declared.Kind.TheVariants.{Ad as AdFrame, Bd as BdFrame, Unlock as UnlockFrame, SetVr as SetVrFrame}
use Rattle.receiver.specs.Receiver.{start_of, answered, arrived, release_of}
use Rattle.farm.specs.declared.Event.TheVariants.{E9}
use Rattle.receiver.specs.declared.Receiver.{Receiver}
use Rattle.receiver.specs.declared.Received.{Received}
use Rattle.program_lines.specs.declared.Line.{Line}
use Rattle.program_lines.specs.declared.Line.TheVariants.{Set, Ad, Bd, Unlock, SetVr, Bad, Free, Malformed}
use Rattle.program_rows.specs.declared.Output.TheVariants.{Nothing, Refused, Row}
use Rattle.program_turns.specs.declared.Session.{Session}
use Rattle.program_turns.specs.declared.Session.TheVariants.{Fresh, Running, Refusing}
use Rattle.program_turns.specs.declared.Turn.{Turn}

-- the program's receiver has spacecraft 0 and channel 0: no octets of a frame are read, so its address shows nowhere
abbrev pub program_spacecraft : ℕ
program_spacecraft = 0

-- and channel 0, likewise
abbrev pub program_channel : ℕ
program_channel = 0

-- a line refused: one field, REFUSED, and the session stays
abbrev pub refused_in : Session → Turn
refused_in session = record { session = session; output = Refused }

-- an event's row
abbrev pub row_turn : Received → Turn
row_turn received = record { session = Running received.next; output = Row received.event received.next.farm.channel.variables }

-- "Where the first line isn't a good SET, every line is refused"; "a good SET writes no line of its own"
abbrev pub opened : Result Receiver Refusal → Turn
opened (Ok r) = record { session = Running r; output = Nothing }
opened (Err refusal) = refused_in Refusing

-- the first line: "The first line is SET, W, V(R), buffers"
unfoldable pub first_of : Line → Turn
first_of (Set w v b) = opened (start_of program_spacecraft program_channel w v b)
first_of (Ad n) = refused_in Refusing
first_of Bd = refused_in Refusing
first_of Unlock = refused_in Refusing
first_of (SetVr v) = refused_in Refusing
first_of Bad = refused_in Refusing
first_of Free = refused_in Refusing
first_of Malformed = refused_in Refusing

-- FREE: a release is E10; one that is refused (13) gives REFUSED
abbrev pub released_turn : Receiver → Result Received Refusal → Turn
released_turn r (Ok received) = row_turn received
released_turn r (Err refusal) = refused_in (Running r)

-- a later line; a second SET is refused, BAD is an invalid frame, FREE a release
unfoldable pub later_of : Receiver → Line → Turn
later_of r (Set w v b) = refused_in (Running r)
later_of r (Ad n) = row_turn (arrived r (AdFrame n))
later_of r Bd = row_turn (arrived r BdFrame)
later_of r Unlock = row_turn (arrived r UnlockFrame)
later_of r (SetVr v) = row_turn (arrived r (SetVrFrame v))
later_of r Bad = row_turn (answered None E9 0 r)
later_of r Free = released_turn r (release_of r)
later_of r Malformed = refused_in (Running r)

-- a line: the first, a later one, or any line where the first was no good SET
unfoldable pub turn_of : Session → Line → Turn
turn_of Fresh line = first_of line
turn_of (Running r) line = later_of r line
turn_of Refusing line = refused_in Refusing
