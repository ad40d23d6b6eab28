-- What FOP-1 hands down and receives: units, frames with their octets, control words.
use Rattle.std.specs.Prelude.{Bool, true, ◌&&◌, List, [], ◌∷◌, ℕ, leb, ltb, length, Some, None, Ok, Err}
use Rattle.base.specs.Choice.{pick}
use Rattle.base.specs.Limits.{largest_unit}
use Rattle.frame.specs.Frame.{frame_of}
use Rattle.frame.specs.declared.Kind.TheVariants as kind
use Rattle.clcw.specs.Clcw.{clcw_of}
use Rattle.clcw.specs.Answers.{WordReading, reading_of}
use Rattle.base.specs.Refusals.{refusal_number}
use Rattle.base.specs.declared.Refusal.TheVariants.{Length}

-- a unit (FDU): "A unit is its N(S) and octets" (document 01, "The session")
pub record Fdu : Type 0 where
  pub ns : ℕ
  pub octets : List ℕ

-- a frame by its type (clause 6.2.2): AD and BD with their unit, the two control commands of BC (clause 7.8). Refused is what a reader
-- makes of octets that it refuses, with document 01's number; no sender hands it down.
pub data Frame : Type 0 where
  AD : Fdu → Frame
  BD : List ℕ → Frame
  Unlock : Frame
  SetVR : ℕ → Frame
  Refused : ℕ → Frame

-- the address of both ends
pub record Own : Type 0 where
  pub spacecraft : ℕ
  pub channel : ℕ

-- what a valid control word of our channel tells FOP-1 (clause 7.9.2): its flags, its FARM-B counter and N(R), the report value
pub record Word : Type 0 where
  pub lockout : Bool
  pub wait : Bool
  pub retransmit : Bool
  pub counter : ℕ
  pub nr : ℕ

-- what octets are to the sender: a valid word; "an invalid CLCW, which is no refusal but FOP-1's event for that"; or refused, with the number
pub data WordReceived : Type 0 where
  valid : Word → WordReceived
  invalid : WordReceived
  other : ℕ → WordReceived

-- each number is an octet
abbrev pub are_octets : List ℕ → Bool
are_octets [] = true
are_octets (x ∷ xs) = ltb x 256 && are_octets xs

-- "Legal: within the limits": a unit of 1 to largest_unit octets. A list with a number above 255 is no unit.
unfoldable pub legal : List ℕ → Bool
legal o = leb 1 (length o) && (leb (length o) largest_unit && are_octets o)

-- a frame's octets, by crate frame; type-B frames have N(S) zero
unfoldable pub written : Own → Frame → List ℕ
written own (AD u) = frame_of own.spacecraft own.channel (kind.Ad u.ns) u.octets
written own (BD o) = frame_of own.spacecraft own.channel kind.Bd o
written own Unlock = frame_of own.spacecraft own.channel kind.Unlock []
written own (SetVR v) = frame_of own.spacecraft own.channel (kind.SetVr v) []
written own (Refused r) = []

-- a control word's octets on our channel, by crate clcw
unfoldable pub word_octets : Own → Word → List ℕ
word_octets own w =
    clcw_of (record { channel = own.channel; lockout = w.lockout; wait = w.wait; retransmit = w.retransmit; counter = w.counter; report = w.nr })

-- a reading of crate clcw; status, no RF and no bit lock are "read and not judged"
abbrev pub word_received : WordReading → WordReceived
word_received (Ok (Some r)) =
    valid (record {
      lockout = r.word.lockout;
      wait = r.word.wait;
      retransmit = r.word.retransmit;
      counter = r.word.counter;
      nr = r.word.report;
    })
word_received (Ok None) = invalid
word_received (Err refusal) = other (refusal_number refusal)

-- any octets, read at our channel; a list with a number above 255 is no octets, and so "a CLCW not of four octets"
unfoldable pub read_word : Own → List ℕ → WordReceived
read_word own s = word_received (pick (are_octets s) (reading_of s own.channel) (Err Length))
