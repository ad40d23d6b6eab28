-- A frame's octets as the session's histories see them: read at the address of both ends, by crate frame.
use Rattle.std.specs.Prelude.{List, ℕ, Ok, Err}
use Rattle.frame.specs.Answers.{FrameReading, reading_of, part_of}
use Rattle.frame.specs.declared.Kind.{Kind}
use Rattle.frame.specs.declared.Kind.TheVariants as kind
use Rattle.base.specs.Refusals.{refusal_number}
use Rattle.fop.specs.Units.{Frame, AD, BD, Unlock, SetVR, Refused, Own}

-- a frame of this kind, with its data part
abbrev pub carried : Kind → List ℕ → Frame
carried (kind.Ad ns) o = AD (record { ns = ns; octets = o })
carried kind.Bd o = BD o
carried kind.Unlock o = Unlock
carried (kind.SetVr v) o = SetVR v

-- a reading of crate frame, with the data part
abbrev pub by_reading : FrameReading → List ℕ → Frame
by_reading (Ok fields) o = carried fields.kind o
by_reading (Err refusal) o = Refused (refusal_number refusal)

-- any octets, read at the address `own`
unfoldable pub read : Own → List ℕ → Frame
read own s = by_reading (reading_of s own.spacecraft own.channel) (part_of s own.spacecraft own.channel)
