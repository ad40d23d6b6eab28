-- The receiver across the boundary: its state as octets in a lent buffer (crate receiver_octets, specs/Kept), its answers as numbers.
use Rattle.std.specs.Prelude.{ℕ, ◌-◌, List, ◌++◌, Option, Some, None, Result, Ok, Err, leb, length, drop}
use Rattle.base.specs.Choice.{pick, must, both}
use Rattle.base.specs.Limits.{smallest_frame}
use Rattle.base.specs.Outcome as outcome
use Rattle.clcw.specs.Clcw.{writing}
use Rattle.frame.specs.Frame.{overhead, total_of}
use Rattle.fop.specs.Limits.{largest_number}
use Rattle.farm.specs.Table.{event_number}
use Rattle.receiver_octets.specs.Kept.{state_octets, octets_of, receiver_in, is_state}
use Rattle.receiver.specs.Receiver.{start_of, receive_of, unit_part, release_of, word_of}
use Rattle.receiver.specs.declared.Receiver.{Receiver}
use Rattle.base.specs.Refusals.{refusal_number, optional_number}
use Rattle.base.specs.declared.Refusal.{Refusal}
use Rattle.base.specs.declared.Refusal.TheVariants.{Setting}
use Rattle.receiver.specs.declared.Received.{Received}
use Rattle.farm.specs.declared.AcceptedUnit.{AcceptedUnit}
use Rattle.farm.specs.declared.AcceptedUnit.TheVariants.{Ad, Bd}

-- the unit accepted: 0 none, 1 AD, 2 BD
abbrev pub unit_number : Option AcceptedUnit → ℕ
unit_number None = 0
unit_number (Some Ad) = 1
unit_number (Some Bd) = 2

-- where it begins in the frame
abbrev pub unit_place : Option AcceptedUnit → ℕ
unit_place None = 0
unit_place (Some unit) = 5

-- the octets of the data field of a frame that is whole: its length field (clause 6.2.2.8) says no fewer than the smallest frame has, and no more than
-- there are; 0 of other octets
abbrev pub data_count : List ℕ → ℕ
data_count frame = pick (both (leb smallest_frame (total_of frame)) (leb (total_of frame) (length frame))) (total_of frame - overhead) 0

-- the octets of the unit accepted: none, or the data field
abbrev pub unit_count : Option AcceptedUnit → List ℕ → ℕ
unit_count None frame = 0
unit_count (Some unit) frame = data_count frame

-- a call by its number, and the state after it
pub record Called : Type 0 where
  pub number : ℕ
  pub state : List ℕ

-- a new receiver, into a lent buffer: 12, then 11 where the buffer is too short
abbrev pub starting : Result Receiver Refusal → List ℕ → Called
starting (Ok r) old =
    must (leb state_octets (length old)) (record { number = 11; state = old }) (record { number = 0; state = octets_of r ++ drop state_octets old })
starting (Err refusal) old = record { number = refusal_number refusal; state = old }

-- a receiver by the numbers given: 12 where one is outside its limit, V(R) too
unfoldable pub start_given : ℕ → ℕ → ℕ → ℕ → ℕ → Result Receiver Refusal
start_given spacecraft channel window vr buffers = must (leb vr largest_number) (Err Setting) (start_of spacecraft channel window vr buffers)

-- `pondreszi_receiver_new`: a receiver at its start (document 01, "FARM-1")
unfoldable pub new_call : ℕ → ℕ → ℕ → ℕ → ℕ → List ℕ → Called
new_call spacecraft channel window vr buffers old = starting (start_given spacecraft channel window vr buffers) old

-- an answer to a frame: the refusal of the frame (E9), 0 where there is none; octets that are no state are 12, no event, and nothing changes
pub record Frame : Type 0 where
  pub number : ℕ
  pub event : ℕ
  pub unit : ℕ
  pub first : ℕ
  pub count : ℕ
  pub state : List ℕ

-- the answer to a frame that met a receiver
abbrev pub received : Received → List ℕ → Frame
received a part = record {
  number = optional_number a.refusal;
  event = event_number a.event;
  unit = unit_number a.unit;
  first = unit_place a.unit;
  count = length part;
  state = octets_of a.next;
}

-- `pondreszi_receiver_frame`: lent octets arrive as a frame
unfoldable pub frame_call : List ℕ → List ℕ → Frame
frame_call state frame =
    must (is_state state) (record { number = 12; event = 0; unit = 0; first = 0; count = 0; state = state })
    (received (receive_of (receiver_in state) frame) (unit_part (receiver_in state) frame))

-- a release: E10, or 13
pub record Release : Type 0 where
  pub number : ℕ
  pub event : ℕ
  pub state : List ℕ

-- the answer to a release; one that is refused changes nothing
abbrev pub released_by : Result Received Refusal → List ℕ → Release
released_by (Ok a) old = record { number = 0; event = event_number a.event; state = octets_of a.next }
released_by (Err refusal) old = record { number = refusal_number refusal; event = 0; state = old }

-- `pondreszi_receiver_release`: a buffer is given back
unfoldable pub release_call : List ℕ → Release
release_call state = must (is_state state) (record { number = 12; event = 0; state = state }) (released_by (release_of (receiver_in state)) state)

-- the control word: 12 for octets that are no state, then as crate clcw writes it
unfoldable pub word_call : List ℕ → ℕ → outcome.Outcome (Unit {0})
word_call state lent = must (is_state state) (outcome.Outcome.refused 12 0) (writing (word_of (receiver_in state)) lent)
