-- Document 02, order 8: "each with its own window, V(R), flags and counter". An event that is done makes of its channel's record what its row of table 7-9 says, for
-- every record of a table that is not 12, whatever the others hold: also of one that waits and holds none, or that holds more than a single receiver can. On any
-- receiver of several channels, as specs/Isolation.
use Rattle.std.specs.Prelude.{Option}
use Rattle.std.specs.Prelude.{ℕ, ◌+◌, ◌-◌, ◌≡◌, true, false, List}
use Rattle.base.specs.Octets.{Octets}
use Rattle.clcw.specs.Clcw.{writing}
use Rattle.farm.specs.Table.{event_number, step_of, unit_of}
use Rattle.farm.specs.declared.Event.{Event as FarmEvent}
use Rattle.farm.specs.declared.Event.TheVariants.{E10}
use Rattle.farm.specs.declared.AcceptedUnit.{AcceptedUnit}
use Rattle.frame.specs.Frame.{refusal_of, kind_of, data_field, total_of}
use Rattle.receiver.specs.declared.Channel.{Channel}
use Rattle.receiver.specs.Channel.{become, event_of, star_of, takes}
use Rattle.receiver.specs.Receiver.{part_for}
use Rattle.channels.specs.Table.{is_in, table_holds, has_room, no_channel, record_of, word_of}
use Rattle.channels.specs.Isolation.{Machine, frame_arrives, release_buffer, named, turn, told, after}

-- the record of the channel that a frame names, the event that the frame is to it, and the unit that the event's row hands out
abbrev pub own_of : List Channel → List ℕ → Channel
own_of cs octets = record_of (named octets) cs

abbrev pub row_of : ℕ → List Channel → List ℕ → FarmEvent
row_of pool cs octets = event_of (has_room pool cs) (own_of cs octets) (kind_of octets)

abbrev pub handed : ℕ → List Channel → List ℕ → Option AcceptedUnit
handed pool cs octets = unit_of (row_of pool cs octets) (own_of cs octets).variables.state

pub record Rows (m : Machine) (spacecraft pool : ℕ) (cs : List Channel) : Type 0 where
  -- a frame that its channel's receiver would take is told as its event, with the unit of the row, a part of the frame
  pub frame_told : table_holds spacecraft pool cs ≡ true → (octets : List ℕ) (lent : Octets octets) → is_in (named octets) cs ≡ true
      → refusal_of octets spacecraft (named octets) ≡ 0
      → told m spacecraft pool cs (frame_arrives octets lent)
      ≡ turn 0 (event_number (row_of pool cs octets)) (named octets) (handed pool cs octets) (part_for (handed pool cs octets) (data_field octets (total_of octets)))
  -- and its record is the row's: V(R), flags and counter by the row's actions, one unit more held where an AD unit is handed out
  pub frame_next : table_holds spacecraft pool cs ≡ true → (octets : List ℕ) (lent : Octets octets) → is_in (named octets) cs ≡ true
      → refusal_of octets spacecraft (named octets) ≡ 0
      → record_of (named octets) (after m spacecraft pool cs (frame_arrives octets lent))
      ≡ become ((own_of cs octets).held + takes (handed pool cs octets)) (step_of (row_of pool cs octets) (star_of (kind_of octets)) (own_of cs octets).variables) (own_of cs octets)
  -- a release that is done is E10's row, and one unit less is held where there is one (0 - 1 is 0)
  pub release_next : (n : ℕ) → (m.release spacecraft pool cs n).refusal ≡ 0
      → record_of n (after m spacecraft pool cs (release_buffer n)) ≡ become ((record_of n cs).held - 1) (step_of E10 0 (record_of n cs).variables) (record_of n cs)
  -- the control word asked of a channel has its V(R), flags and counter
  pub words : table_holds spacecraft pool cs ≡ true → (n room : ℕ) → is_in n cs ≡ true → m.word spacecraft pool cs n room ≡ writing (word_of (record_of n cs)) room
  -- a frame of a channel that is not there, whatever else is wrong with it, is judged where it was: it is read as a frame of no channel of ours
  pub frame_absent : table_holds spacecraft pool cs ≡ true → (octets : List ℕ) → Octets octets → is_in (named octets) cs ≡ false
      → (m.frame spacecraft pool cs octets).refusal ≡ refusal_of octets spacecraft no_channel
