-- Document 02, order 8, of the functions that C and Rust call, whatever octets are lent as the table: isolation, the pool and what is read, in the octets that
-- a caller keeps and the numbers that it is told. Quoted sentences are order 8's.
use Rattle.std.specs.Prelude.{None, Some, Option, ℕ, ◌*◌, ◌%◌, ◌≤◌, ◌≡◌, true, false, List, [], ◌∷◌, eqb, length, take, drop}
use Rattle.base.specs.Choice.{pick}
use Rattle.base.specs.Limits.{largest_channel}
use Rattle.base.specs.Outcome.{Outcome, answer, number_of}
use Rattle.fop.specs.Limits.{largest_number}
use Rattle.farm.specs.declared.AcceptedUnit.{AcceptedUnit}
use Rattle.farm.specs.declared.AcceptedUnit.TheVariants.{Ad as AdUnit, Bd as BdUnit}
use Rattle.channels.specs.Table.{held_in, has_room, record_of}
use Rattle.channels.specs.Isolation.{ours, Event, frame_arrives, release_buffer, report_word, channel_of, Told, turn, word, told, after, reads_pool, SameOwn}
use Rattle.channel_octets.specs.Kept.{record_octets, octets_of, record_in, records_in, is_table}
use Rattle.pondreszi_receiver.specs.Receivers.{Release}
use Rattle.pondreszi_channels.specs.Channels.{Frame, at_start, new_call, frame_call, release_call, word_call}

-- the unit accepted by its number
abbrev pub unit_numbered : ℕ → Option AcceptedUnit
unit_numbered n = pick (eqb n 1) (Some AdUnit) (pick (eqb n 2) (Some BdUnit) None)

-- what is told of a frame and of a release that names n (a done one is of n)
abbrev pub frame_call_told : Frame → List ℕ → Told
frame_call_told f s = turn f.number f.event f.channel (unit_numbered f.unit) (take f.count (drop f.first s))

abbrev pub release_call_told : Release → ℕ → Told
release_call_told x n = turn x.number x.event (pick (eqb x.number 0) n 0) None []

module _ (spacecraft pool : ℕ) (o : List ℕ) where
  -- what a call tells
  unfoldable pub call_told : Event → Told
  call_told (frame_arrives s lent) = frame_call_told (frame_call spacecraft pool o s) s
  call_told (release_buffer n) = release_call_told (release_call spacecraft pool o n) n
  call_told (report_word n room) = word (word_call spacecraft pool o n room)

  -- the number that it returns
  unfoldable pub call_number : Event → ℕ
  call_number (frame_arrives s lent) = (frame_call spacecraft pool o s).number
  call_number (release_buffer n) = (release_call spacecraft pool o n).number
  call_number (report_word n room) = number_of (answer (word_call spacecraft pool o n room))

  -- the table's octets after it; for a control word they are lent to be read only
  unfoldable pub call_after : Event → List ℕ
  call_after (frame_arrives s lent) = (frame_call spacecraft pool o s).table
  call_after (release_buffer n) = (release_call spacecraft pool o n).state
  call_after (report_word n room) = o

-- and after a list of calls, each given what the last left
abbrev pub call_after_all : ℕ → ℕ → List Event → List ℕ → List ℕ
call_after_all spacecraft pool [] o = o
call_after_all spacecraft pool (e ∷ es) o = call_after_all spacecraft pool es (call_after spacecraft pool o e)

-- what a call is told with octets that are no table
abbrev pub no_table : Event → Told
no_table (frame_arrives s lent) = turn 12 0 0 None []
no_table (release_buffer n) = turn 12 0 0 None []
no_table (report_word n room) = word (Outcome.refused 12 0)

-- the octets of the record at a place, and the channel that they are for
abbrev pub octets_at : ℕ → List ℕ → List ℕ
octets_at place o = take record_octets (drop (place * record_octets) o)

abbrev pub channel_at : ℕ → List ℕ → ℕ
channel_at place o = (record_in (octets_at place o)).number

pub record IsolatedCalled (spacecraft pool : ℕ) (o : List ℕ) : Type 0 where
  -- "Frames, controls and releases for one channel leave every other channel's record unchanged", each octet of it
  pub others : (e : Event) (place : ℕ) → (channel_at place o ≡ channel_of e → ⊥) → octets_at place (call_after spacecraft pool o e) ≡ octets_at place o
  -- no octet comes or goes
  pub count : (e : Event) → length (call_after spacecraft pool o e) ≡ length o
  -- "A refusal changes no octet of any lent buffer" (document 01)
  pub refused : (e : Event) → (call_number spacecraft pool o e ≡ 0 → ⊥) → call_after spacecraft pool o e ≡ o

-- `pondreszi_channel_new`, in whatever is lent: refused it changes nothing, done it writes its record in front and leaves the octets behind it, which may be other
-- records; it is done wherever the numbers are within their limits and there is room
pub record NewCalled (channel window vr : ℕ) (o : List ℕ) : Type 0 where
  pub refused : ((new_call channel window vr o).number ≡ 0 → ⊥) → (new_call channel window vr o).state ≡ o
  pub front : (new_call channel window vr o).number ≡ 0 → take record_octets (new_call channel window vr o).state ≡ octets_of (at_start channel window vr)
  pub behind : (new_call channel window vr o).number ≡ 0 → drop record_octets (new_call channel window vr o).state ≡ drop record_octets o
  pub done : channel ≤ largest_channel → window % 2 ≡ 0 → 2 ≤ window → window ≤ 254 → vr ≤ largest_number → record_octets ≤ length o → (new_call channel window vr o).number ≡ 0

-- a call is the event on the records that the octets hold: so all of channels/specs/Isolation is said of calls too
pub record AsRecords (spacecraft pool : ℕ) (o : List ℕ) : Type 0 where
  pub tells : is_table o ≡ true → (e : Event) → call_told spacecraft pool o e ≡ told ours spacecraft pool (records_in o) e
  pub leaves : is_table o ≡ true → (e : Event) → records_in (call_after spacecraft pool o e) ≡ after ours spacecraft pool (records_in o) e
  pub table : (e : Event) → is_table (call_after spacecraft pool o e) ≡ is_table o
  -- octets that are no table are 12, no event, and nothing is handed out
  pub none : is_table o ≡ false → (e : Event) → call_told spacecraft pool o e ≡ no_table e

-- no more is held than the pool has, over any calls
pub record PooledCalled (spacecraft pool : ℕ) (o : List ℕ) : Type 0 where
  pub most : (es : List Event) → held_in (records_in o) ≤ pool → held_in (records_in (call_after_all spacecraft pool es o)) ≤ pool

-- two tables, neither refused with 12, with the same record for the channel of a call, or both with none, and room in both pools or in neither: the call tells the
-- same and leaves the same record, so nothing else of the other channels is read
pub record ReadsCalled (spacecraft pool pool' : ℕ) (o o' : List ℕ) : Type 0 where
  pub own : (e : Event) → (call_number spacecraft pool o e ≡ 12 → ⊥) → (call_number spacecraft pool' o' e ≡ 12 → ⊥) → SameOwn (channel_of e) (records_in o) (records_in o')
      → has_room pool (records_in o) ≡ has_room pool' (records_in o')
      → (call_told spacecraft pool o e ≡ call_told spacecraft pool' o' e)
      × (record_of (channel_of e) (records_in (call_after spacecraft pool o e)) ≡ record_of (channel_of e) (records_in (call_after spacecraft pool' o' e)))
  -- and the room nowhere but where order 8 names the pool (`reads_pool`)
  pub elsewhere : (e : Event) → (call_number spacecraft pool o e ≡ 12 → ⊥) → (call_number spacecraft pool' o' e ≡ 12 → ⊥) → SameOwn (channel_of e) (records_in o) (records_in o')
      → reads_pool spacecraft (records_in o) e ≡ false
      → (call_told spacecraft pool o e ≡ call_told spacecraft pool' o' e)
      × (record_of (channel_of e) (records_in (call_after spacecraft pool o e)) ≡ record_of (channel_of e) (records_in (call_after spacecraft pool' o' e)))
