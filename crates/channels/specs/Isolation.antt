-- Document 02, order 8, what holds of the channels beside each other: isolation, the shared pool, Wait with a free buffer, and the single receiver as a case.
-- Statements on any receiver of several channels, whatever it is (`Machine`); quoted sentences are order 8's, where no other paper is named. Ours meets them
-- (proofs/Isolation, Agree, Runs, Pool, Waiting, Single), wrong ones do not (proofs/Refuted).
use Rattle.std.specs.Prelude.{Option, None, Result, Ok, Err}
use Rattle.std.specs.Prelude.{ℕ, ◌+◌, ◌<◌, ◌≤◌, ◌≡◌, ◌⊎◌, Bool, true, false, not, List, [], ◌∷◌, map, ltb, eqb, length}
use Rattle.base.specs.Choice.{pick, must, both}
use Rattle.base.specs.Fields.{field_at}
use Rattle.base.specs.Flags.{bit_of}
use Rattle.base.specs.Modulo.{offset}
use Rattle.base.specs.Octets.{Octets}
use Rattle.base.specs.Outcome.{Outcome, answer, number_of}
use Rattle.clcw.specs.Clcw.{writing}
use Rattle.farm.specs.Table.{event_number}
use Rattle.farm.specs.Window.{not_wait}
use Rattle.farm.specs.declared.State.{State}
use Rattle.farm.specs.declared.State.TheVariants.{Open, Wait, Lockout}
use Rattle.farm.specs.declared.AcceptedUnit.{AcceptedUnit}
use Rattle.frame_header.specs.Header.{virtual_channel_identifier}
use Rattle.frame.specs.Frame.{refusal_of, kind_of}
use Rattle.frame.specs.declared.Kind.{Kind}
use Rattle.frame.specs.declared.Kind.TheVariants.{Ad, Bd, Unlock, SetVr}
use Rattle.receiver.specs.declared.Channel.{Channel}
use Rattle.receiver.specs.declared.Receiver.{Receiver}
use Rattle.base.specs.declared.Refusal.{Refusal}
use Rattle.base.specs.Refusals.{refusal_number, optional_number}
use Rattle.receiver.specs.declared.Received.{Received}
use Rattle.receiver.specs.Channel.{takes}
use Rattle.receiver.specs.Receiver as single
use Rattle.channels.specs.Table.{is_in, held_in, table_holds, has_room, record_of, Turn, records_after, frame_turn, unit_part, release_turn, word_writing}

-- A receiver of several channels.

-- What it answers to a frame, the part of the frame that it hands out, and what it answers to a release that names a channel and to a control word asked
-- of a channel, in output of so many octets; for every spacecraft, pool and records.
pub record Machine : Type 0 where
  pub frame : ℕ → ℕ → List Channel → List ℕ → Turn
  pub unit : ℕ → ℕ → List Channel → List ℕ → List ℕ
  pub release : ℕ → ℕ → List Channel → ℕ → Turn
  pub word : ℕ → ℕ → List Channel → ℕ → ℕ → Outcome (Unit {0})

-- ours (specs/Table)
abbrev pub ours : Machine
ours = record { frame = frame_turn; unit = unit_part; release = release_turn; word = word_writing }

-- "Frames, controls and releases": any octets, any channel's number, any output lent; a control (Unlock, Set V(R)) is a frame
pub data Event : Type 0 where
  frame_arrives : (octets : List ℕ) → Octets octets → Event
  release_buffer : ℕ → Event
  report_word : ℕ → ℕ → Event

-- the channel that a frame names
abbrev pub named : List ℕ → ℕ
named octets = field_at virtual_channel_identifier octets

-- the channel that an event is for
abbrev pub channel_of : Event → ℕ
channel_of (frame_arrives octets lent) = named octets
channel_of (release_buffer n) = n
channel_of (report_word n room) = n

-- what an event is told: of a frame or release all but the record that changes, with the part handed out; or the control word
pub data Told : Type 0 where
  turn : ℕ → ℕ → ℕ → Option AcceptedUnit → List ℕ → Told
  word : Outcome (Unit {0}) → Told

abbrev pub told_of : Turn → List ℕ → Told
told_of t part = turn t.refusal t.event t.channel t.unit part

module _ (m : Machine) (spacecraft pool : ℕ) (cs : List Channel) where
  abbrev pub told : Event → Told
  told (frame_arrives octets lent) = told_of (m.frame spacecraft pool cs octets) (m.unit spacecraft pool cs octets)
  told (release_buffer n) = told_of (m.release spacecraft pool cs n) []
  told (report_word n room) = word (m.word spacecraft pool cs n room)

  -- document 01's number of its refusal, 0 for done
  abbrev pub refusal : Event → ℕ
  refusal (frame_arrives octets lent) = (m.frame spacecraft pool cs octets).refusal
  refusal (release_buffer n) = (m.release spacecraft pool cs n).refusal
  refusal (report_word n room) = number_of (answer (m.word spacecraft pool cs n room))

  -- the records after it
  abbrev pub after : Event → List Channel
  after (frame_arrives octets lent) = records_after (m.frame spacecraft pool cs octets) cs
  after (release_buffer n) = records_after (m.release spacecraft pool cs n) cs
  after (report_word n room) = cs

-- and after a list of them, each given what the last left
abbrev pub after_all : Machine → ℕ → ℕ → List Event → List Channel → List Channel
after_all m spacecraft pool [] cs = cs
after_all m spacecraft pool (e ∷ es) cs = after_all m spacecraft pool es (after m spacecraft pool cs e)

-- the channels of the records
abbrev pub numbers : List Channel → List ℕ
numbers cs = map (λ (c : Channel). c.number) cs

-- Isolation: what an event leaves of the records.
pub record Isolated (m : Machine) (spacecraft pool : ℕ) (cs : List Channel) : Type 0 where
  -- "Frames, controls and releases for one channel leave every other channel's record unchanged."
  pub others : (e : Event) (n : ℕ) → (n ≡ channel_of e → ⊥) → record_of n (after m spacecraft pool cs e) ≡ record_of n cs
  -- no record comes or goes, and each stays for its channel, at its place
  pub count : (e : Event) → length (after m spacecraft pool cs e) ≡ length cs
  pub channels : (e : Event) → numbers (after m spacecraft pool cs e) ≡ numbers cs
  -- a refused event changes no record: a frame with any number, a release with 7 or 13, any with 12
  pub refused : (e : Event) → (refusal m spacecraft pool cs e ≡ 0 → ⊥) → after m spacecraft pool cs e ≡ cs
  -- an event that is done is told as its channel's
  pub frame_channel : (octets : List ℕ) → Octets octets → (m.frame spacecraft pool cs octets).refusal ≡ 0 → (m.frame spacecraft pool cs octets).channel ≡ named octets
  pub release_channel : (n : ℕ) → (m.release spacecraft pool cs n).refusal ≡ 0 → (m.release spacecraft pool cs n).channel ≡ n

-- The refusals, each with its whole answer (13: `NamedRelease`, below).
pub record Refusals (m : Machine) (spacecraft pool : ℕ) (cs : List Channel) : Type 0 where
  -- "Over eight records, two for one channel or more held than the pool are 12, judged first": it is no event
  pub frame12 : table_holds spacecraft pool cs ≡ false → (octets : List ℕ) (lent : Octets octets) → told m spacecraft pool cs (frame_arrives octets lent) ≡ turn 12 0 0 None []
  pub release12 : table_holds spacecraft pool cs ≡ false → (n : ℕ) → told m spacecraft pool cs (release_buffer n) ≡ turn 12 0 0 None []
  pub word12 : table_holds spacecraft pool cs ≡ false → (n room : ℕ) → told m spacecraft pool cs (report_word n room) ≡ word (Outcome.refused 12 0)
  -- "A refused frame is E9 of no channel and changes no record."
  pub frame_refused : table_holds spacecraft pool cs ≡ true → (octets : List ℕ) (lent : Octets octets) → ((m.frame spacecraft pool cs octets).refusal ≡ 0 → ⊥)
      → told m spacecraft pool cs (frame_arrives octets lent) ≡ turn (m.frame spacecraft pool cs octets).refusal 9 0 None []
  -- "Refusal 7 now means none of the eight, for a release too": of frames, one that a receiver of the channel it names would take, or refuse with 9
  pub frame7 : table_holds spacecraft pool cs ≡ true → (octets : List ℕ) (lent : Octets octets) → is_in (named octets) cs ≡ false
      → (refusal_of octets spacecraft (named octets) ≡ 0) ⊎ (refusal_of octets spacecraft (named octets) ≡ 9) → (m.frame spacecraft pool cs octets).refusal ≡ 7
  pub release7 : table_holds spacecraft pool cs ≡ true → (n : ℕ) → is_in n cs ≡ false → told m spacecraft pool cs (release_buffer n) ≡ turn 7 0 0 None []
  pub word7 : table_holds spacecraft pool cs ≡ true → (n room : ℕ) → is_in n cs ≡ false → told m spacecraft pool cs (report_word n room) ≡ word (Outcome.refused 7 0)
  -- of a channel that is there a frame is refused as by a receiver of that channel alone
  pub frame_there : table_holds spacecraft pool cs ≡ true → (octets : List ℕ) → Octets octets → is_in (named octets) cs ≡ true
      → (m.frame spacecraft pool cs octets).refusal ≡ refusal_of octets spacecraft (named octets)

-- What an event reads.

-- two lists with the same record for a channel, or both with none
pub record SameOwn (n : ℕ) (cs cs' : List Channel) : Type 0 where
  pub there : is_in n cs ≡ is_in n cs'
  pub own : record_of n cs ≡ record_of n cs'

-- an event's answer and its channel's next record are the same with both
pub record Alike (m : Machine) (spacecraft pool pool' : ℕ) (cs cs' : List Channel) (e : Event) : Type 0 where
  pub same : told m spacecraft pool cs e ≡ told m spacecraft pool' cs' e
  pub next : record_of (channel_of e) (after m spacecraft pool cs e) ≡ record_of (channel_of e) (after m spacecraft pool' cs' e)

-- a valid AD frame with d = 0, in Open or Lockout
abbrev pub is_expected : Channel → Kind → Bool
is_expected c (Ad number) = both (not_wait c.variables.state) (eqb (offset number c.variables.vr) 0)
is_expected c Bd = false
is_expected c Unlock = false
is_expected c (SetVr value) = false

-- "Only these answers may read the shared pool: whether an expected frame in Open or Lockout is E1 or E2, and refusals 12 and 13 as below": 13 where a release
-- names a channel that holds none, in Wait
abbrev pub reads_pool : ℕ → List Channel → Event → Bool
reads_pool spacecraft cs (frame_arrives octets lent) =
    both (is_in (named octets) cs) (both (eqb (refusal_of octets spacecraft (named octets)) 0) (is_expected (record_of (named octets) cs) (kind_of octets)))
reads_pool spacecraft cs (release_buffer n) = both (is_in n cs) (both (eqb (record_of n cs).held 0) (not (not_wait (record_of n cs).variables.state)))
reads_pool spacecraft cs (report_word n room) = false

-- with two pools and two lists of records, neither refused with 12
pub record Reads (m : Machine) (spacecraft pool pool' : ℕ) (cs cs' : List Channel) : Type 0 where
  -- nothing of the other channels is read but whether the pool has room
  pub own : (e : Event) → (refusal m spacecraft pool cs e ≡ 12 → ⊥) → (refusal m spacecraft pool' cs' e ≡ 12 → ⊥) → SameOwn (channel_of e) cs cs'
      → has_room pool cs ≡ has_room pool' cs' → Alike m spacecraft pool pool' cs cs' e
  -- and that nowhere but there
  pub elsewhere : (e : Event) → (refusal m spacecraft pool cs e ≡ 12 → ⊥) → (refusal m spacecraft pool' cs' e ≡ 12 → ⊥) → SameOwn (channel_of e) cs cs'
      → reads_pool spacecraft cs e ≡ false → Alike m spacecraft pool pool' cs cs' e

-- and there the answer is by the pool: "E1 or E2", "13, except for a channel in Wait while the pool has room: that is E10"
pub record ReadsThere (m : Machine) (spacecraft pool : ℕ) (cs : List Channel) : Type 0 where
  pub expected : table_holds spacecraft pool cs ≡ true → (octets : List ℕ) (lent : Octets octets) → reads_pool spacecraft cs (frame_arrives octets lent) ≡ true
      → ((m.frame spacecraft pool cs octets).refusal ≡ 0) × ((m.frame spacecraft pool cs octets).event ≡ pick (has_room pool cs) 1 2)
  pub waiting : table_holds spacecraft pool cs ≡ true → (n : ℕ) → reads_pool spacecraft cs (release_buffer n) ≡ true
      → ((m.release spacecraft pool cs n).refusal ≡ must (has_room pool cs) 13 0) × ((m.release spacecraft pool cs n).event ≡ must (has_room pool cs) 0 10)

-- Two runs, with events of other channels anywhere in them: those of the channel n are the same in both, and at each of them both pools have room or neither.
pub data SameRuns (m : Machine) (spacecraft pool pool' n : ℕ) : List Channel → List Event → List Channel → List Event → Type 0 where
  ended : {cs cs' : List Channel} → SameRuns m spacecraft pool pool' n cs [] cs' []
  other : {cs cs' : List Channel} {es es' : List Event} (e : Event) → (n ≡ channel_of e → ⊥) → SameRuns m spacecraft pool pool' n (after m spacecraft pool cs e) es cs' es'
      → SameRuns m spacecraft pool pool' n cs (e ∷ es) cs' es'
  other' : {cs cs' : List Channel} {es es' : List Event} (e : Event) → (n ≡ channel_of e → ⊥) → SameRuns m spacecraft pool pool' n cs es (after m spacecraft pool' cs' e) es'
      → SameRuns m spacecraft pool pool' n cs es cs' (e ∷ es')
  own : {cs cs' : List Channel} {es es' : List Event} (e : Event) → n ≡ channel_of e → has_room pool cs ≡ has_room pool' cs'
      → SameRuns m spacecraft pool pool' n (after m spacecraft pool cs e) es (after m spacecraft pool' cs' e) es'
      → SameRuns m spacecraft pool pool' n cs (e ∷ es) cs' (e ∷ es')

-- what the events of the channel n are told in a run
abbrev pub told_for : Machine → ℕ → ℕ → ℕ → List Event → List Channel → List Told
told_for m spacecraft pool n [] cs = []
told_for m spacecraft pool n (e ∷ es) cs =
    pick (eqb n (channel_of e)) (told m spacecraft pool cs e ∷ told_for m spacecraft pool n es (after m spacecraft pool cs e))
    (told_for m spacecraft pool n es (after m spacecraft pool cs e))

-- "Demand 3 reads for each channel alone, any events of the others standing in its list too": the channel is told the same in both, and has the same record
-- at the end
pub record RunsAgree (m : Machine) (spacecraft pool pool' : ℕ) (cs cs' : List Channel) : Type 0 where
  pub agree : table_holds spacecraft pool cs ≡ true → table_holds spacecraft pool' cs' ≡ true → (n : ℕ) → SameOwn n cs cs' → (es es' : List Event)
      → SameRuns m spacecraft pool pool' n cs es cs' es'
      → (told_for m spacecraft pool n es cs ≡ told_for m spacecraft pool' n es' cs') × SameOwn n (after_all m spacecraft pool es cs) (after_all m spacecraft pool' es' cs')

-- The pool.

abbrev pub is_open : State → Bool
is_open Open = true
is_open Wait = false
is_open Lockout = false

-- the sum of what the records hold, event by event
pub record Pooled (m : Machine) (spacecraft pool : ℕ) (cs : List Channel) : Type 0 where
  -- document 01, "E1 takes a buffer": in Open, and only there, is an AD unit accepted
  pub frames : (octets : List ℕ) → Octets octets
      → held_in (records_after (m.frame spacecraft pool cs octets) cs) ≡ held_in cs + takes (m.frame spacecraft pool cs octets).unit
  pub taken : (octets : List ℕ) → Octets octets
      → takes (m.frame spacecraft pool cs octets).unit
      ≡ bit_of (both (eqb (m.frame spacecraft pool cs octets).event 1) (is_open (record_of (named octets) cs).variables.state))
  -- "A release naming a channel that holds a buffer gives one back"; else "the pool stays as it was"
  pub releases : (n : ℕ) → (m.release spacecraft pool cs n).refusal ≡ 0
      → held_in (records_after (m.release spacecraft pool cs n) cs) + bit_of (ltb 0 (record_of n cs).held) ≡ held_in cs
  -- "more held than the pool" never comes about, whatever comes, in any order; and what is no 12 stays none
  pub most : (es : List Event) → held_in cs ≤ pool → held_in (after_all m spacecraft pool es cs) ≤ pool
  pub holds : (es : List Event) → table_holds spacecraft pool (after_all m spacecraft pool es cs) ≡ table_holds spacecraft pool cs

-- a release that names a channel that is there, where it is not 12
pub record NamedRelease (m : Machine) (spacecraft pool : ℕ) (cs : List Channel) (n : ℕ) : Type 0 where
  -- "A release naming a channel that holds a buffer gives one back and is E10."
  pub gives : table_holds spacecraft pool cs ≡ true → is_in n cs ≡ true → 0 < (record_of n cs).held
      → (told m spacecraft pool cs (release_buffer n) ≡ turn 0 10 n None []) × ((record_of n (after m spacecraft pool cs (release_buffer n))).held + 1 ≡ (record_of n cs).held)
  -- "Naming one that holds none is 13, except for a channel in Wait while the pool has room"
  pub refused : table_holds spacecraft pool cs ≡ true → is_in n cs ≡ true → (record_of n cs).held ≡ 0 → both (not (not_wait (record_of n cs).variables.state)) (has_room pool cs) ≡ false
      → told m spacecraft pool cs (release_buffer n) ≡ turn 13 0 0 None []
  -- "that is E10 and the pool stays as it was"
  pub opens : table_holds spacecraft pool cs ≡ true → is_in n cs ≡ true → (record_of n cs).held ≡ 0 → both (not (not_wait (record_of n cs).variables.state)) (has_room pool cs) ≡ true
      → (told m spacecraft pool cs (release_buffer n) ≡ turn 0 10 n None []) × (held_in (after m spacecraft pool cs (release_buffer n)) ≡ held_in cs)

-- Wait with a free buffer, in the place of document 01's "Wait with a free buffer can't arise".
pub record Waiting (m : Machine) (spacecraft pool : ℕ) (cs : List Channel) : Type 0 where
  -- a channel begins to wait only while every buffer of the pool is taken
  pub begins : (e : Event) (n : ℕ) → (record_of n cs).variables.wait ≡ false → (record_of n (after m spacecraft pool cs e)).variables.wait ≡ true → held_in cs ≡ pool
  -- "Wait with a free buffer is now possible, and a frame then is discarded as in Wait, an expected one as E2": with room or without
  pub discards : (octets : List ℕ) → Octets octets → (m.frame spacecraft pool cs octets).refusal ≡ 0 → (record_of (named octets) cs).variables.state ≡ Wait
      → (number : ℕ) → kind_of octets ≡ Ad number → (m.frame spacecraft pool cs octets).unit ≡ None
  pub stopped : (octets : List ℕ) → Octets octets → (m.frame spacecraft pool cs octets).refusal ≡ 0 → (record_of (named octets) cs).variables.state ≡ Wait
      → (number : ℕ) → kind_of octets ≡ Ad number → offset number (record_of (named octets) cs).variables.vr ≡ 0
      → ((m.frame spacecraft pool cs octets).event ≡ 2) × (records_after (m.frame spacecraft pool cs octets) cs ≡ cs)
  -- only a release that names it, or a control of its own, opens it (`Isolated`); that release leaves Wait
  pub opens : (n : ℕ) → (m.release spacecraft pool cs n).refusal ≡ 0 → (record_of n cs).variables.state ≡ Wait
      → ((record_of n (records_after (m.release spacecraft pool cs n) cs)).variables.state ≡ Open)
      × ((record_of n (records_after (m.release spacecraft pool cs n) cs)).variables.wait ≡ false)

-- The single receiver (receiver/specs/Receiver) as a case: one channel, its buffers the pool.

-- what a release answers there, and the channel after it
abbrev pub release_told : Receiver → Result Received Refusal → Told
release_told r (Ok x) = turn (optional_number x.refusal) (event_number x.event) r.farm.channel.number x.unit []
release_told r (Err refusal) = turn (refusal_number refusal) 0 0 None []

abbrev pub release_next : Receiver → Result Received Refusal → Channel
release_next r (Ok x) = x.next.farm.channel
release_next r (Err refusal) = r.farm.channel

-- a receiver of several channels answers with this one as the single receiver does, but that a refused frame is "of no channel"
module _ (m : Machine) (r : Receiver) where
  abbrev pub alone : Event → Told
  alone e = told m r.farm.spacecraft r.farm.buffers (r.farm.channel ∷ []) e

  abbrev pub alone_after : Event → List Channel
  alone_after e = after m r.farm.spacecraft r.farm.buffers (r.farm.channel ∷ []) e

  pub record Single : Type 0 where
    pub frames : (octets : List ℕ) (lent : Octets octets)
        → alone (frame_arrives octets lent)
        ≡ turn (optional_number (single.receive_of r octets).refusal) (event_number (single.receive_of r octets).event)
        (must (eqb (optional_number (single.receive_of r octets).refusal) 0) 0 r.farm.channel.number) (single.receive_of r octets).unit (single.unit_part r octets)
    pub frames_after : (octets : List ℕ) (lent : Octets octets) → alone_after (frame_arrives octets lent) ≡ (single.receive_of r octets).next.farm.channel ∷ []
    pub releases : alone (release_buffer r.farm.channel.number) ≡ release_told r (single.release_of r)
    pub releases_after : alone_after (release_buffer r.farm.channel.number) ≡ release_next r (single.release_of r) ∷ []
    pub words : (room : ℕ) → alone (report_word r.farm.channel.number room) ≡ word (writing (single.word_of r) room)
