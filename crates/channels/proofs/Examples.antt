-- A computed run of two channels, 3 and 5, with a pool of one buffer: 3 takes it, 5 finds none and waits; 3's release frees it, and 5 still waits, with a free
-- buffer; its expected frame is discarded as E2; a release that names 5 opens it and leaves the pool as it was; then its frame is accepted. The control words of
-- both on the way, and each refusal (`run`, `twelve`, `seven`). Every premise of specs/Isolation's statements on Wait is met on the way (`waits_with_room`).
use Rattle.std.specs.Prelude.{None, Some}
use Rattle.farm.specs.declared.AcceptedUnit.TheVariants.{Ad as AdUnit}
use mathlib.Core.Path.{◌≡◌, refl}
use mathlib.Core.Bool.{Bool, true, false}
use mathlib.Core.List.{List, [], ◌∷◌}
use Prim.Native.Nat.{ℕ, suc}
use native.Mathlib.Omega.{arith}
use borrow.Author.Tests.{ltb-true}
use lib.Dec.{ltb}
use lib.ListN.{replicate}
use Rattle.base.specs.Choice.{both}
use Rattle.base.specs.Fields as fields
use Rattle.base.specs.Limits.{largest_channel}
use Rattle.base.specs.Octets as octets
use Rattle.base.specs.Octets.{Octets}
use Rattle.base.specs.Outcome.{Outcome}
use Rattle.base.specs.Register as register
use Rattle.base.proofs.Tests.{both_left, both_right}
use Rattle.clcw.specs.Clcw as clcw
use Rattle.fecf.specs.Fecf as fecf
use Rattle.farm.specs.Table as t79
use Rattle.farm.specs.Window as window
use Rattle.farm.specs.declared.State.{State}
use Rattle.farm.specs.declared.State.TheVariants.{Open, Wait}
use Rattle.frame_header.specs.Header as header
use Rattle.frame.specs.Frame as frame
use Rattle.frame.specs.Answers as frame_answers
use Rattle.receiver.specs.declared.Channel.{Channel}
use Rattle.receiver.specs.Channel as channel
use Rattle.channels.specs.Limits.{largest_pool}
use Rattle.channels.specs.Table as table
use Rattle.channels.specs.Table.{held_in, table_holds, has_room, record_of}
use Rattle.channels.specs.Isolation.{ours, Event, frame_arrives, release_buffer, report_word, Told, turn, word, told, after, after_all, SameOwn, SameRuns, ended, other', own}

-- to unfold this is to unfold every definition that a run computes with
unfoldable pub computing : Unit {0}
unfolding table.table_holds table.frame_turn table.unit_part table.release_turn table.word_writing channel.event_of channel.answered channel.arrived channel.release_of
    t79.table t79.perform t79.perform_all t79.step_of t79.accepts window.ad_event frame.total_of frame.data_field frame.is_command frame.command_held frame.header_refusal
    frame.content_refusal frame.refusal_of frame.kind_of frame_answers.fields_of frame_answers.reading_of frame_answers.part_of header.valid_header clcw.word_fields
    clcw.clcw_of clcw.writing fecf.syndrome_of register.shift_bit register.shift_bits register.register fields.digits_of fields.value_of fields.packed fields.octets_of
    fields.field_at octets.bits_of octets.octet_bits
computing = tt

-- octets, by a test
abbrev pub below : List ℕ → Bool
below [] = true
below (x ∷ xs) = both (ltb x 256) (below xs)

pub tested : (xs : List ℕ) → below xs ≡ true → Octets xs
tested [] e = tt
tested (x ∷ xs) e = (ltb-true x 256 (both_left (ltb x 256) (below xs) e), tested xs (both_right (ltb x 256) (below xs) e))

abbrev pub arrives : (xs : List ℕ) → below xs ≡ true → Event
arrives xs e = frame_arrives xs (tested xs e)

-- AD frames with N(S) = 0 to spacecraft 5, channels 3, 5 and 7; on channel 3 Unlock, and a type-BC frame whose command is none
abbrev pub octets3 : List ℕ
octets3 = 0x00 ∷ 0x05 ∷ 0x0C ∷ 0x07 ∷ 0x00 ∷ 0xAB ∷ 0xE3 ∷ 0x64 ∷ []

abbrev pub ad3 : Event
ad3 = arrives octets3 refl

abbrev pub octets5 : List ℕ
octets5 = 0x00 ∷ 0x05 ∷ 0x14 ∷ 0x07 ∷ 0x00 ∷ 0xCD ∷ 0x71 ∷ 0x60 ∷ []

abbrev pub ad5 : Event
ad5 = arrives octets5 refl

abbrev ad7 : Event
ad7 = arrives (0x00 ∷ 0x05 ∷ 0x1C ∷ 0x07 ∷ 0x00 ∷ 0xEF ∷ 0xF0 ∷ 0x83 ∷ []) refl

abbrev pub octets_unlock3 : List ℕ
octets_unlock3 = 0x30 ∷ 0x05 ∷ 0x0C ∷ 0x07 ∷ 0x00 ∷ 0x00 ∷ 0xC8 ∷ 0x69 ∷ []

abbrev unlock3 : Event
unlock3 = arrives octets_unlock3 refl

abbrev pub octets9 : List ℕ
octets9 = 0x30 ∷ 0x05 ∷ 0x0C ∷ 0x07 ∷ 0x00 ∷ 0x01 ∷ 0xD8 ∷ 0x48 ∷ []

abbrev pub bad3 : Event
bad3 = arrives octets9 refl

-- a record: its channel, the units that it holds, its state, V(R), and its flags wait and retransmit
abbrev pub one : ℕ → ℕ → State → ℕ → Bool → Bool → ℕ → Channel
one number held state vr wait retransmit counter = record {
  number = number;
  window = 20;
  held = held;
  variables = record { state = state; vr = vr; lockout = false; wait = wait; retransmit = retransmit; counter = counter };
}

-- both channels at their start
abbrev pub start : List Channel
start = one 3 0 Open 0 false false 0 ∷ one 5 0 Open 0 false false 0 ∷ []

-- what is told, event by event
abbrev answers : List Event → List Channel → List Told
answers [] cs = []
answers (e ∷ es) cs = told ours 5 1 cs e ∷ answers es (after ours 5 1 cs e)

-- the events, with what each is told
pub run : answers
    (ad3
    ∷ ad5
    ∷ report_word 3 4
    ∷ report_word 5 4
    ∷ release_buffer 5
    ∷ release_buffer 3
    ∷ ad5
    ∷ release_buffer 5
    ∷ report_word 5 4
    ∷ ad5
    ∷ release_buffer 3
    ∷ unlock3
    ∷ bad3
    ∷ ad7
    ∷ release_buffer 7
    ∷ report_word 7 4
    ∷ report_word 3 3
    ∷ report_word 3 4
    ∷ [])
    start
    ≡ turn 0 1 3 (Some AdUnit) (0xAB ∷ [])
    ∷ turn 0 2 5 None []
    ∷ word (Outcome.done (0x01 ∷ 0x0C ∷ 0x00 ∷ 0x01 ∷ []) tt)
    ∷ word (Outcome.done (0x01 ∷ 0x14 ∷ 0x18 ∷ 0x00 ∷ []) tt)
    ∷ turn 13 0 0 None []
    ∷ turn 0 10 3 None []
    ∷ turn 0 2 5 None []
    ∷ turn 0 10 5 None []
    ∷ word (Outcome.done (0x01 ∷ 0x14 ∷ 0x08 ∷ 0x00 ∷ []) tt)
    ∷ turn 0 1 5 (Some AdUnit) (0xCD ∷ [])
    ∷ turn 13 0 0 None []
    ∷ turn 0 7 3 None []
    ∷ turn 9 9 0 None []
    ∷ turn 7 9 0 None []
    ∷ turn 7 0 0 None []
    ∷ word (Outcome.refused 7 0)
    ∷ word (Outcome.refused 11 0)
    ∷ word (Outcome.done (0x01 ∷ 0x0C ∷ 0x02 ∷ 0x01 ∷ []) tt)
    ∷ []
unfolding computing
run = refl

-- 12 by each of its causes: more held than the pool, two records for one channel, nine records, a pool outside its limits, a record outside its limits
abbrev first : List Channel → Told
first cs = told ours 5 1 cs ad3

pub twelve :
    first (one 3 2 Open 0 false false 0 ∷ [])
    ∷ first (one 3 0 Open 0 false false 0 ∷ one 3 0 Open 9 false false 0 ∷ [])
    ∷ first
    (one 1 0 Open 0 false false 0
    ∷ one 2 0 Open 0 false false 0
    ∷ one 3 0 Open 0 false false 0
    ∷ one 4 0 Open 0 false false 0
    ∷ one 5 0 Open 0 false false 0
    ∷ one 6 0 Open 0 false false 0
    ∷ one 7 0 Open 0 false false 0
    ∷ one 8 0 Open 0 false false 0
    ∷ one 9 0 Open 0 false false 0
    ∷ [])
    ∷ first (one 3 0 Open 0 true false 0 ∷ [])
    ∷ told ours 5 0 start ad3
    ∷ told ours 5 (suc largest_pool) start ad3
    ∷ told ours 5 1 (one 3 2 Open 0 false false 0 ∷ []) (release_buffer 3)
    ∷ []
    ≡ replicate 7 (turn 12 0 0 None [])
unfolding computing
twelve = refl

-- no records at all: a frame is 7, and so is a release; so is a release of a channel that no frame can name
pub seven :
    told ours 5 1 [] ad3 ∷ told ours 5 1 [] (release_buffer 3) ∷ told ours 5 1 start (release_buffer (suc largest_channel)) ∷ []
    ≡ turn 7 9 0 None [] ∷ turn 7 0 0 None [] ∷ turn 7 0 0 None [] ∷ []
unfolding computing
seven = refl

-- after 3's release 5 waits, holding none, with the one buffer free: Wait with a free buffer, and the release of another channel did not open it
abbrev pub waiting : List Channel
waiting = one 3 0 Open 1 false false 0 ∷ one 5 0 Wait 0 true true 0 ∷ []

pub waits_with_room :
    (after_all ours 5 1 (ad3 ∷ ad5 ∷ release_buffer 3 ∷ []) start ≡ waiting)
    × (table_holds 5 1 waiting ≡ true)
    × ((record_of 5 waiting).variables.state ≡ Wait)
    × (has_room 1 waiting ≡ true)
unfolding computing
waits_with_room = (refl, refl, refl, refl)

-- its expected frame is E2 and changes nothing; the release that names it is E10, opens it, and the pool stays as it was
pub stays_and_opens :
    (told ours 5 1 waiting ad5 ≡ turn 0 2 5 None [])
    × (after ours 5 1 waiting ad5 ≡ waiting)
    × (told ours 5 1 waiting (release_buffer 5) ≡ turn 0 10 5 None [])
    × (after ours 5 1 waiting (release_buffer 5) ≡ one 3 0 Open 1 false false 0 ∷ one 5 0 Open 0 false true 0 ∷ [])
    × (held_in (after ours 5 1 waiting (release_buffer 5)) ≡ held_in waiting)
unfolding computing
stays_and_opens = (refl, refl, refl, refl, refl)

-- What `Reads` and `RunsAgree` suppose can be met: two tables that differ in the other channel and in the pool, alike in 5's record and in room; and two runs from
-- the start, one of them with an event of channel 3 before 5's.
abbrev differing : List Channel
differing = one 9 1 Wait 7 true true 2 ∷ one 5 0 Open 0 false false 0 ∷ []

pub reads_met : SameOwn 5 start differing × (has_room 1 start ≡ has_room 2 differing) × (told ours 5 1 start ad5 ≡ told ours 5 2 differing ad5)
unfolding computing
reads_met = (record { there = refl; own = refl }, refl, refl)

pub runs_met : SameRuns ours 5 1 2 5 start (ad5 ∷ []) start (ad3 ∷ ad5 ∷ [])
unfolding computing
runs_met = other' ad3 (λ e. omega arith) (own ad5 refl refl ended)

-- Eight channels and a pool of sixteen are taken: with fifteen held an expected frame is E1, then with sixteen E2.
abbrev eight : List Channel
eight =
    one 0 2 Open 2 false false 0 ∷ one 1 2 Open 2 false false 0 ∷ one 2 2 Open 2 false false 0 ∷ one 3 0 Open 0 false false 0
    ∷ one 4 9 Open 9 false false 0 ∷ one 5 0 Open 0 false false 0 ∷ one 6 0 Open 0 false false 0 ∷ one 63 0 Open 0 false false 0 ∷ []

pub eight_and_sixteen :
    (told ours 5 16 eight ad3 ≡ turn 0 1 3 (Some AdUnit) (0xAB ∷ []))
    × (told ours 5 16 (after ours 5 16 eight ad3) ad5 ≡ turn 0 2 5 None [])
    × ((record_of 5 (after ours 5 16 (after ours 5 16 eight ad3) ad5)).variables.state ≡ Wait)
unfolding computing
eight_and_sixteen = (refl, refl, refl)
