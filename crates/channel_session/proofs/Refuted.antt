-- Wrong receivers of several channels that demand 3 for one channel refutes: one that goes by its own channel's count where the pool is asked for, and one in
-- which another channel's release opens this one's Wait. And why what arrives must be octets: of a number above 255 the tables accept a unit of a channel that
-- no record has, which takes no buffer (`no_octets`).
use mathlib.Core.Path.{◌≡◌, refl, ap}
use mathlib.Core.Bool.{false≢true}
use mathlib.Core.List.{List, [], ◌∷◌, map}
use Prim.Native.Nat.{ℕ}
use native.Mathlib.Omega.{arith}
use lib.Dec.{ltb}
use Rattle.base.specs.Choice.{must}
use Rattle.fop.specs.Units.{Fdu}
use Rattle.fop.specs.Variables.{Fop}
use Rattle.fop.specs.declared.Lower.TheVariants.{AdAccept}
use Rattle.farm.specs.Table.{step_of}
use Rattle.farm.specs.Window.{not_wait}
use Rattle.farm.specs.declared.Event.TheVariants.{E10}
use Rattle.frame.specs.Answers.{reading_of, part_of}
use Rattle.std.specs.Prelude.{Ok, Err}
use Rattle.base.specs.Refusals.{refusal_number}
use Rattle.frame.specs.Answers.{FrameReading}
use Rattle.receiver.specs.declared.Channel.{Channel}
use Rattle.receiver.specs.Channel.{become, arrived}
use Rattle.receiver.specs.Receiver.{part_for}
use Rattle.session.specs.Session.{ad_request, lower_says, ticks, frame_in}
use Rattle.channels.specs.Table.{Turn}
use Rattle.channels.specs.Table.{table_holds, record_of, nothing, turned, records_after, addressed}
use Rattle.channel_session.specs.Ends.{ManyEnds, TableEvent, TableAnswer, frame, release, answer_by, table_next, table_answer, table_word, tables}
use Rattle.channel_session.specs.Session.{ChannelEvent, own, other_frame, other_release}
use Rattle.channel_session.specs.Demand.{Demanded}
use Rattle.channel_session.proofs.Trace.{computing, set, pool, frame_four, handing}

-- the tables, but for the receiver's next records and answers
abbrev receiver_by : (TableEvent → List Channel → List Channel) → (TableEvent → List Channel → TableAnswer) → ManyEnds
receiver_by next answer = record {
  Sender = Fop;
  Receiver = List Channel;
  sender = (tables set pool).sender;
  receiver = pool.records;
  next = (tables set pool).next;
  answer = (tables set pool).answer;
  next_receiver = next;
  answer_receiver = answer;
  word = table_word set pool;
}

-- the unit 17, with the number 254
abbrev unit : Fdu
unit = record { ns = 254; octets = 17 ∷ [] }

-- A receiver for which a buffer is free while its own channel holds fewer than the pool has.
abbrev by_own : List Channel → ℕ → FrameReading → Turn
by_own cs n (Ok fields) = turned n (arrived (ltb (record_of n cs).held pool.size) (record_of n cs) fields.kind) cs
by_own cs n (Err refusal) = nothing (refusal_number refusal) 9 cs

abbrev own_turn : List Channel → List ℕ → Turn
own_turn cs octets = must (table_holds 5 pool.size cs) (nothing 12 0 cs) (by_own cs (addressed cs octets) (reading_of octets 5 (addressed cs octets)))

abbrev next_own : TableEvent → List Channel → List Channel
next_own (frame s) cs = records_after (own_turn cs s) cs
next_own (release n) cs = table_next set pool (release n) cs

abbrev answer_own : TableEvent → List Channel → TableAnswer
answer_own (frame s) cs = answer_by (own_turn cs s) (part_for (own_turn cs s).unit (part_of s 5 (addressed cs s)))
answer_own (release n) cs = table_answer set pool (release n) cs

abbrev counts_own : ManyEnds
counts_own = receiver_by next_own answer_own

-- the other channel holds the one buffer, and it accepts
refuted_own : Demanded set pool counts_own → ⊥
unfolding computing
refuted_own d = omega (arith, (((d (other_frame frame_four ∷ own (ad_request (17 ∷ []) 256) ∷ []) refl).accepts _ [] unit refl refl).0 refl).2)

-- A receiver in which a release opens every channel that waits.
abbrev opened : Channel → Channel
opened c = become c.held (step_of E10 0 c.variables) c

abbrev next_open : TableEvent → List Channel → List Channel
next_open (frame s) cs = table_next set pool (frame s) cs
next_open (release n) cs = map opened (table_next set pool (release n) cs)

abbrev opens_all : ManyEnds
opens_all = receiver_by next_open (table_answer set pool)

-- the channel waits, the other's release opens it, the timer sends the frame again, and it accepts; by the tables it waits still
abbrev opened_list : List ChannelEvent
opened_list =
    other_frame frame_four ∷ own (ad_request (17 ∷ []) 256) ∷ own (lower_says AdAccept 256) ∷ own frame_in ∷ other_release 4 ∷ own (ticks 256) ∷ own (ticks 256) ∷ []

refuted_opens : Demanded set pool opens_all → ⊥
unfolding computing
refuted_opens d = false≢true (ap not_wait (((d opened_list refl).accepts _ [] unit refl refl).0 refl).0)

-- a list that is read as an AD frame of the channel 64
abbrev no_frame : List ℕ
no_frame = 0 ∷ 5 ∷ 256 ∷ 7 ∷ 0 ∷ 9 ∷ 147 ∷ 175 ∷ []

pub no_octets : (table_answer set pool (frame no_frame) pool.records ≡ handing 64 1 (9 ∷ [])) × (table_next set pool (frame no_frame) pool.records ≡ pool.records)
unfolding computing
no_octets = (refl, refl)
