-- How the examples are written: their settings and their pool of two channels, what the receiver answers, event by event, and what they compute with.
use mathlib.Core.Bool.{false}
use mathlib.Core.List.{List, [], ◌∷◌, ◌++◌}
use mathlib.Core.Option.{none, some}
use Prim.Native.Nat.{ℕ}
use Rattle.farm.specs.declared.State.TheVariants.{Open}
use Rattle.receiver.specs.Channel as channel
use Rattle.receiver.specs.declared.Channel.{Channel}
use Rattle.session.specs.Ends.{Settings, start_receiver}
use Rattle.session.specs.Session.{Event, ad_request, bd_request, ticks, lower_says, terminate, resume, word_in, word_lost, word_made, frame_in, frame_lost, release}
use Rattle.session.proofs.Trace as session
use Rattle.channels.specs.Table as table
use Rattle.channel_session.specs.Ends as ends
use Rattle.channel_session.specs.Ends.{Pool, ManyEnds, TableAnswer}
use Rattle.channel_session.specs.Session as ses
use Rattle.channel_session.specs.Session.{ChannelEvent, own, other_frame, other_release, Joined, begins_joined, channel_step, channel_run}
use Rattle.channel_session.specs.Demand as demand

-- to unfold this is to unfold every definition that a session of one channel of the tables computes with
unfoldable pub computing : Unit {0}
unfolding session.computing channel.release_of table.table_holds table.frame_turn table.unit_part table.release_turn table.word_writing ses.channel_step ses.channel_run demand.channel_unrejected
computing = tt

-- the session's channel is 9 of spacecraft 5, its first number 254; the timer has two ticks
abbrev pub set : Settings
set = session.settings 3 1 2 3

-- the channel 4, its first number 0
abbrev pub four : Channel
four = record { number = 4; window = 10; held = 0; variables = record { state = Open; vr = 0; lockout = false; wait = false; retransmit = false; counter = 0 } }

-- a pool of one buffer
abbrev pub pool : Pool
pool = record { size = 1; records = four ∷ (start_receiver set).farm.channel ∷ [] }

-- the first AD frame of the channel 4, which brings the unit 9
abbrev pub frame_four : List ℕ
frame_four = 0 ∷ 5 ∷ 16 ∷ 7 ∷ 0 ∷ 9 ∷ 34 ∷ 89 ∷ []

-- a session after a list of events
abbrev pub after : (m : ManyEnds) → List ChannelEvent → Joined set m
after m es = channel_run set m es (begins_joined set m)

-- what the receiver answers to an event, if it is asked
abbrev arriving : (m : ManyEnds) → List (List ℕ) → m.Receiver → List TableAnswer
arriving m [] r = []
arriving m (s ∷ fs) r = m.answer_receiver (ends.frame s) r ∷ []

abbrev answering : (m : ManyEnds) → Event → Joined set m → List TableAnswer
answering m (ad_request o lent) τ = []
answering m (bd_request o lent) τ = []
answering m (ticks lent) τ = []
answering m (lower_says l lent) τ = []
answering m (terminate v lent) τ = []
answering m (resume v lent) τ = []
answering m (word_in lent) τ = []
answering m word_lost τ = []
answering m (word_made lent) τ = []
answering m frame_in τ = arriving m τ.linked.frames τ.linked.receiver
answering m frame_lost τ = []
answering m release τ = m.answer_receiver (ends.release set.own.channel) τ.linked.receiver ∷ []

abbrev answering_any : (m : ManyEnds) → ChannelEvent → Joined set m → List TableAnswer
answering_any m (own e) τ = answering m e τ
answering_any m (other_frame o) τ = m.answer_receiver (ends.frame o) τ.linked.receiver ∷ []
answering_any m (other_release n) τ = m.answer_receiver (ends.release n) τ.linked.receiver ∷ []

-- and to a list of them
abbrev pub answers : (m : ManyEnds) → List ChannelEvent → Joined set m → List TableAnswer
answers m [] τ = []
answers m (e ∷ es) τ = answering_any m e τ ++ answers m es (channel_step set m e τ)

-- an event of the channel n by its number: one that hands out no unit, and one that does
abbrev pub discarding : ℕ → ℕ → TableAnswer
discarding n e = record { refusal = 0; event = e; channel = n; unit = none }

abbrev pub handing : ℕ → ℕ → List ℕ → TableAnswer
handing n e o = record { refusal = 0; event = e; channel = n; unit = some o }
