-- A session of one channel beside another that share one buffer, computed: the expected frame finds the buffer taken by the other channel (E2), the other's
-- release frees it and leaves this channel in Wait, a release that names this channel opens it (E10, the pool stays), and the frame, sent again, is accepted and
-- confirmed. The hypotheses of demand 3 hold of it (`begins`, `within`), so it holds of the tables there (`demand3_example`).
use mathlib.Core.Path.{◌≡◌, refl}
use mathlib.Core.Bool.{true, false}
use mathlib.Core.List.{List, [], ◌∷◌, ◌++◌}
use mathlib.Core.Option.{some}
use native.Mathlib.Omega.{arith}
use lib.Dec.{leb→le}
use Rattle.fop.specs.Units.{Fdu}
use Rattle.fop.specs.declared.Lower.TheVariants.{AdAccept}
use Rattle.farm.specs.declared.State.TheVariants.{Wait}
use Rattle.session.specs.Ends.{Within}
use Rattle.session.specs.Session.{ad_request, lower_says, word_in, word_made, frame_in, release}
use Rattle.channels.specs.Table.{record_of}
use Rattle.channel_session.specs.Ends.{Begins, tables}
use Rattle.channel_session.specs.Session.{ChannelEvent, own, other_frame, other_release, Free, begins_joined}
use Rattle.channel_session.specs.Demand.{channel_unrejected, Demanded}
use Rattle.channel_session.proofs.Theorem.{tables_tied, demand3_channel}
use Rattle.channel_session.proofs.Trace.{computing, set, pool, frame_four, after, answers, discarding, handing}

within : Within set
within =
    record {
      number = omega arith;
      window_least = omega arith;
      window_most = omega arith;
      even = refl;
      farm_least = omega arith;
      farm_most = omega arith;
      fits = leb→le 3 5 tt;
      buffers_least = omega arith;
      buffers_most = omega arith;
      timer_least = omega arith;
      timer_most = omega arith;
      limit_least = omega arith;
      limit_most = omega arith;
      timeout_most = omega arith;
      spacecraft = omega arith;
      channel = omega arith;
      count_least = omega arith;
      count_most = omega arith;
      counter_most = omega arith;
    }

begins : Begins set pool
unfolding computing
begins = record { holds = refl; none = refl; there = refl; start = refl }

pub demand3_example : Demanded set pool (tables set pool)
demand3_example = demand3_channel set within pool begins (tables set pool) (tables_tied set pool)

-- the unit 17, with the number 254
abbrev unit : Fdu
unit = record { ns = 254; octets = 17 ∷ [] }

-- the other channel takes the buffer; the expected frame comes, and a word tells the sender to wait; the other channel's release
abbrev waiting_list : List ChannelEvent
waiting_list =
    other_frame frame_four ∷ own (ad_request (17 ∷ []) 256) ∷ own (lower_says AdAccept 256) ∷ own frame_in ∷ own (word_made 4) ∷ own (word_in 256) ∷ other_release 4 ∷ []

-- the channel waits, with a free buffer
abbrev Waits : Type 0
Waits =
    ((record_of 9 (after (tables set pool) waiting_list).linked.receiver).variables.state ≡ Wait) × Free pool (after (tables set pool) waiting_list).pool

-- then a release that names the channel; a word asks for the frame, which comes again; a word confirms it
abbrev whole_list : List ChannelEvent
whole_list = waiting_list ++ (own release ∷ own (word_made 4) ∷ own (word_in 256) ∷ own frame_in ∷ own (word_made 4) ∷ own (word_in 256) ∷ [])

pub record Whole : Type 0 where
  pub admitted : channel_unrejected set pool whole_list (begins_joined set (tables set pool)) ≡ true
  pub answered : answers (tables set pool) whole_list (begins_joined set (tables set pool))
      ≡ handing 4 1 (9 ∷ []) ∷ discarding 9 2 ∷ discarding 4 10 ∷ discarding 9 10 ∷ handing 9 1 (17 ∷ []) ∷ []
  pub history : (after (tables set pool) whole_list).linked.history
      ≡ record {
        sent = unit ∷ [];
        accepted = unit ∷ [];
        confirmed = some 0 ∷ [];
        denied = [];
        released = 1;
        locked_out = false;
        sent_bd = [];
        accepted_bd = [];
      }
  pub counted : (after (tables set pool) whole_list).pool ≡ record { accepted = 4 ∷ 9 ∷ []; given = 4 ∷ [] }

pub waits : Waits
unfolding computing
waits = (refl, leb→le 2 2 tt)

pub whole : Whole
unfolding computing
whole = record { admitted = refl; answered = refl; history = refl; counted = refl }
