-- Document 02, order 8: demand 3 for each channel alone.
use Rattle.std.specs.Prelude.{◌≡◌, Bool, true, false, ◌&&◌, List, [], ◌∷◌}
use Rattle.session.specs.Ends.{Settings, Within, start_receiver}
use Rattle.session.specs.Ends as session
use Rattle.session.specs.Session.{Linked}
use Rattle.session.specs.Claims.{ClaimsWhen}
use Rattle.session.specs.Suspension.{admits, rejects}
use Rattle.receiver.specs.Receiver.{with_channel}
use Rattle.channels.specs.Table.{record_of}
use Rattle.channel_session.specs.Ends.{Pool, Begins, ManyEnds, Tied, seen, tables}
use Rattle.channel_session.specs.Session.{ChannelEvent, own, other_frame, other_release, Joined, Free, begins_joined, channel_step, channel_run}

module _ (set : Settings) (pool : Pool) where
  -- the tables' session of the channel alone: its record as the receiver's channel
  abbrev pub alone : Joined set (tables set pool) → Linked (session.tables set)
  alone τ = record {
    sender = τ.linked.sender;
    receiver = with_channel (record_of set.own.channel τ.linked.receiver) (start_receiver set);
    frames = τ.linked.frames;
    words = τ.linked.words;
    history = τ.linked.history;
  }

  -- an event of another channel is no reject of this sender's lower layer
  abbrev pub channel_rejects : ChannelEvent → Bool
  channel_rejects (own e) = rejects e
  channel_rejects (other_frame o) = false
  channel_rejects (other_release n) = false

  -- "if no lower-layer reject comes while suspended" (document 02, order 9)
  unfoldable pub channel_unrejected : List ChannelEvent → Joined set (tables set pool) → Bool
  channel_unrejected [] τ = true
  channel_unrejected (e ∷ es) τ = admits (channel_rejects e) τ.linked.sender && channel_unrejected es (channel_step set (tables set pool) e τ)

  -- demand 3 of a channel, after every such list of events, with a buffer free as document 02 says
  abbrev pub Demanded : ManyEnds → Type 0
  Demanded m =
      (es : List ChannelEvent) → channel_unrejected es (begins_joined set (tables set pool)) ≡ true
      → ClaimsWhen set (seen set m) (channel_run set m es (begins_joined set m)).linked
      (alone (channel_run set (tables set pool) es (begins_joined set (tables set pool))))
      (Free pool (channel_run set m es (begins_joined set m)).pool)

-- of every pair of ends that does as the tables say. Of the settings the count of buffers is not looked at: the pool stands in its place.
abbrev pub Demand3 : Type 1
Demand3 = (set : Settings) → Within set → (pool : Pool) → Begins set pool → (m : ManyEnds) → Tied set pool m → Demanded set pool m
