-- Document 02, order 8: "Demand 3 reads for each channel alone, any events of the others standing in its list too". The session of one channel
-- (session/specs/Session), with events of the others, and what is counted of the pool, from the answers alone.
use Rattle.std.specs.Prelude.{Bool, true, false, not, ◌&&◌, List, [], ◌∷◌, ◌++◌, ℕ, suc, ◌+◌, ◌<◌, eqb, ltb, length}
use Rattle.std.proofs.Math.Option.{Option, none, some}
use Rattle.base.specs.Choice.{pick}
use Rattle.fop.specs.Units.{are_octets}
use Rattle.session.specs.Frames.{read}
use Rattle.session.specs.Ends.{Settings}
use Rattle.session.specs.Session.{Event, ad_request, bd_request, ticks, lower_says, terminate, resume, word_in, word_lost, word_made, frame_in, frame_lost, release, Linked, begins, step}
use Rattle.session.specs.Channels.{is_refused}
use Rattle.channel_session.specs.Ends as ends
use Rattle.channel_session.specs.Ends.{Pool, ManyEnds, TableEvent, TableAnswer, seen}

-- an event of this channel; octets that are no frame of this channel arrive (a frame of another, or what the reader refuses); a release that names
-- another channel. A control word asked of another changes nothing. A list with a number above 255 is no octets, and does not arrive: it could name a
-- channel above 63 (proofs/Refuted, `no_octets`).
pub data ChannelEvent : Type 0 where
  own : Event → ChannelEvent
  other_frame : List ℕ → ChannelEvent
  other_release : ℕ → ChannelEvent

-- The pool as the answers tell it: the channels of the AD units accepted, on all channels, and of "the releases that gave one back", in their order.
pub record Counted : Type 0 where
  pub accepted : List ℕ
  pub given : List ℕ

-- how often the channel n is among these
abbrev pub times : ℕ → List ℕ → ℕ
times n [] = 0
times n (c ∷ cs) = pick (eqb c n) (suc (times n cs)) (times n cs)

-- a unit is handed out
abbrev pub is_handed : Option (List ℕ) → Bool
is_handed none = false
is_handed (some o) = true

-- an AD unit accepted: E1 that hands a unit out
abbrev pub after_frame : TableAnswer → Counted → Counted
after_frame a p = record { accepted = pick (eqb a.event 1 && is_handed a.unit) (p.accepted ++ (a.channel ∷ [])) p.accepted; given = p.given }

-- a release that gave one back: answered E10 of a channel on which, by the list so far, more units were accepted than given back
abbrev pub after_release : TableAnswer → Counted → Counted
after_release a p = record {
  accepted = p.accepted;
  given = pick (eqb a.event 10 && ltb (times a.channel p.given) (times a.channel p.accepted)) (p.given ++ (a.channel ∷ [])) p.given;
}

-- "a buffer is free there while units accepted on all channels, less the releases that gave one back, are below the pool's size"
abbrev pub Free : Pool → Counted → Type 0
Free pool p = length p.accepted < pool.size + length p.given

module _ (set : Settings) (m : ManyEnds) where
  -- the session of the channel, and what is counted of the pool
  pub record Joined : Type 0 where
    pub linked : Linked (seen set m)
    pub pool : Counted

  abbrev pub begins_joined : Joined
  begins_joined = record { linked = begins (seen set m); pool = record { accepted = []; given = [] } }

  -- what an event of this channel tells of the pool
  abbrev pub frame_counted : List (List ℕ) → m.Receiver → Counted → Counted
  frame_counted [] r p = p
  frame_counted (s ∷ fs) r p = after_frame (m.answer_receiver (ends.frame s) r) p

  abbrev pub counted : Event → Linked (seen set m) → Counted → Counted
  counted (ad_request o lent) σ p = p
  counted (bd_request o lent) σ p = p
  counted (ticks lent) σ p = p
  counted (lower_says l lent) σ p = p
  counted (terminate v lent) σ p = p
  counted (resume v lent) σ p = p
  counted (word_in lent) σ p = p
  counted word_lost σ p = p
  counted (word_made lent) σ p = p
  counted frame_in σ p = frame_counted σ.frames σ.receiver p
  counted frame_lost σ p = p
  counted release σ p = after_release (m.answer_receiver (ends.release set.own.channel) σ.receiver) p

  -- another state of the receiver
  abbrev pub with_receiver : m.Receiver → Linked (seen set m) → Linked (seen set m)
  with_receiver r σ = record { sender = σ.sender; receiver = r; frames = σ.frames; words = σ.words; history = σ.history }

  -- an event of another channel, where it is one
  abbrev pub another : Bool → TableEvent → (TableAnswer → Counted → Counted) → Joined → Joined
  another b e count τ =
      pick b (record {
        linked = with_receiver (m.next_receiver e τ.linked.receiver) τ.linked;
        pool = count (m.answer_receiver e τ.linked.receiver) τ.pool;
      }) τ

  unfoldable pub channel_step : ChannelEvent → Joined → Joined
  channel_step (own e) τ = record { linked = step set (seen set m) e τ.linked; pool = counted e τ.linked τ.pool }
  channel_step (other_frame o) τ = another (are_octets o && is_refused (read set.own o)) (ends.frame o) after_frame τ
  channel_step (other_release n) τ = another (not (eqb n set.own.channel)) (ends.release n) after_release τ

  unfoldable pub channel_run : List ChannelEvent → Joined → Joined
  channel_run [] τ = τ
  channel_run (e ∷ es) τ = channel_run es (channel_step e τ)
