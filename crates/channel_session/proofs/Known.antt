-- The table of records as a session of one channel has it (`Known`): it holds, and the record of the channel is FARM-1's variables. What the table makes of a
-- frame of the session, of a release and of a control word asked for is what Core says, with room where the pool has room; octets that are no frame of the
-- channel, and a release that names another, leave its record (crate channels, proofs/Isolation) and so all that is known.
use mathlib.Core.Path.{◌≡◌, refl, sym, ap, ◌∙◌}
use mathlib.Core.Bool.{Bool, true, false, ◌&&◌}
use mathlib.Core.List.{List}
use mathlib.Core.Option.{some}
use Prim.Native.Nat.{ℕ, ◌+◌, ◌-◌, ◌≤◌}
use native.Mathlib.Omega.{arith}
use borrow.Author.Tests.{eqb-true, eqb-false}
use lib.Dec.{eqb, leb}
use Rattle.base.specs.Choice.{pick, must}
use Rattle.base.specs.Limits.{largest_spacecraft, largest_channel}
use Rattle.base.specs.Octets.{Octets}
use Rattle.frame.specs.Answers.{reading_of, part_of}
use Rattle.frame.specs.Frame.{refusal_of}
use Rattle.frame.specs.declared.Fields.{Fields}
use Rattle.frame.specs.declared.Kind.TheVariants as kind
use Rattle.std.specs.Prelude.{Ok}
use Rattle.frame.proofs.Written.{octets_frame}
use Rattle.frame.proofs.Back.{legal_fits}
use Rattle.frame.proofs.Accepted.{accepted, reading_frame, reading_refused}
use Rattle.fop.specs.Units as units
use Rattle.fop.specs.Units.{AD, BD, Unlock, SetVR, are_octets, written, word_octets}
use Rattle.fop.proofs.Choices.{and_both}
use Rattle.farm.specs.Table.{step_of, unit_of, event_number}
use Rattle.farm.specs.declared.Event.{Event}
use Rattle.farm.specs.declared.Event.TheVariants.{E1, E2, E3, E4, E5, E6, E7, E8, E9, E10, E11}
use Rattle.farm.specs.declared.Variables.{Variables}
use Rattle.receiver.specs.declared.Channel.{Channel}
use Rattle.receiver.specs.declared.ChannelAnswer.{ChannelAnswer}
use Rattle.receiver.specs.Channel.{event_of, answered, arrived, may_release}
use Rattle.receiver.specs.Receiver.{part_for}
use Rattle.session.specs.Frames.{read}
use Rattle.session.specs.Receiver.{event_numbered, word_length}
use Rattle.session.specs.Ends.{Settings, Within, largest_counter}
use Rattle.session.specs.Channels.{is_refused}
use Rattle.session.proofs.Core.{frame_event, star, report}
use Rattle.session.proofs.Received.{Readable, data_part, receiver_of}
use Rattle.session.proofs.Received as session
use Rattle.session.proofs.Octets.{octets_are, ad_legal, bd_legal, ad_reading, ad_part, bd_reading, bd_part, told_if, word_told_lem}
use Rattle.session.proofs.Noise.{refused_reading}
use Rattle.channels.specs.Table.{Turn}
use Rattle.channels.specs.Table.{is_in, table_holds, has_room, record_of, turned, records_after, addressed, by_reading, frame_turn, unit_part, release_turn, word_of, word_writing}
use Rattle.channels.specs.Isolation as channels
use Rattle.channels.specs.Isolation.{ours, frame_arrives, release_buffer, named, channel_of, after}
use Rattle.channels.proofs.RecordLaws.{in_numbers, own_set}
use Rattle.channels.proofs.Addresses.{addressed_there}
use Rattle.channels.proofs.Turns.{nothing_after, given_back, released_by, release_by}
use Rattle.channels.proofs.Isolation.{isolated, refusals}
use Rattle.channels.proofs.Pool.{event_kept}
use Rattle.channel_session.specs.Ends.{Pool, frame, release, table_next, table_answer, table_word, seen_answer}

-- an event's number tells it
event_numbered_lem : (e : Event) → event_numbered (event_number e) ≡ some e
event_numbered_lem E1 = refl
event_numbered_lem E2 = refl
event_numbered_lem E3 = refl
event_numbered_lem E4 = refl
event_numbered_lem E5 = refl
event_numbered_lem E6 = refl
event_numbered_lem E7 = refl
event_numbered_lem E8 = refl
event_numbered_lem E9 = refl
event_numbered_lem E10 = refl
event_numbered_lem E11 = refl

-- a frame of the session is octets
pub octets_of_lem : (own : units.Own) → own.spacecraft ≤ largest_spacecraft → own.channel ≤ largest_channel → (x : units.Frame) → Readable x → Octets (written own x)
unfolding written
octets_of_lem own s c (AD u) h = octets_frame _ _ _ _ _ _ (legal_fits own.spacecraft own.channel (kind.Ad u.ns) u.octets s c (ad_legal own s c u h.0 h.1))
octets_of_lem own s c (BD o) h = octets_frame _ _ _ _ _ _ (legal_fits own.spacecraft own.channel kind.Bd o s c (bd_legal own s c o h))
octets_of_lem own s c Unlock h = absurd h
octets_of_lem own s c (SetVR v) h = absurd h
octets_of_lem own s c (units.Refused r) h = absurd h

-- octets that are read as a frame name the channel at which they are read
names : (octets : List ℕ) (spacecraft channel : ℕ) (f : Fields) → reading_of octets spacecraft channel ≡ Ok f → named octets ≡ channel
unfolding reading_of
names octets spacecraft channel f e = go (eqb (refusal_of octets spacecraft channel) 0) refl
  where
    go : (b : Bool) → eqb (refusal_of octets spacecraft channel) 0 ≡ b → named octets ≡ channel
    go true z = (accepted octets spacecraft channel (eqb-true (refusal_of octets spacecraft channel) 0 z)).our_channel
    go false z =
        let r = sym (reading_refused octets spacecraft channel (eqb-false (refusal_of octets spacecraft channel) 0 z)).0 ∙ e in
        let y : ◌≡◌ {A = ℕ} 0 1 = cc in
        absurd (omega arith)

module _ (set : Settings) (vw : Within set) (pool : Pool) where
  abbrev spacecraft : ℕ
  spacecraft = set.own.spacecraft

  abbrev channel : ℕ
  channel = set.own.channel

  -- the channel's record, with so many units held and these variables
  abbrev record_at : ℕ → Variables → Channel
  record_at k v = (receiver_of set k v).farm.channel

  -- a release that names the channel is done
  abbrev pub is_done : List Channel → Bool
  is_done cs = may_release (record_of channel cs).held (record_of channel cs).variables.state (has_room pool.size cs)

  pub record Known (cs : List Channel) (v : Variables) : Type 0 where
    pub holds : table_holds spacecraft pool.size cs ≡ true
    pub there : is_in channel cs ≡ true
    pub held : ℕ
    pub is : record_of channel cs ≡ record_at held v

  module _ (cs : List Channel) (v : Variables) (K : Known cs v) where
    -- whether the pool has room
    abbrev room : Bool
    room = has_room pool.size cs

    -- octets that are read as a frame of the channel
    module _ (octets : List ℕ) (f : Fields) (e : reading_of octets spacecraft channel ≡ Ok f) where
      address_is : addressed cs octets ≡ channel
      address_is =
          let n = names octets spacecraft channel f e in
          addressed_there cs octets (ap (λ (i : ℕ). is_in i cs) n ∙ K.there) ∙ n

      turn_read : frame_turn spacecraft pool.size cs octets ≡ turned channel (arrived room (record_at K.held v) f.kind) cs
      unfolding frame_turn
      turn_read =
          rw K.holds
          (ap (λ (i : ℕ). by_reading pool.size cs i (reading_of octets spacecraft i)) address_is ∙ ap (by_reading pool.size cs channel) e
          ∙ ap (λ (c : Channel). turned channel (arrived room c f.kind) cs) K.is)

      part_read : unit_part spacecraft pool.size cs octets ≡ part_for (arrived room (record_at K.held v) f.kind).unit (part_of octets spacecraft channel)
      unfolding unit_part
      part_read = rw (turn_read, address_is)

    -- a frame of the session
    abbrev event_is : units.Frame → Event
    event_is x = frame_event set.w room x v

    abbrev turn_is : units.Frame → Turn
    turn_is x = turned channel (answered (event_is x) (star x) (record_at K.held v)) cs

    frame_turn_lem : (x : units.Frame) → Readable x
        → (frame_turn spacecraft pool.size cs (written set.own x) ≡ turn_is x)
        × (unit_part spacecraft pool.size cs (written set.own x) ≡ part_for (unit_of (event_is x) v.state) (data_part x))
    unfolding arrived event_of frame_event answered
    frame_turn_lem (AD u) h =
        let e = ad_reading set.own vw.spacecraft vw.channel u h.0 h.1 in (
          turn_read (written set.own (AD u)) _ e,
          part_read (written set.own (AD u)) _ e ∙ ap (part_for (unit_of (event_is (AD u)) v.state)) (ad_part set.own vw.spacecraft vw.channel u h.0 h.1),
        )
    frame_turn_lem (BD o) h =
        let e = bd_reading set.own vw.spacecraft vw.channel o h in (
          turn_read (written set.own (BD o)) _ e,
          part_read (written set.own (BD o)) _ e ∙ ap (part_for (unit_of (event_is (BD o)) v.state)) (bd_part set.own vw.spacecraft vw.channel o h),
        )
    frame_turn_lem Unlock h = absurd h
    frame_turn_lem (SetVR x) h = absurd h
    frame_turn_lem (units.Refused r) h = absurd h

    -- its answer
    pub frame_answer_lem : (x : units.Frame) → Readable x
        → seen_answer (table_answer set pool (frame (written set.own x)) cs) ≡ session.answer_by (event_is x) v.state x
    unfolding answered
    frame_answer_lem x h = let t = frame_turn_lem x h in rw (t.0, t.1, event_numbered_lem (event_is x))

    -- a release that names the channel
    abbrev release_is : Bool → Turn
    release_is b = released_by channel true b (record_of channel cs) cs

    release_turn_lem : release_turn spacecraft pool.size cs channel ≡ release_is (is_done cs)
    release_turn_lem = release_by spacecraft pool.size cs K.holds channel ∙ rw K.there

    pub release_answer_lem : (seen_answer (table_answer set pool (release channel) cs)).refusal ≡ must (is_done cs) 13 0
    release_answer_lem = ap (λ (t : Turn). t.refusal) release_turn_lem ∙ go (is_done cs)
      where
        go : (b : Bool) → (release_is b).refusal ≡ must b 13 0
        go true = refl
        go false = refl

    -- a control word asked for
    pub word_answer_lem : (lent : ℕ) → v.counter ≤ largest_counter
        → table_word set pool channel lent cs ≡ told_if (leb word_length lent) (word_octets set.own (report v))
    unfolding word_writing report word_octets
    word_answer_lem lent h = rw (K.holds, K.there, K.is) (word_told_lem (word_of (record_at K.held v)) lent vw.channel h)

    -- what is known of the channel goes on over every event, with its record as that leaves it
    goes_on : (e : channels.Event) (k : ℕ) (w : Variables) → record_of channel (after ours spacecraft pool.size cs e) ≡ record_at k w
        → Known (after ours spacecraft pool.size cs e) w
    goes_on e k w r =
        record {
          holds = event_kept spacecraft pool.size cs e ∙ K.holds;
          there = in_numbers channel (after ours spacecraft pool.size cs e) cs ((isolated spacecraft pool.size cs).channels e) ∙ K.there;
          held = k;
          is = r;
        }

    -- the record of the channel, changed by its own answer
    own_is : (a : ChannelAnswer) (k : ℕ) (w : Variables) → a.next ≡ record_at k w → record_of channel (records_after (turned channel a cs) cs) ≡ record_at k w
    own_is a k w e = own_set channel cs K.there a.next (ap (λ (c : Channel). c.number) e ∙ ap (λ (c : Channel). c.number) (sym K.is)) ∙ e

    pub frame_known : (x : units.Frame) → Readable x → Known (table_next set pool (frame (written set.own x)) cs) (step_of (event_is x) (star x) v)
    unfolding answered
    frame_known x h =
        goes_on (frame_arrives (written set.own x) (octets_of_lem set.own vw.spacecraft vw.channel x h)) _ _
        (ap (λ (t : Turn). record_of channel (records_after t cs)) (frame_turn_lem x h).0 ∙ own_is (answered (event_is x) (star x) (record_at K.held v)) _ _ refl)

    pub release_known : Known (table_next set pool (release channel) cs) (pick (is_done cs) (step_of E10 0 v) v)
    unfolding answered
    release_known =
        goes_on (release_buffer channel) (pick (is_done cs) (K.held - 1 + 0) K.held) (pick (is_done cs) (step_of E10 0 v) v)
        (ap (λ (t : Turn). record_of channel (records_after t cs)) release_turn_lem ∙ go (is_done cs))
      where
        go : (b : Bool) → record_of channel (records_after (release_is b) cs) ≡ record_at (pick b (K.held - 1 + 0) K.held) (pick b (step_of E10 0 v) v)
        go true = own_is (given_back (record_of channel cs)) (K.held - 1 + 0) (step_of E10 0 v) (ap (λ (c : Channel). (given_back c).next) K.is)
        go false = ap (record_of channel) (nothing_after 13 0 cs) ∙ K.is

    -- an event for another channel leaves it
    other_known : (e : channels.Event) → (channel ≡ channel_of e → ⊥) → Known (after ours spacecraft pool.size cs e) v
    other_known e d = goes_on e K.held v ((isolated spacecraft pool.size cs).others e channel d ∙ K.is)

    -- octets that are no frame of the channel name another, or are refused
    pub other_frame_known : (o : List ℕ) → (are_octets o && is_refused (read set.own o)) ≡ true → Known (table_next set pool (frame o) cs) v
    other_frame_known o h = go (eqb channel (named o)) refl
      where
        lent : Octets o
        lent = octets_are o (and_both (are_octets o) (is_refused (read set.own o)) h).0

        refusal_is : channel ≡ named o → (frame_turn spacecraft pool.size cs o).refusal ≡ refusal_of o spacecraft channel
        refusal_is e =
            (refusals spacecraft pool.size cs).frame_there K.holds o lent (ap (λ (i : ℕ). is_in i cs) (sym e) ∙ K.there)
            ∙ ap (refusal_of o spacecraft) (sym e)

        not_taken : refusal_of o spacecraft channel ≡ 0 → ⊥
        not_taken z =
            let r = refused_reading set.own o (and_both (are_octets o) (is_refused (read set.own o)) h).1 in
            let f = sym (reading_frame o spacecraft channel z) ∙ r.1 in
            let y : ◌≡◌ {A = ℕ} 0 1 = cc in
            omega arith

        go : (b : Bool) → eqb channel (named o) ≡ b → Known (table_next set pool (frame o) cs) v
        go true e =
            rw ((isolated spacecraft pool.size cs).refused (frame_arrives o lent) (λ z. not_taken (sym (refusal_is (eqb-true channel (named o) e)) ∙ z))) K
        go false e = other_known (frame_arrives o lent) (eqb-false channel (named o) e)

    -- a release that names another channel
    pub other_release_known : (n : ℕ) → (channel ≡ n → ⊥) → Known (table_next set pool (release n) cs) v
    other_release_known n d = other_known (release_buffer n) d
