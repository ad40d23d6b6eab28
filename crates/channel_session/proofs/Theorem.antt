-- Document 02, order 8: demand 3 for each channel alone (`demand3_channel`), of every pair of ends that does as the tables say, and the tables are one
-- (`tables_tied`). The ends' run and the tables' run share one run of Core (Link), whose invariant crate session keeps for any room at each event
-- (proofs/Receiver, `step_with_keeps`); what is counted of the pool is what the records hold (Pool), so a buffer is free exactly where there is room. The claims
-- then are crate session's (proofs/Theorem, `claims`).
use mathlib.Core.Path.{◌≡◌, refl, sym, ap, ◌∙◌, subst}
use mathlib.Core.Bool.{Bool, true, false, not}
use mathlib.Core.List.{List, [], ◌∷◌, map}
use Prim.Native.Nat.{ℕ}
use native.Mathlib.Omega.{arith}
use lib.Dec.{eqb}
use Rattle.base.specs.Choice.{pick}
use Rattle.fop.specs.Units.{Frame, are_octets, written}
use Rattle.fop.specs.Variables.{Fop}
use Rattle.fop.proofs.Choices.{and_both}
use Rattle.farm.specs.declared.Variables.{Variables}
use Rattle.receiver.specs.declared.Channel.{Channel}
use Rattle.session.specs.Frames.{read}
use Rattle.session.specs.Ends.{Settings, Within, start_receiver}
use Rattle.session.specs.Session.{Linked, History, Event, ad_request, bd_request, ticks, lower_says, terminate, resume, word_in, word_lost, word_made, frame_in, frame_lost, release, begins, to_sender}
use Rattle.session.specs.Session as ses
use Rattle.session.specs.Channels.{is_refused}
use Rattle.session.specs.Suspension.{admits, rejects}
use Rattle.session.proofs.Core.{Session}
use Rattle.session.proofs.Inv.{Inv}
use Rattle.session.proofs.Receiver.{step_with_keeps, begun, start_inv}
use Rattle.session.proofs.Octets.{octets_are}
use Rattle.session.proofs.Link.{Reads, fly_reads}
use Rattle.session.proofs.Suspended.{admitted}
use Rattle.session.proofs.Theorem.{Looked, claims}
use Rattle.channels.specs.Table.{place_of, has_room, record_of}
use Rattle.channels.proofs.RecordLaws.{held_within}
use Rattle.channel_session.specs.Ends as ends
use Rattle.channel_session.specs.Ends.{Pool, Begins, ManyEnds, Tied, TableEvent, TableAnswer, table_next, tables, seen}
use Rattle.channel_session.specs.Session.{ChannelEvent, own, other_frame, other_release, Counted, after_frame, after_release, Free, Joined, frame_counted, counted, another, begins_joined, channel_step, channel_run}
use Rattle.channel_session.specs.Demand.{alone, channel_rejects, channel_unrejected, Demand3}
use Rattle.channel_session.proofs.Known.{Known, is_done, octets_of_lem}
use Rattle.channel_session.proofs.Pool.{Count, frame_counts, release_counts, room_free}
use Rattle.channel_session.proofs.Link.{Ties, Rel, frame_records, own_records, is_other, tie_answer, next_records, core_step, word_is, same_step}

-- the tables are ends of this kind
abbrev pub tables_tied : (set : Settings) (pool : Pool) → Tied set pool (tables set pool)
tables_tied set pool =
    record {
      fop = λ f. f;
      records = λ cs. cs;
      Good = λ f. Unit {0};
      GoodReceiver = λ cs. Unit {0};
      good = tt;
      good_receiver = tt;
      keeps = λ e i lent x g. tt;
      keeps_receiver = λ e x g. tt;
      start = refl;
      start_records = refl;
      next = λ e i lent x g. refl;
      answer = λ e i lent x g. refl;
      next_receiver = λ e x g. refl;
      answer_receiver = λ e x g. refl;
      word = λ n lent x g. refl;
    }

module _ (set : Settings) (vw : Within set) (pool : Pool) where
  -- What is counted goes with the records.
  module _ (m : ManyEnds) (t : Tied set pool m) where
    frame_count : (fs : List Frame) → Reads fs → (cs : List Channel) (r : m.Receiver) (v : Variables) (p : Counted) → Ties set vw pool m t cs r v → Count cs p
        → Count (frame_records set vw pool fs cs) (frame_counted set m (map (written set.own) fs) r p)
    frame_count [] h cs r v p T C = C
    frame_count (x ∷ fs) h cs r v p T C =
        subst (λ (a : TableAnswer). Count (frame_records set vw pool (x ∷ fs) cs) (after_frame a p)) (sym (tie_answer set vw pool m t (ends.frame (written set.own x)) cs r v T))
        (frame_counts _ _ cs p C (written set.own x) (octets_of_lem set.own vw.spacecraft vw.channel x h.0) _)

    release_count : (n : ℕ) (cs : List Channel) (r : m.Receiver) (v : Variables) (p : Counted) → Ties set vw pool m t cs r v → Count cs p
        → Count (table_next set pool (ends.release n) cs) (after_release (m.answer_receiver (ends.release n) r) p)
    release_count n cs r v p T C =
        subst (λ (a : TableAnswer). Count (table_next set pool (ends.release n) cs) (after_release a p)) (sym (tie_answer set vw pool m t (ends.release n) cs r v T))
        (release_counts _ _ cs p C n)

    other_count : (b : Bool) (e : TableEvent) (count : TableAnswer → Counted → Counted) (cs : List Channel) (τ : Joined set m) → Count cs τ.pool
        → (b ≡ true → Count (table_next set pool e cs) (count (m.answer_receiver e τ.linked.receiver) τ.pool))
        → Count (pick b (table_next set pool e cs) cs) (another set m b e count τ).pool
    other_count true e count cs τ C k = k refl
    other_count false e count cs τ C k = C

    own_count : (e : Event) (cs : List Channel) (σ : Linked (seen set m)) (κ : Session) (p : Counted) → Rel set vw pool m t cs σ κ → Inv set κ → Count cs p
        → Count (own_records set vw pool e κ cs) (counted set m e σ p)
    own_count (ad_request o lent) cs σ κ p R I C = C
    own_count (bd_request o lent) cs σ κ p R I C = C
    own_count (ticks lent) cs σ κ p R I C = C
    own_count (lower_says l lent) cs σ κ p R I C = C
    own_count (terminate v lent) cs σ κ p R I C = C
    own_count (resume v lent) cs σ κ p R I C = C
    own_count (word_in lent) cs σ κ p R I C = C
    own_count word_lost cs σ κ p R I C = C
    own_count (word_made lent) cs σ κ p R I C = C
    own_count frame_in cs σ κ p R I C =
        subst (λ (l : List (List ℕ)). Count (frame_records set vw pool κ.frames cs) (frame_counted set m l σ.receiver p)) (sym R.frames)
        (frame_count κ.frames (fly_reads set.n _ κ.sent I.base.num _ _ κ.frames I.base.fly) cs σ.receiver κ.farm p R.receiver C)
    own_count frame_lost cs σ κ p R I C = C
    own_count release cs σ κ p R I C = release_count set.own.channel cs σ.receiver κ.farm p R.receiver C

    count_step : (e : ChannelEvent) (cs : List Channel) (τ : Joined set m) (κ : Session) → Rel set vw pool m t cs τ.linked κ → Inv set κ → Count cs τ.pool
        → Count (next_records set vw pool e κ cs) (channel_step set m e τ).pool
    unfolding channel_step
    count_step (own e) cs τ κ R I C = own_count e cs τ.linked κ τ.pool R I C
    count_step (other_frame o) cs τ κ R I C =
        other_count (is_other set vw pool o) (ends.frame o) after_frame cs τ C (λ b.
        subst (λ (a : TableAnswer). Count (table_next set pool (ends.frame o) cs) (after_frame a τ.pool))
        (sym (tie_answer set vw pool m t (ends.frame o) cs τ.linked.receiver κ.farm R.receiver))
        (frame_counts _ _ cs τ.pool C o (octets_are o (and_both (are_octets o) (is_refused (read set.own o)) b).0) _))
    count_step (other_release n) cs τ κ R I C =
        other_count (not (eqb n set.own.channel)) (ends.release n) after_release cs τ C (λ b.
        release_count n cs τ.linked.receiver κ.farm τ.pool R.receiver C)

  -- the invariant
  keeps : (e : ChannelEvent) (cs : List Channel) (κ : Session) → admits (channel_rejects set pool e) κ.fop ≡ true → Inv set κ → Inv set (core_step set vw pool e cs κ)
  keeps (own e) cs κ a I = step_with_keeps set vw (has_room pool.size cs) (is_done set vw pool cs) e κ a I
  keeps (other_frame o) cs κ a I = I
  keeps (other_release n) cs κ a I = I

  module _ (m : ManyEnds) (t : Tied set pool m) where
    -- the ends' session, the tables' and Core's are one, with the same records, and these are what is counted
    record Same (τ : Joined set m) (γ : Joined set (tables set pool)) : Type 0 where
      session : Session
      records : List Channel
      ends : Rel set vw pool m t records τ.linked session
      of_tables : Rel set vw pool (tables set pool) (tables_tied set pool) records γ.linked session
      counts : Count records τ.pool
      inv : Inv set session

    same_run : (es : List ChannelEvent) (τ : Joined set m) (γ : Joined set (tables set pool)) → channel_unrejected set pool es γ ≡ true → Same τ γ
        → Same (channel_run set m es τ) (channel_run set (tables set pool) es γ)
    unfolding channel_run channel_unrejected
    same_run [] τ γ u s = s
    same_run (e ∷ es) τ γ u s =
        let b = and_both (admits (channel_rejects set pool e) γ.linked.sender) _ u in
        let a : admits (channel_rejects set pool e) s.session.fop ≡ true =
        subst (λ (f : Fop). admits (channel_rejects set pool e) f ≡ true) s.of_tables.fop b.0 in
        let J = keeps e s.records s.session a s.inv in
        same_run es (channel_step set m e τ) (channel_step set (tables set pool) e γ) b.1 (record {
          session = core_step set vw pool e s.records s.session;
          records = next_records set vw pool e s.session s.records;
          ends = same_step set vw pool m t e s.records τ s.session s.ends s.inv J;
          of_tables = same_step set vw pool (tables set pool) (tables_tied set pool) e s.records γ s.session s.of_tables s.inv J;
          counts = count_step m t e s.records τ s.session s.ends s.inv s.counts;
          inv = J;
        })

  -- the start
  start_known : Begins set pool → Known set vw pool pool.records (begun set).farm
  unfolding start_receiver
  start_known B = record { holds = B.holds; there = B.there; held = 0; is = B.start }

  start_count : Begins set pool → Count pool.records (record { accepted = []; given = [] })
  start_count B = record { each = λ n. omega (arith, held_within pool.records (place_of n pool.records), B.none); all = omega (arith, B.none) }

  at_start_lem : (m : ManyEnds) (t : Tied set pool m) → Begins set pool → Rel set vw pool m t pool.records (begins_joined set m).linked (begun set)
  unfolding begins
  at_start_lem m t B =
      record {
        good = t.good;
        fop = t.start;
        receiver = record { good = t.good_receiver; records = t.start_records; known = start_known B };
        frames = refl;
        words = refl;
        history = refl;
      }

  module _ (m : ManyEnds) (t : Tied set pool m) where
    from_start : Begins set pool → (es : List ChannelEvent) → channel_unrejected set pool es (begins_joined set (tables set pool)) ≡ true
        → Same m t (channel_run set m es (begins_joined set m)) (channel_run set (tables set pool) es (begins_joined set (tables set pool)))
    from_start B es u =
        same_run m t es (begins_joined set m) (begins_joined set (tables set pool)) u (record {
          session = begun set;
          records = pool.records;
          ends = at_start_lem m t B;
          of_tables = at_start_lem (tables set pool) (tables_tied set pool) B;
          counts = start_count B;
          inv = start_inv set vw;
        })

    -- what the claims look at
    module _ (τ : Joined set m) (γ : Joined set (tables set pool)) (s : Same m t τ γ) where
      -- an event of the channel that is no reject of the lower layer is admitted
      next_inv : (e : Event) → rejects e ≡ false → Inv set (core_step set vw pool (own e) s.records s.session)
      next_inv e q = keeps (own e) s.records s.session (admitted (rejects e) s.session.fop q) s.inv

      looked : Looked set (seen set m) (has_room pool.size s.records) (is_done set vw pool s.records) τ.linked (alone set pool γ) s.session
      unfolding channel_step ses.step to_sender
      looked =
          record {
            now = record { frames = s.ends.frames; words = s.ends.words; history = s.ends.history };
            next = λ e q.
                let n = same_step set vw pool m t (own e) s.records τ s.session s.ends s.inv (next_inv e q) in
                record { frames = n.frames; words = n.words; history = n.history };
            word = word_is set vw pool m t s.records τ.linked s.session s.ends s.inv;
            fop = s.of_tables.fop;
            farm = ap (λ (cs : List Channel). (record_of set.own.channel cs).variables) s.of_tables.receiver.records
                ∙ ap (λ (c : Channel). c.variables) s.of_tables.receiver.known.is;
            unlocked = ap (λ (h : History). h.locked_out) s.of_tables.history;
            ticked = λ lent.
                (same_step set vw pool (tables set pool) (tables_tied set pool) (own (ticks lent)) s.records γ s.session s.of_tables s.inv
                (next_inv (ticks lent) refl)).fop;
          }

-- Demand 3 for each channel alone, any events of the others standing in its list too.
pub demand3_channel : Demand3
demand3_channel set vw pool B m t es u =
    let s = from_start set vw pool m t B es u in
    claims set vw (seen set m) _ _ _ _ s.session (looked set vw pool m t _ _ s) s.inv (Free pool (channel_run set m es (begins_joined set m)).pool)
    (room_free pool s.records _ s.counts)
