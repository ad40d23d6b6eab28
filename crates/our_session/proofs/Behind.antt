-- Every unit held lies inside the need of the sender's state (`held_inside`), and a first part of a store that has the places of the units held reads as
-- the store does, whatever stands behind it (`reads_first`). No event reads or writes behind the need judged at it, that of the
-- state before it and at Set K that of the new K (crate fop, specs/Store, `need_at`), whatever is lent: with more octets behind a store that
-- suffices it answers, hands down and leaves in that store what it does without them, and they stay as they were (`behind_idle`). So two stores
-- that agree in as many octets as the need give the same answer, the same next sender and the same output, and agree again (`same_front`);
-- the octets behind the need stay (`behind_kept`); and the need of the state after an event is no more than the one judged at it (`need_falls`).
use Rattle.std.specs.Prelude.{None, Some, Ok, Err}
use Rattle.std.specs.Prelude as std
use Prim.Native.Nat.{ℕ, zero, suc, ◌+◌, ◌-◌, ◌≤◌, ◌<◌}
use mathlib.Core.Path.{◌≡◌, refl, sym, ap, ap₂, ◌∙◌}
use mathlib.Core.Bool.{Bool, true, false}
use mathlib.Core.List.{List, [], ◌∷◌, ◌++◌}
use mathlib.Core.Option.{Option, none, some}
use native.Mathlib.Nat.{le_trans}
use native.Mathlib.Omega.{arith}
use borrow.Author.Tests.{leb-true, leb-false, le-leb, ne_eqb}
use lib.Dec.{leb, eqb}
use lib.ListN.{length, take, drop, get_or, length-append, length-take, take-append-drop, drop_of_length-le}
use lib.Seq.{take-append_seam, drop-append_seam, length-take-le}
use Rattle.base.specs.Choice.{pick, must}
use Rattle.base.specs.Limits.{largest_unit, largest_spacecraft, largest_channel}
use Rattle.base.specs.Outcome.{Outcome, Outcome.done, Outcome.refused}
use Rattle.base.proofs.Tests.{no}
use Rattle.store.specs.Places.{place_offset, unit_at, unit_put, without}
use Rattle.store.proofs.Front.{unit_front, put_front, without_front}
use Rattle.store.proofs.Need.{larger_most, larger_second}
use Rattle.frame.specs.Frame.{overhead, raw_frame, raw_writing}
use Rattle.base.specs.Refusals.{refusal_number}
use Rattle.base.proofs.Refusals.{some_number}
use Rattle.clcw.specs.Answers.{WordReading, reading_of}
use Rattle.fop.specs.Units.{Own, are_octets}
use Rattle.fop.specs.Answers as table
use Rattle.fop.specs.declared.Event.{Event as FopEvent}
use Rattle.fop.specs.declared.Event.TheVariants.{E15}
use Rattle.fop.specs.Table.{event_number}
use Rattle.fop.specs.Events.{lower_event, SenderEvent, request_ad, request_bd, tick, lower, directive, word_arrives}
use Rattle.fop.specs.Store.{store_need, window_at, need_at}
use Rattle.sender_values.specs.declared.Handed.{Handed}
use Rattle.sender_values.specs.declared.Handed.TheVariants as handed
use Rattle.sender_values.specs.declared.SenderState.{SenderState}
use Rattle.sender_values.specs.declared.Settings.{Settings}
use Rattle.sender_values.specs.declared.Work.{Work}
use Rattle.sender_values.specs.Actions.{units_held}
use Rattle.sender_values.specs.Start.{begun}
use Rattle.sender_view.specs.View.{entries_from}
use Rattle.sender_view.proofs.SentQueue.{held_most}
use Rattle.sender_table.specs.Rows.{row_of, row_if}
use Rattle.sender_rows_view.specs.State.{Good}
use Rattle.sender_events.specs.Events.{event_of_word, event_of_directive, window_of, event_of_ad, event_of_bd}
use Rattle.sender_frames.specs.Limits.{need_of}
use Rattle.sender_frames.specs.Frames.{handed_writing, unit_before, unit_offered, must_be_unit}
use Rattle.sender.specs.Answers.{Step, answered, refusing, step_by, refused_step}
use Rattle.sender.specs.Events.{added, lengths_served, lengths_offered, served_by, served, offered_by, bypassed_by, request_ad_of, request_bd_of, directive_of, ticked, event_of_tick, tick_of, lower_layer_of, word_by, control_word_of}
use Rattle.our_session.specs.Ours.{Held, step_of, handed_down, answer_by, reads}
use Rattle.our_session.specs.Does.{Well}
use Rattle.our_session.proofs.Events.{entries_count}
use Rattle.our_session.proofs.Judged.{refusal_is, suffices_answer}
use Rattle.our_session.proofs.Steps.{store_length}
use Rattle.our_session.proofs.Theorem.{demand2_ours}
use Rattle.our_session.proofs.Widened.{well_good}

-- the sender with a store
abbrev pub held : SenderState → List ℕ → Held
held s store = record { sender = record { fop = s }; store = store }

well_short : (own : Own) (s : SenderState) → Well own s → (i : ℕ) → get_or s.lengths i 0 ≤ largest_unit
unfolding begun
well_short own s w = (well_good own s w).formed.units

-- a unit held lies inside the need, whichever window it is judged by
inside : (s : SenderState) (k : ℕ) → ((i : ℕ) → get_or s.lengths i 0 ≤ largest_unit) → (i : ℕ) → i ≤ s.queues.sent
    → place_offset i + get_or s.lengths i 0 ≤ store_need k s.queues.sent
inside s k units i h = omega (arith, units i, h, larger_second k s.queues.sent)

pub held_inside : (own : Own) (s : SenderState) → Well own s → (i : ℕ) → i < units_held s.queues.sent s.queues.waiting
    → place_offset i + get_or s.lengths i 0 ≤ need_of s
held_inside own s w i h = inside s s.settings.k (well_short own s w) i (omega (arith, h, held_most s.queues.sent s.queues.waiting))

-- What a store with octets behind it reads as.
module _ (s : SenderState) (front behind : List ℕ) (units : (i : ℕ) → get_or s.lengths i 0 ≤ largest_unit) (k : ℕ)
    (room : store_need k s.queues.sent ≤ length front) where
  same_unit : (i : ℕ) → i ≤ s.queues.sent → unit_at s.lengths i (front ++ behind) ≡ unit_at s.lengths i front
  same_unit i h = unit_front front behind s.lengths i (le_trans (inside s k units i h) room)

  same_entries : (f p i n : ℕ) → i + n ≤ s.queues.sent → entries_from s.lengths (front ++ behind) f p i n ≡ entries_from s.lengths front f p i n
  same_entries f p i zero h = refl
  same_entries f p i (suc n) h = rw (same_unit i (omega (arith, h)), same_entries f p (suc i) n (omega (arith, h)))

  same_reads : reads (held s (front ++ behind)) ≡ reads (held s front)
  unfolding begun
  same_reads = rw (same_entries _ _ 0 s.queues.sent (omega arith), same_unit s.queues.sent (omega arith))

-- the places of the units held need no more than any window does
least_need : (k n : ℕ) → store_need 0 n ≤ store_need k n
least_need k n = omega (arith, larger_most 0 n n (omega arith) (omega arith), larger_second k n)

pub units_need_lem : (s : SenderState) (store : List ℕ) (e : SenderEvent) → store_need 0 s.queues.sent ≤ need_at e (reads (held s store))
unfolding begun
units_need_lem s store e =
    let n = s.queues.sent in
    let k = window_at e (reads (held s store)) in
    let q : need_at e (reads (held s store)) ≡ store_need k n = ap (store_need k) (entries_count s.lengths store _ _ 0 n) in
    omega (arith, q, least_need k n)

-- a first part of a store that has those places, with any octets behind it, reads as the store does
pub reads_first : (own : Own) (s : SenderState) (store : List ℕ) → Good own s store → (count : ℕ) → store_need 0 s.queues.sent ≤ count → (behind : List ℕ)
    → reads (held s (take count store ++ behind)) ≡ reads (held s store)
unfolding begun
reads_first own s store g count h behind =
    let room : store_need 0 s.queues.sent ≤ length (take count store) =
    omega (arith, length-take count store, h, g.formed.room, least_need s.settings.k s.queues.sent) in
    same_reads s (take count store) behind g.formed.units 0 room
    ∙ sym (same_reads s (take count store) (drop count store) g.formed.units 0 room)
    ∙ ap (λ (x : List ℕ). reads (held s x)) (take-append-drop count store)

-- A writing is refused by a number that is not 0.
data Sound : Outcome (Unit {0}) → Type 0 where
  fine : (octets : List ℕ) (more : Unit {0}) → Sound (done octets more)
  numbered : (number place : ℕ) → (number ≡ 0 → ⊥) → Sound (refused number place)

sound_must : (b : Bool) (number : ℕ) (on : Outcome (Unit {0})) → (number ≡ 0 → ⊥) → Sound on → Sound (must b (refused number 0) on)
sound_must true number on n h = h
sound_must false number on n h = numbered number 0 n

sound_raw : (bypass control number spacecraft channel : ℕ) (field : List ℕ) (room : ℕ) → Sound (raw_writing bypass control number spacecraft channel field room)
unfolding raw_writing
sound_raw bypass control number spacecraft channel field room =
    sound_must (leb 1 (length field)) 10 _ (λ e. omega arith)
    (sound_must (leb (length field) largest_unit) 10 _ (λ e. omega arith)
    (sound_must (leb spacecraft largest_spacecraft) 12 _ (λ e. omega arith)
    (sound_must (leb channel largest_channel) 12 _ (λ e. omega arith)
    (sound_must (leb (length field + overhead) room) 11 _ (λ e. omega arith) (fine (raw_frame bypass control number spacecraft channel field) tt)))))

sound_handed : (g : Settings) (h : std.Option Handed) (u : List ℕ) (lent : ℕ) → Sound (handed_writing g h u lent)
unfolding handed_writing
sound_handed g None u lent = fine [] tt
sound_handed g (Some (handed.Ad n i)) u lent = sound_raw _ _ _ _ _ _ lent
sound_handed g (Some handed.Bd) u lent = sound_raw _ _ _ _ _ _ lent
sound_handed g (Some handed.Unlock) u lent = sound_raw _ _ _ _ _ _ lent
sound_handed g (Some (handed.SetVr n)) u lent = sound_raw _ _ _ _ _ _ lent

-- the frame handed down tells the octets written
abbrev told : List ℕ → Option (List ℕ)
told x = pick (eqb (length x) 0) none (some x)

told_is : (x old : List ℕ) → handed_down (length x) (x ++ drop (length x) old) ≡ told x
told_is x old = ap (λ (y : List ℕ). pick (eqb (length x) 0) none (some y)) (take-append_seam x (drop (length x) old))

told_cons : (a : ℕ) (x : List ℕ) → told (a ∷ x) ≡ some (a ∷ x)
told_cons a x = no _ _ _ (ne_eqb (length (a ∷ x)) 0 (λ e. omega (arith, e)))

apart_some : {x : List ℕ} → none ≡ some x → ⊥
apart_some e = let z : ◌≡◌ {A = ℕ} 0 1 = cc in omega arith

told_same : (x y : List ℕ) → told x ≡ told y → x ≡ y
told_same [] [] e = refl
told_same [] (b ∷ y) e = absurd (apart_some (e ∙ told_cons b y))
told_same (a ∷ x) [] e = absurd (apart_some (sym e ∙ told_cons a x))
told_same (a ∷ x) (b ∷ y) e = let q : some (a ∷ x) ≡ some (b ∷ y) = sym (told_cons a x) ∙ e ∙ told_cons b y in cc

-- a step with octets behind its store
abbrev pub with_behind : List ℕ → Step → Step
with_behind behind step = record { answer = step.answer; store = step.store ++ behind; output = step.output }

-- Two steps, with the octets behind and without them: one event, one work, the same lengths after it, and the same store in front. They differ
-- at the most in the unit that is written.
module _ (s : SenderState) (output front behind : List ℕ) where
  record Alike (a b : Step) : Type 0 where
    event : std.Option FopEvent
    work : Work
    lengths : List ℕ
    wide : Outcome (Unit {0})
    narrow : Outcome (Unit {0})
    new : List ℕ
    wide_sound : Sound wide
    narrow_sound : Sound narrow
    a_is : a ≡ step_by event s work lengths wide (new ++ behind) (front ++ behind) output
    b_is : b ≡ step_by event s work lengths narrow new front output

  -- steps that tell the same are the same
  by_writing : (k : std.Option FopEvent) (w : Work) (ls new : List ℕ) (p q : Outcome (Unit {0})) → Sound p → Sound q
      → answer_by (step_by k s w ls p (new ++ behind) (front ++ behind) output) ≡ answer_by (step_by k s w ls q new front output)
      → step_by k s w ls p (new ++ behind) (front ++ behind) output ≡ with_behind behind (step_by k s w ls q new front output)
  unfolding answered refusing
  by_writing k w ls new (done x more) (done y more') sp sq e =
      let t : told x ≡ told y = sym (told_is x output) ∙ ap (λ (a : table.Answer). a.down) e ∙ told_is y output in
      ap (λ (z : List ℕ). step_by k s w ls (done z tt) (new ++ behind) (front ++ behind) output) (told_same x y t)
  by_writing k w ls new (done x more) (refused n place) sp (numbered m p z) e = absurd (z (sym (ap (λ (a : table.Answer). a.refusal) e)))
  by_writing k w ls new (refused n place) (done y more) (numbered m p z) sq e = absurd (z (ap (λ (a : table.Answer). a.refusal) e))
  by_writing k w ls new (refused n place) (refused m place') sp sq e =
      ap (λ (z : ℕ). step_by k s w ls (refused z 0) (new ++ behind) (front ++ behind) output) (ap (λ (a : table.Answer). a.refusal) e)

  same_told : (a b : Step) → Alike a b → answer_by a ≡ answer_by b → a ≡ with_behind behind b
  same_told a b c e =
      c.a_is
      ∙ by_writing c.event c.work c.lengths c.new c.wide c.narrow c.wide_sound c.narrow_sound
      (ap answer_by (sym c.a_is) ∙ e ∙ ap answer_by c.b_is)
      ∙ sym (ap (with_behind behind) c.b_is)

  refused_with : (n : ℕ) → (n ≡ 0 → ⊥) → Alike (refused_step n s (front ++ behind) output) (refused_step n s front output)
  refused_with n h = record {
    event = None;
    work = begun s;
    lengths = [];
    wide = refused n 0;
    narrow = refused n 0;
    new = front;
    wide_sound = numbered n 0 h;
    narrow_sound = numbered n 0 h;
    a_is = refl;
    b_is = refl;
  }

  either : (t : Bool) (a b c d : Step) → Alike a b → Alike c d → Alike (pick t a c) (pick t b d)
  either true a b c d p q = p
  either false a b c d p q = q

  checked : (t : Bool) (a b c d : Step) → Alike a b → Alike c d → Alike (must t a c) (must t b d)
  checked true a b c d p q = q
  checked false a b c d p q = p

  -- the frame handed down is written, with one unit or another
  written : (k : std.Option FopEvent) (w : Work) (ls u v new wider : List ℕ) → wider ≡ new ++ behind
      → Alike (step_by k s w ls (handed_writing s.settings w.told.handed u (length output)) wider (front ++ behind) output)
      (step_by k s w ls (handed_writing s.settings w.told.handed v (length output)) new front output)
  written k w ls u v new wider e = record {
    event = k;
    work = w;
    lengths = ls;
    wide = handed_writing s.settings w.told.handed u (length output);
    narrow = handed_writing s.settings w.told.handed v (length output);
    new = new;
    wide_sound = sound_handed s.settings w.told.handed u (length output);
    narrow_sound = sound_handed s.settings w.told.handed v (length output);
    a_is = ap (λ (x : List ℕ). step_by k s w ls (handed_writing s.settings w.told.handed u (length output)) x (front ++ behind) output) e;
    b_is = refl;
  }

  -- the store suffices for a window
  module _ (units : (i : ℕ) → get_or s.lengths i 0 ≤ largest_unit) (window : ℕ) (room : store_need window s.queues.sent ≤ length front) where
    longer : length (front ++ behind) ≡ length front + length behind
    longer = length-append front behind

    stored : (a b : Step) → Alike a b
        → Alike (must (leb (store_need window s.queues.sent) (length (front ++ behind))) (refused_step 11 s (front ++ behind) output) a)
        (must (leb (store_need window s.queues.sent) (length front)) (refused_step 11 s front output) b)
    stored a b h =
        rw (
          le-leb (store_need window s.queues.sent) (length (front ++ behind)) (omega (arith, room, longer)),
          le-leb (store_need window s.queues.sent) (length front) room,
        ) h

    removed : (count : ℕ) → without s.lengths count (units_held s.queues.sent s.queues.waiting - count) (front ++ behind)
        ≡ without s.lengths count (units_held s.queues.sent s.queues.waiting - count) front ++ behind
    unfolding without
    removed count = by (units_held s.queues.sent s.queues.waiting - count) refl where
      by : (n : ℕ) → units_held s.queues.sent s.queues.waiting - count ≡ n
          → without s.lengths count n (front ++ behind) ≡ without s.lengths count n front ++ behind
      by zero e = refl
      by (suc n) e =
          without_front s.lengths count front behind units (suc n)
          (omega (arith, e, room, held_most s.queues.sent s.queues.waiting, larger_second window s.queues.sent))

    served_by_lem : (k : std.Option FopEvent) (w : Work) → Alike (served_by k s w (front ++ behind) output) (served_by k s w front output)
    unfolding served_by
    served_by_lem k w = written k w (lengths_served s w) (unit_before s w (front ++ behind)) (unit_before s w front) _ _ (removed w.told.confirmed.count)

    put : (b : Bool) (o : List ℕ) → length o ≤ largest_unit
        → pick b (unit_put s.queues.sent o (front ++ behind)) (front ++ behind) ≡ pick b (unit_put s.queues.sent o front) front ++ behind
    put true o m = put_front front behind s.queues.sent o (omega (arith, m, room, larger_second window s.queues.sent))
    put false o m = refl

    offered_by_lem : (e : FopEvent) (w : Work) (o : List ℕ) → length o ≤ largest_unit → Alike (offered_by e s w o (front ++ behind) output) (offered_by e s w o front output)
    unfolding offered_by
    offered_by_lem e w o m =
        written (Some e) w (lengths_offered e s (length o)) (unit_offered s w o (front ++ behind)) (unit_offered s w o front) _ _ (put (added e s) o m)

    bypassed_by_lem : (e : FopEvent) (w : Work) (o : List ℕ) → Alike (bypassed_by e s w o (front ++ behind) output) (bypassed_by e s w o front output)
    unfolding bypassed_by
    bypassed_by_lem e w o = written (Some e) w s.lengths o o front _ refl

    serves : (k : std.Option FopEvent) (n : ℕ) (g : SenderState) → Alike (served window k n s g (front ++ behind) output) (served window k n s g front output)
    unfolding served
    serves k n g = stored _ _ (served_by_lem k (row_if k n (begun g)))

  -- by the event
  module _ (units : (i : ℕ) → get_or s.lengths i 0 ≤ largest_unit) where
    ten : Alike (refused_step 10 s (front ++ behind) output) (refused_step 10 s front output)
    ten = refused_with 10 (λ e. omega arith)

    module _ (room : need_of s ≤ length front) where
      asks : (o : List ℕ) (a b : Step) → (length o ≤ largest_unit → Alike a b)
          → Alike (must_be_unit o (refused_step 10 s (front ++ behind) output) (must (leb (need_of s) (length (front ++ behind))) (refused_step 11 s (front ++ behind) output) a))
          (must_be_unit o (refused_step 10 s front output) (must (leb (need_of s) (length front)) (refused_step 11 s front output) b))
      asks o a b h = checked (leb 1 (length o)) _ _ _ _ ten (fits (leb (length o) largest_unit) refl) where
        fits : (t : Bool) → leb (length o) largest_unit ≡ t
            → Alike (must t (refused_step 10 s (front ++ behind) output) (must (leb (need_of s) (length (front ++ behind))) (refused_step 11 s (front ++ behind) output) a))
            (must t (refused_step 10 s front output) (must (leb (need_of s) (length front)) (refused_step 11 s front output) b))
        fits true e = stored units s.settings.k room a b (h (leb-true (length o) largest_unit e))
        fits false e = ten

      words : (r : WordReading) → Alike (word_by r s (front ++ behind) output) (word_by r s front output)
      words (Ok (Some r)) = serves units s.settings.k room (Some (event_of_word r.word s)) r.word.report s
      words (Ok None) = serves units s.settings.k room (Some E15) 0 s
      words (Err refusal) = refused_with (refusal_number refusal) (some_number refusal)

    abbrev window_for : SenderEvent → ℕ
    window_for (request_ad o) = s.settings.k
    window_for (request_bd o) = s.settings.k
    window_for tick = s.settings.k
    window_for (lower l) = s.settings.k
    window_for (directive d v) = window_of d v s.settings.k
    window_for (word_arrives o) = s.settings.k

    alike : (e : SenderEvent) → store_need (window_for e) s.queues.sent ≤ length front
        → Alike (step_of e output (held s (front ++ behind))) (step_of e output (held s front))
    unfolding step_of request_ad_of request_bd_of tick_of lower_layer_of directive_of control_word_of
    alike (request_ad o) room =
        either (are_octets o) _ _ _ _ (asks room o _ _ (λ m. offered_by_lem units s.settings.k room (event_of_ad s) (row_of (event_of_ad s) 0 (begun s)) o m)) ten
    alike (request_bd o) room =
        either (are_octets o) _ _ _ _ (asks room o _ _ (λ m. bypassed_by_lem units s.settings.k room (event_of_bd s) (row_of (event_of_bd s) 0 (begun s)) o)) ten
    alike tick room = serves units s.settings.k room (event_of_tick s) 0 (ticked s)
    alike (lower l) room = serves units s.settings.k room (Some (lower_event l)) 0 s
    alike (directive d v) room =
        either (eqb (event_number (event_of_directive d v s)) 40) _ _ _ _ (refused_with 12 (λ e. omega arith)) (serves units (window_of d v s.settings.k) room (Some (event_of_directive d v s)) v s)
    alike (word_arrives o) room = either (are_octets o) _ _ _ _ (words room (reading_of o s.settings.channel)) ten

    -- the need, by the table's variables
    need_for : (e : SenderEvent) (store : List ℕ) → need_at e (reads (held s store)) ≡ store_need (window_for e) s.queues.sent
    unfolding begun
    need_for e store = ap₂ store_need (window_is e) (entries_count s.lengths store _ _ 0 s.queues.sent) where
      window_is : (e : SenderEvent) → window_at e (reads (held s store)) ≡ window_for e
      window_is (request_ad o) = refl
      window_is (request_bd o) = refl
      window_is tick = refl
      window_is (lower l) = refl
      window_is (directive d v) = refl
      window_is (word_arrives o) = refl

pub behind_idle : (own : Own) (s : SenderState) → Well own s → (e : SenderEvent) (output front behind : List ℕ) → need_at e (reads (held s front)) ≤ length front
    → step_of e output (held s (front ++ behind)) ≡ with_behind behind (step_of e output (held s front))
behind_idle own s w e output front behind enough =
    let units = well_short own s w in
    let n : need_at e (reads (held s front)) ≡ store_need (window_for s output front behind units e) s.queues.sent = need_for s output front behind units e front in
    let m : need_at e (reads (held s (front ++ behind))) ≡ store_need (window_for s output front behind units e) s.queues.sent =
    need_for s output front behind units e (front ++ behind) in
    let room : store_need (window_for s output front behind units e) s.queues.sent ≤ length front = omega (arith, enough, n) in
    let a = demand2_ours own e output (held s (front ++ behind)) w in
    let b = demand2_ours own e output (held s front) w in
    same_told s output front behind _ _ (alike s output front behind units e room)
    (a.answer ∙ suffices_answer own (length (front ++ behind)) (length output) e _ (omega (arith, m, room, length-append front behind))
    ∙ ap (table.sender_answer own e (length output)) (same_reads s front behind units (window_for s output front behind units e) room)
    ∙ sym (b.answer ∙ suffices_answer own (length front) (length output) e _ enough))

-- two stores that agree in as many octets as the need
module _ (own : Own) (s : SenderState) (w : Well own s) (e : SenderEvent) (output : List ℕ) where
  -- the need is the same whichever store is lent
  pub need_same : (a b : List ℕ) → need_at e (reads (held s a)) ≡ need_at e (reads (held s b))
  need_same a b = need_for s output a b (well_short own s w) e a ∙ sym (need_for s output a b (well_short own s w) e b)

  module _ (store : List ℕ) (enough : need_at e (reads (held s store)) ≤ length store) where
    abbrev need : ℕ
    need = need_at e (reads (held s store))

    abbrev front : List ℕ
    front = take need store

    front_length : length front ≡ need
    front_length = length-take-le need store enough

    -- what it does is what it does with a store of exactly the need
    pub by_front : step_of e output (held s store) ≡ with_behind (drop need store) (step_of e output (held s front))
    by_front =
        ap (λ (x : List ℕ). step_of e output (held s x)) (sym (take-append-drop need store))
        ∙ behind_idle own s w e output front (drop need store) (omega (arith, front_length, need_same front store))

    after_length : length (step_of e output (held s front)).store ≡ need
    after_length = store_length (held s front) e output ∙ front_length

    pub behind_stays : drop need (step_of e output (held s store)).store ≡ drop need store
    behind_stays =
        ap (λ (x : Step). drop need x.store) by_front
        ∙ ap (λ (n : ℕ). drop n ((step_of e output (held s front)).store ++ drop need store)) (sym after_length)
        ∙ drop-append_seam (step_of e output (held s front)).store (drop need store)

    pub front_after : take need (step_of e output (held s store)).store ≡ (step_of e output (held s front)).store
    front_after =
        ap (λ (x : Step). take need x.store) by_front
        ∙ ap (λ (n : ℕ). take n ((step_of e output (held s front)).store ++ drop need store)) (sym after_length)
        ∙ take-append_seam (step_of e output (held s front)).store (drop need store)

    -- an event that is not refused leaves a state whose need is no more than the one judged at it
    pub need_falls : table.judged own e ≡ 0 → need_of (step_of e output (held s store)).answer.next.fop ≤ need
    unfolding begun
    need_falls j =
        let d = demand2_ours own e output (held s front) w in
        let exact : need_at e (reads (held s front)) ≤ length front = omega (arith, front_length, need_same front store) in
        let z = refusal_is own (length front) (length output) e (reads (held s front)) 0 true j (le-leb (need_at e (reads (held s front))) (length front) exact) in
        let r : need_of (step_of e output (held s front)).answer.next.fop ≤ length (step_of e output (held s front)).store = (d.good z).formed.room in
        let q : need_of (step_of e output (held s store)).answer.next.fop ≡ need_of (step_of e output (held s front)).answer.next.fop =
        ap (λ (x : Step). need_of x.answer.next.fop) by_front in
        omega (arith, r, q, after_length)

-- the octets behind the need stay, whatever store is lent
pub behind_kept : (own : Own) (s : SenderState) → Well own s → (e : SenderEvent) (output store : List ℕ)
    → drop (need_at e (reads (held s store))) (step_of e output (held s store)).store ≡ drop (need_at e (reads (held s store))) store
behind_kept own s w e output store = by (leb (need_at e (reads (held s store))) (length store)) refl where
  by : (b : Bool) → leb (need_at e (reads (held s store))) (length store) ≡ b
      → drop (need_at e (reads (held s store))) (step_of e output (held s store)).store ≡ drop (need_at e (reads (held s store))) store
  by true t = behind_stays own s w e output store (leb-true (need_at e (reads (held s store))) (length store) t)
  by false t =
      let l : length store < need_at e (reads (held s store)) = leb-false (need_at e (reads (held s store))) (length store) t in
      drop_of_length-le (step_of e output (held s store)).store {i = need_at e (reads (held s store))} (omega (arith, l, store_length (held s store) e output))
      ∙ sym (drop_of_length-le store {i = need_at e (reads (held s store))} (omega (arith, l)))

-- what two steps have in common
pub record SameFront (need : ℕ) (x y : Step) : Type 0 where
  pub answer : x.answer ≡ y.answer
  pub output : x.output ≡ y.output
  pub store : take need x.store ≡ take need y.store

pub same_front : (own : Own) (s : SenderState) → Well own s → (e : SenderEvent) (output a b : List ℕ)
    → need_at e (reads (held s a)) ≤ length a → need_at e (reads (held s a)) ≤ length b
    → take (need_at e (reads (held s a))) a ≡ take (need_at e (reads (held s a))) b
    → SameFront (need_at e (reads (held s a))) (step_of e output (held s a)) (step_of e output (held s b))
same_front own s w e output a b la lb agree =
    let n = need_at e (reads (held s a)) in
    let q : need_at e (reads (held s b)) ≡ need_at e (reads (held s a)) = need_same own s w e output b a in
    let enough : need_at e (reads (held s b)) ≤ length b = omega (arith, q, lb) in
    let fronts : take (need_at e (reads (held s a))) a ≡ take (need_at e (reads (held s b))) b = agree ∙ ap (λ (k : ℕ). take k b) (sym q) in
    let F : List ℕ → Step = λ x. step_of e output (held s x) in
    record {
      answer = ap (λ (x : Step). x.answer) (by_front own s w e output a la) ∙ ap (λ (x : List ℕ). (F x).answer) fronts
          ∙ sym (ap (λ (x : Step). x.answer) (by_front own s w e output b enough));
      output = ap (λ (x : Step). x.output) (by_front own s w e output a la) ∙ ap (λ (x : List ℕ). (F x).output) fronts
          ∙ sym (ap (λ (x : Step). x.output) (by_front own s w e output b enough));
      store = front_after own s w e output a la ∙ ap (λ (x : List ℕ). (F x).store) fronts ∙ sym (front_after own s w e output b enough)
          ∙ ap (λ (k : ℕ). take k (F b).store) q;
    }
