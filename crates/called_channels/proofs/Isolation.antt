-- Isolation, the pool and what is read, of the functions that C and Rust call. A call on octets that are a table is the event on their records (`as_records`);
-- one record is put at its channel's place, and the octets at every other place stay (`others_octets`). Octets that are no table are 12 and stay.
use Rattle.std.specs.Prelude.{None, Some, Option}
use Prim.Native.Nat.{ℕ, zero, suc, ◌*◌, ◌%◌, ◌≤◌}
use mathlib.Core.Path.{◌≡◌, refl, sym, ap, ap₂, subst, ◌∙◌}
use mathlib.Core.Bool.{Bool, true, false, ◌||◌}
use mathlib.Core.List.{List, [], ◌∷◌, ◌++◌}
use native.Mathlib.Omega.{arith}
use borrow.Author.Tests.{le-leb, eq-eqb, eqb-true}
use lib.Dec.{eqb, leb}
use lib.ListN.{length, take, drop, set}
use Rattle.base.specs.Choice.{pick, must}
use Rattle.base.specs.Limits.{largest_channel}
use Rattle.base.specs.Octets.{Octets}
use Rattle.base.proofs.Tests.{apart}
use Rattle.base.specs.Outcome.{Outcome, answer, number_of}
use Rattle.farm.specs.declared.AcceptedUnit.{AcceptedUnit}
use Rattle.farm.specs.declared.AcceptedUnit.TheVariants.{Ad as AdUnit, Bd as BdUnit}
use Rattle.fop.specs.Limits.{largest_number}
use Rattle.frame.specs.Frame.{refusal_of, kind_of}
use Rattle.frame.specs.Answers.{part_of}
use Rattle.receiver.specs.declared.Channel.{Channel}
use Rattle.receiver.specs.Channel.{arrived}
use Rattle.receiver.specs.Receiver.{part_for}
use Rattle.channels.specs.Table.{Turn, is_in, place_of, held_in, has_room, record_holds, record_of, nothing, records_after, addressed, frame_turn, unit_part, release_turn}
use Rattle.channels.specs.Limits.{largest_window}
use Rattle.channels.specs.Isolation.{ours, Event, frame_arrives, release_buffer, report_word, named, channel_of, turn, word, told, after, after_all, refusal, Alike}
use Rattle.channels.proofs.Turns.{nothing_after, given_back, FrameCase, ReleaseCase, frame_case, release_case}
use Rattle.channels.proofs.Isolation.{isolated}
use Rattle.channels.proofs.Agree.{reads}
use Rattle.channels.proofs.Pool.{pooled}
use Rattle.channel_octets.specs.Kept.{record_octets, octets_of, record_in, table_octets, records_in, is_table}
use Rattle.channel_octets.proofs.Table.{behind}
use Rattle.channel_octets.proofs.Back.{length_table, table_back, table_only}
use Rattle.pondreszi_receiver.specs.Receivers.{Called, Release, unit_number, unit_place}
use Rattle.pondreszi_channels.specs.Channels.{at_start, new_call, Frame, frame_call, release_call, word_call}
use Rattle.called_session.proofs.Receiver.{part_taken}
use Rattle.called_channels.specs.Isolation.{unit_numbered, frame_call_told, release_call_told, call_told, call_number, call_after, call_after_all, octets_at, channel_at, no_table, IsolatedCalled, NewCalled, AsRecords, PooledCalled, ReadsCalled}
use Rattle.called_channels.proofs.Called.{release_channel_lem, release_unit, frame_is, release_is_lem, word_is}

-- Octets at a place.

-- behind the first record
next_octets : (place : ℕ) (o : List ℕ) → octets_at (suc place) o ≡ octets_at place (drop record_octets o)
next_octets place o = ap (take record_octets) (sym (behind place o))

-- a record put at one place leaves the others
others_octets : (cs : List Channel) (i place : ℕ) (c : Channel) → (i ≡ place → ⊥) → octets_at i (table_octets (set cs place c)) ≡ octets_at i (table_octets cs)
others_octets [] i place c d = refl
others_octets (x ∷ xs) zero zero c d = absurd (d refl)
others_octets (x ∷ xs) zero (suc place) c d = refl
others_octets (x ∷ xs) (suc i) zero c d = next_octets i (octets_of c ++ table_octets xs) ∙ sym (next_octets i (octets_of x ++ table_octets xs))
others_octets (x ∷ xs) (suc i) (suc place) c d =
    next_octets i (octets_of x ++ table_octets (set xs place c))
    ∙ others_octets xs i place c (λ e. d (ap suc e))
    ∙ sym (next_octets i (octets_of x ++ table_octets xs))

-- the octets at a channel's place are for it
channel_there : (n : ℕ) (cs : List Channel) → is_in n cs ≡ true → channel_at (place_of n cs) (table_octets cs) ≡ n
channel_there n [] e = absurd (apart e)
channel_there n (x ∷ xs) e = by (eqb x.number n) refl e (channel_there n xs)
  where
    by : (b : Bool) → eqb x.number n ≡ b → (b || is_in n xs) ≡ true → (is_in n xs ≡ true → channel_at (place_of n xs) (table_octets xs) ≡ n)
        → channel_at (pick b 0 (suc (place_of n xs))) (octets_of x ++ table_octets xs) ≡ n
    by true y z k = eqb-true x.number n y
    by false y z k = ap (λ (l : List ℕ). (record_in l).number) (next_octets (place_of n xs) (octets_of x ++ table_octets xs)) ∙ k z

-- so a turn of a channel leaves the octets of the others
module _ (spacecraft pool : ℕ) (cs : List Channel) (i : ℕ) where
  stays : (number event : ℕ) → octets_at i (table_octets (records_after (nothing number event cs) cs)) ≡ octets_at i (table_octets cs)
  stays number event = ap (λ (xs : List Channel). octets_at i (table_octets xs)) (nothing_after number event cs)

  elsewhere : (n : ℕ) (c : Channel) → is_in n cs ≡ true → (channel_at i (table_octets cs) ≡ n → ⊥)
      → octets_at i (table_octets (set cs (place_of n cs) c)) ≡ octets_at i (table_octets cs)
  elsewhere n c here d = others_octets cs i (place_of n cs) c (λ e. d (ap (λ (k : ℕ). channel_at k (table_octets cs)) e ∙ channel_there n cs here))

  frame_others : (s : List ℕ) → Octets s → (channel_at i (table_octets cs) ≡ named s → ⊥)
      → octets_at i (table_octets (records_after (frame_turn spacecraft pool cs s) cs)) ≡ octets_at i (table_octets cs)
  frame_others s lent d = by (frame_case spacecraft pool cs s lent)
    where
      by : {t : Turn} → FrameCase spacecraft pool cs s t → octets_at i (table_octets (records_after t cs)) ≡ octets_at i (table_octets cs)
      by (FrameCase.unheld h) = stays 12 0
      by (FrameCase.refused h z) = stays (refusal_of s spacecraft (addressed cs s)) 9
      by (FrameCase.arrives h here z) = elsewhere (named s) (arrived (has_room pool cs) (record_of (named s) cs) (kind_of s)).next here d

  release_others : (n : ℕ) → (channel_at i (table_octets cs) ≡ n → ⊥)
      → octets_at i (table_octets (records_after (release_turn spacecraft pool cs n) cs)) ≡ octets_at i (table_octets cs)
  release_others n d = by (release_case spacecraft pool cs n)
    where
      by : {t : Turn} → ReleaseCase spacecraft pool cs n t → octets_at i (table_octets (records_after t cs)) ≡ octets_at i (table_octets cs)
      by (ReleaseCase.unheld h) = stays 12 0
      by (ReleaseCase.absent h e) = stays 7 0
      by (ReleaseCase.none h here b) = stays 13 0
      by (ReleaseCase.done h here b) = elsewhere n (given_back (record_of n cs)).next here d

-- Calls.
module _ (spacecraft pool : ℕ) (o : List ℕ) where
  abbrev cs : List Channel
  cs = records_in o

  -- no table: 12, and the octets stay
  module _ (e : is_table o ≡ false) where
    frame_none : (s : List ℕ) → frame_call spacecraft pool o s ≡ record { number = 12; event = 0; channel = 0; unit = 0; first = 0; count = 0; table = o }
    unfolding frame_call
    frame_none s = rw e

    release_none : (n : ℕ) → release_call spacecraft pool o n ≡ record { number = 12; event = 0; state = o }
    unfolding release_call
    release_none n = rw e

    word_none : (n lent : ℕ) → word_call spacecraft pool o n lent ≡ Outcome.refused 12 0
    unfolding word_call
    word_none n lent = rw e

    no_table_lem : (x : Event) → call_number spacecraft pool o x ≡ 12
    unfolding call_number
    no_table_lem (frame_arrives s lent) = ap (λ (f : Frame). f.number) (frame_none s)
    no_table_lem (release_buffer n) = ap (λ (r : Release). r.number) (release_none n)
    no_table_lem (report_word n room) = ap (λ (w : Outcome (Unit {0})). number_of (answer w)) (word_none n room)

    none_told : (x : Event) → call_told spacecraft pool o x ≡ no_table x
    unfolding call_told
    none_told (frame_arrives s lent) = ap (λ (f : Frame). frame_call_told f s) (frame_none s)
    none_told (release_buffer n) = ap (λ (r : Release). release_call_told r n) (release_none n)
    none_told (report_word n room) = ap word (word_none n room)

    stays_octets : (x : Event) → call_after spacecraft pool o x ≡ o
    unfolding call_after
    stays_octets (frame_arrives s lent) = ap (λ (f : Frame). f.table) (frame_none s)
    stays_octets (release_buffer n) = ap (λ (r : Release). r.state) (release_none n)
    stays_octets (report_word n room) = refl

  module _ (e : is_table o ≡ true) where
    after_call : (x : Event) → call_after spacecraft pool o x ≡ table_octets (after ours spacecraft pool cs x)
    unfolding call_after
    after_call (frame_arrives s lent) = ap (λ (f : Frame). f.table) (frame_is spacecraft pool o e s)
    after_call (release_buffer n) = ap (λ (r : Release). r.state) (release_is_lem spacecraft pool o e n)
    after_call (report_word n room) = sym (table_only o e)

    number_is : (x : Event) → call_number spacecraft pool o x ≡ refusal ours spacecraft pool cs x
    unfolding call_number
    number_is (frame_arrives s lent) = ap (λ (f : Frame). f.number) (frame_is spacecraft pool o e s)
    number_is (release_buffer n) = ap (λ (r : Release). r.number) (release_is_lem spacecraft pool o e n)
    number_is (report_word n room) = ap (λ (w : Outcome (Unit {0})). number_of (answer w)) (word_is spacecraft pool o e n room)

    others_table : (x : Event) (i : ℕ) → (channel_at i o ≡ channel_of x → ⊥) → octets_at i (call_after spacecraft pool o x) ≡ octets_at i o
    others_table x i d =
        ap (octets_at i) (after_call x) ∙ by x (λ c. d (ap (channel_at i) (sym (table_only o e)) ∙ c)) ∙ ap (octets_at i) (table_only o e)
      where
        by : (x : Event) → (channel_at i (table_octets cs) ≡ channel_of x → ⊥) → octets_at i (table_octets (after ours spacecraft pool cs x)) ≡ octets_at i (table_octets cs)
        by (frame_arrives s lent) c = frame_others spacecraft pool cs i s lent c
        by (release_buffer n) c = release_others spacecraft pool cs i n c
        by (report_word n room) c = refl

    refused_table : (x : Event) → (call_number spacecraft pool o x ≡ 0 → ⊥) → call_after spacecraft pool o x ≡ o
    refused_table x d =
        after_call x ∙ ap table_octets ((isolated spacecraft pool cs).refused x (λ z. d (number_is x ∙ z))) ∙ table_only o e

    count_table : (x : Event) → length (call_after spacecraft pool o x) ≡ length o
    count_table x =
        ap length (after_call x) ∙ length_table (after ours spacecraft pool cs x)
        ∙ ap (λ (n : ℕ). n * record_octets) ((isolated spacecraft pool cs).count x) ∙ sym (length_table cs) ∙ ap length (table_only o e)

    leaves_records : (x : Event) → records_in (call_after spacecraft pool o x) ≡ after ours spacecraft pool cs x
    leaves_records x = ap records_in (after_call x) ∙ (table_back (after ours spacecraft pool cs x)).1

    after_is_table : (x : Event) → is_table (call_after spacecraft pool o x) ≡ true
    after_is_table x = ap is_table (after_call x) ∙ (table_back (after ours spacecraft pool cs x)).0

    -- what is told
    numbered_back : (u : Option AcceptedUnit) → unit_numbered (unit_number u) ≡ u
    numbered_back None = refl
    numbered_back (Some AdUnit) = refl
    numbered_back (Some BdUnit) = refl

    part_back : (u : Option AcceptedUnit) (s p : List ℕ) → take (length p) (drop 5 s) ≡ p → take (length (part_for u p)) (drop (unit_place u) s) ≡ part_for u p
    part_back None s p h = refl
    part_back (Some AdUnit) s p h = h
    part_back (Some BdUnit) s p h = h

    tells_records : (x : Event) → call_told spacecraft pool o x ≡ told ours spacecraft pool cs x
    unfolding call_told unit_part
    tells_records (frame_arrives s lent) =
        let t : Turn = frame_turn spacecraft pool cs s in
        ap (λ (f : Frame). frame_call_told f s) (frame_is spacecraft pool o e s)
        ∙ ap₂ (λ (u : Option AcceptedUnit) (p : List ℕ). turn t.refusal t.event t.channel u p) (numbered_back t.unit)
        (part_back t.unit s (part_of s spacecraft (addressed cs s)) (part_taken s spacecraft (addressed cs s)))
    tells_records (release_buffer n) =
        let t : Turn = release_turn spacecraft pool cs n in
        ap (λ (r : Release). release_call_told r n) (release_is_lem spacecraft pool o e n)
        ∙ ap₂ (λ (c : ℕ) (u : Option AcceptedUnit). turn t.refusal t.event c u []) (release_channel_lem spacecraft pool cs n) (sym (release_unit spacecraft pool cs n))
    tells_records (report_word n room) = ap word (word_is spacecraft pool o e n room)

  pub isolated_called : IsolatedCalled spacecraft pool o
  isolated_called = record { others = others (is_table o) refl; count = count (is_table o) refl; refused = refused (is_table o) refl }
    where
      count : (b : Bool) → is_table o ≡ b → (x : Event) → length (call_after spacecraft pool o x) ≡ length o
      count true e x = count_table e x
      count false e x = ap length (stays_octets e x)

      others : (b : Bool) → is_table o ≡ b → (x : Event) (i : ℕ) → (channel_at i o ≡ channel_of x → ⊥) → octets_at i (call_after spacecraft pool o x) ≡ octets_at i o
      others true e x i d = others_table e x i d
      others false e x i d = ap (octets_at i) (stays_octets e x)

      refused : (b : Bool) → is_table o ≡ b → (x : Event) → (call_number spacecraft pool o x ≡ 0 → ⊥) → call_after spacecraft pool o x ≡ o
      refused true e x d = refused_table e x d
      refused false e x d = stays_octets e x

  pub as_records : AsRecords spacecraft pool o
  as_records = record { tells = tells_records; leaves = leaves_records; table = table (is_table o) refl; none = none_told }
    where
      table : (b : Bool) → is_table o ≡ b → (x : Event) → is_table (call_after spacecraft pool o x) ≡ is_table o
      table true e x = after_is_table e x ∙ sym e
      table false e x = ap is_table (stays_octets e x)

-- over any calls, by the records
pub pooled_called : (spacecraft pool : ℕ) (o : List ℕ) → PooledCalled spacecraft pool o
pooled_called spacecraft pool o = record { most = λ es h. by (is_table o) refl es h }
  where
    none : (es : List Event) → is_table o ≡ false → call_after_all spacecraft pool es o ≡ o
    none [] e = refl
    none (x ∷ es) e = ap (call_after_all spacecraft pool es) (stays_octets spacecraft pool o e x) ∙ none es e

    all : (es : List Event) (q : List ℕ) → is_table q ≡ true → records_in (call_after_all spacecraft pool es q) ≡ after_all ours spacecraft pool es (records_in q)
    all [] q e = refl
    all (x ∷ es) q e =
        all es (call_after spacecraft pool q x) (after_is_table spacecraft pool q e x)
        ∙ ap (after_all ours spacecraft pool es) (leaves_records spacecraft pool q e x)

    by : (b : Bool) → is_table o ≡ b → (es : List Event) → held_in (records_in o) ≤ pool → held_in (records_in (call_after_all spacecraft pool es o)) ≤ pool
    by true e es h = subst (λ (cs : List Channel). held_in cs ≤ pool) (sym (all es o e)) ((pooled spacecraft pool (records_in o)).most es h)
    by false e es h = subst (λ (q : List ℕ). held_in (records_in q) ≤ pool) (sym (none es e)) h

-- two calls told apart by neither
module _ (spacecraft pool pool' : ℕ) (o o' : List ℕ) where
  abbrev Same : Event → Type 0
  Same x =
      (call_told spacecraft pool o x ≡ call_told spacecraft pool' o' x)
      × (record_of (channel_of x) (records_in (call_after spacecraft pool o x)) ≡ record_of (channel_of x) (records_in (call_after spacecraft pool' o' x)))

  -- neither is 12, so both are tables, and the events on their records are alike
  same_by : (x : Event) → (call_number spacecraft pool o x ≡ 12 → ⊥) → (call_number spacecraft pool' o' x ≡ 12 → ⊥)
      → ((refusal ours spacecraft pool (records_in o) x ≡ 12 → ⊥) → (refusal ours spacecraft pool' (records_in o') x ≡ 12 → ⊥)
      → Alike ours spacecraft pool pool' (records_in o) (records_in o') x) → Same x
  same_by x d d' k = by (is_table o) (is_table o') refl refl
    where
      by : (b b' : Bool) → is_table o ≡ b → is_table o' ≡ b' → Same x
      by true true e e' =
          let a = k (λ z. d (number_is spacecraft pool o e x ∙ z)) (λ z. d' (number_is spacecraft pool' o' e' x ∙ z)) in (
            tells_records spacecraft pool o e x ∙ a.same ∙ sym (tells_records spacecraft pool' o' e' x),
            ap (record_of (channel_of x)) (leaves_records spacecraft pool o e x) ∙ a.next ∙ ap (record_of (channel_of x)) (sym (leaves_records spacecraft pool' o' e' x)),
          )
      by false b' e e' = absurd (d (no_table_lem spacecraft pool o e x))
      by true false e e' = absurd (d' (no_table_lem spacecraft pool' o' e' x))

  pub reads_called : ReadsCalled spacecraft pool pool' o o'
  reads_called = record {
    own = λ x d d' same room. same_by x d d' (λ f f'. (reads spacecraft pool pool' (records_in o) (records_in o')).own x f f' same room);
    elsewhere = λ x d d' same none. same_by x d d' (λ f f'. (reads spacecraft pool pool' (records_in o) (records_in o')).elsewhere x f f' same none);
  }

-- A new record.
module _ (channel window vr : ℕ) (o : List ℕ) where
  abbrev judged : Bool → Bool → Bool → Called
  judged x y z =
      must x (record { number = 12; state = o }) (must y (record { number = 12; state = o }) (must z (record { number = 11; state = o })
      (record { number = 0; state = octets_of (at_start channel window vr) ++ drop record_octets o })))

  new_refused : (x y z : Bool) → ((judged x y z).number ≡ 0 → ⊥) → (judged x y z).state ≡ o
  new_refused true true true k = absurd (k refl)
  new_refused true true false k = refl
  new_refused true false z k = refl
  new_refused false y z k = refl

  -- done, the record stands in front
  new_done : (x y z : Bool) → (judged x y z).number ≡ 0 → (judged x y z).state ≡ octets_of (at_start channel window vr) ++ drop record_octets o
  new_done true true true k = refl
  new_done true true false k = absurd (omega arith)
  new_done true false z k = absurd (omega arith)
  new_done false y z k = absurd (omega arith)

  pub new_called : NewCalled channel window vr o
  unfolding new_call
  new_called = record {
    refused = new_refused within holds room;
    front = λ k. ap (take record_octets) (new_done within holds room k);
    behind = λ k. ap (drop record_octets) (new_done within holds room k);
    done = λ c even least most v l. rw (
      le-leb vr largest_number v,
      le-leb channel largest_channel c,
      eq-eqb (window % 2) 0 even,
      le-leb 2 window least,
      le-leb window largest_window most,
      le-leb record_octets (length o) l,
    );
  } where
    within : Bool
    within = leb vr largest_number

    holds : Bool
    holds = record_holds (at_start channel window vr)

    room : Bool
    room = leb record_octets (length o)
