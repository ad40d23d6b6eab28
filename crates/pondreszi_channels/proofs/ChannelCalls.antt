-- What a call of the receiver of several channels comes to, by what its functions by value answered: numbers beyond a limit are judged alike, so those
-- handed on in fewer bits answer as those given (crate pondreszi_numbers); and the record that is put at its place leaves the table of the records after
-- the event.
use Rattle.std.specs.Prelude.{None, Result, Ok, Err}
use mathlib.Core.Path.{◌≡◌, refl, sym, ap, ap₂, ◌∙◌}
use mathlib.Core.Bool.{Bool, true, false}
use mathlib.Core.List.{List, [], ◌∷◌, ◌++◌}
use Prim.Native.Nat.{ℕ, suc, ◌*◌, ◌%◌, ◌≤◌, ◌<◌}
use native.Mathlib.Omega.{arith}
use borrow.Author.Tests.{le-leb, lt-leb, leb-true, ne_eqb, eqb-true, eqb-false}
use lib.Dec.{leb, eqb}
use lib.ListN.{length, drop}
use lib.Seq.{set_out}
use Rattle.base.specs.Choice.{pick, must}
use Rattle.base.specs.Limits.{largest_spacecraft, largest_channel}
use Rattle.base.specs.Outcome.{Outcome.refused}
use Rattle.base.specs.Refusals.{refusal_number, refusal_place}
use Rattle.base.specs.declared.Refusal.{Refusal}
use Rattle.base.specs.declared.Refusal.TheVariants.{Setting}
use Rattle.base.proofs.Tests.{both_false, both_left, both_right}
use Rattle.memory.specs.Placed.{placed}
use Rattle.memory.proofs.Laws.{placed_front}
use Rattle.frame.specs.Frame.{refusal_of}
use Rattle.frame.specs.Answers.{FrameReading, reading_of}
use Rattle.farm.specs.Table.{event_number}
use Rattle.frame.proofs.Accepted.{reading_refused}
use Rattle.clcw.specs.Clcw.{writing}
use Rattle.fop.specs.Limits.{largest_number}
use Rattle.receiver.specs.declared.Channel.{Channel}
use Rattle.receiver.specs.Channel.{release_of}
use Rattle.channels.specs.declared.Channels.{Channels}
use Rattle.channels.specs.declared.Change.{Change}
use Rattle.channels.specs.declared.Refused.{Refused}
use Rattle.channels.specs.Limits.{largest_pool}
use Rattle.channels.specs.Table.{Turn, is_in, record_of, record_holds, all_hold, table_holds, has_room, no_record, turn_of, number_or_none, nothing, addressed, by_reading, by_release, frame_turn, unit_part, release_turn, word_writing}
use Rattle.channels.specs.Table as table
use Rattle.channels.specs.Channels.{frame_turn_of, release_turn_of, word_of}
use Rattle.channels.proofs.Kept.{within}
use Rattle.channel_table.specs.Taken.{taken_of}
use Rattle.channel_table.proofs.ByValue.{frame_taken, release_taken, word_taken}
use Rattle.channel_octets.specs.Kept.{record_octets, octets_of, table_octets, records_in, is_table}
use Rattle.channel_octets.proofs.Back.{table_only}
use Rattle.channel_octets.proofs.Put.{put_record}
use Rattle.pondreszi_numbers.specs.Numbers.{largest_octet, largest_pair, narrow}
use Rattle.pondreszi_numbers.proofs.Narrowed.{Alike, beyond, checked}
use Rattle.pondreszi_receiver.specs.Receivers.{Called, unit_number, unit_place, unit_count}
use Rattle.pondreszi_receiver.proofs.Counted.{unit_counted}
use Rattle.pondreszi_channels.specs.Channels.{at_start, start_given, taking, new_call, received, table_after, frame_call, released_by, release_call, word_call}

-- Numbers beyond a limit.

-- 12 for a spacecraft or a pool beyond
spacecraft_beyond : (pool : ℕ) (cs : List Channel) (y : ℕ) → largest_spacecraft < y → table_holds y pool cs ≡ false
unfolding table_holds
spacecraft_beyond pool cs y h = rw (lt-leb y largest_spacecraft h)

pool_beyond : (spacecraft : ℕ) (cs : List Channel) (y : ℕ) → largest_pool < y → table_holds spacecraft y cs ≡ false
unfolding table_holds
pool_beyond spacecraft cs y h = rw (lt-leb y largest_pool h, both_false (leb 1 y), both_false (leb spacecraft largest_spacecraft))

-- what is judged first, then the rest: neither number is told apart beyond its limit
module _ {A : Type 0} (refusal : A) (rest : ℕ → ℕ → A) (cs : List Channel) where
  abbrev judged : ℕ → ℕ → A
  judged s p = must (table_holds s p cs) refusal (rest s p)

  judged_narrowed : (s p : ℕ) → judged (narrow largest_pair (suc largest_spacecraft) s) (narrow largest_octet largest_octet p) ≡ judged s p
  judged_narrowed s p =
      beyond (λ x. judged x (narrow largest_octet largest_octet p)) largest_spacecraft largest_pair (suc largest_spacecraft) s
      (λ y z h k. rw (spacecraft_beyond (narrow largest_octet largest_octet p) cs y h, spacecraft_beyond (narrow largest_octet largest_octet p) cs z k))
      (omega arith) (omega arith) refl
      ∙ beyond (λ x. judged s x) largest_pool largest_octet largest_octet p (λ y z h k. rw (pool_beyond s cs y h, pool_beyond s cs z k)) (omega arith) (omega arith) refl

-- a record is for none of the channels beyond
absent_beyond : (cs : List Channel) (y : ℕ) → all_hold cs ≡ true → largest_channel < y → is_in y cs ≡ false
absent_beyond [] y e h = refl
absent_beyond (c ∷ cs) y e h =
    let low = leb-true c.number largest_channel (both_left (leb c.number largest_channel) _ (both_left (record_holds c) (all_hold cs) e)) in
    rw (ne_eqb c.number y (omega arith)) (absent_beyond cs y (both_right (record_holds c) (all_hold cs) e) h)

-- a channel that is named, then the rest: 12, then 7
module _ {A : Type 0} (first absent : A) (rest : ℕ → A) (spacecraft pool : ℕ) (cs : List Channel) where
  abbrev named : ℕ → A
  named n = must (table_holds spacecraft pool cs) first (must (is_in n cs) absent (rest n))

  named_narrowed : (n : ℕ) → named (narrow largest_octet (suc largest_channel) n) ≡ named n
  named_narrowed n = beyond named largest_channel largest_octet (suc largest_channel) n alike (omega arith) (omega arith) refl
    where
      alike : Alike largest_channel named
      alike y z h k =
          checked (table_holds spacecraft pool cs) first _ _
          (λ e. rw (absent_beyond cs y (within spacecraft pool cs e).all h, absent_beyond cs z (within spacecraft pool cs e).all k))

-- the numbers handed on
abbrev own_spacecraft : ℕ → ℕ
own_spacecraft spacecraft = narrow largest_pair (suc largest_spacecraft) spacecraft

abbrev own_pool : ℕ → ℕ
own_pool pool = narrow largest_octet largest_octet pool

abbrev own_channel : ℕ → ℕ
own_channel channel = narrow largest_octet (suc largest_channel) channel

-- the receiver by value that a call has
abbrev pub receiver_of : ℕ → ℕ → List Channel → Channels
receiver_of spacecraft pool cs = taken_of (own_spacecraft spacecraft) (own_pool pool) cs

module _ (spacecraft pool : ℕ) (cs : List Channel) where
  frame_given : (frame : List ℕ) → frame_turn_of (receiver_of spacecraft pool cs) frame ≡ frame_turn spacecraft pool cs frame
  unfolding frame_turn
  frame_given frame =
      frame_taken (own_spacecraft spacecraft) (own_pool pool) cs frame
      ∙ judged_narrowed (nothing 12 0 cs) (λ s p. by_reading p cs (addressed cs frame) (reading_of frame s (addressed cs frame))) cs spacecraft pool

  release_given : (channel : ℕ) → release_turn_of (receiver_of spacecraft pool cs) (own_channel channel) ≡ release_turn spacecraft pool cs channel
  unfolding release_turn
  release_given channel =
      release_taken (own_spacecraft spacecraft) (own_pool pool) cs (own_channel channel)
      ∙ judged_narrowed (nothing 12 0 cs)
      (λ s p. must (is_in (own_channel channel) cs) (nothing 7 0 cs) (by_release (own_channel channel) cs (release_of (has_room p cs) (record_of (own_channel channel) cs))))
      cs spacecraft pool
      ∙ named_narrowed (nothing 12 0 cs) (nothing 7 0 cs) (λ n. by_release n cs (release_of (has_room pool cs) (record_of n cs))) spacecraft pool cs channel

  word_given_lem : (channel lent : ℕ) → word_of (receiver_of spacecraft pool cs) (own_channel channel) lent ≡ word_writing spacecraft pool cs channel lent
  unfolding word_writing
  word_given_lem channel lent =
      word_taken (own_spacecraft spacecraft) (own_pool pool) cs (own_channel channel) lent
      ∙ judged_narrowed (refused 12 0) (λ s p. must (is_in (own_channel channel) cs) (refused 7 0) (writing (table.word_of (record_of (own_channel channel) cs)) lent)) cs
      spacecraft pool
      ∙ named_narrowed (refused 12 0) (refused 7 0) (λ n. writing (table.word_of (record_of n cs)) lent) spacecraft pool cs channel

  -- a unit is accepted only of a frame that is not refused
  not_refused : (frame : List ℕ) → ((frame_turn spacecraft pool cs frame).unit ≡ None → ⊥) → refusal_of frame spacecraft (addressed cs frame) ≡ 0
  unfolding frame_turn
  not_refused frame h = go (table_holds spacecraft pool cs) refl h (eqb (refusal_of frame spacecraft (addressed cs frame)) 0) refl
    where
      go : (b : Bool) → table_holds spacecraft pool cs ≡ b
          → ((must b (nothing 12 0 cs) (by_reading pool cs (addressed cs frame) (reading_of frame spacecraft (addressed cs frame)))).unit ≡ None → ⊥)
          → (d : Bool) → eqb (refusal_of frame spacecraft (addressed cs frame)) 0 ≡ d → refusal_of frame spacecraft (addressed cs frame) ≡ 0
      go b e k true f = eqb-true _ 0 f
      go false e k false f = absurd (k refl)
      go true e k false f =
          absurd (k (ap (λ (x : FrameReading). (by_reading pool cs (addressed cs frame) x).unit) (reading_refused frame spacecraft (addressed cs frame) (eqb-false _ 0 f)).0))

  pub frame_count : (frame : List ℕ) {t : Turn} {n : ℕ} → t ≡ frame_turn spacecraft pool cs frame → n ≡ unit_count t.unit frame
      → n ≡ length (unit_part spacecraft pool cs frame)
  unfolding unit_part
  frame_count frame e h =
      h ∙ ap (λ (x : Turn). unit_count x.unit frame) e ∙ unit_counted frame spacecraft (addressed cs frame) (frame_turn spacecraft pool cs frame).unit (not_refused frame)

-- The calls.
module _ (spacecraft pool : ℕ) (o : List ℕ) {start : Result Channels Refusal} (e : start ≡ taking spacecraft pool o) where
  -- octets that are no table are refused by 12
  module _ {refusal : Refusal} (p : start ≡ Err refusal) where
    no_table : (is_table o ≡ false) × (refusal ≡ Setting)
    unfolding taking
    no_table = go (is_table o) (sym e ∙ p)
      where
        go : (b : Bool) → must b (Err Setting) (Ok (receiver_of spacecraft pool (records_in o))) ≡ Err refusal → (b ≡ false) × (refusal ≡ Setting)
        go true q =
            let z : ◌≡◌ {A = ℕ} 0 1 = cc in
            absurd (omega arith)
        go false q =
            let z : Setting ≡ refusal = cc in
            (refl, sym z)

    pub frame_refused_lem : (frame : List ℕ)
        → frame_call spacecraft pool o frame ≡ record { number = refusal_number refusal; event = 0; channel = 0; unit = 0; first = 0; count = 0; table = o }
    unfolding frame_call
    frame_refused_lem frame =
        rw (no_table.0, no_table.1)

    pub release_refused : (channel : ℕ) → release_call spacecraft pool o channel ≡ record { number = refusal_number refusal; event = 0; state = o }
    unfolding release_call
    release_refused channel = rw (no_table.0, no_table.1)

    pub word_refused : (channel lent : ℕ) → word_call spacecraft pool o channel lent ≡ refused (refusal_number refusal) (refusal_place refusal)
    unfolding word_call
    word_refused channel lent = rw (no_table.0, no_table.1)

  -- a table meets the event by value
  module _ {r : Channels} (p : start ≡ Ok r) where
    held : (is_table o ≡ true) × (r ≡ receiver_of spacecraft pool (records_in o))
    unfolding taking
    held = go (is_table o) (sym e ∙ p)
      where
        go : (b : Bool) → must b (Err Setting) (Ok (receiver_of spacecraft pool (records_in o))) ≡ Ok r
            → (b ≡ true) × (r ≡ receiver_of spacecraft pool (records_in o))
        go true q =
            let z : receiver_of spacecraft pool (records_in o) ≡ r = cc in
            (refl, sym z)
        go false q =
            let z : ◌≡◌ {A = ℕ} 0 1 = cc in
            absurd (omega arith)

    -- the record that changes is put at its place
    table_kept : (change : Change) → table_after (turn_of r.count (Ok change)) o ≡ placed o (change.place * record_octets) (octets_of change.next)
    table_kept change = sym (put_record o change.place change.next held.0)

    -- what is refused has no place in the table
    table_stays : (nothing_done : Refused) → table_after (turn_of r.count (Err nothing_done)) o ≡ o
    table_stays nothing_done =
        ap table_octets (set_out (records_in o) r.count no_record (omega (arith, ap (λ (x : Channels). x.count) held.1))) ∙ table_only o held.0

    module _ (frame : List ℕ) (turn : Result Change Refused) (f : turn_of r.count turn ≡ frame_turn_of r frame) where
      frame_is : turn_of r.count turn ≡ frame_turn spacecraft pool (records_in o) frame
      frame_is = f ∙ ap (λ (x : Channels). frame_turn_of x frame) held.1 ∙ frame_given spacecraft pool (records_in o) frame

      frame_met : frame_call spacecraft pool o frame ≡ received (turn_of r.count turn) (unit_part spacecraft pool (records_in o) frame) o
      unfolding frame_call
      frame_met = rw held.0 (ap (λ (x : Turn). received x (unit_part spacecraft pool (records_in o) frame) o) (sym frame_is))

      unit_length : {t : Turn} → t ≡ turn_of r.count turn → length (unit_part spacecraft pool (records_in o) frame) ≡ unit_count t.unit frame
      unit_length e = sym (frame_count spacecraft pool (records_in o) frame (e ∙ frame_is) refl)

      pub frame_done : {change : Change} → turn ≡ Ok change
          → frame_call spacecraft pool o frame
          ≡ record {
            number = 0;
            event = event_number change.event;
            channel = change.channel;
            unit = unit_number change.unit;
            first = unit_place change.unit;
            count = unit_count change.unit frame;
            table = placed o (change.place * record_octets) (octets_of change.next);
          }
      frame_done {change} is =
          frame_met ∙ ap (λ (x : Result Change Refused). received (turn_of r.count x) (unit_part spacecraft pool (records_in o) frame) o) is
          ∙ ap₂ (λ (n : ℕ) (l : List ℕ). record {
            number = 0;
            event = event_number change.event;
            channel = change.channel;
            unit = unit_number change.unit;
            first = unit_place change.unit;
            count = n;
            table = l;
          }) (unit_length (ap (turn_of r.count) (sym is))) (table_kept change)

      pub frame_not : {nothing_done : Refused} → turn ≡ Err nothing_done
          → frame_call spacecraft pool o frame
          ≡ record {
            number = refusal_number nothing_done.refusal;
            event = number_or_none nothing_done.event;
            channel = 0;
            unit = 0;
            first = 0;
            count = 0;
            table = o;
          }
      frame_not {nothing_done} is =
          frame_met ∙ ap (λ (x : Result Change Refused). received (turn_of r.count x) (unit_part spacecraft pool (records_in o) frame) o) is
          ∙ ap₂ (λ (n : ℕ) (l : List ℕ). record {
            number = refusal_number nothing_done.refusal;
            event = number_or_none nothing_done.event;
            channel = 0;
            unit = 0;
            first = 0;
            count = n;
            table = l;
          }) (unit_length (ap (turn_of r.count) (sym is))) (table_stays nothing_done)

    module _ (channel : ℕ) {own : ℕ} (n : own ≡ own_channel channel) where
      module _ (turn : Result Change Refused) (f : turn_of r.count turn ≡ release_turn_of r own) where
        release_met : release_call spacecraft pool o channel ≡ released_by (turn_of r.count turn) o
        unfolding release_call
        release_met =
            rw held.0
            (ap (λ (x : Turn). released_by x o)
            (sym (f ∙ ap₂ (λ (x : Channels) (k : ℕ). release_turn_of x k) held.1 n ∙ release_given spacecraft pool (records_in o) channel)))

        pub release_done : {change : Change} → turn ≡ Ok change
            → release_call spacecraft pool o channel
            ≡ record { number = 0; event = event_number change.event; state = placed o (change.place * record_octets) (octets_of change.next) }
        release_done {change} is =
            release_met ∙ ap (λ (x : Result Change Refused). released_by (turn_of r.count x) o) is
            ∙ ap (λ (l : List ℕ). record { number = 0; event = event_number change.event; state = l }) (table_kept change)

        pub release_not : {nothing_done : Refused} → turn ≡ Err nothing_done
            → release_call spacecraft pool o channel ≡ record { number = refusal_number nothing_done.refusal; event = number_or_none nothing_done.event; state = o }
        release_not {nothing_done} is =
            release_met ∙ ap (λ (x : Result Change Refused). released_by (turn_of r.count x) o) is
            ∙ ap (λ (l : List ℕ). record { number = refusal_number nothing_done.refusal; event = number_or_none nothing_done.event; state = l }) (table_stays nothing_done)

      pub word_met : (lent : ℕ) → word_of r own lent ≡ word_call spacecraft pool o channel lent
      unfolding word_call
      word_met lent = ap₂ (λ (x : Channels) (k : ℕ). word_of x k lent) held.1 n ∙ word_given_lem spacecraft pool (records_in o) channel lent ∙ rw held.0

-- A new record.

-- a number that is within a limit when narrowed is the one given
narrow_within : (limit most other x : ℕ) → limit < other → narrow most other x ≤ limit → narrow most other x ≡ x
narrow_within limit most other x h k = go (leb x most) k
  where
    go : (b : Bool) → pick b x other ≤ limit → pick b x other ≡ x
    go true l = refl
    go false l = absurd (omega arith)

module _ (channel window vr : ℕ) where
  -- beyond the limits no two numbers are told apart
  start_given_lem : (own width : ℕ) → own ≡ own_channel channel → width ≡ narrow largest_octet largest_octet window
      → record_holds (at_start own width vr) ≡ record_holds (at_start channel window vr)
  start_given_lem own width p q =
      beyond (λ x. record_holds (at_start x width vr)) largest_channel largest_octet (suc largest_channel) channel
      (λ y z h k. rw (lt-leb y largest_channel h, lt-leb z largest_channel k)) (omega arith) (omega arith) p
      ∙ beyond (λ x. record_holds (at_start channel x vr)) 254 largest_octet largest_octet window
      (λ y z h k. window_beyond y h ∙ sym (window_beyond z k)) (omega arith) (omega arith) q
    where
      window_beyond : (y : ℕ) → 254 < y → record_holds (at_start channel y vr) ≡ false
      window_beyond y h = rw (lt-leb y 254 h, both_false (leb 2 y), both_false (eqb (y % 2) 0), both_false (leb channel largest_channel))

  -- the same answer to the numbers handed on
  pub vr_beyond : largest_number < vr → Err Setting ≡ start_given channel window vr
  unfolding start_given
  vr_beyond h = rw (lt-leb vr largest_number h)

  module _ (h : vr ≤ largest_number) {own width : ℕ} (p : own ≡ own_channel channel) (q : width ≡ narrow largest_octet largest_octet window) where
    pub start_refused_lem : record_holds (at_start own width vr) ≡ false → Err Setting ≡ start_given channel window vr
    unfolding start_given
    start_refused_lem e = rw (le-leb vr largest_number h, sym (start_given_lem own width p q) ∙ e)

    -- a record that holds has the numbers given: neither was beyond
    pub start_kept_lem : record_holds (at_start own width vr) ≡ true → Ok (at_start own width vr) ≡ start_given channel window vr
    unfolding start_given
    start_kept_lem e =
        let a = leb-true own largest_channel (both_left (leb own largest_channel) _ e) in
        let d = both_right (leb 2 width) _ (both_right (eqb (width % 2) 0) _ (both_right (leb own largest_channel) _ e)) in
        let w = leb-true width 254 (both_left (leb width 254) _ d) in
        let own_is : own ≡ channel = p ∙ narrow_within largest_channel largest_octet (suc largest_channel) channel (omega arith) (omega (arith, p)) in
        let width_is : width ≡ window = q ∙ narrow_within 254 largest_octet largest_octet window (omega arith) (omega (arith, q)) in
        rw (le-leb vr largest_number h, sym (start_given_lem own width p q) ∙ e) (ap₂ (λ (x y : ℕ). Ok (at_start x y vr)) own_is width_is)

-- a call by what the start came to
module _ (channel window vr : ℕ) (old : List ℕ) {start : Result Channel Refusal} (e : start ≡ start_given channel window vr) where
  abbrev starting : Result Channel Refusal → Called
  starting (Ok c) =
      must (leb record_octets (length old)) (record { number = 11; state = old }) (record { number = 0; state = octets_of c ++ drop record_octets old })
  starting (Err refusal) = record { number = refusal_number refusal; state = old }

  new_is : new_call channel window vr old ≡ starting start
  unfolding new_call start_given
  new_is = go (leb vr largest_number) (record_holds (at_start channel window vr)) ∙ sym (ap starting e)
    where
      go : (x y : Bool)
          → must x (record { number = 12; state = old })
          (must y (record { number = 12; state = old })
          (must (leb record_octets (length old)) (record { number = 11; state = old })
          (record { number = 0; state = octets_of (at_start channel window vr) ++ drop record_octets old })))
          ≡ starting (must x (Err Setting) (must y (Err Setting) (Ok (at_start channel window vr))))
      go true true = refl
      go true false = refl
      go false y = refl

  pub new_setting : {refusal : Refusal} → start ≡ Err refusal → new_call channel window vr old ≡ record { number = refusal_number refusal; state = old }
  new_setting p = new_is ∙ ap starting p

  module _ {c : Channel} (p : start ≡ Ok c) where
    pub new_short : length old < record_octets → new_call channel window vr old ≡ record { number = 11; state = old }
    new_short l = new_is ∙ ap starting p ∙ rw (lt-leb record_octets (length old) l)

    pub new_kept_lem : record_octets ≤ length old → new_call channel window vr old ≡ record { number = 0; state = placed old (0 * record_octets) (octets_of c) }
    new_kept_lem l =
        new_is ∙ ap starting p
        ∙ rw (le-leb record_octets (length old) l) (ap (λ (x : List ℕ). record { number = 0; state = x }) (sym (placed_front old (octets_of c) l)))
