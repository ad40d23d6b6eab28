-- The receiver of several channels by value is tied to the records' definitions (`value_tied`): its array has its records in front, and a table that is
-- not refused has no more than eight.
use Prim.Native.Nat.{ℕ, ◌≤◌}
use mathlib.Core.Path.{◌≡◌, refl, sym, ap, ap₂, subst, ◌∙◌}
use mathlib.Core.Bool.{true}
use mathlib.Core.List.{List, [], ◌++◌}
use native.Mathlib.Omega.{arith}
use borrow.Author.Tests.{le-leb, leb-true}
use lib.Dec.{leb}
use lib.ListN.{length, replicate, take, drop, length-append, length-set, length-drop}
use lib.Seq.{take-append_seam, length-take-le}
use Rattle.base.specs.Limits.{largest_spacecraft}
use Rattle.base.proofs.Tests.{both_left, both_right}
use Rattle.receiver.specs.declared.Channel.{Channel}
use Rattle.session.specs.Receiver.{word_told}
use Rattle.session.specs.Ends.{Settings}
use Rattle.channels.specs.declared.Channels.{Channels}
use Rattle.channels.specs.Table.{Turn, table_holds, records_after, frame_turn, release_turn, word_writing}
use Rattle.channels.specs.Channels.{Turned, records_in, with_records, told, receive_of, unit_part, release_of, word_of}
use Rattle.channels.specs.Limits.{largest_channels, largest_pool}
use Rattle.channels.specs.Table as table
use Rattle.channel_session.specs.Ends.{Pool, Begins, TableEvent, frame, release, table_next, table_answer}
use Rattle.channel_session.proofs.Trace as example
use Rattle.called_channels.specs.Ours.{answer_by, told_value, AsValue, value_answer, value_next, by_value, BeginsValue}
use Rattle.called_channels.proofs.Ends.{TiedSeveral}

-- a table that is not refused has no more than eight records
holds_few : (spacecraft pool : ℕ) (cs : List Channel) → table_holds spacecraft pool cs ≡ true → length cs ≤ largest_channels
unfolding table_holds
holds_few spacecraft pool cs h =
    let a = both_right (leb pool largest_pool) _ (both_right (leb 1 pool) _ (both_right (leb spacecraft largest_spacecraft) _ h)) in
    leb-true (length cs) largest_channels (both_left (leb (length cs) largest_channels) _ a)

-- a receiver of these settings, its records in its array
record Good (set : Settings) (pool : Pool) (r : Channels) : Type 0 where
  pub spacecraft : r.spacecraft ≡ set.own.spacecraft
  pub size : r.pool ≡ pool.size
  pub in_array : r.count ≤ length r.records
  pub few : r.count ≤ largest_channels

-- with as many other records it has these, and its array is as long
module _ (r : Channels) (cs : List Channel) (h : r.count ≤ length r.records) (l : length cs ≡ r.count) where
  with_back : records_in (with_records cs r) ≡ cs
  with_back = ap (λ (n : ℕ). take n (cs ++ drop r.count r.records)) (sym l) ∙ take-append_seam cs (drop r.count r.records)

  with_length : length (with_records cs r).records ≡ length r.records
  with_length = length-append cs (drop r.count r.records) ∙ omega (arith, l, length-drop r.count r.records, h)

-- Where there are no more than eight, each event by the records.
module _ (r : Channels) (few : r.count ≤ largest_channels) where
  judged_few : leb r.count largest_channels ≡ true
  judged_few = le-leb r.count largest_channels few

  received_as : (s : List ℕ) → receive_of r s ≡ told (frame_turn r.spacecraft r.pool (records_in r) s) r
  unfolding receive_of
  received_as s = rw judged_few

  part_as : (s : List ℕ) → unit_part r s ≡ table.unit_part r.spacecraft r.pool (records_in r) s
  unfolding unit_part
  part_as s = rw judged_few

  released_as : (n : ℕ) → release_of r n ≡ told (release_turn r.spacecraft r.pool (records_in r) n) r
  unfolding release_of
  released_as n = rw judged_few

module _ (set : Settings) (pool : Pool) (r : Channels) (g : Good set pool r) where
  abbrev spacecraft : ℕ
  spacecraft = set.own.spacecraft

  -- each event by the records
  receive_is : (s : List ℕ) → receive_of r s ≡ told (frame_turn spacecraft pool.size (records_in r) s) r
  receive_is s = received_as r g.few s ∙ ap₂ (λ (x y : ℕ). told (frame_turn x y (records_in r) s) r) g.spacecraft g.size

  unit_is : (s : List ℕ) → unit_part r s ≡ table.unit_part spacecraft pool.size (records_in r) s
  unit_is s = part_as r g.few s ∙ ap₂ (λ (x y : ℕ). table.unit_part x y (records_in r) s) g.spacecraft g.size

  release_is_lem : (n : ℕ) → release_of r n ≡ told (release_turn spacecraft pool.size (records_in r) n) r
  release_is_lem n = released_as r g.few n ∙ ap₂ (λ (x y : ℕ). told (release_turn x y (records_in r) n) r) g.spacecraft g.size

  word_is : (n lent : ℕ) → word_of r n lent ≡ word_writing spacecraft pool.size (records_in r) n lent
  unfolding word_of
  word_is n lent = rw (judged_few r g.few, g.spacecraft, g.size)

  -- the turn of an event
  abbrev turn_of : TableEvent → Turn
  turn_of (frame s) = frame_turn spacecraft pool.size (records_in r) s
  turn_of (release n) = release_turn spacecraft pool.size (records_in r) n

  after_is : (e : TableEvent) → value_next e r ≡ with_records (records_after (turn_of e) (records_in r)) r
  unfolding value_next
  after_is (frame s) = ap (λ (t : Turned). t.next) (receive_is s)
  after_is (release n) = ap (λ (t : Turned). t.next) (release_is_lem n)

  as_many : (t : Turn) → length (records_after t (records_in r)) ≡ r.count
  as_many t = length-set (records_in r) t.place t.next ∙ length-take-le r.count r.records g.in_array

  next_good : (e : TableEvent) → Good set pool (value_next e r)
  next_good e =
      subst (Good set pool) (sym (after_is e)) (record {
        spacecraft = g.spacecraft;
        size = g.size;
        in_array = omega (arith, with_length r (records_after (turn_of e) (records_in r)) g.in_array (as_many (turn_of e)), g.in_array);
        few = g.few;
      })

  next_is : (e : TableEvent) → records_in (value_next e r) ≡ table_next set pool e (records_in r)
  next_is (frame s) = ap records_in (after_is (frame s)) ∙ with_back r _ g.in_array (as_many (turn_of (frame s)))
  next_is (release n) = ap records_in (after_is (release n)) ∙ with_back r _ g.in_array (as_many (turn_of (release n)))

  answer_is : (e : TableEvent) → value_answer e r ≡ table_answer set pool e (records_in r)
  unfolding value_answer
  answer_is (frame s) = ap₂ answer_by (receive_is s) (unit_is s)
  answer_is (release n) = ap (λ (t : Turned). answer_by t []) (release_is_lem n)

-- its records are those of the session's start, of which there are no more than eight
pub value_tied : (set : Settings) (pool : Pool) → Begins set pool → (r : Channels) → BeginsValue set pool r → TiedSeveral set pool (by_value r)
value_tied set pool b r v = record {
  records = records_in;
  Good = Good set pool;
  good = record { spacecraft = v.spacecraft; size = v.size; in_array = v.in_array; few = few };
  keeps = λ e x g. next_good set pool x g e;
  start = v.records;
  next = λ e x g. next_is set pool x g e;
  answer = λ e x g. answer_is set pool x g e;
  word = λ n lent x g. ap word_told (word_is set pool x g n lent);
} where
  few : r.count ≤ largest_channels
  few = omega (arith, holds_few set.own.spacecraft pool.size pool.records b.holds, ap length v.records, length-take-le r.count r.records v.in_array)

-- An event by value is the event on the records.
module _ (r : Channels) where
  next_records_lem : r.count ≤ length r.records → (t : Turn) → records_in (told t r).next ≡ records_after t (records_in r)
  next_records_lem h t =
      with_back r (records_after t (records_in r)) h (length-set (records_in r) t.place t.next ∙ length-take-le r.count r.records h)

  pub as_value : AsValue r
  as_value = record {
    frame_tells = λ few s o. ap₂ told_value (received_as r few s) (part_as r few s);
    release_tells = λ few n. ap (λ (t : Turned). told_value t []) (released_as r few n);
    frame_leaves = λ few h s o. ap (λ (t : Turned). records_in t.next) (received_as r few s) ∙ next_records_lem h (frame_turn r.spacecraft r.pool (records_in r) s);
    release_leaves = λ few h n. ap (λ (t : Turned). records_in t.next) (released_as r few n) ∙ next_records_lem h (release_turn r.spacecraft r.pool (records_in r) n);
  }

-- A receiver by value at the start of crate channel_session's example.
abbrev begins : Channels
begins = record {
  spacecraft = (example.set).own.spacecraft;
  pool = (example.pool).size;
  count = 2;
  records = (example.pool).records ++ replicate 6 table.no_record;
}

pub value_met : BeginsValue example.set example.pool begins
value_met = record { spacecraft = refl; size = refl; in_array = omega arith; records = refl }
