-- The receiver by value: that it has at most eight records and that they hold is one test, judged first, 12 where not (`frame_first`, `release_first`,
-- `word_first`); and the unit is the part of the frame that is read for the channel told (`unit_told`).
use Rattle.std.specs.Prelude.{Ok, Err}
use mathlib.Core.Path.{◌≡◌, refl, sym}
use mathlib.Core.Bool.{Bool, true, false}
use mathlib.Core.List.{List}
use Prim.Native.Nat.{ℕ}
use native.Mathlib.Omega.{arith}
use borrow.Author.Tests.{leb-true}
use lib.Dec.{leb}
use lib.ListN.{length, take}
use Rattle.base.specs.Choice.{must, both}
use Rattle.base.specs.Outcome.{Outcome.refused}
use Rattle.clcw.specs.Clcw.{writing}
use Rattle.frame.specs.Answers.{FrameReading, reading_of, part_of}
use Rattle.receiver.specs.Channel.{release_of}
use Rattle.receiver.specs.Receiver.{part_for}
use Rattle.channels.specs.declared.Channels.{Channels}
use Rattle.channels.specs.Limits.{largest_channels}
use Rattle.channels.specs.Table as table
use Rattle.channels.specs.Table.{Turn, is_in, table_holds, has_room, record_of, nothing_of, nothing, addressed, by_reading, frame_turn, by_release, release_turn, word_writing}
use Rattle.channels.specs.Channels.{records_in, frame_turn_of, unit_part, release_turn_of, word_of}
use Rattle.channels.proofs.Told.{nothing_past}

-- what is judged first
abbrev pub first : Channels → Bool
first s = both (leb s.count largest_channels) (table_holds s.spacecraft s.pool (records_in s))

-- the two tests of it as one
first_of : (s : Channels) (a t : Bool) (x : Turn) → leb s.count largest_channels ≡ a → length s.records ≡ largest_channels
    → must a (nothing_of 12 0 s.count) (must t (nothing 12 0 (records_in s)) x) ≡ must (both a t) (nothing_of 12 0 s.count) x
first_of s true true x e all = refl
first_of s true false x e all = sym (nothing_past s 12 0 (omega (arith, all, leb-true s.count largest_channels e)))
first_of s false t x e all = refl

twice : {A : Type 0} (a t : Bool) (r x : A) → must a r (must t r x) ≡ must (both a t) r x
twice true t r x = refl
twice false t r x = refl

module _ (s : Channels) (all : length s.records ≡ largest_channels) where
  pub frame_first : (octets : List ℕ) → frame_turn_of s octets
      ≡ must (first s) (nothing_of 12 0 s.count)
      (by_reading s.pool (records_in s) (addressed (records_in s) octets) (reading_of octets s.spacecraft (addressed (records_in s) octets)))
  unfolding frame_turn_of frame_turn
  frame_first octets = first_of s (leb s.count largest_channels) (table_holds s.spacecraft s.pool (records_in s)) _ refl all

  pub release_first : (n : ℕ) → release_turn_of s n
      ≡ must (first s) (nothing_of 12 0 s.count)
      (must (is_in n (records_in s)) (nothing 7 0 (records_in s))
      (by_release n (records_in s) (release_of (has_room s.pool (records_in s)) (record_of n (records_in s)))))
  unfolding release_turn_of release_turn
  release_first n = first_of s (leb s.count largest_channels) (table_holds s.spacecraft s.pool (records_in s)) _ refl all

pub word_first : (s : Channels) (n lent : ℕ) → word_of s n lent
    ≡ must (first s) (refused 12 0) (must (is_in n (records_in s)) (refused 7 0) (writing (table.word_of (record_of n (records_in s))) lent))
unfolding word_of word_writing
word_first s n lent = twice (leb s.count largest_channels) (table_holds s.spacecraft s.pool (records_in s)) (refused 12 0) _

pub unit_told : (s : Channels) (octets : List ℕ)
    → part_for (frame_turn_of s octets).unit (part_of octets s.spacecraft (frame_turn_of s octets).channel) ≡ unit_part s octets
unfolding frame_turn_of frame_turn unit_part table.unit_part
unit_told s octets = go (leb s.count largest_channels) (table_holds s.spacecraft s.pool (records_in s)) (reading_of octets s.spacecraft m)
  where
    m : ℕ
    m = addressed (records_in s) octets

    turn : Bool → FrameReading → Turn
    turn t reading = must t (nothing 12 0 (records_in s)) (by_reading s.pool (records_in s) m reading)

    go : (a t : Bool) (reading : FrameReading)
        → part_for (must a (nothing_of 12 0 s.count) (turn t reading)).unit (part_of octets s.spacecraft (must a (nothing_of 12 0 s.count) (turn t reading)).channel)
        ≡ must a (take 0 octets) (part_for (turn t reading).unit (part_of octets s.spacecraft m))
    go true true (Ok fields) = refl
    go true true (Err refusal) = refl
    go true false reading = refl
    go false t reading = refl
