-- The receiver that is taken of a lent table answers as the table does (channels/specs/Table), for any count of records.
use mathlib.Core.Path.{◌≡◌, refl, ap, ◌∙◌}
use mathlib.Core.Bool.{Bool, true, false}
use mathlib.Core.List.{List, ◌++◌}
use Prim.Native.Nat.{ℕ}
use lib.Dec.{leb}
use lib.ListN.{length, take, drop}
use lib.Seq.{take-length, take-append_seam}
use Rattle.base.specs.Choice.{must}
use Rattle.base.specs.Limits.{largest_spacecraft}
use Rattle.base.proofs.Tests.{both_false}
use Rattle.receiver.specs.declared.Channel.{Channel}
use Rattle.channels.specs.Limits.{largest_channels, largest_pool}
use Rattle.channels.specs.Table.{table_holds, frame_turn, release_turn, unit_part, word_writing}
use Rattle.channels.specs.Channels as by_value
use Rattle.channels.specs.Channels.{records_in, frame_turn_of, release_turn_of, word_of}
use Rattle.channel_table.specs.Taken.{no_records, taken_of}

-- up to eight records are all taken
records_taken : (spacecraft pool : ℕ) (cs : List Channel) → leb (length cs) largest_channels ≡ true → records_in (taken_of spacecraft pool cs) ≡ cs
records_taken spacecraft pool cs e = rw e (ap (λ (ds : List Channel). take (length cs) (ds ++ drop (length cs) no_records)) (take-length cs) ∙ take-append_seam cs (drop (length cs) no_records))

-- "Over eight records .. are 12"
over_eight : (spacecraft pool : ℕ) (cs : List Channel) → leb (length cs) largest_channels ≡ false → table_holds spacecraft pool cs ≡ false
unfolding table_holds
over_eight spacecraft pool cs e = rw (e, both_false (leb pool largest_pool), both_false (leb 1 pool), both_false (leb spacecraft largest_spacecraft))

-- by value or lent, for up to eight records and for more
by_count : {A : Type 0} (spacecraft pool : ℕ) (cs : List Channel) (over : A) (f : List Channel → A) (b : Bool) → leb (length cs) largest_channels ≡ b
    → (b ≡ false → over ≡ f cs)
    → must b over (f (records_in (taken_of spacecraft pool cs))) ≡ f cs
by_count spacecraft pool cs over f true e more = ap f (records_taken spacecraft pool cs e)
by_count spacecraft pool cs over f false e more = more refl

pub frame_taken : (spacecraft pool : ℕ) (cs : List Channel) (octets : List ℕ)
    → frame_turn_of (taken_of spacecraft pool cs) octets ≡ frame_turn spacecraft pool cs octets
unfolding frame_turn_of frame_turn
frame_taken spacecraft pool cs octets =
    by_count spacecraft pool cs _ (λ ds. frame_turn spacecraft pool ds octets) (leb (length cs) largest_channels) refl
    (λ e. rw (over_eight spacecraft pool cs e))

pub release_taken : (spacecraft pool : ℕ) (cs : List Channel) (n : ℕ)
    → release_turn_of (taken_of spacecraft pool cs) n ≡ release_turn spacecraft pool cs n
unfolding release_turn_of release_turn
release_taken spacecraft pool cs n =
    by_count spacecraft pool cs _ (λ ds. release_turn spacecraft pool ds n) (leb (length cs) largest_channels) refl
    (λ e. rw (over_eight spacecraft pool cs e))

pub unit_taken : (spacecraft pool : ℕ) (cs : List Channel) (octets : List ℕ)
    → by_value.unit_part (taken_of spacecraft pool cs) octets ≡ unit_part spacecraft pool cs octets
unfolding by_value.unit_part unit_part frame_turn
unit_taken spacecraft pool cs octets =
    by_count spacecraft pool cs _ (λ ds. unit_part spacecraft pool ds octets) (leb (length cs) largest_channels) refl
    (λ e. rw (over_eight spacecraft pool cs e))

pub word_taken : (spacecraft pool : ℕ) (cs : List Channel) (n lent : ℕ)
    → word_of (taken_of spacecraft pool cs) n lent ≡ word_writing spacecraft pool cs n lent
unfolding word_of word_writing
word_taken spacecraft pool cs n lent =
    by_count spacecraft pool cs _ (λ ds. word_writing spacecraft pool ds n lent) (leb (length cs) largest_channels) refl
    (λ e. rw (over_eight spacecraft pool cs e))
