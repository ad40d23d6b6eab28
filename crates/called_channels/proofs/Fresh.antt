-- What `pondreszi_channel_new` writes is the record of a channel at its start (`new_done`), so records behind each other are a table of them, and its channels
-- begin (`fresh_channels`): they hold none.
use Prim.Native.Nat.{ℕ, suc, ◌*◌, ◌%◌, ◌≤◌}
use mathlib.Core.Path.{◌≡◌, refl, sym, ap, ap₂, subst, ◌∙◌}
use mathlib.Core.Bool.{true, false}
use mathlib.Core.List.{List, [], ◌∷◌, ◌++◌, map}
use native.Mathlib.Omega.{arith}
use borrow.Author.Tests.{le-leb, eq-eqb}
use lib.ListN.{length, take, drop, replicate, length-drop}
use Rattle.base.specs.Limits.{largest_spacecraft, largest_channel}
use Rattle.fop.specs.Limits.{largest_number}
use Rattle.farm.specs.declared.State.TheVariants.{Open}
use Rattle.session.specs.Ends.{Settings, start_receiver}
use Rattle.channels.specs.Limits.{largest_channels, largest_pool, largest_window}
use Rattle.channels.specs.Table.{is_in, held_in, record_holds, all_hold, table_holds, record_of}
use Rattle.channel_session.proofs.Trace as example
use Rattle.channel_octets.specs.Kept.{record_octets, octets_of, table_octets, records_in, is_table}
use Rattle.channel_octets.proofs.Back.{table_back}
use Rattle.pondreszi_receiver.specs.Receivers as receiver
use Rattle.pondreszi_channels.specs.Channels.{at_start, new_call}
use Rattle.called_channels.specs.Fresh.{Start, start_of, StartWithin, AllWithin, new_record, new_table, NoneRefused, FreshTable, FreshStart, FreshChannels}

-- a record within the limits
start_holds : (s : Start) → StartWithin s → record_holds (start_of s) ≡ true
start_holds s h =
    rw (le-leb s.channel largest_channel h.channel, eq-eqb (s.window % 2) 0 h.even, le-leb 2 s.window h.least, le-leb s.window largest_window h.most)

all_hold_lem : (ss : List Start) → AllWithin ss → all_hold (map start_of ss) ≡ true
all_hold_lem [] h = refl
all_hold_lem (s ∷ ss) h = rw (start_holds s h.0, all_hold_lem ss h.1)

new_done : (s : Start) (o : List ℕ) → StartWithin s → record_octets ≤ length o
    → new_record s o ≡ record { number = 0; state = octets_of (start_of s) ++ drop record_octets o }
unfolding new_call
new_done s o h l = rw (le-leb s.vr largest_number h.number, start_holds s h, le-leb record_octets (length o) l)

-- all of them, in a buffer of as many records
news_done : (ss : List Start) (o : List ℕ) → AllWithin ss → length o ≡ length ss * record_octets → NoneRefused ss o × (new_table ss o ≡ table_octets (map start_of ss))
news_done [] o h l = (tt, none_left o l)
  where
    none_left : (o : List ℕ) → length o ≡ 0 * record_octets → o ≡ []
    none_left [] e = refl
    none_left (x ∷ xs) e = absurd (omega arith)
news_done (s ∷ ss) o h l =
    let d = new_done s o h.0 (omega arith) in
    let ds = news_done ss (drop record_octets o) h.1 (omega (arith, length-drop record_octets o)) in
    let back : drop record_octets (new_record s o).state ≡ drop record_octets o = ap (λ (x : receiver.Called). drop record_octets x.state) d in
    let front : take record_octets (new_record s o).state ≡ octets_of (start_of s) = ap (λ (x : receiver.Called). take record_octets x.state) d in (
      (ap (λ (x : receiver.Called). x.number) d, subst (NoneRefused ss) (sym back) ds.0),
      ap₂ (λ (x y : List ℕ). x ++ y) front (ap (new_table ss) back ∙ ds.1),
    )

-- they hold none
none_held : (ss : List Start) → held_in (map start_of ss) ≡ 0
none_held [] = refl
none_held (s ∷ ss) = omega (arith, none_held ss)

as_many : (ss : List Start) → length (map start_of ss) ≡ length ss
as_many [] = refl
as_many (s ∷ ss) = ap suc (as_many ss)

-- so the table is no 12
starts_hold : (set : Settings) (size : ℕ) (ss : List Start) (o : List ℕ) → FreshStart set size ss o → table_holds set.own.spacecraft size (map start_of ss) ≡ true
unfolding table_holds
starts_hold set size ss o b =
    let few : length (map start_of ss) ≤ largest_channels = omega (arith, as_many ss, b.few) in
    let held : held_in (map start_of ss) ≤ size = omega (arith, none_held ss) in
    rw (
      le-leb set.own.spacecraft largest_spacecraft b.spacecraft,
      le-leb 1 size b.least,
      le-leb size largest_pool b.most,
      le-leb (length (map start_of ss)) largest_channels few,
      all_hold_lem ss b.within,
      b.apart,
      le-leb (held_in (map start_of ss)) size held,
    )

pub fresh_channels : FreshChannels
unfolding start_receiver
fresh_channels set size ss o b =
    let ds = news_done ss o b.within b.sized in
    let records : records_in (new_table ss o) ≡ map start_of ss = ap records_in ds.1 ∙ (table_back (map start_of ss)).1 in
    record {
      done = ds.0;
      table = ap is_table ds.1 ∙ (table_back (map start_of ss)).0;
      begins = record {
        holds = ap (table_holds set.own.spacecraft size) records ∙ starts_hold set size ss o b;
        none = ap held_in records ∙ none_held ss;
        there = ap (is_in set.own.channel) records ∙ b.there;
        start = ap (record_of set.own.channel) records ∙ b.own ∙ counted;
      };
    } where
      counted : at_start set.own.channel set.w set.n ≡ (start_receiver set).farm.channel
      counted = ap (λ (n : ℕ). record {
        number = set.own.channel;
        window = set.w;
        held = 0;
        variables = record { state = Open; vr = set.n; lockout = false; wait = false; retransmit = false; counter = n };
      }) (sym b.counter)

-- The hypotheses can be met: of crate channel_session's example, the channels 4 and 9 with a pool of one buffer, in a buffer of zeros.
abbrev starts : List Start
starts = record { channel = 4; window = 10; vr = 0 } ∷ record { channel = (example.set).own.channel; window = (example.set).w; vr = (example.set).n } ∷ []

pub met : FreshTable example.set 1 starts (replicate (2 * record_octets) 0)
met =
    fresh_channels example.set 1 starts (replicate (2 * record_octets) 0) (record {
      spacecraft = omega arith;
      counter = refl;
      least = omega arith;
      most = omega arith;
      few = omega arith;
      within = (within4, (within9, tt));
      apart = refl;
      there = refl;
      own = refl;
      sized = refl;
    })
  where
    within4 : StartWithin (record { channel = 4; window = 10; vr = 0 })
    within4 = record { channel = omega arith; even = refl; least = omega arith; most = omega arith; number = omega arith }

    within9 : StartWithin (record { channel = (example.set).own.channel; window = (example.set).w; vr = (example.set).n })
    within9 = record { channel = omega arith; even = refl; least = omega arith; most = omega arith; number = omega arith }
