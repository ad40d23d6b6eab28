-- The premises of demand 3 for a channel can be met: what `pondreszi_channel_new` writes, record behind record in one buffer, is a table whose channels begin.
-- Limits by their figures, so that a unit which refuses more than order 8 and document 01 say is none.
use Rattle.std.specs.Prelude.{ℕ, ◌*◌, ◌%◌, ◌≤◌, ◌≡◌, true, List, [], ◌∷◌, ◌++◌, map, length, take, drop}
use Rattle.receiver.specs.declared.Channel.{Channel}
use Rattle.session.specs.Ends.{Settings}
use Rattle.channels.specs.Table.{is_in, distinct, record_of}
use Rattle.channel_session.specs.Ends.{Begins}
use Rattle.channel_octets.specs.Kept.{record_octets, is_table}
use Rattle.pondreszi_receiver.specs.Receivers as receiver
use Rattle.pondreszi_channels.specs.Channels.{at_start, new_call}
use Rattle.called_channels.specs.Called.{pool_in}

-- what a channel begins with
pub record Start : Type 0 where
  pub channel : ℕ
  pub window : ℕ
  pub vr : ℕ

abbrev pub start_of : Start → Channel
start_of s = at_start s.channel s.window s.vr

-- "channel 0 to 63", "Receiver window W even, 2 to 254", and a number
pub record StartWithin (s : Start) : Type 0 where
  pub channel : s.channel ≤ 63
  pub even : s.window % 2 ≡ 0
  pub least : 2 ≤ s.window
  pub most : s.window ≤ 254
  pub number : s.vr ≤ 255

abbrev pub AllWithin : List Start → Type 0
AllWithin [] = Unit {0}
AllWithin (s ∷ ss) = StartWithin s × AllWithin ss

-- the call for a channel, lent the buffer from the record's place on, whatever it held
abbrev pub new_record : Start → List ℕ → receiver.Called
new_record s o = new_call s.channel s.window s.vr o

-- a buffer after a call for each channel, and that none was refused
abbrev pub new_table : List Start → List ℕ → List ℕ
new_table [] o = o
new_table (s ∷ ss) o = take record_octets (new_record s o).state ++ new_table ss (drop record_octets (new_record s o).state)

abbrev pub NoneRefused : List Start → List ℕ → Type 0
NoneRefused [] o = Unit {0}
NoneRefused (s ∷ ss) o = ((new_record s o).number ≡ 0) × NoneRefused ss (drop record_octets (new_record s o).state)

-- no call is refused, and what they wrote begins the session
pub record FreshTable (set : Settings) (size : ℕ) (ss : List Start) (o : List ℕ) : Type 0 where
  pub done : NoneRefused ss o
  pub table : is_table (new_table ss o) ≡ true
  pub begins : Begins set (pool_in size (new_table ss o))

-- what a caller begins with: up to eight channels, no two the same, one of them the session's with its window and its first number; a pool of 1 to 16; a buffer
-- of as many records, whatever it holds; the FARM-B counter is 0
pub record FreshStart (set : Settings) (size : ℕ) (ss : List Start) (o : List ℕ) : Type 0 where
  pub spacecraft : set.own.spacecraft ≤ 1023
  pub counter : set.counter ≡ 0
  pub least : 1 ≤ size
  pub most : size ≤ 16
  pub few : length ss ≤ 8
  pub within : AllWithin ss
  pub apart : distinct (map start_of ss) ≡ true
  pub there : is_in set.own.channel (map start_of ss) ≡ true
  pub own : record_of set.own.channel (map start_of ss) ≡ at_start set.own.channel set.w set.n
  pub sized : length o ≡ length ss * record_octets

abbrev pub FreshChannels : Type 0
FreshChannels = (set : Settings) (size : ℕ) (ss : List Start) (o : List ℕ) → FreshStart set size ss o → FreshTable set size ss o
