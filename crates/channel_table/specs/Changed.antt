-- Document 02, order 8, "Frames, controls and releases for one channel leave every other channel's record unchanged", of a lent table: an event changes one
-- element at the most.
use Rattle.std.specs.Prelude.{◌≡◌, ◌≢◌, ℕ, ◌<◌, List, length, get_or}
use Rattle.receiver.specs.declared.Channel.{Channel}
use Rattle.channels.specs.Table.{Turn}

-- the table before and after what an event comes to: the count stays, and every other record; the record told stands at its place, where there is one
pub record Changed (t : Turn) (before after : List Channel) : Type 0 where
  pub count : length after ≡ length before
  pub others : (i : ℕ) (d : Channel) → i ≢ t.place → get_or after i d ≡ get_or before i d
  pub told : (d : Channel) → t.place < length before → get_or after t.place d ≡ t.next
