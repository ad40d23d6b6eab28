-- Document 02, order 8: demand 3 for each channel alone (channel_session/specs/Demand), of our own sender with our receiver of several channels, and of the
-- functions that C and Rust call.
use Rattle.std.specs.Prelude.{ℕ, ◌≤◌, ◌≡◌, true, List, length}
use Rattle.fop.specs.Store.{store_need}
use Rattle.session.specs.Ends.{Settings, Within}
use Rattle.channels.specs.declared.Channels.{Channels}
use Rattle.channel_session.specs.Ends as ends
use Rattle.channel_session.specs.Ends.{Pool}
use Rattle.channel_session.specs.Demand.{Demanded}
use Rattle.channel_octets.specs.Kept.{is_table}
use Rattle.sender_octets.specs.Kept.{state_octets}
use Rattle.our_session.specs.Ours.{Held, Begins, ours}
use Rattle.called_session.specs.Called.{Kept, BeginsKept, called}
use Rattle.called_session.specs.Fresh.{start_kept}
use Rattle.called_channels.specs.Ends.{with}
use Rattle.called_channels.specs.Ours.{by_value, BeginsValue, lent}
use Rattle.called_channels.specs.Called.{pool_in, called_table}
use Rattle.called_channels.specs.Fresh.{Start, new_table, FreshStart}

-- our own sender with the receiver by value: every sender of ours that begins a session, every receiver of ours whose records do, any events of the other
-- channels in the list
abbrev pub Demand3Value : Type 0
Demand3Value =
    (set : Settings) → Within set → (pool : Pool) → ends.Begins set pool → (x : Held) → Begins set x → (r : Channels) → BeginsValue set pool r
    → Demanded set pool (with (ours set x) (by_value r))

-- with the receiver over a lent table
abbrev pub Demand3Lent : Type 0
Demand3Lent =
    (set : Settings) → Within set → (pool : Pool) → ends.Begins set pool → (x : Held) → Begins set x → Demanded set pool (with (ours set x) (lent set pool))

-- the functions that C and Rust call: whatever a caller keeps of a sender that begins, and whatever octets it keeps of a table whose records do
abbrev pub Demand3Called : Type 0
Demand3Called =
    (set : Settings) → Within set → (size : ℕ) (o : List ℕ) → is_table o ≡ true → ends.Begins set (pool_in size o) → (x : Kept) → BeginsKept set x
    → Demanded set (pool_in size o) (with (called set x) (called_table set size o))

-- from what the functions themselves begin with: a new sender that is told to initiate without check, and a table of new records
abbrev pub Demand3Fresh : Type 0
Demand3Fresh =
    (set : Settings) → Within set → set.count ≡ 1 → (store : List ℕ) → store_need set.k 0 ≤ length store → (buffer : List ℕ) → length buffer ≡ state_octets
    → (size : ℕ) (ss : List Start) (o : List ℕ) → FreshStart set size ss o
    → Demanded set (pool_in size (new_table ss o)) (with (called set (start_kept set store buffer)) (called_table set size (new_table ss o)))
