-- Document 02, order 8: demand 3 for each channel alone, of our own sender with our receiver of several channels, by value and over a lent table, and of the
-- functions that C and Rust call. Each end brings its half of the tie (Ends, Value, Called; our_session, called_session): so crate channel_session's theorem
-- holds of them. The premises can be met by what `pondreszi_channel_new` writes (Fresh) and `pondreszi_sender_new` gives (called_session, `fresh_called`).
use Rattle.channel_session.proofs.Theorem.{demand3_channel}
use Rattle.our_session.specs.Ours.{ours}
use Rattle.our_session.proofs.Theorem.{ours_tied}
use Rattle.called_session.specs.Called.{called}
use Rattle.called_session.specs.Fresh.{start_kept}
use Rattle.called_session.proofs.Theorem as called
use Rattle.called_session.proofs.Theorem.{fresh_called}
use Rattle.called_channels.specs.Ends.{with}
use Rattle.called_channels.specs.Ours.{by_value, lent}
use Rattle.called_channels.specs.Called.{pool_in, called_table}
use Rattle.called_channels.specs.Demand.{Demand3Value, Demand3Lent, Demand3Called, Demand3Fresh}
use Rattle.called_channels.specs.Fresh.{new_table}
use Rattle.called_channels.proofs.Ends.{with_tied, lent_tied}
use Rattle.called_channels.proofs.Value.{value_tied}
use Rattle.called_channels.proofs.Called.{called_tied}
use Rattle.called_channels.proofs.Fresh.{fresh_channels}

pub demand3_value : Demand3Value
demand3_value set within pool b x y r v =
    demand3_channel set within pool b (with (ours set x) (by_value r))
    (with_tied set pool (ours set x) (by_value r) (ours_tied set x y) (value_tied set pool b r v))

pub demand3_lent : Demand3Lent
demand3_lent set within pool b x y =
    demand3_channel set within pool b (with (ours set x) (lent set pool)) (with_tied set pool (ours set x) (lent set pool) (ours_tied set x y) (lent_tied set pool))

pub demand3_called : Demand3Called
demand3_called set within size o e b x y =
    demand3_channel set within (pool_in size o) b (with (called set x) (called_table set size o))
    (with_tied set (pool_in size o) (called set x) (called_table set size o) (called.called_tied set within x y) (called_tied set size o e))

-- from what the functions themselves begin with
pub demand3_fresh : Demand3Fresh
demand3_fresh set within one store long buffer sized size ss o b =
    let f = fresh_channels set size ss o b in
    demand3_called set within size (new_table ss o) f.table f.begins (start_kept set store buffer) (fresh_called set within one store long buffer sized).begins
