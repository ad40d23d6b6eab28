-- Demand 3, and what holds besides, of the functions that C and Rust call: crate session's claims at a caller's two ends.
use Rattle.std.specs.Prelude.{◌≡◌, true, List}
use Rattle.session.specs.Ends.{Settings, Within, tables}
use Rattle.session.specs.Session.{Event, begins, run}
use Rattle.session.specs.Claims.{Claims}
use Rattle.session.specs.Stronger.{Stronger}
use Rattle.session.specs.Suspension.{unrejected}
use Rattle.session.specs.Signed.{DemandedAlerting}
use Rattle.session.specs.Beyond.{Beyond, BeyondAlerting}
use Rattle.called_session.specs.Called.{Kept, BeginsKept, called}

-- for all settings within limits, whatever a caller keeps of a sender that begins there, and every list of events in which no lower-layer reject
-- comes while suspended: each sentence of demand 3, after the list and at whatever event comes next
abbrev pub Demand3 : Type 0
Demand3 =
    (set : Settings) → Within set → (x : Kept) → BeginsKept set x → (es : List Event) → unrejected set es (begins (tables set)) ≡ true
    → Claims set (called set x) (run set (called set x) es (begins (called set x))) (run set (tables set) es (begins (tables set)))

-- and what holds besides
abbrev pub StrongerCalled : Type 0
StrongerCalled =
    (set : Settings) → Within set → (x : Kept) → BeginsKept set x → (es : List Event) → unrejected set es (begins (tables set)) ≡ true
    → Stronger set (called set x) (run set (called set x) es (begins (called set x))) (run set (tables set) es (begins (tables set)))

-- and all that holds beyond demand 3, over channels that repeat and noise
abbrev pub BeyondCalled : Type 0
BeyondCalled = (set : Settings) → Within set → (x : Kept) → BeginsKept set x → Beyond set (called set x)

-- both at Timeout_Type 0, after every list of events: demand 3 as document 01 words it
abbrev pub AlertingCalled : Type 0
AlertingCalled =
    (set : Settings) → Within set → (x : Kept) → BeginsKept set x → DemandedAlerting set (called set x) × BeyondAlerting set (called set x)
