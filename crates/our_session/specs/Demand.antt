-- Demand 3 of our own sender and receiver: crate session's claims (specs/Claims, specs/Stronger, specs/Beyond) at our two ends.
use Rattle.std.specs.Prelude.{ℕ, ◌≢◌, ◌≡◌, true, List}
use Rattle.fop.specs.Events.{SenderEvent}
use Rattle.session.specs.Ends.{Settings, Within, tables}
use Rattle.session.specs.Session.{Event, begins, run}
use Rattle.session.specs.Claims.{Claims}
use Rattle.session.specs.Stronger.{Stronger}
use Rattle.session.specs.Suspension.{unrejected}
use Rattle.session.specs.Signed.{DemandedAlerting}
use Rattle.session.specs.Beyond.{Beyond, BeyondAlerting}
use Rattle.sender.specs.Answers.{Step}
use Rattle.our_session.specs.Ours.{Held, step_of, held_after, Begins, ours}

-- for all settings within limits, every sender of ours that begins there, and every list of events in which no lower-layer reject comes while
-- suspended: each sentence of demand 3, after the list and at whatever event comes next
abbrev pub Demand3 : Type 0
Demand3 =
    (set : Settings) → Within set → (x : Held) → Begins set x → (es : List Event) → unrejected set es (begins (tables set)) ≡ true
    → Claims set (ours set x) (run set (ours set x) es (begins (ours set x))) (run set (tables set) es (begins (tables set)))

-- and what holds besides
abbrev pub StrongerOurs : Type 0
StrongerOurs =
    (set : Settings) → Within set → (x : Held) → Begins set x → (es : List Event) → unrejected set es (begins (tables set)) ≡ true
    → Stronger set (ours set x) (run set (ours set x) es (begins (ours set x))) (run set (tables set) es (begins (tables set)))

-- and all that holds beyond demand 3, over channels that repeat and noise
abbrev pub BeyondOurs : Type 0
BeyondOurs = (set : Settings) → Within set → (x : Held) → Begins set x → Beyond set (ours set x)

-- both at Timeout_Type 0, after every list of events: demand 3 as document 01 words it
abbrev pub AlertingOurs : Type 0
AlertingOurs =
    (set : Settings) → Within set → (x : Held) → Begins set x → DemandedAlerting set (ours set x) × BeyondAlerting set (ours set x)

-- document 01's refusal in the answer
abbrev pub refusal_of : Step → ℕ
refusal_of step = step.answer.refusal

-- "A refused event changes neither end", and no octet of what is lent: of our sender, whatever its state
pub record RefusedKeepsAll : Type 0 where
  pub held : (e : SenderEvent) (output : List ℕ) (x : Held) → refusal_of (step_of e output x) ≢ 0 → held_after (step_of e output x) ≡ x
  pub output : (e : SenderEvent) (output : List ℕ) (x : Held) → refusal_of (step_of e output x) ≢ 0 → (step_of e output x).output ≡ output
