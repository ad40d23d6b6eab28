-- The well-formed states of the sender, as a test: what every event keeps (crate sender_rows_view, specs/State), so that a state that was kept over a
-- reset can be told from one that no sender has.
use Rattle.std.specs.Prelude.{ℕ, zero, suc, Bool, true, not, List, [], ◌∷◌, leb, eqb}
use Rattle.base.specs.Choice.{pick, both}
use Rattle.base.specs.Limits.{largest_unit, largest_spacecraft, largest_channel}
use Rattle.base.specs.Modulo.{offset}
use Rattle.fop.specs.Limits.{largest_k, largest_timeout_type, largest_suspend_state}
use Rattle.fop.specs.Effective.{in_service, suspended_in}
use Rattle.sender_values.specs.declared.SenderState.{SenderState}
use Rattle.fop.specs.declared.State.{State}
use Rattle.fop.specs.declared.State.TheVariants as state
use Rattle.sender_values.specs.declared.Variables.{Variables}
use Rattle.sender_values.specs.declared.Queues.{Queues}
use Rattle.sender_values.specs.Actions.{units_held}
use Rattle.sender_table.specs.Rows.{is_frame}
use Rattle.sender_values.specs.declared.Settings.{Settings}

-- document 01's limits of K, T1_Initial, Transmission_Limit and the address; Timeout_Type 0 or 1 (document 02, order 9)
abbrev pub settings_hold : Settings → Bool
settings_hold g =
    both (leb 1 g.k)
    (both (leb g.k largest_k)
    (both (leb 1 g.t1_initial)
    (both (leb 1 g.transmission_limit)
    (both (leb g.timeout_type largest_timeout_type) (both (leb g.spacecraft largest_spacecraft) (leb g.channel largest_channel))))))

-- the units sent are no more than the largest K and than V(S) - NN(R), and the marked ones are among them; Transmission_Count is at least 1;
-- Suspend_State is at most its largest
abbrev pub numbers_hold : Variables → Queues → Bool
numbers_hold v q =
    both (leb q.sent largest_k)
    (both (leb q.sent (offset v.vs v.nnr))
    (both (leb q.marked q.sent) (both (leb 1 v.transmission_count) (leb v.suspend_state largest_suspend_state))))

-- no unit is sent or waits
abbrev pub is_empty : Queues → Bool
is_empty q = both (eqb q.sent 0) (not q.waiting)

-- the AD service is not suspended
abbrev pub is_serving : Variables → Bool
is_serving v = eqb v.suspend_state 0

-- the units of S6, by the state that Suspend_State records: any where that is one of S1 to S3, which a suspension keeps and a reject of the
-- lower layer denies (document 02, order 9); else none
abbrev pub initial_holds : Variables → Queues → Bool
initial_holds v q = pick (in_service (suspended_in v.suspend_state)) true (is_empty q)

-- by the state: Suspend_State 0 outside S6; a type-BC frame in S5 and only there; no unit where the effective state (crate fop,
-- specs/Effective) is outside S1 to S3; the timer stopped in S6
abbrev pub state_holds : State → Variables → Queues → Bool
state_holds state.S1 v q = both (is_serving v) (not (is_frame q.control))
state_holds state.S2 v q = both (is_serving v) (not (is_frame q.control))
state_holds state.S3 v q = both (is_serving v) (not (is_frame q.control))
state_holds state.S4 v q = both (is_serving v) (both (is_empty q) (not (is_frame q.control)))
state_holds state.S5 v q = both (is_serving v) (both (is_empty q) (is_frame q.control))
state_holds state.S6 v q = both (initial_holds v q) (both (not (is_frame q.control)) (eqb v.timer 0))

-- every length is that of a unit at the most; the first `held` are at least 1
abbrev pub lengths_hold : ℕ → List ℕ → Bool
lengths_hold held [] = true
lengths_hold zero (x ∷ xs) = both (leb x largest_unit) (lengths_hold zero xs)
lengths_hold (suc held) (x ∷ xs) = both (leb 1 x) (both (leb x largest_unit) (lengths_hold held xs))

-- a well-formed sender: all of these, which is what every event keeps (crate sender_rows_view, specs/State, `Good`)
unfoldable pub well_formed : SenderState → Bool
well_formed s =
    both (settings_hold s.settings)
    (both (numbers_hold s.variables s.queues)
    (both (state_holds s.state s.variables s.queues) (lengths_hold (units_held s.queues.sent s.queues.waiting) s.lengths)))
