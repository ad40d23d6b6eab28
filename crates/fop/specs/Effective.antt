-- The effective state of FOP-1: the state whose work a suspended sender keeps (clauses 7.2.2 and 7.4.2.6, Suspend_State).
use Rattle.std.specs.Prelude.{Bool, true, false, not, ℕ, eqb}
use Rattle.base.specs.Choice.{pick}
use Rattle.fop.specs.declared.State.{State}
use Rattle.fop.specs.declared.State.TheVariants.{S1, S2, S3, S4, S5, S6}
use Rattle.fop.specs.Variables.{Fop}

-- Suspend_State (clause 7.2.2): "If SS = 0, the AD service is not suspended. If SS > 0, the value in SS records the state that FOP-1 was in when
-- the AD service was suspended", 1 to 4 for S1 to S4. It is at most 4; any above 3 is taken as 4, as at Resume (specs/Events).
abbrev pub suspended_in : ℕ → State
suspended_in n = pick (eqb n 0) S6 (pick (eqb n 1) S1 (pick (eqb n 2) S2 (pick (eqb n 3) S3 S4)))

-- clause 7.4.2.6: "When the AD service is suspended, FOP-1 enters Initial state (S6)". There the effective state is Suspend_State's, elsewhere
-- it is the state.
abbrev pub effective_of : State → ℕ → State
effective_of S1 n = S1
effective_of S2 n = S2
effective_of S3 n = S3
effective_of S4 n = S4
effective_of S5 n = S5
effective_of S6 n = suspended_in n

-- the same of the variables
abbrev pub effective : Fop → State
effective f = effective_of f.state f.suspend_state

-- the AD service is suspended ("If SS = 0, the AD service is not suspended")
abbrev pub is_suspended : Fop → Bool
is_suspended f = not (eqb f.suspend_state 0)

-- the main protocol's states, S1 to S3
abbrev pub in_service : State → Bool
in_service S1 = true
in_service S2 = true
in_service S3 = true
in_service S4 = false
in_service S5 = false
in_service S6 = false
