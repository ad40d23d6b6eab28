-- Table 7-8's two words that no action reads: computed here over every event and state, a cell has an action, Ignore stands alone, and Not
-- Applicable stands in the cells of `applies` and in no other.
use mathlib.Core.Bool.{Bool, true, false, not}
use mathlib.Core.List.{List, [], ◌∷◌}
use mathlib.Core.Option.{Option, none, some}
use Prim.Native.Nat.{ℕ, ◌<◌}
use lib.Dec.{T, leb, eqb}
use Rattle.base.specs.Choice.{pick, both}
use Rattle.base.proofs.Computed.{below}
use Rattle.fop.specs.declared.Action.{Action}
use Rattle.fop.specs.declared.Action.TheVariants.{Ignore, Accept, Reject, Confirm, RejectAd, AcceptBd, RejectBd, AddToWaitQueue, LookForFdu, LookForDirective, RemoveAcknowledgedFrames}
use Rattle.fop.specs.declared.Action.TheVariants.{InitiateAdRetransmission, InitiateBcRetransmission, ReleaseBcFrame, CancelTimer, StartTimer, Alert, Initialise, TransmitUnlock, TransmitSetVr, TransmitBd}
use Rattle.fop.specs.declared.Action.TheVariants.{SetSuspendState, Suspend, Resume, SetVs, SetNnr, SetK, SetT1Initial, SetTransmissionLimit, SetTimeoutType, AdOutReady, BcOutReady, BdOutReady}
use Rattle.fop.specs.declared.State.{State}
use Rattle.fop.specs.declared.State.TheVariants.{S1, S2, S3, S4, S5, S6}
use Rattle.fop.specs.declared.Event.{Event as FopEvent}
use Rattle.fop.specs.Table.{event_of, Cell, cell, if_not_suspended, NotApplicable, table78, cell78}

abbrev is_ignore : Action → Bool
is_ignore Ignore = true
is_ignore Accept = false
is_ignore Reject = false
is_ignore Confirm = false
is_ignore RejectAd = false
is_ignore AcceptBd = false
is_ignore RejectBd = false
is_ignore AddToWaitQueue = false
is_ignore LookForFdu = false
is_ignore LookForDirective = false
is_ignore RemoveAcknowledgedFrames = false
is_ignore InitiateAdRetransmission = false
is_ignore InitiateBcRetransmission = false
is_ignore ReleaseBcFrame = false
is_ignore CancelTimer = false
is_ignore StartTimer = false
is_ignore (Alert r) = false
is_ignore Initialise = false
is_ignore TransmitUnlock = false
is_ignore TransmitSetVr = false
is_ignore TransmitBd = false
is_ignore (SetSuspendState n) = false
is_ignore Suspend = false
is_ignore Resume = false
is_ignore SetVs = false
is_ignore SetNnr = false
is_ignore SetK = false
is_ignore SetT1Initial = false
is_ignore SetTransmissionLimit = false
is_ignore SetTimeoutType = false
is_ignore AdOutReady = false
is_ignore BcOutReady = false
is_ignore BdOutReady = false

-- none of the actions is Ignore
abbrev no_ignore : List Action → Bool
no_ignore [] = true
no_ignore (a ∷ more) = both (not (is_ignore a)) (no_ignore more)

-- there is an action, and Ignore stands alone
abbrev pub well_worded : List Action → Bool
well_worded [] = false
well_worded (a ∷ []) = true
well_worded (a ∷ b ∷ more) = no_ignore (a ∷ b ∷ more)

-- Not Applicable where the event does not apply, otherwise actions
abbrev pub well_worded_cell : Bool → Cell → Bool
well_worded_cell applies NotApplicable = not applies
well_worded_cell applies (cell acts next) = both applies (well_worded acts)
well_worded_cell applies (if_not_suspended acts others next) = both applies (both (well_worded acts) (well_worded others))

abbrev within : ℕ → ℕ → ℕ → Bool
within first last k = both (leb first k) (leb k last)

-- the service is being initialised
abbrev initialising : State → Bool
initialising S1 = false
initialising S2 = false
initialising S3 = false
initialising S4 = true
initialising S5 = true
initialising S6 = false

abbrev initial : State → Bool
initial S1 = false
initial S2 = false
initial S3 = false
initial S4 = false
initial S5 = false
initial S6 = true

-- the event with this number applies in the state, as the table has it: a word that acknowledges units, or some of several outstanding (E2, E5 to
-- E12, E101 to E103), not while the service is being initialised; an expiry of the timer (E16 to E18, E104) not in the Initial state; Resume while
-- suspended (E31 to E34) there only. (V(S) other than NN(R) can still bring such a word: docs/DECISIONS.md, "Cells marked Not Applicable".)
abbrev pub applies : ℕ → State → Bool
applies k s =
    pick (eqb k 2) (not (initialising s))
    (pick (within 5 12 k) (not (initialising s))
    (pick (within 101 103 k) (not (initialising s))
    (pick (within 16 18 k) (not (initial s))
    (pick (eqb k 104) (not (initial s)) (pick (within 31 34 k) (initial s) true)))))

abbrev pub well_worded_row : ℕ → Option FopEvent → Bool
well_worded_row k none = true
well_worded_row k (some e) =
    both (at S1) (both (at S2) (both (at S3) (both (at S4) (both (at S5) (at S6)))))
  where
    at : State → Bool
    at s = well_worded_cell (applies k s) (cell78 (table78 e) s)

-- the rows of E1 to E46 and E101 to E104
pub words : (k : ℕ) → k < 105 → T (well_worded_row k (event_of k))
unfolding event_of table78
words k h = below (λ (x : ℕ). well_worded_row x (event_of x)) 105 tt k h
