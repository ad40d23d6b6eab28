-- The rows of table 7-8 on the sender's state by value. The table is crate fop's (specs/Table); each of its actions is crate sender_values'.
use Rattle.std.specs.Prelude.{ℕ, ◌%◌, Bool, true, false, List, [], ◌∷◌, Option, None, Some, eqb}
use Rattle.base.specs.Choice.{pick}
use Rattle.fop.specs.declared.Action.{Action}
use Rattle.fop.specs.declared.Event.{Event as FopEvent}
use Rattle.fop.specs.Table.{event_of, as_code, Cell, cell, if_not_suspended, NotApplicable, table78, cell78}
use Rattle.fop.specs.declared.Action.TheVariants.{Ignore, Accept, Reject, Confirm, RejectAd, AcceptBd, RejectBd, AddToWaitQueue, LookForFdu, LookForDirective, RemoveAcknowledgedFrames}
use Rattle.fop.specs.declared.Action.TheVariants.{InitiateAdRetransmission, InitiateBcRetransmission, ReleaseBcFrame, CancelTimer, StartTimer, Alert, Initialise, TransmitUnlock, TransmitSetVr, TransmitBd}
use Rattle.fop.specs.declared.Action.TheVariants.{SetSuspendState, Suspend, Resume, SetVs, SetNnr, SetK, SetT1Initial, SetTransmissionLimit, SetTimeoutType, AdOutReady, BcOutReady, BdOutReady}
use Rattle.sender_values.specs.declared.Control.{Control}
use Rattle.sender_values.specs.declared.Control.TheVariants as control
use Rattle.fop.specs.declared.Response.TheVariants as response
use Rattle.sender_values.specs.declared.Work.{Work}
use Rattle.sender_values.specs.Actions as act

-- a type-BC frame is on the sent queue
abbrev pub is_frame : Option Control → Bool
is_frame None = false
is_frame (Some control.Unlock) = true
is_frame (Some (control.SetVr value)) = true

-- a value of one octet: N(R), V*, K, Transmission_Limit, Timeout_Type; only T1_Initial has more
abbrev pub octet : ℕ → ℕ
octet n = n % 256

-- an action of the table; n is the value that the event brings (N(R), or a directive's)
unfoldable pub done : Action → ℕ → Work → Work
done Ignore n w = w
done Accept n w = act.respond response.AcceptDirective w
done Reject n w = act.respond response.RejectDirective w
done Confirm n w = act.respond response.ConfirmDirective w
done RejectAd n w = act.respond response.RejectAdUnit w
done AcceptBd n w = act.respond response.AcceptBdUnit w
done RejectBd n w = act.respond response.RejectBdUnit w
done AddToWaitQueue n w = act.add_to_wait_queue w
done LookForFdu n w = act.look_for_fdu w
done LookForDirective n w = act.look_for_directive w
done RemoveAcknowledgedFrames n w = act.remove_acknowledged_frames (octet n) w
done InitiateAdRetransmission n w = act.initiate_ad_retransmission w
done InitiateBcRetransmission n w = act.initiate_bc_retransmission w
done ReleaseBcFrame n w = act.release_bc_frame w
done CancelTimer n w = act.cancel_timer w
done StartTimer n w = act.start_timer w
done (Alert r) n w = act.alert (Some r) w
done Initialise n w = act.initialise w
done TransmitUnlock n w = act.transmit_unlock w
done TransmitSetVr n w = act.transmit_set_vr (octet n) w
done TransmitBd n w = act.transmit_bd_frame w
done (SetSuspendState s) n w = act.set_suspend_state s w
done Suspend n w = act.suspend w
done Resume n w = act.resumed w
done SetVs n w = act.set_vs (octet n) w
done SetNnr n w = act.set_nnr (octet n) w
done SetK n w = act.set_k (octet n) w
done SetT1Initial n w = act.set_t1_initial n w
done SetTransmissionLimit n w = act.set_transmission_limit (octet n) w
done SetTimeoutType n w = act.set_timeout_type (octet n) w
done AdOutReady n w = act.ad_out_ready w
done BcOutReady n w = act.bc_out_ready w
done BdOutReady n w = act.bd_out_ready w

-- actions in their order
unfoldable pub done_all : List Action → ℕ → Work → Work
done_all [] n w = w
done_all (a ∷ more) n w = done_all more n (done a n w)

-- a cell: its actions, then its next state. "Not Applicable": nothing is done and the state is kept.
unfoldable pub done_cell : Cell → ℕ → Work → Work
done_cell NotApplicable n w = w
done_cell (cell acts s) n w = act.to_state s (done_all acts n w)
done_cell (if_not_suspended acts others s) n w =
    act.to_state s (pick (eqb w.variables.suspend_state 0) (done_all acts n w) (done_all others n w))

-- the row of an event in the state of the work
unfoldable pub row_of : FopEvent → ℕ → Work → Work
row_of e n w = done_cell (cell78 (table78 e) w.state) n w

-- the row of an event, if there is one
unfoldable pub row_if : Option FopEvent → ℕ → Work → Work
row_if None n w = w
row_if (Some e) n w = row_of e n w

-- the row of the event with this number; a number that is no event's does nothing
unfoldable pub row_numbered : ℕ → ℕ → Work → Work
row_numbered k n w = row_if (as_code (event_of k)) n w
