-- The work on an event has room for the numbers of four responses, no more and no fewer: every action keeps their count, so every row does.
use Rattle.std.specs.Prelude.{None, Some}
use Rattle.std.specs.Prelude as std
use Prim.Native.Nat.{ℕ, ◌+◌}
use mathlib.Core.Path.{◌≡◌, ◌∙◌}
use mathlib.Core.Bool.{Bool, true, false}
use mathlib.Core.List.{List, [], ◌∷◌}
use lib.Dec.{eqb, ltb}
use lib.ListN.{length, set, length-set, length-replicate}
use Rattle.base.specs.Choice.{pick}
use Rattle.fop.specs.declared.Action.{Action}
use Rattle.fop.specs.declared.Event.{Event as FopEvent}
use Rattle.fop.specs.Table.{Cell, cell, if_not_suspended, NotApplicable, table78, cell78}
use Rattle.fop.specs.declared.Action.TheVariants.{Ignore, Accept, Reject, Confirm, RejectAd, AcceptBd, RejectBd, AddToWaitQueue, LookForFdu, LookForDirective, RemoveAcknowledgedFrames}
use Rattle.fop.specs.declared.Action.TheVariants.{InitiateAdRetransmission, InitiateBcRetransmission, ReleaseBcFrame, CancelTimer, StartTimer, Alert, Initialise, TransmitUnlock, TransmitSetVr, TransmitBd}
use Rattle.fop.specs.declared.Action.TheVariants.{SetSuspendState, Suspend, Resume, SetVs, SetNnr, SetK, SetT1Initial, SetTransmissionLimit, SetTimeoutType, AdOutReady, BcOutReady, BdOutReady}
use Rattle.fop.specs.declared.Alert.{Alert as Reason}
use Rattle.sender_values.specs.declared.Control.{Control}
use Rattle.sender_values.specs.declared.Control.TheVariants as control
use Rattle.sender_values.specs.declared.Handed.{Handed}
use Rattle.fop.specs.declared.Response.{Response}
use Rattle.fop.specs.declared.Response.TheVariants as response
use Rattle.sender_values.specs.declared.Responses.{Responses}
use Rattle.sender_values.specs.declared.SenderState.{SenderState}
use Rattle.sender_values.specs.declared.Work.{Work}
use Rattle.sender_values.specs.Limits.{largest_responses}
use Rattle.sender_values.specs.Parts.{with_settings, with_variables, with_queues, with_told}
use Rattle.sender_values.specs.Actions as act
use Rattle.sender_values.specs.Start.{begun, none_told}
use Rattle.sender_table.specs.Rows.{octet, done, done_all, done_cell, row_of, row_if}

-- the numbers of four responses
abbrev pub Four : Work → Type 0
Four w = length w.told.responses.numbers ≡ largest_responses

-- one response more stands among them
pub with_four : (n : ℕ) (r : Responses) → length r.numbers ≡ largest_responses → length (act.responses_with n r).numbers ≡ largest_responses
unfolding act.responses_with
with_four n r h = by (ltb r.count largest_responses) where
  by : (b : Bool) → length (pick b (record { count = r.count + 1; numbers = set r.numbers r.count n }) r).numbers ≡ largest_responses
  by true = length-set r.numbers r.count n ∙ h
  by false = h

-- the actions
module _ (w : Work) (h : Four w) where
  responds : (r : Response) → Four (act.respond r w)
  unfolding act.respond with_told
  responds r = with_four (act.response_number r) w.told.responses h

  adds : Four (act.add_to_wait_queue w)
  unfolding act.add_to_wait_queue with_queues
  adds = h

  sends_marked : Four (act.send_marked w)
  unfolding act.send_marked act.hand_down with_variables with_queues with_told
  sends_marked = h

  transmits_ad : Four (act.transmit_ad_frame w)
  unfolding act.transmit_ad_frame act.start_timer act.hand_down with_variables with_queues with_told
  transmits_ad = h

  sends_control : (x : std.Option Handed) → Four (act.send_marked_control x w)
  unfolding act.send_marked_control act.send_control act.hand_down act.hold_control with_variables with_queues with_told
  sends_control x = by w.variables.bc_out w.queues.control_marked where
    by : (a m : Bool) → Four (pick a (pick m (act.send_control x w) w) w)
    by true true = h
    by true false = h
    by false m = h

  looks_for_directive : (k : std.Option Control) → Four (act.look_for_directive_of k w)
  unfolding act.look_for_directive_of
  looks_for_directive None = h
  looks_for_directive (Some control.Unlock) = sends_control _
  looks_for_directive (Some (control.SetVr n)) = sends_control _

  removes : (n : ℕ) → Four (act.remove_acknowledged_frames n w)
  unfolding act.remove_acknowledged_frames with_variables with_queues with_told
  removes n = h

  retransmits_ad : Four (act.initiate_ad_retransmission w)
  unfolding act.initiate_ad_retransmission act.again act.start_timer act.abort with_variables with_queues with_told
  retransmits_ad = h

  retransmits_bc : Four (act.initiate_bc_retransmission w)
  unfolding act.initiate_bc_retransmission act.again act.start_timer act.abort act.hold_control with_variables with_queues with_told
  retransmits_bc = h

  transmits_bc : (c : std.Option Control) (x : std.Option Handed) → Four (act.transmit_bc_frame c x w)
  unfolding act.transmit_bc_frame act.start_timer act.hand_down act.hold_control with_variables with_queues with_told
  transmits_bc c x = h

  transmits_bd : Four (act.transmit_bd_frame w)
  unfolding act.transmit_bd_frame act.hand_down with_variables with_told
  transmits_bd = h

  empties : Four (act.emptied w)
  unfolding act.emptied act.release_bc_frame act.hold_control with_queues with_told
  empties = h

  waits_not : Four (act.not_waiting w)
  unfolding act.not_waiting with_queues
  waits_not = h

-- the queues purged
module _ (w : Work) (h : Four w) where
  looks_for_fdu : Four (act.look_for_fdu w)
  unfolding act.look_for_fdu
  looks_for_fdu = by w.variables.ad_out (ltb 0 w.queues.marked) w.queues.waiting (act.in_window w) where
    by : (a m i r : Bool)
        → Four (pick a (pick m (act.send_marked w) (pick i (pick r (act.transmit_ad_frame (act.respond response.AcceptAdUnit w)) w) w)) w)
    by false m i r = h
    by true true i r = sends_marked w h
    by true false true true = transmits_ad (act.respond response.AcceptAdUnit w) (responds w h response.AcceptAdUnit)
    by true false true false = h
    by true false false r = h

  denies : (k : std.Option Control) → Four (act.deny_control k w)
  unfolding act.deny_control
  denies None = h
  denies (Some control.Unlock) = responds w h response.DenyDirective
  denies (Some (control.SetVr n)) = responds w h response.DenyDirective

  purges_waiting : Four (act.purge_wait_queue w)
  unfolding act.purge_wait_queue
  purges_waiting = by w.queues.waiting where
    by : (b : Bool) → Four (pick b (act.respond response.RejectAdUnit (act.not_waiting w)) w)
    by true = responds (act.not_waiting w) (waits_not w h) response.RejectAdUnit
    by false = h

purges : (w : Work) → Four w → Four (act.purge_wait_queue (act.purge_sent_queue w))
unfolding act.purge_sent_queue
purges w h = purges_waiting (act.deny_control w.queues.control (act.emptied w)) (denies (act.emptied w) (empties w h) w.queues.control)

initialises : (w : Work) → Four w → Four (act.initialise w)
unfolding act.initialise act.set_suspend_state act.count_one with_variables
initialises w h = purges w h

alerts : (a : std.Option Reason) (w : Work) → Four w → Four (act.alert a w)
unfolding act.alert act.notify act.cancel_timer with_variables with_told
alerts a w h = purges (act.cancel_timer w) h

-- each action
keeps : (a : Action) (n : ℕ) (w : Work) → Four w → Four (done a n w)
unfolding done act.release_bc_frame act.hold_control act.cancel_timer act.start_timer act.transmit_unlock act.transmit_set_vr act.set_suspend_state act.suspend
    act.resumed act.set_vs act.set_nnr act.set_k act.set_t1_initial act.set_transmission_limit act.set_timeout_type
    act.ad_out_ready act.bc_out_ready act.bd_out_ready
    with_settings with_variables with_queues with_told
keeps Ignore n w h = h
keeps Accept n w h = responds w h response.AcceptDirective
keeps Reject n w h = responds w h response.RejectDirective
keeps Confirm n w h = responds w h response.ConfirmDirective
keeps RejectAd n w h = responds w h response.RejectAdUnit
keeps AcceptBd n w h = responds w h response.AcceptBdUnit
keeps RejectBd n w h = responds w h response.RejectBdUnit
keeps AddToWaitQueue n w h = adds w h
keeps LookForFdu n w h = looks_for_fdu w h
keeps LookForDirective n w h = looks_for_directive w h w.queues.control
keeps RemoveAcknowledgedFrames n w h = removes w h (octet n)
keeps InitiateAdRetransmission n w h = retransmits_ad w h
keeps InitiateBcRetransmission n w h = retransmits_bc w h
keeps ReleaseBcFrame n w h = h
keeps CancelTimer n w h = h
keeps StartTimer n w h = h
keeps (Alert r) n w h = alerts (Some r) w h
keeps Initialise n w h = initialises w h
keeps TransmitUnlock n w h = transmits_bc w h _ _
keeps TransmitSetVr n w h = transmits_bc w h _ _
keeps TransmitBd n w h = transmits_bd w h
keeps (SetSuspendState s) n w h = h
keeps Suspend n w h = h
keeps Resume n w h = h
keeps SetVs n w h = h
keeps SetNnr n w h = h
keeps SetK n w h = h
keeps SetT1Initial n w h = h
keeps SetTransmissionLimit n w h = h
keeps SetTimeoutType n w h = h
keeps AdOutReady n w h = h
keeps BcOutReady n w h = h
keeps BdOutReady n w h = h

-- actions in their order, a cell, a row
all_keep_lem : (acts : List Action) (n : ℕ) (w : Work) → Four w → Four (done_all acts n w)
unfolding done_all
all_keep_lem [] n w h = h
all_keep_lem (a ∷ more) n w h = all_keep_lem more n (done a n w) (keeps a n w h)

cell_keeps : (c : Cell) (n : ℕ) (w : Work) → Four w → Four (done_cell c n w)
unfolding done_cell act.to_state
cell_keeps NotApplicable n w h = h
cell_keeps (cell acts s) n w h = all_keep_lem acts n w h
cell_keeps (if_not_suspended acts others s) n w h = by (eqb w.variables.suspend_state 0) where
  by : (b : Bool) → Four (pick b (done_all acts n w) (done_all others n w))
  by true = all_keep_lem acts n w h
  by false = all_keep_lem others n w h

if_keeps : (e : std.Option FopEvent) (n : ℕ) (w : Work) → Four w → Four (row_if e n w)
unfolding row_if row_of
if_keeps None n w h = h
if_keeps (Some e) n w h = cell_keeps (cell78 (table78 e) w.state) n w h

-- the row of any event, from the start of the work
pub four : (e : std.Option FopEvent) (n : ℕ) (s : SenderState) → Four (row_if e n (begun s))
unfolding begun none_told
four e n s = if_keeps e n (begun s) (length-replicate {A = ℕ} largest_responses 0)
