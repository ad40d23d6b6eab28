-- The actions of clause 7.9.2 and of table 7-8, on the work by value.
-- They follow the struct's layout. The standard's own rendering is crate fop, specs/Machine; crate sender_view ties each of these to it.
use Rattle.std.specs.Prelude.{ℕ, suc, ◌+◌, Bool, true, false, ◌==◌, nat_lt, slice_set, Option, None, Some}
use Rattle.base.specs.Choice.{pick}
use Rattle.base.specs.Modulo.{advanced, offset}
use Rattle.fop.specs.declared.State.{State}
use Rattle.sender_values.specs.declared.Control.{Control}
use Rattle.sender_values.specs.declared.Control.TheVariants as control
use Rattle.sender_values.specs.declared.Handed.{Handed}
use Rattle.sender_values.specs.declared.Handed.TheVariants as handed
use Rattle.fop.specs.declared.Alert.{Alert}
use Rattle.fop.specs.declared.Response.{Response}
use Rattle.fop.specs.declared.Response.TheVariants.{AcceptAdUnit, RejectAdUnit, AcceptBdUnit, RejectBdUnit, AcceptDirective, RejectDirective, ConfirmDirective, DenyDirective}
use Rattle.sender_values.specs.declared.Responses.{Responses}
use Rattle.fop.specs.declared.Run.{Run}
use Rattle.sender_values.specs.declared.Work.{Work}
use Rattle.sender_values.specs.Limits.{largest_responses}
use Rattle.sender_values.specs.Parts.{setting, with_settings, with_variables, with_queues, with_told, numbered, clocked, flagged, suspended_at, holding, controlling, handing, telling, responding, running}

-- The timer, the out flags, the settings and the numbers.

-- the next state of a cell
unfoldable pub to_state : State → Work → Work
to_state s w = record { state = s; settings = w.settings; variables = w.variables; queues = w.queues; told = w.told }

-- the timer is started, at T1_Initial
unfoldable pub start_timer : Work → Work
start_timer w = with_variables (clocked w.settings.t1_initial w.variables.transmission_count w.variables) w

-- the timer is stopped
unfoldable pub cancel_timer : Work → Work
cancel_timer w = with_variables (clocked 0 w.variables.transmission_count w.variables) w

-- Transmission_Count is 1
unfoldable pub count_one : Work → Work
count_one w = with_variables (clocked w.variables.timer 1 w.variables) w

-- AD_Out_Flag = Ready
unfoldable pub ad_out_ready : Work → Work
ad_out_ready w = with_variables (flagged true w.variables.bc_out w.variables.bd_out w.variables) w

-- BC_Out_Flag = Ready
unfoldable pub bc_out_ready : Work → Work
bc_out_ready w = with_variables (flagged w.variables.ad_out true w.variables.bd_out w.variables) w

-- BD_Out_Flag = Ready
unfoldable pub bd_out_ready : Work → Work
bd_out_ready w = with_variables (flagged w.variables.ad_out w.variables.bc_out true w.variables) w

-- V(S) is set
unfoldable pub set_vs : ℕ → Work → Work
set_vs n w = with_variables (numbered n w.variables.nnr w.variables) w

-- NN(R) is set
unfoldable pub set_nnr : ℕ → Work → Work
set_nnr n w = with_variables (numbered w.variables.vs n w.variables) w

-- SS := n
unfoldable pub set_suspend_state : ℕ → Work → Work
set_suspend_state n w = with_variables (suspended_at n w.variables) w

-- clause 7.9.2.19, Resume
unfoldable pub resumed : Work → Work
resumed w = set_suspend_state 0 (start_timer w)

-- Set FOP_Sliding_Window_Width
unfoldable pub set_k : ℕ → Work → Work
set_k n w =
    let s = w.settings in
    with_settings (setting n s.t1_initial s.transmission_limit s.timeout_type s) w

-- Set T1_Initial
unfoldable pub set_t1_initial : ℕ → Work → Work
set_t1_initial n w =
    let s = w.settings in
    with_settings (setting s.k n s.transmission_limit s.timeout_type s) w

-- Set Transmission_Limit
unfoldable pub set_transmission_limit : ℕ → Work → Work
set_transmission_limit n w =
    let s = w.settings in
    with_settings (setting s.k s.t1_initial n s.timeout_type s) w

-- Set Timeout_Type
unfoldable pub set_timeout_type : ℕ → Work → Work
set_timeout_type n w =
    let s = w.settings in
    with_settings (setting s.k s.t1_initial s.transmission_limit n s) w

-- What is told.

-- a response's number
abbrev pub response_number : Response → ℕ
response_number AcceptAdUnit = 1
response_number RejectAdUnit = 2
response_number AcceptBdUnit = 3
response_number RejectBdUnit = 4
response_number AcceptDirective = 5
response_number RejectDirective = 6
response_number ConfirmDirective = 7
response_number DenyDirective = 8

-- one response more, at the end; no more than an event can give
unfoldable pub responses_with : ℕ → Responses → Responses
responses_with n r = pick (nat_lt r.count largest_responses) (record { count = r.count + 1; numbers = slice_set r.numbers r.count n }) r

-- a response
unfoldable pub respond : Response → Work → Work
respond r w = with_told (responding (responses_with (response_number r) w.told.responses) w.told) w

-- the frame handed down
unfoldable pub hand_down : Option Handed → Work → Work
hand_down h w = with_told (handing h w.told) w

-- an abort request to the lower procedures
unfoldable pub abort : Work → Work
abort w = with_told (telling true w.told.alert w.told.suspended w.told) w

-- an Alert notification, or none
unfoldable pub notify : Option Alert → Work → Work
notify a w = with_told (telling w.told.abort a w.told.suspended w.told) w

-- clause 7.9.2.18, Suspend: a Suspend notification
unfoldable pub suspend : Work → Work
suspend w = with_told (telling w.told.abort w.told.alert true w.told) w

-- The queues.

-- the units in the store: those on the Sent_Queue, and the one on the Wait_Queue
abbrev pub units_held : ℕ → Bool → ℕ
units_held sent true = suc sent
units_held sent false = sent

-- Add to Wait_Queue a unit, which stands in the store behind the sent ones
unfoldable pub add_to_wait_queue : Work → Work
add_to_wait_queue w = with_queues (holding w.queues.sent w.queues.marked true w.queues) w

-- the type-BC frame on the Sent_Queue, and whether it is marked
unfoldable pub hold_control : Option Control → Bool → Work → Work
hold_control c m w = with_queues (controlling c m w.queues) w

-- Release type-BC frame
unfoldable pub release_bc_frame : Work → Work
release_bc_frame w = hold_control None false w

-- Transmission.

-- "If the Sent_Queue was previously empty, setting the Transmission_Count to 1"
abbrev pub count_for : ℕ → ℕ → ℕ
count_for sent count = pick (sent == 0) 1 count

-- clause 7.9.2.6, Transmit type-AD frame, of the unit waiting: it is the last of the Sent_Queue, unmarked
unfoldable pub transmit_ad_frame : Work → Work
transmit_ad_frame w =
    let v = w.variables in
    let q = w.queues in
    start_timer (hand_down (Some (handed.Ad v.vs q.sent))
    (with_queues (holding (advanced q.sent 1) q.marked false q)
    (with_variables (flagged false v.bc_out v.bd_out (clocked v.timer (count_for q.sent v.transmission_count) (numbered (advanced v.vs 1) v.nnr v))) w)))

-- the oldest marked unit is sent again, and its mark is off: it is the first of the last `marked`
unfoldable pub send_marked : Work → Work
send_marked w =
    let v = w.variables in
    let q = w.queues in
    hand_down (Some (handed.Ad (offset v.vs q.marked) (offset q.sent q.marked)))
    (with_queues (holding q.sent (offset q.marked 1) q.waiting q)
    (with_variables (flagged false v.bc_out v.bd_out v) w))

-- V(S) - NN(R) < K
unfoldable pub in_window : Work → Bool
in_window w = nat_lt (offset w.variables.vs w.variables.nnr) w.settings.k

-- clause 7.9.2.16, Look for FDU: the oldest marked unit again; with none marked the unit waiting, which is accepted, where the window has room
unfoldable pub look_for_fdu : Work → Work
look_for_fdu w =
    pick w.variables.ad_out
    (pick (nat_lt 0 w.queues.marked) (send_marked w)
    (pick w.queues.waiting (pick (in_window w) (transmit_ad_frame (respond AcceptAdUnit w)) w) w))
    w

-- clause 7.9.2.7, Transmit type-BC frame: it is on the Sent_Queue, unmarked
unfoldable pub transmit_bc_frame : Option Control → Option Handed → Work → Work
transmit_bc_frame c h w =
    let v = w.variables in
    start_timer (hand_down h (hold_control c false (with_variables (flagged v.ad_out false v.bd_out (clocked v.timer 1 v)) w)))

-- clause 7.9.2.8
unfoldable pub transmit_unlock : Work → Work
transmit_unlock w = transmit_bc_frame (Some control.Unlock) (Some handed.Unlock) w

-- clause 7.9.2.9
unfoldable pub transmit_set_vr : ℕ → Work → Work
transmit_set_vr n w = transmit_bc_frame (Some (control.SetVr n)) (Some (handed.SetVr n)) w

-- clause 7.9.2.10, Transmit type-BD frame
unfoldable pub transmit_bd_frame : Work → Work
transmit_bd_frame w =
    let v = w.variables in
    hand_down (Some handed.Bd) (with_variables (flagged v.ad_out v.bc_out false v) w)

-- the type-BC frame is sent again, and its mark is off
unfoldable pub send_control : Option Handed → Work → Work
send_control h w =
    let v = w.variables in
    hand_down h (hold_control w.queues.control false (with_variables (flagged v.ad_out false v.bd_out v) w))

-- the same where it is marked and BC_Out_Flag is Ready
unfoldable pub send_marked_control : Option Handed → Work → Work
send_marked_control h w = pick w.variables.bc_out (pick w.queues.control_marked (send_control h w) w) w

-- clause 7.9.2.15, Look for directive
unfoldable pub look_for_directive_of : Option Control → Work → Work
look_for_directive_of None w = w
look_for_directive_of (Some control.Unlock) w = send_marked_control (Some handed.Unlock) w
look_for_directive_of (Some (control.SetVr n)) w = send_marked_control (Some (handed.SetVr n)) w

-- the same, of the frame on the Sent_Queue
abbrev pub look_for_directive : Work → Work
look_for_directive w = look_for_directive_of w.queues.control w

-- an abort request; Transmission_Count is one more, and the timer is started
unfoldable pub again : Work → Work
again w =
    let v = w.variables in
    start_timer (abort (with_variables (clocked v.timer (advanced v.transmission_count 1) v) w))

-- clause 7.9.2.11, Initiate AD retransmission: all units are marked
unfoldable pub initiate_ad_retransmission : Work → Work
initiate_ad_retransmission w = again (with_queues (holding w.queues.sent w.queues.sent w.queues.waiting w.queues) w)

-- clause 7.9.2.12, Initiate BC retransmission: the type-BC frame is marked
unfoldable pub initiate_bc_retransmission : Work → Work
initiate_bc_retransmission w = again (hold_control w.queues.control true w)

-- Removal.

-- the least of two numbers
abbrev pub least : ℕ → ℕ → ℕ
least a b = pick (nat_lt a b) a b

-- a run of n units from a number on; 0 and 0 where empty
abbrev pub run_from : ℕ → ℕ → Run
run_from number n = record { number = pick (n == 0) 0 number; count = n }

-- the units that stay where those before number n are removed
abbrev pub staying : ℕ → Work → ℕ
staying n w = least w.queues.sent (offset w.variables.vs n)

-- and those that go
abbrev pub removed : ℕ → Work → ℕ
removed n w = offset w.queues.sent (staying n w)

-- clause 7.9.2.13, Remove acknowledged frames from Sent_Queue: those before number n
unfoldable pub remove_acknowledged_frames : ℕ → Work → Work
remove_acknowledged_frames n w =
    let v = w.variables in
    let q = w.queues in
    with_told (running (run_from (offset v.vs q.sent) (removed n w)) w.told.denied w.told)
    (with_queues (holding (staying n w) (least q.marked (staying n w)) q.waiting q)
    (with_variables (clocked v.timer 1 (numbered v.vs n v)) w))

-- the Sent_Queue without its frames; its units are denied
unfoldable pub emptied : Work → Work
emptied w =
    let q = w.queues in
    release_bc_frame (with_told (running w.told.confirmed (run_from (offset w.variables.vs q.sent) q.sent) w.told)
    (with_queues (holding 0 0 q.waiting q) w))

-- a type-BC frame gives the Negative Confirm of its directive
unfoldable pub deny_control : Option Control → Work → Work
deny_control None w = w
deny_control (Some control.Unlock) w = respond DenyDirective w
deny_control (Some (control.SetVr n)) w = respond DenyDirective w

-- clause 7.9.2.4, Purging the Sent_Queue
unfoldable pub purge_sent_queue : Work → Work
purge_sent_queue w = deny_control w.queues.control (emptied w)

-- the Wait_Queue without its unit
unfoldable pub not_waiting : Work → Work
not_waiting w =
    let q = w.queues in
    with_queues (holding q.sent q.marked false q) w

-- clause 7.9.2.5, Purging the Wait_Queue: its unit is rejected
unfoldable pub purge_wait_queue : Work → Work
purge_wait_queue w = pick w.queues.waiting (respond RejectAdUnit (not_waiting w)) w

-- clause 7.9.2.14, Alert; with no reason nothing is notified
unfoldable pub alert : Option Alert → Work → Work
alert a w = notify a (purge_wait_queue (purge_sent_queue (cancel_timer w)))

-- clause 7.9.2.17, Initialise
unfoldable pub initialise : Work → Work
initialise w = set_suspend_state 0 (count_one (purge_wait_queue (purge_sent_queue w)))
