-- FOP-1: what each action of table 7-8 does (clause 7.9.2).
use Rattle.std.specs.Prelude.{Bool, true, false, ◌&&◌, List, [], ◌∷◌, ◌++◌, ℕ, ◌+◌, ltb, eqb, Some}
use Rattle.std.proofs.Math.Option.{Option, none, some}
use Rattle.base.specs.Choice.{pick}
use Rattle.base.specs.Modulo.{advanced, offset}
use Rattle.fop.specs.Units.{Fdu, Frame, AD, BD, Unlock, SetVR}
use Rattle.fop.specs.declared.Action.{Action}
use Rattle.fop.specs.declared.Event.{Event as FopEvent}
use Rattle.fop.specs.Table.{Cell, cell, if_not_suspended, NotApplicable, table78, cell78}
use Rattle.fop.specs.declared.Action.TheVariants.{Ignore, Accept, Reject, Confirm, RejectAd, AcceptBd, RejectBd, AddToWaitQueue, LookForFdu, LookForDirective, RemoveAcknowledgedFrames}
use Rattle.fop.specs.declared.Action.TheVariants.{InitiateAdRetransmission, InitiateBcRetransmission, ReleaseBcFrame, CancelTimer, StartTimer, Alert, Initialise, TransmitUnlock, TransmitSetVr, TransmitBd}
use Rattle.fop.specs.declared.Action.TheVariants.{SetSuspendState, Suspend, Resume, SetVs, SetNnr, SetK, SetT1Initial, SetTransmissionLimit, SetTimeoutType, AdOutReady, BcOutReady, BdOutReady}
use Rattle.fop.specs.Variables.{Entry, BcEntry, Fop, set_state, set_sequence, set_suspend, set_preset, set_clock, set_out, set_wait, set_bc, with_k, with_limit, with_t1, with_timeout_type}
use Rattle.fop.specs.declared.Response.TheVariants.{AcceptAdUnit, RejectAdUnit, AcceptBdUnit, RejectBdUnit, AcceptDirective, RejectDirective, ConfirmDirective, DenyDirective}
use Rattle.fop.specs.Variables.{Work, on_fop, hand_down, runs, respond, tell, begin}

-- The Sent_Queue.

-- its units, the oldest first
abbrev pub fdus : List Entry → List Fdu
fdus [] = []
fdus (e ∷ q) = e.fdu ∷ fdus q

-- "Setting the To_Be_Retransmitted_Flag for each frame on the Sent_Queue"
abbrev pub mark_all : List Entry → List Entry
mark_all [] = []
mark_all (e ∷ q) = record { fdu = e.fdu; marked = true } ∷ mark_all q

-- the oldest marked unit
abbrev pub first_marked : List Entry → Option Fdu
first_marked [] = none
first_marked (e ∷ q) = pick e.marked (some e.fdu) (first_marked q)

-- the queue with the mark of its oldest marked unit off
abbrev pub unmark : List Entry → List Entry
unmark [] = []
unmark (e ∷ q) = pick e.marked (record { fdu = e.fdu; marked = false } ∷ q) (e ∷ unmark q)

-- a frame is acknowledged by N(R) where its number lies from NN(R) up to below N(R), modulo 256
abbrev pub is_acknowledged : ℕ → ℕ → Entry → Bool
is_acknowledged nnr nr e = ltb (offset e.fdu.ns nnr) (offset nr nnr)

-- the units that N(R) acknowledges
abbrev pub acknowledged : ℕ → ℕ → List Entry → List Fdu
acknowledged nnr nr [] = []
acknowledged nnr nr (e ∷ q) = pick (is_acknowledged nnr nr e) (e.fdu ∷ acknowledged nnr nr q) (acknowledged nnr nr q)

-- and the frames that stay
abbrev pub unacknowledged : ℕ → ℕ → List Entry → List Entry
unacknowledged nnr nr [] = []
unacknowledged nnr nr (e ∷ q) = pick (is_acknowledged nnr nr e) (unacknowledged nnr nr q) (e ∷ unacknowledged nnr nr q)

-- The actions.

-- "If the Sent_Queue was previously empty, setting the Transmission_Count to 1"
abbrev pub count_for : List Entry → ℕ → ℕ
count_for [] c = 1
count_for (e ∷ q) c = c

-- clause 7.9.2.6, Transmit type-AD frame, of the unit o
unfoldable pub transmit_ad : List ℕ → Work → Work
transmit_ad o w =
    let f : Fop = w.fop in
    let u : Fdu = record { ns = f.numbers.vs; octets = o } in
    hand_down (AD u)
    (on_fop (set_out false f.out.bc f.out.bd
    (set_clock f.preset.t1_initial (count_for f.queues.sent_queue f.clock.transmission_count)
    (set_sequence (advanced f.numbers.vs 1) f.numbers.nnr (f.queues.sent_queue ++ (record { fdu = u; marked = false } ∷ [])) f))) w)

-- the unit waiting is accepted and sent, if there is one
unfoldable pub send_waiting : Option (List ℕ) → Work → Work
send_waiting none w = w
send_waiting (some o) w = transmit_ad o (respond AcceptAdUnit (on_fop (set_wait none w.fop) w))

-- the oldest marked unit is sent again; with none marked, the unit waiting, where V(S) - NN(R) leaves room in the window
unfoldable pub send_next : Option Fdu → Work → Work
send_next (some u) w =
    hand_down (AD u)
    (on_fop (set_out false w.fop.out.bc w.fop.out.bd (set_sequence w.fop.numbers.vs w.fop.numbers.nnr (unmark w.fop.queues.sent_queue) w.fop)) w)
send_next none w = pick (ltb (offset w.fop.numbers.vs w.fop.numbers.nnr) w.fop.preset.k) (send_waiting w.fop.queues.wait_queue w) w

-- clause 7.9.2.16, Look for FDU (figure 7-5, lost in the copy; by CCSDS 232.1-B)
unfoldable pub look_for_fdu : Work → Work
look_for_fdu w = pick w.fop.out.ad (send_next (first_marked w.fop.queues.sent_queue) w) w

-- clause 7.9.2.15, Look for directive (figure 7-4, lost in the copy; by CCSDS 232.1-B)
unfoldable pub look_for_directive : Option BcEntry → Work → Work
look_for_directive none w = w
look_for_directive (some b) w =
    pick (b.marked && w.fop.out.bc)
    (hand_down b.frame
    (on_fop (set_out w.fop.out.ad false w.fop.out.bd (set_bc (some (record { frame = b.frame; marked = false })) w.fop)) w)) w

-- "Setting the To_Be_Retransmitted_Flag for the frame on the Sent_Queue"
abbrev pub mark_bc : Option BcEntry → Option BcEntry
mark_bc none = none
mark_bc (some b) = some (record { frame = b.frame; marked = true })

-- clause 7.9.2.7, Transmit type-BC frame (7.9.2.8 Unlock, 7.9.2.9 Set V(R))
unfoldable pub transmit_bc : Frame → Work → Work
transmit_bc x w =
    let f : Fop = w.fop in
    hand_down x
    (on_fop (set_out f.out.ad false f.out.bd (set_clock f.preset.t1_initial 1 (set_bc (some (record { frame = x; marked = false })) f))) w)

-- clause 7.9.2.4, Purging the Sent_Queue: each AD frame is denied, a BC frame gives the Negative Confirm of its directive
unfoldable pub deny_bc : Option BcEntry → Work → Work
deny_bc none w = w
deny_bc (some b) w = respond DenyDirective w

-- clause 7.9.2.5, Purging the Wait_Queue
unfoldable pub reject_waiting : Option (List ℕ) → Work → Work
reject_waiting none w = w
reject_waiting (some o) w = respond RejectAdUnit w

-- both queues are purged
unfoldable pub purge : Work → Work
purge w =
    let f : Fop = w.fop in
    reject_waiting f.queues.wait_queue
    (deny_bc f.queues.bc_frame
    (runs w.confirmed (w.denied ++ fdus f.queues.sent_queue) (on_fop (set_wait none (set_bc none (set_sequence f.numbers.vs f.numbers.nnr [] f))) w)))

-- clause 7.9.2.13, Remove acknowledged frames from Sent_Queue
unfoldable pub remove_acknowledged : Work → Work
remove_acknowledged w =
    let f : Fop = w.fop in
    runs (w.confirmed ++ acknowledged f.numbers.nnr w.asked.value f.queues.sent_queue) w.denied
    (on_fop (set_clock f.clock.timer 1 (set_sequence f.numbers.vs w.asked.value (unacknowledged f.numbers.nnr w.asked.value f.queues.sent_queue) f)) w)

-- each action; 7.9.2.11 and 7.9.2.12 Initiate AD and BC retransmission, 7.9.2.14 Alert, 7.9.2.17 Initialise, 7.9.2.18 Suspend, 7.9.2.19 Resume
unfoldable pub perform : Action → Work → Work
perform Ignore w = w
perform Accept w = respond AcceptDirective w
perform Reject w = respond RejectDirective w
perform Confirm w = respond ConfirmDirective w
perform RejectAd w = respond RejectAdUnit w
perform AcceptBd w = respond AcceptBdUnit w
perform RejectBd w = respond RejectBdUnit w
perform AddToWaitQueue w = on_fop (set_wait (some w.asked.octets) w.fop) w
perform LookForFdu w = look_for_fdu w
perform LookForDirective w = look_for_directive w.fop.queues.bc_frame w
perform RemoveAcknowledgedFrames w = remove_acknowledged w
perform InitiateAdRetransmission w =
    let f : Fop = w.fop in
    tell true w.notices.alert w.notices.suspended
    (on_fop (set_clock f.preset.t1_initial (f.clock.transmission_count + 1) (set_sequence f.numbers.vs f.numbers.nnr (mark_all f.queues.sent_queue) f)) w)
perform InitiateBcRetransmission w =
    let f : Fop = w.fop in
    tell true w.notices.alert w.notices.suspended
    (on_fop (set_clock f.preset.t1_initial (f.clock.transmission_count + 1) (set_bc (mark_bc f.queues.bc_frame) f)) w)
perform ReleaseBcFrame w = on_fop (set_bc none w.fop) w
perform CancelTimer w = on_fop (set_clock 0 w.fop.clock.transmission_count w.fop) w
perform StartTimer w = on_fop (set_clock w.fop.preset.t1_initial w.fop.clock.transmission_count w.fop) w
perform (Alert r) w =
    let v : Work = purge w in
    tell v.notices.abort (Some r) v.notices.suspended (on_fop (set_clock 0 v.fop.clock.transmission_count v.fop) v)
perform Initialise w = let v : Work = purge w in on_fop (set_suspend 0 (set_clock v.fop.clock.timer 1 v.fop)) v
perform TransmitUnlock w = transmit_bc Unlock w
perform TransmitSetVr w = transmit_bc (SetVR w.asked.value) w
perform TransmitBd w = hand_down (BD w.asked.octets) (on_fop (set_out w.fop.out.ad w.fop.out.bc false w.fop) w)
perform (SetSuspendState n) w = on_fop (set_suspend n w.fop) w
perform Suspend w = tell w.notices.abort w.notices.alert true w
perform Resume w = on_fop (set_suspend 0 (set_clock w.fop.preset.t1_initial w.fop.clock.transmission_count w.fop)) w
perform SetVs w = on_fop (set_sequence w.asked.value w.fop.numbers.nnr w.fop.queues.sent_queue w.fop) w
perform SetNnr w = on_fop (set_sequence w.fop.numbers.vs w.asked.value w.fop.queues.sent_queue w.fop) w
perform SetK w = on_fop (set_preset (with_k w.asked.value w.fop.preset) w.fop) w
perform SetT1Initial w = on_fop (set_preset (with_t1 w.asked.value w.fop.preset) w.fop) w
perform SetTransmissionLimit w = on_fop (set_preset (with_limit w.asked.value w.fop.preset) w.fop) w
perform SetTimeoutType w = on_fop (set_preset (with_timeout_type w.asked.value w.fop.preset) w.fop) w
perform AdOutReady w = on_fop (set_out true w.fop.out.bc w.fop.out.bd w.fop) w
perform BcOutReady w = on_fop (set_out w.fop.out.ad true w.fop.out.bd w.fop) w
perform BdOutReady w = on_fop (set_out w.fop.out.ad w.fop.out.bc true w.fop) w

-- actions in their order
unfoldable pub perform_all : List Action → Work → Work
perform_all [] w = w
perform_all (a ∷ more) w = perform_all more (perform a w)

-- a cell: its actions, then its next state. "Not Applicable": nothing is done and the state is kept.
unfoldable pub perform_cell : Cell → Work → Work
perform_cell NotApplicable w = w
perform_cell (cell acts s) w = let v : Work = perform_all acts w in on_fop (set_state s v.fop) v
perform_cell (if_not_suspended acts others s) w =
    let v : Work = pick (eqb w.fop.suspend_state 0) (perform_all acts w) (perform_all others w) in
    on_fop (set_state s v.fop) v

-- the event e, with the unit o and the value v that it carries, by the table
unfoldable pub fop_do : FopEvent → List ℕ → ℕ → Fop → Work
fop_do e o v f = perform_cell (cell78 (table78 e) f.state) (begin (some e) o v f)
