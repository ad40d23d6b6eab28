-- Table 7-8, the FOP-1 state table, row by row: for each event and state the actions, in the standard's words, and the next state.
-- E18, E31 to E34 and E104 are suspension's rows (document 02, order 9): with Timeout_Type and Suspend_State 0 no event meets them (specs/Events).
use Rattle.std.specs.Prelude.{ℕ, ◌-◌, List, [], ◌∷◌, ltb, map, get_or, None, Some}
use Rattle.std.specs.Prelude as code
use Rattle.std.proofs.Math.Option.{Option, none, some}
use Rattle.base.specs.Choice.{pick}
use Rattle.fop.specs.declared.Alert.{Alert as Reason}
use Rattle.fop.specs.declared.Alert.TheVariants.{Synch, Clcw, Limit, Nnr, Lockout, T1, Term, Llif}
use Rattle.fop.specs.declared.Action.{Action}
use Rattle.fop.specs.declared.Action.TheVariants.{Ignore, Accept, Reject, Confirm, RejectAd, AcceptBd, RejectBd, AddToWaitQueue, LookForFdu, LookForDirective, RemoveAcknowledgedFrames}
use Rattle.fop.specs.declared.Action.TheVariants.{InitiateAdRetransmission, InitiateBcRetransmission, ReleaseBcFrame, CancelTimer, StartTimer, Alert, Initialise, TransmitUnlock, TransmitSetVr, TransmitBd}
use Rattle.fop.specs.declared.Action.TheVariants.{SetSuspendState, Suspend, Resume, SetVs, SetNnr, SetK, SetT1Initial, SetTransmissionLimit, SetTimeoutType, AdOutReady, BcOutReady, BdOutReady}
use Rattle.fop.specs.declared.Event.{Event as FopEvent}
use Rattle.fop.specs.declared.Event.TheVariants.{E1, E2, E3, E4, E5, E6, E7, E8, E9, E10, E11, E12, E13, E14, E15, E16, E17, E18, E19, E20, E21, E22, E23, E24, E25, E26, E27, E28, E29, E30, E31, E32, E33, E34}
use Rattle.fop.specs.declared.Event.TheVariants.{E35, E36, E37, E38, E39, E40, E41, E42, E43, E44, E45, E46, E101, E102, E103, E104}
use Rattle.fop.specs.declared.State.{State}
use Rattle.fop.specs.declared.State.TheVariants.{S1, S2, S3, S4, S5, S6}

-- the events by their numbers
abbrev pub event_number : FopEvent → ℕ
event_number E1 = 1
event_number E2 = 2
event_number E3 = 3
event_number E4 = 4
event_number E5 = 5
event_number E6 = 6
event_number E7 = 7
event_number E8 = 8
event_number E9 = 9
event_number E10 = 10
event_number E11 = 11
event_number E12 = 12
event_number E13 = 13
event_number E14 = 14
event_number E15 = 15
event_number E16 = 16
event_number E17 = 17
event_number E18 = 18
event_number E19 = 19
event_number E20 = 20
event_number E21 = 21
event_number E22 = 22
event_number E23 = 23
event_number E24 = 24
event_number E25 = 25
event_number E26 = 26
event_number E27 = 27
event_number E28 = 28
event_number E29 = 29
event_number E30 = 30
event_number E31 = 31
event_number E32 = 32
event_number E33 = 33
event_number E34 = 34
event_number E35 = 35
event_number E36 = 36
event_number E37 = 37
event_number E38 = 38
event_number E39 = 39
event_number E40 = 40
event_number E41 = 41
event_number E42 = 42
event_number E43 = 43
event_number E44 = 44
event_number E45 = 45
event_number E46 = 46
event_number E101 = 101
event_number E102 = 102
event_number E103 = 103
event_number E104 = 104

-- Back: E1 to E46 are 1 to 46, E101 to E104 are 101 to 104. Any other number is no event.
abbrev pub place_numbered : ℕ → ℕ
place_numbered k = pick (ltb k 47) k (pick (ltb k 101) 0 (pick (ltb k 105) (k - 54) 0))

-- the events by their places
abbrev pub events : List FopEvent
events =
    E1 ∷ E2 ∷ E3 ∷ E4 ∷ E5 ∷ E6 ∷ E7 ∷ E8 ∷ E9 ∷ E10
    ∷ E11 ∷ E12 ∷ E13 ∷ E14 ∷ E15 ∷ E16 ∷ E17 ∷ E18 ∷ E19 ∷ E20
    ∷ E21 ∷ E22 ∷ E23 ∷ E24 ∷ E25 ∷ E26 ∷ E27 ∷ E28 ∷ E29 ∷ E30
    ∷ E31 ∷ E32 ∷ E33 ∷ E34 ∷ E35 ∷ E36 ∷ E37 ∷ E38 ∷ E39 ∷ E40
    ∷ E41 ∷ E42 ∷ E43 ∷ E44 ∷ E45 ∷ E46 ∷ E101 ∷ E102 ∷ E103 ∷ E104 ∷ []

-- the event with a number, if there is one
unfoldable pub event_of : ℕ → Option FopEvent
event_of k = get_or (none ∷ map some events) (place_numbered k) none

-- an event, or none, as the code has it
abbrev pub as_code : Option FopEvent → code.Option FopEvent
as_code none = None
as_code (some e) = Some e

-- the actions and the next state; "IF SS = 0 .. ELSE .." (E35); "Not Applicable", which has no next state
pub data Cell : Type 0 where
  cell : List Action → State → Cell
  if_not_suspended : List Action → List Action → State → Cell
  NotApplicable : Cell

-- the cells of S1 to S6
pub data Row : Type 0 where
  row : Cell → Cell → Cell → Cell → Cell → Cell → Row

-- "Ignore", which may still change the state
abbrev pub ignored : State → Cell
ignored s = cell (Ignore ∷ []) s

-- "Alert [reason]"
abbrev pub alerts : Reason → Cell
alerts r = cell (Alert r ∷ []) S6

-- the same cell in the main protocol's states S1 to S3, then S4, S5, S6
abbrev pub main : Cell → Cell → Cell → Cell → Row
main c d e f = row c c c d e f

-- the same actions in every state, which is kept
abbrev pub always : List Action → Row
always a = row (cell a S1) (cell a S2) (cell a S3) (cell a S4) (cell a S5) (cell a S6)

-- Reject, but in the Initial state
abbrev pub only_initial : Cell → Row
only_initial c = row (cell (Reject ∷ []) S1) (cell (Reject ∷ []) S2) (cell (Reject ∷ []) S3) (cell (Reject ∷ []) S4) (cell (Reject ∷ []) S5) c

-- Not Applicable, but in the Initial state
abbrev pub only_suspended : Cell → Row
only_suspended c = row NotApplicable NotApplicable NotApplicable NotApplicable NotApplicable c

-- the table; document 01 and CCSDS 232.1-B give the comparison signs that the copy lost (specs/Events)
unfoldable pub table78 : FopEvent → Row
-- CLCW arrives, valid, Lockout Flag = 0, N(R) = V(S), Retransmit Flag = 0, Wait Flag = 0, N(R) = NN(R)
table78 E1 =
    row (ignored S1) (alerts Synch) (alerts Synch) (cell (Confirm ∷ CancelTimer ∷ []) S1) (cell (Confirm ∷ ReleaseBcFrame ∷ CancelTimer ∷ []) S1) (ignored S6)
-- .. N(R) <> NN(R)
table78 E2 = main (cell (RemoveAcknowledgedFrames ∷ CancelTimer ∷ LookForFdu ∷ []) S1) NotApplicable NotApplicable (ignored S6)
-- .. Wait Flag = 1
table78 E3 = main (alerts Clcw) (alerts Clcw) (alerts Clcw) (ignored S6)
-- .. Retransmit Flag = 1
table78 E4 = main (alerts Synch) (alerts Synch) (ignored S5) (ignored S6)
-- N(R) < V(S) and N(R) >= NN(R), Retransmit Flag = 0, Wait Flag = 0, N(R) = NN(R)
table78 E5 = row (ignored S1) (alerts Synch) (alerts Synch) NotApplicable NotApplicable (ignored S6)
-- .. N(R) <> NN(R)
table78 E6 = main (cell (RemoveAcknowledgedFrames ∷ LookForFdu ∷ []) S1) NotApplicable NotApplicable (ignored S6)
-- .. Wait Flag = 1
table78 E7 = main (alerts Clcw) NotApplicable NotApplicable (ignored S6)
-- .. Retransmit Flag = 1, Transmission_Limit = 1, N(R) <> NN(R)
table78 E101 = main (cell (RemoveAcknowledgedFrames ∷ Alert Limit ∷ []) S6) NotApplicable NotApplicable (ignored S6)
-- .. N(R) = NN(R)
table78 E102 = main (alerts Limit) NotApplicable NotApplicable (ignored S6)
-- .. Transmission_Limit > 1, N(R) <> NN(R), Wait Flag = 0
table78 E8 = main (cell (RemoveAcknowledgedFrames ∷ InitiateAdRetransmission ∷ LookForFdu ∷ []) S2) NotApplicable NotApplicable (ignored S6)
-- .. Wait Flag = 1
table78 E9 = main (cell (RemoveAcknowledgedFrames ∷ []) S3) NotApplicable NotApplicable (ignored S6)
-- .. N(R) = NN(R), Transmission_Count < Transmission_Limit, Wait Flag = 0
table78 E10 =
    row (cell (InitiateAdRetransmission ∷ LookForFdu ∷ []) S2) (ignored S2) (cell (InitiateAdRetransmission ∷ LookForFdu ∷ []) S2) NotApplicable
    NotApplicable (ignored S6)
-- .. Wait Flag = 1
table78 E11 = main (ignored S3) NotApplicable NotApplicable (ignored S6)
-- .. Transmission_Count >= Transmission_Limit, Wait Flag = 0
table78 E12 = main (ignored S2) NotApplicable NotApplicable (ignored S6)
-- .. Wait Flag = 1
table78 E103 = main (ignored S3) NotApplicable NotApplicable (ignored S6)
-- Invalid N(R): N(R) < NN(R) or > V(S)
table78 E13 = main (alerts Nnr) (alerts Nnr) (ignored S5) (ignored S6)
-- Lockout Flag = 1
table78 E14 = main (alerts Lockout) (alerts Lockout) (ignored S5) (ignored S6)
-- CLCW arrives with pattern of bits invalid under COP-1
table78 E15 = main (alerts Clcw) (alerts Clcw) (alerts Clcw) (ignored S6)
-- Timer expires, Transmission_Count < Transmission_Limit, Timeout_Type = 0
table78 E16 =
    row (cell (InitiateAdRetransmission ∷ LookForFdu ∷ []) S1) (cell (InitiateAdRetransmission ∷ LookForFdu ∷ []) S2) (ignored S3) (alerts T1)
    (cell (InitiateBcRetransmission ∷ LookForDirective ∷ []) S5) NotApplicable
-- .. Timeout_Type = 1
table78 E104 =
    row (cell (InitiateAdRetransmission ∷ LookForFdu ∷ []) S1) (cell (InitiateAdRetransmission ∷ LookForFdu ∷ []) S2) (ignored S3)
    (cell (SetSuspendState 4 ∷ Suspend ∷ []) S6) (cell (InitiateBcRetransmission ∷ LookForDirective ∷ []) S5) NotApplicable
-- Transmission_Count >= Transmission_Limit, Timeout_Type = 0
table78 E17 = main (alerts T1) (alerts T1) (alerts T1) NotApplicable
-- .. Timeout_Type = 1
table78 E18 =
    row (cell (SetSuspendState 1 ∷ Suspend ∷ []) S6) (cell (SetSuspendState 2 ∷ Suspend ∷ []) S6) (cell (SetSuspendState 3 ∷ Suspend ∷ []) S6)
    (cell (SetSuspendState 4 ∷ Suspend ∷ []) S6) (alerts T1) NotApplicable
-- Receive Request to Transfer FDU, AD Service, Wait_Queue empty
table78 E19 =
    row (cell (AddToWaitQueue ∷ LookForFdu ∷ []) S1) (cell (AddToWaitQueue ∷ LookForFdu ∷ []) S2) (cell (AddToWaitQueue ∷ []) S3) (cell (RejectAd ∷ []) S4)
    (cell (RejectAd ∷ []) S5) (cell (RejectAd ∷ []) S6)
-- Wait_Queue not empty
table78 E20 = always (RejectAd ∷ [])
-- BD Service, BD_Out_Flag = Ready
table78 E21 = always (TransmitBd ∷ [])
-- BD_Out_Flag = Not_Ready
table78 E22 = always (RejectBd ∷ [])
-- Receive Directive: Initiate AD Service (without CLCW check)
table78 E23 = only_initial (cell (Accept ∷ Initialise ∷ Confirm ∷ []) S1)
-- Initiate AD Service (with CLCW check)
table78 E24 = only_initial (cell (Accept ∷ Initialise ∷ StartTimer ∷ []) S4)
-- Initiate AD Service (with Unlock), BC_Out_Flag = Ready
table78 E25 = only_initial (cell (Accept ∷ Initialise ∷ TransmitUnlock ∷ []) S5)
-- BC_Out_Flag = Not_Ready
table78 E26 = always (Reject ∷ [])
-- Initiate AD Service (with Set V(R)), BC_Out_Flag = Ready
table78 E27 = only_initial (cell (Accept ∷ Initialise ∷ SetVs ∷ SetNnr ∷ TransmitSetVr ∷ []) S5)
-- BC_Out_Flag = Not_Ready
table78 E28 = always (Reject ∷ [])
-- Terminate AD Service
table78 E29 =
    main (cell (Accept ∷ Alert Term ∷ Confirm ∷ []) S6) (cell (Accept ∷ Alert Term ∷ Confirm ∷ []) S6) (cell (Accept ∷ Alert Term ∷ Confirm ∷ []) S6)
    (cell (Accept ∷ Confirm ∷ []) S6)
-- Resume AD Service, SS = 0
table78 E30 = always (Reject ∷ [])
-- SS = 1
table78 E31 = only_suspended (cell (Accept ∷ Resume ∷ Confirm ∷ []) S1)
-- SS = 2
table78 E32 = only_suspended (cell (Accept ∷ Resume ∷ Confirm ∷ []) S2)
-- SS = 3
table78 E33 = only_suspended (cell (Accept ∷ Resume ∷ Confirm ∷ []) S3)
-- SS = 4
table78 E34 = only_suspended (cell (Accept ∷ Resume ∷ Confirm ∷ []) S4)
-- Set V(S) to V*(S)
table78 E35 = only_initial (if_not_suspended (Accept ∷ SetVs ∷ SetNnr ∷ Confirm ∷ []) (Reject ∷ []) S6)
-- Set FOP_Sliding_Window_Width
table78 E36 = always (Accept ∷ SetK ∷ Confirm ∷ [])
-- Set T1_Initial
table78 E37 = always (Accept ∷ SetT1Initial ∷ Confirm ∷ [])
-- Set Transmission_Limit
table78 E38 = always (Accept ∷ SetTransmissionLimit ∷ Confirm ∷ [])
-- Set Timeout_Type
table78 E39 = always (Accept ∷ SetTimeoutType ∷ Confirm ∷ [])
-- Invalid Directive
table78 E40 = always (Reject ∷ [])
-- Receive Response from Lower Layer: AD_Accept
table78 E41 =
    row (cell (AdOutReady ∷ LookForFdu ∷ []) S1) (cell (AdOutReady ∷ LookForFdu ∷ []) S2) (cell (AdOutReady ∷ []) S3) (cell (AdOutReady ∷ []) S4)
    (cell (AdOutReady ∷ []) S5) (cell (AdOutReady ∷ []) S6)
-- AD_Reject
table78 E42 = main (alerts Llif) (alerts Llif) (alerts Llif) (alerts Llif)
-- BC_Accept
table78 E43 =
    row (cell (BcOutReady ∷ []) S1) (cell (BcOutReady ∷ []) S2) (cell (BcOutReady ∷ []) S3) (cell (BcOutReady ∷ []) S4)
    (cell (BcOutReady ∷ LookForDirective ∷ []) S5) (cell (BcOutReady ∷ []) S6)
-- BC_Reject
table78 E44 = main (alerts Llif) (alerts Llif) (alerts Llif) (alerts Llif)
-- BD_Accept
table78 E45 = always (BdOutReady ∷ AcceptBd ∷ [])
-- BD_Reject
table78 E46 = main (alerts Llif) (alerts Llif) (alerts Llif) (alerts Llif)

-- the cell of a row in a state
abbrev pub cell78 : Row → State → Cell
cell78 (row a b c d e f) S1 = a
cell78 (row a b c d e f) S2 = b
cell78 (row a b c d e f) S3 = c
cell78 (row a b c d e f) S4 = d
cell78 (row a b c d e f) S5 = e
cell78 (row a b c d e f) S6 = f
