-- The mode after each action of table 7-8, and after actions in their order; bad: what no cell has.
use mathlib.Core.Bool.{Bool, true, false}
use mathlib.Core.List.{List, [], ◌∷◌}
use Rattle.base.specs.Choice.{pick}
use Rattle.fop.specs.declared.Action.{Action}
use Rattle.fop.specs.declared.Action.TheVariants.{Ignore, Accept, Reject, Confirm, RejectAd, AcceptBd, RejectBd, AddToWaitQueue, LookForFdu, LookForDirective}
use Rattle.fop.specs.declared.Action.TheVariants.{RemoveAcknowledgedFrames, InitiateAdRetransmission, InitiateBcRetransmission, ReleaseBcFrame, CancelTimer, StartTimer, Alert, Initialise, TransmitUnlock}
use Rattle.fop.specs.declared.Action.TheVariants.{TransmitSetVr, TransmitBd, SetSuspendState, Suspend, Resume, SetVs, SetNnr, SetK, SetT1Initial, SetTransmissionLimit, SetTimeoutType, AdOutReady, BcOutReady, BdOutReady}
use Rattle.fop.specs.Variables.{Fop, Work}
use Rattle.fop.specs.Events.{SenderEvent}
use Rattle.ledger.proofs.Modes.{Given, unit, surplus, word, number, width, nothing, Mode, offered, queued, serving, answered, bad, view, Holding}

-- the next mode for each of those from which an action may come: of an AD request, of one whose unit waits, of another event, and with both queues empty
abbrev pub turn : (Bool → Mode) → Mode → Mode → Mode → Mode → Mode
turn o q s a (offered b) = o b
turn o q s a queued = q
turn o q s a serving = s
turn o q s a (answered true) = a
turn o q s a (answered false) = bad
turn o q s a bad = bad

-- so a law of an action needs a proof for each of these
pub turns : (e : SenderEvent) (f : Fop) (g : Given) (o : Bool → Mode) (q s a : Mode) (w v : Work)
    → ((b : Bool) → Holding e f g (offered b) (view w) → Holding e f g (o b) (view v)) → (Holding e f g queued (view w) → Holding e f g q (view v))
    → (Holding e f g serving (view w) → Holding e f g s (view v)) → (Holding e f g (answered true) (view w) → Holding e f g a (view v))
    → (m : Mode) → Holding e f g m (view w) → Holding e f g (turn o q s a m) (view v)
turns e f g o q s a w v c d i j (offered b) h = c b h
turns e f g o q s a w v c d i j queued h = d h
turns e f g o q s a w v c d i j serving h = i h
turns e f g o q s a w v c d i j (answered true) h = j h
turns e f g o q s a w v c d i j (answered false) h = tt
turns e f g o q s a w v c d i j bad h = tt

abbrev pub uncovered : Bool → Mode
uncovered b = bad

-- a response that says nothing of AD units
abbrev pub quietly : Mode → Mode
quietly m = turn uncovered bad serving (answered true) m

-- both queues are purged
abbrev pub purged : Mode → Mode
purged m = turn uncovered bad (answered true) (answered true) m

-- Look for FDU
abbrev pub looked : Mode → Mode
looked m = turn uncovered (answered false) (answered false) bad m

-- a BD unit is handed down
abbrev pub handing : Mode → Mode
handing m = turn uncovered bad (answered false) (answered true) m

-- what is done with both queues empty alone
abbrev pub emptily : Mode → Mode
emptily m = turn uncovered bad bad (answered true) m

-- the unit offered is rejected
abbrev pub rejected : Mode → Mode
rejected m = turn answered bad bad bad m

-- it is put on the Wait_Queue, which is empty, in service
abbrev pub queueing : Bool → Mode
queueing b = pick b bad queued

abbrev pub added : Given → Mode → Mode
added unit m = turn queueing bad bad bad m
added surplus m = bad
added word m = bad
added number m = bad
added width m = bad
added nothing m = bad

-- what N(R) acknowledges is confirmed
abbrev pub removed : Given → Mode → Mode
removed unit m = bad
removed surplus m = bad
removed word m = turn uncovered bad serving bad m
removed number m = bad
removed width m = bad
removed nothing m = bad

-- V(S) or NN(R) is set
abbrev pub numbered : Given → Mode → Mode
numbered unit m = bad
numbered surplus m = bad
numbered word m = bad
numbered number m = emptily m
numbered width m = bad
numbered nothing m = bad

-- K is set
abbrev pub widened : Given → Mode → Mode
widened unit m = bad
widened surplus m = bad
widened word m = bad
widened number m = bad
widened width m = quietly m
widened nothing m = bad

-- each action
abbrev pub after : Given → Action → Mode → Mode
after g Ignore m = m
after g Accept m = quietly m
after g Reject m = quietly m
after g Confirm m = quietly m
after g RejectAd m = rejected m
after g AcceptBd m = quietly m
after g RejectBd m = quietly m
after g AddToWaitQueue m = added g m
after g LookForFdu m = looked m
after g LookForDirective m = emptily m
after g RemoveAcknowledgedFrames m = removed g m
after g InitiateAdRetransmission m = m
after g InitiateBcRetransmission m = m
after g ReleaseBcFrame m = m
after g CancelTimer m = m
after g StartTimer m = m
after g (Alert r) m = purged m
after g Initialise m = purged m
after g TransmitUnlock m = emptily m
after g TransmitSetVr m = emptily m
after g TransmitBd m = handing m
after g (SetSuspendState n) m = m
after g Suspend m = m
after g Resume m = m
after g SetVs m = numbered g m
after g SetNnr m = numbered g m
after g SetK m = widened g m
after g SetT1Initial m = m
after g SetTransmissionLimit m = m
after g SetTimeoutType m = m
after g AdOutReady m = m
after g BcOutReady m = m
after g BdOutReady m = m

abbrev pub after_all : Given → List Action → Mode → Mode
after_all g [] m = m
after_all g (x ∷ xs) m = after_all g xs (after g x m)
