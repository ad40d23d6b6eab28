-- An event hands down at most one frame: each action has a count with its proof, and a computed test shows that the counts of every cell of
-- table 7-8 add up to 1 at most.
use mathlib.Core.Path.{◌≡◌, refl, ap}
use mathlib.Core.Bool.{Bool, true, ◌&&◌}
use mathlib.Core.List.{List, [], ◌∷◌, ◌++◌}
use mathlib.Core.Option.{some}
use Prim.Native.Nat.{ℕ, ◌+◌, ◌≤◌}
use native.Mathlib.Omega.{arith}
use lib.Dec.{leb, ltb, eqb, T, leb→le}
use lib.ListN.{length, length-append}
use Rattle.fop.specs.Units.{Frame, AD, WordReceived, valid, invalid, other, Own, read_word}
use Rattle.fop.specs.declared.Action.{Action}
use Rattle.fop.specs.declared.Action.TheVariants.{Ignore, SetSuspendState, Suspend, Resume, Accept, Reject, Confirm}
use Rattle.fop.specs.declared.Event.{Event as FopEvent}
use Rattle.fop.specs.Table.{Cell, cell, if_not_suspended, NotApplicable, table78, cell78}
use Rattle.fop.specs.declared.Action.TheVariants.{RejectAd, AcceptBd, RejectBd, AddToWaitQueue, LookForFdu, LookForDirective, RemoveAcknowledgedFrames, InitiateAdRetransmission}
use Rattle.fop.specs.declared.Action.TheVariants.{InitiateBcRetransmission, ReleaseBcFrame, CancelTimer, StartTimer, Alert, Initialise, TransmitUnlock, TransmitSetVr, TransmitBd}
use Rattle.fop.specs.declared.Action.TheVariants.{SetVs, SetNnr, SetK, SetT1Initial, SetTransmissionLimit, SetTimeoutType, AdOutReady, BcOutReady, BdOutReady}
use Rattle.fop.specs.Variables.{Fop, Work}
use Rattle.fop.specs.Machine.{perform, perform_all, perform_cell, look_for_fdu, send_next, send_waiting, transmit_ad, transmit_bc}
use Rattle.fop.specs.Variables.{begin}
use Rattle.fop.specs.Machine.{purge, remove_acknowledged, fop_do}
use Rattle.fop.specs.declared.Lower.{Lower}
use Rattle.fop.specs.Events.{when, expiry_lines, word_lines, word_event, seen, fop_word, fop_ad, fop_bd, fop_expiry, fop_tick, fop_lower, fop_directive, directive_lines}
use Rattle.fop.specs.Events.{directive_event, is_empty, fop_received, SenderEvent, request_ad, request_bd, lower, directive, word_arrives, work}
use Rattle.fop.specs.Events as fop
use Rattle.fop.proofs.Choices.{by_pick, and_l, and_r}
use Rattle.fop.proofs.Ways.{look_ways, directive_ways, purge_ways}
use Rattle.fop.proofs.Test.{every_cell, every_cell_lem, first_all, lower_all}

abbrev Most : ℕ → Work → Type 0
Most k w = length w.frames ≤ k

one_more : (w : Work) (x : Frame) → length (w.frames ++ (x ∷ [])) ≤ length w.frames + 1
one_more w x = omega (arith, length-append w.frames (x ∷ []))

look_few : (w : Work) → Most (length w.frames + 1) (look_for_fdu w)
unfolding send_next send_waiting transmit_ad
look_few w = look_ways (Most (length w.frames + 1)) w (omega arith) (λ u e. one_more w (AD u)) (λ o r e. one_more w _)

pub purge_few : (w : Work) → (purge w).frames ≡ w.frames
purge_few w = purge_ways (λ v. v.frames ≡ w.frames) w refl (λ r v k. k)

-- the frames that an action can hand down, at most, with the proof
unfoldable sends : (x : Action) → (k : ℕ) × ((w : Work) → Most (length w.frames + k) (perform x w))
unfolding perform remove_acknowledged transmit_bc
sends Accept = (0, λ w. omega arith)
sends Reject = (0, λ w. omega arith)
sends Confirm = (0, λ w. omega arith)
sends RejectAd = (0, λ w. omega arith)
sends AcceptBd = (0, λ w. omega arith)
sends RejectBd = (0, λ w. omega arith)
sends Ignore = (0, λ w. omega arith)
sends (SetSuspendState s) = (0, λ w. omega arith)
sends Suspend = (0, λ w. omega arith)
sends Resume = (0, λ w. omega arith)
sends AddToWaitQueue = (0, λ w. omega arith)
sends LookForFdu = (1, look_few)
sends LookForDirective = (1, λ w. directive_ways (Most (length w.frames + 1)) w (omega arith) (λ b. one_more w b.frame) w.fop.queues.bc_frame)
sends RemoveAcknowledgedFrames = (0, λ w. omega arith)
sends InitiateAdRetransmission = (0, λ w. omega arith)
sends InitiateBcRetransmission = (0, λ w. omega arith)
sends ReleaseBcFrame = (0, λ w. omega arith)
sends CancelTimer = (0, λ w. omega arith)
sends StartTimer = (0, λ w. omega arith)
sends (Alert r) = (0, λ w. omega (arith, ap length (purge_few w)))
sends Initialise = (0, λ w. omega (arith, ap length (purge_few w)))
sends TransmitUnlock = (1, λ w. one_more w _)
sends TransmitSetVr = (1, λ w. one_more w _)
sends TransmitBd = (1, λ w. one_more w _)
sends SetVs = (0, λ w. omega arith)
sends SetNnr = (0, λ w. omega arith)
sends SetK = (0, λ w. omega arith)
sends SetT1Initial = (0, λ w. omega arith)
sends SetTransmissionLimit = (0, λ w. omega arith)
sends SetTimeoutType = (0, λ w. omega arith)
sends AdOutReady = (0, λ w. omega arith)
sends BcOutReady = (0, λ w. omega arith)
sends BdOutReady = (0, λ w. omega arith)

abbrev sends_all : List Action → ℕ
sends_all [] = 0
sends_all (x ∷ xs) = (sends x).0 + sends_all xs

all_few : (xs : List Action) (w : Work) → Most (length w.frames + sends_all xs) (perform_all xs w)
unfolding perform_all
all_few [] w = omega arith
all_few (x ∷ xs) w = omega (arith, (sends x).1 w, all_few xs (perform x w))

-- no cell of the table hands down more than one
abbrev cell_few : Cell → Bool
cell_few NotApplicable = true
cell_few (cell xs s) = leb (sends_all xs) 1
cell_few (if_not_suspended xs ys s) = leb (sends_all xs) 1 && leb (sends_all ys) 1

abbrev row_few : FopEvent → Bool
row_few e = every_cell cell_few (table78 e)

done_few : (c : Cell) (w : Work) → T (cell_few c) → length w.frames ≡ 0 → Most 1 (perform_cell c w)
unfolding perform_cell
done_few NotApplicable w t z = omega arith
done_few (if_not_suspended xs ys s) w t z =
    by_pick (Most 1) (eqb w.fop.suspend_state 0)
    (λ e. omega (arith, leb→le (sends_all xs) 1 (and_l (leb (sends_all xs) 1) _ t), all_few xs w))
    (λ e. omega (arith, leb→le (sends_all ys) 1 (and_r (leb (sends_all xs) 1) _ t), all_few ys w))
done_few (cell xs s) w t z = omega (arith, leb→le (sends_all xs) 1 t, all_few xs w)

do_few : (e : FopEvent) (o : List ℕ) (v : ℕ) (f : Fop) → T (row_few e) → Most 1 (fop_do e o v f)
unfolding fop_do
do_few e o v f t = done_few (cell78 (table78 e) f.state) (begin (some e) o v f) (every_cell_lem cell_few (table78 e) f.state t) refl

tick_few : (f : Fop) → Most 1 (fop_tick f)
unfolding fop_tick fop_expiry table78 sends
tick_few f =
    by_pick (Most 1) (eqb f.clock.timer 1)
    (λ t. do_few _ [] 0 _ (first_all row_few (expiry_lines (ltb f.clock.transmission_count f.preset.transmission_limit)
    (eqb f.preset.timeout_type 0)) FopEvent.E18 tt))
    (λ t. omega arith)

lower_few : (l : Lower) (f : Fop) → Most 1 (fop_lower l f)
unfolding fop_lower table78 sends
lower_few l f = do_few _ [] 0 f (lower_all row_few tt l)

received_few : (h : WordReceived) (f : Fop) → Most 1 (fop_received h f)
unfolding fop_received fop_word word_event table78 sends
received_few (valid w) f = do_few _ [] w.nr f (first_all row_few (word_lines (seen w f)) FopEvent.E103 tt)
received_few invalid f = do_few _ [] 0 f tt
received_few (other r) f = omega arith

ad_few : (o : List ℕ) (f : Fop) → Most 1 (fop_ad o f)
unfolding fop_ad table78 sends
ad_few o f = do_few _ o 0 f (first_all row_few (when (is_empty f.queues.wait_queue) FopEvent.E19 ∷ []) FopEvent.E20 tt)

bd_few : (o : List ℕ) (f : Fop) → Most 1 (fop_bd o f)
unfolding fop_bd table78 sends
bd_few o f = do_few _ o 0 f (first_all row_few (when f.out.bd FopEvent.E21 ∷ []) FopEvent.E22 tt)

directive_few : (d v : ℕ) (f : Fop) → Most 1 (fop_directive d v f)
unfolding fop_directive directive_event table78 sends
directive_few d v f = do_few _ [] v f (first_all row_few (directive_lines d v f) FopEvent.E39 tt)

pub work_few : (own : Own) (e : SenderEvent) (f : Fop) → length (work own e f).frames ≤ 1
unfolding work
work_few own (request_ad o) f = ad_few o f
work_few own (request_bd o) f = bd_few o f
work_few own fop.tick f = tick_few f
work_few own (lower l) f = lower_few l f
work_few own (directive d v) f = directive_few d v f
work_few own (word_arrives s) f = received_few (read_word own s) f
