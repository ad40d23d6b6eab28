-- The Suspend notification (clause 7.9.2.18): no event but a tick gives it, and a tick gives it exactly where E18 or E104 suspends. Every action but
-- Suspend leaves it as it is, and every action but SS := n leaves Suspend_State 0 where it was; which cells have these two is computed, row by row. So
-- no suspension begins without the notification.
use mathlib.Core.Path.{◌≡◌, refl, sym, subst}
use mathlib.Core.Bool.{Bool, true, false, not, ◌&&◌, true≢false}
use mathlib.Core.List.{List, [], ◌∷◌}
use mathlib.Core.Option.{Option, none, some}
use Prim.Native.Nat.{ℕ}
use lib.Dec.{T, leb, ltb, eqb}
use borrow.Author.Tests.{lt-leb, le-leb, ltb-true, ltb-false}
use Rattle.base.specs.Choice.{pick}
use Rattle.fop.specs.Units.{WordReceived, valid, invalid, other}
use Rattle.fop.specs.declared.State.{State}
use Rattle.fop.specs.declared.State.TheVariants.{S1, S2, S3, S4, S5, S6}
use Rattle.fop.specs.declared.Lower.{Lower}
use Rattle.fop.specs.declared.Action.{Action}
use Rattle.fop.specs.declared.Action.TheVariants.{Ignore, Accept, Reject, Confirm, RejectAd}
use Rattle.fop.specs.declared.Event.{Event as FopEvent}
use Rattle.fop.specs.Table.{Cell, cell, if_not_suspended, NotApplicable, table78, cell78}
use Rattle.fop.specs.declared.Action.TheVariants.{AcceptBd, RejectBd, AddToWaitQueue, LookForFdu, LookForDirective, RemoveAcknowledgedFrames, InitiateAdRetransmission, InitiateBcRetransmission}
use Rattle.fop.specs.declared.Action.TheVariants.{ReleaseBcFrame, CancelTimer, StartTimer, Alert, Initialise, TransmitUnlock, TransmitSetVr, TransmitBd, SetSuspendState, Suspend, Resume}
use Rattle.fop.specs.declared.Action.TheVariants.{SetVs, SetNnr, SetK, SetT1Initial, SetTransmissionLimit, SetTimeoutType, AdOutReady, BcOutReady, BdOutReady}
use Rattle.fop.specs.Variables.{Fop, Work, begin}
use Rattle.fop.specs.Machine.{perform, perform_all, perform_cell, fop_do, send_next, send_waiting, transmit_ad, transmit_bc, remove_acknowledged}
use Rattle.fop.specs.Events.{when, first, is_empty, seen, word_lines, word_event, fop_word, fop_ad, fop_bd, expiry_lines, fop_expiry, fop_tick, lower_event, fop_lower, directive_lines, directive_event, fop_directive, fop_received}
use Rattle.fop.proofs.Choices.{by_pick, and_l, and_r}
use Rattle.fop.proofs.Ways.{look_ways, directive_ways, purge_ways}
use Rattle.fop.proofs.Test.{every_cell, every_cell_lem, first_all, lower_all, lowered, Keeps, all_keep, all_keep_lem}
use Rattle.suspension.specs.Suspension.{suspends_in, suspends_at}

-- no Suspend notification so far, and no suspension begun, where Suspend_State was n
abbrev Untold : ℕ → Work → Type 0
Untold n w = (w.notices.suspended ≡ false) × (n ≡ 0 → w.fop.suspend_state ≡ 0)

-- every action but SS := n and Suspend, with its proof
unfoldable untold : (n : ℕ) (x : Action) → Option (Keeps (Untold n) x)
unfolding perform remove_acknowledged transmit_bc send_next send_waiting transmit_ad
untold n Ignore = some (λ w h. h)
untold n Accept = some (λ w h. h)
untold n Reject = some (λ w h. h)
untold n Confirm = some (λ w h. h)
untold n RejectAd = some (λ w h. h)
untold n AcceptBd = some (λ w h. h)
untold n RejectBd = some (λ w h. h)
untold n AddToWaitQueue = some (λ w h. h)
untold n LookForFdu = some (λ w h. look_ways (Untold n) w h (λ u e. h) (λ o r e. h))
untold n LookForDirective = some (λ w h. directive_ways (Untold n) w h (λ b. h) w.fop.queues.bc_frame)
untold n RemoveAcknowledgedFrames = some (λ w h. h)
untold n InitiateAdRetransmission = some (λ w h. h)
untold n InitiateBcRetransmission = some (λ w h. h)
untold n ReleaseBcFrame = some (λ w h. h)
untold n CancelTimer = some (λ w h. h)
untold n StartTimer = some (λ w h. h)
untold n (Alert r) = some (λ w h. purge_ways (Untold n) w h (λ r v k. k))
untold n Initialise = some (λ w h. ((purge_ways (Untold n) w h (λ r v k. k)).0, λ z. refl))
untold n TransmitUnlock = some (λ w h. h)
untold n TransmitSetVr = some (λ w h. h)
untold n TransmitBd = some (λ w h. h)
untold n (SetSuspendState s) = none
untold n Suspend = none
untold n Resume = some (λ w h. (h.0, λ z. refl))
untold n SetVs = some (λ w h. h)
untold n SetNnr = some (λ w h. h)
untold n SetK = some (λ w h. h)
untold n SetT1Initial = some (λ w h. h)
untold n SetTransmissionLimit = some (λ w h. h)
untold n SetTimeoutType = some (λ w h. h)
untold n AdOutReady = some (λ w h. h)
untold n BcOutReady = some (λ w h. h)
untold n BdOutReady = some (λ w h. h)

abbrev cell_untold : ℕ → Cell → Bool
cell_untold n NotApplicable = true
cell_untold n (cell xs s) = all_keep (Untold n) (untold n) xs
cell_untold n (if_not_suspended xs ys s) = all_keep (Untold n) (untold n) xs && all_keep (Untold n) (untold n) ys

cell_untold_lem : (n : ℕ) (c : Cell) (w : Work) → T (cell_untold n c) → Untold n w → Untold n (perform_cell c w)
unfolding perform_cell
cell_untold_lem n NotApplicable w t h = h
cell_untold_lem n (cell xs s) w t h = all_keep_lem (Untold n) (untold n) xs w t h
cell_untold_lem n (if_not_suspended xs ys s) w t h =
    by_pick (Untold n) (eqb w.fop.suspend_state 0) (λ e. all_keep_lem (Untold n) (untold n) xs w (and_l (all_keep (Untold n) (untold n) xs) _ t) h)
    (λ e. all_keep_lem (Untold n) (untold n) ys w (and_r (all_keep (Untold n) (untold n) xs) _ t) h)

abbrev row_untold : ℕ → FopEvent → Bool
row_untold n e = every_cell (cell_untold n) (table78 e)

-- of the variables before the event
abbrev pub UntoldFrom : Fop → Work → Type 0
UntoldFrom f = Untold f.suspend_state

do_untold : (e : FopEvent) (o : List ℕ) (v : ℕ) (f : Fop) → T (row_untold f.suspend_state e) → UntoldFrom f (fop_do e o v f)
unfolding fop_do
do_untold e o v f t =
    cell_untold_lem f.suspend_state (cell78 (table78 e) f.state) (begin (some e) o v f) (every_cell_lem (cell_untold f.suspend_state) (table78 e) f.state t)
    (refl, λ z. z)

-- Every event but a tick.

pub ad_untold : (o : List ℕ) (f : Fop) → UntoldFrom f (fop_ad o f)
unfolding fop_ad table78 untold
ad_untold o f = do_untold _ o 0 f (first_all (row_untold f.suspend_state) (when (is_empty f.queues.wait_queue) FopEvent.E19 ∷ []) FopEvent.E20 tt)

pub bd_untold : (o : List ℕ) (f : Fop) → UntoldFrom f (fop_bd o f)
unfolding fop_bd table78 untold
bd_untold o f = do_untold _ o 0 f (first_all (row_untold f.suspend_state) (when f.out.bd FopEvent.E21 ∷ []) FopEvent.E22 tt)

pub lower_untold : (l : Lower) (f : Fop) → UntoldFrom f (fop_lower l f)
unfolding fop_lower table78 untold
lower_untold l f = do_untold (lower_event l) [] 0 f (lower_all (row_untold f.suspend_state) tt l)

pub directive_untold : (d v : ℕ) (f : Fop) → UntoldFrom f (fop_directive d v f)
unfolding fop_directive directive_event table78 untold
directive_untold d v f = do_untold _ [] v f (first_all (row_untold f.suspend_state) (directive_lines d v f) FopEvent.E39 tt)

pub received_untold : (x : WordReceived) (f : Fop) → UntoldFrom f (fop_received x f)
unfolding fop_received fop_word word_event table78 untold
received_untold (valid w) f = do_untold _ [] w.nr f (first_all (row_untold f.suspend_state) (word_lines (seen w f)) FopEvent.E103 tt)
received_untold invalid f = do_untold FopEvent.E15 [] 0 f tt
received_untold (other r) f = (refl, λ z. z)

-- The expiry, by the state and its two conditions, Transmission_Count < Transmission_Limit and Timeout_Type 0.
abbrev pub expires : Bool → Bool → State → Work → Work
expires short alerting s w = perform_cell (cell78 (table78 (first (expiry_lines short alerting) FopEvent.E18)) s) w

-- it tells exactly where it suspends, and elsewhere no suspension begins
module _ (n : ℕ) (w : Work) (h : Untold n w) where
  abbrev Tells : Bool → Work → Type 0
  Tells b v = (v.notices.suspended ≡ b) × (b ≡ false → n ≡ 0 → v.fop.suspend_state ≡ 0)

  silent : (e : FopEvent) (s : State) → T (cell_untold n (cell78 (table78 e) s)) → Tells false (perform_cell (cell78 (table78 e) s) w)
  silent e s t = let u = cell_untold_lem n (cell78 (table78 e) s) w t h in (u.0, λ b. u.1)

  expires_told : (short alerting : Bool) (s : State) → Tells (not alerting && suspends_in s (not short)) (expires short alerting s w)
  unfolding table78 untold
  expires_told true true s = silent FopEvent.E16 s (every_cell_lem (cell_untold n) (table78 FopEvent.E16) s tt)
  expires_told false true s = silent FopEvent.E17 s (every_cell_lem (cell_untold n) (table78 FopEvent.E17) s tt)
  expires_told true false S1 = silent FopEvent.E104 S1 tt
  expires_told true false S2 = silent FopEvent.E104 S2 tt
  expires_told true false S3 = silent FopEvent.E104 S3 tt
  expires_told true false S4 = unfold perform_cell perform_all perform in (refl, λ b. absurd (true≢false b))
  expires_told true false S5 = silent FopEvent.E104 S5 tt
  expires_told true false S6 = silent FopEvent.E104 S6 tt
  expires_told false false S1 = unfold perform_cell perform_all perform in (refl, λ b. absurd (true≢false b))
  expires_told false false S2 = unfold perform_cell perform_all perform in (refl, λ b. absurd (true≢false b))
  expires_told false false S3 = unfold perform_cell perform_all perform in (refl, λ b. absurd (true≢false b))
  expires_told false false S4 = unfold perform_cell perform_all perform in (refl, λ b. absurd (true≢false b))
  expires_told false false S5 = silent FopEvent.E18 S5 tt
  expires_told false false S6 = silent FopEvent.E18 S6 tt

-- Transmission_Count >= Transmission_Limit is where not Transmission_Count < Transmission_Limit
pub not_short : (a b : ℕ) → not (ltb a b) ≡ leb b a
not_short a b = go (ltb a b) refl
  where
    go : (t : Bool) → ltb a b ≡ t → not t ≡ leb b a
    go true e = sym (lt-leb b a (ltb-true a b e))
    go false e = sym (le-leb b a (ltb-false a b e))

pub tick_told : (f : Fop)
    → ((fop_tick f).notices.suspended ≡ suspends_at f) × (suspends_at f ≡ false → f.suspend_state ≡ 0 → (fop_tick f).fop.suspend_state ≡ 0)
unfolding fop_tick fop_expiry fop_do
tick_told f = go (eqb f.clock.timer 1)
  where
    at : Bool → Bool
    at limit = not (eqb f.preset.timeout_type 0) && suspends_in f.state limit

    go : (b : Bool) → Tells f.suspend_state (begin none [] 0 (lowered f)) (refl, λ z. z)
        (b && at (leb f.preset.transmission_limit f.clock.transmission_count)) (pick b (fop_expiry (lowered f)) (begin none [] 0 (lowered f)))
    go true =
        subst (λ (x : Bool). Tells f.suspend_state (begin none [] 0 (lowered f)) (refl, λ z. z) (at x) (fop_expiry (lowered f)))
        (not_short f.clock.transmission_count f.preset.transmission_limit)
        (expires_told f.suspend_state (begin _ [] 0 (lowered f)) (refl, λ z. z)
        (ltb f.clock.transmission_count f.preset.transmission_limit) (eqb f.preset.timeout_type 0) f.state)
    go false = (refl, λ b z. z)
