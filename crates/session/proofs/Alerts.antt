-- Which alerts the cells of table 7-8 can give: none but those of their own Alert actions, by a computed test of each cell.
use mathlib.Core.Logic.{◌⊎◌, inl, inr}
use mathlib.Core.Path.{◌≡◌, refl}
use mathlib.Core.Bool.{Bool, true, false}
use mathlib.Core.List.{List, [], ◌∷◌}
use mathlib.Core.Option.{Option, some}
use Prim.Native.Nat.{ℕ}
use Rattle.std.specs.Prelude as code
use Rattle.std.specs.Prelude.{None, Some}
use lib.Dec.{T, ltb, eqb}
use borrow.Author.Tests.{eqb-true}
use Rattle.fop.specs.declared.Alert.{Alert as Reason}
use Rattle.fop.specs.declared.Alert.TheVariants.{Synch, Clcw, Limit, Nnr, Lockout, T1, Term, Llif}
use Rattle.fop.specs.declared.State.{State}
use Rattle.fop.specs.declared.Action.{Action}
use Rattle.fop.specs.declared.Action.TheVariants.{Accept, Reject}
use Rattle.fop.specs.Table.{Cell, cell, NotApplicable, table78, cell78}
use Rattle.fop.specs.declared.Action.TheVariants.{Confirm, RejectAd, AcceptBd, RejectBd, AddToWaitQueue, LookForFdu, LookForDirective, RemoveAcknowledgedFrames, InitiateAdRetransmission}
use Rattle.fop.specs.declared.Action.TheVariants.{InitiateBcRetransmission, ReleaseBcFrame, CancelTimer, StartTimer, Alert, Initialise, TransmitUnlock, TransmitSetVr, TransmitBd}
use Rattle.fop.specs.declared.Action.TheVariants.{SetVs, SetNnr, SetK, SetT1Initial, SetTransmissionLimit, SetTimeoutType, AdOutReady, BcOutReady, BdOutReady}
use Rattle.fop.specs.Variables.{Work, begin}
use Rattle.fop.specs.Effective.{effective}
use Rattle.fop.specs.Machine.{fop_do, perform_cell, perform, send_next, send_waiting, transmit_ad, transmit_bc}
use Rattle.fop.specs.Machine.{remove_acknowledged}
use Rattle.fop.proofs.Choices.{by_pick}
use Rattle.fop.proofs.Ways.{look_ways, directive_ways, purge_ways}
use Rattle.session.specs.Ends.{SessionDirective}
use Rattle.session.proofs.Suspended.{session_all}
use Rattle.fop.proofs.Test.{first_all, lower_all, lowered, tick_ways, Keeps, where_so, all_keep, all_keep_lem}
use Rattle.session.proofs.Rows.{mode_of, sound, at_all, at_cell}
use Rattle.fop.specs.declared.Action.TheVariants.{Ignore, SetSuspendState, Suspend, Resume}
use Rattle.fop.specs.Table.{if_not_suspended}
use Rattle.fop.specs.declared.Event.{Event as FopEvent}
use Rattle.fop.specs.Variables.{Fop}
use Rattle.fop.specs.declared.Lower.{Lower}
use Rattle.fop.specs.Events.{when, first, expiry_lines, fop_expiry, fop_tick, fop_lower, fop_ad, fop_bd, is_empty, fop_directive}

-- no alert, or one that p allows
abbrev pub Allowed : (Reason → Bool) → code.Option Reason → Type 0
Allowed p r = (r ≡ None) ⊎ ((q : Reason) × (r ≡ Some q) × T (p q))

abbrev AllowedAlert : (Reason → Bool) → Work → Type 0
AllowedAlert p w = Allowed p w.notices.alert

-- every action but an alert that p does not allow, each with its proof
unfoldable pub allows : (p : Reason → Bool) (x : Action) → Option (Keeps (AllowedAlert p) x)
unfolding perform remove_acknowledged transmit_bc send_next send_waiting transmit_ad
allows p (Alert r) = where_so (p r) (λ t w h. inr (r, refl, t))
allows p Accept = some (λ w h. h)
allows p Reject = some (λ w h. h)
allows p Confirm = some (λ w h. h)
allows p RejectAd = some (λ w h. h)
allows p AcceptBd = some (λ w h. h)
allows p RejectBd = some (λ w h. h)
allows p Ignore = some (λ w h. h)
allows p (SetSuspendState n) = some (λ w h. h)
allows p Suspend = some (λ w h. h)
allows p Resume = some (λ w h. h)
allows p AddToWaitQueue = some (λ w h. h)
allows p LookForFdu = some (λ w h. look_ways (AllowedAlert p) w h (λ u e. h) (λ o r e. h))
allows p LookForDirective = some (λ w h. directive_ways (AllowedAlert p) w h (λ b. h) w.fop.queues.bc_frame)
allows p RemoveAcknowledgedFrames = some (λ w h. h)
allows p InitiateAdRetransmission = some (λ w h. h)
allows p InitiateBcRetransmission = some (λ w h. h)
allows p ReleaseBcFrame = some (λ w h. h)
allows p CancelTimer = some (λ w h. h)
allows p StartTimer = some (λ w h. h)
allows p Initialise = some (λ w h. purge_ways (AllowedAlert p) w h (λ r v k. k))
allows p TransmitUnlock = some (λ w h. h)
allows p TransmitSetVr = some (λ w h. h)
allows p TransmitBd = some (λ w h. h)
allows p SetVs = some (λ w h. h)
allows p SetNnr = some (λ w h. h)
allows p SetK = some (λ w h. h)
allows p SetT1Initial = some (λ w h. h)
allows p SetTransmissionLimit = some (λ w h. h)
allows p SetTimeoutType = some (λ w h. h)
allows p AdOutReady = some (λ w h. h)
allows p BcOutReady = some (λ w h. h)
allows p BdOutReady = some (λ w h. h)

-- a cell that is not for a suspended sender, with no alert but those that p allows
abbrev pub cell_allows : (Reason → Bool) → Cell → Bool
cell_allows p NotApplicable = true
cell_allows p (cell xs u) = all_keep (AllowedAlert p) (allows p) xs
cell_allows p (if_not_suspended xs ys u) = false

pub cell_allowed_lem : (p : Reason → Bool) (c : Cell) (w : Work) → T (cell_allows p c) → Allowed p w.notices.alert → Allowed p (perform_cell c w).notices.alert
unfolding perform_cell
cell_allowed_lem p NotApplicable w t h = h
cell_allowed_lem p (cell xs s) w t h = all_keep_lem (AllowedAlert p) (allows p) xs w t h
cell_allowed_lem p (if_not_suspended xs ys s) w t h = absurd t

-- the alerts of an event that is neither a word nor a tick: of Terminate, of the lower layer
abbrev pub own_alert : Reason → Bool
own_alert Synch = false
own_alert Clcw = false
own_alert Limit = false
own_alert Nnr = false
own_alert Lockout = false
own_alert T1 = false
own_alert Term = true
own_alert Llif = true

-- that of the timer
abbrev timer_alert : Reason → Bool
timer_alert Synch = false
timer_alert Clcw = false
timer_alert Limit = false
timer_alert Nnr = false
timer_alert Lockout = false
timer_alert T1 = true
timer_alert Term = false
timer_alert Llif = false

abbrev allows_in : (Reason → Bool) → State → Cell → Bool
allows_in p s c = cell_allows p c

abbrev row_allows_by : (Reason → Bool) → FopEvent → Bool
row_allows_by p e = at_all (allows_in p) (table78 e)

abbrev row_allows : FopEvent → Bool
row_allows e = row_allows_by own_alert e

do_allowed : (p : Reason → Bool) (e : FopEvent) (o : List ℕ) (v : ℕ) (f : Fop) → T (row_allows_by p e) → T (sound (mode_of (effective f)))
    → Allowed p (fop_do e o v f).notices.alert
unfolding fop_do
do_allowed p e o v f t g = cell_allowed_lem p (cell78 (table78 e) f.state) (begin (some e) o v f) (at_cell (allows_in p) (table78 e) f.state f.suspend_state t g) (inl refl)

-- of a sender in a state of the session
module _ (f : Fop) (g : T (sound (mode_of (effective f)))) where
  -- at Timeout_Type 0 an expiry alerts with T1, else with nothing
  alerting_tick : Allowed timer_alert (fop_tick f).notices.alert
  unfolding table78 allows
  alerting_tick = tick_ways (row_allows_by timer_alert) tt (AllowedAlert timer_alert) f (λ z. tt) (λ e t. do_allowed timer_alert e [] 0 (lowered f) t g) (inl refl)

  -- none is allowed
  suspending_tick : eqb f.preset.timeout_type 0 ≡ false → Allowed (λ r. false) (fop_tick f).notices.alert
  unfolding fop_tick fop_expiry table78 allows
  suspending_tick z = rw z (by_pick (AllowedAlert (λ r. false)) (eqb f.clock.timer 1) (λ b. go (ltb f.clock.transmission_count f.preset.transmission_limit)) (λ b. inl refl))
    where
      go : (short : Bool) → Allowed (λ r. false) (fop_do (first (expiry_lines short false) FopEvent.E18) [] 0 (lowered f)).notices.alert
      go true = do_allowed (λ r. false) FopEvent.E104 [] 0 (lowered f) tt g
      go false = do_allowed (λ r. false) FopEvent.E18 [] 0 (lowered f) tt g

  pub tick_alerts : ((fop_tick f).notices.alert ≡ None) ⊎ (((fop_tick f).notices.alert ≡ Some T1) × (f.preset.timeout_type ≡ 0))
  tick_alerts = by (eqb f.preset.timeout_type 0) refl
    where
      timer : (r : code.Option Reason) → Allowed timer_alert r → (r ≡ None) ⊎ (r ≡ Some T1)
      timer r (inl e) = inl e
      timer r (inr (Synch, e, t)) = absurd t
      timer r (inr (Clcw, e, t)) = absurd t
      timer r (inr (Limit, e, t)) = absurd t
      timer r (inr (Nnr, e, t)) = absurd t
      timer r (inr (Lockout, e, t)) = absurd t
      timer r (inr (T1, e, t)) = inr e
      timer r (inr (Term, e, t)) = absurd t
      timer r (inr (Llif, e, t)) = absurd t

      alerting : f.preset.timeout_type ≡ 0 → ((fop_tick f).notices.alert ≡ None) ⊎ ((fop_tick f).notices.alert ≡ Some T1)
          → ((fop_tick f).notices.alert ≡ None) ⊎ (((fop_tick f).notices.alert ≡ Some T1) × (f.preset.timeout_type ≡ 0))
      alerting z (inl e) = inl e
      alerting z (inr e) = inr (e, z)

      none : Allowed (λ r. false) (fop_tick f).notices.alert → (fop_tick f).notices.alert ≡ None
      none (inl e) = e
      none (inr (q, e, t)) = absurd t

      by : (b : Bool) → eqb f.preset.timeout_type 0 ≡ b
          → ((fop_tick f).notices.alert ≡ None) ⊎ (((fop_tick f).notices.alert ≡ Some T1) × (f.preset.timeout_type ≡ 0))
      by true e = alerting (eqb-true f.preset.timeout_type 0 e) (timer _ alerting_tick)
      by false e = inl (none (suspending_tick e))

  pub lower_alerts : (l : Lower) → Allowed own_alert (fop_lower l f).notices.alert
  unfolding fop_lower table78 allows
  lower_alerts l = do_allowed own_alert _ [] 0 f (lower_all row_allows tt l) g

  pub ad_alerts : (o : List ℕ) → Allowed own_alert (fop_ad o f).notices.alert
  unfolding fop_ad table78 allows
  ad_alerts o = do_allowed own_alert _ o 0 f (first_all row_allows (when (is_empty f.queues.wait_queue) FopEvent.E19 ∷ []) FopEvent.E20 tt) g

  pub bd_alerts : (o : List ℕ) → Allowed own_alert (fop_bd o f).notices.alert
  unfolding fop_bd table78 allows
  bd_alerts o = do_allowed own_alert _ o 0 f (first_all row_allows (when f.out.bd FopEvent.E21 ∷ []) FopEvent.E22 tt) g

  -- the directives of a session
  pub directive_alerts : (d v : ℕ) → SessionDirective d → Allowed own_alert (fop_directive d v f).notices.alert
  unfolding fop_directive table78 allows
  directive_alerts d v h = do_allowed own_alert _ [] v f (session_all row_allows tt d v f h) g
