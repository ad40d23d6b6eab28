-- No row but E21's hands a type-BD frame down: no action but Transmit type-BD frame does, and no other row has it.
use Rattle.std.specs.Prelude.{None, Some}
use Rattle.std.specs.Prelude as std
use Prim.Native.Nat.{ℕ}
use mathlib.Core.Path.{◌≡◌, refl}
use mathlib.Core.Bool.{Bool, true, false, true≢false}
use mathlib.Core.List.{List, [], ◌∷◌}
use mathlib.Core.Option.{Option, none, some}
use lib.Dec.{ltb, eqb}
use Rattle.base.specs.Choice.{pick, both}
use Rattle.base.proofs.Tests.{apart, both_left, both_right}
use Rattle.fop.specs.declared.Action.{Action}
use Rattle.fop.specs.declared.Event.{Event as FopEvent}
use Rattle.fop.specs.Table.{Cell, cell, if_not_suspended, NotApplicable, table78, cell78}
use Rattle.fop.specs.declared.Action.TheVariants.{Ignore, Accept, Reject, Confirm, RejectAd, AcceptBd, RejectBd, AddToWaitQueue, LookForFdu, LookForDirective, RemoveAcknowledgedFrames}
use Rattle.fop.specs.declared.Action.TheVariants.{InitiateAdRetransmission, InitiateBcRetransmission, ReleaseBcFrame, CancelTimer, StartTimer, Alert, Initialise, TransmitUnlock, TransmitSetVr, TransmitBd}
use Rattle.fop.specs.declared.Action.TheVariants.{SetSuspendState, Suspend, Resume, SetVs, SetNnr, SetK, SetT1Initial, SetTransmissionLimit, SetTimeoutType, AdOutReady, BcOutReady, BdOutReady}
use Rattle.fop.specs.declared.Event.TheVariants.{E1, E2, E3, E4, E5, E6, E7, E8, E9, E10, E11, E12, E13, E14, E15, E16, E17, E18, E19, E20, E21, E22, E23, E24, E25, E26, E27, E28, E29, E30, E31, E32, E33, E34}
use Rattle.fop.specs.declared.Event.TheVariants.{E35, E36, E37, E38, E39, E40, E41, E42, E43, E44, E45, E46, E101, E102, E103, E104}
use Rattle.sender_values.specs.declared.Control.{Control}
use Rattle.sender_values.specs.declared.Control.TheVariants as control
use Rattle.sender_values.specs.declared.Handed.{Handed}
use Rattle.sender_values.specs.declared.Handed.TheVariants as handed
use Rattle.fop.specs.declared.Response.TheVariants as response
use Rattle.sender_values.specs.declared.SenderState.{SenderState}
use Rattle.sender_values.specs.declared.Work.{Work}
use Rattle.sender_values.specs.Actions as act
use Rattle.sender_values.specs.Parts.{with_settings, with_variables, with_queues, with_told}
use Rattle.sender_values.specs.Start.{begun, none_told}
use Rattle.sender_table.specs.Rows.{done, done_all, done_cell, row_of}
use Rattle.fop.specs.Table.{event_number}
use Rattle.sender_rows_view.proofs.Allowed.{every, every_in}
use Rattle.fop.proofs.Choices.{by_pick}
use Rattle.fop.proofs.Test.{is_there}

-- a type-BD frame is handed down
abbrev pub bypasses : std.Option Handed → Bool
bypasses None = false
bypasses (Some (handed.Ad n i)) = false
bypasses (Some handed.Bd) = true
bypasses (Some handed.Unlock) = false
bypasses (Some (handed.SetVr n)) = false

-- none is
abbrev Unbypassed : Work → Type 0
Unbypassed w = bypasses w.told.handed ≡ false

-- The actions that test before they act.
module _ (w : Work) (h : Unbypassed w) where
  looked : Unbypassed (act.look_for_fdu w)
  unfolding act.look_for_fdu act.send_marked act.transmit_ad_frame act.respond act.start_timer act.hand_down with_variables with_queues with_told
  looked = by w.variables.ad_out (ltb 0 w.queues.marked) w.queues.waiting (act.in_window w) where
    by : (a m i r : Bool)
        → Unbypassed (pick a (pick m (act.send_marked w) (pick i (pick r (act.transmit_ad_frame (act.respond response.AcceptAdUnit w)) w) w)) w)
    by false m i r = h
    by true true i r = refl
    by true false true true = refl
    by true false true false = h
    by true false false r = h

  controlled : (x : std.Option Handed) → bypasses x ≡ false → Unbypassed (act.send_marked_control x w)
  unfolding act.send_marked_control act.send_control act.hand_down act.hold_control with_variables with_queues with_told
  controlled x k = by w.variables.bc_out w.queues.control_marked where
    by : (a m : Bool) → Unbypassed (pick a (pick m (act.send_control x w) w) w)
    by true true = k
    by true false = h
    by false m = h

  directed : (c : std.Option Control) → Unbypassed (act.look_for_directive_of c w)
  unfolding act.look_for_directive_of
  directed None = h
  directed (Some control.Unlock) = controlled (Some handed.Unlock) refl
  directed (Some (control.SetVr n)) = controlled (Some (handed.SetVr n)) refl

  denied : (c : std.Option Control) → Unbypassed (act.deny_control c (act.emptied w))
  unfolding act.deny_control act.respond act.emptied act.release_bc_frame act.hold_control with_queues with_told
  denied None = h
  denied (Some control.Unlock) = h
  denied (Some (control.SetVr n)) = h

  sent_purged_lem : Unbypassed (act.purge_sent_queue w)
  unfolding act.purge_sent_queue
  sent_purged_lem = denied w.queues.control

  wait_purged_lem : Unbypassed (act.purge_wait_queue w)
  unfolding act.purge_wait_queue act.not_waiting act.respond with_queues with_told
  wait_purged_lem = by_pick Unbypassed w.queues.waiting (λ b. h) (λ b. h)

purged : (w : Work) → Unbypassed w → Unbypassed (act.purge_wait_queue (act.purge_sent_queue w))
purged w h = wait_purged_lem (act.purge_sent_queue w) (sent_purged_lem w h)

-- any action but Transmit type-BD frame, each with the proof that it hands no type-BD frame down
unfoldable other : (a : Action) → Option ((n : ℕ) (w : Work) → Unbypassed w → Unbypassed (done a n w))
unfolding done act.respond act.add_to_wait_queue act.remove_acknowledged_frames act.initiate_ad_retransmission act.initiate_bc_retransmission act.again act.abort act.release_bc_frame act.hold_control act.cancel_timer act.start_timer act.alert act.notify act.initialise act.count_one act.transmit_unlock act.transmit_set_vr act.transmit_bc_frame act.hand_down act.set_suspend_state act.suspend act.resumed act.set_vs act.set_nnr act.set_k act.set_t1_initial act.set_transmission_limit act.set_timeout_type act.ad_out_ready act.bc_out_ready act.bd_out_ready with_settings with_variables with_queues with_told
other Ignore = some (λ n w h. h)
other Accept = some (λ n w h. h)
other Reject = some (λ n w h. h)
other Confirm = some (λ n w h. h)
other RejectAd = some (λ n w h. h)
other AcceptBd = some (λ n w h. h)
other RejectBd = some (λ n w h. h)
other AddToWaitQueue = some (λ n w h. h)
other LookForFdu = some (λ n w h. looked w h)
other LookForDirective = some (λ n w h. directed w h w.queues.control)
other RemoveAcknowledgedFrames = some (λ n w h. h)
other InitiateAdRetransmission = some (λ n w h. h)
other InitiateBcRetransmission = some (λ n w h. h)
other ReleaseBcFrame = some (λ n w h. h)
other CancelTimer = some (λ n w h. h)
other StartTimer = some (λ n w h. h)
other (Alert r) = some (λ n w h. purged (act.cancel_timer w) h)
other Initialise = some (λ n w h. purged w h)
other TransmitUnlock = some (λ n w h. refl)
other TransmitSetVr = some (λ n w h. refl)
other TransmitBd = none
other (SetSuspendState k) = some (λ n w h. h)
other Suspend = some (λ n w h. h)
other Resume = some (λ n w h. h)
other SetVs = some (λ n w h. h)
other SetNnr = some (λ n w h. h)
other SetK = some (λ n w h. h)
other SetT1Initial = some (λ n w h. h)
other SetTransmissionLimit = some (λ n w h. h)
other SetTimeoutType = some (λ n w h. h)
other AdOutReady = some (λ n w h. h)
other BcOutReady = some (λ n w h. h)
other BdOutReady = some (λ n w h. h)

-- actions in their order
abbrev others : List Action → Bool
others [] = true
others (a ∷ more) = both (is_there (other a)) (others more)

abbrev other_cell : Cell → Bool
other_cell NotApplicable = true
other_cell (cell acts s) = others acts
other_cell (if_not_suspended acts more s) = both (others acts) (others more)

all : (acts : List Action) (n : ℕ) (w : Work) → others acts ≡ true → Unbypassed w → Unbypassed (done_all acts n w)
unfolding done_all
all [] n w t h = h
all (a ∷ more) n w t h =
    all more n (done a n w) (both_right (is_there (other a)) (others more) t) (one (other a) (both_left (is_there (other a)) (others more) t))
  where
    one : (k : Option ((n : ℕ) (w : Work) → Unbypassed w → Unbypassed (done a n w))) → is_there k ≡ true → Unbypassed (done a n w)
    one none t = absurd (apart t)
    one (some k) t = k n w h

in_cell : (c : Cell) (n : ℕ) (w : Work) → other_cell c ≡ true → Unbypassed w → Unbypassed (done_cell c n w)
unfolding done_cell act.to_state
in_cell NotApplicable n w t h = h
in_cell (cell acts s) n w t h = all acts n w t h
in_cell (if_not_suspended acts more s) n w t h =
    by_pick Unbypassed (eqb w.variables.suspend_state 0) (λ b. all acts n w (both_left (others acts) (others more) t) h)
    (λ b. all more n w (both_right (others acts) (others more) t) h)

-- the rows
rows : (e : FopEvent) → eqb (event_number e) 21 ≡ false → every (λ x. other_cell (cell78 (table78 e) x)) ≡ true
unfolding table78 other
rows E1 t = refl
rows E2 t = refl
rows E3 t = refl
rows E4 t = refl
rows E5 t = refl
rows E6 t = refl
rows E7 t = refl
rows E8 t = refl
rows E9 t = refl
rows E10 t = refl
rows E11 t = refl
rows E12 t = refl
rows E13 t = refl
rows E14 t = refl
rows E15 t = refl
rows E16 t = refl
rows E17 t = refl
rows E18 t = refl
rows E19 t = refl
rows E20 t = refl
rows E21 t = absurd (true≢false t)
rows E22 t = refl
rows E23 t = refl
rows E24 t = refl
rows E25 t = refl
rows E26 t = refl
rows E27 t = refl
rows E28 t = refl
rows E29 t = refl
rows E30 t = refl
rows E31 t = refl
rows E32 t = refl
rows E33 t = refl
rows E34 t = refl
rows E35 t = refl
rows E36 t = refl
rows E37 t = refl
rows E38 t = refl
rows E39 t = refl
rows E40 t = refl
rows E41 t = refl
rows E42 t = refl
rows E43 t = refl
rows E44 t = refl
rows E45 t = refl
rows E46 t = refl
rows E101 t = refl
rows E102 t = refl
rows E103 t = refl
rows E104 t = refl

pub no_bypass : (e : FopEvent) (n : ℕ) (s : SenderState) → eqb (event_number e) 21 ≡ false → Unbypassed (row_of e n (begun s))
unfolding row_of begun none_told
no_bypass e n s t = in_cell (cell78 (table78 e) s.state) n (begun s) (every_in (λ x. other_cell (cell78 (table78 e) x)) (rows e t) s.state) refl
