-- Every action keeps the work well formed. Most leave V(S), NN(R), the counts and the lengths alone; the others change them within their
-- bounds.
use Rattle.std.specs.Prelude.{Option, None, Some}
use mathlib.Core.Path.{◌≡◌, refl, subst, ◌∙◌}
use mathlib.Core.Bool.{Bool, true, false}
use mathlib.Core.List.{List}
use Prim.Native.Nat.{ℕ, ◌+◌, ◌≤◌, ◌<◌}
use native.Mathlib.Nat.{le_trans}
use native.Mathlib.Omega.{arith}
use borrow.Author.Tests.{ltb-true}
use lib.Dec.{ltb}
use lib.ListN.{length, set, length-set}
use Rattle.base.specs.Choice.{pick}
use Rattle.base.specs.Limits.{largest_unit}
use Rattle.base.specs.Modulo.{advanced, offset}
use Rattle.store.specs.Slid.{slid}
use Rattle.store.specs.Places.{unit_put, without}
use Rattle.store.proofs.Parts.{slid_length}
use Rattle.store.proofs.Need.{need_fewer, need_window}
use Rattle.store.proofs.Laws.{put_length, without_length, slid_short, set_short}
use Rattle.fop.specs.Limits.{largest_k}
use Rattle.fop.specs.declared.Alert.{Alert}
use Rattle.sender_values.specs.declared.Control.{Control}
use Rattle.sender_values.specs.declared.Control.TheVariants as control
use Rattle.sender_values.specs.declared.Handed.{Handed}
use Rattle.fop.specs.declared.Response.{Response}
use Rattle.fop.specs.declared.Response.TheVariants.{AcceptAdUnit, RejectAdUnit}
use Rattle.fop.specs.declared.State.{State}
use Rattle.sender_values.specs.declared.Work.{Work}
use Rattle.sender_values.specs.Parts.{with_settings, with_variables, with_queues, with_told}
use Rattle.sender_values.specs.Actions as act
use Rattle.sender_values.specs.Actions.{least, staying}
use Rattle.sender_view.specs.View.{Formed, WellFormed}
use Rattle.sender_view.proofs.ViewRemoval.{least_first}

-- The actions that leave them alone.
module _ (w : Work) (lengths store : List ℕ) (well : WellFormed w lengths store) where
  pub to_state_lem : (s : State) → WellFormed (act.to_state s w) lengths store
  unfolding act.to_state
  to_state_lem s = well

  pub start_timer_lem : WellFormed (act.start_timer w) lengths store
  unfolding act.start_timer with_variables
  start_timer_lem = well

  pub cancel_timer_lem : WellFormed (act.cancel_timer w) lengths store
  unfolding act.cancel_timer with_variables
  cancel_timer_lem = well

  pub ad_out_ready_lem : WellFormed (act.ad_out_ready w) lengths store
  unfolding act.ad_out_ready with_variables
  ad_out_ready_lem = well

  pub bc_out_ready_lem : WellFormed (act.bc_out_ready w) lengths store
  unfolding act.bc_out_ready with_variables
  bc_out_ready_lem = well

  pub bd_out_ready_lem : WellFormed (act.bd_out_ready w) lengths store
  unfolding act.bd_out_ready with_variables
  bd_out_ready_lem = well

  pub set_suspend_state_lem : (n : ℕ) → WellFormed (act.set_suspend_state n w) lengths store
  unfolding act.set_suspend_state with_variables
  set_suspend_state_lem n = well

  pub resume : WellFormed (act.resumed w) lengths store
  unfolding act.resumed act.set_suspend_state act.start_timer with_variables
  resume = well

  -- K set to the one that it is
  pub set_k_lem : (n : ℕ) → w.settings.k ≡ n → WellFormed (act.set_k n w) lengths store
  unfolding act.set_k with_settings
  set_k_lem n e = subst (λ (k : ℕ). Formed k w.variables.vs w.variables.nnr w.queues.sent w.queues.marked lengths store) e well

  pub set_t1_initial_lem : (n : ℕ) → WellFormed (act.set_t1_initial n w) lengths store
  unfolding act.set_t1_initial with_settings
  set_t1_initial_lem n = well

  pub set_transmission_limit_lem : (n : ℕ) → WellFormed (act.set_transmission_limit n w) lengths store
  unfolding act.set_transmission_limit with_settings
  set_transmission_limit_lem n = well

  pub set_timeout_type_lem : (n : ℕ) → WellFormed (act.set_timeout_type n w) lengths store
  unfolding act.set_timeout_type with_settings
  set_timeout_type_lem n = well

  pub respond : (r : Response) → WellFormed (act.respond r w) lengths store
  unfolding act.respond with_told
  respond r = well

  pub suspend : WellFormed (act.suspend w) lengths store
  unfolding act.suspend with_told
  suspend = well

  pub release_bc_frame_lem : WellFormed (act.release_bc_frame w) lengths store
  unfolding act.release_bc_frame act.hold_control with_queues
  release_bc_frame_lem = well

  transmit_bc_lem : (c : Option Control) (h : Option Handed) → WellFormed (act.transmit_bc_frame c h w) lengths store
  unfolding act.transmit_bc_frame act.start_timer act.hand_down act.hold_control with_variables with_queues with_told
  transmit_bc_lem c h = well

  pub transmit_unlock_lem : WellFormed (act.transmit_unlock w) lengths store
  unfolding act.transmit_unlock
  transmit_unlock_lem = transmit_bc_lem _ _

  pub transmit_set_vr_lem : (n : ℕ) → WellFormed (act.transmit_set_vr n w) lengths store
  unfolding act.transmit_set_vr
  transmit_set_vr_lem n = transmit_bc_lem _ _

  pub transmit_bd : WellFormed (act.transmit_bd_frame w) lengths store
  unfolding act.transmit_bd_frame act.hand_down with_variables with_told
  transmit_bd = well

  send_marked_control_lem : (h : Option Handed) → WellFormed (act.send_marked_control h w) lengths store
  unfolding act.send_marked_control act.send_control act.hand_down act.hold_control with_variables with_queues with_told
  send_marked_control_lem h = by w.variables.bc_out w.queues.control_marked where
    by : (a m : Bool) → WellFormed (pick a (pick m (act.send_control h w) w) w) lengths store
    by true true = well
    by true false = well
    by false m = well

  looked : (k : Option Control) → WellFormed (act.look_for_directive_of k w) lengths store
  unfolding act.look_for_directive_of
  looked None = well
  looked (Some control.Unlock) = send_marked_control_lem _
  looked (Some (control.SetVr x)) = send_marked_control_lem _

  pub look_for_directive_lem : WellFormed (act.look_for_directive w) lengths store
  look_for_directive_lem = looked w.queues.control

  pub initiate_bc_retransmission_lem : WellFormed (act.initiate_bc_retransmission w) lengths store
  unfolding act.initiate_bc_retransmission act.again act.start_timer act.abort act.hold_control with_variables with_queues with_told
  initiate_bc_retransmission_lem = well

  -- Other counts of units, within their bounds.
  counted : (sent marked : ℕ) → sent ≤ w.queues.sent → marked ≤ sent
      → Formed w.settings.k w.variables.vs w.variables.nnr sent marked lengths store
  counted sent marked few last = record {
    vs_octet = well.vs_octet;
    nnr_octet = well.nnr_octet;
    sent_most = le_trans few well.sent_most;
    outstanding = le_trans few well.outstanding;
    last = last;
    all_places = well.all_places;
    units = well.units;
    room = le_trans (need_fewer w.settings.k sent w.queues.sent few) well.room;
  }

  -- The marks.
  pub initiate_ad_retransmission_lem : WellFormed (act.initiate_ad_retransmission w) lengths store
  unfolding act.initiate_ad_retransmission act.again act.start_timer act.abort with_variables with_queues with_told
  initiate_ad_retransmission_lem = counted w.queues.sent w.queues.sent (omega arith) (omega arith)

  one_fewer : (m s : ℕ) → 0 < m → m ≤ s → s ≤ largest_k → offset m 1 ≤ s
  one_fewer m s a b c = omega arith

  send_marked_lem : 0 < w.queues.marked → WellFormed (act.send_marked w) lengths store
  unfolding act.send_marked act.hand_down with_variables with_queues with_told
  send_marked_lem h =
      let fewer : offset w.queues.marked 1 ≤ w.queues.sent = one_fewer w.queues.marked w.queues.sent h well.last well.sent_most in
      counted w.queues.sent (offset w.queues.marked 1) (omega arith) fewer

  -- One unit more.
  next_octet : (n : ℕ) → advanced n 1 < 256
  next_octet n = omega arith

  next_offset : (vs nnr : ℕ) → vs < 256 → nnr < 256 → offset vs nnr < largest_k → offset (advanced vs 1) nnr ≡ offset vs nnr + 1
  next_offset vs nnr a b c = omega arith

  next_count : (n : ℕ) → n ≤ largest_k → advanced n 1 ≡ n + 1
  next_count n h = omega arith

  transmit_ad_lem : w.settings.k ≤ largest_k → act.in_window w ≡ true → WellFormed (act.transmit_ad_frame (act.respond AcceptAdUnit w)) lengths store
  unfolding act.transmit_ad_frame act.in_window act.respond act.start_timer act.hand_down with_variables with_queues with_told
  transmit_ad_lem k i =
      let inside : offset w.variables.vs w.variables.nnr < w.settings.k = ltb-true (offset w.variables.vs w.variables.nnr) w.settings.k i in
      let a : offset w.variables.vs w.variables.nnr < largest_k = omega (arith, inside, k) in
      let b : offset (advanced w.variables.vs 1) w.variables.nnr ≡ offset w.variables.vs w.variables.nnr + 1 =
      next_offset w.variables.vs w.variables.nnr well.vs_octet well.nnr_octet a in
      let c : advanced w.queues.sent 1 ≡ w.queues.sent + 1 = next_count w.queues.sent well.sent_most in
      record {
        vs_octet = next_octet w.variables.vs;
        nnr_octet = well.nnr_octet;
        sent_most = rw c (omega (arith, a, well.outstanding));
        outstanding = rw (b, c) (omega (arith, well.outstanding));
        last = rw c (omega (arith, well.last));
        all_places = well.all_places;
        units = well.units;
        room = le_trans (need_window w.settings.k w.queues.sent (advanced w.queues.sent 1) (rw c (omega (arith, inside, well.outstanding)))) well.room;
      }

  pub look_for_fdu_lem : w.settings.k ≤ largest_k → WellFormed (act.look_for_fdu w) lengths store
  unfolding act.look_for_fdu
  look_for_fdu_lem k = by w.variables.ad_out (ltb 0 w.queues.marked) refl w.queues.waiting (act.in_window w) refl where
    by : (a m : Bool) → ltb 0 w.queues.marked ≡ m → (i r : Bool) → act.in_window w ≡ r
        → WellFormed (pick a (pick m (act.send_marked w) (pick i (pick r (act.transmit_ad_frame (act.respond AcceptAdUnit w)) w) w)) w) lengths store
    by false m x i r g = well
    by true true x i r g = send_marked_lem (ltb-true 0 w.queues.marked x)
    by true false x true true g = transmit_ad_lem k g
    by true false x true false g = well
    by true false x false r g = well

  -- No unit.
  empty : Formed w.settings.k w.variables.vs w.variables.nnr 0 0 lengths store
  empty = counted 0 0 (omega arith) (omega arith)

  sent_purged_lem : (k : Option Control) → WellFormed (act.deny_control k (act.emptied w)) lengths store
  unfolding act.deny_control act.respond act.emptied act.release_bc_frame act.hold_control with_queues with_told
  sent_purged_lem None = empty
  sent_purged_lem (Some control.Unlock) = empty
  sent_purged_lem (Some (control.SetVr x)) = empty

  pub purge_sent_queue_lem : WellFormed (act.purge_sent_queue w) lengths store
  unfolding act.purge_sent_queue
  purge_sent_queue_lem = sent_purged_lem w.queues.control

  pub purge_wait_queue_lem : WellFormed (act.purge_wait_queue w) lengths store
  unfolding act.purge_wait_queue act.not_waiting act.respond with_queues with_told
  purge_wait_queue_lem = by w.queues.waiting where
    by : (b : Bool) → WellFormed (pick b (act.respond RejectAdUnit (act.not_waiting w)) w) lengths store
    by true = well
    by false = well

-- Both queues purged.
both_purged_lem : (w : Work) (lengths store : List ℕ) → WellFormed w lengths store → WellFormed (act.purge_wait_queue (act.purge_sent_queue w)) lengths store
both_purged_lem w lengths store well = purge_wait_queue_lem (act.purge_sent_queue w) lengths store (purge_sent_queue_lem w lengths store well)

pub alert : (w : Work) (lengths store : List ℕ) (a : Option Alert) → WellFormed w lengths store → WellFormed (act.alert a w) lengths store
unfolding act.alert act.notify with_told
alert w lengths store a well = both_purged_lem (act.cancel_timer w) lengths store (cancel_timer_lem w lengths store well)

pub initialise : (w : Work) (lengths store : List ℕ) → WellFormed w lengths store → WellFormed (act.initialise w) lengths store
unfolding act.initialise act.count_one act.set_suspend_state with_variables
initialise w lengths store well = both_purged_lem w lengths store well

-- V(S) and NN(R) set to one number, with nothing on the sent queue.
pub set_numbers : (w : Work) (lengths store : List ℕ) (n : ℕ) → WellFormed w lengths store → w.queues.sent ≡ 0 → n < 256 → WellFormed (act.set_nnr n (act.set_vs n w)) lengths store
unfolding act.set_nnr act.set_vs with_variables
set_numbers w lengths store n well z h = record {
  vs_octet = h;
  nnr_octet = h;
  sent_most = well.sent_most;
  outstanding = omega (arith, z);
  last = well.last;
  all_places = well.all_places;
  units = well.units;
  room = well.room;
}

-- Remove acknowledged frames, by any number.
least_second : (a b : ℕ) → least a b ≤ b
least_second a b = by (ltb a b) refl where
  by : (x : Bool) → ltb a b ≡ x → pick x a b ≤ b
  by true e = omega (arith, ltb-true a b e)
  by false e = omega arith

module _ (w : Work) (lengths store : List ℕ) (well : WellFormed w lengths store) where
  pub remove_acknowledged_frames_lem : (n gone kept : ℕ) → n < 256 → WellFormed (act.remove_acknowledged_frames n w) (slid gone lengths) (without lengths gone kept store)
  unfolding act.remove_acknowledged_frames with_variables with_queues with_told
  remove_acknowledged_frames_lem n gone kept h = record {
    vs_octet = well.vs_octet;
    nnr_octet = h;
    sent_most = le_trans (least_first w.queues.sent (offset w.variables.vs n)) well.sent_most;
    outstanding = least_second w.queues.sent (offset w.variables.vs n);
    last = least_second w.queues.marked (staying n w);
    all_places = slid_length gone lengths ∙ well.all_places;
    units = slid_short gone lengths well.units;
    room = rw (without_length lengths gone store kept)
        (le_trans (need_fewer w.settings.k _ w.queues.sent (least_first w.queues.sent (offset w.variables.vs n))) well.room);
  }

  -- Add to Wait_Queue.
  pub add_to_wait_queue_lem : (o : List ℕ) → length o ≤ largest_unit
      → WellFormed (act.add_to_wait_queue w) (set lengths w.queues.sent (length o)) (unit_put w.queues.sent o store)
  unfolding act.add_to_wait_queue with_queues
  add_to_wait_queue_lem o h = record {
    vs_octet = well.vs_octet;
    nnr_octet = well.nnr_octet;
    sent_most = well.sent_most;
    outstanding = well.outstanding;
    last = well.last;
    all_places = length-set lengths w.queues.sent (length o) ∙ well.all_places;
    units = set_short lengths w.queues.sent (length o) h well.units;
    room = rw (put_length lengths store o w.queues.sent) well.room;
  }
