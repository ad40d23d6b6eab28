-- The actions that leave the queues alone: the timer, the out flags, the settings, the numbers, the responses, the retransmissions. Each
-- keeps what is known; the laws of crate sender_view say what the machine does.
use Prim.Native.Nat.{ℕ, suc, ◌%◌, ◌≤◌, ◌<◌}
use mathlib.Core.Path.{◌≡◌, refl, sym, ap, subst, ◌∙◌}
use mathlib.Core.Bool.{Bool, true, false}
use mathlib.Core.List.{List}
use native.Mathlib.Omega.{arith}
use Rattle.fop.specs.Limits.{largest_transmission_limit, largest_timeout_type}
use Rattle.fop.specs.Units.{Fdu}
use Rattle.fop.specs.declared.Action.TheVariants as action
use Rattle.fop.specs.declared.Action.{Action}
use Rattle.fop.specs.Variables as machine
use Rattle.fop.specs.Machine.{perform}
use Rattle.fop.specs.declared.Response.{Response}
use Rattle.sender_values.specs.declared.Work.{Work}
use Rattle.sender_values.specs.Parts.{with_settings, with_variables, with_queues, with_told}
use Rattle.sender_values.specs.Actions as act
use Rattle.sender_values.specs.Actions.{response_number}
use Rattle.sender_view.specs.View.{Formed}
use Rattle.sender_view.proofs.Kept as well
use Rattle.sender_view.proofs.ViewValues as values
use Rattle.sender_view.proofs.ViewAnswers.{Room, room_more}
use Rattle.sender_view.proofs.ViewTransmit as transmit
use Rattle.sender_rows_view.proofs.Mode.{Stored, Idle, started, ceased, released, suspended_at, resumed}
use Rattle.sender_rows_view.proofs.Known.{Case, seen, EndedOf, Open, Half, octet_is, less_room, known, starts, stops, releases, suspends, resettled, idle_again, counts_more}
use Rattle.sender_rows_view.proofs.Onward.{goes_on}

module _ (x : Case) (w : Work) (m : machine.Work) {p : Stored} {f : Bool} {z : Idle} {u : Bool} {l : ℕ} (h : Open x p f z u l w m) where
  abbrev e : EndedOf x p z h.lengths h.store h.c h.d w
  e = h.ended

  -- The timer, the out flags and the type-BC frame.
  pub ignore : Open x p f z u l w (perform action.Ignore m)
  ignore = goes_on h action.Ignore w h.d (values.ignore _ _ _ _ _ w h.lengths h.store) h.formed h.ended h.going

  pub cancel_timer_lem : Open x p f (ceased z) u l (act.cancel_timer w) (perform action.CancelTimer m)
  unfolding act.cancel_timer with_variables
  cancel_timer_lem =
      goes_on h action.CancelTimer (act.cancel_timer w) h.d (values.cancel_timer_lem _ _ _ _ _ w h.lengths h.store) h.formed (idle_again e e.counted (stops e.idle)) h.going

  pub start_timer_lem : Open x p f (started z) u l (act.start_timer w) (perform action.StartTimer m)
  unfolding act.start_timer with_variables
  start_timer_lem =
      goes_on h action.StartTimer (act.start_timer w) h.d (values.start_timer_lem _ _ _ _ _ w h.lengths h.store) h.formed (idle_again e e.counted (starts e.idle)) h.going

  pub ad_out_ready_lem : Open x p f z u l (act.ad_out_ready w) (perform action.AdOutReady m)
  unfolding act.ad_out_ready with_variables
  ad_out_ready_lem = goes_on h action.AdOutReady (act.ad_out_ready w) h.d (values.ad_out_ready_lem _ _ _ _ _ w h.lengths h.store) h.formed h.ended h.going

  pub bc_out_ready_lem : Open x p f z u l (act.bc_out_ready w) (perform action.BcOutReady m)
  unfolding act.bc_out_ready with_variables
  bc_out_ready_lem = goes_on h action.BcOutReady (act.bc_out_ready w) h.d (values.bc_out_ready_lem _ _ _ _ _ w h.lengths h.store) h.formed h.ended h.going

  pub bd_out_ready_lem : Open x p f z u l (act.bd_out_ready w) (perform action.BdOutReady m)
  unfolding act.bd_out_ready with_variables
  bd_out_ready_lem = goes_on h action.BdOutReady (act.bd_out_ready w) h.d (values.bd_out_ready_lem _ _ _ _ _ w h.lengths h.store) h.formed h.ended h.going

  pub release_bc_frame_lem : Open x p f (released z) u l (act.release_bc_frame w) (perform action.ReleaseBcFrame m)
  unfolding act.release_bc_frame act.hold_control with_queues
  release_bc_frame_lem =
      goes_on h action.ReleaseBcFrame (act.release_bc_frame w) h.d (values.release_bc_frame_lem _ _ _ _ _ w h.lengths h.store) h.formed
      (idle_again e e.counted (releases e.idle)) h.going

  -- Suspend_State set, the Suspend notification, Resume.
  pub set_suspend_state_lem : (n : ℕ) → Open x p f (suspended_at n z) u l (act.set_suspend_state n w) (perform (action.SetSuspendState n) m)
  unfolding act.set_suspend_state with_variables
  set_suspend_state_lem n =
      goes_on h (action.SetSuspendState n) (act.set_suspend_state n w) h.d (values.set_suspend_state_lem _ _ _ _ _ w h.lengths h.store n) h.formed
      (idle_again e e.counted (suspends e.idle n)) h.going

  pub suspend : Open x p f z u l (act.suspend w) (perform action.Suspend m)
  unfolding act.suspend with_told
  suspend = goes_on h action.Suspend (act.suspend w) h.d (values.suspend _ _ _ _ _ w h.lengths h.store) h.formed h.ended h.going

  pub resume : Open x p f (resumed z) u l (act.resumed w) (perform action.Resume m)
  unfolding act.resumed act.set_suspend_state act.start_timer with_variables
  resume =
      goes_on h action.Resume (act.resumed w) h.d (values.resume _ _ _ _ _ w h.lengths h.store) h.formed
      (idle_again e e.counted (suspends (starts e.idle) 0)) h.going

  -- The settings, within their limits.
  pub set_k_lem : x.value ≡ x.sender.settings.k → Open x p f z u l (act.set_k (x.value % 256) w) (perform action.SetK m)
  unfolding act.set_k with_settings
  set_k_lem n =
      let s = e.settled in
      let octet : x.value % 256 ≡ x.value = octet_is x.value (omega (arith, n, s.same_window, s.in_window)) in
      goes_on h action.SetK (act.set_k (x.value % 256) w) h.d
      (values.set_k_lem _ _ _ _ _ w h.lengths h.store ∙ ap (λ (k : ℕ). seen x h.c h.d (act.set_k k w) h.lengths h.store) (sym octet))
      (well.set_k_lem w h.lengths h.store h.formed (x.value % 256) (s.same_window ∙ sym n ∙ sym octet))
      (resettled e (record {
        same_window = octet ∙ n;
        window_least = omega (arith, octet, n, s.same_window, s.window_least);
        in_window = omega (arith, octet, n, s.same_window, s.in_window);
        clock_least = s.clock_least;
        limit_least = s.limit_least;
        in_limit = s.in_limit;
        type_most = s.type_most;
        own_spacecraft_lem = s.own_spacecraft_lem;
        own_channel_lem = s.own_channel_lem;
      })) h.going

  pub set_t1_initial_lem : 1 ≤ x.value → Open x p f z u l (act.set_t1_initial x.value w) (perform action.SetT1Initial m)
  unfolding act.set_t1_initial with_settings
  set_t1_initial_lem n =
      let s = e.settled in
      goes_on h action.SetT1Initial (act.set_t1_initial x.value w) h.d (values.set_t1_initial_lem _ _ _ _ _ w h.lengths h.store) h.formed
      (resettled e (record {
        same_window = s.same_window;
        window_least = s.window_least;
        in_window = s.in_window;
        clock_least = n;
        limit_least = s.limit_least;
        in_limit = s.in_limit;
        type_most = s.type_most;
        own_spacecraft_lem = s.own_spacecraft_lem;
        own_channel_lem = s.own_channel_lem;
      })) h.going

  pub set_transmission_limit_lem : (1 ≤ x.value) × (x.value ≤ largest_transmission_limit)
      → Open x p f z u l (act.set_transmission_limit (x.value % 256) w) (perform action.SetTransmissionLimit m)
  unfolding act.set_transmission_limit with_settings
  set_transmission_limit_lem n =
      let s = e.settled in
      goes_on h action.SetTransmissionLimit (act.set_transmission_limit (x.value % 256) w) h.d
      (values.set_transmission_limit_lem _ _ _ _ _ w h.lengths h.store
      ∙ ap (λ (k : ℕ). seen x h.c h.d (act.set_transmission_limit k w) h.lengths h.store) (sym (octet_is x.value (omega (arith, n.1)))))
      h.formed
      (resettled e (record {
        same_window = s.same_window;
        window_least = s.window_least;
        in_window = s.in_window;
        clock_least = s.clock_least;
        limit_least = omega (arith, n.0, n.1);
        in_limit = omega (arith, n.1);
        type_most = s.type_most;
        own_spacecraft_lem = s.own_spacecraft_lem;
        own_channel_lem = s.own_channel_lem;
      })) h.going

  pub set_timeout_type_lem : x.value ≤ largest_timeout_type → Open x p f z u l (act.set_timeout_type (x.value % 256) w) (perform action.SetTimeoutType m)
  unfolding act.set_timeout_type with_settings
  set_timeout_type_lem n =
      let s = e.settled in
      goes_on h action.SetTimeoutType (act.set_timeout_type (x.value % 256) w) h.d
      (values.set_timeout_type_lem _ _ _ _ _ w h.lengths h.store
      ∙ ap (λ (k : ℕ). seen x h.c h.d (act.set_timeout_type k w) h.lengths h.store) (sym (octet_is x.value (omega (arith, n)))))
      h.formed
      (resettled e (record {
        same_window = s.same_window;
        window_least = s.window_least;
        in_window = s.in_window;
        clock_least = s.clock_least;
        limit_least = s.limit_least;
        in_limit = s.in_limit;
        type_most = omega (arith, n);
        own_spacecraft_lem = s.own_spacecraft_lem;
        own_channel_lem = s.own_channel_lem;
      })) h.going

-- A response, where there is room.
pub respond : (x : Case) (w : Work) (m : machine.Work) {p : Stored} {f : Bool} {z : Idle} {u : Bool} {l : ℕ} (h : Open x p f z u (suc l) w m) (a : Action) (r : Response)
    → ((c d : List Fdu) (lengths store : List ℕ) → Room 1 w.told.responses → perform a (seen x c d w lengths store) ≡ seen x c d (act.respond r w) lengths store)
    → Open x p f z u l (act.respond r w) (perform a m)
unfolding act.respond with_told
respond x w m {p} {f} {z} {u} {l} h a r law =
    let g = h.going in
    goes_on h a (act.respond r w) h.d (law h.c h.d h.lengths h.store (less_room 1 (suc l) w.told.responses (omega arith) g.room)) h.formed h.ended
    (record { none = g.none; room = room_more l (response_number r) w.told.responses g.room; undenied = g.undenied; few = g.few })

-- The retransmissions, with Transmission_Count below 255.
module _ (x : Case) (w : Work) (m : machine.Work) {p : Stored} {z : Idle} {u : Bool} {l : ℕ} (h : Open x p true z u l w m) where
  counted_again : EndedOf x p (started z) h.lengths h.store h.c h.d (act.again w)
  unfolding act.again act.start_timer act.abort with_variables with_told
  counted_again = idle_again h.ended (counts_more h.going.few h.ended.counted) (starts h.ended.idle)

  pub initiate_ad_retransmission_lem : Open x p false (started z) u l (act.initiate_ad_retransmission w) (perform action.InitiateAdRetransmission m)
  unfolding act.initiate_ad_retransmission act.again act.start_timer act.abort with_variables with_queues with_told
  initiate_ad_retransmission_lem =
      let g = h.going in
      goes_on h action.InitiateAdRetransmission (act.initiate_ad_retransmission w) h.d (transmit.initiate_ad_retransmission_lem _ _ _ _ _ w h.lengths h.store g.few)
      (well.initiate_ad_retransmission_lem w h.lengths h.store h.formed) counted_again (record { none = g.none; room = g.room; undenied = g.undenied; few = tt })

  pub initiate_bc_retransmission_lem : Open x p false (started z) u l (act.initiate_bc_retransmission w) (perform action.InitiateBcRetransmission m)
  unfolding act.initiate_bc_retransmission act.again act.start_timer act.abort act.hold_control with_variables with_queues with_told
  initiate_bc_retransmission_lem =
      let g = h.going in
      goes_on h action.InitiateBcRetransmission (act.initiate_bc_retransmission w) h.d (transmit.initiate_bc_retransmission_lem _ _ _ _ _ w h.lengths h.store g.few)
      h.formed counted_again (record { none = g.none; room = g.room; undenied = g.undenied; few = tt })

-- V(S) and then NN(R), with the Sent_Queue empty.
pub set_vs_lem : (x : Case) (w : Work) (m : machine.Work) {p : Stored} {f : Bool} {z : Idle} {u : Bool} {l : ℕ} → x.value < 256 → z.unsent ≡ true → Open x p f z u l w m
    → Half x p z u l (act.set_vs (x.value % 256) w) (perform action.SetVs m)
unfolding act.set_vs act.set_nnr with_variables
set_vs_lem x w m n t h =
    let g = h.going in
    let empty : w.queues.sent ≡ 0 = known t h.ended.idle.unsent in
    record {
      lengths = h.lengths;
      store = h.store;
      c = h.c;
      d = h.d;
      is =
          ap (perform action.SetVs) h.is ∙ values.set_vs_lem _ _ _ _ _ w h.lengths h.store empty
          ∙ ap (λ (k : ℕ). seen x h.c h.d (act.set_vs k w) h.lengths h.store) (sym (octet_is x.value n));
      octet = n;
      numbered = refl;
      formed = well.set_numbers w h.lengths h.store (x.value % 256) h.formed empty (omega arith);
      ended = h.ended;
      going = record { none = g.none; room = g.room; undenied = g.undenied; few = tt };
    }

pub set_nnr_lem : (x : Case) (w : Work) (m : machine.Work) {p : Stored} {z : Idle} {u : Bool} {l : ℕ} → Half x p z u l w m
    → Open x p false z u l (act.set_nnr (x.value % 256) w) (perform action.SetNnr m)
unfolding act.set_nnr with_variables
set_nnr_lem x w m h = record {
  lengths = h.lengths;
  store = h.store;
  c = h.c;
  d = h.d;
  is =
      ap (perform action.SetNnr) h.is ∙ values.set_nnr_lem _ _ _ _ _ w h.lengths h.store
      ∙ ap (λ (k : ℕ). seen x h.c h.d (act.set_nnr k w) h.lengths h.store) (sym (octet_is x.value h.octet));
  formed =
      subst (λ (k : ℕ). Formed w.settings.k k (x.value % 256) w.queues.sent w.queues.marked h.lengths h.store) (sym h.numbered) h.formed;
  ended = h.ended;
  going = h.going;
}
