-- Each action of table 7-8 leads from what a mode says to what the mode after it says, and so do actions in their order.
use Prim.Native.Nat.{ℕ, suc, ◌%◌}
use mathlib.Core.Path.{◌≡◌, subst}
use mathlib.Core.Bool.{Bool, true, false}
use mathlib.Core.List.{List, [], ◌∷◌}
use Rattle.std.specs.Prelude.{Some}
use Rattle.fop.specs.Units.{Fdu}
use Rattle.fop.specs.declared.Action.{Action}
use Rattle.fop.specs.declared.Action.TheVariants.{Ignore, Accept, Reject, Confirm, RejectAd, AcceptBd, RejectBd, AddToWaitQueue, LookForFdu, LookForDirective, RemoveAcknowledgedFrames}
use Rattle.fop.specs.declared.Action.TheVariants.{InitiateAdRetransmission, InitiateBcRetransmission, ReleaseBcFrame, CancelTimer, StartTimer, Alert, Initialise, TransmitUnlock, TransmitSetVr, TransmitBd}
use Rattle.fop.specs.declared.Action.TheVariants.{SetSuspendState, Suspend, Resume, SetVs, SetNnr, SetK, SetT1Initial, SetTransmissionLimit, SetTimeoutType, AdOutReady, BcOutReady, BdOutReady}
use Rattle.fop.specs.Variables as machine
use Rattle.fop.specs.Machine.{perform, perform_all}
use Rattle.fop.specs.declared.Response.{Response}
use Rattle.fop.specs.declared.Response.TheVariants as response
use Rattle.sender_values.specs.declared.Work.{Work}
use Rattle.sender_values.specs.Limits.{largest_responses}
use Rattle.sender_values.specs.Actions as act
use Rattle.sender_view.proofs.ViewAnswers as answers
use Rattle.sender_view.proofs.ViewAnswers.{Room}
use Rattle.sender_table.specs.Rows.{done, done_all}
use Rattle.sender_rows_view.proofs.Rows.{Brings, acknowledging, offering, numbering, widening, clocking, limiting, timing, Needed}
use Rattle.sender_rows_view.proofs.Mode.{Stored, moved, put, Idle, started, ceased, released, suspended_at, resumed, offered, remaining, sending, both_purged, Mode, going, half, over, same, same_is, on_going, only_if, taking, turned, answered, repeated, purged, handed_down, controlled, looked, given, after, after_all}
use Rattle.sender_rows_view.proofs.Known.{Case, seen, Open, At}
use Rattle.sender_rows_view.proofs.Onward.{on_fresh_lem, on_going_lem, on_half_lem, only_if_lem, takes}
use Rattle.sender_rows_view.proofs.Values as values
use Rattle.sender_rows_view.proofs.Handing as handing
use Rattle.sender_rows_view.proofs.Purge as purge
use Rattle.sender_rows_view.proofs.First as first

-- The groups of actions.
module _ (x : Case) (w v : Work) (a : Action) (mode : Mode) (m : machine.Work) (h : At x mode w m) where
  turned_mode : (Z : Idle → Idle) → ((p : Stored) (f : Bool) (z : Idle) (u : Bool) (l : ℕ) → Open x p f z u l w m → Open x p f (Z z) u l v (perform a m))
      → At x (on_going (turned Z) mode) v (perform a m)
  turned_mode Z step = on_going_lem x w v m (perform a m) (turned Z) step mode h

  same_mode : ((p : Stored) (f : Bool) (z : Idle) (u : Bool) (l : ℕ) → Open x p f z u l w m → Open x p f z u l v (perform a m)) → At x (on_going going mode) v (perform a m)
  same_mode step = turned_mode (λ z. z) step

  given_mode : (t : Bool) → (t ≡ true → (p : Stored) (f : Bool) (z : Idle) (u : Bool) (l : ℕ) → Open x p f z u l w m → Open x p f z u l v (perform a m))
      → At x (on_going (given t) mode) v (perform a m)
  given_mode t step =
      on_going_lem x w v m (perform a m) (given t) (λ p f z u l g. only_if_lem x w v m (perform a m) t (going p f z u l) (λ y. step y p f z u l g)) mode h

  repeated_mode : ((p : Stored) (z : Idle) (u : Bool) (l : ℕ) → Open x p true z u l w m → Open x p false (started z) u l v (perform a m)) → At x (on_going repeated mode) v (perform a m)
  repeated_mode step =
      on_going_lem x w v m (perform a m) repeated
      (λ p f z u l g. only_if_lem x w v m (perform a m) f (going p false (started z) u l) (λ y. step p z u l (subst (λ (b : Bool). Open x p b z u l w m) y g))) mode h

  purged_mode : (Z : Idle → Idle) → ((p : Stored) (f : Bool) (z : Idle) (l : ℕ) → Open x p f z true (suc (suc l)) w m → Open x p false (both_purged (Z z)) false l v (perform a m))
      → At x (on_going (purged Z) mode) v (perform a m)
  purged_mode Z step =
      on_going_lem x w v m (perform a m) (purged Z)
      (λ p f z u l g. only_if_lem x w v m (perform a m) u (taking l (λ k. taking k (going p false (both_purged (Z z)) false)))
      (λ y. takes x w v m (perform a m) (λ k. Open x p f z true k w m) l (λ k. taking k (going p false (both_purged (Z z)) false)) (subst (λ (b : Bool). Open x p f z b l w m) y g)
      (λ j i. takes x w v m (perform a m) (λ k. Open x p f z true (suc k) w m) j (going p false (both_purged (Z z)) false) i (λ k o. step p f z k o)))) mode h

answered_mode : (x : Case) (w : Work) (a : Action) (r : Response) (mode : Mode) (m : machine.Work) → At x mode w m
    → ((c d : List Fdu) (lengths store : List ℕ) → Room 1 w.told.responses → perform a (seen x c d w lengths store) ≡ seen x c d (act.respond r w) lengths store)
    → At x (on_going answered mode) (act.respond r w) (perform a m)
answered_mode x w a r mode m h law =
    on_going_lem x w (act.respond r w) m (perform a m) answered
    (λ p f z u l g. takes x w (act.respond r w) m (perform a m) (λ k. Open x p f z u k w m) l (going p f z u) g (λ k i. values.respond x w m i a r law)) mode h

module _ (x : Case) (b : Brings) (meets : Needed b x.octets x.value x.sender) where
  brought : (k : Brings) → same b k ≡ true → Needed k x.octets x.value x.sender
  brought k t = subst (λ (y : Brings). Needed y x.octets x.value x.sender) (same_is b k t) meets

  step : (a : Action) (mode : Mode) (w : Work) (m : machine.Work) → At x mode w m → At x (after b a mode) (done a x.value w) (perform a m)
  unfolding after done
  step Ignore mode w m h = same_mode x w w Ignore mode m h (λ p f z u l g. values.ignore x w m g)
  step Accept mode w m h = answered_mode x w Accept response.AcceptDirective mode m h (λ c d ls s r. answers.accept _ _ _ c d w ls s r)
  step Reject mode w m h = answered_mode x w Reject response.RejectDirective mode m h (λ c d ls s r. answers.reject _ _ _ c d w ls s r)
  step Confirm mode w m h = answered_mode x w Confirm response.ConfirmDirective mode m h (λ c d ls s r. answers.confirm _ _ _ c d w ls s r)
  step RejectAd mode w m h = answered_mode x w RejectAd response.RejectAdUnit mode m h (λ c d ls s r. answers.reject_ad _ _ _ c d w ls s r)
  step AcceptBd mode w m h = answered_mode x w AcceptBd response.AcceptBdUnit mode m h (λ c d ls s r. answers.accept_bd _ _ _ c d w ls s r)
  step RejectBd mode w m h = answered_mode x w RejectBd response.RejectBdUnit mode m h (λ c d ls s r. answers.reject_bd _ _ _ c d w ls s r)
  step AddToWaitQueue mode w m h =
      on_fresh_lem x w (act.add_to_wait_queue w) m (perform AddToWaitQueue m) (λ f z. only_if (same b offering) (going put f (offered z) true largest_responses))
      (λ f z g. only_if_lem x w (act.add_to_wait_queue w) m (perform AddToWaitQueue m) (same b offering) (going put f (offered z) true largest_responses)
      (λ t. first.add_to_wait_queue_lem x f z w m g (brought offering t))) mode h
  step LookForFdu mode w m h =
      on_going_lem x w (act.look_for_fdu w) m (perform LookForFdu m) looked
      (λ p f z u l g. takes x w (act.look_for_fdu w) m (perform LookForFdu m) (λ k. Open x p f z u k w m) l (λ k. over p (sending z)) g (λ k i. handing.look_for_fdu_lem x w m i)) mode h
  step LookForDirective mode w m h =
      on_going_lem x w (act.look_for_directive w) m (perform LookForDirective m) handed_down (λ p f z u l g. handing.look_for_directive_lem x w m g) mode h
  step RemoveAcknowledgedFrames mode w m h =
      on_fresh_lem x w (act.remove_acknowledged_frames (x.value % 256) w) m (perform RemoveAcknowledgedFrames m) (λ f z. only_if (same b acknowledging) (going moved true (remaining z) true largest_responses))
      (λ f z g. only_if_lem x w (act.remove_acknowledged_frames (x.value % 256) w) m (perform RemoveAcknowledgedFrames m) (same b acknowledging) (going moved true (remaining z) true largest_responses)
      (λ t. first.remove_acknowledged_frames_lem x f z w m g (brought acknowledging t))) mode h
  step InitiateAdRetransmission mode w m h =
      repeated_mode x w (act.initiate_ad_retransmission w) InitiateAdRetransmission mode m h (λ p z u l g. values.initiate_ad_retransmission_lem x w m g)
  step InitiateBcRetransmission mode w m h =
      repeated_mode x w (act.initiate_bc_retransmission w) InitiateBcRetransmission mode m h (λ p z u l g. values.initiate_bc_retransmission_lem x w m g)
  step ReleaseBcFrame mode w m h = turned_mode x w (act.release_bc_frame w) ReleaseBcFrame mode m h released (λ p f z u l g. values.release_bc_frame_lem x w m g)
  step CancelTimer mode w m h = turned_mode x w (act.cancel_timer w) CancelTimer mode m h ceased (λ p f z u l g. values.cancel_timer_lem x w m g)
  step StartTimer mode w m h = turned_mode x w (act.start_timer w) StartTimer mode m h started (λ p f z u l g. values.start_timer_lem x w m g)
  step (Alert r) mode w m h = purged_mode x w (act.alert (Some r) w) (Alert r) mode m h ceased (λ p f z l g. purge.alerts x w m g r)
  step Initialise mode w m h = purged_mode x w (act.initialise w) Initialise mode m h (suspended_at 0) (λ p f z l g. purge.initialise x w m g)
  step TransmitUnlock mode w m h =
      on_going_lem x w (act.transmit_unlock w) m (perform TransmitUnlock m) controlled (λ p f z u l g. handing.transmit_unlock_lem x w m g) mode h
  step TransmitSetVr mode w m h =
      on_going_lem x w (act.transmit_set_vr (x.value % 256) w) m (perform TransmitSetVr m) (λ p f z u l. only_if (same b numbering) (controlled p f z u l))
      (λ p f z u l g. only_if_lem x w (act.transmit_set_vr (x.value % 256) w) m (perform TransmitSetVr m) (same b numbering) (controlled p f z u l)
      (λ t. handing.transmit_set_vr_lem x w m g (brought numbering t))) mode h
  step TransmitBd mode w m h = on_going_lem x w (act.transmit_bd_frame w) m (perform TransmitBd m) handed_down (λ p f z u l g. handing.transmit_bd x w m g) mode h
  step (SetSuspendState n) mode w m h =
      turned_mode x w (act.set_suspend_state n w) (SetSuspendState n) mode m h (suspended_at n) (λ p f z u l g. values.set_suspend_state_lem x w m g n)
  step Suspend mode w m h = same_mode x w (act.suspend w) Suspend mode m h (λ p f z u l g. values.suspend x w m g)
  step Resume mode w m h = turned_mode x w (act.resumed w) Resume mode m h resumed (λ p f z u l g. values.resume x w m g)
  step SetVs mode w m h =
      on_going_lem x w (act.set_vs (x.value % 256) w) m (perform SetVs m) (λ p f z u l. only_if (same b numbering) (only_if z.unsent (half p z u l)))
      (λ p f z u l g. only_if_lem x w (act.set_vs (x.value % 256) w) m (perform SetVs m) (same b numbering) (only_if z.unsent (half p z u l))
      (λ t. only_if_lem x w (act.set_vs (x.value % 256) w) m (perform SetVs m) z.unsent (half p z u l)
      (λ y. values.set_vs_lem x w m (brought numbering t) y g))) mode h
  step SetNnr mode w m h =
      on_half_lem x w (act.set_nnr (x.value % 256) w) m (perform SetNnr m) (λ p z u l. going p false z u l) (λ p z u l g. values.set_nnr_lem x w m g) mode h
  step SetK mode w m h = given_mode x w (act.set_k (x.value % 256) w) SetK mode m h (same b widening) (λ t p f z u l g. values.set_k_lem x w m g (brought widening t))
  step SetT1Initial mode w m h =
      given_mode x w (act.set_t1_initial x.value w) SetT1Initial mode m h (same b clocking) (λ t p f z u l g. values.set_t1_initial_lem x w m g (brought clocking t))
  step SetTransmissionLimit mode w m h =
      given_mode x w (act.set_transmission_limit (x.value % 256) w) SetTransmissionLimit mode m h (same b limiting)
      (λ t p f z u l g. values.set_transmission_limit_lem x w m g (brought limiting t))
  step SetTimeoutType mode w m h =
      given_mode x w (act.set_timeout_type (x.value % 256) w) SetTimeoutType mode m h (same b timing) (λ t p f z u l g. values.set_timeout_type_lem x w m g (brought timing t))
  step AdOutReady mode w m h = same_mode x w (act.ad_out_ready w) AdOutReady mode m h (λ p f z u l g. values.ad_out_ready_lem x w m g)
  step BcOutReady mode w m h = same_mode x w (act.bc_out_ready w) BcOutReady mode m h (λ p f z u l g. values.bc_out_ready_lem x w m g)
  step BdOutReady mode w m h = same_mode x w (act.bd_out_ready w) BdOutReady mode m h (λ p f z u l g. values.bd_out_ready_lem x w m g)

  -- actions in their order
  pub steps : (acts : List Action) (mode : Mode) (w : Work) (m : machine.Work) → At x mode w m
      → At x (after_all b acts mode) (done_all acts x.value w) (perform_all acts m)
  unfolding after_all done_all perform_all
  steps [] mode w m h = h
  steps (a ∷ more) mode w m h = steps more (after b a mode) (done a x.value w) (perform a m) (step a mode w m h)
