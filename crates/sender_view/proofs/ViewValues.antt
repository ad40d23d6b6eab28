-- The timer, the out flags, the settings, the numbers and the suspension: the view of the action's result is the machine's action on the
-- view. V(S) may be set only where no AD unit is on the sent queue, whose numbers count down from it.
use Prim.Native.Nat.{ℕ, ◌-◌}
use mathlib.Core.Path.{◌≡◌, refl, sym, ap, ◌∙◌}
use mathlib.Core.List.{List, []}
use mathlib.Core.Option.{Option}
use Rattle.fop.specs.Units.{Fdu}
use Rattle.fop.specs.declared.Action.TheVariants as action
use Rattle.fop.specs.declared.Event.{Event as FopEvent}
use Rattle.fop.specs.Variables as machine
use Rattle.fop.specs.Machine.{perform}
use Rattle.sender_values.specs.declared.Work.{Work}
use Rattle.base.specs.Modulo.{offset}
use Rattle.fop.specs.declared.State.{State}
use Rattle.sender_values.specs.Parts.{with_settings, with_variables, with_told, with_queues}
use Rattle.sender_values.specs.Actions as act
use Rattle.sender_view.specs.View.{entries_from, entries_of, fop_of, view}

module _ (e : Option FopEvent) (o : List ℕ) (n : ℕ) (c d : List Fdu) (w : Work) (lengths store : List ℕ) where
  pub ignore : perform action.Ignore (view e o n c d w lengths store) ≡ view e o n c d w lengths store
  unfolding perform
  ignore = refl

  pub cancel_timer_lem : perform action.CancelTimer (view e o n c d w lengths store) ≡ view e o n c d (act.cancel_timer w) lengths store
  unfolding perform act.cancel_timer with_variables
  cancel_timer_lem = refl

  pub start_timer_lem : perform action.StartTimer (view e o n c d w lengths store) ≡ view e o n c d (act.start_timer w) lengths store
  unfolding perform act.start_timer with_variables
  start_timer_lem = refl

  pub ad_out_ready_lem : perform action.AdOutReady (view e o n c d w lengths store) ≡ view e o n c d (act.ad_out_ready w) lengths store
  unfolding perform act.ad_out_ready with_variables
  ad_out_ready_lem = refl

  pub bc_out_ready_lem : perform action.BcOutReady (view e o n c d w lengths store) ≡ view e o n c d (act.bc_out_ready w) lengths store
  unfolding perform act.bc_out_ready with_variables
  bc_out_ready_lem = refl

  pub bd_out_ready_lem : perform action.BdOutReady (view e o n c d w lengths store) ≡ view e o n c d (act.bd_out_ready w) lengths store
  unfolding perform act.bd_out_ready with_variables
  bd_out_ready_lem = refl

  pub set_k_lem : perform action.SetK (view e o n c d w lengths store) ≡ view e o n c d (act.set_k n w) lengths store
  unfolding perform act.set_k with_settings
  set_k_lem = refl

  pub set_t1_initial_lem : perform action.SetT1Initial (view e o n c d w lengths store) ≡ view e o n c d (act.set_t1_initial n w) lengths store
  unfolding perform act.set_t1_initial with_settings
  set_t1_initial_lem = refl

  pub set_transmission_limit_lem : perform action.SetTransmissionLimit (view e o n c d w lengths store) ≡ view e o n c d (act.set_transmission_limit n w) lengths store
  unfolding perform act.set_transmission_limit with_settings
  set_transmission_limit_lem = refl

  pub set_timeout_type_lem : perform action.SetTimeoutType (view e o n c d w lengths store) ≡ view e o n c d (act.set_timeout_type n w) lengths store
  unfolding perform act.set_timeout_type with_settings
  set_timeout_type_lem = refl

  pub set_nnr_lem : perform action.SetNnr (view e o n c d w lengths store) ≡ view e o n c d (act.set_nnr n w) lengths store
  unfolding perform act.set_nnr with_variables
  set_nnr_lem = refl

  pub suspend : perform action.Suspend (view e o n c d w lengths store) ≡ view e o n c d (act.suspend w) lengths store
  unfolding perform act.suspend with_told
  suspend = refl

  pub resume : perform action.Resume (view e o n c d w lengths store) ≡ view e o n c d (act.resumed w) lengths store
  unfolding perform act.resumed act.set_suspend_state act.start_timer with_variables
  resume = refl

  pub release_bc_frame_lem : perform action.ReleaseBcFrame (view e o n c d w lengths store) ≡ view e o n c d (act.release_bc_frame w) lengths store
  unfolding perform act.release_bc_frame act.hold_control with_queues
  release_bc_frame_lem = refl

  pub set_suspend_state_lem : (s : ℕ) → perform (action.SetSuspendState s) (view e o n c d w lengths store) ≡ view e o n c d (act.set_suspend_state s w) lengths store
  unfolding perform act.set_suspend_state with_variables
  set_suspend_state_lem s = refl

  -- the next state of a cell
  pub to_state_lem : (s : State) → machine.on_fop (machine.set_state s (fop_of w lengths store)) (view e o n c d w lengths store) ≡ view e o n c d (act.to_state s w) lengths store
  unfolding act.to_state
  to_state_lem s = refl

  pub set_vs_lem : w.queues.sent ≡ 0 → perform action.SetVs (view e o n c d w lengths store) ≡ view e o n c d (act.set_vs n w) lengths store
  unfolding perform act.set_vs with_variables
  set_vs_lem z =
      let q = w.queues in
      let none_sent : (vs : ℕ) → entries_of lengths store vs q.sent q.marked ≡ [] = λ vs.
      ap (λ (k : ℕ). entries_from lengths store (offset vs q.sent) (q.sent - q.marked) 0 k) z in
      ap (λ (xs : List machine.Entry). machine.on_fop (machine.set_sequence n w.variables.nnr xs (fop_of w lengths store)) (view e o n c d w lengths store))
      (none_sent w.variables.vs ∙ sym (none_sent n))
