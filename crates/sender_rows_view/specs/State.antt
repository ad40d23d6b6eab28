-- The well-formed states of the sender: what every event keeps.
use Rattle.std.specs.Prelude.{ℕ, ◌≤◌, ◌<◌, ◌≡◌, Bool, true, false, List, get_or}
use Rattle.base.specs.Limits.{largest_spacecraft, largest_channel}
use Rattle.fop.specs.Limits.{largest_k, largest_transmission_limit, largest_timeout_type, largest_suspend_state}
use Rattle.fop.specs.Units.{Own}
use Rattle.fop.specs.Effective.{effective_of, in_service}
use Rattle.fop.specs.declared.State.{State}
use Rattle.fop.specs.declared.State.TheVariants.{S1, S2, S3, S4, S5, S6}
use Rattle.sender_values.specs.declared.SenderState.{SenderState}
use Rattle.sender_values.specs.Actions.{units_held}
use Rattle.sender_values.specs.Start.{begun}
use Rattle.sender_view.specs.View.{WellFormed}
use Rattle.sender_table.specs.Rows.{is_frame}

-- Initialising with BC frame
abbrev pub with_frame : State → Bool
with_frame S1 = false
with_frame S2 = false
with_frame S3 = false
with_frame S4 = false
with_frame S5 = true
with_frame S6 = false

-- Initial
abbrev pub initial : State → Bool
initial S1 = false
initial S2 = false
initial S3 = false
initial S4 = false
initial S5 = false
initial S6 = true

-- the effective state (crate fop, specs/Effective): Suspend_State's where the sender is Initial, else the state
abbrev pub effective : SenderState → State
effective s = effective_of s.state s.variables.suspend_state

-- V(S), NN(R), counts, lengths and store as crate sender_view says; the settings within document 01's limits, with the address of both
-- ends; Transmission_Count from 1 to the largest Transmission_Limit; Suspend_State at most its largest, and 0 but in Initial; no unit is held
-- but where the effective state is one of the main protocol's; the timer is stopped in Initial; a type-BC frame is on the Sent_Queue in
-- Initialising with BC frame, and only there; each unit held has an octet.
pub record Good (own : Own) (s : SenderState) (store : List ℕ) : Type 0 where
  pub formed : WellFormed (begun s) s.lengths store
  pub window_least : 1 ≤ s.settings.k
  pub window : s.settings.k ≤ largest_k
  pub clock_least : 1 ≤ s.settings.t1_initial
  pub limit_least : 1 ≤ s.settings.transmission_limit
  pub limit : s.settings.transmission_limit ≤ largest_transmission_limit
  pub count_least : 1 ≤ s.variables.transmission_count
  pub count_most : s.variables.transmission_count ≤ largest_transmission_limit
  pub type_most : s.settings.timeout_type ≤ largest_timeout_type
  pub suspend_most : s.variables.suspend_state ≤ largest_suspend_state
  pub suspend_initial : initial s.state ≡ false → s.variables.suspend_state ≡ 0
  pub sent_main : in_service (effective s) ≡ false → s.queues.sent ≡ 0
  pub waiting_main : in_service (effective s) ≡ false → s.queues.waiting ≡ false
  pub stopped : s.state ≡ S6 → s.variables.timer ≡ 0
  pub control_s5 : is_frame s.queues.control ≡ with_frame s.state
  pub filled : (i : ℕ) → i < units_held s.queues.sent s.queues.waiting → 1 ≤ get_or s.lengths i 0
  pub spacecraft : s.settings.spacecraft ≡ own.spacecraft
  pub channel : s.settings.channel ≡ own.channel
  pub spacecraft_most : own.spacecraft ≤ largest_spacecraft
  pub channel_most : own.channel ≤ largest_channel
