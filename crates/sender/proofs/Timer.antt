-- The timer after a tick, and the tick's event: a stopped timer stays as it is, the tick at 1 is the expiry, any other is no event.
use mathlib.Core.Path.{◌≡◌, sym, ap, ◌∙◌}
use Prim.Native.Nat.{ℕ, ◌-◌}
use native.Mathlib.Omega.{arith}
use borrow.Author.Tests.{eq-eqb, ne_eqb}
use Rattle.std.specs.Prelude.{Option, Some, None}
use Rattle.base.proofs.Tests.{yes, no}
use Rattle.fop.specs.declared.Event.{Event as FopEvent}
use Rattle.sender_values.specs.declared.SenderState.{SenderState}
use Rattle.sender_values.specs.Parts.{clocked}
use Rattle.sender_events.specs.Events.{event_of_expiry}
use Rattle.sender.specs.Events.{ticked, event_of_tick}

module _ (s : SenderState) where
  -- the state with the timer's ticks left given
  abbrev pub timed : ℕ → SenderState
  timed n = record { state = s.state; settings = s.settings; variables = clocked n s.variables.transmission_count s.variables; queues = s.queues; lengths = s.lengths }

  pub stopped : s.variables.timer ≡ 0 → s ≡ ticked s
  stopped p =
      let q : s.variables.timer ≡ s.variables.timer - 1 = omega arith in
      ap timed q

  pub expires : (g : SenderState) (event : Option FopEvent) → s.variables.timer ≡ 1 → g ≡ ticked s → event ≡ Some (event_of_expiry g) → event ≡ event_of_tick s
  expires g event p q e = e ∙ ap (λ (x : SenderState). Some (event_of_expiry x)) q ∙ sym (yes _ _ _ (eq-eqb s.variables.timer 1 p))

  pub no_expiry : (s.variables.timer ≡ 1 → ⊥) → None ≡ event_of_tick s
  no_expiry h = sym (no _ _ _ (ne_eqb s.variables.timer 1 h))
