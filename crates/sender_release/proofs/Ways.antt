-- The ways through each action that tests before it acts, in the form in which a `return` asks it.
use Rattle.std.specs.Prelude.{Option, None, Some}
use mathlib.Core.Path.{◌≡◌, sym, ap, ◌∙◌}
use mathlib.Core.Bool.{true, false}
use Rattle.base.proofs.Tests.{yes, no}
use Rattle.sender_values.specs.declared.Work.{Work}
use Rattle.sender_values.specs.declared.Control.{Control}
use Rattle.sender_values.specs.declared.Control.TheVariants.{Unlock, SetVr}
use Rattle.fop.specs.declared.Response.TheVariants.{RejectAdUnit, DenyDirective}
use Rattle.sender_values.specs.Actions.{respond, deny_control, not_waiting, purge_wait_queue}

module _ (w : Work) where
  pub purge_waiting : {v r : Work} → r ≡ respond RejectAdUnit v → v ≡ not_waiting w → w.queues.waiting ≡ true → r ≡ purge_wait_queue w
  unfolding purge_wait_queue
  purge_waiting e d p = e ∙ ap (respond RejectAdUnit) d ∙ sym (yes _ _ _ p)

  pub purge_none : w.queues.waiting ≡ false → w ≡ purge_wait_queue w
  unfolding purge_wait_queue
  purge_none p = sym (no _ _ _ p)

  pub deny_none : (c : Option Control) → c ≡ None → w ≡ deny_control c w
  unfolding deny_control
  deny_none c p = sym (ap (λ (x : Option Control). deny_control x w) p)

  pub deny_some : (c : Option Control) (k : Control) {r : Work} → c ≡ Some k → r ≡ respond DenyDirective w → r ≡ deny_control c w
  unfolding deny_control
  deny_some c Unlock p e = e ∙ sym (ap (λ (x : Option Control). deny_control x w) p)
  deny_some c (SetVr n) p e = e ∙ sym (ap (λ (x : Option Control). deny_control x w) p)
