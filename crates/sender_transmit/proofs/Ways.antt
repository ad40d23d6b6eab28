-- The ways through each action that tests before it acts, in the form in which a `return` asks it.
use Rattle.std.specs.Prelude.{Option, None}
use Rattle.std.proofs.Common.{◌≡◌, ◌<◌, ◌≤◌, Bool, true, false, sym, ap, ◌∙◌, le-ltb, lt-ltb}
use Rattle.base.proofs.Tests.{yes, no}
use Rattle.sender_values.specs.declared.Work.{Work}
use Rattle.sender_values.specs.declared.Handed.{Handed}
use Rattle.sender_values.specs.declared.Control.{Control}
use Rattle.fop.specs.declared.Response.TheVariants.{AcceptAdUnit}
use Rattle.sender_values.specs.Actions.{respond, send_marked, in_window, transmit_ad_frame, look_for_fdu, send_control, send_marked_control, look_for_directive_of, look_for_directive}

module _ (w : Work) where
  pub look_not_ready : w.variables.ad_out ≡ false → w ≡ look_for_fdu w
  unfolding look_for_fdu
  look_not_ready p = sym (no _ _ _ p)

  pub look_marked : {r : Work} → r ≡ send_marked w → w.variables.ad_out ≡ true → 0 < w.queues.marked → r ≡ look_for_fdu w
  unfolding look_for_fdu
  look_marked e p m = e ∙ sym (yes _ _ _ p ∙ yes _ _ _ (lt-ltb _ _ m))

  pub look_none : w.variables.ad_out ≡ true → w.queues.marked ≤ 0 → w.queues.waiting ≡ false → w ≡ look_for_fdu w
  unfolding look_for_fdu
  look_none p m q = sym (yes _ _ _ p ∙ no _ _ _ (le-ltb _ _ m) ∙ no _ _ _ q)

  pub look_full : {b : Bool} → w.variables.ad_out ≡ true → w.queues.marked ≤ 0 → w.queues.waiting ≡ true → b ≡ in_window w → b ≡ false → w ≡ look_for_fdu w
  unfolding look_for_fdu
  look_full p m q g f = sym (yes _ _ _ p ∙ no _ _ _ (le-ltb _ _ m) ∙ yes _ _ _ q ∙ no _ _ _ (sym g ∙ f))

  pub look_new : {v r : Work} {b : Bool} → r ≡ transmit_ad_frame v → v ≡ respond AcceptAdUnit w → w.variables.ad_out ≡ true → w.queues.marked ≤ 0
      → w.queues.waiting ≡ true → b ≡ in_window w → b ≡ true → r ≡ look_for_fdu w
  unfolding look_for_fdu
  look_new e d p m q g f = e ∙ ap transmit_ad_frame d ∙ sym (yes _ _ _ p ∙ no _ _ _ (le-ltb _ _ m) ∙ yes _ _ _ q ∙ yes _ _ _ (sym g ∙ f))

  pub control_marked_lem : {r : Work} (h : Option Handed) → r ≡ send_control h w → w.variables.bc_out ≡ true → w.queues.control_marked ≡ true → r ≡ send_marked_control h w
  unfolding send_marked_control
  control_marked_lem h e p q = e ∙ sym (yes _ _ _ p ∙ yes _ _ _ q)

  pub control_unmarked : (h : Option Handed) → w.variables.bc_out ≡ true → w.queues.control_marked ≡ false → w ≡ send_marked_control h w
  unfolding send_marked_control
  control_unmarked h p q = sym (yes _ _ _ p ∙ no _ _ _ q)

  pub control_not_ready : (h : Option Handed) → w.variables.bc_out ≡ false → w ≡ send_marked_control h w
  unfolding send_marked_control
  control_not_ready h p = sym (no _ _ _ p)
