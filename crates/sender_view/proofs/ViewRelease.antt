-- Both queues purged, as Alert and Initialise do: the view of the action's result is the machine's action on the view. The machine empties
-- both queues and then answers, the code one queue after the other.
use Rattle.std.specs.Prelude.{None, Some}
use Rattle.std.specs.Prelude as std
use mathlib.Core.Path.{◌≡◌, refl, sym, ap, ◌∙◌}
use mathlib.Core.Bool.{Bool, true, false}
use mathlib.Core.List.{List, [], ◌++◌}
use mathlib.Core.Option.{Option, none, some}
use Prim.Native.Nat.{ℕ}
use native.Mathlib.Omega.{arith}
use Rattle.base.specs.Choice.{pick}
use Rattle.base.proofs.Tests.{yes, no}
use Rattle.store.specs.Places.{unit_at}
use Rattle.fop.specs.Units.{Fdu}
use Rattle.fop.specs.declared.Action.TheVariants as action
use Rattle.fop.specs.declared.Event.{Event as FopEvent}
use Rattle.fop.specs.Variables as machine
use Rattle.fop.specs.Variables.{Entry, BcEntry}
use Rattle.fop.specs.Machine.{perform, fdus, deny_bc, reject_waiting, purge}
use Rattle.fop.specs.declared.Alert.{Alert}
use Rattle.sender_values.specs.declared.Control.{Control}
use Rattle.sender_values.specs.declared.Control.TheVariants as control
use Rattle.fop.specs.declared.Response.TheVariants.{RejectAdUnit, DenyDirective}
use Rattle.sender_values.specs.declared.Work.{Work}
use Rattle.sender_values.specs.Parts.{with_variables, with_queues, with_told}
use Rattle.sender_values.specs.Actions as act
use Rattle.sender_view.specs.View.{entries_of, wait_of, bc_of, fop_of, view}
use Rattle.sender_view.proofs.ViewAnswers.{Room, room_more, respond}

-- Purging both queues, with room for two responses.
module _ (e : Option FopEvent) (o : List ℕ) (n : ℕ) (c d : List Fdu) (w : Work) (lengths store : List ℕ) (room : Room 2 w.told.responses) where
  abbrev bare : Work
  bare = act.not_waiting (act.emptied w)

  abbrev Q : List Entry
  Q = entries_of lengths store w.variables.vs w.queues.sent w.queues.marked

  abbrev Seen : Work → machine.Work
  Seen v = view e o n c (d ++ fdus Q) v lengths store

  -- the machine's work with both queues empty, before the responses
  abbrev begun : machine.Work
  begun =
      machine.runs c (d ++ fdus Q)
      (machine.on_fop (machine.set_wait none (machine.set_bc none (machine.set_sequence w.variables.vs w.variables.nnr [] (fop_of w lengths store)))) (view e o n c d w lengths store))

  start : begun ≡ Seen bare
  unfolding act.not_waiting act.emptied act.release_bc_frame act.hold_control with_queues with_told
  start = refl

  room_bare : Room 1 bare.told.responses
  unfolding act.not_waiting act.emptied act.release_bc_frame act.hold_control with_queues with_told
  room_bare = record { few = omega (arith, room.few); all_numbers = room.all_numbers }

  room_denied : Room 1 (act.respond DenyDirective bare).told.responses
  unfolding act.respond act.not_waiting act.emptied act.release_bc_frame act.hold_control with_queues with_told
  room_denied = room_more 1 8 w.told.responses room

  -- with no unit waiting the two are the same
  same_bare : w.queues.waiting ≡ false → Seen (act.emptied w) ≡ Seen bare
  unfolding act.not_waiting act.emptied act.release_bc_frame act.hold_control with_queues with_told
  same_bare f =
      ap (λ (b : Bool). Seen (with_queues (record { sent = 0; marked = 0; waiting = b; control = None; control_marked = false }) (act.emptied w))) f

  same_denied : w.queues.waiting ≡ false → Seen (act.respond DenyDirective (act.emptied w)) ≡ Seen (act.respond DenyDirective bare)
  unfolding act.not_waiting act.emptied act.release_bc_frame act.hold_control act.respond with_queues with_told
  same_denied f =
      ap (λ (b : Bool). Seen (act.respond DenyDirective
      (with_queues (record { sent = 0; marked = 0; waiting = b; control = None; control_marked = false }) (act.emptied w)))) f

  rejected : w.queues.waiting ≡ true → act.purge_wait_queue (act.emptied w) ≡ act.respond RejectAdUnit bare
  unfolding act.purge_wait_queue act.not_waiting act.emptied act.release_bc_frame act.hold_control act.respond with_queues with_told
  rejected f = yes _ _ _ f

  denied_rejected : w.queues.waiting ≡ true → act.purge_wait_queue (act.respond DenyDirective (act.emptied w)) ≡ act.respond RejectAdUnit (act.respond DenyDirective bare)
  unfolding act.purge_wait_queue act.not_waiting act.emptied act.release_bc_frame act.hold_control act.respond with_queues with_told
  denied_rejected f = yes _ _ _ f

  kept : w.queues.waiting ≡ false → act.purge_wait_queue (act.emptied w) ≡ act.emptied w
  unfolding act.purge_wait_queue act.emptied act.release_bc_frame act.hold_control with_queues with_told
  kept f = no _ _ _ f

  denied_kept : w.queues.waiting ≡ false → act.purge_wait_queue (act.respond DenyDirective (act.emptied w)) ≡ act.respond DenyDirective (act.emptied w)
  unfolding act.purge_wait_queue act.emptied act.release_bc_frame act.hold_control act.respond with_queues with_told
  denied_kept f = no _ _ _ f

  -- with a type-BC frame, and without
  purged_control : (y : Bool) → w.queues.waiting ≡ y
      → reject_waiting (pick y (some (unit_at lengths w.queues.sent store)) none) (machine.respond DenyDirective begun)
      ≡ Seen (act.purge_wait_queue (act.respond DenyDirective (act.emptied w)))
  unfolding reject_waiting
  purged_control true f =
      ap (machine.respond RejectAdUnit)
      (ap (machine.respond DenyDirective) start ∙ respond e o n c (d ++ fdus Q) bare lengths store room_bare DenyDirective)
      ∙ respond e o n c (d ++ fdus Q) (act.respond DenyDirective bare) lengths store room_denied RejectAdUnit
      ∙ ap Seen (sym (denied_rejected f))
  purged_control false f =
      ap (machine.respond DenyDirective) start ∙ respond e o n c (d ++ fdus Q) bare lengths store room_bare DenyDirective
      ∙ sym (same_denied f) ∙ ap Seen (sym (denied_kept f))

  purged_none : (y : Bool) → w.queues.waiting ≡ y
      → reject_waiting (pick y (some (unit_at lengths w.queues.sent store)) none) begun ≡ Seen (act.purge_wait_queue (act.emptied w))
  unfolding reject_waiting
  purged_none true f = ap (machine.respond RejectAdUnit) start ∙ respond e o n c (d ++ fdus Q) bare lengths store room_bare RejectAdUnit ∙ ap Seen (sym (rejected f))
  purged_none false f = start ∙ sym (same_bare f) ∙ ap Seen (sym (kept f))

  purged : (k : std.Option Control)
      → reject_waiting (wait_of lengths store w.queues.sent w.queues.waiting) (deny_bc (bc_of k w.queues.control_marked) begun)
      ≡ Seen (act.purge_wait_queue (act.deny_control k (act.emptied w)))
  unfolding deny_bc act.deny_control
  purged None = purged_none w.queues.waiting refl
  purged (Some control.Unlock) = purged_control w.queues.waiting refl
  purged (Some (control.SetVr x)) = purged_control w.queues.waiting refl

  pub purge_both : purge (view e o n c d w lengths store)
      ≡ view e o n c (d ++ fdus (entries_of lengths store w.variables.vs w.queues.sent w.queues.marked)) (act.purge_wait_queue (act.purge_sent_queue w)) lengths store
  unfolding purge act.purge_sent_queue
  purge_both = purged w.queues.control

-- the timer cancelled before or after a purge
cancelled_first : (a : machine.Work) (x : Option (List ℕ)) (y : Option BcEntry)
    → (let p : machine.Work = reject_waiting x (deny_bc y (machine.runs a.confirmed (a.denied ++ fdus a.fop.queues.sent_queue)
    (machine.on_fop (machine.set_wait none (machine.set_bc none (machine.set_sequence a.fop.numbers.vs a.fop.numbers.nnr [] a.fop))) a))) in
    machine.on_fop (machine.set_clock 0 p.fop.clock.transmission_count p.fop) p)
    ≡ reject_waiting x (deny_bc y (machine.runs a.confirmed (a.denied ++ fdus a.fop.queues.sent_queue)
    (machine.on_fop (machine.set_wait none (machine.set_bc none (machine.set_sequence a.fop.numbers.vs a.fop.numbers.nnr [] (machine.set_clock 0 a.fop.clock.transmission_count a.fop)))) a)))
unfolding reject_waiting deny_bc
cancelled_first a none none = refl
cancelled_first a none (some b) = refl
cancelled_first a (some u) none = refl
cancelled_first a (some u) (some b) = refl

module _ (e : Option FopEvent) (o : List ℕ) (n : ℕ) (c d : List Fdu) (w : Work) (lengths store : List ℕ) (room : Room 2 w.told.responses) where
  abbrev denied_units : List Fdu
  denied_units = d ++ fdus (entries_of lengths store w.variables.vs w.queues.sent w.queues.marked)

  purge_cancelled : (let p : machine.Work = purge (view e o n c d w lengths store) in machine.on_fop (machine.set_clock 0 p.fop.clock.transmission_count p.fop) p)
      ≡ view e o n c denied_units (act.purge_wait_queue (act.purge_sent_queue (act.cancel_timer w))) lengths store
  unfolding purge act.cancel_timer with_variables
  purge_cancelled =
      cancelled_first (view e o n c d w lengths store) (fop_of w lengths store).queues.wait_queue (fop_of w lengths store).queues.bc_frame ∙ purge_both e o n c d (act.cancel_timer w) lengths store room

  -- purged, with the timer cancelled, and an alert or none told
  pub told_lem : (a : std.Option Alert)
      → (let p : machine.Work = purge (view e o n c d w lengths store) in
      machine.tell p.notices.abort a p.notices.suspended (machine.on_fop (machine.set_clock 0 p.fop.clock.transmission_count p.fop) p))
      ≡ view e o n c denied_units (act.alert a w) lengths store
  unfolding act.alert act.notify with_told
  told_lem a = ap (λ (x : machine.Work). machine.tell x.notices.abort a x.notices.suspended x) purge_cancelled

  pub alert : (a : Alert) → perform (action.Alert a) (view e o n c d w lengths store) ≡ view e o n c denied_units (act.alert (Some a) w) lengths store
  unfolding perform
  alert a = told_lem (Some a)

  pub initialise : perform action.Initialise (view e o n c d w lengths store) ≡ view e o n c denied_units (act.initialise w) lengths store
  unfolding perform act.initialise act.count_one act.set_suspend_state with_variables
  initialise =
      ap (λ (a : machine.Work). machine.on_fop (machine.set_suspend 0 (machine.set_clock a.fop.clock.timer 1 a.fop)) a) (purge_both e o n c d w lengths store room)
