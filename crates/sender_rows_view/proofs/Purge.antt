-- Alert and Initialise: both queues are purged, which denies the units sent and leaves both empty, with no type-BC frame.
use Rattle.std.specs.Prelude.{Option, None, Some}
use Prim.Native.Nat.{ℕ, suc, ◌≤◌}
use mathlib.Core.Path.{◌≡◌, refl, ap, ◌∙◌}
use mathlib.Core.Bool.{Bool, true, false}
use mathlib.Core.List.{List, ◌++◌}
use native.Mathlib.Omega.{arith}
use Rattle.base.specs.Choice.{pick}
use Rattle.base.specs.Modulo.{offset}
use Rattle.fop.specs.Units.{Fdu}
use Rattle.fop.specs.declared.Alert.{Alert}
use Rattle.fop.specs.declared.Action.TheVariants as action
use Rattle.fop.specs.Variables as machine
use Rattle.fop.specs.Answers.{run_of}
use Rattle.fop.specs.Machine.{perform, fdus}
use Rattle.fop.specs.declared.Alert.TheVariants as alert
use Rattle.sender_values.specs.declared.Control.{Control}
use Rattle.sender_values.specs.declared.Control.TheVariants as control
use Rattle.fop.specs.declared.Response.{Response}
use Rattle.fop.specs.declared.Response.TheVariants.{RejectAdUnit, DenyDirective}
use Rattle.sender_values.specs.declared.Work.{Work}
use Rattle.sender_values.specs.Parts.{with_variables, with_queues, with_told}
use Rattle.sender_values.specs.Actions as act
use Rattle.sender_values.specs.Actions.{units_held, run_from, response_number}
use Rattle.sender_view.specs.View.{entries_of}
use Rattle.sender_view.proofs.Kept as well
use Rattle.sender_view.proofs.SentQueue.{held_least}
use Rattle.sender_view.proofs.ViewAnswers.{Room, room_more}
use Rattle.sender_view.proofs.ViewRelease as release
use Rattle.sender_view.proofs.ViewRuns.{denied_run}
use Rattle.sender_rows_view.proofs.Mode.{Stored, Idle, ceased, suspended_at, sent_purged, wait_purged, both_purged}
use Rattle.sender_rows_view.proofs.Known.{Case, EndedOf, GoingOf, Open, held_waiting, less_room, idle_again, stops, suspends, counts_one, none_below}
use Rattle.sender_rows_view.proofs.Onward.{goes_on}

-- the units on the Sent_Queue
abbrev pub units : Work → List ℕ → List ℕ → List Fdu
units w lengths store = fdus (entries_of lengths store w.variables.vs w.queues.sent w.queues.marked)

-- their run: it is the one that Alert tells where no type-BC frame is on the Sent_Queue and no unit waits
units_run : (w : Work) (lengths store : List ℕ) → run_of (units w lengths store) ≡ (run_from (offset w.variables.vs w.queues.sent) w.queues.sent)
unfolding act.alert act.notify act.purge_wait_queue act.purge_sent_queue act.deny_control act.emptied act.release_bc_frame act.hold_control act.cancel_timer with_variables with_queues with_told
units_run w lengths store =
    let q = w.queues in
    denied_run
    (with_queues (record { sent = q.sent; marked = q.marked; waiting = false; control = None; control_marked = false }) w) lengths store
    (Some alert.Llif)

-- with the Sent_Queue empty no more units are held
held_fewer : (sent : ℕ) (b : Bool) → units_held 0 b ≤ units_held sent b
held_fewer sent true = omega arith
held_fewer sent false = omega arith

-- The type-BC frame and the unit waiting are purged: each gives one response more, or leaves its room.
module _ {u : Bool} {l : ℕ} {d : List Fdu} where
  answered : (w : Work) (r : Response) → GoingOf false u (suc l) d w → GoingOf false u l d (act.respond r w)
  unfolding act.respond with_told
  answered w r g = record { none = g.none; room = room_more l (response_number r) w.told.responses g.room; undenied = g.undenied; few = tt }

  unanswered : (w : Work) → GoingOf false u (suc l) d w → GoingOf false u l d w
  unanswered w g = record { none = g.none; room = less_room l (suc l) w.told.responses (omega arith) g.room; undenied = g.undenied; few = tt }

  denied_going : (k : Option Control) (w : Work) → GoingOf false u (suc l) d w → GoingOf false u l d (act.deny_control k w)
  unfolding act.deny_control
  denied_going None w g = unanswered w g
  denied_going (Some control.Unlock) w g = answered w DenyDirective g
  denied_going (Some (control.SetVr n)) w g = answered w DenyDirective g

  wait_going : (w : Work) → GoingOf false u (suc l) d w → GoingOf false u l d (act.purge_wait_queue w)
  unfolding act.purge_wait_queue act.not_waiting with_queues
  wait_going w g = by w.queues.waiting where
    by : (b : Bool) → GoingOf false u l d (pick b (act.respond RejectAdUnit (act.not_waiting w)) w)
    by true = answered (act.not_waiting w) RejectAdUnit g
    by false = unanswered w g

module _ {x : Case} {p : Stored} {z : Idle} {lengths store : List ℕ} {c d : List Fdu} where
  denied_ended : (k : Option Control) (w : Work) → EndedOf x p z lengths store c d w → EndedOf x p z lengths store c d (act.deny_control k w)
  unfolding act.deny_control act.respond with_told
  denied_ended None w e = e
  denied_ended (Some control.Unlock) w e = e
  denied_ended (Some (control.SetVr n)) w e = e

  wait_ended : (w : Work) → EndedOf x p z lengths store c d w → EndedOf x p (wait_purged z) lengths store c d (act.purge_wait_queue w)
  unfolding act.purge_wait_queue act.not_waiting act.respond with_queues with_told
  wait_ended w e = by w.queues.waiting refl where
    by : (b : Bool) → w.queues.waiting ≡ b → EndedOf x p (wait_purged z) lengths store c d (pick b (act.respond RejectAdUnit (act.not_waiting w)) w)
    by true t = record {
      settled = e.settled;
      counted = e.counted;
      filled = λ i h. e.filled i (held_waiting w.queues.sent i w.queues.waiting h);
      no_more = omega (arith, e.no_more, held_least w.queues.sent w.queues.waiting);
      runs = e.runs;
      idle = record { unsent = e.idle.unsent; unasked = refl; stopped = e.idle.stopped; frame = e.idle.frame; is_suspend = e.idle.is_suspend };
      below = e.below;
    }
    by false t =
        idle_again e e.counted (record { unsent = e.idle.unsent; unasked = t; stopped = e.idle.stopped; frame = e.idle.frame; is_suspend = e.idle.is_suspend })

-- Both queues purged, with nothing denied before.
module _ {x : Case} {p : Stored} {f : Bool} {z : Idle} {l : ℕ} {lengths store : List ℕ} {c d : List Fdu} (w : Work) (e : EndedOf x p z lengths store c d w) (g : GoingOf f true (suc (suc l)) d w) where
  emptied_ended : EndedOf x p (sent_purged z) lengths store c (d ++ units w lengths store) (act.emptied w)
  unfolding act.emptied act.release_bc_frame act.hold_control with_queues with_told
  emptied_ended = record {
    settled = e.settled;
    counted = e.counted;
    filled = λ i h. e.filled i (omega (arith, h, held_fewer w.queues.sent w.queues.waiting));
    no_more = omega (arith, e.no_more, held_fewer w.queues.sent w.queues.waiting);
    runs = record {
      stored = e.runs.stored;
      measured = e.runs.measured;
      of_confirmed = e.runs.of_confirmed;
      of_denied = ap (λ (y : List Fdu). run_of (y ++ units w lengths store)) g.undenied ∙ units_run w lengths store;
    };
    idle = record { unsent = refl; unasked = e.idle.unasked; stopped = e.idle.stopped; frame = refl; is_suspend = e.idle.is_suspend };
    below = none_below w.told.handed 0 g.none;
  }

  emptied_going : GoingOf false false (suc (suc l)) (d ++ units w lengths store) (act.emptied w)
  unfolding act.emptied act.release_bc_frame act.hold_control with_queues with_told
  emptied_going = record { none = g.none; room = g.room; undenied = tt; few = tt }

  purged_ended : EndedOf x p (both_purged z) lengths store c (d ++ units w lengths store) (act.purge_wait_queue (act.purge_sent_queue w))
  unfolding act.purge_sent_queue
  purged_ended =
      wait_ended (act.deny_control w.queues.control (act.emptied w)) (denied_ended w.queues.control (act.emptied w) emptied_ended)

  purged_going : GoingOf false false l (d ++ units w lengths store) (act.purge_wait_queue (act.purge_sent_queue w))
  unfolding act.purge_sent_queue
  purged_going =
      wait_going (act.deny_control w.queues.control (act.emptied w)) (denied_going w.queues.control (act.emptied w) emptied_going)

-- Transmission_Count 1 and Suspend_State 0
serving : {x : Case} {p : Stored} {z : Idle} {lengths store : List ℕ} {c d : List Fdu} (v : Work) → EndedOf x p z lengths store c d v
    → EndedOf x p (suspended_at 0 z) lengths store c d (act.set_suspend_state 0 (act.count_one v))
unfolding act.set_suspend_state act.count_one with_variables
serving v e = idle_again e counts_one (suspends e.idle 0)

module _ (x : Case) (w : Work) (m : machine.Work) {p : Stored} {f : Bool} {z : Idle} {l : ℕ} (h : Open x p f z true (suc (suc l)) w m) where
  room : Room 2 w.told.responses
  room = less_room 2 (suc (suc l)) w.told.responses (omega arith) h.going.room

  pub alerts : (r : Alert) → Open x p false (both_purged (ceased z)) false l (act.alert (Some r) w) (perform (action.Alert r) m)
  unfolding act.alert act.notify act.cancel_timer with_variables with_told
  alerts r =
      let e : EndedOf x p (ceased z) h.lengths h.store h.c h.d (act.cancel_timer w) = idle_again h.ended h.ended.counted (stops h.ended.idle) in
      goes_on h (action.Alert r) (act.alert (Some r) w) (h.d ++ units w h.lengths h.store)
      (release.alert _ _ _ _ _ w h.lengths h.store room r) (well.alert w h.lengths h.store (Some r) h.formed)
      (purged_ended (act.cancel_timer w) e h.going) (purged_going (act.cancel_timer w) e h.going)

  pub initialise : Open x p false (both_purged (suspended_at 0 z)) false l (act.initialise w) (perform action.Initialise m)
  unfolding act.initialise act.count_one act.set_suspend_state with_variables
  initialise =
      let g = purged_going w h.ended h.going in
      goes_on h action.Initialise (act.initialise w) (h.d ++ units w h.lengths h.store) (release.initialise _ _ _ _ _ w h.lengths h.store room) (well.initialise w h.lengths h.store h.formed)
      (serving (act.purge_wait_queue (act.purge_sent_queue w)) (purged_ended w h.ended h.going))
      (record { none = g.none; room = g.room; undenied = tt; few = tt })
