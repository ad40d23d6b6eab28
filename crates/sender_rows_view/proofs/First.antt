-- The actions that change the store and the lengths stand first in their cells: Remove acknowledged frames moves them down, Add to Wait_Queue
-- puts a unit into the store and sets its length. What is known before them is what is known of the sender.
use Rattle.std.specs.Prelude.{None}
use Prim.Native.Nat.{ℕ, ◌+◌, ◌-◌, ◌%◌, ◌≤◌, ◌<◌}
use mathlib.Core.Path.{◌≡◌, refl, sym, ap, subst, ◌∙◌}
use mathlib.Core.Bool.{Bool, true, false}
use mathlib.Core.List.{[]}
use native.Mathlib.Omega.{arith}
use borrow.Author.Tests.{ltb-true, ltb-false}
use lib.Dec.{ltb}
use lib.ListN.{length, take, get_or, set}
use lib.Seq.{get_or-set_same, get_or-set_other}
use Rattle.base.specs.Limits.{largest_unit}
use Rattle.base.specs.Modulo.{offset}
use Rattle.store.specs.Places.{unit_put, without}
use Rattle.store.specs.Slid.{slid}
use Rattle.store.proofs.Parts.{slid_at}
use Rattle.fop.specs.Limits.{largest_k}
use Rattle.fop.specs.declared.Action.TheVariants as action
use Rattle.fop.specs.Variables as machine
use Rattle.fop.specs.Machine.{perform, fdus}
use Rattle.sender_values.specs.declared.Work.{Work}
use Rattle.sender_values.specs.Limits.{largest_responses}
use Rattle.sender_values.specs.Parts.{with_variables, with_queues, with_told}
use Rattle.sender_values.specs.Actions as act
use Rattle.sender_values.specs.Actions.{units_held, staying, removed}
use Rattle.sender_values.specs.Start.{begun, none_told}
use Rattle.sender_view.specs.View.{entries_of}
use Rattle.sender_view.proofs.Kept as well
use Rattle.sender_view.proofs.SentQueue.{held_most}
use Rattle.sender_view.proofs.ViewRemoval as removal
use Rattle.sender_view.proofs.ViewRemoval.{gone_is, least_first}
use Rattle.sender_view.proofs.ViewRuns.{confirmed_run}
use Rattle.sender_view.proofs.ViewStart.{room_begun}
use Rattle.sender_view.proofs.ViewWaiting as waiting
use Rattle.sender_rows_view.specs.State.{Good}
use Rattle.sender_rows_view.proofs.Mode.{moved, put, Idle, offered, remaining}
use Rattle.sender_rows_view.proofs.Known.{Case, Fresh, NoMore, Open, octet_is, held_waiting, good_settled, good_counted, counts_one, none_below}

-- Remove acknowledged frames, by N(R) from NN(R) to V(S).
held_past : (sent rest gone i : ℕ) (b : Bool) → gone ≡ sent - rest → rest ≤ sent → i < units_held rest b → gone + i < units_held sent b
held_past sent rest gone i true e h k = omega arith
held_past sent rest gone i false e h k = omega arith

held_left : (sent rest gone : ℕ) (b : Bool) → gone ≡ sent - rest → rest ≤ sent → gone + units_held rest b ≤ units_held sent b
held_left sent rest gone true e h = omega arith
held_left sent rest gone false e h = omega arith

module _ (x : Case) (good : Good x.own x.sender x.store) where
  sent_few : x.sender.queues.sent ≤ largest_k
  unfolding begun
  sent_few = good.formed.sent_most

  filled_moved : (n i : ℕ) → i < units_held (staying n (begun x.sender)) x.sender.queues.waiting
      → 1 ≤ get_or (slid (removed n (begun x.sender)) x.sender.lengths) i 0
  unfolding begun
  filled_moved n i h =
      let q = x.sender.queues in
      let w = begun x.sender in
      let there : removed n w + i < units_held q.sent q.waiting =
      held_past q.sent (staying n w) (removed n w) i q.waiting (gone_is w x.sender.lengths x.store n good.formed) (least_first q.sent (offset w.variables.vs n)) h in
      let some_place : removed n w + i < length x.sender.lengths = omega (arith, there, held_most q.sent q.waiting, sent_few, good.formed.all_places) in
      rw (slid_at (removed n w) i x.sender.lengths some_place) (good.filled (removed n w + i) there)

  no_more_moved : (n : ℕ) → NoMore x moved (removed n (begun x.sender)) (staying n (begun x.sender)) x.sender.queues.waiting
  unfolding begun
  no_more_moved n =
      let q = x.sender.queues in
      let w = begun x.sender in
      held_left q.sent (staying n w) (removed n w) q.waiting (gone_is w x.sender.lengths x.store n good.formed)
      (least_first q.sent (offset w.variables.vs n))

  removes : (f : Bool) (z : Idle) (m : machine.Work) → Fresh x f z (begun x.sender) m → x.value < 256
      → offset x.value x.sender.variables.nnr ≤ offset x.sender.variables.vs x.sender.variables.nnr
      → Open x moved true (remaining z) true largest_responses (act.remove_acknowledged_frames x.value (begun x.sender)) (perform action.RemoveAcknowledgedFrames m)
  unfolding begun none_told act.remove_acknowledged_frames with_variables with_queues with_told
  removes f z m h o i =
      let w = begun x.sender in
      let q = x.sender.queues in
      let lengths = x.sender.lengths in
      let gone = q.sent - staying x.value w in
      let all_held = units_held q.sent q.waiting in
      let told : gone ≡ removed x.value w = sym (gone_is w lengths x.store x.value good.formed) in
      record {
        lengths = slid gone lengths;
        store = without lengths gone (all_held - gone) x.store;
        c = fdus (take gone (entries_of lengths x.store x.sender.variables.vs q.sent q.marked));
        d = [];
        is = ap (perform action.RemoveAcknowledgedFrames) h.is ∙ removal.remove_acknowledged_frames_lem _ _ _ _ w lengths x.store refl good.formed o i;
        formed = well.remove_acknowledged_frames_lem w lengths x.store good.formed x.value gone (all_held - gone) o;
        ended = record {
          settled = good_settled good;
          counted = counts_one;
          filled = λ j k. subst (λ (n : ℕ). 1 ≤ get_or (slid n lengths) j 0) (sym told) (filled_moved x.value j k);
          no_more = no_more_moved x.value;
          runs = record {
            stored = ap (λ (k : ℕ). without lengths k (all_held - k) x.store) told;
            measured = ap (λ (k : ℕ). slid k lengths) told;
            of_confirmed = confirmed_run w lengths x.store x.value good.formed;
            of_denied = refl;
          };
          idle = record { unsent = tt; unasked = h.idle.unasked; stopped = h.idle.stopped; frame = h.idle.frame; is_suspend = h.idle.is_suspend };
          below = none_below None _ refl;
        };
        going = record { none = refl; room = room_begun x.sender; undenied = refl; few = omega arith };
      }

  -- Add to Wait_Queue, for a unit with octets and within the limit.
  filled_set : 1 ≤ length x.octets → (i : ℕ) → i < units_held x.sender.queues.sent true
      → 1 ≤ get_or (set x.sender.lengths x.sender.queues.sent (length x.octets)) i 0
  unfolding begun
  filled_set o i h = by (ltb i x.sender.queues.sent) refl where
    by : (b : Bool) → ltb i x.sender.queues.sent ≡ b → 1 ≤ get_or (set x.sender.lengths x.sender.queues.sent (length x.octets)) i 0
    by true e =
        let k : i < x.sender.queues.sent = ltb-true i x.sender.queues.sent e in
        rw (get_or-set_other x.sender.lengths x.sender.queues.sent i (length x.octets) 0 (λ t. omega arith))
        (good.filled i (held_waiting x.sender.queues.sent i x.sender.queues.waiting k))
    by false e =
        let k : i ≡ x.sender.queues.sent = omega (arith, ltb-false i x.sender.queues.sent e) in
        let here : i < length x.sender.lengths = omega (arith, sent_few, good.formed.all_places) in
        rw (← k, get_or-set_same x.sender.lengths i (length x.octets) 0 here) o

  adds : (f : Bool) (z : Idle) (m : machine.Work) → Fresh x f z (begun x.sender) m → 1 ≤ length x.octets → length x.octets ≤ largest_unit
      → Open x put f (offered z) true largest_responses (act.add_to_wait_queue (begun x.sender)) (perform action.AddToWaitQueue m)
  unfolding begun none_told act.add_to_wait_queue with_queues
  adds f z m h o i =
      let w = begun x.sender in
      let q = x.sender.queues in
      record {
        lengths = set x.sender.lengths q.sent (length x.octets);
        store = unit_put q.sent x.octets x.store;
        c = [];
        d = [];
        is = ap (perform action.AddToWaitQueue) h.is ∙ waiting.add_to_wait_queue_lem _ _ _ _ _ w x.sender.lengths x.store refl good.formed i;
        formed = well.add_to_wait_queue_lem w x.sender.lengths x.store good.formed x.octets i;
        ended = record {
          settled = good_settled good;
          counted = good_counted good;
          filled = filled_set o;
          no_more = omega arith;
          runs = record { stored = refl; measured = refl; of_confirmed = refl; of_denied = refl };
          idle = record { unsent = h.idle.unsent; unasked = tt; stopped = h.idle.stopped; frame = h.idle.frame; is_suspend = h.idle.is_suspend };
          below = none_below None _ refl;
        };
        going = record { none = refl; room = room_begun x.sender; undenied = refl; few = h.few };
      }

module _ (x : Case) (f : Bool) (z : Idle) (w : Work) (m : machine.Work) (h : Fresh x f z w m) where
  again : Fresh x f z (begun x.sender) m
  again = record { begins = refl; is = h.is; good = h.good; few = h.few; idle = h.idle }

  pub remove_acknowledged_frames_lem : (x.value < 256) × (offset x.value x.sender.variables.nnr ≤ offset x.sender.variables.vs x.sender.variables.nnr)
      → Open x moved true (remaining z) true largest_responses (act.remove_acknowledged_frames (x.value % 256) w) (perform action.RemoveAcknowledgedFrames m)
  remove_acknowledged_frames_lem o =
      subst (λ (v : Work). Open x moved true (remaining z) true largest_responses (act.remove_acknowledged_frames (x.value % 256) v) (perform action.RemoveAcknowledgedFrames m)) (sym h.begins)
      (subst (λ (k : ℕ). Open x moved true (remaining z) true largest_responses (act.remove_acknowledged_frames k (begun x.sender)) (perform action.RemoveAcknowledgedFrames m))
      (sym (octet_is x.value o.0)) (removes x h.good f z m again o.0 o.1))

  pub add_to_wait_queue_lem : (1 ≤ length x.octets) × (length x.octets ≤ largest_unit)
      → Open x put f (offered z) true largest_responses (act.add_to_wait_queue w) (perform action.AddToWaitQueue m)
  add_to_wait_queue_lem o =
      subst (λ (v : Work). Open x put f (offered z) true largest_responses (act.add_to_wait_queue v) (perform action.AddToWaitQueue m)) (sym h.begins)
      (adds x h.good f z m again o.0 o.1)
