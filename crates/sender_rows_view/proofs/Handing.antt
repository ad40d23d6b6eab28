-- The actions that hand down a frame, or look for one to hand down: they are the last of a cell. A unit handed down is one of those sent.
use Rattle.std.specs.Prelude.{Option, None, Some}
use Prim.Native.Nat.{ℕ, suc, ◌%◌, ◌≤◌, ◌<◌}
use mathlib.Core.Path.{◌≡◌, refl, sym, ap, subst, ◌∙◌}
use mathlib.Core.Bool.{Bool, true, false}
use mathlib.Core.List.{List}
use native.Mathlib.Omega.{arith}
use borrow.Author.Tests.{ltb-true}
use lib.Dec.{eqb, ltb}
use Rattle.base.specs.Choice.{pick}
use Rattle.base.specs.Modulo.{advanced, offset}
use Rattle.fop.specs.Limits.{largest_k}
use Rattle.fop.specs.Units.{Fdu}
use Rattle.fop.specs.declared.Action.TheVariants as action
use Rattle.fop.specs.Variables as machine
use Rattle.fop.specs.Machine.{perform}
use Rattle.sender_values.specs.declared.Control.{Control}
use Rattle.sender_values.specs.declared.Control.TheVariants as control
use Rattle.sender_values.specs.declared.Handed.{Handed}
use Rattle.sender_values.specs.declared.Handed.TheVariants as handed
use Rattle.fop.specs.declared.Response.TheVariants.{AcceptAdUnit}
use Rattle.sender_values.specs.declared.Work.{Work}
use Rattle.sender_values.specs.Parts.{with_variables, with_queues, with_told}
use Rattle.sender_values.specs.Actions as act
use Rattle.sender_values.specs.Actions.{units_held}
use Rattle.sender_view.specs.View.{WellFormed}
use Rattle.sender_view.proofs.Kept as well
use Rattle.sender_view.proofs.ViewTransmit as transmit
use Rattle.sender_table.specs.Rows.{is_frame}
use Rattle.sender_rows_view.proofs.Mode.{Stored, Idle, started, framed, sending}
use Rattle.sender_rows_view.proofs.Known.{Case, seen, Counted, IdleIs, NoMore, EndedOf, Open, Shut, octet_is, less_room, starts, frames, idle_again, counts_one}
use Rattle.sender_rows_view.proofs.Onward.{shuts}

-- a frame of another type than AD
data OtherFrame : Option Handed → Type 0 where
  bd : OtherFrame (Some handed.Bd)
  unlock : OtherFrame (Some handed.Unlock)
  set_vr : (n : ℕ) → OtherFrame (Some (handed.SetVr n))

not_ad : (down : Option Handed) → OtherFrame down → (sent k i : ℕ) → down ≡ (Some (handed.Ad k i)) → i < sent
not_ad None t sent k i q = elim t [ ]
not_ad (Some (handed.Ad _ _)) t sent k i q = elim t [ ]
not_ad (Some handed.Bd) t sent k i q = let z : ◌≡◌ {A = ℕ} 0 1 = cc in omega arith
not_ad (Some handed.Unlock) t sent k i q = let z : ◌≡◌ {A = ℕ} 0 1 = cc in omega arith
not_ad (Some (handed.SetVr n)) t sent k i q = let z : ◌≡◌ {A = ℕ} 0 1 = cc in omega arith

-- Frames of other types.
module _ (x : Case) (w : Work) (lengths store : List ℕ) (p : Stored) (z : Idle) (c d : List Fdu) (e : EndedOf x p z lengths store c d w) where
  other_handed : (down : Option Handed) → OtherFrame down → EndedOf x p z lengths store c d (act.hand_down down w)
  unfolding act.hand_down with_told
  other_handed down t = record { settled = e.settled; counted = e.counted; filled = e.filled; no_more = e.no_more; runs = e.runs; idle = e.idle; below = not_ad down t w.queues.sent }

  bc_sent : (k : Option Control) → is_frame k ≡ true → (down : Option Handed) → OtherFrame down → EndedOf x p (framed (started z)) lengths store c d (act.transmit_bc_frame k down w)
  unfolding act.transmit_bc_frame act.start_timer act.hand_down act.hold_control with_variables with_queues with_told
  bc_sent k b down t = idle_again (other_handed down t) counts_one (frames (starts e.idle) b)

  marked_sent : (down : Option Handed) → OtherFrame down → EndedOf x p z lengths store c d (act.send_marked_control down w)
  unfolding act.send_marked_control act.send_control act.hold_control act.hand_down with_variables with_queues with_told
  marked_sent down t = by w.variables.bc_out w.queues.control_marked where
    by : (a m : Bool) → EndedOf x p z lengths store c d (pick a (pick m (act.send_control down w) w) w)
    by true true = other_handed down t
    by true false = e
    by false m = e

  directive_looked : (k : Option Control) → EndedOf x p z lengths store c d (act.look_for_directive_of k w)
  unfolding act.look_for_directive_of
  directive_looked None = e
  directive_looked (Some control.Unlock) = marked_sent (Some handed.Unlock) unlock
  directive_looked (Some (control.SetVr n)) = marked_sent (Some (handed.SetVr n)) (set_vr n)

module _ (x : Case) (w : Work) (m : machine.Work) {p : Stored} {f : Bool} {z : Idle} {u : Bool} {l : ℕ} (h : Open x p f z u l w m) where
  pub transmit_unlock_lem : Shut x p (framed (started z)) (act.transmit_unlock w) (perform action.TransmitUnlock m)
  unfolding act.transmit_unlock act.transmit_bc_frame act.start_timer act.hand_down act.hold_control with_variables with_queues with_told
  transmit_unlock_lem =
      shuts h action.TransmitUnlock (act.transmit_unlock w) (transmit.transmit_unlock_lem _ _ _ _ _ w h.lengths h.store h.going.none) h.formed
      (bc_sent x w h.lengths h.store p z h.c h.d h.ended (Some control.Unlock) refl (Some handed.Unlock) unlock)

  pub transmit_set_vr_lem : x.value < 256 → Shut x p (framed (started z)) (act.transmit_set_vr (x.value % 256) w) (perform action.TransmitSetVr m)
  unfolding act.transmit_set_vr act.transmit_bc_frame act.start_timer act.hand_down act.hold_control with_variables with_queues with_told
  transmit_set_vr_lem n =
      shuts h action.TransmitSetVr (act.transmit_set_vr (x.value % 256) w)
      (transmit.transmit_set_vr_lem _ _ _ _ _ w h.lengths h.store h.going.none
      ∙ ap (λ (k : ℕ). seen x h.c h.d (act.transmit_set_vr k w) h.lengths h.store) (sym (octet_is x.value n))) h.formed
      (bc_sent x w h.lengths h.store p z h.c h.d h.ended (Some (control.SetVr (x.value % 256))) refl (Some (handed.SetVr (x.value % 256))) (set_vr (x.value % 256)))

  pub transmit_bd : Shut x p z (act.transmit_bd_frame w) (perform action.TransmitBd m)
  unfolding act.transmit_bd_frame act.hand_down with_variables with_told
  transmit_bd =
      shuts h action.TransmitBd (act.transmit_bd_frame w) (transmit.transmit_bd _ _ _ _ _ w h.lengths h.store h.going.none) h.formed
      (other_handed x w h.lengths h.store p z h.c h.d h.ended (Some handed.Bd) bd)

  pub look_for_directive_lem : Shut x p z (act.look_for_directive w) (perform action.LookForDirective m)
  look_for_directive_lem =
      shuts h action.LookForDirective (act.look_for_directive w) (transmit.look_for_directive_lem _ _ _ _ _ w h.lengths h.store h.going.none)
      (well.look_for_directive_lem w h.lengths h.store h.formed) (directive_looked x w h.lengths h.store p z h.c h.d h.ended w.queues.control)

-- AD frames.
ad_place : (down : Option Handed) (n j k i : ℕ) → down ≡ (Some (handed.Ad n j)) → down ≡ (Some (handed.Ad k i)) → i ≡ j
ad_place down n j k i a b = cc

oldest_marked : (sent marked : ℕ) → 0 < marked → marked ≤ sent → sent ≤ largest_k → offset sent marked < sent
oldest_marked sent marked a b c = omega arith

one_more : (sent : ℕ) → sent ≤ largest_k → advanced sent 1 ≡ suc sent
one_more sent h = omega arith

counted_for : (sent count : ℕ) → Counted count → Counted (act.count_for sent count)
counted_for sent count k = by (eqb sent 0) where
  by : (b : Bool) → Counted (pick b 1 count)
  by true = counts_one
  by false = k

module _ (x : Case) (w : Work) (lengths store : List ℕ) {p : Stored} {z : Idle} {c d : List Fdu} (e : EndedOf x p z lengths store c d w) (formed : WellFormed w lengths store) where
  any_sent : {timer sent : ℕ} {waiting : Bool} → IdleIs (sending z) timer sent waiting w.queues.control w.variables.suspend_state
  any_sent = record { unsent = tt; unasked = tt; stopped = tt; frame = e.idle.frame; is_suspend = e.idle.is_suspend }

  marked_again : 0 < w.queues.marked → EndedOf x p (sending z) lengths store c d (act.send_marked w)
  unfolding act.send_marked act.hand_down with_variables with_queues with_told
  marked_again t =
      let q = w.queues in
      let here : offset q.sent q.marked < q.sent = oldest_marked q.sent q.marked t formed.last formed.sent_most in
      record {
        settled = e.settled;
        counted = e.counted;
        filled = e.filled;
        no_more = e.no_more;
        runs = e.runs;
        idle = any_sent;
        below = λ k i b. omega (arith, here, ad_place (Some (handed.Ad (offset w.variables.vs q.marked) (offset q.sent q.marked))) _ _ k i refl b);
      }

  new_sent : w.queues.waiting ≡ true → EndedOf x p (sending z) lengths store c d (act.transmit_ad_frame (act.respond AcceptAdUnit w))
  unfolding act.transmit_ad_frame act.respond act.start_timer act.hand_down with_variables with_queues with_told
  new_sent t =
      let q = w.queues in
      let more : advanced q.sent 1 ≡ suc q.sent = one_more q.sent formed.sent_most in
      record {
        settled = e.settled;
        counted = counted_for q.sent w.variables.transmission_count e.counted;
        filled = λ i b. e.filled i (subst (λ (y : Bool). i < units_held q.sent y) (sym t) (omega (arith, more, b)));
        no_more = omega (arith, more, subst (λ (y : Bool). NoMore x p w.told.confirmed.count q.sent y) t e.no_more);
        runs = e.runs;
        idle = any_sent;
        below = λ k i b. omega (arith, more, ad_place (Some (handed.Ad w.variables.vs q.sent)) _ _ k i refl b);
      }

  same_sent : EndedOf x p (sending z) lengths store c d w
  same_sent = record { settled = e.settled; counted = e.counted; filled = e.filled; no_more = e.no_more; runs = e.runs; idle = any_sent; below = e.below }

  fdu_looked : EndedOf x p (sending z) lengths store c d (act.look_for_fdu w)
  unfolding act.look_for_fdu
  fdu_looked = by w.variables.ad_out (ltb 0 w.queues.marked) refl w.queues.waiting refl (act.in_window w) where
    by : (a t : Bool) → ltb 0 w.queues.marked ≡ t → (i : Bool) → w.queues.waiting ≡ i → (r : Bool)
        → EndedOf x p (sending z) lengths store c d (pick a (pick t (act.send_marked w) (pick i (pick r (act.transmit_ad_frame (act.respond AcceptAdUnit w)) w) w)) w)
    by false t y i j r = same_sent
    by true true y i j r = marked_again (ltb-true 0 w.queues.marked y)
    by true false y true j true = new_sent j
    by true false y true j false = same_sent
    by true false y false j r = same_sent

pub look_for_fdu_lem : (x : Case) (w : Work) (m : machine.Work) {p : Stored} {f : Bool} {z : Idle} {u : Bool} {l : ℕ} → Open x p f z u (suc l) w m
    → Shut x p (sending z) (act.look_for_fdu w) (perform action.LookForFdu m)
look_for_fdu_lem x w m {p} {f} {z} {u} {l} h =
    let g = h.going in
    shuts h action.LookForFdu (act.look_for_fdu w)
    (transmit.look_for_fdu_lem _ _ _ _ _ w h.lengths h.store g.none h.formed (less_room 1 (suc l) w.told.responses (omega arith) g.room))
    (well.look_for_fdu_lem w h.lengths h.store h.formed h.ended.settled.in_window) (fdu_looked x w h.lengths h.store h.ended h.formed)
