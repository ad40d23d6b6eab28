-- Remove acknowledged frames, by a number from NN(R) to V(S): the lengths and the units in the store move down, and the view of the work with
-- them is the machine's action on the view.
use Rattle.std.specs.Prelude.{None}
use Rattle.std.specs.Prelude as std
use mathlib.Core.Path.{◌≡◌, refl, sym, ap, ◌∙◌}
use mathlib.Core.Bool.{Bool, true, false}
use mathlib.Core.List.{List, []}
use mathlib.Core.Option.{Option, some}
use Prim.Native.Nat.{ℕ, suc, ◌+◌, ◌-◌, ◌≤◌, ◌<◌}
use native.Mathlib.Omega.{arith}
use borrow.Author.Tests.{ltb-true, ltb-false}
use lib.Dec.{ltb}
use lib.ListN.{length, take, drop}
use Rattle.base.specs.Choice.{pick}
use Rattle.base.specs.Modulo.{advanced, offset}
use Rattle.store.specs.Slid.{slid}
use Rattle.store.proofs.Need.{larger_second}
use Rattle.store.specs.Places.{place_offset, unit_at, without}
use Rattle.store.proofs.Laws.{without_unit}
use Rattle.fop.specs.Units.{Fdu, Frame}
use Rattle.fop.specs.declared.Action.TheVariants as action
use Rattle.fop.specs.declared.Event.{Event as FopEvent}
use Rattle.fop.specs.Variables as machine
use Rattle.fop.specs.Variables.{Entry}
use Rattle.fop.specs.Machine.{perform, fdus, is_acknowledged, acknowledged, unacknowledged, remove_acknowledged}
use Rattle.sender_values.specs.declared.Handed.{Handed}
use Rattle.sender_values.specs.declared.Work.{Work}
use Rattle.sender_values.specs.Parts.{with_variables, with_queues, with_told}
use Rattle.sender_values.specs.Actions as act
use Rattle.sender_values.specs.Actions.{units_held, least, staying, removed}
use Rattle.sender_view.specs.View.{entry_at, entries_from, entries_of, wait_of, fop_of, frames_of, responses_of, view, WellFormed}
use Rattle.sender_view.proofs.Offsets.{offset_ge, offset_add}
use Rattle.sender_view.proofs.SentQueue.{held_least, held_most, entries_slid, dropped}
use Rattle.sender_view.proofs.Acknowledged.{left, gone as gone-units, acknowledged_place}
use Rattle.sender_view.proofs.ViewAnswers.{seen}

-- the least of two numbers is not above the first
pub least_first : (a b : ℕ) → least a b ≤ a
least_first a b = by (ltb a b) refl where
  by : (x : Bool) → ltb a b ≡ x → pick x a b ≤ a
  by true e = omega arith
  by false e = ltb-false a b e

-- what is unmarked of the rest
rest_unmarked : (sent marked rest : ℕ) → rest ≤ sent → rest - least marked rest ≡ (sent - marked) - (sent - rest)
rest_unmarked sent marked rest h = by (ltb marked rest) refl where
  by : (x : Bool) → ltb marked rest ≡ x → rest - pick x marked rest ≡ (sent - marked) - (sent - rest)
  by true e = omega (arith, ltb-true marked rest e)
  by false e = omega (arith, ltb-false marked rest e)

module _ (w : Work) (lengths store : List ℕ) (n : ℕ) (well : WellFormed w lengths store) where
  -- the units that go
  pub gone_is : removed n w ≡ w.queues.sent - staying n w
  gone_is =
      let h : w.queues.sent < 256 = omega (arith, well.sent_most) in
      offset_ge w.queues.sent (staying n w) (least_first w.queues.sent (offset w.variables.vs n)) h

module _ (e : Option FopEvent) (o : List ℕ) (n : ℕ) (d : List Fdu) (w : Work) (lengths store : List ℕ) (first : w.told.handed ≡ None) (well : WellFormed w lengths store)
    (octet : n < 256) (in_window : offset n w.variables.nnr ≤ offset w.variables.vs w.variables.nnr) where
  abbrev rest : ℕ
  rest = staying n w

  abbrev gone : ℕ
  gone = w.queues.sent - rest

  -- the units that stay in the store, the lengths and the store
  abbrev kept : ℕ
  kept = units_held w.queues.sent w.queues.waiting - gone

  abbrev slid_lengths : List ℕ
  slid_lengths = slid gone lengths

  abbrev moved : List ℕ
  moved = without lengths gone kept store

  abbrev Sent : List Entry
  Sent = entries_of lengths store w.variables.vs w.queues.sent w.queues.marked

  rest_few : rest ≤ w.queues.sent
  rest_few = least_first w.queues.sent (offset w.variables.vs n)

  kept_few : gone + kept ≤ length lengths
  kept_few = omega (arith, well.all_places, well.sent_most, held_most w.queues.sent w.queues.waiting)

  kept_room : place_offset (gone + kept) ≤ length store
  kept_room = omega (arith, well.room, larger_second w.settings.k w.queues.sent, held_most w.queues.sent w.queues.waiting)

  rest_kept : rest ≤ kept
  rest_kept = omega (arith, rest_few, held_least w.queues.sent w.queues.waiting)

  which : (j : ℕ) → j < 0 + w.queues.sent
      → is_acknowledged w.variables.nnr n (entry_at lengths store (offset w.variables.vs w.queues.sent) (w.queues.sent - w.queues.marked) j) ≡ ltb j gone
  which j h =
      acknowledged_place w.variables.vs w.variables.nnr n w.queues.sent j well.vs_octet well.nnr_octet octet well.outstanding in_window (omega arith)

  queue_left : unacknowledged w.variables.nnr n Sent
      ≡ entries_of slid_lengths moved w.variables.vs rest (least w.queues.marked rest)
  queue_left =
      let q = w.queues in
      let f = offset w.variables.vs q.sent in
      let p = q.sent - q.marked in
      let a : gone - 0 ≡ gone = omega arith in
      let b : q.sent ≡ gone + rest = omega (arith, rest_few) in
      let k : gone + 0 ≡ 0 + gone = omega arith in
      let g : advanced f gone ≡ offset w.variables.vs rest = offset_add w.variables.vs q.sent rest rest_few (omega (arith, well.sent_most)) well.vs_octet in
      left lengths store f p w.variables.nnr n gone 0 q.sent which
      ∙ ap (λ (x : ℕ). drop x (entries_from lengths store f p 0 q.sent)) a
      ∙ ap (λ (x : ℕ). drop gone (entries_from lengths store f p 0 x)) b
      ∙ dropped lengths store f p gone 0 rest
      ∙ ap (λ (x : ℕ). entries_from lengths store f p x rest) (sym k)
      ∙ sym (entries_slid lengths store f p gone kept well.units kept_few kept_room 0 rest (omega (arith, rest_kept)))
      ∙ ap (λ (x : ℕ). entries_from slid_lengths moved x (p - gone) 0 rest) g
      ∙ ap (λ (x : ℕ). entries_from slid_lengths moved (offset w.variables.vs rest) x 0 rest)
      (sym (rest_unmarked q.sent q.marked rest rest_few))

  wait_same : wait_of lengths store w.queues.sent w.queues.waiting ≡ wait_of slid_lengths moved rest w.queues.waiting
  wait_same = by w.queues.waiting refl where
    by : (b : Bool) → w.queues.waiting ≡ b → wait_of lengths store w.queues.sent b ≡ wait_of slid_lengths moved rest b
    by true x =
        let b : w.queues.sent ≡ gone + rest = omega (arith, rest_few) in
        let h : units_held w.queues.sent w.queues.waiting ≡ suc w.queues.sent = ap (units_held w.queues.sent) x in
        ap some (ap (λ (y : ℕ). unit_at lengths y store) b ∙ sym (without_unit lengths gone store well.units kept rest (omega (arith, h, b)) kept_few kept_room))
    by false x = refl

  pub remove_acknowledged_frames_lem : perform action.RemoveAcknowledgedFrames (view e o n [] d w lengths store)
      ≡ view e o n (fdus (take gone Sent)) d (act.remove_acknowledged_frames n w) slid_lengths moved
  unfolding perform remove_acknowledged act.remove_acknowledged_frames with_variables with_queues with_told
  remove_acknowledged_frames_lem =
      let q = w.queues in
      let v = w.variables in
      let t = w.told in
      let F : List Frame → List Fdu → List Entry → Option (List ℕ) → machine.Work = λ fr cs xs u.
      seen e o n cs d w (machine.set_wait u (machine.set_clock v.timer 1 (machine.set_sequence v.vs n xs (fop_of w lengths store)))) fr (responses_of t.responses) in
      let a : gone - 0 ≡ gone = omega arith in
      let u₀ = wait_of lengths store q.sent q.waiting in
      let x₁ = entries_of slid_lengths moved v.vs rest (least q.marked rest) in
      let fr : (lengths s : List ℕ) → frames_of t.handed lengths s o ≡ [] = λ lengths s. ap (λ (h : std.Option Handed). frames_of h lengths s o) first in
      let f₁ = frames_of t.handed slid_lengths moved o in
      ap (λ (f : List Frame). F f (acknowledged v.nnr n Sent) (unacknowledged v.nnr n Sent) u₀) (fr lengths store ∙ sym (fr slid_lengths moved))
      ∙ ap (λ (cs : List Fdu). F f₁ cs (unacknowledged v.nnr n Sent) u₀)
      (gone-units lengths store (offset v.vs q.sent) (q.sent - q.marked) v.nnr n gone 0 q.sent which ∙ ap (λ (x : ℕ). fdus (take x Sent)) a)
      ∙ ap (λ (xs : List Entry). F f₁ (fdus (take gone Sent)) xs u₀) queue_left
      ∙ ap (F f₁ (fdus (take gone Sent)) x₁) wait_same
