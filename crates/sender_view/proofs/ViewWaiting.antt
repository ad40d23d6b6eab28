-- Add to Wait_Queue: the unit is put into the store behind the sent ones, and they are as they were. So the view of the work and of the
-- store after it is the machine's action on the view.
use Rattle.std.specs.Prelude.{None}
use Rattle.std.specs.Prelude as std
use mathlib.Core.Path.{◌≡◌, refl, sym, ap, ◌∙◌}
use mathlib.Core.List.{List, [], ◌∷◌}
use mathlib.Core.Option.{Option, some}
use Prim.Native.Nat.{ℕ, zero, suc, ◌+◌, ◌-◌, ◌≤◌, ◌<◌}
use native.Mathlib.Omega.{arith}
use lib.Dec.{leb}
use lib.ListN.{length, get_or, set}
use Rattle.base.specs.Limits.{largest_unit}
use Rattle.base.specs.Modulo.{advanced, offset}
use Rattle.store.proofs.Need.{larger_second}
use Rattle.store.specs.Places.{place_offset, unit_put}
use Rattle.store.proofs.Laws.{put_there, put_before}
use Rattle.fop.specs.Units.{Fdu, Frame}
use Rattle.fop.specs.declared.Action.TheVariants as action
use Rattle.fop.specs.declared.Event.{Event as FopEvent}
use Rattle.fop.specs.Variables as machine
use Rattle.fop.specs.Variables.{Entry}
use Rattle.fop.specs.Machine.{perform}
use Rattle.sender_values.specs.declared.Handed.{Handed}
use Rattle.sender_values.specs.declared.Work.{Work}
use Rattle.sender_values.specs.Parts.{with_queues}
use Rattle.sender_values.specs.Actions as act
use Rattle.sender_view.specs.View.{entry_at, entries_from, entries_of, fop_of, frames_of, responses_of, view, WellFormed}
use Rattle.sender_view.proofs.ViewAnswers.{seen}

-- the units before place `sent` are as they were
module _ (lengths store u : List ℕ) (f p sent : ℕ) (units : (i : ℕ) → get_or lengths i 0 ≤ largest_unit) where
  abbrev longer : List ℕ
  longer = set lengths sent (length u)

  abbrev put : List ℕ
  put = unit_put sent u store

  entries_same : (i n : ℕ) → i + n ≤ sent → entries_from longer put f p i n ≡ entries_from lengths store f p i n
  entries_same i zero h = refl
  entries_same i (suc n) h =
      ap (λ (x : List ℕ). record { fdu = record { ns = advanced f i; octets = x }; marked = leb p i } ∷ entries_from longer put f p (suc i) n)
      (put_before lengths store u sent units i (omega arith))
      ∙ ap (λ (xs : List Entry). entry_at lengths store f p i ∷ xs) (entries_same (suc i) n (omega arith))

module _ (e : Option FopEvent) (o : List ℕ) (n : ℕ) (c d : List Fdu) (w : Work) (lengths store : List ℕ) (first : w.told.handed ≡ None)
    (well : WellFormed w lengths store) (legal : length o ≤ largest_unit) where
  pub add_to_wait_queue_lem : perform action.AddToWaitQueue (view e o n c d w lengths store)
      ≡ view e o n c d (act.add_to_wait_queue w) (set lengths w.queues.sent (length o)) (unit_put w.queues.sent o store)
  unfolding perform act.add_to_wait_queue with_queues
  add_to_wait_queue_lem =
      let q = w.queues in
      let v = w.variables in
      let few : q.sent < length lengths = omega (arith, well.sent_most, well.all_places) in
      let room : place_offset q.sent + length o ≤ length store = omega (arith, well.room, larger_second w.settings.k q.sent, legal) in
      let more = set lengths q.sent (length o) in
      let after = unit_put q.sent o store in
      let F : List Frame → List Entry → List ℕ → machine.Work = λ fr xs u.
      seen e o n c d w (machine.set_wait (some u) (machine.set_sequence v.vs v.nnr xs (fop_of w lengths store))) fr (responses_of w.told.responses) in
      let fr : (ls s : List ℕ) → frames_of w.told.handed ls s o ≡ [] = λ ls s. ap (λ (h : std.Option Handed). frames_of h ls s o) first in
      ap (λ (y : List Frame). F y (entries_of lengths store v.vs q.sent q.marked) o) (fr lengths store ∙ sym (fr more after))
      ∙ ap (λ (xs : List Entry). F (frames_of w.told.handed more after o) xs o)
      (sym (entries_same lengths store o (offset v.vs q.sent) (q.sent - q.marked) q.sent well.units 0 q.sent (omega arith)))
      ∙ ap (F (frames_of w.told.handed more after o) (entries_of more after v.vs q.sent q.marked)) (sym (put_there lengths store o q.sent few room))
