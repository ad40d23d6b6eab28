-- The row of an event, done to the sender's struct and store, is the table machine's work on what they read as: every cell of the table is
-- allowed (proofs/Allowed), and an allowed cell shows the machine's work with the lengths and the store that the event leaves, and confirms and
-- still holds no more units than were held before it and the one offered (proofs/Cells).
use Prim.Native.Nat.{ℕ, suc, ◌+◌, ◌≤◌}
use mathlib.Core.Path.{◌≡◌, refl}
use mathlib.Core.List.{List}
use Rattle.base.specs.Choice.{pick}
use Rattle.fop.specs.Units.{Own}
use Rattle.fop.specs.declared.Event.{Event as FopEvent}
use Rattle.fop.specs.Table.{table78, cell78}
use Rattle.fop.specs.Effective as machine
use Rattle.fop.specs.Machine.{fop_do}
use Rattle.sender_values.specs.declared.SenderState.{SenderState}
use Rattle.sender_values.specs.Actions.{units_held}
use Rattle.sender_values.specs.Start.{begun, none_told}
use Rattle.sender_view.specs.View.{fop_of}
use Rattle.sender_table.specs.Rows.{row_of}
use Rattle.sender_rows_view.specs.State.{Good, effective}
use Rattle.sender_rows_view.proofs.Rows.{brings, is_offering, Meets, store_after, lengths_after, Shows}
use Rattle.sender_rows_view.proofs.Allowed.{allowed}
use Rattle.sender_rows_view.proofs.Cells.{Shown, cell_view}

module _ (own : Own) (e : FopEvent) (o : List ℕ) (n : ℕ) (s : SenderState) (store : List ℕ) (good : Good own s store) (meets : Meets e o n s) where
  row_shown : Shown (record { own = own; event = e; octets = o; value = n; sender = s; store = store }) (row_of e n (begun s)) (fop_do e o n (fop_of (begun s) s.lengths store))
  unfolding row_of fop_do begun none_told
  row_shown =
      cell_view (record { own = own; event = e; octets = o; value = n; sender = s; store = store }) good meets (cell78 (table78 e) s.state)
      (allowed e o n s meets s.state good.suspend_most good.suspend_initial)

  -- the work with the lengths and the store after it
  pub row_view : Shows own e o n (row_of e n (begun s)) (lengths_after e o s (row_of e n (begun s))) (store_after e o s (row_of e n (begun s)) store)
      (fop_do e o n (fop_of (begun s) s.lengths store))
  row_view = row_shown.shows

  -- the units confirmed and those still held are no more than the units held before it; where a unit is offered, than the units sent and it
  pub row_few_lem : (row_of e n (begun s)).told.confirmed.count + units_held (row_of e n (begun s)).queues.sent (row_of e n (begun s)).queues.waiting
      ≤ pick (is_offering (brings e)) (suc s.queues.sent) (units_held s.queues.sent s.queues.waiting)
  row_few_lem = row_shown.no_more

-- the struct's effective state is that of what it reads as
pub effective_is : (s : SenderState) (store : List ℕ) → effective s ≡ machine.effective (fop_of (begun s) s.lengths store)
unfolding begun
effective_is s store = refl
