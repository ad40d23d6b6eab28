-- The suspension law of our own sender: each of its steps is the table machine's with the store lent (demand 2), so crate suspension's law holds of it.
use Rattle.fop.specs.Units.{Own}
use Rattle.suspension.specs.Suspension.{ByTable}
use Rattle.suspension.proofs.Law.{suspension_law}
use Rattle.our_session.specs.Suspension.{our_sender, SuspensionOurs}
use Rattle.our_session.proofs.Events.{does}

by_table_lem : (own : Own) → ByTable own (our_sender own)
by_table_lem own = record {
  well = λ e lent x w. (does own e lent x w).well;
  next = λ e lent x w. (does own e lent x w).next;
  answer = λ e lent x w. (does own e lent x w).answer;
}

pub suspension_ours : SuspensionOurs
suspension_ours own = suspension_law own (our_sender own) (by_table_lem own)
