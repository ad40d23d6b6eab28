-- The suspension law of the functions that C and Rust call: each call is the table machine's with the store lent (Sender, `next_any`, `answers_any`), so
-- crate suspension's law holds of them.
use Prim.Native.Nat.{ℕ}
use mathlib.Core.Path.{ap, ◌∙◌}
use lib.ListN.{length, length-replicate}
use Rattle.fop.specs.Units.{Own}
use Rattle.fop.specs.Store.{lent_next, lent_answer}
use Rattle.suspension.specs.Suspension.{ByTable}
use Rattle.suspension.proofs.Law.{suspension_law}
use Rattle.our_session.specs.Ours.{lent_output, reads}
use Rattle.called_session.specs.Called.{held_in}
use Rattle.called_session.specs.Suspension.{called_sender, SuspensionCalled}
use Rattle.called_session.proofs.Sender.{keeps_well, next_any, answers_any}

by_table_lem : (own : Own) → ByTable own (called_sender own)
by_table_lem own = record {
  well = λ e lent x w. let k = keeps_well own x (record { is = w.0; well = w.1 }) (lent_output lent) e in (k.is, k.well);
  next = λ e lent x w. next_any own x (record { is = w.0; well = w.1 }) (lent_output lent) e
      ∙ ap (λ (n : ℕ). lent_next own e (length x.store) n (reads (held_in x))) (length-replicate lent 0);
  answer = λ e lent x w. answers_any own x (record { is = w.0; well = w.1 }) (lent_output lent) e
      ∙ ap (λ (n : ℕ). lent_answer own e (length x.store) n (reads (held_in x))) (length-replicate lent 0);
}

pub suspension_called : SuspensionCalled
suspension_called own = suspension_law own (called_sender own) (by_table_lem own)
