-- The suspension law (crate suspension) of our own sender: from every well-formed state, with any store lent, also one that is too small.
use Rattle.std.specs.Prelude.{length}
use Rattle.fop.specs.Units.{Own}
use Rattle.suspension.specs.Suspension.{Sender, SuspensionLaw}
use Rattle.our_session.specs.Ours.{Held, step_of, held_after, answer_by, lent_output, reads}
use Rattle.our_session.specs.Does.{Well}

-- our sender with its store, at this address
abbrev pub our_sender : Own → Sender
our_sender own = record {
  Held = Held;
  Well = λ x. Well own x.sender.fop;
  reads = reads;
  stored = λ x. length x.store;
  next = λ e lent x. held_after (step_of e (lent_output lent) x);
  answer = λ e lent x. answer_by (step_of e (lent_output lent) x);
}

abbrev pub SuspensionOurs : Type 0
SuspensionOurs = (own : Own) → SuspensionLaw own (our_sender own)
