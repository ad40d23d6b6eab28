-- The suspension law (crate suspension) of the functions that C and Rust call: of whatever octets a caller keeps that are a state, with any store lent.
use Rattle.std.specs.Prelude.{◌≡◌, true, length}
use Rattle.fop.specs.Units.{Own}
use Rattle.suspension.specs.Suspension.{Sender, SuspensionLaw}
use Rattle.sender_octets.specs.Kept.{is_state}
use Rattle.our_session.specs.Ours.{lent_output, reads}
use Rattle.our_session.specs.Does.{Well}
use Rattle.called_session.specs.Called.{Kept, call_of, kept_after, answer_called, held_in}

-- what a caller keeps of a sender at this address; octets that are a state are of a well-formed one (proofs/Sender, `state_well`)
abbrev pub called_sender : Own → Sender
called_sender own = record {
  Held = Kept;
  Well = λ x. (is_state x.state ≡ true) × Well own (held_in x).sender.fop;
  reads = λ x. reads (held_in x);
  stored = λ x. length x.store;
  next = λ e lent x. kept_after (call_of e (lent_output lent) x);
  answer = λ e lent x. answer_called (call_of e (lent_output lent) x);
}

abbrev pub SuspensionCalled : Type 0
SuspensionCalled = (own : Own) → SuspensionLaw own (called_sender own)
