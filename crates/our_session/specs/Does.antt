-- Demand 2 of our sender: every event of it, from every well-formed state, whatever octets it brings and whatever output and store are lent, gives
-- table 7-8's answer, next state and frame; 11 where the store lent is too small (crate fop, specs/Store).
use Rattle.std.specs.Prelude.{ℕ, ◌≤◌, ◌≡◌, List, length}
use Rattle.fop.specs.Units.{Own}
use Rattle.fop.specs.Variables.{Fop}
use Rattle.fop.specs.Events.{SenderEvent}
use Rattle.fop.specs.Store.{store_refusal, lent_answer, lent_next}
use Rattle.sender_values.specs.declared.SenderState.{SenderState}
use Rattle.sender_values.specs.Start.{begun}
use Rattle.sender_view.specs.View.{fop_of}
use Rattle.sender_rows_view.specs.State.{Good}
use Rattle.sender_frames.specs.Limits.{need_of}
use Rattle.sender.specs.Answers.{Step}
use Rattle.our_session.specs.Ours.{Held, step_of, answer_by, reads}

-- a well-formed sender, whatever store it is lent next: so with every store that suffices for it
abbrev pub Well : Own → SenderState → Type 0
Well own s = (store : List ℕ) → need_of s ≤ length store → Good own s store

-- a step of our sender, with a store of `stored` octets and output of `lent`, is what the table machine does at the event, and leaves it
-- well-formed; the answer has the frame's octets. Where the event is not refused, the store suffices for the state after it too.
pub record Does (own : Own) (stored lent : ℕ) (e : SenderEvent) (f : Fop) (x : Step) : Type 0 where
  pub answer : answer_by x ≡ lent_answer own e stored lent f
  pub next : fop_of (begun x.answer.next.fop) x.answer.next.fop.lengths x.store ≡ lent_next own e stored lent f
  pub well : Well own x.answer.next.fop
  pub good : store_refusal own e stored f ≡ 0 → Good own x.answer.next.fop x.store

-- for both ends' address, every event, any output lent, every well-formed sender and any store lent
abbrev pub Demand2 : Type 0
Demand2 =
    (own : Own) (e : SenderEvent) (output : List ℕ) (x : Held) → Well own x.sender.fop
    → Does own (length x.store) (length output) e (reads x) (step_of e output x)
