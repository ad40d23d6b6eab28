-- Document 02, order 11, of the functions that C and Rust call (`accounted_called`): what a call leaves is what the step of the sender in the octets leaves
-- (`held_next`), and its answer is the step's, so what crate our_session proves of the step with the store lent holds of the call.
use Prim.Native.Nat.{ℕ, ◌≤◌}
use mathlib.Core.Path.{◌≡◌, refl, sym, ap, subst, ◌∙◌}
use mathlib.Core.Bool.{Bool, true, false}
use mathlib.Core.List.{List}
use lib.Dec.{eqb}
use lib.ListN.{length}
use Rattle.base.specs.Choice.{pick}
use Rattle.fop.specs.Units.{Own}
use Rattle.fop.specs.Events.{SenderEvent}
use Rattle.fop.specs.Store.{store_need}
use Rattle.ledger.specs.Accounted.{Fresh, Within, ByTable}
use Rattle.ledger.proofs.Accounts.{accounted}
use Rattle.sender.specs.Answers.{Step}
use Rattle.sender_octets.specs.Kept.{state_octets, is_state}
use Rattle.pondreszi_sender.specs.Senders.{Called}
use Rattle.our_session.specs.Ours.{held_after, answer_by, lent_output, reads}
use Rattle.our_session.specs.Ledger.{Lent, step_lent, next_lent, settings_of}
use Rattle.our_session.proofs.Ledger.{keeps_lent, by_machine, limits_hold, fresh_is, fresh_start}
use Rattle.our_session.proofs.Theorem.{GoodHeld}
use Rattle.our_session.proofs.Widened.{good_well}
use Rattle.called_session.specs.Called.{Kept, kept_after, answer_called, held_in}
use Rattle.called_session.specs.Ledger.{call_lent, next_called, called_ledger, AccountedCalled}
use Rattle.called_session.proofs.Sender.{WellKept, GoodKept, call_is, answer_is, held_is, keeps_well}
use Rattle.called_session.proofs.Started.{Started, started}

module _ (own : Own) (e : SenderEvent) (l : Lent) (x : Kept) (g : GoodKept own x) where
  -- what is kept, with the store lent; its call, and the step of the sender that the octets hold
  abbrev lent : Kept
  lent = record { state = x.state; store = l.store }

  abbrev call : Called
  call = call_lent e l x

  abbrev step : Step
  step = step_lent e l (held_in x)

  well_lent : WellKept own lent
  well_lent = record { is = g.is; well = good_well g.good }

  number_is : call.number ≡ step.answer.refusal
  number_is = ap (λ (c : Called). c.number) (call_is lent g.is (lent_output l.room) e)

  held_next : held_in (next_called e l x) ≡ next_lent e l (held_in x)
  held_next = ap (λ (n : ℕ). held_in (pick (eqb n 0) (kept_after call) x)) number_is ∙ by (eqb step.answer.refusal 0) where
    by : (b : Bool) → held_in (pick b (kept_after call) x) ≡ pick b (held_after step) (held_in x)
    by true = held_is own lent well_lent (lent_output l.room) e
    by false = refl

  answer_same : answer_called call ≡ answer_by step
  answer_same = answer_is lent g.is (lent_output l.room) e

  keeps_called : GoodKept own (next_called e l x)
  keeps_called =
      record { is = by (eqb call.number 0); good = subst (GoodHeld own) (sym held_next) (keeps_lent own e l (held_in x) g.good) } where
        by : (b : Bool) → is_state (pick b (kept_after call) x).state ≡ true
        by true = (keeps_well own lent well_lent (lent_output l.room) e).is
        by false = g.is

-- from what `pondreszi_sender_new` gives
module _ (s : Fresh) (within : Within s) (store : List ℕ) (long : store_need s.preset.k 0 ≤ length store) (buffer : List ℕ)
    (sized : length buffer ≡ state_octets) where
  new : Started (settings_of s) s.vs s.nnr store buffer
  new =
      started (settings_of s) (limits_hold s within store long) within.timer_most within.limit_most s.vs s.nnr within.vs within.nnr store long buffer sized

  by_table_lem : ByTable s (called_ledger s store buffer)
  by_table_lem = record {
    Well = GoodKept s.own;
    well = new.good;
    keeps = λ e l x fit g. keeps_called s.own e l x g;
    start = ap reads (new.held ∙ sym (fresh_is s within store long)) ∙ fresh_start s within store long;
    next = λ e l x fit g. ap reads (held_next s.own e l x g) ∙ (by_machine s.own e l (held_in x) g.good fit).0;
    answer = λ e l x fit g. answer_same s.own e l x g ∙ (by_machine s.own e l (held_in x) g.good fit).1;
  }

pub accounted_called : AccountedCalled
accounted_called s within store long buffer sized = accounted s within (called_ledger s store buffer) (by_table_lem s within store long buffer sized)
