-- Demand 3 of the functions that C and Rust call: a caller's two ends are tied to the tables, so crate session's theorem holds of them. The premise
-- can be met: what `pondreszi_sender_new` gives, told to initiate without check, begins a session, and what `pondreszi_receiver_new` gives is the
-- receiver of its start.
use Rattle.std.specs.Prelude.{Result, Err}
use Prim.Native.Nat.{ℕ, ◌≤◌}
use mathlib.Core.Path.{◌≡◌, sym, ap, subst, ◌∙◌}
use mathlib.Core.Bool.{Bool}
use mathlib.Core.List.{List, ◌++◌, append-nil}
use native.Mathlib.Omega.{arith}
use borrow.Author.Tests.{le-leb}
use lib.ListN.{length, drop, drop_of_length-le}
use Rattle.base.specs.Choice.{must}
use Rattle.fop.specs.Limits.{largest_number}
use Rattle.fop.specs.Events.{directive}
use Rattle.receiver_octets.specs.Kept as farm
use Rattle.receiver.specs.Receiver as farm_start
use Rattle.receiver.specs.declared.Receiver.{Receiver}
use Rattle.base.specs.declared.Refusal.{Refusal}
use Rattle.base.specs.declared.Refusal.TheVariants.{Setting}
use Rattle.receiver_octets.proofs.Restored.{receiver_back}
use Rattle.session.specs.Ends.{Settings, Within, Tied, start_receiver}
use Rattle.session.specs.Signed.{Demanded}
use Rattle.session.specs.Beyond.{Beyond}
use Rattle.session.proofs.Theorem.{demand3}
use Rattle.session.proofs.Alerting.{demand3_alerting, beyond_alerting}
use Rattle.session.proofs.Strong.{stronger_claims}
use Rattle.session.proofs.Beyond.{beyond}
use Rattle.sender.specs.declared.Sender.{Sender}
use Rattle.fop.specs.Store.{store_need}
use Rattle.sender_octets.specs.Kept.{state_octets}
use Rattle.pondreszi_receiver.specs.Receivers as receiver
use Rattle.our_session.specs.Ours.{Held, step_of, held_after, lent_output, sender_settings, sender_started, fresh_held, start_held, reads, Begins}
use Rattle.our_session.proofs.Theorem.{limits_hold, starts, fresh_begins, receiver_starts}
use Rattle.called_session.specs.Called.{Kept, held_in, BeginsKept, called}
use Rattle.called_session.specs.Demand.{Demand3, StrongerCalled, BeyondCalled, AlertingCalled}
use Rattle.called_session.specs.Fresh.{new_kept, start_kept, FreshSender, FreshReceiver}
use Rattle.called_session.proofs.Receiver.{GoodReceiver, keeps_receiver_lem, next_receiver_lem, answer_receiver_lem, word_receiver, start_good}
use Rattle.called_session.proofs.Started.{Started, started}
use Rattle.called_session.proofs.Sender.{GoodKept, good_kept, held_is, keeps, next, answers}

-- a caller's two ends are tied to the tables
pub called_tied : (set : Settings) → Within set → (x : Kept) → BeginsKept set x → Tied set (called set x)
called_tied set within x b = record {
  fop = λ y. reads (held_in y);
  farm = farm.receiver_in;
  Good = GoodKept set.own;
  GoodReceiver = GoodReceiver;
  good = record { is = b.is; good = b.begins.good };
  good_receiver = start_good set within;
  keeps = λ e i lent y g. keeps set.own y g lent e;
  keeps_receiver = λ e state g. keeps_receiver_lem state g e;
  start = b.begins.start;
  start_receiver = receiver_back (start_receiver set);
  next = λ e i lent y g. next set.own y g lent e i;
  answer = λ e i lent y g. answers set.own y g lent e i;
  next_receiver = λ e state g. next_receiver_lem state g e;
  answer_receiver = λ e state g. answer_receiver_lem state g e;
  word = λ lent state g. word_receiver state g lent (lent_output lent);
}

-- demand 3, whole; at Timeout_Type 0 after every list of events, as document 01 words it; and what holds besides
pub demand3_called : Demand3
demand3_called set within x b = demand3 set within (called set x) (called_tied set within x b)

pub alerting_called : AlertingCalled
alerting_called set within x b =
    (demand3_alerting set within (called set x) (called_tied set within x b), beyond_alerting set within (called set x) (called_tied set within x b))

pub stronger_called : StrongerCalled
stronger_called set within x b = stronger_claims set within (called set x) (called_tied set within x b)

pub beyond_called : BeyondCalled
beyond_called set within x b = beyond set within (called set x) (called_tied set within x b)

-- a new sender, in a buffer of a state's length
module _ (set : Settings) (within : Within set) (store : List ℕ) (long : store_need set.k 0 ≤ length store) (buffer : List ℕ)
    (sized : length buffer ≡ state_octets) where
  new : Started (sender_settings set) set.n set.n store buffer
  new =
      started (sender_settings set) (limits_hold set within set.n within.number store long) within.timer_most within.limit_most
      set.n set.n within.number within.number store long buffer sized

  new_held : held_in (new_kept set store buffer) ≡ fresh_held set set.n store
  unfolding fresh_held
  new_held = new.held ∙ sym (ap (λ (x : Result Sender Refusal). record { sender = sender_started x; store = store }) (starts set within set.n within.number store long))

  -- told to initiate without check, it begins a session at Transmission_Count 1
  start_begins : set.count ≡ 1 → BeginsKept set (start_kept set store buffer)
  start_begins one =
      let h : held_in (start_kept set store buffer) ≡ start_held set store =
      held_is set.own (new_kept set store buffer) (good_kept new.good) (lent_output 0) (directive 1 0)
      ∙ ap (λ (x : Held). held_after (step_of (directive 1 0) (lent_output 0) x)) new_held in
      record {
        is = (keeps set.own (new_kept set store buffer) new.good 0 (directive 1 0)).is;
        begins = subst (Begins set) (sym h) (fresh_begins set within one store long);
      }

pub fresh_called : FreshSender
fresh_called set within one store long buffer sized = record {
  number = (new set within store long buffer sized).number;
  begins = start_begins set within store long buffer sized one;
}

-- so demand 3 holds from there
pub demand3_fresh : (set : Settings) → Within set → set.count ≡ 1 → (store : List ℕ) → store_need set.k 0 ≤ length store → (buffer : List ℕ)
    → length buffer ≡ state_octets → Demanded set (called set (start_kept set store buffer))
demand3_fresh set within one store long buffer sized =
    demand3_called set within (start_kept set store buffer) (fresh_called set within one store long buffer sized).begins

-- and all that holds beyond it
pub beyond_fresh : (set : Settings) → Within set → set.count ≡ 1 → (store : List ℕ) → store_need set.k 0 ≤ length store → (buffer : List ℕ)
    → length buffer ≡ state_octets → Beyond set (called set (start_kept set store buffer))
beyond_fresh set within one store long buffer sized =
    beyond_called set within (start_kept set store buffer) (fresh_called set within one store long buffer sized).begins

-- `pondreszi_receiver_new` gives the octets of the session's receiver, at a FARM-B counter of 0
pub fresh_receiver : FreshReceiver
unfolding receiver.new_call receiver.start_given
fresh_receiver set within zero buffer sized =
    let l : farm.state_octets ≤ length buffer = omega arith in
    let s : length buffer ≤ farm.state_octets = omega arith in
    let octets : List ℕ = farm.octets_of (start_receiver set) in
    let start : Result Receiver Refusal = farm_start.start_of set.own.spacecraft set.own.channel set.w set.n set.buffers in
    ap (λ (b : Bool). receiver.starting (must b (Err Setting) start) buffer)
    (le-leb set.n largest_number within.number)
    ∙ ap (λ (x : Result Receiver Refusal). receiver.starting x buffer) (receiver_starts set within zero)
    ∙ ap (λ (b : Bool). must b (record { number = 11; state = buffer }) (record { number = 0; state = octets ++ drop farm.state_octets buffer }))
    (le-leb farm.state_octets (length buffer) l)
    ∙ ap (λ (o : List ℕ). record { number = 0; state = o })
    (ap (λ (o : List ℕ). octets ++ o) (drop_of_length-le buffer {i = farm.state_octets} s) ∙ append-nil octets)
