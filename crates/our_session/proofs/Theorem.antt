-- Demands 2 and 3 of our own two ends. Every event of our sender does what the table machine does (Events); the receiver's definitions are those of
-- the session. So our ends are tied to the tables from every sender that begins a session, and crate session's theorem holds of them.
-- A sender begins a session wherever the table machine, over the same events, comes to the session's start (`begins_after`): a fresh one
-- that is told to initiate without check is one (`fresh_begins`), with every store that suffices for its K.
use Rattle.std.specs.Prelude.{Result, Ok}
use Prim.Native.Nat.{ℕ, ◌%◌, ◌≤◌}
use mathlib.Core.Path.{◌≡◌, refl, sym, ap, ap₂, subst, ◌∙◌}
use mathlib.Core.Logic.{⊎_elim}
use mathlib.Core.Bool.{Bool, true, false}
use mathlib.Core.List.{List, [], ◌∷◌}
use native.Mathlib.Omega.{arith}
use borrow.Author.Tests.{le-leb, eq-eqb, eqb-true, eqb-false}
use lib.Dec.{eqb}
use lib.ListN.{length, length-replicate}
use Rattle.base.specs.Choice.{pick}
use Rattle.base.specs.Limits.{largest_spacecraft, largest_channel}
use Rattle.fop.specs.Limits.{largest_number}
use Rattle.fop.specs.Units.{Own}
use Rattle.fop.specs.Table as table
use Rattle.fop.specs.Variables.{Fop, set_clock}
use Rattle.fop.specs.Machine as action
use Rattle.fop.specs.Events as events
use Rattle.fop.specs.Events.{SenderEvent, request_ad, request_bd, directive, word_arrives}
use Rattle.fop.specs.Answers as answers
use Rattle.fop.specs.Answers.{sender_answer, sender_next}
use Rattle.sender_values.specs.declared.SenderState.{SenderState}
use Rattle.sender_values.specs.Start.{start_of, begun}
use Rattle.sender_view.specs.View.{fop_of}
use Rattle.sender_rows_view.specs.State.{Good}
use Rattle.receiver.specs.Receiver as farm
use Rattle.session.specs.Ends.{Settings, Within, Brought, Tied, start_sender, start_receiver}
use Rattle.session.specs.Signed.{Demanded}
use Rattle.session.specs.Beyond.{Beyond}
use Rattle.session.proofs.Theorem.{demand3}
use Rattle.session.proofs.Alerting.{demand3_alerting, beyond_alerting}
use Rattle.session.proofs.Strong.{stronger_claims}
use Rattle.session.proofs.Beyond.{beyond}
use Rattle.fop.specs.Store.{store_need, window_at, need_at, lent_next}
use Rattle.sender_state.specs.State.{settings_hold}
use Rattle.base.specs.declared.Refusal.{Refusal}
use Rattle.sender.specs.declared.Sender.{Sender}
use Rattle.sender.specs.Start.{starting_of}
use Rattle.our_session.specs.Ours.{Held, step_of, held_after, answer_by, lent_output, sender_settings, sender_started, fresh_held, held_after_all, start_held, reads, Begins, ours}
use Rattle.our_session.specs.Demand.{Demand3, StrongerOurs, BeyondOurs, AlertingOurs}
use Rattle.our_session.specs.Does.{Well, Demand2}
use Rattle.our_session.proofs.Events.{entries_count, does}
use Rattle.our_session.proofs.Output.{output_content_free}
use Rattle.our_session.proofs.Judged.{done_stored, suffices_answer, suffices_next}
use Rattle.our_session.proofs.Refused.{refused_keeps_all}
use Rattle.our_session.proofs.Restored.{settings_test, start_done, start_good}
use Rattle.our_session.proofs.Steps.{store_length}
use Rattle.our_session.proofs.Widened.{good_well}

-- the sender is well-formed with its store
abbrev pub GoodHeld : Own → Held → Type 0
GoodHeld own x = Good own x.sender.fop x.store

-- Demand 2 of our sender: what stands in the output lent is not looked at (Output), so it may be zeros.
pub demand2_ours : Demand2
demand2_ours own e output x w =
    let n : ℕ = length output in
    let same = output_content_free e x output (lent_output n) (sym (length-replicate n 0)) in
    let d = does own e n x w in
    record {
      answer = same.1 ∙ d.answer;
      next = ap reads same.0 ∙ d.next;
      well = subst (λ (y : Held). Well own y.sender.fop) (sym same.0) d.well;
      good = λ z. subst (GoodHeld own) (sym same.0) (d.good z);
    }

-- where an event is not refused the store suffices for the state after it
pub done_good : (own : Own) (e : SenderEvent) (lent : ℕ) (x : Held) → Well own x.sender.fop → (step_of e (lent_output lent) x).answer.refusal ≡ 0
    → GoodHeld own (held_after (step_of e (lent_output lent) x))
done_good own e lent x w z =
    let d = does own e lent x w in
    d.good (done_stored own (length x.store) lent e (reads x) (ap (λ (a : answers.Answer). a.refusal) (sym d.answer) ∙ z))

-- where it suffices for the state before an event it does for the state after it: a refused event keeps both
pub keeps_good : (own : Own) (e : SenderEvent) (lent : ℕ) (x : Held) → GoodHeld own x → GoodHeld own (held_after (step_of e (lent_output lent) x))
keeps_good own e lent x g = by (eqb (step_of e (lent_output lent) x).answer.refusal 0) refl where
  by : (b : Bool) → eqb (step_of e (lent_output lent) x).answer.refusal 0 ≡ b → GoodHeld own (held_after (step_of e (lent_output lent) x))
  by true z = done_good own e lent x (good_well g) (eqb-true _ 0 z)
  by false z = subst (GoodHeld own) (sym (refused_keeps_all.held e (lent_output lent) x (eqb-false _ 0 z))) g

-- the table machine after events, with a store of so many octets lent at each
abbrev pub next_all : Own → ℕ → List (SenderEvent × ℕ) → Fop → Fop
next_all own stored [] f = f
next_all own stored (e ∷ es) f = next_all own stored es (lent_next own e.0 stored e.1 f)

-- the same where the store suffices at each: as the tables go on
abbrev pub tables_all : Own → List (SenderEvent × ℕ) → Fop → Fop
tables_all own [] f = f
tables_all own (e ∷ es) f = tables_all own es (sender_next own e.0 e.1 f)

abbrev pub Suffices : Own → ℕ → List (SenderEvent × ℕ) → Fop → Type 0
Suffices own stored [] f = Unit {0}
Suffices own stored (e ∷ es) f = (need_at e.0 f ≤ stored) × Suffices own stored es (sender_next own e.0 e.1 f)

pub all_suffice : (own : Own) (stored : ℕ) (es : List (SenderEvent × ℕ)) (f : Fop) → Suffices own stored es f → next_all own stored es f ≡ tables_all own es f
all_suffice own stored [] f h = refl
all_suffice own stored (e ∷ es) f h =
    ap (next_all own stored es) (suffices_next own stored e.1 e.0 f h.0) ∙ all_suffice own stored es (sender_next own e.0 e.1 f) h.1

-- a sender after events is well-formed, and reads as that
pub after_all_lem : (own : Own) (stored : ℕ) (es : List (SenderEvent × ℕ)) (x : Held) → length x.store ≡ stored → GoodHeld own x
    → GoodHeld own (held_after_all es x) × (reads (held_after_all es x) ≡ next_all own stored es (reads x))
after_all_lem own stored [] x l g = (g, refl)
after_all_lem own stored (e ∷ es) x l g =
    let d = does own e.0 e.1 x (good_well g) in
    let r = after_all_lem own stored es _ (store_length x e.0 (lent_output e.1) ∙ l) (keeps_good own e.0 e.1 x g) in
    (r.0, r.1 ∙ ap (next_all own stored es) (d.next ∙ ap (λ (n : ℕ). lent_next own e.0 n e.1 (reads x)) l))

-- so it begins a session where that is the session's start
pub begins_after : (set : Settings) (es : List (SenderEvent × ℕ)) (x : Held) → GoodHeld set.own x
    → next_all set.own (length x.store) es (reads x) ≡ start_sender set → Begins set (held_after_all es x)
begins_after set es x g e = let r = after_all_lem set.own (length x.store) es x refl g in record { good = r.0; start = r.1 ∙ e }

-- A fresh sender: the settings of a session are within the limits of a start.
module _ (set : Settings) (within : Within set) (v : ℕ) (octet : v ≤ largest_number) (store : List ℕ) (long : store_need set.k 0 ≤ length store) where
  abbrev first : SenderState
  first = start_of (sender_settings set) v v

  pub limits_hold : settings_hold (sender_settings set) ≡ true
  limits_hold =
      settings_test (sender_settings set) (omega (arith, within.window_least)) (omega (arith, within.window_most)) within.timer_least within.limit_least within.timeout_most
      within.spacecraft within.channel

  pub starts : starting_of (sender_settings set) v v (length store) ≡ Ok (record { fop = first })
  starts = start_done (sender_settings set) v v limits_hold (length store) long

  first_good : Good set.own first store
  first_good = start_good (sender_settings set) v v limits_hold store (omega (arith, octet)) (omega (arith, octet)) within.limit_most long

  pub fresh_good : GoodHeld set.own (fresh_held set v store)
  unfolding fresh_held
  fresh_good = subst (λ (x : Result Sender Refusal). Good set.own (sender_started x).fop store) (sym starts) first_good

  pub fresh_reads : reads (fresh_held set v store) ≡ fop_of (begun first) first.lengths store
  unfolding fresh_held
  fresh_reads = ap (λ (x : Result Sender Refusal). fop_of (begun (sender_started x).fop) (sender_started x).fop.lengths store) starts

  -- the need at an event other than Set K is the start's
  pub start_need : need_at (directive 1 0) (reads (fresh_held set v store)) ≤ length store
  unfolding start_of begun
  start_need = subst (λ (f : Fop). need_at (directive 1 0) f ≤ length store) (sym fresh_reads) long

-- told to initiate without check, with V(S) = NN(R) = V(R), a fresh sender begins a session at Transmission_Count 1
module _ (set : Settings) (within : Within set) (one : set.count ≡ 1) (store : List ℕ) (long : store_need set.k 0 ≤ length store) where
  active : sender_next set.own (directive 1 0) 0 (fop_of (begun (first set within set.n within.number store long)) (first set within set.n within.number store long).lengths store) ≡ set_clock 0 1 (start_sender set)
  unfolding start_sender answers.sender_next answers.sender_refusal answers.judged answers.needed events.work events.fop_directive events.directive_event
      table.table78 action.fop_do action.perform_cell action.perform_all action.perform action.purge action.deny_bc action.reject_waiting start_of begun
  active = refl

  counted : set_clock 0 1 (start_sender set) ≡ start_sender set
  unfolding start_sender
  counted = ap (λ (c : ℕ). set_clock 0 c (start_sender set)) (sym one)

  pub fresh_begins : Begins set (start_held set store)
  unfolding fresh_held
  fresh_begins =
      begins_after set ((directive 1 0, 0) ∷ []) (fresh_held set set.n store) (fresh_good set within set.n within.number store long)
      (suffices_next set.own (length store) 0 (directive 1 0) _ (start_need set within set.n within.number store long)
      ∙ ap (sender_next set.own (directive 1 0) 0) (fresh_reads set within set.n within.number store long) ∙ active ∙ counted)

-- A session's events bring no Set K, so a store that suffices for the sender's state suffices at each of them.
window_kept : (e : SenderEvent) → Brought e → (f : Fop) → window_at e f ≡ f.preset.k
window_kept (request_ad o) b f = refl
window_kept (request_bd o) b f = refl
window_kept events.tick b f = refl
window_kept (events.lower l) b f = refl
window_kept (directive d v) b f =
    ⊎_elim (ap (λ (n : ℕ). pick (eqb n 8) v f.preset.k)) (ap (λ (n : ℕ). pick (eqb n 8) v f.preset.k)) b
window_kept (word_arrives o) b f = refl

module _ (own : Own) (e : SenderEvent) (brought : Brought e) (lent : ℕ) (x : Held) (g : GoodHeld own x) where
  enough : need_at e (reads x) ≤ length x.store
  unfolding begun
  enough =
      subst (λ (n : ℕ). n ≤ length x.store) (sym (need_is e x.sender.fop.settings.k (window_kept e brought (reads x)))) g.formed.room where
        need_is : (ev : SenderEvent) (k : ℕ) → window_at ev (reads x) ≡ k → need_at ev (reads x) ≡ store_need k x.sender.fop.queues.sent
        need_is ev k q = ap₂ store_need q (entries_count x.sender.fop.lengths x.store _ _ 0 x.sender.fop.queues.sent)

  pub session_next : reads (held_after (step_of e (lent_output lent) x)) ≡ sender_next own e lent (reads x)
  session_next = (does own e lent x (good_well g)).next ∙ suffices_next own (length x.store) lent e (reads x) enough

  pub session_answer : answer_by (step_of e (lent_output lent) x) ≡ sender_answer own e lent (reads x)
  session_answer = (does own e lent x (good_well g)).answer ∙ suffices_answer own (length x.store) lent e (reads x) enough

-- Our ends are tied to the tables.
pub ours_tied : (set : Settings) (x : Held) → Begins set x → Tied set (ours set x)
ours_tied set x b = record {
  fop = reads;
  farm = λ r. r;
  Good = GoodHeld set.own;
  GoodReceiver = λ r. Unit {0};
  good = b.good;
  good_receiver = tt;
  keeps = λ e i lent y g. keeps_good set.own e lent y g;
  keeps_receiver = λ e r g. tt;
  start = b.start;
  start_receiver = refl;
  next = λ e i lent y g. session_next set.own e i lent y g;
  answer = λ e i lent y g. session_answer set.own e i lent y g;
  next_receiver = λ e r g. refl;
  answer_receiver = λ e r g. refl;
  word = λ lent r g. refl;
}

-- the receiver's start, at a FARM-B counter of 0, is what its own `new` gives
pub receiver_starts : (set : Settings) → Within set → set.counter ≡ 0
    → farm.start_of set.own.spacecraft set.own.channel set.w set.n set.buffers ≡ Ok (start_receiver set)
unfolding farm.start_of start_receiver
receiver_starts set within zero =
    simp (
      le-leb set.own.spacecraft largest_spacecraft within.spacecraft,
      le-leb set.own.channel largest_channel within.channel,
      eq-eqb (set.w % 2) 0 within.even,
      le-leb 2 set.w within.farm_least,
      le-leb set.w 254 within.farm_most,
      le-leb 1 set.buffers within.buffers_least,
      le-leb set.buffers 8 within.buffers_most,
      zero,
    )

-- Demand 3, whole, of our own sender and receiver.
pub demand3_ours : Demand3
demand3_ours set within x b = demand3 set within (ours set x) (ours_tied set x b)

-- and at Timeout_Type 0 after every list of events, as document 01 words it
pub alerting_ours : AlertingOurs
alerting_ours set within x b =
    (demand3_alerting set within (ours set x) (ours_tied set x b), beyond_alerting set within (ours set x) (ours_tied set x b))

pub stronger_ours : StrongerOurs
stronger_ours set within x b = stronger_claims set within (ours set x) (ours_tied set x b)

pub beyond_ours : BeyondOurs
beyond_ours set within x b = beyond set within (ours set x) (ours_tied set x b)

-- and so of a fresh sender that is told to initiate without check
pub demand3_fresh : (set : Settings) → Within set → set.count ≡ 1 → (store : List ℕ) → store_need set.k 0 ≤ length store
    → Demanded set (ours set (start_held set store))
demand3_fresh set within one store long = demand3_ours set within (start_held set store) (fresh_begins set within one store long)

pub beyond_fresh : (set : Settings) → Within set → set.count ≡ 1 → (store : List ℕ) → store_need set.k 0 ≤ length store → Beyond set (ours set (start_held set store))
beyond_fresh set within one store long = beyond_ours set within (start_held set store) (fresh_begins set within one store long)
