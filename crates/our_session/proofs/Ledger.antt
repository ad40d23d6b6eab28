-- Document 02, order 11, of our own sender (`accounted_ours`): each of its events, with what it may be lent, is the table machine's on what the sender's
-- state and store read as, so crate ledger's theorem holds of it. A store lent that begins with the units held reads as the one that the host has; one
-- that is too short for them is refused at every event, which looks at no unit. A refused event leaves what the host had; one that is done leaves a store
-- that suffices.
use Rattle.std.specs.Prelude.{Result}
use Prim.Native.Nat.{ℕ, ◌≤◌, ◌<◌}
use mathlib.Core.Logic.{⊎_elim}
use mathlib.Core.Path.{◌≡◌, refl, sym, ap, subst, ◌∙◌}
use mathlib.Core.Bool.{Bool, true, false}
use mathlib.Core.List.{List}
use native.Mathlib.Omega.{arith}
use borrow.Author.Tests.{lt-leb, eqb-true, eqb-false}
use lib.Dec.{eqb}
use lib.ListN.{length}
use Rattle.base.specs.Choice.{pick}
use Rattle.base.proofs.Tests.{no}
use Rattle.fop.specs.Units.{Own}
use Rattle.fop.specs.Variables.{Fop}
use Rattle.fop.specs.Events.{SenderEvent}
use Rattle.fop.specs.Answers.{Answer, judged, refused}
use Rattle.fop.specs.Store.{store_need, need_at, lent_answer, lent_next}
use Rattle.ledger.specs.Accounted.{Fresh, Within, start_of as machine_start, ByTable}
use Rattle.ledger.proofs.Accounts.{accounted}
use Rattle.sender_values.specs.Start.{start_of, begun}
use Rattle.sender_view.proofs.ViewStart.{started}
use Rattle.sender_state.specs.State.{settings_hold}
use Rattle.base.specs.declared.Refusal.{Refusal}
use Rattle.sender.specs.declared.Sender.{Sender}
use Rattle.sender.specs.Answers.{Step}
use Rattle.our_session.specs.Ours.{Held, held_after, answer_by, lent_output, sender_started, reads}
use Rattle.our_session.specs.Does.{Does}
use Rattle.our_session.specs.Ledger.{Lent, Fits, units_need, step_lent, next_lent, settings_of, our_ledger, AccountedOurs}
use Rattle.our_session.proofs.Behind.{units_need_lem, reads_first}
use Rattle.our_session.proofs.Events.{does}
use Rattle.our_session.proofs.Judged.{number, number_short, short}
use Rattle.our_session.proofs.Refused.{refused_keeps_all}
use Rattle.our_session.proofs.Restored.{settings_test, start_done, start_good}
use Rattle.our_session.proofs.Theorem.{GoodHeld, done_good}
use Rattle.our_session.proofs.Widened.{good_well}

module _ (own : Own) (e : SenderEvent) (l : Lent) (x : Held) (g : GoodHeld own x) where
  -- the sender with the store lent, and its step
  abbrev lent : Held
  lent = record { sender = x.sender; store = l.store }

  abbrev step : Step
  step = step_lent e l x

  step_does : Does own (length l.store) l.room e (reads lent) step
  step_does = does own e l.room lent (good_well g)

  -- what the host then has is well-formed, its store sufficing
  pub keeps_lent : GoodHeld own (next_lent e l x)
  keeps_lent = by (eqb step.answer.refusal 0) refl where
    by : (b : Bool) → eqb step.answer.refusal 0 ≡ b → GoodHeld own (pick b (held_after step) x)
    by true z = done_good own e l.room lent (good_well g) (eqb-true _ 0 z)
    by false z = g

  -- the event is the table machine's on what the host's sender and store read as
  abbrev ByMachine : Type 0
  ByMachine =
      (reads (next_lent e l x) ≡ lent_next own e (length l.store) l.room (reads x))
      × (answer_by step ≡ lent_answer own e (length l.store) l.room (reads x))

  -- a store that reads as the host's
  same_store : reads lent ≡ reads x → ByMachine
  same_store same = (
    by (eqb step.answer.refusal 0) refl ∙ step_does.next ∙ ap (lent_next own e (length l.store) l.room) same,
    step_does.answer ∙ ap (lent_answer own e (length l.store) l.room) same,
  ) where
    by : (b : Bool) → eqb step.answer.refusal 0 ≡ b → reads (pick b (held_after step) x) ≡ reads (held_after step)
    by true z = refl
    by false z = sym (ap reads (refused_keeps_all.held e (lent_output l.room) lent (eqb-false _ 0 z)) ∙ same)

  -- a store that is too short for the units held: whatever it reads as, the need is more
  too_short : length l.store < units_need x → ByMachine
  unfolding begun
  too_short few = (
    ap reads (no _ _ _ (ap (λ (a : Answer). eqb a.refusal 0) told ∙ number_short (judged own e))) ∙ sym (refuses x.store).1,
    told ∙ sym (refuses x.store).0,
  ) where
    with_store : List ℕ → Fop
    with_store store = reads (record { sender = x.sender; store = store })

    refuses : (store : List ℕ) → (lent_answer own e (length l.store) l.room (with_store store) ≡ refused (number false (judged own e)) (with_store store))
        × (lent_next own e (length l.store) l.room (with_store store) ≡ with_store store)
    refuses store =
        short own (length l.store) l.room e (with_store store)
        (lt-leb (need_at e (with_store store)) (length l.store) (omega (arith, few, units_need_lem x.sender.fop store e)))

    told : answer_by step ≡ refused (number false (judged own e)) (reads x)
    told = step_does.answer ∙ (refuses l.store).0

  pub by_machine : Fits l x → ByMachine
  by_machine fit =
      ⊎_elim
      (λ h. same_store (ap (λ (store : List ℕ). reads (record { sender = x.sender; store = store })) fit.part
      ∙ reads_first own x.sender.fop x.store g fit.count h fit.behind))
      too_short fit.has

-- A fresh sender: its settings are within the limits of a start.
module _ (s : Fresh) (within : Within s) (store : List ℕ) (long : store_need s.preset.k 0 ≤ length store) where
  pub limits_hold : settings_hold (settings_of s) ≡ true
  limits_hold =
      settings_test (settings_of s) within.window_least within.window_most within.timer_least within.limit_least within.timeout_most
      within.spacecraft within.channel

  -- it is no refusal
  pub fresh_is : (our_ledger s store).fresh ≡ record { sender = record { fop = start_of (settings_of s) s.vs s.nnr }; store = store }
  fresh_is =
      ap (λ (x : Result Sender Refusal). record { sender = sender_started x; store = store }) (start_done (settings_of s) s.vs s.nnr limits_hold (length store) long)

  fresh_good : GoodHeld s.own (our_ledger s store).fresh
  fresh_good =
      subst (GoodHeld s.own) (sym fresh_is)
      (start_good (settings_of s) s.vs s.nnr limits_hold store (omega (arith, within.vs)) (omega (arith, within.nnr)) within.limit_most long)

  pub fresh_start : reads (our_ledger s store).fresh ≡ machine_start s
  fresh_start = ap reads fresh_is ∙ started (settings_of s) s.vs s.nnr _ store

  by_table_lem : ByTable s (our_ledger s store)
  by_table_lem = record {
    Well = GoodHeld s.own;
    well = fresh_good;
    keeps = λ e l x fit g. keeps_lent s.own e l x g;
    start = fresh_start;
    next = λ e l x fit g. (by_machine s.own e l x g fit).0;
    answer = λ e l x fit g. (by_machine s.own e l x g fit).1;
  }

pub accounted_ours : AccountedOurs
accounted_ours s within store long = accounted s within (our_ledger s store) (by_table_lem s within store long)
