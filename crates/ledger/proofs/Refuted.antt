-- Wrong senders that order 11's claims refute, each the table machine but for one thing, each by a computed witness and by the claim named with it: one
-- that keeps its waiting unit through an alert and says nothing of it (`waits`, by the second run of the tables), one that never answers a waiting unit's
-- fate (`waits`), one that confirms twice (`fates`), one that forgets a denied unit (`stands`), one whose run has a wrong first number (`order`), one that
-- makes up an accept (`known`), one that accepts and rejects the same unit (`once`), one that accepts what it
-- refuses (`once`), one that confirms what is denied (`same`), one that loses a unit of its own queue (`stands`, by what it holds).
use mathlib.Core.Path.{◌≡◌, refl, ap}
use mathlib.Core.Bool.{Bool, true, false, ◌&&◌, false≢true}
use mathlib.Core.List.{List, [], ◌∷◌, ◌++◌, map}
use mathlib.Core.Option.{Option, none, some}
use Prim.Native.Nat.{ℕ, ◌-◌}
use native.Mathlib.Omega.{arith}
use lib.Dec.{eqb}
use lib.ListN.{length}
use Rattle.base.specs.Choice.{pick}
use Rattle.base.specs.Modulo.{advanced}
use Rattle.fop.specs.Limits.{largest_number}
use Rattle.std.specs.Prelude.{is_some}
use Rattle.fop.specs.declared.Response.{Response}
use Rattle.fop.specs.declared.Response.TheVariants.{AcceptAdUnit, RejectAdUnit, AcceptBdUnit, RejectBdUnit, AcceptDirective, RejectDirective, ConfirmDirective, DenyDirective}
use Rattle.fop.specs.Variables.{Fop, set_sequence, set_wait}
use Rattle.fop.specs.Events.{SenderEvent, request_ad, request_bd, tick, lower, directive, word_arrives}
use Rattle.fop.specs.Answers.{Answer, refused}
use Rattle.fop.proofs.Trace.{with_confirmed, denying, responding}
use Rattle.ledger.specs.Ledger.{denied, ledger, with_fate}
use Rattle.ledger.specs.Accounted.{is_request, Sender, unit_at, after, turns, table_turns, AllFit, Given, start_of, AllAccounted}
use Rattle.ledger.proofs.Accounts.{accounted}
use Rattle.ledger.proofs.Example.{computing, own, fresh, within, machine, at, word, confirming, alerted}

-- the table machine, but for what a change makes of its answer and its next variables at an event, by the variables before it
abbrev Change : Type 0
Change = SenderEvent → Fop → Answer × Fop → Answer × Fop

abbrev wrong : Change → Sender
wrong change = record {
  Held = Fop;
  Lent = Given;
  Fits = λ l f. Unit {0};
  stored = λ l. l.stored;
  room = λ l. l.room;
  fresh = start_of fresh;
  next = λ e l f. (change e f (machine.answer e l f, machine.next e l f)).1;
  answer = λ e l f. (change e f (machine.answer e l f, machine.next e l f)).0;
  reads = λ f. f;
}

-- with no change order 11 holds of it
unchanged : AllAccounted fresh (wrong (λ e f did. did))
unchanged =
    accounted fresh within (wrong (λ e f did. did)) (record {
      Well = λ f. Unit {0};
      well = tt;
      keeps = λ e l f fit w. tt;
      start = refl;
      next = λ e l f fit w. refl;
      answer = λ e l f fit w. refl;
    })

-- anything may be lent
all_fit_lem : (change : Change) (es : List (SenderEvent × Given)) (f : Fop) → AllFit (wrong change) es f
unfolding AllFit
all_fit_lem change [] f = tt
all_fit_lem change (e ∷ es) f = (tt, all_fit_lem change es _)

-- the events at which some of them differ
abbrev is_tick : SenderEvent → Bool
is_tick (request_ad o) = false
is_tick (request_bd o) = false
is_tick tick = true
is_tick (lower l) = false
is_tick (directive d v) = false
is_tick (word_arrives s) = false

abbrev is_word : SenderEvent → Bool
is_word (request_ad o) = false
is_word (request_bd o) = false
is_word tick = false
is_word (lower l) = false
is_word (directive d v) = false
is_word (word_arrives s) = true

-- responses without those of AD units
abbrev is_ad : Response → Bool
is_ad AcceptAdUnit = true
is_ad RejectAdUnit = true
is_ad AcceptBdUnit = false
is_ad RejectBdUnit = false
is_ad AcceptDirective = false
is_ad RejectDirective = false
is_ad ConfirmDirective = false
is_ad DenyDirective = false

abbrev mute : List Response → List Response
mute [] = []
mute (r ∷ rs) = pick (is_ad r) (mute rs) (r ∷ mute rs)

-- At an alert the waiting unit stays on the Wait_Queue, and nothing is said of it. It holds what it says it holds; the tables do not.
abbrev keeps_waiting : Change
keeps_waiting e f did = pick (is_some did.0.alert) (responding (mute did.0.responses) did.0, set_wait f.queues.wait_queue did.1) did

refuted_keeping : AllAccounted fresh (wrong keeps_waiting) → ⊥
unfolding computing
refuted_keeping law = omega (arith, ap length (law.by_tables alerted (all_fit_lem keeps_waiting alerted _)).waits)

-- by its own queue it would pass there, since that holds the unit 6, which the ledger says is waiting: so the tables run a second time
keeping_passes : (map (unit_at (turns (wrong keeps_waiting) alerted (start_of fresh))) (ledger own (turns (wrong keeps_waiting) alerted (start_of fresh))).waiting
    ≡ (6 ∷ []) ∷ [])
    × ((after (wrong keeps_waiting) alerted (start_of fresh)).queues.wait_queue ≡ some (6 ∷ []))
unfolding computing
keeping_passes = (refl, refl)

-- Of a waiting unit nothing more is said, whether it is sent or rejected.
abbrev never_answers : Change
never_answers e f did = pick (is_request e) did (responding (mute did.0.responses) did.0, did.1)

refuted_silence : AllAccounted fresh (wrong never_answers) → ⊥
unfolding computing
refuted_silence law = omega (arith, ap length (law.by_tables confirming (all_fit_lem never_answers confirming _)).waits)

-- A word that confirms nothing new confirms the unit before NN(R) again.
abbrev confirms_again : Change
confirms_again e f did =
    pick (is_word e && eqb did.0.confirmed.count 0)
    (with_confirmed (record { number = advanced f.numbers.nnr largest_number; count = 1 }) did.0, did.1) did

abbrev twice : List (SenderEvent × Given)
twice = confirming ++ (at (word 255 false) ∷ [])

refuted_twice : AllAccounted fresh (wrong confirms_again) → ⊥
unfolding computing
refuted_twice law = omega (arith, (law.by_tables twice (all_fit_lem confirms_again twice _)).fates 1)

-- The run of denied units is one short.
abbrev forgets_denied : Change
forgets_denied e f did = (denying did.0.denied.number (did.0.denied.count - 1) did.0, did.1)

refuted_short : AllAccounted fresh (wrong forgets_denied) → ⊥
unfolding computing
refuted_short law = omega (arith, ap length (law.by_tables alerted (all_fit_lem forgets_denied alerted _)).stands)

-- The run of confirmed units begins one number too late: the second unit is confirmed and the first is not.
abbrev begins_late : Change
begins_late e f did = (with_confirmed (record { number = advanced did.0.confirmed.number 1; count = did.0.confirmed.count }) did.0, did.1)

abbrev first_place : List (Option ℕ) → ℕ
first_place [] = 0
first_place (none ∷ ps) = 0
first_place (some i ∷ ps) = i

refuted_late : AllAccounted fresh (wrong begins_late) → ⊥
unfolding computing
refuted_late law = omega (arith, ap first_place (law.by_tables confirming (all_fit_lem begins_late confirming _)).order)

-- A tick brings an accept with nothing waiting.
abbrev makes_up : Change
makes_up e f did = pick (is_tick e) (responding (did.0.responses ++ (AcceptAdUnit ∷ [])) did.0, did.1) did

refuted_made_up : AllAccounted fresh (wrong makes_up) → ⊥
unfolding computing
refuted_made_up law = false≢true (law.by_tables (at tick ∷ []) (all_fit_lem makes_up (at tick ∷ []) _)).known.1

-- A unit offered is accepted, and rejected at the same event.
abbrev does_both : Change
does_both e f did = pick (is_request e) (responding (did.0.responses ++ (RejectAdUnit ∷ [])) did.0, did.1) did

abbrev one_sent : List (SenderEvent × Given)
one_sent = at (directive 1 0) ∷ at (request_ad (1 ∷ [])) ∷ []

refuted_both : AllAccounted fresh (wrong does_both) → ⊥
unfolding computing
refuted_both law = omega (arith, (law.by_tables one_sent (all_fit_lem does_both one_sent _)).once 1)

-- A request is refused with 11, and accepted beside it.
abbrev refuses_too : Change
refuses_too e f did = pick (is_request e) (responding (AcceptAdUnit ∷ []) (refused 11 f), did.1) did

refuted_refusing : AllAccounted fresh (wrong refuses_too) → ⊥
unfolding computing
refuted_refusing law = omega (arith, (law.by_tables one_sent (all_fit_lem refuses_too one_sent _)).once 1)

-- What is denied is told as confirmed.
abbrev confirms_denied : Change
confirms_denied e f did = pick (eqb did.0.denied.count 0) did (denying 0 0 (with_confirmed did.0.denied did.0), did.1)

refuted_confirming : AllAccounted fresh (wrong confirms_denied) → ⊥
unfolding computing table_turns
refuted_confirming law = omega (arith, ap (λ l. length (with_fate denied l.settled)) (law.same alerted (all_fit_lem confirms_denied alerted _)))

-- A tick empties the Sent_Queue, and nothing is said.
abbrev loses : Change
loses e f did = pick (is_tick e) (did.0, set_sequence did.1.numbers.vs did.1.numbers.nnr [] did.1) did

abbrev ticked : List (SenderEvent × Given)
ticked = one_sent ++ (at tick ∷ [])

refuted_loss : AllAccounted fresh (wrong loses) → ⊥
unfolding computing
refuted_loss law = omega (arith, ap length (law.held ticked (all_fit_lem loses ticked _)).stands)
