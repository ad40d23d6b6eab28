-- Wrong senders that the suspension law refutes, each the table machine but for one thing, each by a computed witness: one whose Resume leads to S1
-- from every state, one whose suspension drops the waiting unit, one that clears the marks, one that sets V(S) back, one that sends at Resume, one whose
-- Terminate purges while suspended, one that never suspends, one that tells of a suspension that is none. And what ends a suspension otherwise, computed: a
-- lower-layer reject empties the queues, so that Resume brings back the state with nothing held, and an Initiate denies the units.
use mathlib.Core.Path.{◌≡◌, refl, ap}
use mathlib.Core.Logic.{◌⊎◌, inl, inr}
use mathlib.Core.Bool.{Bool, true, false, ◌&&◌, false≢true, true≢false}
use mathlib.Core.List.{List, [], ◌∷◌}
use mathlib.Core.Option.{none, some}
use Prim.Native.Nat.{ℕ}
use native.Mathlib.Omega.{arith}
use lib.Dec.{eqb, leb→le}
use lib.ListN.{length}
use Rattle.base.specs.Choice.{pick}
use Rattle.base.specs.Limits.{largest_frame}
use Rattle.fop.specs.Units.{BD, written}
use Rattle.fop.specs.declared.State.TheVariants.{S1, S6}
use Rattle.fop.specs.declared.Alert.TheVariants.{Llif}
use Rattle.fop.specs.declared.Lower.TheVariants.{AdAccept, AdReject, BcAccept, BcReject, BdReject}
use Rattle.fop.specs.declared.Response.TheVariants.{RejectAdUnit, AcceptDirective, ConfirmDirective}
use Rattle.fop.specs.declared.Event.TheVariants.{E17, E23, E29, E46}
use Rattle.fop.specs.Table.{table78, cell78}
use Rattle.fop.specs.Variables.{Entry, Fop, Work, begin, set_state, set_suspend, set_clock, set_numbered, set_preset, set_sequence, set_wait, with_k}
use Rattle.fop.specs.Effective.{is_suspended, in_service}
use Rattle.fop.specs.Machine.{first_marked, perform_cell, look_for_fdu}
use Rattle.fop.specs.Events.{SenderEvent, request_ad, request_bd, tick, lower, directive, word_arrives, is_empty}
use Rattle.fop.specs.Answers.{Answer, octets_down, answered, refused}
use Rattle.fop.proofs.Test.{is_there, lowered}
use Rattle.fop.proofs.Trace.{computing, by, with_down, responding, alerting, denying, suspending}
use Rattle.suspension.specs.Suspension.{Sender, Back, after_all, none_ends, SuspensionLaw}
use Rattle.suspension.proofs.Law.{suspension_law}
use Rattle.suspension.proofs.Example.{own, stored, machine, start, after, before, begun, there, resumes}

-- the table machine, but for what a change makes of its answer and its next variables at an event, by the variables before it
abbrev Change : Type 0
Change = SenderEvent → Fop → Answer × Fop → Answer × Fop

abbrev wrong : Change → Sender
wrong change = record {
  Held = Fop;
  Well = λ f. Unit {0};
  reads = λ f. f;
  stored = λ f. stored;
  next = λ e lent f. (change e f (machine.answer e lent f, machine.next e lent f)).1;
  answer = λ e lent f. (change e f (machine.answer e lent f, machine.next e lent f)).0;
}

-- with no change the law holds of it
unchanged : SuspensionLaw own (wrong (λ e f did. did))
unchanged = suspension_law own (wrong (λ e f did. did)) (record { well = λ e lent f w. tt; next = λ e lent f w. refl; answer = λ e lent f w. refl })

-- a change where a suspension begins
abbrev at_suspension : (Fop → Answer × Fop → Answer × Fop) → Change
at_suspension change e f did = pick did.0.suspended (change f did) did

-- that of the variables alone
abbrev suspended_by : (Fop → Fop) → Sender
suspended_by change = wrong (at_suspension (λ f did. (did.0, change did.1)))

-- a change where a directive comes while suspended, and is not refused
abbrev is_directive : ℕ → SenderEvent → Bool
is_directive n (request_ad o) = false
is_directive n (request_bd o) = false
is_directive n tick = false
is_directive n (lower l) = false
is_directive n (directive d v) = eqb d n
is_directive n (word_arrives s) = false

abbrev at_directive : ℕ → (Fop → Answer × Fop → Answer × Fop) → Change
at_directive n change e f did = pick (is_directive n e && (is_suspended f && eqb did.0.refusal 0)) (change f did) did

-- Resume leads to S1 from every state, so from S4 too
abbrev always_active : Sender
always_active = wrong (at_directive 6 (λ f did. (did.0, set_state S1 did.1)))

refuted_state : SuspensionLaw own always_active → ⊥
unfolding computing after_all none_ends
refuted_state law =
    true≢false (ap in_service (law.whole tick largest_frame [] 0 largest_frame (after (directive 2 0 ∷ []) start) tt refl refl (leb→le _ _ tt)).1.state)

-- the waiting unit is dropped
refuted_waiting : SuspensionLaw own (suspended_by (set_wait none)) → ⊥
unfolding computing after_all none_ends
refuted_waiting law =
    true≢false (ap (λ q. is_empty q.wait_queue) (law.whole tick largest_frame [] 0 largest_frame before tt refl refl (leb→le _ _ tt)).1.units.queues)

-- the marks are cleared
abbrev cleared : List Entry → List Entry
cleared [] = []
cleared (e ∷ q) = record { fdu = e.fdu; marked = false } ∷ cleared q

refuted_marks : SuspensionLaw own (suspended_by (λ f. set_sequence f.numbers.vs f.numbers.nnr (cleared f.queues.sent_queue) f)) → ⊥
unfolding computing after_all none_ends
refuted_marks law =
    false≢true (ap (λ q. is_there (first_marked q.sent_queue)) (law.whole tick largest_frame [] 0 largest_frame before tt refl refl (leb→le _ _ tt)).1.units.queues)

-- V(S) is set to NN(R)
refuted_number : SuspensionLaw own (suspended_by (λ f. set_sequence f.numbers.nnr f.numbers.nnr f.queues.sent_queue f)) → ⊥
unfolding computing after_all none_ends
refuted_number law =
    omega (arith, ap (λ n. n.vs) (law.whole tick largest_frame [] 0 largest_frame before tt refl refl (leb→le _ _ tt)).1.units.numbers)

-- Resume looks for an FDU, and so sends the marked unit where AD_Out_Flag is Ready
abbrev looks : Fop → Answer × Fop → Answer × Fop
looks f did = let w : Work = look_for_fdu (begin none [] 0 did.1) in (with_down (octets_down own w.frames) did.0, w.fop)

refuted_look : SuspensionLaw own (wrong (at_directive 6 looks)) → ⊥
unfolding computing after_all
refuted_look law =
    sends (law.resumes 0 largest_frame (after (lower AdAccept ∷ []) begun) tt (record { initial = refl; suspended = refl }) (leb→le _ _ tt)).2.down
  where
    sends : {s : List ℕ} → (some s ≡ none) ⊎ ((o : List ℕ) × (resumes ≡ request_bd o) × (some s ≡ some (written own (BD o)))) → ⊥
    sends (inl p) = true≢false (ap is_there p)
    sends (inr p) = true≢false (ap (is_directive 6) p.1)

-- Terminate purges the queues while suspended too, with the alert of the other states
abbrev purges : Fop → Answer × Fop → Answer × Fop
purges f did = let w : Work = perform_cell (cell78 (table78 E29) S1) (begin (some E29) [] 0 f) in (answered own w, w.fop)

refuted_terminate : SuspensionLaw own (wrong (at_directive 5 purges)) → ⊥
unfolding computing
refuted_terminate law = omega (arith, ap (λ (f : Fop). length f.queues.sent_queue) (law.terminates 0 largest_frame begun tt there (leb→le _ _ tt)).0)

-- no expiry suspends: it is an alert, as with Timeout_Type 0
abbrev alerts : Fop → Answer × Fop → Answer × Fop
alerts f did = let w : Work = perform_cell (cell78 (table78 E17) f.state) (begin (some E17) [] 0 (lowered f)) in (answered own w, w.fop)

refuted_alert : SuspensionLaw own (wrong (at_suspension alerts)) → ⊥
unfolding computing
refuted_alert law = false≢true (law.suspends largest_frame before tt (leb→le _ _ tt) refl)

-- a Suspend notification is given at every event
refuted_notice : SuspensionLaw own (wrong (λ e f did. (suspending true did.0, did.1))) → ⊥
unfolding computing
refuted_notice law = false≢true (law.notified tick largest_frame start tt refl).1

-- every event is refused, with 11
refuted_refusing : SuspensionLaw own (wrong (λ e f did. (refused 11 f, f))) → ⊥
unfolding computing
refuted_refusing law = false≢true (law.suspends largest_frame before tt (leb→le _ _ tt) refl)

-- BC_Accept suspends, and nothing is told
abbrev silently : Change
silently (request_ad o) f did = did
silently (request_bd o) f did = did
silently tick f did = did
silently (lower l) f did = (did.0, set_state S6 (set_suspend 1 did.1))
silently (directive d v) f did = did
silently (word_arrives s) f did = did

refuted_silently : SuspensionLaw own (wrong silently) → ⊥
unfolding computing
refuted_silently law = false≢true (law.told (lower BcAccept) largest_frame start tt refl refl)

-- a suspension sets K to 1
refuted_upset : SuspensionLaw own (suspended_by (λ f. set_preset (with_k 1 f.preset) f)) → ⊥
unfolding computing
refuted_upset law = omega (arith, ap (λ (f : Fop). f.preset.k) (law.begins tick largest_frame before tt refl).0.is)

-- What ends a suspension otherwise.

-- the same variables with nothing held
abbrev emptied : Fop
emptied = set_numbered begun.numbers (record { sent_queue = []; wait_queue = none; bc_frame = none }) begun

-- A lower-layer reject while suspended denies the units, rejects the waiting one and empties the queues; Suspend_State stays, so Resume gives the state
-- with nothing held.
pub reject_empties : (machine.answer (lower BdReject) largest_frame begun ≡ denying 254 2 (alerting Llif (responding (RejectAdUnit ∷ []) (by E46 S6))))
    × (after (lower BdReject ∷ []) begun ≡ emptied) × (after (lower AdReject ∷ []) begun ≡ emptied) × (after (lower BcReject ∷ []) begun ≡ emptied)
    × (after (lower BdReject ∷ resumes ∷ []) begun ≡ set_state S1 (set_suspend 0 (set_clock 1 2 emptied)))
unfolding computing after_all
reject_empties = (refl, refl, refl, refl, refl)

-- so without the premise on rejects Resume does not bring back the units
reject_loses : Back before (after (lower BdReject ∷ resumes ∷ []) begun) → ⊥
unfolding computing after_all
reject_loses back = omega (arith, ap (λ q. length q.sent_queue) back.units.queues)

-- An accepted Initiate while suspended denies the units, rejects the waiting one and sets Suspend_State 0.
pub initiate_ends : (machine.answer (directive 1 0) largest_frame begun
    ≡ denying 254 2 (responding (AcceptDirective ∷ RejectAdUnit ∷ ConfirmDirective ∷ []) (by E23 S1)))
    × (after (directive 1 0 ∷ []) begun ≡ set_state S1 (set_suspend 0 (set_clock 0 1 emptied)))
unfolding computing after_all
initiate_ends = (refl, refl)
