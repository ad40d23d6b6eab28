-- A control word that reaches a sender in service makes the count of confirmed units what it reports: no more is confirmed (Inv); no less,
-- since by a computed test the cell that it meets first removes acknowledged frames, and no action takes a confirmed unit back.
use mathlib.Core.Path.{◌≡◌, refl, ap, subst, ◌∙◌}
use mathlib.Core.Bool.{Bool, true, false, not, false≢true}
use mathlib.Core.List.{List, [], ◌∷◌}
use mathlib.Core.Option.{Option, none, some}
use Prim.Native.Nat.{◌+◌, ◌-◌, ◌*◌, ◌≤◌}
use native.Mathlib.Omega.{arith}
use lib.Dec.{eqb, T}
use lib.ListN.{length, length-take, length-append}
use borrow.Author.Tests.{eqb-true, not-false}
use Rattle.base.specs.Modulo.{advanced, offset}
use Rattle.fop.specs.Units.{Word}
use Rattle.fop.specs.declared.State.{State}
use Rattle.fop.specs.declared.State.TheVariants.{S1, S2, S3, S4, S5, S6}
use Rattle.fop.specs.declared.Action.{Action}
use Rattle.fop.specs.declared.Action.TheVariants.{Ignore, Accept, Reject, Confirm}
use Rattle.fop.specs.Table.{Cell, cell, if_not_suspended, NotApplicable, table78, cell78}
use Rattle.fop.specs.declared.Action.TheVariants.{RejectAd, AcceptBd, RejectBd, AddToWaitQueue, LookForFdu, LookForDirective, RemoveAcknowledgedFrames, InitiateAdRetransmission}
use Rattle.fop.specs.declared.Action.TheVariants.{InitiateBcRetransmission, ReleaseBcFrame, CancelTimer, StartTimer, Alert, Initialise, TransmitUnlock, TransmitSetVr, TransmitBd, SetSuspendState}
use Rattle.fop.specs.declared.Action.TheVariants.{Suspend, Resume, SetVs, SetNnr, SetK, SetT1Initial, SetTransmissionLimit, SetTimeoutType, AdOutReady, BcOutReady, BdOutReady}
use Rattle.fop.specs.Variables.{Work, begin}
use Rattle.fop.specs.Effective.{effective}
use Rattle.fop.specs.Machine.{perform, perform_all, perform_cell, remove_acknowledged, acknowledged, transmit_bc, purge, fdus, fop_do}
use Rattle.fop.specs.Events.{Seen, seen, word_event, fop_word}
use Rattle.session.specs.Ends.{Settings}
use Rattle.session.specs.Stronger.{in_service}
use Rattle.fop.proofs.Ways.{directive_ways, purge_ways}
use Rattle.fop.proofs.Test.{is_there}
use Rattle.session.proofs.Core.{Session}
use Rattle.session.proofs.Chan.{Wds, wds_le}
use Rattle.session.proofs.Values.{word, queue_length}
use Rattle.session.proofs.Rows.{any, word_ok}
use Rattle.session.proofs.Inv.{Inv, row_bound}
use Rattle.session.proofs.Next.{serves_as, lv, acked}
use Rattle.session.proofs.Clear.{look_conf}
use Rattle.session.proofs.Keys.{bit, floor, Keys, Tidy}
use Rattle.session.proofs.Every.{implies, implied, every_seen, seen_at}
use Rattle.session.proofs.WordAlerts.{fitting, live_fits}

-- no action takes a confirmed unit back
purge_conf : (w : Work) → (purge w).confirmed ≡ w.confirmed
purge_conf w = purge_ways (λ v. v.confirmed ≡ w.confirmed) w refl (λ r v k. k)

act_grows : (x : Action) (w : Work) → length w.confirmed ≤ length (perform x w).confirmed
unfolding perform remove_acknowledged transmit_bc
act_grows Ignore w = omega arith
act_grows Accept w = omega arith
act_grows Reject w = omega arith
act_grows Confirm w = omega arith
act_grows RejectAd w = omega arith
act_grows AcceptBd w = omega arith
act_grows RejectBd w = omega arith
act_grows AddToWaitQueue w = omega arith
act_grows LookForFdu w = omega (arith, ap length (look_conf w))
act_grows LookForDirective w = directive_ways (λ v. length w.confirmed ≤ length v.confirmed) w (omega arith) (λ b. omega arith) w.fop.queues.bc_frame
act_grows RemoveAcknowledgedFrames w = omega (arith, length-append w.confirmed (acknowledged w.fop.numbers.nnr w.asked.value w.fop.queues.sent_queue))
act_grows InitiateAdRetransmission w = omega arith
act_grows InitiateBcRetransmission w = omega arith
act_grows ReleaseBcFrame w = omega arith
act_grows CancelTimer w = omega arith
act_grows StartTimer w = omega arith
act_grows (Alert r) w = omega (arith, ap length (purge_conf w))
act_grows Initialise w = omega (arith, ap length (purge_conf w))
act_grows TransmitUnlock w = omega arith
act_grows TransmitSetVr w = omega arith
act_grows TransmitBd w = omega arith
act_grows (SetSuspendState n) w = omega arith
act_grows Suspend w = omega arith
act_grows Resume w = omega arith
act_grows SetVs w = omega arith
act_grows SetNnr w = omega arith
act_grows SetK w = omega arith
act_grows SetT1Initial w = omega arith
act_grows SetTransmissionLimit w = omega arith
act_grows SetTimeoutType w = omega arith
act_grows AdOutReady w = omega arith
act_grows BcOutReady w = omega arith
act_grows BdOutReady w = omega arith

all_grow : (xs : List Action) (w : Work) → length w.confirmed ≤ length (perform_all xs w).confirmed
unfolding perform_all
all_grow [] w = omega arith
all_grow (x ∷ xs) w = omega (arith, act_grows x w, all_grow xs (perform x w))

-- the action is Remove acknowledged frames, with the proof where it is
abbrev is_remove : (x : Action) → Option (x ≡ RemoveAcknowledgedFrames)
is_remove Ignore = none
is_remove Accept = none
is_remove Reject = none
is_remove Confirm = none
is_remove RejectAd = none
is_remove AcceptBd = none
is_remove RejectBd = none
is_remove AddToWaitQueue = none
is_remove LookForFdu = none
is_remove LookForDirective = none
is_remove RemoveAcknowledgedFrames = some refl
is_remove InitiateAdRetransmission = none
is_remove InitiateBcRetransmission = none
is_remove ReleaseBcFrame = none
is_remove CancelTimer = none
is_remove StartTimer = none
is_remove (Alert r) = none
is_remove Initialise = none
is_remove TransmitUnlock = none
is_remove TransmitSetVr = none
is_remove TransmitBd = none
is_remove (SetSuspendState n) = none
is_remove Suspend = none
is_remove Resume = none
is_remove SetVs = none
is_remove SetNnr = none
is_remove SetK = none
is_remove SetT1Initial = none
is_remove SetTransmissionLimit = none
is_remove SetTimeoutType = none
is_remove AdOutReady = none
is_remove BcOutReady = none
is_remove BdOutReady = none

-- the cell removes acknowledged frames first
abbrev removes : Cell → Bool
removes NotApplicable = false
removes (cell [] u) = false
removes (cell (x ∷ xs) u) = is_there (is_remove x)
removes (if_not_suspended xs ys u) = false

cell_removes : (c : Cell) (w : Work) → T (removes c) → length (remove_acknowledged w).confirmed ≤ length (perform_cell c w).confirmed
unfolding perform_cell perform_all perform
cell_removes NotApplicable w t = absurd t
cell_removes (cell [] u) w t = absurd t
cell_removes (cell (x ∷ xs) u) w t = go (is_remove x) t
  where
    go : (o : Option (x ≡ RemoveAcknowledgedFrames)) → T (is_there o)
        → length (remove_acknowledged w).confirmed ≤ length (perform_all xs (perform x w)).confirmed
    go none t = absurd t
    go (some e) t = omega (arith, all_grow xs (perform x w), ap (λ (y : Action). length (perform y w).confirmed) e)
cell_removes (if_not_suspended xs ys u) w t = absurd t

-- the test: in service, a word that fits and reports something new meets such a cell
abbrev removes_at : State → Seen → Bool
removes_at s x = implies (fitting s x) (implies x.new (removes (cell78 (table78 (word_event x)) s)))

removes_all : (s : State) → in_service s ≡ true → T (every_seen (removes_at s))
unfolding table78 word_event
removes_all S1 e = tt
removes_all S2 e = tt
removes_all S3 e = tt
removes_all S4 e = absurd (false≢true e)
removes_all S5 e = absurd (false≢true e)
removes_all S6 e = absurd (false≢true e)

module _ (set : Settings) (σ : Session) (I : Inv set σ) (Q : Tidy set.n σ) (sv : in_service σ.fop.state ≡ true) (w : Word) (ws : List Word)
    (comes : σ.words ≡ w ∷ ws) where
  reports : Wds set.n (length σ.confirmed) (length σ.accepted) (w ∷ ws)
  reports = rw comes at I.words

  -- what it reports that is new
  new_is : offset w.nr σ.fop.numbers.nnr ≡ reports.0 - length σ.confirmed
  new_is = omega (arith, lv set σ I sv, I.base, reports.1, reports.2, wds_le set.n reports.0 _ ws reports.4)

  most : length σ.confirmed + length (fop_word w σ.fop).confirmed ≤ reports.0
  unfolding fop_word
  most =
      row_bound set σ word reports.0 (word_event (seen w σ.fop)) [] w.nr I (any word _ (word_ok (seen w σ.fop))) reports.2
      (reports.1, wds_le set.n reports.0 _ ws reports.4)

  removed : length (acknowledged σ.fop.numbers.nnr w.nr σ.fop.queues.sent_queue) ≡ offset w.nr σ.fop.numbers.nnr
  removed =
      let ln = queue_length (length σ.confirmed) σ.sent [] (fdus σ.fop.queues.sent_queue) (lv set σ I sv).cut in
      let a = acked set σ I sv reports.0 w.nr reports.2 reports.1 (wds_le set.n reports.0 (length σ.accepted) ws reports.4) in
      ap length a.0 ∙ length-take (offset w.nr σ.fop.numbers.nnr) (fdus σ.fop.queues.sent_queue)
      ∙ omega (arith, new_is, ln, I.base, wds_le set.n reports.0 _ ws reports.4)

  state_keys : Keys set.n (length σ.sent) (floor (effective σ.fop) (length σ.confirmed)) (2 * length σ.accepted + bit σ.farm.retransmit) (w ∷ ws)
      → Keys set.n (length σ.sent) (floor σ.fop.state (length σ.confirmed)) (2 * length σ.accepted + bit σ.farm.retransmit) (w ∷ ws)
  state_keys =
      subst (λ (s : State). Keys set.n (length σ.sent) (floor s (length σ.confirmed)) (2 * length σ.accepted + bit σ.farm.retransmit) (w ∷ ws))
      (serves_as σ.fop.state σ.fop.suspend_state sv)

  least : (b : Bool) → not (eqb (offset w.nr σ.fop.numbers.nnr) 0) ≡ b → offset w.nr σ.fop.numbers.nnr ≤ length (fop_word w σ.fop).confirmed
  unfolding fop_word fop_do remove_acknowledged
  least false e = omega (arith, eqb-true (offset w.nr σ.fop.numbers.nnr) 0 (not-false _ e))
  least true e =
      let f = live_fits set σ I w ws σ.fop.state (lv set σ I sv) (state_keys (rw comes at Q.keys)) in
      let t = implied (fitting σ.fop.state (seen w σ.fop)) _ (seen_at (removes_at σ.fop.state) (seen w σ.fop)
      (removes_all σ.fop.state sv)) f in
      let r = implied (seen w σ.fop).new _ t e in
      omega (
        arith,
        removed,
        cell_removes (cell78 (table78 (word_event (seen w σ.fop))) σ.fop.state) (begin (some (word_event (seen w σ.fop))) [] w.nr σ.fop) r,
      )

  -- the count confirmed is what the word reports
  pub exact : w.nr ≡ advanced set.n (length σ.confirmed + length (fop_word w σ.fop).confirmed)
  exact =
      let c : reports.0 ≡ length σ.confirmed + length (fop_word w σ.fop).confirmed =
      omega (arith, most, least (not (eqb (offset w.nr σ.fop.numbers.nnr) 0)) refl, new_is, reports.2) in
      reports.1 ∙ ap (advanced set.n) c
