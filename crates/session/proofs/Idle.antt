-- At Timeout_Type 0 suspension never begins: with Timeout_Type and Suspend_State 0, whatever the sender is asked but Set Timeout_Type to another value
-- keeps both 0 and issues no Suspend notification. So rows E18, E31 to E34 and E104 of table 7-8 are met by no such event (`idle`).
use Rattle.fop.specs.Answers.{Answer, judged, sender_refusal, sender_answer, sender_next}
use mathlib.Core.Logic.{inl, inr}
use mathlib.Core.Path.{◌≡◌, refl, sym, ◌∙◌}
use mathlib.Core.Bool.{Bool, true, false, ◌&&◌, false≢true, not}
use mathlib.Core.List.{List, [], ◌∷◌}
use mathlib.Core.Option.{Option, none, some}
use Prim.Native.Nat.{ℕ, ◌≤◌, ◌<◌}
use native.Mathlib.Omega.{arith}
use lib.Dec.{eqb, T, leb}
use borrow.Author.Tests.{eq-eqb, eqb-true, leb-true}
use Rattle.fop.specs.Units.{WordReceived, valid, invalid, other, Own, read_word}
use Rattle.fop.specs.declared.Action.{Action}
use Rattle.fop.specs.declared.Action.TheVariants.{Ignore, Accept, Reject, Confirm, RejectAd}
use Rattle.fop.specs.declared.Event.{Event as FopEvent}
use Rattle.fop.specs.Table.{Cell, cell, if_not_suspended, NotApplicable, table78, cell78}
use Rattle.fop.specs.declared.Action.TheVariants.{AcceptBd, RejectBd, AddToWaitQueue, LookForFdu, LookForDirective, RemoveAcknowledgedFrames, InitiateAdRetransmission, InitiateBcRetransmission}
use Rattle.fop.specs.declared.Action.TheVariants.{ReleaseBcFrame, CancelTimer, StartTimer, Alert, Initialise, TransmitUnlock, TransmitSetVr, TransmitBd, SetSuspendState, Suspend, Resume}
use Rattle.fop.specs.declared.Action.TheVariants.{SetVs, SetNnr, SetK, SetT1Initial, SetTransmissionLimit, SetTimeoutType, AdOutReady, BcOutReady, BdOutReady}
use Rattle.fop.specs.Variables.{Fop, Work}
use Rattle.fop.specs.Machine.{perform, perform_cell, send_next, send_waiting, transmit_ad, transmit_bc}
use Rattle.fop.specs.Variables.{begin}
use Rattle.fop.specs.Machine.{remove_acknowledged, fop_do}
use Rattle.fop.specs.declared.Lower.{Lower}
use Rattle.fop.specs.Events.{Line, when, first, word_lines, word_event, seen, fop_word, fop_ad, fop_bd, fop_tick, fop_lower, directive_lines, directive_event, valid_directive, fop_directive, SenderEvent, request_ad, request_bd, lower, directive, word_arrives, work}
use Rattle.fop.specs.Events.{is_empty, fop_received}
use Rattle.fop.specs.Events as fop
use Rattle.session.specs.Ends.{SessionDirective}
use Rattle.base.proofs.Computed.{is_true}
use Rattle.fop.proofs.Choices.{by_pick, and_l, and_r, and_both, unrefused, upto, ◌also◌}
use Rattle.fop.proofs.Ways.{look_ways, directive_ways, purge_ways}
use Rattle.fop.proofs.Test.{every_cell, every_cell_lem, all_lines, first_all, lower_all, lowered, tick_ways, never_suspends, Keeps, where_so, all_keep, all_keep_lem}
use Rattle.session.proofs.Fit.{fit}

-- Suspend_State, Timeout_Type and the notification; z says that the value in hand is 0
abbrev Still : Bool → ℕ → ℕ → Bool → ℕ → Type 0
Still z s t n v = (s ≡ 0) × (t ≡ 0) × (n ≡ false) × (z ≡ true → v ≡ 0)

abbrev J : Bool → Work → Type 0
J z w = Still z w.fop.suspend_state w.fop.preset.timeout_type w.notices.suspended w.asked.value

-- every action but those of suspension, SS := n and Suspend, each with its proof; Set TT needs the value 0
unfoldable still : (z : Bool) (x : Action) → Option (Keeps (J z) x)
unfolding perform remove_acknowledged transmit_bc send_next send_waiting transmit_ad
still z Ignore = some (λ w h. h)
still z Accept = some (λ w h. h)
still z Reject = some (λ w h. h)
still z Confirm = some (λ w h. h)
still z RejectAd = some (λ w h. h)
still z AcceptBd = some (λ w h. h)
still z RejectBd = some (λ w h. h)
still z AddToWaitQueue = some (λ w h. h)
still z LookForFdu = some (λ w h. look_ways (J z) w h (λ u e. h) (λ o r e. h))
still z LookForDirective = some (λ w h. directive_ways (J z) w h (λ b. h) w.fop.queues.bc_frame)
still z RemoveAcknowledgedFrames = some (λ w h. h)
still z InitiateAdRetransmission = some (λ w h. h)
still z InitiateBcRetransmission = some (λ w h. h)
still z ReleaseBcFrame = some (λ w h. h)
still z CancelTimer = some (λ w h. h)
still z StartTimer = some (λ w h. h)
still z (Alert r) = some (λ w h. purge_ways (J z) w h (λ r v k. k))
still z Initialise = some (λ w h. let p = purge_ways (J z) w h (λ r v k. k) in (refl, p.1, p.2, p.3))
still z TransmitUnlock = some (λ w h. h)
still z TransmitSetVr = some (λ w h. h)
still z TransmitBd = some (λ w h. h)
still z (SetSuspendState n) = none
still z Suspend = none
still z Resume = some (λ w h. (refl, h.1, h.2, h.3))
still z SetVs = some (λ w h. h)
still z SetNnr = some (λ w h. h)
still z SetK = some (λ w h. h)
still z SetT1Initial = some (λ w h. h)
still z SetTransmissionLimit = some (λ w h. h)
still z SetTimeoutType = where_so z (λ t w h. (h.0, h.3 (is_true z t), h.2, h.3))
still z AdOutReady = some (λ w h. h)
still z BcOutReady = some (λ w h. h)
still z BdOutReady = some (λ w h. h)

abbrev cell_still : Bool → Cell → Bool
cell_still z NotApplicable = true
cell_still z (cell xs s) = all_keep (J z) (still z) xs
cell_still z (if_not_suspended xs ys s) = all_keep (J z) (still z) xs && all_keep (J z) (still z) ys

cell_still_lem : (z : Bool) (c : Cell) (w : Work) → T (cell_still z c) → J z w → J z (perform_cell c w)
unfolding perform_cell
cell_still_lem z NotApplicable w t h = h
cell_still_lem z (cell xs s) w t h = all_keep_lem (J z) (still z) xs w t h
cell_still_lem z (if_not_suspended xs ys s) w t h =
    by_pick (J z) (eqb w.fop.suspend_state 0) (λ e. all_keep_lem (J z) (still z) xs w (and_l (all_keep (J z) (still z) xs) _ t) h) (λ e. all_keep_lem (J z) (still z) ys w (and_r (all_keep (J z) (still z) xs) _ t) h)

abbrev row_still : Bool → FopEvent → Bool
row_still z e = every_cell (cell_still z) (table78 e)

-- a sender at Suspend_State and Timeout_Type 0
pub record Idle (f : Fop) : Type 0 where
  pub not_suspended : f.suspend_state ≡ 0
  pub alerting : f.preset.timeout_type ≡ 0

abbrev pub Stays : Work → Type 0
Stays w = Idle w.fop × (w.notices.suspended ≡ false)

do_still : (z : Bool) (e : FopEvent) (o : List ℕ) (v : ℕ) (f : Fop) → T (row_still z e) → (z ≡ true → v ≡ 0) → Idle f → Stays (fop_do e o v f)
unfolding fop_do
do_still z e o v f t k h =
    let j = cell_still_lem z (cell78 (table78 e) f.state) (begin (some e) o v f) (every_cell_lem (cell_still z) (table78 e) f.state t) (h.not_suspended, h.alerting, refl, k) in
    (record { not_suspended = j.0; alerting = j.1 }, j.2)

pub tick_still : (f : Fop) → Idle f → Stays (fop_tick f)
unfolding table78 still
tick_still f h =
    let k : Idle (lowered f) = record { not_suspended = h.not_suspended; alerting = h.alerting } in
    tick_ways (row_still false) tt Stays f (never_suspends f (eq-eqb f.preset.timeout_type 0 h.alerting))
    (λ e t. do_still false e [] 0 (lowered f) t (λ y. absurd (false≢true y)) k) (k, refl)

pub lower_still : (l : Lower) (f : Fop) → Idle f → Stays (fop_lower l f)
unfolding fop_lower table78 still
lower_still l f h = do_still false _ [] 0 f (lower_all (row_still false) tt l) (λ e. absurd (false≢true e)) h

pub received_still : (x : WordReceived) (f : Fop) → Idle f → Stays (fop_received x f)
unfolding fop_received fop_word word_event table78 still
received_still (valid w) f h =
    do_still false _ [] w.nr f (first_all (row_still false) (word_lines (seen w f)) FopEvent.E103 tt) (λ e. absurd (false≢true e)) h
received_still invalid f h = do_still false _ [] 0 f tt (λ e. absurd (false≢true e)) h
received_still (other r) f h = (h, refl)

pub ad_still : (o : List ℕ) (f : Fop) → Idle f → Stays (fop_ad o f)
unfolding fop_ad table78 still
ad_still o f h =
    do_still false _ o 0 f (first_all (row_still false) (when (is_empty f.queues.wait_queue) FopEvent.E19 ∷ []) FopEvent.E20 tt) (λ e. absurd (false≢true e)) h

pub bd_still : (o : List ℕ) (f : Fop) → Idle f → Stays (fop_bd o f)
unfolding fop_bd table78 still
bd_still o f h =
    do_still false _ o 0 f (first_all (row_still false) (when f.out.bd FopEvent.E21 ∷ []) FopEvent.E22 tt) (λ e. absurd (false≢true e)) h

-- a directive: none but Set Timeout_Type sets Timeout_Type
module _ (v : ℕ) (f : Fop) where
  abbrev D : ℕ → Type 0
  D d = T (row_still false (first (directive_lines d v f) FopEvent.E39))

  -- E40 where the directive is not valid, else one of its own lines
  lines : (d : ℕ) (own : List Line) (e : FopEvent) → T (row_still false FopEvent.E40 && all_lines (row_still false) own && row_still false e)
      → T (row_still false (first (when (not (valid_directive d v)) FopEvent.E40 ∷ own) e))
  lines d own e t = first_all (row_still false) (when (not (valid_directive d v)) FopEvent.E40 ∷ own) e t

  other_still : (d : ℕ) → d < 11 → D d
  unfolding table78 still
  other_still =
      let bc : Bool = f.out.bc in
      let ss : ℕ → Bool = eqb f.suspend_state in
      upto D 11
      (tt
      also lines 1 [] FopEvent.E23 tt
      also lines 2 [] FopEvent.E24 tt
      also lines 3 (when bc FopEvent.E25 ∷ []) FopEvent.E26 tt
      also lines 4 (when bc FopEvent.E27 ∷ []) FopEvent.E28 tt
      also lines 5 [] FopEvent.E29 tt
      also lines 6 (when (ss 0) FopEvent.E30 ∷ when (ss 1) FopEvent.E31 ∷ when (ss 2) FopEvent.E32 ∷ when (ss 3) FopEvent.E33 ∷ []) FopEvent.E34 tt
      also lines 7 [] FopEvent.E35 tt
      also lines 8 [] FopEvent.E36 tt
      also lines 9 [] FopEvent.E37 tt
      also lines 10 [] FopEvent.E38 tt
      also tt)

-- Set Timeout_Type (directive 11) with no value but 0
abbrev pub KeepsType : ℕ → ℕ → Type 0
KeepsType d v = d ≡ 11 → v ≡ 0

-- a valid directive whose value is not 0 is then one below 11
bounds : (d v : ℕ) → valid_directive d v ≡ true → KeepsType d v → eqb v 0 ≡ false → d < 11
bounds d v e k z =
    let a = and_both (leb 1 d && leb d 11) _ e in
    let b = and_both (leb 1 d) (leb d 11) a.0 in
    let l : d ≤ 11 = leb-true d 11 b.1 in
    let n : d ≡ 11 → ⊥ = λ q. false≢true (sym z ∙ eq-eqb v 0 (k q)) in
    omega arith

directive_still : (d v : ℕ) (f : Fop) → valid_directive d v ≡ true → KeepsType d v → Idle f → Stays (fop_directive d v f)
unfolding fop_directive directive_event table78 still
directive_still d v f e k h = go (eqb v 0) refl
  where
    go : (z : Bool) → eqb v 0 ≡ z → Stays (fop_do (first (directive_lines d v f) FopEvent.E39) [] v f)
    go true z = do_still true _ [] v f (first_all (row_still true) (directive_lines d v f) FopEvent.E39 tt) (λ y. eqb-true v 0 z) h
    go false z =
        do_still false _ [] v f (other_still v f d (bounds d v e k z)) (λ y. absurd (false≢true y)) h

-- the directives of a session
pub session_still : (d v : ℕ) (f : Fop) → SessionDirective d → Idle f → Stays (fop_directive d v f)
session_still d v f (inl q) h = rw q (directive_still 5 v f refl (λ z. absurd (omega (arith, z))) h)
session_still d v f (inr q) h = rw q (directive_still 6 v f refl (λ z. absurd (omega (arith, z))) h)

-- the event does not set Timeout_Type to another value than 0
abbrev pub Alerting : SenderEvent → Type 0
Alerting (request_ad o) = Unit {0}
Alerting (request_bd o) = Unit {0}
Alerting fop.tick = Unit {0}
Alerting (lower l) = Unit {0}
Alerting (directive d v) = KeepsType d v
Alerting (word_arrives s) = Unit {0}

work_still : (own : Own) (e : SenderEvent) (f : Fop) → judged own e ≡ 0 → Alerting e → Idle f → Stays (work own e f)
unfolding work judged
work_still own (request_ad o) f j k h = ad_still o f h
work_still own (request_bd o) f j k h = bd_still o f h
work_still own fop.tick f j k h = tick_still f h
work_still own (lower l) f j k h = lower_still l f h
work_still own (directive d v) f j k h = directive_still d v f (unrefused (valid_directive d v) 11 j) k h
work_still own (word_arrives s) f j k h = received_still (read_word own s) f h

pub idle : (own : Own) (e : SenderEvent) (lent : ℕ) (f : Fop) → Alerting e → Idle f → Idle (sender_next own e lent f) × ((sender_answer own e lent f).suspended ≡ false)
unfolding sender_next sender_answer
idle own e lent f k h =
    let goes : Bool = eqb (sender_refusal own e lent f) 0 in (
      by_pick Idle goes (λ z. (work_still own e f (fit own e lent f z).0 k h).0) (λ z. h),
      by_pick (λ (a : Answer). a.suspended ≡ false) goes (λ z. (work_still own e f (fit own e lent f z).0 k h).1) (λ z. refl),
    )
