-- Suspend_State through the actions of table 7-8, and the effective state that it gives (crate fop, specs/Effective).
use mathlib.Core.Logic.{inl, inr}
use mathlib.Core.Path.{◌≡◌, refl, sym, ap, ◌∙◌}
use mathlib.Core.Bool.{Bool, true, false, not, ◌&&◌, false≢true}
use mathlib.Core.List.{List, [], ◌∷◌}
use Prim.Native.Nat.{ℕ}
use lib.Dec.{T, eqb}
use borrow.Author.Tests.{eqb-true}
use Rattle.fop.specs.declared.State.{State}
use Rattle.fop.specs.declared.State.TheVariants.{S1, S2, S3, S4, S5, S6}
use Rattle.fop.specs.declared.Action.{Action}
use Rattle.fop.specs.declared.Action.TheVariants.{Ignore, Accept, Reject, Confirm, RejectAd, AcceptBd, RejectBd, AddToWaitQueue, LookForFdu, LookForDirective}
use Rattle.fop.specs.declared.Action.TheVariants.{RemoveAcknowledgedFrames, InitiateAdRetransmission, InitiateBcRetransmission, ReleaseBcFrame, CancelTimer, StartTimer, Alert, Initialise, TransmitUnlock}
use Rattle.fop.specs.declared.Action.TheVariants.{TransmitSetVr, TransmitBd, SetSuspendState, Suspend, Resume, SetVs, SetNnr, SetK, SetT1Initial, SetTransmissionLimit, SetTimeoutType, AdOutReady, BcOutReady, BdOutReady}
use Rattle.fop.specs.declared.Event.{Event as FopEvent}
use Rattle.fop.specs.declared.Event.TheVariants.{E29, E30, E31, E32, E33, E34}
use Rattle.fop.specs.Events.{when, directive_event}
use Rattle.fop.proofs.Test.{first_all}
use Rattle.fop.specs.Variables.{Fop, Work}
use Rattle.fop.specs.Effective.{suspended_in, effective_of, effective}
use Rattle.fop.specs.Machine.{perform, perform_all, send_next, send_waiting, transmit_ad, transmit_bc, remove_acknowledged}
use Rattle.session.specs.Ends.{Settings, tables, SessionDirective}
use Rattle.session.specs.Session.{Event, Linked, step}
use Rattle.session.specs.Suspension.{admits, rejects, unrejected}
use Rattle.fop.proofs.Choices.{by_pick, and_l, and_r}
use Rattle.fop.proofs.Ways.{look_ways, directive_ways, purge_ways}

-- Suspend_State after an action, and after actions in their order
abbrev suspend_after : Action → ℕ → ℕ
suspend_after Ignore n = n
suspend_after Accept n = n
suspend_after Reject n = n
suspend_after Confirm n = n
suspend_after RejectAd n = n
suspend_after AcceptBd n = n
suspend_after RejectBd n = n
suspend_after AddToWaitQueue n = n
suspend_after LookForFdu n = n
suspend_after LookForDirective n = n
suspend_after RemoveAcknowledgedFrames n = n
suspend_after InitiateAdRetransmission n = n
suspend_after InitiateBcRetransmission n = n
suspend_after ReleaseBcFrame n = n
suspend_after CancelTimer n = n
suspend_after StartTimer n = n
suspend_after (Alert r) n = n
suspend_after Initialise n = 0
suspend_after TransmitUnlock n = n
suspend_after TransmitSetVr n = n
suspend_after TransmitBd n = n
suspend_after (SetSuspendState s) n = s
suspend_after Suspend n = n
suspend_after Resume n = 0
suspend_after SetVs n = n
suspend_after SetNnr n = n
suspend_after SetK n = n
suspend_after SetT1Initial n = n
suspend_after SetTransmissionLimit n = n
suspend_after SetTimeoutType n = n
suspend_after AdOutReady n = n
suspend_after BcOutReady n = n
suspend_after BdOutReady n = n

abbrev pub suspend_all : List Action → ℕ → ℕ
suspend_all [] n = n
suspend_all (x ∷ xs) n = suspend_all xs (suspend_after x n)

suspend_after_lem : (x : Action) (w : Work) → (perform x w).fop.suspend_state ≡ suspend_after x w.fop.suspend_state
unfolding perform remove_acknowledged transmit_bc send_next send_waiting transmit_ad
suspend_after_lem Ignore w = refl
suspend_after_lem Accept w = refl
suspend_after_lem Reject w = refl
suspend_after_lem Confirm w = refl
suspend_after_lem RejectAd w = refl
suspend_after_lem AcceptBd w = refl
suspend_after_lem RejectBd w = refl
suspend_after_lem AddToWaitQueue w = refl
suspend_after_lem LookForFdu w = look_ways (λ v. v.fop.suspend_state ≡ w.fop.suspend_state) w refl (λ u e. refl) (λ o r e. refl)
suspend_after_lem LookForDirective w = directive_ways (λ v. v.fop.suspend_state ≡ w.fop.suspend_state) w refl (λ b. refl) w.fop.queues.bc_frame
suspend_after_lem RemoveAcknowledgedFrames w = refl
suspend_after_lem InitiateAdRetransmission w = refl
suspend_after_lem InitiateBcRetransmission w = refl
suspend_after_lem ReleaseBcFrame w = refl
suspend_after_lem CancelTimer w = refl
suspend_after_lem StartTimer w = refl
suspend_after_lem (Alert r) w = purge_ways (λ v. v.fop.suspend_state ≡ w.fop.suspend_state) w refl (λ r v h. h)
suspend_after_lem Initialise w = refl
suspend_after_lem TransmitUnlock w = refl
suspend_after_lem TransmitSetVr w = refl
suspend_after_lem TransmitBd w = refl
suspend_after_lem (SetSuspendState s) w = refl
suspend_after_lem Suspend w = refl
suspend_after_lem Resume w = refl
suspend_after_lem SetVs w = refl
suspend_after_lem SetNnr w = refl
suspend_after_lem SetK w = refl
suspend_after_lem SetT1Initial w = refl
suspend_after_lem SetTransmissionLimit w = refl
suspend_after_lem SetTimeoutType w = refl
suspend_after_lem AdOutReady w = refl
suspend_after_lem BcOutReady w = refl
suspend_after_lem BdOutReady w = refl

pub suspend_all_lem : (xs : List Action) (w : Work) → (perform_all xs w).fop.suspend_state ≡ suspend_all xs w.fop.suspend_state
unfolding perform_all
suspend_all_lem [] w = refl
suspend_all_lem (x ∷ xs) w = suspend_all_lem xs (perform x w) ∙ ap (suspend_all xs) (suspend_after_lem x w)

-- Suspend_State is 0 but in Initial
abbrev pub unsuspended : State → ℕ → Bool
unsuspended S1 n = eqb n 0
unsuspended S2 n = eqb n 0
unsuspended S3 n = eqb n 0
unsuspended S4 n = eqb n 0
unsuspended S5 n = eqb n 0
unsuspended S6 n = true

-- with Suspend_State 0 the effective state is the state
effective_zero : (s : State) → effective_of s 0 ≡ s
effective_zero S1 = refl
effective_zero S2 = refl
effective_zero S3 = refl
effective_zero S4 = refl
effective_zero S5 = refl
effective_zero S6 = refl

pub effective_is : (f : Fop) → f.suspend_state ≡ 0 → effective f ≡ f.state
effective_is f z = ap (effective_of f.state) z ∙ effective_zero f.state

-- an event that is admitted and would not be to a suspended sender
pub not_suspended_lem : (f : Fop) → admits true f ≡ true → f.suspend_state ≡ 0
not_suspended_lem f a = by (eqb f.suspend_state 0) refl a
  where
    by : (b : Bool) → eqb f.suspend_state 0 ≡ b → not (true && not b) ≡ true → f.suspend_state ≡ 0
    by true e a = eqb-true f.suspend_state 0 e
    by false e a = absurd (false≢true a)

-- an event that is no reject of the lower layer is admitted
pub admitted : (b : Bool) (f : Fop) → b ≡ false → admits b f ≡ true
admitted b f q = ap (λ (x : Bool). admits x f) q

-- to a sender that is not suspended every event is
pub admitted_serving : (b : Bool) (f : Fop) → f.suspend_state ≡ 0 → admits b f ≡ true
admitted_serving true f z = rw z
admitted_serving false f z = refl

-- no event of a list is a reject of the lower layer
abbrev pub none_reject : List Event → Bool
none_reject [] = true
none_reject (e ∷ es) = not (rejects e) && none_reject es

pub none_first : (e : Event) (es : List Event) → none_reject (e ∷ es) ≡ true → (rejects e ≡ false) × (none_reject es ≡ true)
none_first e es h = by (rejects e) refl h
  where
    by : (b : Bool) → rejects e ≡ b → (not b && none_reject es) ≡ true → (rejects e ≡ false) × (none_reject es ≡ true)
    by true q h = absurd (false≢true h)
    by false q h = (q, h)

-- so none comes while suspended
pub unrejected_none : (set : Settings) (es : List Event) (γ : Linked (tables set)) → none_reject es ≡ true → unrejected set es γ ≡ true
unfolding unrejected
unrejected_none set [] γ h = refl
unrejected_none set (e ∷ es) γ h =
    let n = none_first e es h in
    ap (λ (b : Bool). b && unrejected set es (step set (tables set) e γ)) (admitted (rejects e) γ.sender n.0)
    ∙ unrejected_none set es (step set (tables set) e γ) n.1

-- the Initial state
abbrev pub is_initial : State → Bool
is_initial S1 = false
is_initial S2 = false
is_initial S3 = false
is_initial S4 = false
is_initial S5 = false
is_initial S6 = true

-- Suspend_State above 0 is that of no Initial state
pub suspended_left : (n : ℕ) → eqb n 0 ≡ false → suspended_in n ≡ S6 → ⊥
suspended_left n q e =
    let not_initial : is_initial (suspended_in n) ≡ false =
    rw q (by_pick (λ s. is_initial s ≡ false) (eqb n 1) (λ t. refl)
    (λ t. by_pick (λ s. is_initial s ≡ false) (eqb n 2) (λ t. refl) (λ t. by_pick (λ s. is_initial s ≡ false) (eqb n 3) (λ t. refl) (λ t. refl)))) in
    false≢true (sym not_initial ∙ ap is_initial e)

-- the directives of a session: Terminate, and Resume by Suspend_State
pub session_all : (t : FopEvent → Bool) → T (t E29 && ((t E30 && (t E31 && (t E32 && (t E33 && true)))) && t E34)) → (d v : ℕ) (f : Fop) → SessionDirective d
    → T (t (directive_event d v f))
unfolding directive_event
session_all t h d v f (inl q) = rw q (and_l (t E29) _ h)
session_all t h d v f (inr q) =
    let ss : ℕ → Bool = eqb f.suspend_state in
    rw q (first_all t (when (ss 0) E30 ∷ when (ss 1) E31 ∷ when (ss 2) E32 ∷ when (ss 3) E33 ∷ []) E34 (and_r (t E29) _ h))
