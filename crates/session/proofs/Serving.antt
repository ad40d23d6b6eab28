-- An AD frame is handed down only by an event that leaves the sender active or resending without wait: a computed test shows that no other
-- cell of table 7-8 has an action that may hand one down.
use mathlib.Core.Logic.{◌⊎◌, inl, inr}
use mathlib.Core.Path.{◌≡◌, refl, ap, ◌∙◌}
use mathlib.Core.Bool.{Bool, true, false, ◌||◌, false≢true}
use mathlib.Core.List.{List, [], ◌∷◌, ◌++◌}
use mathlib.Core.Option.{Option, none, some}
use Prim.Native.Nat.{ℕ}
use lib.Dec.{T}
use Rattle.fop.specs.Units.{Frame, AD, BD, Unlock, SetVR, Refused, Word}
use Rattle.fop.specs.declared.State.{State}
use Rattle.fop.specs.declared.State.TheVariants.{S1, S2, S3, S4, S5, S6}
use Rattle.fop.specs.declared.Alert.TheVariants.{Llif}
use Rattle.fop.specs.Table.{main, alerts}
use Rattle.fop.specs.declared.Action.{Action}
use Rattle.fop.specs.declared.Action.TheVariants.{Ignore, Accept, Reject, Confirm}
use Rattle.fop.specs.declared.Event.{Event as FopEvent}
use Rattle.fop.specs.Table.{Cell, cell, if_not_suspended, NotApplicable, table78, cell78}
use Rattle.fop.specs.declared.Action.TheVariants.{RejectAd, AcceptBd, RejectBd, AddToWaitQueue, LookForFdu, LookForDirective, RemoveAcknowledgedFrames, InitiateAdRetransmission}
use Rattle.fop.specs.declared.Action.TheVariants.{InitiateBcRetransmission, ReleaseBcFrame, CancelTimer, StartTimer, Alert, Initialise, TransmitUnlock, TransmitSetVr, TransmitBd, SetSuspendState}
use Rattle.fop.specs.declared.Action.TheVariants.{Suspend, Resume, SetVs, SetNnr, SetK, SetT1Initial, SetTransmissionLimit, SetTimeoutType, AdOutReady, BcOutReady, BdOutReady}
use Rattle.fop.specs.Variables.{Fop, Work, begin}
use Rattle.fop.specs.Effective.{effective}
use Rattle.fop.specs.Machine.{perform, perform_all, perform_cell, remove_acknowledged, transmit_bc, fop_do}
use Rattle.fop.specs.declared.Lower.{Lower}
use Rattle.fop.specs.Events.{when, word_lines, word_event, seen, fop_word, fop_ad, fop_bd, is_empty, fop_tick, fop_lower, fop_directive, is_reject}
use Rattle.session.specs.Ends.{SessionDirective}
use Rattle.session.specs.Claims.{serves}
use Rattle.session.proofs.Suspended.{session_all}
use Rattle.fop.proofs.Test.{first_all, lower_all, lowered, tick_ways, Keeps, all_keep, all_keep_lem}
use Rattle.session.proofs.Rows.{at_all, at_cell, mode_of, sound}
use Rattle.session.proofs.Few.{purge_few}

abbrev pub NoAd : List Frame → Type 0
NoAd [] = Unit {0}
NoAd (AD u ∷ fs) = ⊥
NoAd (BD o ∷ fs) = NoAd fs
NoAd (Unlock ∷ fs) = NoAd fs
NoAd (SetVR v ∷ fs) = NoAd fs
NoAd (Refused r ∷ fs) = NoAd fs

pub none_more : (fs gs : List Frame) → NoAd fs → NoAd gs → NoAd (fs ++ gs)
none_more [] gs h g = g
none_more (AD u ∷ fs) gs h g = absurd h
none_more (BD o ∷ fs) gs h g = none_more fs gs h g
none_more (Unlock ∷ fs) gs h g = none_more fs gs h g
none_more (SetVR v ∷ fs) gs h g = none_more fs gs h g
none_more (Refused r ∷ fs) gs h g = none_more fs gs h g

-- the actions that hand down no AD frame, each with its proof; Look for FDU and Look for directive may
unfoldable without_ad : (x : Action) → Option (Keeps (λ w. NoAd w.frames) x)
unfolding perform remove_acknowledged transmit_bc
without_ad Ignore = some (λ w h. h)
without_ad Accept = some (λ w h. h)
without_ad Reject = some (λ w h. h)
without_ad Confirm = some (λ w h. h)
without_ad RejectAd = some (λ w h. h)
without_ad AcceptBd = some (λ w h. h)
without_ad RejectBd = some (λ w h. h)
without_ad AddToWaitQueue = some (λ w h. h)
without_ad LookForFdu = none
without_ad LookForDirective = none
without_ad RemoveAcknowledgedFrames = some (λ w h. h)
without_ad InitiateAdRetransmission = some (λ w h. h)
without_ad InitiateBcRetransmission = some (λ w h. h)
without_ad ReleaseBcFrame = some (λ w h. h)
without_ad CancelTimer = some (λ w h. h)
without_ad StartTimer = some (λ w h. h)
without_ad (Alert r) = some (λ w h. rw (purge_few w) h)
without_ad Initialise = some (λ w h. rw (purge_few w) h)
without_ad TransmitUnlock = some (λ w h. none_more w.frames (Unlock ∷ []) h tt)
without_ad TransmitSetVr = some (λ w h. none_more w.frames (SetVR w.asked.value ∷ []) h tt)
without_ad TransmitBd = some (λ w h. none_more w.frames (BD w.asked.octets ∷ []) h tt)
without_ad (SetSuspendState n) = some (λ w h. h)
without_ad Suspend = some (λ w h. h)
without_ad Resume = some (λ w h. h)
without_ad SetVs = some (λ w h. h)
without_ad SetNnr = some (λ w h. h)
without_ad SetK = some (λ w h. h)
without_ad SetT1Initial = some (λ w h. h)
without_ad SetTransmissionLimit = some (λ w h. h)
without_ad SetTimeoutType = some (λ w h. h)
without_ad AdOutReady = some (λ w h. h)
without_ad BcOutReady = some (λ w h. h)
without_ad BdOutReady = some (λ w h. h)

-- the test: a cell looks for an FDU only where it leads to S1 or S2
abbrev cell_serving : State → Cell → Bool
cell_serving s NotApplicable = true
cell_serving s (cell xs u) = serves u || all_keep (λ w. NoAd w.frames) without_ad xs
cell_serving s (if_not_suspended xs ys u) = false

abbrev row_serving : FopEvent → Bool
row_serving e = at_all cell_serving (table78 e)

abbrev pub Serving : Work → Type 0
Serving w = NoAd w.frames ⊎ (serves w.fop.state ≡ true)

cell_serving_lem : (s : State) (c : Cell) (w : Work) → T (cell_serving s c) → NoAd w.frames → Serving (perform_cell c w)
unfolding perform_cell
cell_serving_lem s NotApplicable w t h = inl h
cell_serving_lem s (cell xs u) w t h = go (serves u) refl t
  where
    go : (b : Bool) → serves u ≡ b → T (b || all_keep (λ w. NoAd w.frames) without_ad xs) → NoAd (perform_all xs w).frames ⊎ (serves u ≡ true)
    go true e t = inr e
    go false e t = inl (all_keep_lem (λ v. NoAd v.frames) without_ad xs w t h)
cell_serving_lem s (if_not_suspended xs ys u) w t h = absurd t

do_serving : (e : FopEvent) (o : List ℕ) (v : ℕ) (f : Fop) → T (row_serving e) → T (sound (mode_of (effective f))) → Serving (fop_do e o v f)
unfolding fop_do
do_serving e o v f t g = cell_serving_lem f.state (cell78 (table78 e) f.state) (begin (some e) o v f) (at_cell cell_serving (table78 e) f.state f.suspend_state t g) tt

-- of a sender in a state of the session
module _ (f : Fop) (g : T (sound (mode_of (effective f)))) where
  pub tick_serving : Serving (fop_tick f)
  unfolding table78 without_ad
  tick_serving = tick_ways row_serving tt Serving f (λ z. tt) (λ e t. do_serving e [] 0 (lowered f) t g) (inl tt)

  pub lower_serving : (l : Lower) → Serving (fop_lower l f)
  unfolding fop_lower table78 without_ad
  lower_serving l = do_serving _ [] 0 f (lower_all row_serving tt l) g

  pub ad_serving : (o : List ℕ) → Serving (fop_ad o f)
  unfolding fop_ad table78 without_ad
  ad_serving o = do_serving _ o 0 f (first_all row_serving (when (is_empty f.queues.wait_queue) FopEvent.E19 ∷ []) FopEvent.E20 tt) g

  pub bd_serving : (o : List ℕ) → Serving (fop_bd o f)
  unfolding fop_bd table78 without_ad
  bd_serving o = do_serving _ o 0 f (first_all row_serving (when f.out.bd FopEvent.E21 ∷ []) FopEvent.E22 tt) g

  -- the directives of a session
  pub directive_serving : (d v : ℕ) → SessionDirective d → Serving (fop_directive d v f)
  unfolding fop_directive table78 without_ad
  directive_serving d v h = do_serving _ [] v f (session_all row_serving tt d v f h) g

  pub word_serving : (w : Word) → Serving (fop_word w f)
  unfolding fop_word word_event table78 without_ad
  word_serving w = do_serving _ [] w.nr f (first_all row_serving (word_lines (seen w f)) FopEvent.E103 tt) g

-- a reject of the lower layer alerts in every state, and hands nothing down
everywhere : (s : State) → cell78 (main (alerts Llif) (alerts Llif) (alerts Llif) (alerts Llif)) s ≡ alerts Llif
everywhere S1 = refl
everywhere S2 = refl
everywhere S3 = refl
everywhere S4 = refl
everywhere S5 = refl
everywhere S6 = refl

alert_none : (s : State) (w : Work) → (perform_cell (cell78 (main (alerts Llif) (alerts Llif) (alerts Llif) (alerts Llif)) s) w).frames ≡ w.frames
unfolding perform_cell perform_all perform
alert_none s w = ap (λ (c : Cell). (perform_cell c w).frames) (everywhere s) ∙ purge_few w

pub reject_none : (l : Lower) (f : Fop) → is_reject l ≡ true → (fop_lower l f).frames ≡ []
unfolding fop_lower fop_do table78
reject_none Lower.AdAccept f q = absurd (false≢true q)
reject_none Lower.AdReject f q = alert_none f.state (begin (some FopEvent.E42) [] 0 f)
reject_none Lower.BcAccept f q = absurd (false≢true q)
reject_none Lower.BcReject f q = alert_none f.state (begin (some FopEvent.E44) [] 0 f)
reject_none Lower.BdAccept f q = absurd (false≢true q)
reject_none Lower.BdReject f q = alert_none f.state (begin (some FopEvent.E46) [] 0 f)
