-- Demand 3 of the table machines: an AD frame arrives; and BD units, offered and arriving.
use mathlib.Core.Logic.{◌↔◌}
use mathlib.Core.Path.{◌≡◌, refl, sym, ap, ◌∙◌}
use mathlib.Core.Bool.{Bool, true, false, false≢true}
use mathlib.Core.List.{List, [], ◌∷◌, ◌++◌}
use mathlib.Core.Option.{some}
use Prim.Native.Nat.{ℕ, ◌-◌, ◌/◌, ◌≤◌}
use native.Mathlib.Omega.{arith}
use lib.ListN.{length, length-append}
use borrow.Author.Tests.{ltb-true, lt-ltb}
use Rattle.base.specs.Choice.{pick}
use Rattle.base.specs.Modulo.{advanced}
use Rattle.fop.specs.Units.{Fdu, Frame, AD, BD, legal}
use Rattle.fop.specs.declared.State.{State}
use Rattle.fop.specs.declared.State.TheVariants.{S1, S2, S3, S4, S5, S6}
use Rattle.fop.specs.declared.Event.{Event as FopEvent}
use Rattle.fop.specs.Table.{table78, cell78}
use Rattle.fop.specs.Variables.{Fop, Work, begin}
use Rattle.fop.specs.Machine.{fop_do, perform_cell, perform_all, perform}
use Rattle.fop.specs.Events.{fop_bd, first, when, request_bd}
use Rattle.fop.specs.Events.{work}
use Rattle.fop.specs.Answers.{judged, needed}
use Rattle.session.specs.Ends.{Settings, Within}
use Rattle.session.specs.Session.{History, bd_request, frame_in}
use Rattle.session.specs.Claims.{expected, BufferFree}
use Rattle.session.proofs.Core.{step_with, frame_event, is_handed, handed, free, Session, answered, frame_come, receiver, step}
use Rattle.session.proofs.Inv.{Inv}
use Rattle.session.proofs.Chan.{Fly}
use Rattle.session.proofs.Receiver.{ad_cases}
use Rattle.session.proofs.Next.{history_of, sender_is}
use Rattle.base.specs.Choice.{both}
use Rattle.base.proofs.Tests.{both_left, both_true}
use Rattle.farm.specs.Table.{table, accepts as accepts_cell, unit_of}
use Rattle.farm.specs.Window.{not_wait}
use Rattle.farm.proofs.Units.{no_unit_lem}
use Rattle.farm.specs.declared.State.{State as FarmState}
use Rattle.farm.specs.declared.State.TheVariants.{Open, Wait, Lockout}
use Rattle.farm.specs.declared.Event.TheVariants as farm

-- an AD frame arrives
e1_takes : (s : FarmState) → is_handed (unit_of farm.E1 s) ≡ true → s ≡ Open
unfolding table accepts_cell
e1_takes Open e = refl
e1_takes Wait e = absurd (false≢true e)
e1_takes Lockout e = absurd (false≢true e)

open_takes : is_handed (unit_of farm.E1 Open) ≡ true
unfolding table accepts_cell
open_takes = refl

-- an Open receiver that takes no unit has no buffer free
both_open : (a : Bool) (s : FarmState) → s ≡ Open → both a (not_wait s) ≡ false → a ≡ false
both_open a s o e = sym (both_true a) ∙ ap (λ (x : FarmState). both a (not_wait x)) (sym o) ∙ e

-- an AD frame that is handed out; room: a buffer is free, which Free says
module _ (set : Settings) (vw : Within set) (σ : Session) (I : Inv set σ) (room : Bool) (Free : Type 0) (is_free : (room ≡ true) ↔ Free) (u : Fdu)
    (fs : List Frame) (e : σ.frames ≡ AD u ∷ fs) where
  fly : Fly (set.w / 2) σ.sent (length σ.accepted) (length σ.accepted) (AD u ∷ fs)
  fly = rw e at I.base.fly

  num_is : u.ns ≡ advanced set.n fly.0
  num_is = ap (λ (x : Fdu). x.ns) fly.1 ∙ I.base.num.at fly.0 fly.2

  -- the place of the frame is that of its number
  place_is : u.ns ≡ advanced set.n (length σ.accepted) → fly.0 ≡ length σ.accepted
  place_is q = omega (arith, num_is, q, fly.3, fly.4, I.base.small)

  only : handed set.w room (AD u) σ.farm ≡ true → (σ.farm.state ≡ Open) × (u.ns ≡ expected set (history_of σ)) × Free
  unfolding frame_event
  only =
      ad_cases set vw σ room u fs I fly
      (λ x. is_handed (unit_of x σ.farm.state) ≡ true → (σ.farm.state ≡ Open) × (u.ns ≡ expected set (history_of σ)) × Free)
      (λ i p h. (
        e1_takes σ.farm.state h,
        num_is ∙ ap (λ (j : ℕ). advanced set.n j) i,
        is_free.0 (both_left room (not_wait σ.farm.state) p),
      ))
      (λ i p h. absurd (false≢true (rw (no_unit_lem farm.E2 σ.farm.state refl refl) at h)))
      (λ i h. absurd (false≢true (rw (no_unit_lem farm.E3 σ.farm.state refl refl) at h)))
      (λ i h. absurd (false≢true (rw (no_unit_lem farm.E4 σ.farm.state refl refl) at h)))

  when_open : σ.farm.state ≡ Open → u.ns ≡ expected set (history_of σ) → Free → handed set.w room (AD u) σ.farm ≡ true
  unfolding frame_event
  when_open s q b =
      ad_cases set vw σ room u fs I fly (λ x. is_handed (unit_of x σ.farm.state) ≡ true)
      (λ i p. ap (λ (x : FarmState). is_handed (unit_of farm.E1 x)) s ∙ open_takes)
      (λ i p. absurd (false≢true (sym (both_open room σ.farm.state s p) ∙ is_free.1 b)))
      (λ i. absurd (omega (arith, i, place_is q)))
      (λ i. absurd (omega (arith, i, place_is q)))

acc_is : (u : Fdu) (a : List Fdu) (b : Bool) → (pick b (a ++ (u ∷ [])) a ≡ a ++ (u ∷ [])) ↔ (b ≡ true)
acc_is u a true = (λ e. refl, λ e. refl)
acc_is u a false = (λ e. absurd (omega (arith, ap length e, length-append a (u ∷ []))), λ e. absurd (false≢true e))

pub accepts : (set : Settings) → Within set → (σ : Session) → Inv set σ → (room held : Bool) (Free : Type 0) → (room ≡ true) ↔ Free → (u : Fdu) (fs : List Frame)
    → σ.frames ≡ AD u ∷ fs
    → ((step_with set room held frame_in σ).accepted ≡ σ.accepted ++ (u ∷ []))
    ↔ ((σ.farm.state ≡ Open) × (u.ns ≡ expected set (history_of σ)) × Free)
unfolding step_with frame_come receiver
accepts set vw σ I room held Free is_free u fs e =
    let k : (step_with set room held frame_in σ).accepted ≡ pick (handed set.w room (AD u) σ.farm) (σ.accepted ++ (u ∷ [])) σ.accepted =
    ap (λ (l : List Frame). (frame_come set room l σ).accepted) e in
    let iff = acc_is u σ.accepted (handed set.w room (AD u) σ.farm) in (
      λ q. only set vw σ I room Free is_free u fs e (iff.0 (sym k ∙ q)),
      λ q. k ∙ iff.1 (when_open set vw σ I room Free is_free u fs e q.0 q.1 q.2),
    )

-- of a receiver that has its buffers for itself, by the histories
pub free_is : (set : Settings) → Within set → (σ : Session) (h : History) → h ≡ history_of σ → (free set σ ≡ true) ↔ BufferFree set h
free_is set vw σ h e =
    let a : length h.accepted ≡ length σ.accepted = ap (λ (x : History). length x.accepted) e in
    let r : h.released ≡ σ.released = ap (λ (x : History). x.released) e in (
      λ p. omega (arith, a, r, ltb-true (length σ.accepted - σ.released) set.buffers p),
      λ b. lt-ltb (length σ.accepted - σ.released) set.buffers (omega (arith, a, r, b, vw.buffers_least)),
    )

-- a BD unit is offered, and arrives
bd_cell : (s : State) (w : Work) → w.frames ≡ [] → (perform_cell (cell78 (table78 FopEvent.E21) s) w).frames ≡ BD w.asked.octets ∷ []
unfolding perform_cell perform_all perform table78
bd_cell S1 w e = rw e
bd_cell S2 w e = rw e
bd_cell S3 w e = rw e
bd_cell S4 w e = rw e
bd_cell S5 w e = rw e
bd_cell S6 w e = rw e

bd_frames : (o : List ℕ) (f : Fop) → f.out.bd ≡ true → (fop_bd o f).frames ≡ BD o ∷ []
unfolding fop_bd fop_do
bd_frames o f b =
    ap (λ (c : Bool). (fop_do (first (when c FopEvent.E21 ∷ []) FopEvent.E22) o 0 f).frames) b ∙ bd_cell f.state (begin (some FopEvent.E21) o 0 f) refl

pub expedites : (set : Settings) (σ : Session) (o : List ℕ) (lent : ℕ) → legal o ≡ true → needed set.own (request_bd o) σ.fop ≤ lent
    → σ.fop.out.bd ≡ true
    → ((step set (bd_request o lent) σ).frames ≡ σ.frames ++ (BD o ∷ [])) × ((step set (bd_request o lent) σ).sent_bd ≡ σ.sent_bd ++ (o ∷ []))
unfolding step step_with work judged answered
expedites set σ o lent g r b =
    let j : judged set.own (request_bd o) ≡ 0 = rw g in
    let f : (fop_bd o σ.fop).frames ≡ BD o ∷ [] = bd_frames o σ.fop b in
    rw (sender_is set (request_bd o) lent σ j r) (rw f, rw f)

bd_handed_out : (s : FarmState) → is_handed (unit_of farm.E6 s) ≡ true
unfolding table accepts_cell
bd_handed_out Open = refl
bd_handed_out Wait = refl
bd_handed_out Lockout = refl

pub accepts_bd_lem : (set : Settings) (σ : Session) (o : List ℕ) (fs : List Frame) → σ.frames ≡ BD o ∷ fs → (step set frame_in σ).accepted_bd
    ≡ σ.accepted_bd ++ (o ∷ [])
unfolding step step_with frame_come receiver frame_event
accepts_bd_lem set σ o fs e =
    ap (λ (l : List Frame). (frame_come set (free set σ) l σ).accepted_bd) e
    ∙ ap (λ (b : Bool). pick b (σ.accepted_bd ++ (o ∷ [])) σ.accepted_bd) (bd_handed_out σ.farm.state)
