-- The refusals of the table machines, and that what is refused keeps the state.
use mathlib.Core.Logic.{◌⊎◌, inl, inr, ◌≢◌}
use mathlib.Core.Path.{◌≡◌, refl, sym, ◌∙◌}
use mathlib.Core.Bool.{Bool, true, false}
use Prim.Native.Nat.{ℕ, ◌+◌}
use native.Mathlib.Omega.{arith}
use lib.Dec.{leb, ltb, eqb}
use borrow.Author.Tests.{eqb-true}
use Rattle.base.specs.Choice.{pick}
use Rattle.fop.specs.Units.{Own}
use Rattle.fop.specs.Variables.{Fop}
use Rattle.fop.specs.Events.{SenderEvent}
use Rattle.fop.specs.Answers.{Answer, sender_refusal, sender_answer, sender_next}
use Rattle.session.specs.Stronger.{RefusedKeeps}
use Rattle.fop.proofs.Choices.{by_pick}
use Rattle.session.proofs.Receiver.{at}
use Rattle.base.specs.Choice.{must}
use Rattle.std.specs.Prelude.{Some, Ok, Err}
use Rattle.std.specs.Prelude as code
use Rattle.base.specs.Refusals.{optional_number}
use Rattle.base.specs.declared.Refusal.{Refusal}
use Rattle.base.specs.declared.Refusal.TheVariants.{Release}
use Rattle.frame.specs.Answers.{FrameReading, reading_of}
use Rattle.farm.specs.Table.{table, step_of, perform, perform_all}
use Rattle.receiver.specs.Channel as channel
use Rattle.receiver.specs.Receiver as farm
use Rattle.farm.specs.declared.State.{State as FarmState}
use Rattle.farm.specs.declared.State.TheVariants.{Open, Wait, Lockout}
use Rattle.farm.specs.declared.Event.TheVariants.{E9}
use Rattle.farm.specs.declared.Variables.{Variables}
use Rattle.receiver.specs.declared.Receiver.{Receiver}
use Rattle.receiver.specs.declared.Received.{Received}
use Rattle.session.specs.Receiver as rcv
use Rattle.session.specs.Receiver.{ReceiverEvent, frame_arrives, release_buffer, receiver_next, release_answer, receiver_answer}

pub refusal_is : (own : Own) (e : SenderEvent) (lent : ℕ) (f : Fop) → (sender_answer own e lent f).refusal ≡ sender_refusal own e lent f
unfolding sender_answer
refusal_is own e lent f =
    by_pick (λ (a : Answer). a.refusal ≡ sender_refusal own e lent f) (eqb (sender_refusal own e lent f) 0) (λ z. sym (eqb-true _ 0 z)) (λ z. refl)

abbrev pub Mild : ℕ → Type 0
Mild r = (r ≡ 0) ⊎ ((r ≡ 10) ⊎ (r ≡ 11))

pub mild : (j need lent : ℕ) → (j ≡ 0) ⊎ (j ≡ 10) → Mild (pick (eqb j 0) (pick (leb need lent) 0 11) j)
mild j need lent (inl e) = rw e (by_pick Mild (leb need lent) (λ t. inl refl) (λ t. inr (inr refl)))
mild j need lent (inr e) = rw e (inr (inl refl))

-- E9 keeps the variables
e9_at : (v : Variables) (s : FarmState) → step_of E9 0 (at s v) ≡ at s v
unfolding step_of table perform_all perform
e9_at v Open = refl
e9_at v Wait = refl
e9_at v Lockout = refl

-- and the receiver
pub e9 : (n : code.Option Refusal) (r : Receiver) → (farm.answered n E9 0 r).next ≡ r
unfolding farm.answered channel.answered
e9 n r =
    let c = r.farm.channel in
    let z : c.held + 0 ≡ c.held = omega arith in
    rw (z, e9_at c.variables c.variables.state)

pub refused_keeps : (own : Own) → RefusedKeeps own
unfolding sender_next receiver_next receiver_answer farm.receive_of farm.by_reading farm.arrived farm.answered channel.answered farm.release_of
refused_keeps own =
    record {
      sender = λ e lent f h.
          by_pick (λ (g : Fop). g ≡ f) (eqb (sender_refusal own e lent f) 0) (λ z. absurd (h (refusal_is own e lent f ∙ eqb-true _ 0 z))) (λ z. refl);
      receiver = kept_r;
    }
  where
    by_reading_lem : (x : FrameReading) (r : Receiver) → optional_number (farm.by_reading r x).refusal ≢ 0 → (farm.by_reading r x).next ≡ r
    by_reading_lem (Ok fields) r h = absurd (h refl)
    by_reading_lem (Err refusal) r h = e9 (Some refusal) r

    by_held : (b : Bool) (r : Receiver) (x : Received) → optional_number x.refusal ≡ 0 → (release_answer (must b (Err Release) (Ok x))).refusal ≢ 0
        → rcv.after_release (must b (Err Release) (Ok x)) r ≡ r
    by_held true r x e h = absurd (h e)
    by_held false r x e h = refl

    kept_r : (e : ReceiverEvent) (r : Receiver) → (receiver_answer e r).refusal ≢ 0 → receiver_next e r ≡ r
    kept_r (frame_arrives s) r h = by_reading_lem (reading_of s r.farm.spacecraft r.farm.channel.number) r h
    kept_r release_buffer r h = by_held (ltb 0 r.farm.channel.held) r _ refl h
