-- What every row keeps of the variables: the flags are those of the state, the counter is below 4 and V(R) below 256 (`sound_step`). The wait flag is
-- set by E2 in Open alone (`waited`), and a release clears it (`released_runs`). Cell by cell.
use mathlib.Core.Path.{◌≡◌, refl, sym, ◌∙◌}
use mathlib.Core.Bool.{Bool, true, false, not}
use mathlib.Core.Logic.{◌⊎◌, inl, inr}
use Prim.Native.Nat.{ℕ, ◌<◌}
use native.Mathlib.Omega.{arith}
use Rattle.base.specs.Choice.{both}
use Rattle.base.proofs.Tests.{apart}
use Rattle.farm.specs.declared.State.{State}
use Rattle.farm.specs.declared.State.TheVariants.{Open, Wait, Lockout}
use Rattle.farm.specs.declared.Event.{Event}
use Rattle.farm.specs.declared.Event.TheVariants.{E1, E2, E3, E4, E5, E6, E7, E8, E9, E10, E11}
use Rattle.farm.specs.declared.Variables.{Variables}
use Rattle.farm.specs.Table.{table, perform, perform_all, step_of}
use Rattle.farm.proofs.Cells.{at, by_state, by_event_lem, e4_keeps, e9_keeps, e11_keeps}

abbrev pub is_lockout : State → Bool
is_lockout Open = false
is_lockout Wait = false
is_lockout Lockout = true

abbrev pub is_wait : State → Bool
is_wait Open = false
is_wait Wait = true
is_wait Lockout = false

pub record Sound (v : Variables) : Type 0 where
  -- the lockout flag is set in Lockout, and only there
  pub lockout : v.lockout ≡ is_lockout v.state
  -- outside Lockout the wait flag is set in Wait, and only there
  pub wait : both (not (is_lockout v.state)) v.wait ≡ is_wait v.state
  -- whoever waits wants a retransmission
  pub retransmit : v.wait ≡ true → v.retransmit ≡ true
  pub counter : v.counter < 4
  pub vr : v.vr < 256

pub made : {s : State} {vr n : ℕ} {l w t : Bool} → l ≡ is_lockout s → both (not (is_lockout s)) w ≡ is_wait s → (w ≡ true → t ≡ true) → n < 4 → vr < 256
    → Sound (record { state = s; vr = vr; lockout = l; wait = w; retransmit = t; counter = n })
made a b c d e = record { lockout = a; wait = b; retransmit = c; counter = d; vr = e }

-- every row keeps it
module _ (star : ℕ) (v : Variables) (u : star < 256) where
  sound_at : (e : Event) (s : State) → Sound (at s v) → Sound (step_of e star (at s v))
  unfolding step_of table perform_all perform
  sound_at E1 Open h = made h.lockout h.wait (λ w. absurd (apart (sym h.wait ∙ w))) h.counter (omega arith)
  sound_at E1 Wait h = h
  sound_at E1 Lockout h = h
  sound_at E2 Open h = made h.lockout refl (λ w. refl) h.counter h.vr
  sound_at E2 Wait h = h
  sound_at E2 Lockout h = h
  sound_at E3 Open h = made h.lockout h.wait (λ w. refl) h.counter h.vr
  sound_at E3 Wait h = h
  sound_at E3 Lockout h = h
  sound_at E5 Open h = made refl refl h.retransmit h.counter h.vr
  sound_at E5 Wait h = made refl refl h.retransmit h.counter h.vr
  sound_at E5 Lockout h = h
  sound_at E6 Open h = made h.lockout h.wait h.retransmit (omega arith) h.vr
  sound_at E6 Wait h = made h.lockout h.wait h.retransmit (omega arith) h.vr
  sound_at E6 Lockout h = made h.lockout h.wait h.retransmit (omega arith) h.vr
  sound_at E7 Open h = made h.lockout h.wait (λ w. absurd (apart (sym h.wait ∙ w))) (omega arith) h.vr
  sound_at E7 Wait h = made h.lockout refl (λ w. absurd (apart w)) (omega arith) h.vr
  sound_at E7 Lockout h = made refl refl (λ w. absurd (apart w)) (omega arith) h.vr
  sound_at E8 Open h = made h.lockout h.wait (λ w. absurd (apart (sym h.wait ∙ w))) (omega arith) u
  sound_at E8 Wait h = made h.lockout refl (λ w. absurd (apart w)) (omega arith) u
  sound_at E8 Lockout h = made h.lockout h.wait h.retransmit (omega arith) h.vr
  sound_at E10 Open h = h
  sound_at E10 Wait h = made h.lockout refl (λ w. absurd (apart w)) h.counter h.vr
  sound_at E10 Lockout h = made h.lockout refl (λ w. absurd (apart w)) h.counter h.vr
  sound_at E4 s h = rw (e4_keeps star (at s v)) h
  sound_at E9 s h = rw (e9_keeps star (at s v)) h
  sound_at E11 s h = rw (e11_keeps star (at s v)) h

  pub sound_step : (e : Event) → Sound v → Sound (step_of e star v)
  sound_step e = sound_at e v.state

-- a wait flag that is set after an event was set before it, or the event is E2 in Open
abbrev pub Waited : ℕ → Variables → Event → State → Type 0
Waited star v e s = (step_of e star (at s v)).wait ≡ true → (v.wait ≡ true) ⊎ ((e ≡ E2) × (s ≡ Open))

pub waited : (star : ℕ) (v : Variables) (e : Event) (s : State) → Waited star v e s
unfolding step_of table perform_all perform
waited star v =
    by_event_lem (λ (e : Event). (s : State) → Waited star v e s)
    (by_state (Waited star v E1) inl inl inl)
    (by_state (Waited star v E2) (λ w. inr (refl, refl)) inl inl)
    (by_state (Waited star v E3) inl inl inl)
    (by_state (Waited star v E4) inl inl inl)
    (by_state (Waited star v E5) inl inl inl)
    (by_state (Waited star v E6) inl inl inl)
    (by_state (Waited star v E7) inl never never)
    (by_state (Waited star v E8) inl never inl)
    (by_state (Waited star v E9) inl inl inl)
    (by_state (Waited star v E10) inl never never)
    (by_state (Waited star v E11) inl inl inl)
  where
    never : {P : Type 0} → false ≡ true → P
    never w = absurd (apart w)

-- in Open nothing waits
pub open_runs : (v : Variables) → Sound v → v.state ≡ Open → v.wait ≡ true → ⊥
open_runs v h p w = apart (sym (rw (p, w) at h.wait))

-- a release clears the wait flag
pub released_runs : (v : Variables) (s : State) → Sound (at s v) → (step_of E10 0 (at s v)).wait ≡ true → ⊥
unfolding step_of table perform_all perform
released_runs v = by_state (λ (s : State). Sound (at s v) → (step_of E10 0 (at s v)).wait ≡ true → ⊥) (λ h w. apart (sym h.wait ∙ w)) (λ h. apart) (λ h. apart)
