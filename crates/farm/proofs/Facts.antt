-- Theorems on the table: what the FARM-B counter and V(R) count over any list of events; and which rows leave Lockout and touch the
-- retransmit flag.
use mathlib.Core.Path.{◌≡◌, refl, ap, ◌∙◌}
use mathlib.Core.List.{List, [], ◌∷◌}
use Prim.Native.Nat.{ℕ, ◌+◌, ◌%◌, ◌<◌}
use native.Mathlib.Omega.{arith}
use Rattle.base.specs.Modulo.{advanced}
use Rattle.farm.specs.declared.State.{State}
use Rattle.farm.specs.declared.State.TheVariants.{Open, Wait, Lockout}
use Rattle.farm.specs.declared.Event.{Event}
use Rattle.farm.specs.declared.Event.TheVariants.{E1, E2, E3, E4, E5, E6, E7, E8, E9, E10, E11}
use Rattle.farm.specs.declared.Variables.{Variables}
use Rattle.farm.specs.Table.{table, perform, perform_all, step_of}
use Rattle.farm.proofs.Cells.{at, by_state, by_event_lem}

-- a run of events, each with its V*(R)
abbrev pub run : List (Event × ℕ) → Variables → Variables
run [] v = v
run (x ∷ xs) v = run xs (step_of x.0 x.1 v)

-- the frames that the FARM-B counter counts: E6, E7 and E8
abbrev pub counts : Event → ℕ
counts E1 = 0
counts E2 = 0
counts E3 = 0
counts E4 = 0
counts E5 = 0
counts E6 = 1
counts E7 = 1
counts E8 = 1
counts E9 = 0
counts E10 = 0
counts E11 = 0

abbrev pub counted : List (Event × ℕ) → ℕ
counted [] = 0
counted (x ∷ xs) = counts x.0 + counted xs

module _ (star : ℕ) (v : Variables) (small : v.counter < 4) where
  abbrev Counts : Event → State → Type 0
  Counts e s = (step_of e star (at s v)).counter ≡ (v.counter + counts e) % 4

  same : v.counter ≡ (v.counter + 0) % 4
  same = omega arith

  counter_step : (e : Event) (s : State) → Counts e s
  unfolding step_of table perform_all perform
  counter_step =
      by_event_lem (λ (e : Event). (s : State) → Counts e s)
      (by_state (Counts E1) same same same)
      (by_state (Counts E2) same same same)
      (by_state (Counts E3) same same same)
      (by_state (Counts E4) same same same)
      (by_state (Counts E5) same same same)
      (by_state (Counts E6) refl refl refl)
      (by_state (Counts E7) refl refl refl)
      (by_state (Counts E8) refl refl refl)
      (by_state (Counts E9) same same same)
      (by_state (Counts E10) same same same)
      (by_state (Counts E11) same same same)

pub counter_counts : (l : List (Event × ℕ)) (v : Variables) → v.counter < 4 → (run l v).counter ≡ (v.counter + counted l) % 4
counter_counts [] v h = omega arith
counter_counts (x ∷ xs) v h =
    let e = counter_step x.1 v h x.0 v.state in
    let i = counter_counts xs (step_of x.0 x.1 v) (omega arith) in
    omega arith

-- what V(R) was last set to, and the E1 accepted since: from the events and the states alone
abbrev pub since : Event → ℕ → State → ℕ × ℕ → ℕ × ℕ
since E1 star Open p = (p.0, p.1 + 1)
since E1 star Wait p = p
since E1 star Lockout p = p
since E2 star s p = p
since E3 star s p = p
since E4 star s p = p
since E5 star s p = p
since E6 star s p = p
since E7 star s p = p
since E8 star Open p = (star, 0)
since E8 star Wait p = (star, 0)
since E8 star Lockout p = p
since E9 star s p = p
since E10 star s p = p
since E11 star s p = p

abbrev pub last_set : List (Event × ℕ) → State → ℕ × ℕ → ℕ × ℕ
last_set [] s p = p
last_set (x ∷ xs) s p = last_set xs (table x.0 s).next (since x.0 x.1 s p)

-- every V*(R) is an octet
abbrev pub Stars : List (Event × ℕ) → Type 0
Stars [] = Unit {0}
Stars (x ∷ xs) = (x.1 < 256) × Stars xs

module _ (star : ℕ) (v : Variables) (p : ℕ × ℕ) (small : star < 256) (h : v.vr ≡ advanced p.0 p.1) where
  abbrev Shows : Event → State → Type 0
  Shows e s = (step_of e star (at s v)).vr ≡ advanced (since e star s p).0 (since e star s p).1

  vr_step : (e : Event) (s : State) → Shows e s
  unfolding step_of table perform_all perform
  vr_step =
      by_event_lem (λ (e : Event). (s : State) → Shows e s)
      (by_state (Shows E1) (omega arith) h h)
      (by_state (Shows E2) h h h)
      (by_state (Shows E3) h h h)
      (by_state (Shows E4) h h h)
      (by_state (Shows E5) h h h)
      (by_state (Shows E6) h h h)
      (by_state (Shows E7) h h h)
      (by_state (Shows E8) (omega arith) (omega arith) h)
      (by_state (Shows E9) h h h)
      (by_state (Shows E10) h h h)
      (by_state (Shows E11) h h h)

shows : (l : List (Event × ℕ)) (v : Variables) (p : ℕ × ℕ) → Stars l → v.vr ≡ advanced p.0 p.1
    → (run l v).vr ≡ advanced (last_set l v.state p).0 (last_set l v.state p).1
unfolding step_of
shows [] v p s h = h
shows (x ∷ xs) v p s h = shows xs (step_of x.0 x.1 v) (since x.0 x.1 v.state p) s.1 (vr_step x.1 v p s.0 h x.0 v.state)

pub vr_counts : (l : List (Event × ℕ)) (v : Variables) → Stars l → v.vr < 256
    → (run l v).vr ≡ advanced (last_set l v.state (v.vr, 0)).0 (last_set l v.state (v.vr, 0)).1
vr_counts l v s h = shows l v (v.vr, 0) s (omega arith)

-- only an Unlock leaves Lockout
pub lockout_left : (e : Event) (star : ℕ) (v : Variables) → v.state ≡ Lockout → ((step_of e star v).state ≡ Lockout → ⊥) → e ≡ E7
unfolding step_of table
lockout_left e star v p h =
    by_event_lem (λ (x : Event). ((table x Lockout).next ≡ Lockout → ⊥) → x ≡ E7)
    stays stays stays stays stays stays (λ k. refl) stays stays stays stays e (λ q. h (ap (λ (s : State). (table e s).next) p ∙ q))
  where
    stays : {P : Type 0} → (Lockout ≡ Lockout → ⊥) → P
    stays k = absurd (k refl)

-- a release keeps the retransmit flag
pub release_keeps_retransmit : (star : ℕ) (v : Variables) → (step_of E10 star v).retransmit ≡ v.retransmit
unfolding step_of table perform_all perform
release_keeps_retransmit star v = by_state (λ (s : State). (step_of E10 star (at s v)).retransmit ≡ v.retransmit) refl refl refl v.state
