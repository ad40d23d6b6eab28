-- What a match told of the state and of the event picks the cell of the table.
use mathlib.Core.Path.{◌≡◌, refl, sym, ap, ◌∙◌}
use mathlib.Core.Bool.{Bool, false}
use Prim.Native.Nat.{ℕ}
use borrow.Author.Tests.{eqb-false}
use lib.Dec.{eqb}
use Rattle.farm.specs.declared.State.{State}
use Rattle.farm.specs.declared.State.TheVariants.{Open, Wait, Lockout}
use Rattle.farm.specs.declared.Event.{Event}
use Rattle.farm.specs.declared.Event.TheVariants.{E1, E2, E3, E4, E5, E6, E7, E8, E9, E10, E11}
use Rattle.farm.specs.declared.Variables.{Variables}
use Rattle.farm.specs.Table.{event_number, table, perform, perform_all, step_of}

-- the variables in a state
abbrev pub at : State → Variables → Variables
at s v = record { state = s; vr = v.vr; lockout = v.lockout; wait = v.wait; retransmit = v.retransmit; counter = v.counter }

pub told : (e : Event) (star : ℕ) (v x : Variables) (s : State) → v.state ≡ s → x ≡ step_of e star (at s v) → x ≡ step_of e star v
told e star v x s p h = h ∙ ap (λ (t : State). step_of e star (at t v)) (sym p)

-- the variables are themselves in their own state
pub same : (v : Variables) (s : State) → v.state ≡ s → v ≡ at s v
same v s p = ap (λ (t : State). at t v) p

pub ruleset cells = (told, same)

-- what holds in each state holds in every one
pub by_state : (P : State → Type 0) → P Open → P Wait → P Lockout → (s : State) → P s
by_state P a b c Open = a
by_state P a b c Wait = b
by_state P a b c Lockout = c

-- what holds of each event holds of every one
pub by_event_lem : (P : Event → Type 0) → P E1 → P E2 → P E3 → P E4 → P E5 → P E6 → P E7 → P E8 → P E9 → P E10 → P E11 → (e : Event) → P e
by_event_lem P a b c d e f g h i j k E1 = a
by_event_lem P a b c d e f g h i j k E2 = b
by_event_lem P a b c d e f g h i j k E3 = c
by_event_lem P a b c d e f g h i j k E4 = d
by_event_lem P a b c d e f g h i j k E5 = e
by_event_lem P a b c d e f g h i j k E6 = f
by_event_lem P a b c d e f g h i j k E7 = g
by_event_lem P a b c d e f g h i j k E8 = h
by_event_lem P a b c d e f g h i j k E9 = i
by_event_lem P a b c d e f g h i j k E10 = j
by_event_lem P a b c d e f g h i j k E11 = k

-- events are told apart by their numbers
pub differ : {P : Type 0} (e e' : Event) → eqb (event_number e) (event_number e') ≡ false → e ≡ e' → P
differ e e' f p = absurd (eqb-false (event_number e) (event_number e') f (ap event_number p))

-- rows E4, E9 and E11 change nothing
module _ (star : ℕ) (v : Variables) where
  pub e4_keeps : step_of E4 star v ≡ v
  unfolding step_of table perform_all perform
  e4_keeps = by_state (λ (s : State). step_of E4 star (at s v) ≡ at s v) refl refl refl v.state

  pub e9_keeps : step_of E9 star v ≡ v
  unfolding step_of table perform_all perform
  e9_keeps = by_state (λ (s : State). step_of E9 star (at s v) ≡ at s v) refl refl refl v.state

  pub e11_keeps : step_of E11 star v ≡ v
  unfolding step_of table perform_all perform
  e11_keeps = by_state (λ (s : State). step_of E11 star (at s v) ≡ at s v) refl refl refl v.state

-- what a match told of the event picks the row
pub of_event : (e e' : Event) (star : ℕ) (v x : Variables) → e ≡ e' → x ≡ step_of e' star v → x ≡ step_of e star v
of_event e e' star v x p h = h ∙ ap (λ (y : Event). step_of y star v) (sym p)

-- a row's answer, given for V*(R) = 0, is the row's for every V*(R), where it is so in each state
pub row : (e e' : Event) (star : ℕ) (v x : Variables) → e ≡ e' → x ≡ step_of e' 0 v
    → step_of e' 0 (at Open v) ≡ step_of e' star (at Open v)
    → step_of e' 0 (at Wait v) ≡ step_of e' star (at Wait v)
    → step_of e' 0 (at Lockout v) ≡ step_of e' star (at Lockout v)
    → x ≡ step_of e star v
row e e' star v x p h a b d =
    of_event e e' star v x p (h ∙ by_state (λ (s : State). step_of e' 0 (at s v) ≡ step_of e' star (at s v)) a b d v.state)

-- a test of the state, by the state that was told
pub test_told : (test : State → Bool) (s s' : State) (x : Bool) → s ≡ s' → x ≡ test s' → x ≡ test s
test_told test s s' x p h = h ∙ ap test (sym p)
