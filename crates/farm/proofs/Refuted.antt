-- Refuted by name: wrong windows, steps and counts, each with a witness on which it differs from the definitions.
use mathlib.Core.Path.{◌≡◌, refl, sym, ap, ◌∙◌}
use mathlib.Core.Bool.{Bool, true, false}
use mathlib.Core.List.{List}
use Prim.Native.Nat.{ℕ, ◌+◌, ◌-◌, ◌/◌, ◌%◌, ◌<◌}
use native.Mathlib.Omega.{arith}
use lib.Dec.{leb, ltb, eqb}
use Rattle.base.specs.Choice.{pick, both}
use Rattle.base.specs.Modulo.{offset}
use Rattle.base.proofs.Tests.{apart}
use Rattle.farm.specs.declared.State.{State}
use Rattle.farm.specs.declared.State.TheVariants.{Open, Wait, Lockout}
use Rattle.farm.specs.declared.Event.{Event}
use Rattle.farm.specs.declared.Event.TheVariants.{E1, E2, E3, E4, E5, E6, E7, E8, E10}
use Rattle.farm.specs.declared.Variables.{Variables}
use Rattle.farm.specs.Table.{table, perform, perform_all, step_of}
use Rattle.farm.specs.Window.{not_wait, ad_event}
use Rattle.farm.proofs.Cells.{differ}
use Rattle.farm.proofs.Facts.{run, counted, counter_counts, lockout_left}

-- N(S) and V(R) compared as plain numbers
abbrev plain_event : ℕ → State → Bool → ℕ → ℕ → Event
plain_event window s room ns vr =
    pick (eqb ns vr) (pick (both room (not_wait s)) E1 E2)
    (pick (both (ltb vr ns) (leb ns (vr + window / 2 - 1))) E3
    (pick (both (ltb ns vr) (leb (vr - window / 2) ns)) E4 E5))

pub plain_numbers : ((window : ℕ) (s : State) (room : Bool) (ns vr : ℕ) → plain_event window s room ns vr ≡ ad_event window s room (offset ns vr)) → ⊥
unfolding ad_event
plain_numbers agrees = differ E5 E3 refl (agrees 20 Open true 2 250)

-- a positive window that ends at V(R) + PW
pub window_end : (event : ℕ → State → Bool → ℕ → ℕ → Event)
    → ((window : ℕ) (s : State) (room : Bool) (vr : ℕ) → event window s room ((vr + window / 2) % 256) vr ≡ E3)
    → ((window : ℕ) (s : State) (room : Bool) (ns vr : ℕ) → event window s room ns vr ≡ ad_event window s room (offset ns vr)) → ⊥
unfolding ad_event
window_end event late agrees = differ E5 E3 refl (sym (agrees 20 Open true 4 250) ∙ late 20 Open true 250)

-- variables with the lockout and wait flags as the state has them
abbrev in_state_lem : State → Bool → Bool → Variables
in_state_lem s lockout waiting = record { state = s; vr = 0; lockout = lockout; wait = waiting; retransmit = waiting; counter = 0 }

open_lockout : Open ≡ Lockout → ⊥
open_lockout e =
    let z : ◌≡◌ {A = ℕ} 0 1 = cc in
    omega arith

-- wrong steps
module _ (step : Event → ℕ → Variables → Variables) (agrees : (e : Event) (star : ℕ) (v : Variables) → step e star v ≡ step_of e star v) where
  -- a release that clears the retransmit flag
  pub release_clears_retransmit : ((star : ℕ) (v : Variables) → (step E10 star v).retransmit ≡ false) → ⊥
  unfolding step_of table perform_all perform
  release_clears_retransmit clears =
      apart (sym (clears 0 (in_state_lem Wait false true)) ∙ ap (λ (v : Variables). v.retransmit) (agrees E10 0 (in_state_lem Wait false true)))

  -- a Set V(R) that opens a receiver in Lockout
  pub set_vr_leaves_lockout : ((star : ℕ) (v : Variables) → v.state ≡ Lockout → (step E8 star v).state ≡ Open) → ⊥
  set_vr_leaves_lockout leaves =
      let v = in_state_lem Lockout true false in
      differ E8 E7 refl (lockout_left E8 0 v refl (λ p. open_lockout (sym (leaves 0 v refl) ∙ ap (λ (w : Variables). w.state) (agrees E8 0 v) ∙ p)))

  -- a FARM-B counter that does not count a BD frame
  pub counter_stands : ((star : ℕ) (v : Variables) → (step E6 star v).counter ≡ v.counter) → ⊥
  unfolding step_of table perform_all perform
  counter_stands stands =
      let z : ◌≡◌ {A = ℕ} 1 0 = sym (ap (λ (v : Variables). v.counter) (agrees E6 0 (in_state_lem Open false false))) ∙ stands 0 (in_state_lem Open false false) in
      omega arith

-- a FARM-B count that is made up: at some list of events not the number of E6, E7 and E8, modulo 4
pub made_up_count : (count : List (Event × ℕ) → Variables → ℕ) (l : List (Event × ℕ)) (v : Variables) → v.counter < 4
    → (count l v ≡ (v.counter + counted l) % 4 → ⊥) → ((m : List (Event × ℕ)) (w : Variables) → count m w ≡ (run m w).counter) → ⊥
made_up_count count l v h other agrees = other (agrees l v ∙ counter_counts l v h)
