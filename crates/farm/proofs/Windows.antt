-- Document 01's windows: the events of an AD frame are exclusive and complete, each with its condition on d; and its three windows
-- W = 20, W = 2 and W = 254.
use mathlib.Core.Path.{◌≡◌, refl, sym, ◌∙◌}
use mathlib.Core.Logic.{◌⊎◌, inl, inr, ◌↔◌, ⊎_elim}
use mathlib.Core.Bool.{Bool, true, false}
use Prim.Native.Nat.{ℕ, ◌+◌, ◌-◌, ◌/◌, ◌<◌, ◌≤◌}
use native.Mathlib.Omega.{arith}
use borrow.Author.Tests.{eqb-true, eqb-false, ltb-true, ltb-false, leb-true, leb-false, lt-ltb, le-ltb, le-leb, lt-leb, ne_eqb}
use lib.Dec.{leb, ltb, eqb}
use Rattle.base.specs.Choice.{pick, both}
use Rattle.base.specs.Modulo.{offset}
use Rattle.base.proofs.Tests.{both_left, both_true}
use Rattle.farm.specs.declared.State.{State}
use Rattle.farm.specs.declared.State.TheVariants.{Open}
use Rattle.farm.specs.declared.Event.{Event}
use Rattle.farm.specs.declared.Event.TheVariants.{E1, E2, E3, E4, E5}
use Rattle.farm.specs.Window.{not_wait, ad_event}
use Rattle.farm.proofs.Cells.{differ}

-- the condition of each event, in document 01's words: PW = NW = W / 2; d is below 256
pub data Case (window : ℕ) (s : State) (room : Bool) (d : ℕ) : Event → Type 0 where
  -- d = 0 with a free buffer, and without
  expected : d ≡ 0 → both room (not_wait s) ≡ true → Case window s room d E1
  stopped : d ≡ 0 → both room (not_wait s) ≡ false → Case window s room d E2
  -- 1 to PW - 1
  ahead : 1 ≤ d → d ≤ window / 2 - 1 → Case window s room d E3
  -- 256 - NW on
  behind : 256 - window / 2 ≤ d → Case window s room d E4
  -- all else
  outside : window / 2 ≤ d → d < 256 - window / 2 → Case window s room d E5

module _ (window : ℕ) (s : State) (room : Bool) (d : ℕ) where
  -- complete: every frame has a case
  pub case_of : Case window s room d (ad_event window s room d)
  unfolding ad_event
  case_of = go (eqb d 0) (both room (not_wait s)) (ltb d (window / 2)) (leb 256 (d + window / 2)) refl refl refl refl
    where
      go : (a b c e : Bool) → eqb d 0 ≡ a → both room (not_wait s) ≡ b → ltb d (window / 2) ≡ c → leb 256 (d + window / 2) ≡ e
          → Case window s room d (pick a (pick b E1 E2) (pick c E3 (pick e E4 E5)))
      go true true c e p q r t = expected (eqb-true d 0 p) q
      go true false c e p q r t = stopped (eqb-true d 0 p) q
      go false b true e p q r t = ahead (omega (arith, eqb-false d 0 p)) (omega (arith, ltb-true d (window / 2) r))
      go false b false true p q r t = behind (omega (arith, leb-true 256 (d + window / 2) t))
      go false b false false p q r t = outside (ltb-false d (window / 2) r) (omega (arith, leb-false 256 (d + window / 2) t))

  -- exclusive: each condition gives its event
  pub event_of_lem : 2 ≤ window → window ≤ 254 → {e : Event} → Case window s room d e → ad_event window s room d ≡ e
  unfolding ad_event
  event_of_lem l k (expected p q) = rw (p, q)
  event_of_lem l k (stopped p q) = rw (p, q)
  event_of_lem l k (ahead p q) = rw (ne_eqb d 0 (λ z. omega arith), lt-ltb d (window / 2) (omega arith))
  event_of_lem l k (behind p) = rw (ne_eqb d 0 (λ z. omega arith), le-ltb d (window / 2) (omega arith), le-leb 256 (d + window / 2) (omega arith))
  event_of_lem l k (outside p q) = rw (ne_eqb d 0 (λ z. omega arith), le-ltb d (window / 2) (omega arith), lt-leb 256 (d + window / 2) (omega arith))

  -- so exactly one
  pub exclusive : 2 ≤ window → window ≤ 254 → {e e' : Event} → Case window s room d e → Case window s room d e' → e ≡ e'
  exclusive l k c c' = sym (event_of_lem l k c) ∙ event_of_lem l k c'

-- an expected frame is E1 only where there is room, and in Open E2 only where there is none
pub e1_room : (window : ℕ) (s : State) (room : Bool) (d : ℕ) → ad_event window s room d ≡ E1 → room ≡ true
e1_room window s room d = go (case_of window s room d)
  where
    go : {e : Event} → Case window s room d e → e ≡ E1 → room ≡ true
    go (expected p q) x = both_left room (not_wait s) q
    go (stopped p q) x = differ E2 E1 refl x
    go (ahead p q) x = differ E3 E1 refl x
    go (behind p) x = differ E4 E1 refl x
    go (outside p q) x = differ E5 E1 refl x

pub e2_full : (window : ℕ) (room : Bool) (d : ℕ) → ad_event window Open room d ≡ E2 → room ≡ false
e2_full window room d = go (case_of window Open room d)
  where
    go : {e : Event} → Case window Open room d e → e ≡ E2 → room ≡ false
    go (expected p q) x = differ E1 E2 refl x
    go (stopped p q) x = sym (both_true room) ∙ q
    go (ahead p q) x = differ E3 E2 refl x
    go (behind p) x = differ E4 E2 refl x
    go (outside p q) x = differ E5 E2 refl x

-- W = 2: nothing is E3
pub no_e3_at_two : (s : State) (room : Bool) (d : ℕ) → ad_event 2 s room d ≡ E3 → ⊥
no_e3_at_two s room d = go (case_of 2 s room d)
  where
    go : {e : Event} → Case 2 s room d e → e ≡ E3 → ⊥
    go (expected p q) x = differ E1 E3 refl x
    go (stopped p q) x = differ E2 E3 refl x
    go (ahead p q) x = omega arith
    go (behind p) x = differ E4 E3 refl x
    go (outside p q) x = differ E5 E3 refl x

-- W = 254: only d = 127 and 128 are E5
pub e5_at_254 : (s : State) (room : Bool) (d : ℕ) → (ad_event 254 s room d ≡ E5) ↔ ((d ≡ 127) ⊎ (d ≡ 128))
e5_at_254 s room d = (
  go (case_of 254 s room d),
  ⊎_elim (λ p. event_of_lem 254 s room d (omega arith) (omega arith) (outside (omega arith) (omega arith)))
      (λ p. event_of_lem 254 s room d (omega arith) (omega arith) (outside (omega arith) (omega arith))),
)
  where
    two : (b : Bool) → eqb d 127 ≡ b → 127 ≤ d → d < 129 → (d ≡ 127) ⊎ (d ≡ 128)
    two true x p q = inl (eqb-true d 127 x)
    two false x p q = inr (omega (arith, eqb-false d 127 x))

    go : {e : Event} → Case 254 s room d e → e ≡ E5 → (d ≡ 127) ⊎ (d ≡ 128)
    go (expected p q) x = differ E1 E5 refl x
    go (stopped p q) x = differ E2 E5 refl x
    go (ahead p q) x = differ E3 E5 refl x
    go (behind p) x = differ E4 E5 refl x
    go (outside p q) x = two (eqb d 127) refl (omega arith) (omega arith)

-- W = 20, V(R) = 250
pub record Worked (s : State) (room : Bool) (ns : ℕ) : Type 0 where
  pub here : ns ≡ 250 → ad_event 20 s room (offset ns 250) ≡ pick (both room (not_wait s)) E1 E2
  -- 251 to 255 and 0 to 3
  pub above : 251 ≤ ns → ns ≤ 255 → ad_event 20 s room (offset ns 250) ≡ E3
  pub wrapped : ns ≤ 3 → ad_event 20 s room (offset ns 250) ≡ E3
  -- 240 to 249
  pub below : 240 ≤ ns → ns ≤ 249 → ad_event 20 s room (offset ns 250) ≡ E4
  -- 4 to 239
  pub far : 4 ≤ ns → ns ≤ 239 → ad_event 20 s room (offset ns 250) ≡ E5

pub worked : (s : State) (room : Bool) (ns : ℕ) → Worked s room ns
unfolding ad_event
worked s room ns = record {
  here = λ p. rw p;
  above = λ l k. by (ahead (omega arith) (omega arith));
  wrapped = λ k. by (ahead (omega arith) (omega arith));
  below = λ l k. by (behind (omega arith));
  far = λ l k. by (outside (omega arith) (omega arith));
}
  where
    by : {e : Event} → Case 20 s room (offset ns 250) e → ad_event 20 s room (offset ns 250) ≡ e
    by = event_of_lem 20 s room (offset ns 250) (omega arith) (omega arith)
