-- The flags' invariant: the words under way have rising keys, and the receiver's flags go with its state.
use mathlib.Core.Path.{◌≡◌}
use mathlib.Core.Bool.{Bool, true, false}
use mathlib.Core.List.{List, [], ◌∷◌, ◌++◌}
use Prim.Native.Nat.{ℕ, ◌+◌, ◌*◌, ◌≤◌}
use native.Mathlib.Omega.{arith}
use lib.ListN.{length}
use Rattle.base.specs.Modulo.{advanced}
use Rattle.fop.specs.Units.{Word}
use Rattle.fop.specs.declared.State.{State}
use Rattle.fop.specs.declared.State.TheVariants.{S1, S2, S3, S4, S5, S6}
use Rattle.fop.specs.Effective.{effective}
use Rattle.session.proofs.Core.{Session, report}
use Rattle.farm.specs.declared.State.{State as FarmState}
use Rattle.farm.specs.declared.State.TheVariants.{Open, Wait, Lockout}
use Rattle.farm.specs.declared.Variables.{Variables}

abbrev pub bit : Bool → ℕ
bit true = 1
bit false = 0

pub bit_le : (b : Bool) → bit b ≤ 1
bit_le true = omega arith
bit_le false = omega arith

-- 1 where the sender is resending
abbrev pub rank : State → ℕ
rank S1 = 0
rank S2 = 1
rank S3 = 1
rank S4 = 0
rank S5 = 0
rank S6 = 0

pub rank_le : (s : State) → rank s ≤ 1
rank_le S1 = omega arith
rank_le S2 = omega arith
rank_le S3 = omega arith
rank_le S4 = omega arith
rank_le S5 = omega arith
rank_le S6 = omega arith

abbrev pub floor : State → ℕ → ℕ
floor s C = 2 * C + rank s

-- 1 where the receiver waits
abbrev pub waits : FarmState → ℕ
waits Open = 0
waits Wait = 1
waits Lockout = 1

-- the words under way have rising keys: twice the count reported, and one more with the retransmit flag
abbrev pub Keys : ℕ → ℕ → ℕ → ℕ → List Word → Type 0
Keys n S lo hi [] = lo ≤ hi
Keys n S lo hi (w ∷ ws) =
    (a : ℕ) × (w.nr ≡ advanced n a) × (lo ≤ 2 * a + bit w.retransmit) × (w.lockout ≡ false) × (bit w.wait ≤ bit w.retransmit)
    × (a + bit w.retransmit ≤ S) × Keys n S (2 * a + bit w.retransmit) hi ws

pub keys_le : (n S lo hi : ℕ) (ws : List Word) → Keys n S lo hi ws → lo ≤ hi
keys_le n S lo hi [] h = h
keys_le n S lo hi (w ∷ ws) h = omega (arith, h.2, keys_le n S (2 * h.0 + bit w.retransmit) hi ws h.6)

-- the session goes on: more is sent, the receiver's key rises, what is awaited falls
pub keys_mono : (n S S' lo lo' hi hi' : ℕ) (ws : List Word) → S ≤ S' → lo' ≤ lo → hi ≤ hi' → Keys n S lo hi ws → Keys n S' lo' hi' ws
keys_mono n S S' lo lo' hi hi' [] s l t h = omega arith
keys_mono n S S' lo lo' hi hi' (w ∷ ws) s l t h =
    (h.0, h.1, omega (arith, h.2), h.3, h.4, omega (arith, h.5), keys_mono n S S' (2 * h.0 + bit w.retransmit) (2 * h.0 + bit w.retransmit) hi hi' ws s (omega arith) t h.6)

pub keys_add : (n S lo A : ℕ) (v : Variables) (ws : List Word) → v.vr ≡ advanced n A → v.lockout ≡ false → bit v.wait ≤ bit v.retransmit
    → A + bit v.retransmit ≤ S → Keys n S lo (2 * A + bit v.retransmit) ws
    → Keys n S lo (2 * A + bit v.retransmit) (ws ++ (report v ∷ []))
unfolding report
keys_add n S lo A v [] e l w r h = (A, e, h, l, w, r, omega arith)
keys_add n S lo A v (x ∷ ws) e l w r h = (h.0, h.1, h.2, h.3, h.4, h.5, keys_add n S (2 * h.0 + bit x.retransmit) A v ws e l w r h.6)

pub record Tidy (n : ℕ) (σ : Session) : Type 0 where
  pub keys : Keys n (length σ.sent) (floor (effective σ.fop) (length σ.confirmed)) (2 * length σ.accepted + bit σ.farm.retransmit) σ.words
  pub wait_flag : bit σ.farm.wait ≤ waits σ.farm.state
  pub wait_missing : waits σ.farm.state ≤ bit σ.farm.retransmit
  pub missing : length σ.accepted + bit σ.farm.retransmit ≤ length σ.sent
  pub below : floor (effective σ.fop) (length σ.confirmed) ≤ 2 * length σ.sent
