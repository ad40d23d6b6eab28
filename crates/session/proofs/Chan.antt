-- The channels: which frames and words can be under way.
use mathlib.Core.Path.{◌≡◌, sym, ◌∙◌}
use mathlib.Core.Bool.{true}
use mathlib.Core.List.{List, [], ◌∷◌, ◌++◌}
use Prim.Native.Nat.{ℕ, suc, ◌+◌, ◌≤◌, ◌<◌, max}
use native.Mathlib.Omega.{arith}
use lib.ListN.{length, get_or, length-append, get_or-append}
use Rattle.base.specs.Modulo.{advanced}
use Rattle.fop.specs.Units.{Fdu, Frame, AD, BD, Unlock, SetVR, Refused, Word, legal}
use Rattle.session.specs.Session.{no_unit}

-- each AD frame under way is a unit sent, at a place i; H is the count accepted, or one more than a place ahead, whichever is most
abbrev pub Fly : ℕ → List Fdu → ℕ → ℕ → List Frame → Type 0
Fly K s A H [] = Unit {0}
Fly K s A H (AD u ∷ fs) =
    (i : ℕ) × (u ≡ get_or s i no_unit) × (i < length s) × (H ≤ i + K) × (i < A + K) × Fly K s A (max H (suc i)) fs
Fly K s A H (BD o ∷ fs) = (legal o ≡ true) × Fly K s A H fs
Fly K s A H (Unlock ∷ fs) = ⊥
Fly K s A H (SetVR v ∷ fs) = ⊥
Fly K s A H (Refused r ∷ fs) = ⊥

-- more is accepted
pub fly_mono : (K : ℕ) (s : List Fdu) (A B G H : ℕ) (fs : List Frame) → A ≤ B → G ≤ H → Fly K s A H fs → Fly K s B G fs
fly_mono K s A B G H [] a g h = tt
fly_mono K s A B G H (AD u ∷ fs) a g h =
    (h.0, h.1, h.2, omega arith, omega arith, fly_mono K s A B (max G (suc h.0)) (max H (suc h.0)) fs a (omega arith) h.5)
fly_mono K s A B G H (BD o ∷ fs) a g h = (h.0, fly_mono K s A B G H fs a g h.1)
fly_mono K s A B G H (Unlock ∷ fs) a g h = h
fly_mono K s A B G H (SetVR v ∷ fs) a g h = h
fly_mono K s A B G H (Refused r ∷ fs) a g h = h

-- more units are sent
pub fly_more : (K : ℕ) (s t : List Fdu) (A H : ℕ) (fs : List Frame) → Fly K s A H fs → Fly K (s ++ t) A H fs
fly_more K s t A H [] h = tt
fly_more K s t A H (AD u ∷ fs) h = (
  h.0,
  h.1 ∙ sym (get_or-append s t no_unit h.0 h.2),
  omega (arith, length-append s t),
  h.3,
  h.4,
  fly_more K s t A (max H (suc h.0)) fs h.5,
)
fly_more K s t A H (BD o ∷ fs) h = (h.0, fly_more K s t A H fs h.1)
fly_more K s t A H (Unlock ∷ fs) h = h
fly_more K s t A H (SetVR v ∷ fs) h = h
fly_more K s t A H (Refused r ∷ fs) h = h

-- one more frame enters
pub fly_add : (K : ℕ) (s : List Fdu) (A H : ℕ) (fs : List Frame) (u : Fdu) (i : ℕ) → u ≡ get_or s i no_unit → i < length s → H ≤ length s
    → length s ≤ i + K → i < A + K → Fly K s A H fs → Fly K s A H (fs ++ (AD u ∷ []))
fly_add K s A H [] u i e b g r k h = (i, e, b, omega arith, k, tt)
fly_add K s A H (AD v ∷ fs) u i e b g r k h =
    (h.0, h.1, h.2, h.3, h.4, fly_add K s A (max H (suc h.0)) fs u i e b (omega arith) r k h.5)
fly_add K s A H (BD o ∷ fs) u i e b g r k h = (h.0, fly_add K s A H fs u i e b g r k h.1)
fly_add K s A H (Unlock ∷ fs) u i e b g r k h = h
fly_add K s A H (SetVR v ∷ fs) u i e b g r k h = h
fly_add K s A H (Refused x ∷ fs) u i e b g r k h = h

-- a BD frame enters
pub fly_bd : (K : ℕ) (s : List Fdu) (A H : ℕ) (fs : List Frame) (o : List ℕ) → legal o ≡ true → Fly K s A H fs → Fly K s A H (fs ++ (BD o ∷ []))
fly_bd K s A H [] o l h = (l, tt)
fly_bd K s A H (AD v ∷ fs) o l h = (h.0, h.1, h.2, h.3, h.4, fly_bd K s A (max H (suc h.0)) fs o l h.5)
fly_bd K s A H (BD p ∷ fs) o l h = (h.0, fly_bd K s A H fs o l h.1)
fly_bd K s A H (Unlock ∷ fs) o l h = h
fly_bd K s A H (SetVR v ∷ fs) o l h = h
fly_bd K s A H (Refused r ∷ fs) o l h = h

-- the words under way report counts accepted, from lo on, in order, up to hi
abbrev pub Wds : ℕ → ℕ → ℕ → List Word → Type 0
Wds n lo hi [] = lo ≤ hi
Wds n lo hi (w ∷ ws) = (a : ℕ) × (w.nr ≡ advanced n a) × (lo ≤ a) × (w.counter ≤ 3) × Wds n a hi ws

-- the bounds are in order
pub wds_le : (n lo hi : ℕ) (ws : List Word) → Wds n lo hi ws → lo ≤ hi
wds_le n lo hi [] h = h
wds_le n lo hi (w ∷ ws) h = omega (arith, wds_le n h.0 hi ws h.4)

-- a lower first bound, and a higher last one
pub wds_lower : (n lo lo' hi : ℕ) (ws : List Word) → lo' ≤ lo → Wds n lo hi ws → Wds n lo' hi ws
wds_lower n lo lo' hi [] g h = omega arith
wds_lower n lo lo' hi (w ∷ ws) g h = (h.0, h.1, omega arith, h.3, h.4)

pub wds_higher : (n lo hi hi' : ℕ) (ws : List Word) → hi ≤ hi' → Wds n lo hi ws → Wds n lo hi' ws
wds_higher n lo hi hi' [] g h = omega arith
wds_higher n lo hi hi' (w ∷ ws) g h = (h.0, h.1, h.2, h.3, wds_higher n h.0 hi hi' ws g h.4)

-- one more word, which reports the last bound
pub wds_add : (n lo hi : ℕ) (ws : List Word) (w : Word) → w.nr ≡ advanced n hi → w.counter ≤ 3 → Wds n lo hi ws → Wds n lo hi (ws ++ (w ∷ []))
wds_add n lo hi [] w e c h = (hi, e, h, c, omega arith)
wds_add n lo hi (v ∷ ws) w e c h = (h.0, h.1, h.2, h.3, wds_add n h.0 hi ws w e c h.4)
