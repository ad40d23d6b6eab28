-- The Sent_Queue: marks, and what a control word acknowledges.
use mathlib.Core.Path.{◌≡◌, refl, ap, ◌∙◌}
use mathlib.Core.Bool.{Bool, true, false}
use mathlib.Core.List.{List, [], ◌∷◌, ◌++◌}
use mathlib.Core.Option.{some}
use Prim.Native.Nat.{ℕ, zero, suc, ◌+◌, ◌-◌, ◌≤◌, ◌<◌}
use native.Mathlib.Omega.{arith}
use lib.Dec.{ltb}
use lib.ListN.{length, take, drop, get_or}
use borrow.Author.Tests.{ltb-true, ltb-false}
use Rattle.base.specs.Choice.{pick}
use Rattle.base.specs.Modulo.{advanced, offset}
use Rattle.fop.specs.Units.{Fdu}
use Rattle.fop.specs.Variables.{Entry}
use Rattle.fop.specs.Machine.{fdus, mark_all, first_marked, unmark, acknowledged, unacknowledged}
use Rattle.session.specs.Session.{no_unit}

-- the queue's units
pub fdus_mark : (q : List Entry) → fdus (mark_all q) ≡ fdus q
fdus_mark [] = refl
fdus_mark (e ∷ q) = ap (◌∷◌ e.fdu) (fdus_mark q)

pub fdus_unmark : (q : List Entry) → fdus (unmark q) ≡ fdus q
fdus_unmark [] = refl
fdus_unmark (e ∷ q) = go (fdus_unmark q) e.marked
  where
    go : fdus (unmark q) ≡ fdus q → (b : Bool) → fdus (pick b (record { fdu = e.fdu; marked = false } ∷ q) (e ∷ unmark q)) ≡ e.fdu ∷ fdus q
    go f true = refl
    go f false = ap (◌∷◌ e.fdu) f

pub fdus_append : (q r : List Entry) → fdus (q ++ r) ≡ fdus q ++ fdus r
fdus_append [] r = refl
fdus_append (e ∷ q) r = ap (◌∷◌ e.fdu) (fdus_append q r)

-- the oldest marked unit stands on the queue
pub found : (q : List Entry) (u : Fdu) → first_marked q ≡ some u → (i : ℕ) × (i < length (fdus q)) × (u ≡ get_or (fdus q) i no_unit)
found [] u h = let z : ◌≡◌ {A = ℕ} 0 1 = cc in absurd (omega arith)
found (e ∷ q) u h = go (found q u) e.marked h
  where
    go : (first_marked q ≡ some u → (i : ℕ) × (i < length (fdus q)) × (u ≡ get_or (fdus q) i no_unit)) → (b : Bool)
        → pick b (some e.fdu) (first_marked q) ≡ some u → (i : ℕ) × (i < length (fdus (e ∷ q))) × (u ≡ get_or (fdus (e ∷ q)) i no_unit)
    go f true h = (0, omega arith, cc)
    go f false h = let r = f h in (suc r.0, omega arith, r.2)

-- what is acknowledged is a first part of a queue numbered from c + j on
pub ack : (n c nn nr : ℕ) → nn ≡ advanced n c → (q : List Entry) (j : ℕ)
    → ((i : ℕ) → i < length (fdus q) → (get_or (fdus q) i no_unit).ns ≡ advanced n (c + (j + i))) → j + length (fdus q) ≤ 255
    → (acknowledged nn nr q ≡ take (offset nr nn - j) (fdus q)) × (fdus (unacknowledged nn nr q) ≡ drop (offset nr nn - j) (fdus q))
ack n c nn nr e [] j h b = (nil_take (offset nr nn - j), nil_drop (offset nr nn - j))
  where
    nil_take : (d : ℕ) → [] ≡ take d (fdus [])
    nil_take zero = refl
    nil_take (suc d) = refl

    nil_drop : (d : ℕ) → [] ≡ drop d (fdus [])
    nil_drop zero = refl
    nil_drop (suc d) = refl
ack n c nn nr e (x ∷ q) j h b =
    go (ack n c nn nr e q (suc j) (λ i l. h (suc i) (omega arith) ∙ ap (λ (y : ℕ). advanced n (c + y)) (omega arith)) (omega arith)) (ltb j (offset nr nn)) refl
  where
    is_j : offset x.fdu.ns nn ≡ j
    is_j = omega (arith, h 0 (omega arith))

    go : (acknowledged nn nr q ≡ take (offset nr nn - suc j) (fdus q)) × (fdus (unacknowledged nn nr q) ≡ drop (offset nr nn - suc j) (fdus q))
        → (t : Bool) → ltb j (offset nr nn) ≡ t
        → (acknowledged nn nr (x ∷ q) ≡ take (offset nr nn - j) (fdus (x ∷ q))) × (fdus (unacknowledged nn nr (x ∷ q)) ≡ drop (offset nr nn - j) (fdus (x ∷ q)))
    go f true t =
        let z : offset nr nn - j ≡ suc (offset nr nn - suc j) = omega (arith, ltb-true j (offset nr nn) t) in
        (rw (is_j, t, z) (ap (◌∷◌ x.fdu) f.0), rw (is_j, t, z) f.1)
    go f false t =
        let l : offset nr nn ≤ j = ltb-false j (offset nr nn) t in
        let z : offset nr nn - j ≡ 0 = omega arith in
        let z' : offset nr nn - suc j ≡ 0 = omega arith in
        (rw (is_j, t, z) (rw z' at f.0), rw (is_j, t, z) (ap (◌∷◌ x.fdu) (rw z' at f.1)))
