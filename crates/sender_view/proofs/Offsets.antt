-- Offsets modulo 256: what they are without a wrap, and what they are of one another within the window. A number is
-- written as NN(R) advanced by its offset from NN(R).
use mathlib.Core.Path.{◌≡◌, refl, sym, ap, ap₂, ◌∙◌}
use mathlib.Core.Bool.{Bool, true, false}
use Prim.Native.Nat.{ℕ, suc, ◌+◌, ◌-◌, ◌≤◌, ◌<◌}
use native.Mathlib.Omega.{arith}
use borrow.Author.Tests.{le-leb, lt-leb, leb-false, leb-true}
use lib.Dec.{leb}
use Rattle.base.specs.Modulo.{advanced, offset}
use Rattle.base.proofs.Modulo.{offset_advanced}

-- without a wrap
pub offset_ge : (v n : ℕ) → n ≤ v → v < 256 → offset v n ≡ v - n
offset_ge v n h k = omega arith

-- one more sent, one more counted
pub offset_up : (v n : ℕ) → n < 255 → v < 256 → offset (advanced v 1) (suc n) ≡ offset v n
offset_up v n a b = omega arith

-- n back, and n on again
pub back_and_on : (v n : ℕ) → n < 256 → v < 256 → advanced (offset v n) n ≡ v
back_and_on v n a b = omega arith

-- two advances are one
pub mod_add : (f g i : ℕ) → advanced (advanced f g) i ≡ advanced f (g + i)
mod_add f g i = omega arith

-- the place n - m after the first of the last n is the first of the last m
pub offset_add : (v n m : ℕ) → m ≤ n → n < 256 → v < 256 → advanced (offset v n) (n - m) ≡ offset v m
offset_add v n m a b c = omega arith

-- a number is as far from n as its offset says
from : (v n : ℕ) → v < 256 → n < 256 → v ≡ advanced n (offset v n)
from v n a b = omega arith

offset_few : (v n : ℕ) → offset v n < 256
offset_few v n = omega arith

-- V(S) - n, for n from NN(R) to V(S)
pub offset_between : (vs nnr n : ℕ) → vs < 256 → nnr < 256 → n < 256 → offset n nnr ≤ offset vs nnr → offset vs n ≡ offset vs nnr - offset n nnr
offset_between vs nnr n a b c h =
    let few : offset vs nnr < offset n nnr + 256 = omega (arith, offset_few vs nnr) in
    ap₂ offset (from vs nnr a b) (from n nnr c b) ∙ offset_advanced nnr (offset vs nnr) (offset n nnr) h few

-- an offset of an offset, within the window
less_far : (n a m : ℕ) → m ≤ a → a < 256 → offset (advanced n a) m ≡ advanced n (a - m)
less_far n a m h k = omega arith

offset_from : (n a : ℕ) → n < 256 → a < 256 → offset (advanced n a) n ≡ a
offset_from n a h k = omega arith

pub offset_of_offset : (vs nnr m : ℕ) → vs < 256 → nnr < 256 → m ≤ offset vs nnr → offset (offset vs m) nnr ≡ offset vs nnr - m
offset_of_offset vs nnr m a b h =
    let few : offset vs nnr - m < 256 = omega (arith, offset_few vs nnr) in
    ap (λ (x : ℕ). offset (offset x m) nnr) (from vs nnr a b)
    ∙ ap (λ (x : ℕ). offset x nnr) (less_far nnr (offset vs nnr) m h (offset_few vs nnr))
    ∙ offset_from nnr (offset vs nnr - m) b few

-- a count passed by g
pub leb_minus : (p g i : ℕ) → leb (p - g) i ≡ leb p (g + i)
leb_minus p g i = by (leb p (g + i)) refl where
  by : (b : Bool) → leb p (g + i) ≡ b → leb (p - g) i ≡ leb p (g + i)
  by true e =
      let h : p - g ≤ i = omega (arith, leb-true p (g + i) e) in
      le-leb (p - g) i h ∙ sym e
  by false e =
      let h : i < p - g = omega (arith, leb-false p (g + i) e) in
      lt-leb (p - g) i h ∙ sym e
