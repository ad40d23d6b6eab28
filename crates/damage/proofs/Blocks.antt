-- Codeblocks one by one, by any judge: what n of them tell together, where it is known of each. Their information is the front of what was sent
-- (`information_sent`), and the corrected ones are those that changed (`corrected_sent`).
use mathlib.Core.Path.{◌≡◌, refl, sym, ap, ap₂, ◌∙◌}
use mathlib.Core.List.{List, ◌++◌}
use Prim.Native.Nat.{ℕ, zero, suc, ◌+◌, ◌*◌, ◌<◌, ◌≤◌}
use native.Mathlib.Nat.{mul-suc}
use native.Mathlib.Omega.{arith}
use lib.ListN.{length, take, drop, length-drop}
use lib.Seq.{take-add, drop-drop}
use Rattle.base.specs.Choice.{pick}
use Rattle.base.specs.Octets.{same}
use Rattle.std.specs.Prelude.{Option}
use Rattle.codeblock.specs.declared.Judged.{Judged}
use Rattle.codeblock.specs.Codeblock.{information_of, corrected_of}
use Rattle.encoded_data.specs.EncodedData.{information_in, corrected_in}
use Rattle.damage.specs.Few.{eight, changed_in}

-- octets from place n on, k octets further on
pub later : (n k j : ℕ) (s : List ℕ) → k + n ≡ j → take k (drop n (drop k s)) ≡ take k (drop j s)
later n k j s e = ap (take k) (drop-drop n k s ∙ ap (λ (i : ℕ). drop i s) e)

next : (b : ℕ) (s : List ℕ) → eight b (drop 8 s) ≡ eight (suc b) s
next b s = later (8 * b) 8 (8 * suc b) s (omega (arith, mul-suc 8 b))

module _ (judge : List ℕ → Option Judged) where
  pub information_sent : (m : ℕ) (information s : List ℕ) → 7 * m ≤ length information
      → ((b : ℕ) → b < m → information_of (judge (eight b s)) ≡ take 7 (drop (7 * b) information)) → information_in judge m s ≡ take (7 * m) information
  unfolding information_in
  information_sent zero information s l h = refl
  information_sent (suc m) information s l h =
      let e : 7 + 7 * m ≡ 7 * suc m = omega (arith, mul-suc 7 m) in
      ap₂ (λ (x y : List ℕ). x ++ y) (h 0 (omega arith))
      (information_sent m (drop 7 information) (drop 8 s) (simp length-drop (omega arith)) (λ b k.
      ap (λ (x : List ℕ). information_of (judge x)) (next b s)
      ∙ h (suc b) (omega arith)
      ∙ sym (later (7 * b) 7 (7 * suc b) information (omega (arith, mul-suc 7 b)))))
      ∙ sym (take-add 7 (7 * m) information)
      ∙ ap (λ (j : ℕ). take j information) e

  pub corrected_sent : (m : ℕ) (sent s : List ℕ) → ((b : ℕ) → b < m → corrected_of (judge (eight b s)) ≡ pick (same (eight b sent) (eight b s)) 0 1)
      → corrected_in judge m s ≡ changed_in m sent s
  unfolding corrected_in changed_in
  corrected_sent zero sent s h = refl
  corrected_sent (suc m) sent s h =
      ap₂ (λ (x y : ℕ). x + y) (h 0 (omega arith))
      (corrected_sent m (drop 8 sent) (drop 8 s) (λ b k.
      ap (λ (x : List ℕ). corrected_of (judge x)) (next b s)
      ∙ h (suc b) (omega arith)
      ∙ ap₂ (λ (x y : List ℕ). pick (same x y) 0 1) (sym (next b sent)) (sym (next b s))))
