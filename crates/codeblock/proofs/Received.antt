-- Document 02, order 3, for the reader: what a received block is judged by the count of its wrong bits. With at most one wrong bit, and not the
-- filler bit, the correcting mode gives the information as it was sent and counts exactly the wrong bits (`one_at_most`). With at most two, in
-- either mode, the block is bad or its information is as it was sent (`two_at_most`). And whatever is good is an encoding but for the bits
-- that were corrected (`good_near`).
use mathlib.Core.Path.{◌≡◌, refl, sym, ap, ◌∙◌}
use mathlib.Core.Bool.{Bool, true, false}
use mathlib.Core.Logic.{◌⊎◌, inl, inr}
use mathlib.Core.List.{List}
use Prim.Native.Nat.{ℕ, zero, suc, ◌%◌, ◌≤◌}
use native.Mathlib.Omega.{arith}
use borrow.Author.Tests.{eqb-true, eqb-false}
use lib.Dec.{eqb}
use lib.ListN.{length, take, get_or}
use Rattle.base.specs.Octets.{Octets}
use Rattle.base.proofs.Tests.{apart}
use Rattle.std.specs.Prelude.{Option}
use Rattle.codeblock.specs.declared.Judged.{Judged}
use Rattle.codeblock.specs.declared.Mode.{Mode}
use Rattle.codeblock.specs.declared.Mode.TheVariants.{Detecting, Correcting}
use Rattle.base.specs.Distance.{wrong_bits}
use Rattle.codeblock.specs.Codeblock.{good, bad, is_encoding, flipped, judged, is_good, corrected_of}
use Rattle.codeblock.proofs.Bits.{self_wrong}
use Rattle.codeblock.proofs.Codeblock.{encoding_length, encoding_judged, of_judged, length_flipped}
use Rattle.codeblock.proofs.Flipped.{octets_flipped, none_flipped, flipped_wrong}
use Rattle.codeblock.proofs.Modes.{one_wrong_mended, two_wrong_bad, three_wrong_bad, filler_bad}

module _ (sent received : List ℕ) (g : is_encoding sent ≡ true) (l : length received ≡ 8) (h : Octets sent) (hr : Octets received) where
  none_good : (mode : Mode) → wrong_bits sent received ≡ 0 → judged mode received ≡ good (take 7 sent) 0
  none_good mode w = ap (judged mode) (none_flipped sent received (encoding_length sent g) l h hr w) ∙ encoding_judged mode sent g

  pub one_at_most : wrong_bits sent received ≤ 1 → get_or received 7 0 % 2 ≡ 0 → judged Correcting received ≡ good (take 7 sent) (wrong_bits sent received)
  one_at_most few f = go (wrong_bits sent received) refl
    where
      go : (n : ℕ) → wrong_bits sent received ≡ n → judged Correcting received ≡ good (take 7 sent) (wrong_bits sent received)
      go zero w = none_good Correcting w ∙ ap (good (take 7 sent)) (sym w)
      go (suc zero) w = one_wrong_mended sent g h received l hr w f ∙ ap (good (take 7 sent)) (sym w)
      go (suc (suc n)) w = absurd (omega arith)

  abbrev BadOrSent : Mode → Type 0
  BadOrSent mode = (judged mode received ≡ bad) ⊎ (judged mode received ≡ good (take 7 sent) (wrong_bits sent received))

  one_wrong : (mode : Mode) → wrong_bits sent received ≡ 1 → BadOrSent mode
  one_wrong Detecting w = inl (three_wrong_bad sent g h received l hr (omega arith) (omega arith))
  one_wrong Correcting w = go (eqb (get_or received 7 0 % 2) 0) refl
    where
      go : (b : Bool) → eqb (get_or received 7 0 % 2) 0 ≡ b → BadOrSent Correcting
      go true t = inr (one_at_most (omega arith) (eqb-true (get_or received 7 0 % 2) 0 t))
      go false t =
          let n : get_or received 7 0 % 2 ≡ 0 → ⊥ = eqb-false (get_or received 7 0 % 2) 0 t in
          inl (filler_bad Correcting received hr (omega arith))

  pub two_at_most : (mode : Mode) → wrong_bits sent received ≤ 2 → BadOrSent mode
  two_at_most mode few = go (wrong_bits sent received) refl
    where
      go : (n : ℕ) → wrong_bits sent received ≡ n → BadOrSent mode
      go zero w = inr (none_good mode w ∙ ap (good (take 7 sent)) (sym w))
      go (suc zero) w = one_wrong mode w
      go (suc (suc zero)) w = inl (two_wrong_bad sent g h received l hr mode w)
      go (suc (suc (suc n))) w = absurd (omega arith)

-- an encoding of which so many bits were corrected, one at the most
abbrev pub NearEncoding : List ℕ → Option Judged → Type 0
NearEncoding block j =
    (sent : List ℕ) × (is_encoding sent ≡ true) × Octets sent × (wrong_bits sent block ≡ corrected_of j) × (corrected_of j ≤ 1)
    × (j ≡ good (take 7 sent) (corrected_of j))

pub good_near : (mode : Mode) (block : List ℕ) → Octets block → is_good (judged mode block) ≡ true → NearEncoding block (judged mode block)
good_near mode block h =
    of_judged block (λ (j : Option Judged). is_good j ≡ true → NearEncoding block j) (λ e. absurd (apart e))
    (λ i k e t. (flipped i block, e, octets_flipped i block h, flipped_wrong i block (omega arith) (sym (length_flipped i block) ∙ encoding_length (flipped i block) e), omega arith, refl))
    (λ e t. (block, e, h, self_wrong block, omega arith, refl)) mode
