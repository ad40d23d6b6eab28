-- Refuted by name: wrong judges of the correcting mode, each with a witness on which it differs from the definition; and the premises of
-- the laws on wrong bits are met (`met`).
use mathlib.Core.Path.{◌≡◌, refl, sym, ap, ◌∙◌}
use mathlib.Core.Bool.{true}
use mathlib.Core.List.{List, [], ◌∷◌, ◌++◌}
use Prim.Native.Nat.{ℕ, suc, ◌+◌, ◌*◌, ◌%◌, ◌<◌}
use native.Mathlib.Omega.{arith}
use lib.ListN.{take, get_or, replicate}
use Rattle.base.specs.Octets.{Octets, bits_of, octet_bits}
use Rattle.base.specs.Register.{shift_bit, shift_bits, register}
use Rattle.base.proofs.Lists.{same_not}
use Rattle.base.proofs.Tests.{apart}
use Rattle.std.specs.Prelude.{Option}
use Rattle.codeblock.specs.declared.Judged.{Judged}
use Rattle.codeblock.specs.declared.Mode.TheVariants.{Correcting}
use Rattle.base.specs.Distance.{differing, wrong_bits}
use Rattle.codeblock.specs.Codeblock.{parity, error_control, codeblock_of, syndrome_of, good, flipped, judged, is_good, information_of, corrected_of}
use Rattle.codeblock.proofs.Codeblock.{judged_codeblock, is_encoding_lem}
use Rattle.codeblock.proofs.SingleBits.{tail_syndrome}
use Rattle.codeblock.proofs.Modes.{one_flip_mended, filler_bad, tail_syndrome_bad}

-- the encoding of seven octets 00
abbrev zeros : List ℕ
zeros = replicate 7 0

abbrev sent : List ℕ
sent = codeblock_of zeros

octets_last : (last : ℕ) → last < 256 → Octets (zeros ++ (last ∷ []))
octets_last last h = (omega arith, (omega arith, (omega arith, (omega arith, (omega arith, (omega arith, (omega arith, (h, tt))))))))

octets_sent : Octets sent
unfolding codeblock_of error_control parity register shift_bits shift_bit
octets_sent = octets_last 0xFE (omega arith)

mended : (i : ℕ) → i < 63 → judged Correcting (flipped i sent) ≡ good (take 7 sent) 1
mended = one_flip_mended sent (is_encoding_lem zeros refl) octets_sent

pub met : (wrong_bits sent (flipped 62 sent) ≡ 1) × (get_or (flipped 62 sent) 7 0 % 2 ≡ 0) × (wrong_bits sent (flipped 63 (flipped 0 sent)) ≡ 2)
unfolding wrong_bits differing octet_bits bits_of flipped codeblock_of error_control parity register shift_bits shift_bit
met = (refl, refl, refl)

module _ (judge : List ℕ → Option Judged) (agrees : (block : List ℕ) → judge block ≡ judged Correcting block) where
  -- a judge that does not count a parity bit it corrected
  pub parity_uncounted : ((block : List ℕ) → information_of (judge block) ≡ take 7 block → corrected_of (judge block) ≡ 0) → ⊥
  unfolding flipped codeblock_of
  parity_uncounted uncounted =
      let e : judge (flipped 62 sent) ≡ good (take 7 sent) 1 = agrees (flipped 62 sent) ∙ mended 62 (omega arith) in
      let z : ◌≡◌ {A = ℕ} 1 0 = sym (ap corrected_of e) ∙ uncounted (flipped 62 sent) (ap information_of e) in
      omega arith

  -- one that corrects the bit behind the wrong one
  pub one_place_off : ((i : ℕ) → i < 62 → information_of (judge (flipped i sent)) ≡ take 7 (flipped (suc i) (flipped i sent))) → ⊥
  unfolding flipped codeblock_of
  one_place_off off =
      same_not (take 7 sent) (take 7 (flipped 1 (flipped 0 sent))) refl
      (sym (ap information_of (agrees (flipped 0 sent) ∙ mended 0 (omega arith))) ∙ off 0 (omega arith))

  -- one that does not look at the filler bit
  pub filler_ignored : ((information : List ℕ) (control : ℕ) → judge (information ++ ((control * 2) ∷ [])) ≡ judge (information ++ ((control * 2 + 1) ∷ []))) → ⊥
  unfolding codeblock_of error_control parity register shift_bits shift_bit
  filler_ignored blind =
      apart
      (sym (ap is_good (agrees (zeros ++ (0xFF ∷ [])) ∙ filler_bad Correcting (zeros ++ (0xFF ∷ [])) (octets_last 0xFF (omega arith)) refl))
      ∙ sym (ap is_good (blind zeros 0x7F))
      ∙ ap is_good (agrees (zeros ++ (0xFE ∷ [])) ∙ judged_codeblock Correcting zeros refl))

  -- one that mends the tail sequence's syndrome
  pub tail_mended : ((block : List ℕ) → syndrome_of block ≡ tail_syndrome → is_good (judge block) ≡ true) → ⊥
  unfolding syndrome_of error_control parity register shift_bits shift_bit
  tail_mended mends =
      apart
      (sym (ap is_good (agrees (zeros ++ (0x78 ∷ [])) ∙ tail_syndrome_bad (zeros ++ (0x78 ∷ [])) refl (octets_last 0x78 (omega arith)) Correcting refl))
      ∙ mends (zeros ++ (0x78 ∷ [])) refl)
