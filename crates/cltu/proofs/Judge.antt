-- What the reader's laws ask of a judge of codeblocks, whichever it is, and that the judge has it in either mode.
use mathlib.Core.Path.{◌≡◌, refl, ap₂}
use mathlib.Core.Bool.{true}
use mathlib.Core.List.{List}
use Prim.Native.Nat.{ℕ, zero, suc, ◌+◌}
use lib.ListN.{length, take, drop}
use Rattle.codeblock.specs.Codeblock.{codeblock_of, good, bad, judged, is_good, information_of}
use Rattle.codeblock.specs.declared.Mode.{Mode}
use Rattle.codeblock.specs.declared.Mode.TheVariants.{Detecting}
use Rattle.std.specs.Prelude.{Option}
use Rattle.codeblock.specs.declared.Judged.{Judged}
use Rattle.codeblock.proofs.Codeblock.{judged_codeblock, good_seven, corrects_none}
use Rattle.encoded_data.specs.EncodedData.{corrected_in}
use Rattle.cltu.specs.Cltu.{tail_sequence}
use Rattle.cltu.proofs.Tail.{tail_bad}

-- an encoding is good with nothing corrected, the tail sequence is bad, and what is good has seven octets of information
pub record Judge (judge : List ℕ → Option Judged) : Type 0 where
  pub encoding : (information : List ℕ) → length information ≡ 7 → judge (codeblock_of information) ≡ good information 0
  pub tail : judge tail_sequence ≡ bad
  pub seven : (block : List ℕ) → is_good (judge block) ≡ true → length (information_of (judge block)) ≡ 7

-- the judge in either mode
pub judges : (mode : Mode) → Judge (judged mode)
judges mode = record { encoding = judged_codeblock mode; tail = tail_bad mode; seven = good_seven mode }

-- detecting alone corrects nothing
pub corrected_none : (n : ℕ) (s : List ℕ) → corrected_in (judged Detecting) n s ≡ 0
unfolding corrected_in
corrected_none zero s = refl
corrected_none (suc n) s = ap₂ ◌+◌ (corrects_none (take 8 s)) (corrected_none n (drop 8 s))
