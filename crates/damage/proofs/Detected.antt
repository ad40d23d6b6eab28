-- Clauses 8.2 and 8.5, the detecting mode: a codeblock with 1, 2 or 3 wrong bits is bad (`codeblock_detected`), and so is a tail sequence
-- with up to three (`tail_detected`). Both are the codeblock's own laws, at what a CLTU holds.
use mathlib.Core.Path.{◌≡◌, refl}
use mathlib.Core.List.{List}
use Prim.Native.Nat.{ℕ, ◌≤◌}
use lib.ListN.{length}
use Rattle.base.specs.Octets.{Octets}
use Rattle.base.specs.Distance.{wrong_bits}
use Rattle.codeblock.specs.Codeblock.{codeblock_of, bad, judged}
use Rattle.codeblock.specs.declared.Mode.TheVariants.{Detecting}
use Rattle.codeblock.proofs.Codeblock.{octets_codeblock, is_encoding_lem}
use Rattle.codeblock.proofs.Modes.{three_wrong_bad, tail_three_bad}
use Rattle.cltu.specs.Cltu.{tail_sequence}
use Rattle.cltu.proofs.Tail.{octets_tail, tail_syndrome_lem}

pub codeblock_detected : (information block : List ℕ) → length information ≡ 7 → Octets information → length block ≡ 8 → Octets block
    → 1 ≤ wrong_bits (codeblock_of information) block → wrong_bits (codeblock_of information) block ≤ 3 → judged Detecting block ≡ bad
codeblock_detected information block l h lb hb low high =
    three_wrong_bad (codeblock_of information) (is_encoding_lem information l) (octets_codeblock information h) block lb hb low high

pub tail_detected : (block : List ℕ) → length block ≡ 8 → Octets block → wrong_bits tail_sequence block ≤ 3 → judged Detecting block ≡ bad
tail_detected block l h high = tail_three_bad tail_sequence block refl l octets_tail h tail_syndrome_lem high
