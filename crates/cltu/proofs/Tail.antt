-- Document 02, order 3: the tail sequence is bad in both modes, also with its filler bit cleared, and with any two of its 64 bits wrong.
use mathlib.Core.Path.{◌≡◌, refl, ◌∙◌}
use mathlib.Core.List.{List}
use Prim.Native.Nat.{ℕ, ◌+◌, ◌≤◌}
use native.Mathlib.Omega.{arith}
use lib.ListN.{length}
use Rattle.base.specs.Octets.{Octets, bits_of, octet_bits}
use Rattle.base.specs.Register.{shift_bit, shift_bits, register}
use Rattle.codeblock.specs.declared.Mode.{Mode}
use Rattle.base.specs.Distance.{differing, wrong_bits}
use Rattle.codeblock.specs.Codeblock.{parity, error_control, syndrome_of, bad, flipped, judged}
use Rattle.codeblock.proofs.Bits.{self_wrong}
use Rattle.codeblock.proofs.Codeblock.{length_flipped}
use Rattle.codeblock.proofs.Flipped.{octets_flipped, flipped_more}
use Rattle.codeblock.proofs.SingleBits.{tail_syndrome}
use Rattle.codeblock.proofs.Modes.{tail_two_bad}
use Rattle.cltu.specs.Cltu.{tail_sequence}

pub octets_tail : Octets tail_sequence
octets_tail = (omega arith, (omega arith, (omega arith, (omega arith, (omega arith, (omega arith, (omega arith, (omega arith, tt))))))))

-- its parity bits differ from those of its information by 67, and its filler bit is one
pub tail_syndrome_lem : syndrome_of tail_sequence ≡ tail_syndrome + 1
unfolding syndrome_of error_control parity register shift_bits shift_bit
tail_syndrome_lem = refl

pub tail_wrong_bad : (mode : Mode) (received : List ℕ) → length received ≡ 8 → Octets received → wrong_bits tail_sequence received ≤ 2 → judged mode received ≡ bad
tail_wrong_bad mode received l h few = tail_two_bad tail_sequence received refl l octets_tail h tail_syndrome_lem mode few

-- with any two of its bits inverted
pub tail_flipped_bad : (mode : Mode) (i j : ℕ) → judged mode (flipped j (flipped i tail_sequence)) ≡ bad
tail_flipped_bad mode i j =
    let once = flipped i tail_sequence in
    let h : Octets once = octets_flipped i tail_sequence octets_tail in
    let l : length once ≡ 8 = length_flipped i tail_sequence in
    tail_wrong_bad mode (flipped j once) (length_flipped j once ∙ l) (octets_flipped j once h)
    (omega (arith, self_wrong tail_sequence, flipped_more i tail_sequence tail_sequence refl octets_tail octets_tail, flipped_more j tail_sequence once l h octets_tail))

-- as it was sent, and with its filler bit cleared
pub tail_bad : (mode : Mode) → judged mode tail_sequence ≡ bad
unfolding wrong_bits differing octet_bits bits_of
tail_bad mode = tail_wrong_bad mode tail_sequence refl octets_tail (omega arith)

pub tail_cleared_bad : (mode : Mode) → judged mode (flipped 63 tail_sequence) ≡ bad
unfolding wrong_bits differing octet_bits bits_of flipped
tail_cleared_bad mode = tail_wrong_bad mode (flipped 63 tail_sequence) refl (octets_flipped 63 tail_sequence octets_tail) (omega arith)
