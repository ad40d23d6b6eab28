-- Clauses 8.2, 8.5 and 8.8: the BCH codeblock. 56 information bits, 7 parity bits, each complemented, and a filler bit zero; and the
-- judgement of a received one, in the detecting mode or in the correcting one.
use Rattle.std.specs.Prelude.{ℕ, zero, suc, ◌+◌, ◌-◌, ◌*◌, ◌/◌, ◌%◌, ◌^◌, Bool, true, false, List, [], ◌∷◌, ◌++◌, take, get_or, set, replicate, Option, Some, None}
use Rattle.std.specs.Int.Bits.{bit_xor}
use Rattle.base.specs.Choice.{pick}
use Rattle.base.specs.Octets.{same}
use Rattle.base.specs.Register.{register}
use Rattle.codeblock.specs.declared.Judged.{Judged}
use Rattle.codeblock.specs.declared.Mode.{Mode}
use Rattle.codeblock.specs.declared.Mode.TheVariants.{Detecting, Correcting}

-- clause 8.5: g(x) = x^7 + x^6 + x^2 + 1, less its highest term
abbrev pub generator : ℕ
generator = 0b100_0101

-- clause 8.5: the parity check bits, the shift register initialized to zero. They are the remainder of the information
-- times x^7 by g(x): proofs/Parity, `parity_remainder` and `parity_only`.
unfoldable pub parity : List ℕ → ℕ
parity information = register 6 generator 0 information

-- clause 8.2, Filler Bit: bit 63, always zero
abbrev pub filler_bit : ℕ
filler_bit = 0

-- clause 8.2, Error Control: the complements of the seven parity check bits, then the filler bit
unfoldable pub error_control : List ℕ → ℕ
error_control information = bit_xor (parity information) 0b111_1111 * 2 + filler_bit

-- clause 8.2, General: the encoding of seven octets of information
unfoldable pub codeblock_of : List ℕ → List ℕ
codeblock_of information = information ++ (error_control information ∷ [])

-- the syndrome of a received codeblock: in which bits its last octet differs from the error control octet of its first seven
unfoldable pub syndrome_of : List ℕ → ℕ
syndrome_of block = bit_xor (get_or block 7 0) (error_control (take 7 block))

-- a received codeblock that is good, with its information and how many of its bits were corrected (at most one)
abbrev pub good : List ℕ → ℕ → Option Judged
good information corrected = Some (record { information = information; corrected = corrected })

-- and one that is bad: nothing of it is used
abbrev pub bad : Option Judged
bad = None

-- document 01, "Codeblock and CLTU": "all 64 bits equal the encoding of its first 56"
unfoldable pub is_encoding : List ℕ → Bool
is_encoding block = same block (codeblock_of (take 7 block))

-- the block with its bit i of 64 inverted, the most significant of the first octet being bit 0
unfoldable pub flipped : ℕ → List ℕ → List ℕ
flipped i block = set block (i / 8) (bit_xor (get_or block (i / 8) 0) (2 ^ (7 - i % 8)))

-- document 02, order 3: "One bit away: that bit is corrected and counted, including a parity bit. Neither: the block is bad." Of the n bits
-- from bit i on, the first whose inversion makes the block an encoding is corrected; where there is none, the block is bad. No two bits would
-- do: proofs/Modes, `one_correction`.
unfoldable pub mended : ℕ → ℕ → List ℕ → Option Judged
mended zero i block = bad
mended (suc n) i block = pick (is_encoding (flipped i block)) (good (take 7 (flipped i block)) 1) (mended n (suc i) block)

-- a block that is no encoding, by the mode. Clause 8.8: the error-detecting mode, and the error-correcting mode, in which "one bit in error is
-- corrected and two bits in error are detected". Document 02, order 3: "The first 63 bits, parity complemented back, are good, or one bit away
-- from a good word, or neither"; so one of these 63 is mended. "A filler bit of one is bad in both modes": bit 63 is not among them (proofs/Modes,
-- `filler_bad`).
unfoldable pub otherwise : Mode → List ℕ → Option Judged
otherwise Detecting block = bad
otherwise Correcting block = mended 63 0 block

-- the judgement of a received codeblock, in either mode
unfoldable pub judged : Mode → List ℕ → Option Judged
judged mode block = pick (is_encoding block) (good (take 7 block) 0) (otherwise mode block)

-- clause 8.7, state S3: a codeblock is good or bad
abbrev pub is_good : Option Judged → Bool
is_good (Some j) = true
is_good None = false

-- its information, and how many of its bits were corrected; of a bad one zeros
abbrev pub information_of : Option Judged → List ℕ
information_of (Some j) = j.information
information_of None = replicate 7 0

abbrev pub corrected_of : Option Judged → ℕ
corrected_of (Some j) = j.corrected
corrected_of None = 0
