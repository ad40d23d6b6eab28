-- Clause 8.4: the randomizer. The bit transition generator is a register of eight bits, the next one out the highest, preset to
-- all ones; h(x) = x^8 + x^6 + x^4 + x^3 + x^2 + x + 1. Figure 8-4 is lost: the direction rests on the 40 bits printed there.
use Rattle.std.specs.Prelude.{ℕ, zero, suc, ◌+◌, ◌*◌, ◌/◌, ◌%◌, List, [], ◌∷◌}
use Rattle.std.specs.Int.Bits.{bit_xor}

-- the bit that h(x) gives after the eight of q: a(n+8) = a(n+6) + a(n+4) + a(n+3) + a(n+2) + a(n+1) + a(n) modulo 2
unfoldable pub next_bit : ℕ → ℕ
next_bit q = (q / 2 % 2 + q / 8 % 2 + q / 16 % 2 + q / 32 % 2 + q / 64 % 2 + q / 128 % 2) % 2

-- the register n bits later
unfoldable pub later : ℕ → ℕ → ℕ
later zero q = q
later (suc n) q = later n (q % 128 * 2 + next_bit q)

-- clause 8.4, Application of the randomizer: the "all-ones" state
abbrev pub all_ones : ℕ
all_ones = 0b1111_1111

-- bit n of the random sequence
unfoldable pub bit : ℕ → ℕ
bit n = later n all_ones / 128

-- octet k of the random sequence: its bits 8k to 8k + 7 (proofs/Recurrence, `octet_bits_lem`)
unfoldable pub octet : ℕ → ℕ
octet k = later (8 * k) all_ones

-- octets exclusive or the sequence from its octet k on
unfoldable pub randomized : ℕ → List ℕ → List ℕ
randomized k [] = []
randomized k (x ∷ xs) = bit_xor x (octet k) ∷ randomized (suc k) xs

-- n octets of the sequence from its octet k on
unfoldable pub sequence_of : ℕ → ℕ → List ℕ
sequence_of zero k = []
sequence_of (suc n) k = octet k ∷ sequence_of n (suc k)
