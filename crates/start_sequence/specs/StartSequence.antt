-- Clause 8.3, Start Sequence, document 01, "Codeblock and CLTU", and document 02, order 2: where it stands in an input.
use Rattle.std.specs.Prelude.{ℕ, suc, ◌≤◌, ◌≡◌, Bool, List, [], ◌∷◌, eqb, leb, length, take}
use Rattle.base.specs.Choice.{pick, both}
use Rattle.base.specs.Octets.{Octets, octet_bits}
use Rattle.base.specs.Distance.{differing, wrong_bits}

-- clause 8.3, Start Sequence
abbrev pub start_sequence : List ℕ
start_sequence = 0xEB ∷ 0x90 ∷ []

-- Document 01: "the start sequence is sixteen bits equal to EB 90, at an octet boundary; the first one counts". Document 02, order 2,
-- amends it: "So the first place at an octet boundary that differs from EB 90 in at most one bit counts." Clause 8.3: "a bit sequence that
-- matches the Start Sequence bit pattern with a one bit error shall be recognized as a Start Sequence."

-- bits that are recognized: sixteen, of which at most one differs
unfoldable pub recognized : List ℕ → Bool
recognized bits = both (eqb (length bits) 16) (leb (differing (octet_bits start_sequence) bits) 1)

-- they stand at the front, an octet boundary
unfoldable pub starts : List ℕ → Bool
starts input = recognized (octet_bits (take 2 input))

-- the offset of the first place where they do, or the length where there is none
unfoldable pub start_of : List ℕ → ℕ
start_of [] = 0
start_of (x ∷ xs) = pick (starts (x ∷ xs)) 0 (suc (start_of xs))

-- two octets received for a start sequence, at most one bit of them wrong
pub record Received (octets : List ℕ) : Type 0 where
  pub two : length octets ≡ 2
  pub within : Octets octets
  pub near : wrong_bits start_sequence octets ≤ 1
