-- Document 02, order 13: "Codeblocks go by table". What the entries of the tables are, and what the number of a wrong bit tells.
use Rattle.std.specs.Prelude.{◌≡◌, List, ◌∷◌, ℕ, zero, suc, ◌*◌, ◌/◌, ◌%◌, ◌<◌, eqb, take, get_or, replicate, Option, Some, None}
use Rattle.base.specs.Choice.{pick}
use Rattle.codeblock.specs.declared.Judged.{Judged}
use Rattle.codeblock.specs.Codeblock.{parity, codeblock_of, syndrome_of, flipped, good, bad}

-- clause 8.5: the share of an octet with n octets behind it in the error control octet: the parity check bits of this octet with zeros behind it, where they
-- stand there
unfoldable pub share_of : ℕ → ℕ → ℕ
share_of n octet = parity (octet ∷ replicate n 0) * 2

-- two tables of 256 entries, one behind the other: entry i of table n is the share of octet i with n octets behind it
pub record ShareTable (table : List ℕ) : Type 0 where
  pub rule : (i : ℕ) → i < 512 → get_or table i 0 ≡ share_of (i / 256) (i % 256)

-- clause 8.8: the syndrome of a codeblock in which bit i alone is wrong
unfoldable pub single_syndrome : ℕ → ℕ
single_syndrome i = syndrome_of (flipped i (codeblock_of (replicate 7 0)))

-- where no bit gives a syndrome: a number that none of the 63 bits has
abbrev pub no_bit : ℕ
no_bit = 64

-- of the n bits from bit i on, the first that alone gives the syndrome
unfoldable pub bit_for : ℕ → ℕ → ℕ → ℕ
bit_for zero i syndrome = no_bit
bit_for (suc n) i syndrome = pick (eqb (single_syndrome i) syndrome) i (bit_for n (suc i) syndrome)

-- the table of 128 entries: entry i is the bit, of the first 63, for the syndrome whose seven parity bits are i
pub record BitTable (table : List ℕ) : Type 0 where
  pub rule : (i : ℕ) → i < 128 → get_or table i 0 ≡ bit_for 63 0 (i * 2)

-- the bit of a number, if it is one
abbrev pub numbered : ℕ → Option ℕ
numbered bit = pick (eqb bit no_bit) None (Some bit)

-- document 02, order 3, "that bit is corrected and counted": octets with the wrong bit inverted, where there is one
abbrev pub righted : Option ℕ → List ℕ → List ℕ
righted None octets = octets
righted (Some bit) octets = flipped bit octets

-- and how many bits are corrected
abbrev pub corrections : Option ℕ → ℕ
corrections None = 0
corrections (Some bit) = 1

-- the judgement by the wrong bit: of a good codeblock it is known whether there is one
abbrev pub judged_by : Option (Option ℕ) → List ℕ → Option Judged
judged_by None block = bad
judged_by (Some wrong) block = good (take 7 (righted wrong block)) (corrections wrong)
