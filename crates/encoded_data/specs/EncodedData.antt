-- Clause 8.3, Encoded Data: the codeblocks of information; and clause 8.7, state S3: the codeblocks at the front of an input, over any judge
-- of codeblocks.
use Rattle.std.specs.Prelude.{ℕ, zero, suc, ◌+◌, ◌*◌, ◌/◌, List, [], ◌++◌, leb, take, drop, Option}
use Rattle.base.specs.Choice.{pick}
use Rattle.codeblock.specs.Codeblock.{codeblock_of, is_good, information_of, corrected_of}
use Rattle.codeblock.specs.declared.Judged.{Judged}

-- clause 8.3, Encoded Data: n codeblocks, of seven octets of information each
unfoldable pub encoded : ℕ → List ℕ → List ℕ
encoded zero information = []
encoded (suc n) information = codeblock_of (take 7 information) ++ encoded n (drop 7 information)

module _ (judge : List ℕ → Option Judged) where
  -- clause 8.7, state S3: how many of n codeblocks are good, from the front up to the first bad one
  unfoldable pub good_run : ℕ → List ℕ → ℕ
  good_run zero input = 0
  good_run (suc n) input = pick (is_good (judge (take 8 input))) (suc (good_run n (drop 8 input))) 0

  -- the information of the first n codeblocks
  unfoldable pub information_in : ℕ → List ℕ → List ℕ
  information_in zero input = []
  information_in (suc n) input = information_of (judge (take 8 input)) ++ information_in n (drop 8 input)

  -- how many of the first n codeblocks were corrected, a bit in each
  unfoldable pub corrected_in : ℕ → List ℕ → ℕ
  corrected_in zero input = 0
  corrected_in (suc n) input = corrected_of (judge (take 8 input)) + corrected_in n (drop 8 input)

-- how many codeblocks are whole in so many octets; none counts where a room is too short for the information of all
abbrev pub whole_in : ℕ → ℕ → ℕ
whole_in octets room = pick (leb (7 * (octets / 8)) room) (octets / 8) 0
