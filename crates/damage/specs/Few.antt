-- Document 02, order 3: a CLTU received with few wrong bits in each of its parts, behind its start sequence.
use Rattle.std.specs.Prelude.{ℕ, zero, suc, ◌+◌, ◌*◌, ◌%◌, ◌<◌, ◌≤◌, ◌≡◌, List, length, take, drop, get_or}
use Rattle.base.specs.Choice.{pick}
use Rattle.base.specs.Octets.{Octets, same}
use Rattle.base.specs.Distance.{wrong_bits}
use Rattle.cltu.specs.Cltu.{codeblocks, cltu_of}
use Rattle.damage.specs.Damage.{eight_at}

-- the eight octets with number b
abbrev pub eight : ℕ → List ℕ → List ℕ
eight b body = take 8 (drop (8 * b) body)

-- received behind the start sequence of a frame's CLTU: its codeblocks and its tail, in each at most so many of the 64 bits wrong, and whatever
-- follows
pub record FewWrong (most : ℕ) (frame body : List ℕ) : Type 0 where
  pub whole : 8 * codeblocks (length frame) + 8 ≤ length body
  pub octets : Octets body
  pub few : (b : ℕ) → b ≤ codeblocks (length frame) → wrong_bits (eight_at b (cltu_of frame)) (eight b body) ≤ most

-- the filler bit of each codeblock is as it was sent: the wrong bits are among the first 63
abbrev pub FillerKept : List ℕ → List ℕ → Type 0
FillerKept frame body = (b : ℕ) → b < codeblocks (length frame) → get_or (eight b body) 7 0 % 2 ≡ 0

-- how many of the first n codeblocks are not as they were sent
unfoldable pub changed_in : ℕ → List ℕ → List ℕ → ℕ
changed_in zero sent body = 0
changed_in (suc n) sent body = pick (same (take 8 sent) (take 8 body)) 0 1 + changed_in n (drop 8 sent) (drop 8 body)
