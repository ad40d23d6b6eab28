-- Clauses 8.3, 8.6 and 8.7, and document 01, "Codeblock and CLTU": the CLTU of a frame, and the reading of a CLTU.
use Rattle.std.specs.Prelude.{ℕ, ◌+◌, ◌-◌, ◌*◌, ◌/◌, List, [], ◌∷◌, ◌++◌, ltb, leb, length, drop, replicate, Option}
use Rattle.base.specs.Choice.{must}
use Rattle.base.specs.Limits.{smallest_frame, largest_frame, largest_input}
use Rattle.base.specs.Outcome.{Outcome, Outcome.done, Outcome.refused}
use Rattle.codeblock.specs.Codeblock.{judged}
use Rattle.codeblock.specs.declared.Mode.{Mode}
use Rattle.codeblock.specs.declared.Judged.{Judged}
use Rattle.encoded_data.specs.EncodedData.{encoded, good_run, information_in, corrected_in}
use Rattle.randomizer.specs.Randomizer.{randomized}
use Rattle.start_sequence.specs.StartSequence.{start_sequence, start_of}

-- clause 8.3, Tail Sequence
abbrev pub tail_sequence : List ℕ
tail_sequence = 0xC5 ∷ 0xC5 ∷ 0xC5 ∷ 0xC5 ∷ 0xC5 ∷ 0xC5 ∷ 0xC5 ∷ 0x79 ∷ []

-- how many codeblocks n octets take: n / 7, rounded up
abbrev pub codeblocks : ℕ → ℕ
codeblocks n = (n + 6) / 7

-- clause 8.6: the fill of the last codeblock, alternating zeros and ones, a zero first
abbrev pub fill_octet : ℕ
fill_octet = 0b0101_0101

-- the frame with its fill, a whole number of codeblocks
unfoldable pub filled : List ℕ → List ℕ
filled frame = frame ++ replicate (7 * codeblocks (length frame) - length frame) fill_octet

-- clause 8.4: the information, fill included, is randomized before it is encoded; the error control field is not
unfoldable pub information_for : List ℕ → List ℕ
information_for frame = randomized 0 (filled frame)

-- clause 8.3: the CLTU of a frame
unfoldable pub cltu_of : List ℕ → List ℕ
cltu_of frame = start_sequence ++ encoded (codeblocks (length frame)) (information_for frame) ++ tail_sequence

-- document 01: the exact need of a frame of n octets
abbrev pub need : ℕ → ℕ
need n = 2 + 8 * codeblocks n + 8

-- writing the CLTU of a frame into a room of so many octets, which tells nothing more than the count
unfoldable pub writing : List ℕ → ℕ → Outcome (Unit {0})
writing frame room =
    must (leb smallest_frame (length frame)) (refused 10 0)
    (must (leb (length frame) largest_frame) (refused 10 0)
    (must (leb (need (length frame)) room) (refused 11 0)
    (done (cltu_of frame) tt)))

-- what a reading tells besides the octets: the offset of the bad codeblock, and how many codeblocks were corrected
pub record Found : Type 0 where
  pub place : ℕ
  pub corrected : ℕ

-- clause 8.7, over any judge of codeblocks
module _ (judge : List ℕ → Option Judged) where
  -- reading on after the start sequence, where the rest of the input stands at an offset and n of its codeblocks are good:
  -- 3 where none of its whole codeblocks is bad, 2 where the first is, then 11
  unfoldable pub reading_run : ℕ → List ℕ → ℕ → ℕ → Outcome Found
  reading_run offset input room n =
      must (ltb n (length input / 8)) (refused 3 (offset + 8 * n))
      (must (ltb 0 n) (refused 2 offset)
      (must (leb (7 * n) room) (refused 11 0)
      (done (randomized 0 (information_in judge n input)) (record { place = offset + 8 * n; corrected = corrected_in judge n input }))))

  -- reading on, with the count of good codeblocks that the rest has
  abbrev pub reading_after : ℕ → List ℕ → ℕ → Outcome Found
  reading_after offset input room = reading_run offset input room (good_run judge (length input / 8) input)

  -- document 01: reading a CLTU out of lent input into a room of so many octets: 10, 1, then 2 or 3, then 11
  unfoldable pub reading_by : List ℕ → ℕ → Outcome Found
  reading_by input room =
      must (leb (length input) largest_input) (refused 10 0)
      (must (ltb (start_of input) (length input)) (refused 1 (length input))
      (reading_after (start_of input + 2) (drop (start_of input + 2) input) room))

-- document 02, order 3: reading in the chosen mode; "Refusals 2 and 3 and everything that calls the reader follow the chosen mode"
abbrev pub reading : Mode → List ℕ → ℕ → Outcome Found
reading mode = reading_by (judged mode)
