-- What is written reads back, by any judge: the frame and its fill, and the tail's offset as the place, wherever the CLTU stands
-- behind octets that hold no start sequence, whatever follows it and whatever the room (`read_back`). Of the judge only these are used: an
-- encoding is good with nothing corrected, and the tail sequence is bad; of the start sequence only that reading goes on behind it
-- (`reading_started`).
use mathlib.Core.Path.{◌≡◌, refl, ap, ap₂, ◌∙◌}
use mathlib.Core.List.{List, [], ◌∷◌, ◌++◌, append_assoc}
use Prim.Native.Nat.{ℕ, zero, suc, ◌+◌, ◌*◌, ◌/◌, ◌<◌, ◌≤◌}
use native.Mathlib.Nat.{mul-suc, not-suc-le-zero}
use native.Mathlib.Omega.{arith}
use borrow.Author.Tests.{le-leb, lt-leb, lt-ltb}
use lib.Dec.{leb}
use lib.ListN.{length, take, drop, length-append, length-take, length-drop, take-append-drop}
use lib.Seq.{take_at, drop_at}
use Rattle.base.specs.Choice.{pick, must}
use Rattle.base.specs.Outcome.{Outcome.done, Outcome.refused}
use Rattle.base.specs.Limits.{largest_input}
use Rattle.codeblock.specs.Codeblock.{codeblock_of, good, is_good, information_of, corrected_of}
use Rattle.codeblock.specs.declared.Mode.{Mode}
use Rattle.std.specs.Prelude.{Option}
use Rattle.codeblock.specs.declared.Judged.{Judged}
use Rattle.randomizer.specs.Randomizer.{randomized}
use Rattle.randomizer.proofs.Randomized.{randomized_twice}
use Rattle.start_sequence.specs.StartSequence.{start_sequence, start_of}
use Rattle.start_sequence.proofs.Search.{sequence_received}
use Rattle.encoded_data.specs.EncodedData.{encoded, good_run, information_in, corrected_in}
use Rattle.encoded_data.proofs.Encoded.{length_block, length_encoded}
use Rattle.cltu.specs.Cltu.{codeblocks, filled, information_for, cltu_of, tail_sequence, reading_run, reading_by, reading}
use Rattle.cltu.proofs.Judge.{Judge, judges}
use Rattle.cltu.proofs.Places.{length_information}
use Rattle.cltu.proofs.Outcomes.{length_started, reading_started}

-- the first of the codeblocks, and the rest
module _ (n : ℕ) (information t : List ℕ) (h : 7 * suc n ≤ length information) where
  seven : length (take 7 information) ≡ 7
  seven = simp length-take (omega (arith, mul-suc 7 n))

  pub first_block : take 8 (encoded (suc n) information ++ t) ≡ codeblock_of (take 7 information)
  unfolding encoded
  first_block = rw append_assoc (take_at (codeblock_of (take 7 information)) (encoded n (drop 7 information) ++ t) 8 (length_block information n h))

  pub other_blocks : drop 8 (encoded (suc n) information ++ t) ≡ encoded n (drop 7 information) ++ t
  unfolding encoded
  other_blocks = rw append_assoc (drop_at (codeblock_of (take 7 information)) (encoded n (drop 7 information) ++ t) 8 (length_block information n h))

  first_judged : {judge : List ℕ → Option Judged} → Judge judge → judge (take 8 (encoded (suc n) information ++ t)) ≡ good (take 7 information) 0
  first_judged {judge} laws = ap judge first_block ∙ laws.encoding (take 7 information) seven

  fewer : 7 * n ≤ length (drop 7 information)
  fewer = simp length-drop (omega (arith, mul-suc 7 n))

module _ {judge : List ℕ → Option Judged} (laws : Judge judge) where
  run_encoded : (n m : ℕ) (information behind : List ℕ) → 7 * n ≤ length information → n < m
      → good_run judge m (encoded n information ++ (tail_sequence ++ behind)) ≡ n
  unfolding good_run encoded
  run_encoded n zero information behind h l = absurd (not-suc-le-zero l)
  run_encoded zero (suc m) information behind h l = ap (λ (j : Option Judged). pick (is_good j) (suc (good_run judge m behind)) 0) laws.tail
  run_encoded (suc n) (suc m) information behind h l =
      ap₂ (λ (j : Option Judged) (k : ℕ). pick (is_good j) (suc k) 0)
      (first_judged n information (tail_sequence ++ behind) h laws)
      (ap (good_run judge m) (other_blocks n information (tail_sequence ++ behind) h)
      ∙ run_encoded n m (drop 7 information) behind (fewer n information (tail_sequence ++ behind) h) (omega arith))

  information_encoded : (n : ℕ) (information t : List ℕ) → length information ≡ 7 * n → information_in judge n (encoded n information ++ t) ≡ information
  unfolding information_in
  information_encoded zero [] t e = refl
  information_encoded zero (x ∷ xs) t e = absurd (omega arith)
  information_encoded (suc n) information t e =
      ap₂ (λ (j : Option Judged) (l : List ℕ). information_of j ++ l)
      (first_judged n information t (omega arith) laws)
      (ap (information_in judge n) (other_blocks n information t (omega arith)) ∙ information_encoded n (drop 7 information) t (simp length-drop (omega (arith, mul-suc 7 n))))
      ∙ take-append-drop 7 information

  corrected_encoded : (n : ℕ) (information t : List ℕ) → length information ≡ 7 * n → corrected_in judge n (encoded n information ++ t) ≡ 0
  unfolding corrected_in
  corrected_encoded zero information t e = refl
  corrected_encoded (suc n) information t e =
      ap₂ (λ (j : Option Judged) (k : ℕ). corrected_of j + k)
      (first_judged n information t (omega arith) laws)
      (ap (corrected_in judge n) (other_blocks n information t (omega arith)) ∙ corrected_encoded n (drop 7 information) t (simp length-drop (omega (arith, mul-suc 7 n))))

-- a frame of any length that fits, so every frame of smallest_frame to largest_frame octets
module _ (before frame behind : List ℕ) (room : ℕ) where
  abbrev input : List ℕ
  input = before ++ (cltu_of frame ++ behind)

  -- the codeblocks, the tail and what follows
  abbrev body : List ℕ
  body = encoded (codeblocks (length frame)) (information_for frame) ++ (tail_sequence ++ behind)

  input_is : input ≡ before ++ (start_sequence ++ body)
  unfolding cltu_of
  input_is = simp append_assoc

  enough : 7 * codeblocks (length frame) ≤ length (information_for frame)
  enough = omega (arith, length_information frame)

  length_body : length body ≡ 8 * codeblocks (length frame) + 8 + length behind
  length_body =
      length-append (encoded (codeblocks (length frame)) (information_for frame)) (tail_sequence ++ behind)
      ∙ ap₂ ◌+◌ (length_encoded (codeblocks (length frame)) (information_for frame) enough) (length-append tail_sequence behind)
      ∙ (omega arith)

  -- as many codeblocks are good as the frame takes, whatever the room: 10, then 11
  pub read_back : {judge : List ℕ → Option Judged} → Judge judge → start_of before ≡ length before → 1 ≤ length frame
      → reading_by judge (before ++ (cltu_of frame ++ behind)) room
      ≡ must (leb (length (before ++ (cltu_of frame ++ behind))) largest_input) (refused 10 0)
      (must (leb (7 * codeblocks (length frame)) room) (refused 11 0)
      (done (filled frame) (record { place = length before + 2 + 8 * codeblocks (length frame); corrected = 0 })))
  unfolding reading_run information_for
  read_back {judge} laws none l =
      let n = codeblocks (length frame) in
      let run = run_encoded laws n (length body / 8) (information_for frame) behind enough (omega (arith, length_body)) in
      let octets = ap (randomized 0) (information_encoded laws n (information_for frame) (tail_sequence ++ behind) (length_information frame)) ∙ randomized_twice 0 (filled frame) in
      let corrected = corrected_encoded laws n (information_for frame) (tail_sequence ++ behind) (length_information frame) in
      rw input_is
      (reading_started before start_sequence body sequence_received judge room none
      ∙ rw (run, lt-ltb n (length body / 8) (omega (arith, length_body)), lt-ltb 0 n (omega arith), octets, corrected, length_started before start_sequence body sequence_received))

  pub round_trip_by : {judge : List ℕ → Option Judged} → Judge judge
      → start_of before ≡ length before → 1 ≤ length frame → length (before ++ (cltu_of frame ++ behind)) ≤ largest_input
      → 7 * codeblocks (length frame) ≤ room
      → reading_by judge (before ++ (cltu_of frame ++ behind)) room
      ≡ done (filled frame) (record { place = length before + 2 + 8 * codeblocks (length frame); corrected = 0 })
  round_trip_by laws none l h r = read_back laws none l ∙ rw (le-leb (length input) largest_input h, le-leb (7 * codeblocks (length frame)) room r)

  -- in too short a room it is refused with 11
  pub no_room_by : {judge : List ℕ → Option Judged} → Judge judge
      → start_of before ≡ length before → 1 ≤ length frame → length (before ++ (cltu_of frame ++ behind)) ≤ largest_input
      → room < 7 * codeblocks (length frame) → reading_by judge (before ++ (cltu_of frame ++ behind)) room ≡ refused 11 0
  no_room_by laws none l h r = read_back laws none l ∙ rw (le-leb (length input) largest_input h, lt-leb (7 * codeblocks (length frame)) room r)

  -- and so in either mode
  pub round_trip : (mode : Mode) → start_of before ≡ length before → 1 ≤ length frame → length (before ++ (cltu_of frame ++ behind)) ≤ largest_input
      → 7 * codeblocks (length frame) ≤ room
      → reading mode (before ++ (cltu_of frame ++ behind)) room
      ≡ done (filled frame) (record { place = length before + 2 + 8 * codeblocks (length frame); corrected = 0 })
  round_trip mode = round_trip_by (judges mode)
