-- Reading by any judge a CLTU received with wrong bits, behind octets that hold no near place and whatever follows it. What is known of it: each
-- codeblock is bad or has the information sent, and the tail is bad (`Known`). Then reading ends at the first bad codeblock, at the tail at the
-- latest, and gives the front of the frame that stands before it (`front_read`), all of it where no codeblock is bad (`run_all`).
use mathlib.Core.Path.{◌≡◌, refl, sym, ap, ◌∙◌}
use mathlib.Core.Bool.{true, false}
use mathlib.Core.List.{List, [], ◌∷◌, ◌++◌}
use Prim.Native.Nat.{ℕ, zero, suc, ◌+◌, ◌*◌, ◌/◌, ◌<◌, ◌≤◌}
use native.Mathlib.Omega.{arith}
use borrow.Author.Tests.{lt-ltb, ltb-true, ltb-false}
use lib.Bits.{bit_xor}
use lib.Dec.{ltb, leb}
use lib.ListN.{length, take, drop}
use Rattle.base.specs.Choice.{must}
use Rattle.base.specs.Limits.{largest_input}
use Rattle.base.specs.Outcome.{Outcome, Outcome.done, Outcome.refused}
use Rattle.base.proofs.Tests.{apart, not_so}
use Rattle.codeblock.specs.Codeblock.{is_good, information_of}
use Rattle.std.specs.Prelude.{Option}
use Rattle.codeblock.specs.declared.Judged.{Judged}
use Rattle.randomizer.specs.Randomizer.{octet, randomized}
use Rattle.randomizer.proofs.Randomized.{randomized_twice}
use Rattle.start_sequence.specs.StartSequence.{start_of, Received}
use Rattle.encoded_data.specs.EncodedData.{good_run, information_in, corrected_in}
use Rattle.encoded_data.proofs.Scan.{run_good, run_ends}
use Rattle.cltu.specs.Cltu.{codeblocks, filled, information_for, Found, reading_run, reading_by}
use Rattle.cltu.proofs.Outcomes.{reading_started}
use Rattle.cltu.proofs.Places.{length_information}
use Rattle.damage.specs.Few.{eight}
use Rattle.damage.proofs.Blocks.{information_sent}

randomized_take : (k n : ℕ) (xs : List ℕ) → randomized k (take n xs) ≡ take n (randomized k xs)
unfolding randomized
randomized_take k zero xs = refl
randomized_take k (suc n) [] = refl
randomized_take k (suc n) (x ∷ xs) = ap (λ (l : List ℕ). bit_xor x (octet k) ∷ l) (randomized_take (suc k) n xs)

-- the information of codeblock b of a frame's CLTU
abbrev pub information_at : List ℕ → ℕ → List ℕ
information_at frame b = take 7 (drop (7 * b) (information_for frame))

-- of what is received behind the start sequence of a frame's CLTU
pub record Known (judge : List ℕ → Option Judged) (frame body : List ℕ) : Type 0 where
  pub whole : 8 * codeblocks (length frame) + 8 ≤ length body
  pub sent : (b : ℕ) → b < codeblocks (length frame) → is_good (judge (eight b body)) ≡ true
      → information_of (judge (eight b body)) ≡ information_at frame b
  pub tail : is_good (judge (eight (codeblocks (length frame)) body)) ≡ false

-- what reading gives that ends behind n codeblocks of the frame, which begin at an offset and of which so many are corrected
abbrev pub front_at : List ℕ → ℕ → ℕ → ℕ → ℕ → Outcome Found
front_at frame offset n corrected room =
    must (ltb 0 n) (refused 2 offset)
    (must (leb (7 * n) room) (refused 11 0)
    (done (take (7 * n) (filled frame)) (record { place = offset + 8 * n; corrected = corrected })))

module _ {judge : List ℕ → Option Judged} {frame body : List ℕ} (known : Known judge frame body) where
  abbrev n : ℕ
  n = codeblocks (length frame)

  abbrev pub run : ℕ
  run = good_run judge (length body / 8) body

  -- it ends at the tail at the latest, at a bad codeblock, and only there
  pub run_within : run ≤ codeblocks (length frame)
  run_within = ltb-false n run (not_so (ltb n run) (λ e. apart (sym known.tail ∙ run_good judge (length body / 8) body n (ltb-true n run e))))

  run_before : run < length body / 8
  run_before = omega (arith, run_within, known.whole)

  pub run_bad : is_good (judge (eight run body)) ≡ false
  run_bad = run_ends judge (length body / 8) body run_before

  pub run_all : ((b : ℕ) → b < codeblocks (length frame) → is_good (judge (eight b body)) ≡ true) → run ≡ codeblocks (length frame)
  run_all all = omega (arith, run_within, ltb-false run n (not_so (ltb run n) (λ e. apart (sym run_bad ∙ all run (ltb-true run n e)))))

  -- its codeblocks hold the front of the frame
  handed : randomized 0 (information_in judge run body) ≡ take (7 * run) (filled frame)
  unfolding information_for
  handed =
      ap (randomized 0) (information_sent judge run (information_for frame) body (omega (arith, run_within, length_information frame))
      (λ b l. known.sent b (omega (arith, run_within)) (run_good judge (length body / 8) body b l)))
      ∙ randomized_take 0 (7 * run) (information_for frame)
      ∙ ap (take (7 * run)) (randomized_twice 0 (filled frame))

  pub front_read : (before start : List ℕ) → Received start → start_of before ≡ length before → (room : ℕ)
      → reading_by judge (before ++ (start ++ body)) room
      ≡ must (leb (length before + (2 + length body)) largest_input) (refused 10 0) (front_at frame (length before + 2) run (corrected_in judge run body) room)
  unfolding reading_run
  front_read before start received none room =
      reading_started before start body received judge room none ∙ rw (lt-ltb run (length body / 8) run_before, handed)
