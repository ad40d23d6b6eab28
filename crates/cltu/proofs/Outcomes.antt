-- What writing and, by any judge of codeblocks, reading come to, a law for each of their checks.
use mathlib.Core.Path.{◌≡◌, refl, sym, ap, ◌∙◌}
use mathlib.Core.Bool.{Bool, true, false}
use mathlib.Core.List.{List, ◌++◌}
use Prim.Native.Nat.{ℕ, ◌+◌, ◌-◌, ◌*◌, ◌/◌, ◌<◌, ◌≤◌}
use native.Mathlib.Omega.{arith}
use borrow.Author.Tests.{lt-ltb, le-ltb, le-leb, lt-leb, leb-true}
use lib.Dec.{leb}
use lib.ListN.{length, take, drop, length-append}
use lib.Seq.{drop_at, drop-append-add}
use Rattle.base.specs.Choice.{must}
use Rattle.base.specs.Outcome.{Outcome.done, Outcome.refused}
use Rattle.base.specs.Limits.{largest_frame, largest_input, smallest_frame}
use Rattle.base.proofs.Lists.{rest}
use Rattle.std.specs.Prelude.{Option}
use Rattle.codeblock.specs.declared.Judged.{Judged}
use Rattle.randomizer.specs.Randomizer.{randomized}
use Rattle.start_sequence.specs.StartSequence.{start_of, Received}
use Rattle.start_sequence.proofs.Search.{first_near}
use Rattle.encoded_data.specs.EncodedData.{good_run, information_in, corrected_in}
use Rattle.cltu.specs.Cltu.{need, cltu_of, writing, reading_run, reading_after, reading_by}

module _ (frame : List ℕ) (room : ℕ) where
  pub writing_length : (smallest_frame ≤ length frame → length frame ≤ largest_frame → ⊥) → writing frame room ≡ refused 10 0
  unfolding writing
  writing_length h = go (leb smallest_frame (length frame)) (leb (length frame) largest_frame) refl refl
    where
      go : (b c : Bool) → leb smallest_frame (length frame) ≡ b → leb (length frame) largest_frame ≡ c
          → must b (refused 10 0) (must c (refused 10 0) (must (leb (need (length frame)) room) (refused 11 0) (done (cltu_of frame) (tt {0})))) ≡ refused 10 0
      go false c d e = refl
      go true false d e = refl
      go true true d e = absurd (h (leb-true smallest_frame (length frame) d) (leb-true (length frame) largest_frame e))

  pub writing_room : smallest_frame ≤ length frame → length frame ≤ largest_frame → room < need (length frame) → writing frame room ≡ refused 11 0
  unfolding writing
  writing_room l h r = simp (le-leb smallest_frame (length frame) l, le-leb (length frame) largest_frame h, lt-leb (need (length frame)) room r)

  pub writing_done : smallest_frame ≤ length frame → length frame ≤ largest_frame → need (length frame) ≤ room
      → writing frame room ≡ done (cltu_of frame) tt
  unfolding writing
  writing_done l h r = simp (le-leb smallest_frame (length frame) l, le-leb (length frame) largest_frame h, le-leb (need (length frame)) room r)

module _ (judge : List ℕ → Option Judged) (s : List ℕ) (room : ℕ) where
  pub reading_long : largest_input < length s → reading_by judge s room ≡ refused 10 0
  unfolding reading_by
  reading_long h = simp (lt-leb (length s) largest_input h)

  pub reading_none : length s ≤ largest_input → length s ≤ start_of s → reading_by judge s room ≡ refused 1 (length s)
  unfolding reading_by
  reading_none h l = simp (le-leb (length s) largest_input h, le-ltb (start_of s) (length s) l)

  -- past the start sequence, with its offset and the part as the code has them
  pub reading_found : (first : ℕ) → length s ≤ largest_input → first < length s → first ≡ start_of s
      → reading_by judge s room ≡ reading_after judge (first + 2) (take (length s - (first + 2)) (drop (first + 2) s)) room
  unfolding reading_by
  reading_found first h l e =
      let b : start_of s < length s = omega arith in
      simp (le-leb (length s) largest_input h, lt-ltb (start_of s) (length s) b)
      (ap (λ (k : ℕ). reading_after judge (k + 2) (drop (k + 2) s) room) (sym e)
      ∙ ap (λ (l : List ℕ). reading_after judge (first + 2) l room) (sym (rest s (first + 2))))

-- at a start sequence received with at most one wrong bit, behind octets that hold no near place, reading goes on at what follows
module _ (before start behind : List ℕ) (received : Received start) where
  pub length_started : length (before ++ (start ++ behind)) ≡ length before + (2 + length behind)
  length_started = length-append before (start ++ behind) ∙ ap (λ (k : ℕ). length before + k) (length-append start behind ∙ ap (λ (k : ℕ). k + length behind) received.two)

  pub reading_started : (judge : List ℕ → Option Judged) (room : ℕ) → start_of before ≡ length before
      → reading_by judge (before ++ (start ++ behind)) room
      ≡ must (leb (length before + (2 + length behind)) largest_input) (refused 10 0) (reading_after judge (length before + 2) behind room)
  unfolding reading_by
  reading_started judge room none =
      let found = first_near before start behind received none in
      let after = drop-append-add before (start ++ behind) 2 ∙ drop_at start behind 2 received.two in
      rw (found, after, length_started, lt-ltb (length before) (length before + (2 + length behind)) (omega arith))

-- after the start sequence, with the run of good codeblocks as the code has it
module _ (judge : List ℕ → Option Judged) (offset : ℕ) (s : List ℕ) (room n : ℕ) (e : n ≡ good_run judge (length s / 8) s) where
  run_is : reading_after judge offset s room ≡ reading_run judge offset s room n
  run_is = ap (reading_run judge offset s room) (sym e)

  pub after_end : length s / 8 ≤ n → reading_after judge offset s room ≡ refused 3 (offset + 8 * n)
  unfolding reading_run
  after_end h = run_is ∙ simp (le-ltb n (length s / 8) h)

  pub after_none : n < length s / 8 → n ≡ 0 → reading_after judge offset s room ≡ refused 2 offset
  unfolding reading_run
  after_none h z = run_is ∙ simp (lt-ltb n (length s / 8) h, le-ltb 0 n (omega arith))

  pub after_room : n < length s / 8 → 0 < n → room < 7 * n → reading_after judge offset s room ≡ refused 11 0
  unfolding reading_run
  after_room h z r = run_is ∙ simp (lt-ltb n (length s / 8) h, lt-ltb 0 n z, lt-leb (7 * n) room r)

  pub after_done : n < length s / 8 → 0 < n → 7 * n ≤ room
      → reading_after judge offset s room ≡ done (randomized 0 (information_in judge n s)) (record { place = offset + 8 * n; corrected = corrected_in judge n s })
  unfolding reading_run
  after_done h z r = run_is ∙ simp (lt-ltb n (length s / 8) h, lt-ltb 0 n z, le-leb (7 * n) room r)
