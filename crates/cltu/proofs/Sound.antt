-- Every input gets one of the outcomes 0, 1, 2, 3, 10 and 11, each by its own condition (`cases`). And what is handed out was
-- there (`sound`): where reading is done with octets D from a start at offset a up to place p, the input between is exactly the
-- codeblocks of D randomized, and the block at p is bad. By any judge: `cases_by`, and `sound_by`, in which the codeblocks between are
-- good and D is their information; in either mode each is an encoding but for the bits corrected (`sound_in`).
use mathlib.Core.Path.{◌≡◌, refl, sym, ap, ap₂, ◌∙◌, subst}
use mathlib.Core.Bool.{Bool, true, false}
use mathlib.Core.List.{List, ◌++◌}
use Prim.Native.Nat.{ℕ, zero, suc, ◌+◌, ◌*◌, ◌/◌, ◌<◌, ◌≤◌}
use native.Mathlib.Nat.{mul-suc}
use native.Mathlib.Omega.{arith}
use borrow.Author.Tests.{leb-true, leb-false, ltb-true, ltb-false}
use lib.Dec.{leb, ltb}
use lib.ListN.{length, take, drop, length-take, length-drop}
use lib.Seq.{take-add, take-take, take_at, drop_at, drop-drop}
use Rattle.base.specs.Outcome.{Outcome, Outcome.done, Outcome.refused}
use Rattle.base.specs.Limits.{largest_input}
use Rattle.base.specs.Octets.{Octets}
use Rattle.base.proofs.Lists.{below_take, below_drop, rest}
use Rattle.codeblock.specs.Codeblock.{codeblock_of, judged, is_good, information_of}
use Rattle.codeblock.specs.declared.Mode.{Mode}
use Rattle.codeblock.specs.declared.Mode.TheVariants.{Detecting}
use Rattle.std.specs.Prelude.{Option}
use Rattle.codeblock.specs.declared.Judged.{Judged}
use Rattle.codeblock.proofs.Codeblock.{good_is, good_judged}
use Rattle.codeblock.proofs.Received.{NearEncoding, good_near}
use Rattle.randomizer.specs.Randomizer.{randomized}
use Rattle.randomizer.proofs.Randomized.{randomized_twice, length_randomized}
use Rattle.start_sequence.specs.StartSequence.{starts, start_of}
use Rattle.start_sequence.proofs.Search.{found_starts}
use Rattle.encoded_data.specs.EncodedData.{encoded, good_run, information_in, corrected_in}
use Rattle.cltu.specs.Cltu.{Found, reading_after, reading_by, reading}
use Rattle.cltu.proofs.Judge.{Judge, judges, corrected_none}
use Rattle.encoded_data.proofs.Scan.{length_information_in, block_next, run_good, run_ends}
use Rattle.cltu.proofs.Outcomes.{reading_long, reading_none, reading_found, after_end, after_none, after_room, after_done}

-- what comes after the first start sequence
abbrev after_start : List ℕ → List ℕ
after_start input = drop (start_of input + 2) input

-- how many good codeblocks stand there
abbrev run : (List ℕ → Option Judged) → List ℕ → ℕ
run judge input = good_run judge (length (after_start input) / 8) (after_start input)

-- the offset of the codeblock behind the run
abbrev behind_run : (List ℕ → Option Judged) → List ℕ → ℕ
behind_run judge input = start_of input + 2 + 8 * run judge input

-- the outcome by a judge, with what holds of the input; so many codeblocks were corrected where reading is done
pub data CaseBy (judge : List ℕ → Option Judged) (corrected : ℕ) (input : List ℕ) (room : ℕ) : Type 0 where
  too_long : largest_input < length input → reading_by judge input room ≡ refused 10 0 → CaseBy judge corrected input room
  no_start : length input ≤ largest_input → length input ≤ start_of input → reading_by judge input room ≡ refused 1 (length input)
      → CaseBy judge corrected input room
  no_block : length input ≤ largest_input → start_of input < length input → run judge input < length (after_start input) / 8 → run judge input ≡ 0
      → reading_by judge input room ≡ refused 2 (start_of input + 2) → CaseBy judge corrected input room
  no_end : length input ≤ largest_input → start_of input < length input → length (after_start input) / 8 ≤ run judge input
      → reading_by judge input room ≡ refused 3 (behind_run judge input) → CaseBy judge corrected input room
  no_room : length input ≤ largest_input → start_of input < length input → run judge input < length (after_start input) / 8 → 0 < run judge input
      → room < 7 * run judge input → reading_by judge input room ≡ refused 11 0 → CaseBy judge corrected input room
  read : length input ≤ largest_input → start_of input < length input → run judge input < length (after_start input) / 8 → 0 < run judge input
      → 7 * run judge input ≤ room
      → reading_by judge input room
      ≡ done (randomized 0 (information_in judge (run judge input) (after_start input))) (record { place = behind_run judge input; corrected = corrected })
      → CaseBy judge corrected input room

-- by the judge that only detects: nothing is corrected
abbrev pub Case : List ℕ → ℕ → Type 0
Case = CaseBy (judged Detecting) 0

module _ (judge : List ℕ → Option Judged) (input : List ℕ) (room : ℕ) where
  -- how many codeblocks of the run were corrected
  abbrev corrections : ℕ
  corrections = corrected_in judge (run judge input) (after_start input)

  abbrev Judging : Type 0
  Judging = CaseBy judge corrections input room

  found : length input ≤ largest_input → start_of input < length input → reading_by judge input room ≡ reading_after judge (start_of input + 2) (after_start input) room
  found h s = reading_found judge input room (start_of input) h s refl ∙ ap (λ (l : List ℕ). reading_after judge (start_of input + 2) l room) (rest input (start_of input + 2))

  module _ (h : length input ≤ largest_input) (s : start_of input < length input) where
    at_room : (b : Bool) → leb (7 * run judge input) room ≡ b → run judge input < length (after_start input) / 8 → 0 < run judge input → Judging
    at_room true e l z = read h s l z (leb-true (7 * run judge input) room e)
        (found h s ∙ after_done judge (start_of input + 2) (after_start input) room (run judge input) refl l z (leb-true (7 * run judge input) room e))
    at_room false e l z = no_room h s l z (leb-false (7 * run judge input) room e)
        (found h s ∙ after_room judge (start_of input + 2) (after_start input) room (run judge input) refl l z (leb-false (7 * run judge input) room e))

    at_first : (b : Bool) → ltb 0 (run judge input) ≡ b → run judge input < length (after_start input) / 8 → Judging
    at_first true e l = at_room (leb (7 * run judge input) room) refl l (ltb-true 0 (run judge input) e)
    at_first false e l =
        let z : run judge input ≤ 0 = ltb-false 0 (run judge input) e in
        no_block h s l (omega arith) (found h s ∙ after_none judge (start_of input + 2) (after_start input) room (run judge input) refl l (omega arith))

    at_end : (b : Bool) → ltb (run judge input) (length (after_start input) / 8) ≡ b → Judging
    at_end true e = at_first (ltb 0 (run judge input)) refl (ltb-true (run judge input) (length (after_start input) / 8) e)
    at_end false e =
        let l : length (after_start input) / 8 ≤ run judge input = ltb-false (run judge input) (length (after_start input) / 8) e in
        no_end h s l (found h s ∙ after_end judge (start_of input + 2) (after_start input) room (run judge input) refl l)

  at_start_lem : (b : Bool) → ltb (start_of input) (length input) ≡ b → length input ≤ largest_input → Judging
  at_start_lem true e h = at_end h (ltb-true (start_of input) (length input) e) (ltb (run judge input) (length (after_start input) / 8)) refl
  at_start_lem false e h =
      let l : length input ≤ start_of input = ltb-false (start_of input) (length input) e in
      no_start h l (reading_none judge input room h l)

  at_length : (b : Bool) → leb (length input) largest_input ≡ b → Judging
  at_length true e = at_start_lem (ltb (start_of input) (length input)) refl (leb-true (length input) largest_input e)
  at_length false e = too_long (leb-false (length input) largest_input e) (reading_long judge input room (leb-false (length input) largest_input e))

  pub cases_by : CaseBy judge (corrected_in judge (run judge input) (after_start input)) input room
  cases_by = at_length (leb (length input) largest_input) refl

pub cases : (input : List ℕ) (room : ℕ) → Case input room
cases input room = subst (λ (k : ℕ). CaseBy (judged Detecting) k input room) (corrected_none (run (judged Detecting) input) (after_start input)) (cases_by (judged Detecting) input room)

-- what a reading that is done says of its input by any judge: so many good codeblocks from the first start sequence on, whose
-- information the octets are, the block behind them bad
pub record SoundBy (judge : List ℕ → Option Judged) (input octets : List ℕ) (found : Found) : Type 0 where
  pub start : ℕ
  pub first : start ≡ start_of input
  pub starting : starts (drop start input) ≡ true
  pub blocks : ℕ
  pub some : 0 < blocks
  pub count : length octets ≡ 7 * blocks
  pub good : (b : ℕ) → b < blocks → is_good (judge (take 8 (drop (8 * b) (drop (start + 2) input)))) ≡ true
  pub information : octets ≡ randomized 0 (information_in judge blocks (drop (start + 2) input))
  pub place : found.place ≡ start + 2 + 8 * blocks
  pub whole : found.place + 8 ≤ length input
  pub bad : is_good (judge (take 8 (drop found.place input))) ≡ false
  pub corrections : found.corrected ≡ corrected_in judge blocks (drop (start + 2) input)

-- by the judge that only detects also: the codeblocks are the encodings of the octets randomized, and nothing was corrected
pub record Sound (input octets : List ℕ) (found : Found) : Type 0 where
  pub read : SoundBy (judged Detecting) input octets found
  pub between : take (8 * read.blocks) (drop (read.start + 2) input) ≡ encoded read.blocks (randomized 0 octets)
  pub corrected : found.corrected ≡ 0

refused_not : {o : Outcome Found} {n p : ℕ} {octets : List ℕ} {f : Found} → o ≡ refused n p → o ≡ done octets f → ⊥
refused_not a b = let z : ◌≡◌ {A = ℕ} 0 1 = cc in omega arith

module _ {judge : List ℕ → Option Judged} (laws : Judge judge) (input : List ℕ) where
  -- what the definition hands out and tells
  abbrev handed : List ℕ
  handed = randomized 0 (information_in judge (run judge input) (after_start input))

  abbrev told : Found
  told = record { place = behind_run judge input; corrected = corrected_in judge (run judge input) (after_start input) }

  -- of what the definition hands out
  sound_read : start_of input < length input → run judge input < length (after_start input) / 8 → 0 < run judge input
      → SoundBy judge input handed told
  sound_read s l z = record {
    start = start_of input;
    first = refl;
    starting = found_starts input s;
    blocks = run judge input;
    some = z;
    count = length_randomized 0 (information_in judge (run judge input) (after_start input))
        ∙ length_information_in judge laws.seven (length (after_start input) / 8) (run judge input) (after_start input) (omega arith);
    good = λ b h. run_good judge (length (after_start input) / 8) (after_start input) b h;
    information = refl;
    place = refl;
    whole = omega (arith, length-drop (start_of input + 2) input);
    bad = ap (λ (t : List ℕ). is_good (judge (take 8 t))) (sym (drop-drop (8 * run judge input) (start_of input + 2) input))
        ∙ run_ends judge (length (after_start input) / 8) (after_start input) l;
    corrections = refl;
  }

  pub sound_by : (room : ℕ) (octets : List ℕ) (f : Found) → reading_by judge input room ≡ done octets f → SoundBy judge input octets f
  sound_by room octets f e = go (cases_by judge input room)
    where
      go : CaseBy judge (corrected_in judge (run judge input) (after_start input)) input room → SoundBy judge input octets f
      go (too_long a r) = absurd (refused_not r e)
      go (no_start a b r) = absurd (refused_not r e)
      go (no_block a b c d r) = absurd (refused_not r e)
      go (no_end a b c r) = absurd (refused_not r e)
      go (no_room a b c d g r) = absurd (refused_not r e)
      go (read a b c d g r) =
          let p : handed ≡ octets = cc in
          let q : told ≡ f = cc in
          subst (λ (x : Found). SoundBy judge input octets x) q (subst (λ (o : List ℕ). SoundBy judge input o told) p (sound_read b c d))

-- in either mode also: each codeblock is an encoding but for the bits corrected, which is one at the most, and its information is the encoding's
pub sound_in : (mode : Mode) (input : List ℕ) → Octets input → (room : ℕ) (octets : List ℕ) (f : Found) → reading mode input room ≡ done octets f
    → (s : SoundBy (judged mode) input octets f)
    × ((b : ℕ) → b < s.blocks → NearEncoding (take 8 (drop (8 * b) (drop (s.start + 2) input))) (judged mode (take 8 (drop (8 * b) (drop (s.start + 2) input)))))
sound_in mode input h room octets f e =
    let s = sound_by (judges mode) input room octets f e in
    let rest = drop (s.start + 2) input in
    (s, λ b l. good_near mode (take 8 (drop (8 * b) rest)) (below_take 256 8 (drop (8 * b) rest) (below_drop 256 (8 * b) rest (below_drop 256 (s.start + 2) input h))) (s.good b l))

-- codeblocks that are judged good by detecting alone are the encodings of their information
encodings : (n : ℕ) (s : List ℕ) → 8 * n ≤ length s → ((b : ℕ) → b < n → is_good (judged Detecting (take 8 (drop (8 * b) s))) ≡ true)
    → take (8 * n) s ≡ encoded n (information_in (judged Detecting) n s)
unfolding encoded information_in
encodings zero s l h = refl
encodings (suc n) s l h =
    let g : is_good (judged Detecting (take 8 s)) ≡ true = h 0 (omega arith) in
    let i : information_of (judged Detecting (take 8 s)) ≡ take 7 s = ap information_of (good_judged (take 8 s) g) ∙ take-take 7 8 s (omega arith) in
    let e : take 8 s ≡ codeblock_of (take 7 s) = good_is (take 8 s) g ∙ ap codeblock_of (take-take 7 8 s (omega arith)) in
    let k : 8 * suc n ≡ 8 + 8 * n = omega (arith, mul-suc 8 n) in
    let t : length (take 7 s) ≡ 7 = simp length-take (omega (arith, mul-suc 8 n)) in
    let r = information_in (judged Detecting) n (drop 8 s) in
    ap (λ (j : ℕ). take j s) k
    ∙ take-add 8 (8 * n) s
    ∙ ap₂ (λ (a b : List ℕ). a ++ b) e (encodings n (drop 8 s) (simp length-drop (omega (arith, mul-suc 8 n))) (λ b m. ap is_good (block_next (judged Detecting) s b) ∙ h (suc b) (omega arith)))
    ∙ sym (ap (λ (a : List ℕ). encoded (suc n) (a ++ r)) i ∙ ap₂ (λ (a b : List ℕ). codeblock_of a ++ encoded n b) (take_at (take 7 s) r 7 t) (drop_at (take 7 s) r 7 t))

module _ (input : List ℕ) where
  pub sound : (room : ℕ) (octets : List ℕ) (f : Found) → reading Detecting input room ≡ done octets f → Sound input octets f
  sound room octets f e =
      let s = sound_by (judges Detecting) input room octets f e in
      let rest = drop (s.start + 2) input in
      record {
        read = s;
        between = encodings s.blocks rest (omega (arith, length-drop (s.start + 2) input, s.place, s.whole)) s.good
            ∙ ap (encoded s.blocks) (sym (randomized_twice 0 (information_in (judged Detecting) s.blocks rest)) ∙ ap (randomized 0) (sym s.information));
        corrected = s.corrections ∙ corrected_none s.blocks rest;
      }
