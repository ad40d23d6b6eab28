-- Each return is one case of the definition, by the run of good codeblocks.
use borrow.Author.Rules.{rules}
use mathlib.Core.Path.{◌≡◌, sym, ap, ap₂, ◌∙◌}
use mathlib.Core.List.{List}
use Prim.Native.Nat.{ℕ, ◌+◌, ◌*◌, ◌/◌, ◌≤◌}
use native.Mathlib.Omega.{arith}
use lib.ListN.{length}
use Rattle.std.specs.Prelude.{Ok}
use Rattle.base.proofs.Tests.{told}
use Rattle.codeblock.specs.declared.Mode.{Mode}
use Rattle.codeblock.specs.Codeblock.{judged}
use Rattle.codeblock.proofs.Codeblock.{good_seven}
use Rattle.memory.specs.Placed.{placed}
use Rattle.randomizer.specs.Randomizer.{randomized}
use Rattle.randomizer.proofs.Randomized.{length_randomized}
use Rattle.encoded_data.specs.EncodedData.{good_run, information_in, whole_in}
use Rattle.encoded_data.proofs.Scan.{length_information_in, run_le, run_whole, part_front}
use Rattle.memory.proofs.Laws.{placed_front}
use Rattle.cltu.specs.Answers.{read_answer}
use Rattle.cltu.proofs.Outcomes.{after_end, after_none, after_room, after_done}
use Rattle.cltu.proofs.reader.read_after.Goals as goal

-- no more codeblocks than are whole
few : (mode : Mode) (s : List ℕ) {n room : ℕ} → n ≡ good_run (judged mode) (whole_in (length s) room) s → 7 * (length s / 8) ≤ room → n ≤ length s / 8
few mode s e h = omega (arith, run_whole (judged mode) s e h, run_le (judged mode) (length s / 8) s)

pub overflow_mul-count : goal.overflow_mul-count
overflow_mul-count c = omega (arith, few c.args.mode c.args.input.now c.take_good-run.ensures.run.0 (search rules))

pub overflow_mul-place : goal.overflow_mul-place
overflow_mul-place c = omega (arith, few c.args.mode c.args.input.now c.take_good-run.ensures.run.0 (search rules))

pub overflow_add-place : goal.overflow_add-place
overflow_add-place c = omega (arith, few c.args.mode c.args.input.now c.take_good-run.ensures.run.0 (search rules))

pub returns-then-input-run : goal.returns-then-input-run
returns-then-input-run c =
    let a = c.args in
    let g = run_whole (judged a.mode) c.args.input.now c.take_good-run.ensures.run.0 (search rules) in
    let p = told (after_end (judged a.mode) a.offset a.input.now (length a.out.now) c.take_good-run.result.blocks g (search rules)) a.out.now in record { answer = p.0; memory = p.1 }

pub returns-then-run-eq0 : goal.returns-then-run-eq0
returns-then-run-eq0 c =
    let a = c.args in
    let g = run_whole (judged a.mode) c.args.input.now c.take_good-run.ensures.run.0 (search rules) in
    let p = told (after_none (judged a.mode) a.offset a.input.now (length a.out.now) c.take_good-run.result.blocks g (search rules) (search rules)) a.out.now in record { answer = p.0; memory = p.1 }

pub returns-then-out-count : goal.returns-then-out-count
returns-then-out-count c =
    let a = c.args in
    let g = run_whole (judged a.mode) c.args.input.now c.take_good-run.ensures.run.0 (search rules) in
    let p = told (after_room (judged a.mode) a.offset a.input.now (length a.out.now) c.take_good-run.result.blocks g (search rules) (search rules) (search rules)) a.out.now in record { answer = p.0; memory = p.1 }

pub returns : goal.returns
returns c =
    let a = c.args in
    let t = c.take_good-run in
    let s = a.input.now in
    let n = t.result.blocks in
    let g : n ≡ good_run (judged a.mode) (length s / 8) s = run_whole (judged a.mode) c.args.input.now c.take_good-run.ensures.run.0 (search rules) in
    let o = told (after_done (judged a.mode) a.offset s (length a.out.now) n g (search rules) (search rules) (search rules)) a.out.now in
    let i = length_information_in (judged a.mode) (good_seven a.mode) (length s / 8) n s (omega (arith, g)) in
    let z : length (randomized 0 (information_in (judged a.mode) n s)) ≡ 7 * n = length_randomized 0 (information_in (judged a.mode) n s) ∙ i in record {
      answer = ap₂ (λ (k j : ℕ). read_answer (Ok (record { count = k; place = a.offset + 8 * n; corrected = j }))) (sym z) t.ensures.run.1 ∙ o.0;
      memory = c.randomize.ensures
          ∙ ap (λ (l : List ℕ). placed a.out.now 0 (randomized 0 l)) (part_front (information_in (judged a.mode) n s) _ _ (7 * n) t.ensures.memory (sym i))
          ∙ placed_front a.out.now (randomized 0 (information_in (judged a.mode) n s)) (omega (arith, z))
          ∙ o.1;
    }
