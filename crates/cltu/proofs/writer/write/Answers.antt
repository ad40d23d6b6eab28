-- Each return is one case of the definition.
use borrow.Author.Rules.{rules}
use mathlib.Core.Path.{◌≡◌, ap, ◌∙◌}
use mathlib.Core.List.{List, ◌++◌}
use Prim.Native.Nat.{ℕ, ◌+◌, ◌*◌, ◌/◌}
use native.Mathlib.Omega.{arith}
use lib.ListN.{length, take}
use Rattle.base.proofs.Tests.{told}
use Rattle.start_sequence.specs.StartSequence.{start_sequence}
use Rattle.memory.specs.Placed.{placed}
use Rattle.encoded_data.specs.EncodedData.{encoded}
use Rattle.encoded_data.proofs.Scan.{part_front}
use Rattle.memory.proofs.Laws.{placed_front}
use Rattle.std.specs.Prelude.{Ok}
use Rattle.base.specs.Refusals.{written_answer}
use Rattle.cltu.specs.Cltu.{information_for, cltu_of, tail_sequence}
use Rattle.cltu.proofs.Places.{length_information, length_cltu}
use Rattle.cltu.proofs.Outcomes.{writing_length, writing_room, writing_done}
use Rattle.cltu.proofs.Written.{cltu_parts}
use Rattle.cltu.proofs.writer.write.Goals as goal

pub returns-then-not-matches : goal.returns-then-not-matches
returns-then-not-matches c =
    let a = c.args in
    let p = told (writing_length a.frame.now (length a.out.now) (λ low high. search rules)) a.out.now in record { answer = p.0; memory = p.1 }

pub returns-then-out-need : goal.returns-then-out-need
returns-then-out-need c =
    let a = c.args in
    let p = told (writing_room a.frame.now (length a.out.now) (omega arith) (omega arith) (omega arith)) a.out.now in record { answer = p.0; memory = p.1 }

pub returns : goal.returns
returns c =
    let a = c.args in
    let f = a.frame.now in
    let out = a.out.now in
    let i = information_for f in
    let filled = c.put_information in
    let count = 7 * ((length f + 6) / 7) in
    let k : 2 + 8 * ((length f + 6) / 7) + 8 ≡ length (cltu_of f) = omega (arith, length_cltu f) in
    let e : take count filled.new.information ≡ i =
    part_front i _ filled.new.information count (filled.ensures ∙ placed_front _ i (omega (arith, length_information f))) (omega (arith, length_information f)) in
    let t = told (writing_done f (length out) (omega arith) (omega arith) (omega arith)) out in record {
      answer = ap (λ (n : ℕ). written_answer (Ok n)) k ∙ t.0;
      memory = c.put_cltu.ensures
          ∙ ap (λ (x : List ℕ). placed out 0 (start_sequence ++ encoded (length x / 7) x ++ tail_sequence)) e
          ∙ ap (placed out 0) (cltu_parts f)
          ∙ placed_front out (cltu_of f) (omega arith)
          ∙ t.1;
    }
