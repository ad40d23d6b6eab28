-- Each return is one case of the definition, by the offset of the first start sequence.
use borrow.Author.Rules.{rules}
use mathlib.Core.Path.{◌∙◌}
use native.Mathlib.Omega.{arith}
use lib.ListN.{length}
use Rattle.base.proofs.Tests.{told}
use Rattle.codeblock.specs.Codeblock.{judged}
use Rattle.start_sequence.proofs.Search.{start_room}
use Rattle.cltu.proofs.Outcomes.{reading_long, reading_none, reading_found}
use Rattle.cltu.proofs.reader.read.Goals as goal

pub returns-then-input-gt-LARGEST_INPUT : goal.returns-then-input-gt-LARGEST_INPUT
returns-then-input-gt-LARGEST_INPUT c =
    let a = c.args in
    let p = told (reading_long (judged a.mode) a.input.now (length a.out.now) (search rules)) a.out.now in record { answer = p.0; memory = p.1 }

pub returns-then-input-first : goal.returns-then-input-first
returns-then-input-first c =
    let a = c.args in
    let p = told (reading_none (judged a.mode) a.input.now (length a.out.now) (omega arith) (omega (arith, c.find_start-first.ensures))) a.out.now in record { answer = p.0; memory = p.1 }

pub slice_bounds-read_after-count : goal.slice_bounds-read_after-count
slice_bounds-read_after-count c =
    let e = c.find_start-first.ensures in
    omega (arith, start_room c.args.input.now (omega arith))

pub slice_bounds-read_after-start : goal.slice_bounds-read_after-start
slice_bounds-read_after-start c =
    let e = c.find_start-first.ensures in
    omega (arith, start_room c.args.input.now (omega arith))

pub read_after-requires : goal.read_after-requires
read_after-requires c =
    let e = c.find_start-first.ensures in
    omega (arith, start_room c.args.input.now (omega arith))

pub returns : goal.returns
returns c =
    let a = c.args in
    let f = c.find_start-first in
    let r = c.read_after in
    let t = told (reading_found (judged a.mode) a.input.now (length a.out.now) f.result (omega arith) (omega arith) f.ensures) a.out.now in
    record { answer = r.ensures.answer ∙ t.0; memory = r.ensures.memory ∙ t.1 }
