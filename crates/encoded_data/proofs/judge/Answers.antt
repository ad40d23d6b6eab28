-- A codeblock alone is a run of at most one (proofs/Single).
use borrow.Author.Rules.{rules}
use mathlib.Core.Path.{sym, subst}
use Prim.Native.Nat.{◌≤◌}
use native.Mathlib.Omega.{arith}
use Rattle.std.specs.Prelude.{Option}
use Rattle.codeblock.specs.declared.Judged.{Judged}
use Rattle.codeblock.specs.Codeblock.{corrected_of}
use Rattle.codeblock.proofs.Codeblock.{judged_length, corrects_few}
use Rattle.encoded_data.proofs.Single.{single_bad, single_good}
use Rattle.encoded_data.proofs.judge.Goals as goal

pub returns-then-block-ne8 : goal.returns-then-block-ne8
returns-then-block-ne8 c = sym (judged_length c.args.mode c.args.block.now (search rules))

pub returns-in-0 : goal.returns-in-0
returns-in-0 c =
    let a = c.args in
    sym (single_bad a.mode a.block.now (search rules) c.take_good.ensures.run.0 (search rules))

pub overflow_cast-result : goal.overflow_cast-result
overflow_cast-result c =
    let a = c.args in
    let g = single_good a.mode a.block.now (search rules) c.take_good.ensures.run.0 (search rules) c.take_good.ensures.run.1 c.take_good.ensures.memory in
    let one : c.take_good.result.corrected ≤ 1 = subst (λ (j : Option Judged). corrected_of j ≤ 1) g (corrects_few a.mode a.block.now) in
    omega arith

pub returns-in_default : goal.returns-in_default
returns-in_default c =
    let a = c.args in
    sym (single_good a.mode a.block.now (search rules) c.take_good.ensures.run.0 (search rules) c.take_good.ensures.run.1 c.take_good.ensures.memory)
