-- Each return is one case of the definition; the last is told by `told_judged`.
use borrow.Author.Rules.{rules}
use mathlib.Core.Path.{◌≡◌, sym, ap, ◌∙◌}
use lib.ListN.{length}
use Rattle.codeblock.specs.Codeblock.{judged}
use Rattle.pondreszi_numbers.specs.Numbers.{information_put, codeblock_judging}
use Rattle.pondreszi_numbers.proofs.Modes.{judging_length, judging_other, judging_mode, told_block}
use Rattle.pondreszi.proofs.pondreszi_codeblock_judge.Goals as goal

pub returns-then-block-ne8 : goal.returns-then-block-ne8
returns-then-block-ne8 c =
    let a = c.args in
    let p = told_block (judging_length a.mode a.block.now (length a.information.now) (search rules)) a.information.now in record { number = c.number.ensures ∙ p.0; memory = p.1.0; mended = p.1.1 }

pub returns-then-mode-gt-LARGEST_MODE : goal.returns-then-mode-gt-LARGEST_MODE
returns-then-mode-gt-LARGEST_MODE c =
    let a = c.args in
    let p = told_block (judging_other a.mode a.block.now (length a.information.now) (search rules) (search rules)) a.information.now in record { number = c.number-then-mode-gt-LARGEST_MODE.ensures ∙ p.0; memory = p.1.0; mended = p.1.1 }

pub returns : goal.returns
returns c =
    let a = c.args in
    let x = a.block.now in
    let y = a.information.now in
    let e : codeblock_judging a.mode x (length y) ≡ information_put c.judge.result (length y) =
    judging_mode a.mode x (length y) (search rules) (search rules)
    ∙ ap (λ k. information_put (judged k x) (length y)) (sym c.mode_of.ensures)
    ∙ ap (λ b. information_put b (length y)) (sym c.judge.ensures) in
    let t = c.told_judged.ensures in
    let o = told_block e y in
    record { number = t.number ∙ o.0; memory = t.memory ∙ o.1.0; mended = t.mended ∙ o.1.1 }
