-- Each return is one case of the definition.
use borrow.Author.Rules.{rules}
use mathlib.Core.Path.{◌≡◌, ap, ◌∙◌}
use mathlib.Core.List.{◌++◌}
use native.Mathlib.Omega.{arith}
use lib.ListN.{length, drop}
use Rattle.std.specs.Prelude.{Option}
use Rattle.codeblock.specs.declared.Judged.{Judged}
use Rattle.memory.proofs.Laws.{placed_front}
use Rattle.pondreszi_numbers.specs.Numbers.{information_put}
use Rattle.pondreszi_numbers.proofs.Modes.{put_bad, put_room, put_done, told_block}
use Rattle.pondreszi_numbers.proofs.coding.told_judged.Goals as goal

pub returns-in_default : goal.returns-in_default
returns-in_default c =
    let old = c.args.information.now in
    let p = told_block (ap (λ (b : Option Judged). information_put b (length old)) c.in_default.is ∙ put_bad (length old)) old in
    record { number = c.number.ensures ∙ p.0; memory = p.1.0; mended = p.1.1 }

pub returns-then-information-lt7 : goal.returns-then-information-lt7
returns-then-information-lt7 c =
    let old = c.args.information.now in
    let p = told_block (ap (λ (b : Option Judged). information_put b (length old)) c.in-Some.is ∙ put_room c.in-Some.judged (length old) (search rules)) old in
    record { number = c.number-then-information-lt7.ensures ∙ p.0; memory = p.1.0; mended = p.1.1 }

pub returns : goal.returns
returns c =
    let old = c.args.information.now in
    let seven : length c.in-Some.judged.information ≡ 7 = search rules in
    let t = told_block (ap (λ (b : Option Judged). information_put b (length old)) c.in-Some.is ∙ put_done c.in-Some.judged (length old) (search rules)) old in
    let p : c.put.new.memory ≡ c.in-Some.judged.information ++ drop (length c.in-Some.judged.information) old =
    c.put.ensures ∙ placed_front old c.in-Some.judged.information (omega (arith, seven)) in
    record { number = t.0; memory = p ∙ t.1.0; mended = t.1.1 }
