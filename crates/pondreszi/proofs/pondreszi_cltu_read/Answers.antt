-- Each return is one case of the definition; what `read` answered is told by `told_reading`.
use borrow.Author.Rules.{rules}
use mathlib.Core.Path.{◌≡◌, sym, ap, ◌∙◌}
use lib.ListN.{length}
use Rattle.base.proofs.Tests.{told}
use Rattle.cltu.specs.Cltu.{reading}
use Rattle.pondreszi_numbers.specs.Numbers.{cltu_reading}
use Rattle.pondreszi_numbers.proofs.Told.{same_reading}
use Rattle.pondreszi_numbers.proofs.Modes.{mode_long, mode_other, reading_mode}
use Rattle.pondreszi.proofs.pondreszi_cltu_read.Goals as goal

pub returns-then-input-gt-LARGEST_INPUT : goal.returns-then-input-gt-LARGEST_INPUT
returns-then-input-gt-LARGEST_INPUT c =
    let a = c.args in
    let t = told (mode_long a.mode a.input.now (length a.output.now) (search rules)) a.output.now in
    let s = same_reading t.0 in
    record { number = c.number.ensures ∙ s.0; memory = t.1; counted = s.1.0; placed = s.1.1.0; mended = s.1.1.1 }

pub returns-then-mode-gt-LARGEST_MODE : goal.returns-then-mode-gt-LARGEST_MODE
returns-then-mode-gt-LARGEST_MODE c =
    let a = c.args in
    let t = told (mode_other a.mode a.input.now (length a.output.now) (search rules) (search rules)) a.output.now in
    let s = same_reading t.0 in
    record { number = c.number-then-mode-gt-LARGEST_MODE.ensures ∙ s.0; memory = t.1; counted = s.1.0; placed = s.1.1.0; mended = s.1.1.1 }

pub returns : goal.returns
returns c =
    let a = c.args in
    let x = a.input.now in
    let y = a.output.now in
    let e : cltu_reading a.mode x (length y) ≡ reading c.mode_of.result x (length y) =
    reading_mode a.mode x (length y) (search rules) ∙ ap (λ k. reading k x (length y)) (sym c.mode_of.ensures) in
    let o = told e y in
    let w = c.read-reading.ensures in
    let t = c.told_reading.ensures in
    let s = same_reading (w.answer ∙ o.0) in
    record { number = t.number ∙ s.0; memory = w.memory ∙ o.1; counted = t.counted ∙ s.1.0; placed = t.placed ∙ s.1.1.0; mended = t.mended ∙ s.1.1.1 }
