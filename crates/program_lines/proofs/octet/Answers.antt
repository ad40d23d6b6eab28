use Rattle.std.proofs.Common.{◌∙◌, ◌<◌, sym, arith}
use Rattle.std.proofs.lemmas.Grind.{common_steps}
use Rattle.text.proofs.Canonical.{number_within_lem}
use Rattle.program_lines.proofs.octet.Goals as goal

pub returns : goal.returns
returns c =
    let n = c.in_ok-number in
    let small : n.number < 256 = omega (arith, number_within_lem 255 n.number c.args.field.now (sym c.number.ensures ∙ n.was)) in
    let t = c.try_from.ensures in
    let o = c.ok.ensures.value in
    let e = n.was in
    let f = c.number.ensures in
    grind (arith, common_steps)
