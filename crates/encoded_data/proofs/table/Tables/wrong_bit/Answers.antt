-- A codeblock is an encoding where its syndrome is zero; else the mode decides, by the bit that has the syndrome.
use borrow.Author.Rules.{rules}
use mathlib.Core.Path.{ap, ◌∙◌}
use Prim.Native.Nat.{ℕ}
use Rattle.std.specs.Prelude.{Option}
use Rattle.base.proofs.Lists.{below_at}
use Rattle.codeblock.specs.declared.Mode.{Mode}
use Rattle.codeblock.specs.Codeblock.{judged}
use Rattle.codeblock.specs.Table.{judged_by}
use Rattle.codeblock.proofs.ByTable.{none_judged, detecting_judged, correcting_judged}
use Rattle.codeblock.proofs.Syndrome.{by_control}
use Rattle.encoded_data.proofs.table.Tables.wrong_bit.Goals as goal

pub returns-then-syndrome-eq0 : goal.returns-then-syndrome-eq0
returns-then-syndrome-eq0 c =
    let s = c.args.block.now in
    none_judged s (search rules) (by_control s c.control_of.ensures) c.args.mode c.if-syndrome-eq0.true

pub returns-in-Detecting : goal.returns-in-Detecting
returns-in-Detecting c =
    let s = c.args.block.now in
    ap (λ (m : Mode). judged m s) c.in-Detecting.is
    ∙ detecting_judged s (search rules) (by_control s c.control_of.ensures) c.if-syndrome-eq0.false

pub returns-in-Correcting : goal.returns-in-Correcting
returns-in-Correcting c =
    let s = c.args.block.now in
    ap (λ (m : Mode). judged m s) c.in-Correcting.is
    ∙ correcting_judged s (search rules) (by_control s c.control_of.ensures) (below_at 256 s (λ i h. (c.type_inv.block i).fits)) c.if-syndrome-eq0.false
    ∙ ap (λ (j : Option (Option ℕ)). judged_by j s) (search rules)
