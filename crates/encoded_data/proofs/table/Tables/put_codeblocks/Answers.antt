use borrow.Author.Rules.{rules}
use mathlib.Core.Path.{ap, ◌∙◌}
use Prim.Native.Nat.{ℕ, ◌+◌, ◌*◌}
use native.Mathlib.Omega.{arith}
use lib.Seq.{take_all}
use Rattle.codeblock.specs.Codeblock.{error_control}
use Rattle.encoded_data.proofs.Encoded.{written_none, written_all, written_more}
use Rattle.encoded_data.proofs.table.Tables.put_codeblocks.Goals as goal

pub loop-n-init : goal.loop-n-init
loop-n-init c = written_none c.args.information.now c.args.out.now _ _ _ (search rules) (search rules) (search rules)

pub loop-n-preserved : goal.loop-n-preserved
loop-n-preserved c =
    let s = c.in-Some.ensures.steps in
    let seven = c.in-Some.seven.now in
    written_more c.loop-n.invariant c.requires c.loop-n.auto.out seven _ _ s.0.1 s.0.0 _ _ _ _ _ _ c.copy_from_slice.ensures.after (ap (λ (n : ℕ). 8 * n) s.1) (omega arith)
    (ap (λ (n : ℕ). 8 * n + 7) s.1)
    (c.control_of.ensures ∙ ap error_control (take_all 7 seven (search rules))) s.2

pub returns : goal.returns
returns c = written_all c.loop-n.invariant c.requires c.loop-n.auto.out c.in-None.ensures.steps.0.1.0
