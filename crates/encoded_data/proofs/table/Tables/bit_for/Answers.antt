-- An odd syndrome is that of no bit; any other is looked up by the table's rule.
use borrow.Author.Rules.{rules}
use mathlib.Core.Path.{◌≡◌, sym, ap, ◌∙◌}
use Prim.Native.Nat.{ℕ}
use native.Mathlib.Omega.{arith}
use borrow.Author.Tests.{ne_eqb}
use lib.ListN.{get_or}
use Rattle.base.proofs.Tests.{no}
use Rattle.codeblock.specs.Table.{bit_for, no_bit, numbered}
use Rattle.codeblock.proofs.ByTable.{bit_even, bit_odd}
use Rattle.encoded_data.proofs.table.Tables.bit_for.Goals as goal

pub returns-then-syndrome-ne0 : goal.returns-then-syndrome-ne0
returns-then-syndrome-ne0 c = ap numbered (sym (bit_odd c.args.syndrome (omega arith)))

pub returns-in-64 : goal.returns-in-64
returns-in-64 c =
    let a = c.args in
    let e : get_or a.self.bits.now c.from.result 0 ≡ bit_for 63 0 a.syndrome =
    ap (λ (i : ℕ). get_or a.self.bits.now i 0) c.from.ensures ∙ bit_even a.self.bits.now a.syndrome a.self.bit_table (search rules) (omega arith) in
    ap numbered (sym c.in-64.is ∙ e)

pub returns-in_default : goal.returns-in_default
returns-in_default c =
    let a = c.args in
    let bit = get_or a.self.bits.now c.from.result 0 in
    let e : bit ≡ bit_for 63 0 a.syndrome =
    ap (λ (i : ℕ). get_or a.self.bits.now i 0) c.from.ensures ∙ bit_even a.self.bits.now a.syndrome a.self.bit_table (search rules) (omega arith) in
    sym (no _ _ _ (ne_eqb bit no_bit (λ z. search rules))) ∙ ap numbered e
