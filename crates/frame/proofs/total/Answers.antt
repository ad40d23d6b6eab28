-- The length field by its octets, and one.
use borrow.Author.Rules.{rules}
use mathlib.Core.Path.{sym, ap, ◌∙◌}
use Prim.Native.Nat.{ℕ, ◌+◌}
use native.Mathlib.Omega.{arith}
use Rattle.frame.proofs.Octets.{total_is}
use Rattle.frame.proofs.total.Goals as goal

pub overflow_add-result : goal.overflow_add-result
overflow_add-result c = omega (arith, c.from_be_bytes.ensures, (c.type_inv.octets 2).fits, (c.type_inv.octets 3).fits)

pub returns : goal.returns
returns c = ap (λ (x : ℕ). x + 1) c.from_be_bytes.ensures ∙ sym (total_is _ (λ i. (c.type_inv.octets i).fits) (search rules))
