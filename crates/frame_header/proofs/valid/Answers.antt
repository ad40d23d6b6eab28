-- Each return is one of the tests, in their order.
use borrow.Author.Rules.{rules}
use native.Mathlib.Omega.{arith}
use Rattle.std.proofs.lemmas.Grind.{common_steps}
use Rattle.base.proofs.Tests.{tests}
use Rattle.frame_header.proofs.Laws.{valid_short, valid_by_octets}
use Rattle.frame_header.proofs.valid.Goals as goal

pub returns-then-octets-lt-HEADER_LENGTH : goal.returns-then-octets-lt-HEADER_LENGTH
returns-then-octets-lt-HEADER_LENGTH c = valid_short _ (search rules)

pub returns-then-first-eq0-3 : goal.returns-then-first-eq0-3
returns-then-first-eq0-3 c = valid_by_octets _ (λ i. (c.type_inv.octets i).fits) (search rules) (grind (arith, common_steps, tests))

pub returns-else-first-eq0-3 : goal.returns-else-first-eq0-3
returns-else-first-eq0-3 c = valid_by_octets _ (λ i. (c.type_inv.octets i).fits) (search rules) (grind (arith, common_steps, tests))

pub returns-else-first-ne1 : goal.returns-else-first-ne1
returns-else-first-ne1 c = valid_by_octets _ (λ i. (c.type_inv.octets i).fits) (search rules) (grind (arith, common_steps, tests))
