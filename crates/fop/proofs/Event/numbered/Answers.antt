-- Each range of numbers is a case of `place_numbered`.
use mathlib.Core.Path.{◌≡◌, sym, ap, ◌∙◌}
use Prim.Native.Nat.{◌-◌}
use native.Mathlib.Omega.{arith}
use Rattle.base.proofs.Tests.{tests}
use Rattle.fop.specs.Table.{place_numbered}
use Rattle.fop.proofs.Numbered.{some_at, none_at}
use Rattle.fop.proofs.Event.numbered.Goals as goal

pub returns-in-1-to-46 : goal.returns-in-1-to-46
returns-in-1-to-46 c =
    let k = c.args.number in
    let p : place_numbered k ≡ k = search tests in
    sym (some_at k (c.from.result - 1) (p ∙ omega arith) (omega arith))

pub returns-in-101-to-104 : goal.returns-in-101-to-104
returns-in-101-to-104 c =
    let k = c.args.number in
    let p : place_numbered k ≡ k - 54 = search tests in
    sym (some_at k (c.from-in-101-to-104.result - 55) (p ∙ omega arith) (omega arith))

pub returns-in_default : goal.returns-in_default
returns-in_default c =
    let k = c.args.number in
    let none : k ≡ 0 = omega arith in
    sym (none_at k (ap place_numbered none))

pub returns-in_default-2 : goal.returns-in_default-2
returns-in_default-2 c = sym (none_at c.args.number (search tests))

pub returns-in_default-3 : goal.returns-in_default-3
returns-in_default-3 c = sym (none_at c.args.number (search tests))
