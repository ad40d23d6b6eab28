-- Each arm is the law of its directives.
use Rattle.sender_events.proofs.DirectiveRows.{initiated, initiated_checked, initiated_by_bc, terminated, resumed, number_set, limit_set, no_directive, no_directive_above}
use Prim.Native.Nat.{◌≤◌}
use native.Mathlib.Omega.{arith}
use Rattle.sender_events.proofs.directives.directive_event.Goals as goal

pub returns-in-5 : goal.returns-in-5
returns-in-5 c = search terminated

pub returns-in-6 : goal.returns-in-6
returns-in-6 c = search resumed

pub returns-in-1 : goal.returns-in-1
returns-in-1 c = search initiated

pub returns-in-2 : goal.returns-in-2
returns-in-2 c = search initiated_checked

pub returns-in-3-to-4 : goal.returns-in-3-to-4
returns-in-3-to-4 c =
    let from-three : 3 ≤ c.args.number = omega arith in
    search initiated_by_bc

pub returns-in-7-to-8 : goal.returns-in-7-to-8
returns-in-7-to-8 c =
    let from-seven : 7 ≤ c.args.number = omega arith in
    search number_set

pub returns-in-9-to-11 : goal.returns-in-9-to-11
returns-in-9-to-11 c = search limit_set

pub returns-in_default : goal.returns-in_default
returns-in_default c = search no_directive

pub returns-in_default-2 : goal.returns-in_default-2
returns-in_default-2 c = search no_directive_above
