-- Each return is one case of the definition.
use mathlib.Core.Logic.{⊎_elim}
use native.Mathlib.Omega.{arith}
use lib.ListN.{length}
use Rattle.base.proofs.Tests.{told}
use Rattle.base.specs.Fields.{octets_of}
use Rattle.clcw.specs.Clcw.{clcw_of}
use Rattle.clcw.proofs.Outcomes.{writing_channel, writing_counter, writing_room, writing_done}
use Rattle.clcw.proofs.Clcw.write.Goals as goal

pub returns-then-self-gt-LARGEST_CHANNEL : goal.returns-then-self-gt-LARGEST_CHANNEL
returns-then-self-gt-LARGEST_CHANNEL c =
    let a = c.args in
    let e = ⊎_elim (writing_channel a.self (length a.out.now)) (λ h. writing_counter a.self (length a.out.now) h.0 h.1) c.then-self-gt-LARGEST_CHANNEL.either in
    let p = told e a.out.now in record { answer = p.0; memory = p.1 }

pub returns-then-out-lt4 : goal.returns-then-out-lt4
returns-then-out-lt4 c =
    let a = c.args in
    let p = told (writing_room a.self (length a.out.now) (omega arith) (omega arith) (omega arith)) a.out.now in record { answer = p.0; memory = p.1 }

pub returns : goal.returns
unfolding clcw_of octets_of
returns c =
    let a = c.args in
    let p = told (writing_done a.self (length a.out.now) (omega arith) (omega arith) (omega arith)) a.out.now in record { answer = p.0; memory = rw (c.copy_from_slice.ensures.after, c.octets.ensures) p.1 }
