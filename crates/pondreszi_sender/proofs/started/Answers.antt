-- A number is beyond its limit, or the sender is what `new` gives for the numbers narrowed.
use mathlib.Core.Path.{◌≡◌, refl, ◌∙◌}
use borrow.Author.Rules.{rules}
use native.Mathlib.Omega.{arith}
use Rattle.pondreszi_sender.proofs.Narrowed.{sender_narrowed, timer_beyond, limit_beyond, vs_beyond, nnr_beyond, all_within}
use Rattle.pondreszi_sender.proofs.started.Goals as goal

pub returns-in_default-3 : goal.returns-in_default-3
returns-in_default-3 c =
    let a = c.args in
    timer_beyond a.k a.t1_initial a.transmission_limit a.timeout_type a.spacecraft a.channel a.vs a.nnr _ refl
    (omega arith)

pub returns-in_default : goal.returns-in_default
returns-in_default c =
    let a = c.args in
    limit_beyond a.k a.t1_initial a.transmission_limit a.timeout_type a.spacecraft a.channel a.vs a.nnr _ refl
    (omega (arith, c.in_default.ensures)) (omega (arith, c.in_default.ensures'))

pub returns-in_default-2-2 : goal.returns-in_default-2-2
returns-in_default-2-2 c =
    let a = c.args in
    vs_beyond a.k a.t1_initial a.transmission_limit a.timeout_type a.spacecraft a.channel a.vs a.nnr _ refl
    (omega (arith, c.in-Ok-Ok.ensures)) (omega (arith, c.in-Ok-Ok.ensures')) (omega arith)

pub returns-in_default-2 : goal.returns-in_default-2
returns-in_default-2 c =
    let a = c.args in
    nnr_beyond a.k a.t1_initial a.transmission_limit a.timeout_type a.spacecraft a.channel a.vs a.nnr _ refl
    (omega (arith, c.in-Ok-Ok.ensures)) (omega (arith, c.in-Ok-Ok.ensures')) (omega (arith, c.in_default-2.ensures)) (omega (arith, c.in_default-2.ensures'))

pub returns : goal.returns
returns c =
    let a = c.args in
    let t : c.in-Ok-Ok.t1_initial ≡ a.t1_initial = search rules in
    let l : c.in-Ok-Ok.transmission_limit ≡ a.transmission_limit = search rules in
    let v : c.in-Ok-Ok-2.vs ≡ a.vs = search rules in
    let n : c.in-Ok-Ok-2.nnr ≡ a.nnr = search rules in
    all_within a.k a.t1_initial a.transmission_limit a.timeout_type a.spacecraft a.channel a.vs a.nnr _
    (omega (arith, c.in-Ok-Ok.ensures)) (omega (arith, c.in-Ok-Ok.ensures')) (omega (arith, c.in-Ok-Ok-2.ensures)) (omega (arith, c.in-Ok-Ok-2.ensures'))
    (c.new.ensures
    ∙ sender_narrowed c.in-Ok-Ok.t1_initial c.in-Ok-Ok.transmission_limit c.in-Ok-Ok-2.vs c.in-Ok-Ok-2.nnr _ a.k a.timeout_type a.spacecraft a.channel
    c.narrow_u8.ensures c.narrow_u8-2.ensures c.narrow_u16.ensures c.narrow_u8-3.ensures
    ∙ rw (t, l, v, n) refl)
