-- Each return is one of the checks in their order, or the frame.
use mathlib.Core.Path.{◌≡◌, sym, ap, ◌∙◌}
use mathlib.Core.Logic.{⊎_elim}
use mathlib.Core.List.{◌++◌}
use Prim.Native.Nat.{ℕ, ◌+◌}
use native.Mathlib.Omega.{arith}
use lib.ListN.{length, drop}
use Rattle.std.specs.Prelude.{Ok}
use Rattle.base.proofs.Tests.{told}
use Rattle.base.specs.Flags.{bit_of}
use Rattle.base.specs.Refusals.{written_answer}
use Rattle.frame.specs.Frame.{raw_frame}
use Rattle.frame.proofs.Lengths.{length_frame}
use Rattle.frame_writer.proofs.Emitted.{writing_empty, writing_long, writing_spacecraft, writing_channel, writing_room, writing_done}
use Rattle.frame_writer.proofs.Header.write.Goals as goal

pub returns-then-n-lt1 : goal.returns-then-n-lt1
returns-then-n-lt1 c =
    let a = c.args in
    let h = a.self in
    let e = ⊎_elim (writing_empty (bit_of h.bypass) (bit_of h.control) h.number h.spacecraft h.channel a.field.now (length a.out.now))
    (λ k. writing_long (bit_of h.bypass) (bit_of h.control) h.number h.spacecraft h.channel a.field.now (length a.out.now) k.0 k.1) c.then-n-lt1.either in
    let p = told e a.out.now in record { answer = p.0; memory = p.1 }

pub returns-then-self-gt-LARGEST_SPACECRAFT : goal.returns-then-self-gt-LARGEST_SPACECRAFT
returns-then-self-gt-LARGEST_SPACECRAFT c =
    let a = c.args in
    let h = a.self in
    let e = ⊎_elim (writing_spacecraft (bit_of h.bypass) (bit_of h.control) h.number h.spacecraft h.channel a.field.now (length a.out.now) (omega arith) (omega arith))
    (λ k. writing_channel (bit_of h.bypass) (bit_of h.control) h.number h.spacecraft h.channel a.field.now (length a.out.now) (omega arith) (omega arith) k.0 k.1)
    c.then-self-gt-LARGEST_SPACECRAFT.either in
    let p = told e a.out.now in record { answer = p.0; memory = p.1 }

pub returns-then-out-n : goal.returns-then-out-n
returns-then-out-n c =
    let a = c.args in
    let h = a.self in
    let p = told (writing_room (bit_of h.bypass) (bit_of h.control) h.number h.spacecraft h.channel a.field.now (length a.out.now)
    (omega arith) (omega arith) (omega arith) (omega arith) (omega arith)) a.out.now in record { answer = p.0; memory = p.1 }

pub returns : goal.returns
returns c =
    let a = c.args in
    let h = a.self in
    let f = raw_frame (bit_of h.bypass) (bit_of h.control) h.number h.spacecraft h.channel a.field.now in
    let l : length f ≡ length a.field.now + 7 = length_frame (bit_of h.bypass) (bit_of h.control) h.number h.spacecraft h.channel a.field.now in
    let t = told (writing_done (bit_of h.bypass) (bit_of h.control) h.number h.spacecraft h.channel a.field.now (length a.out.now)
    (omega arith) (omega arith) (omega arith) (omega arith) (omega arith)) a.out.now in
    record { answer = ap (λ (n : ℕ). written_answer (Ok n)) (sym l) ∙ t.0; memory = c.put.ensures ∙ ap (λ (n : ℕ). f ++ drop n a.out.now) (sym l) ∙ t.1 }
