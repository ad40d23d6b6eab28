-- Each bit is at most 1, so the sum fits an octet.
use mathlib.Core.Path.{◌≡◌}
use mathlib.Core.Bool.{Bool, true, false}
use Prim.Native.Nat.{ℕ, ◌≤◌}
use native.Mathlib.Omega.{arith}
use mir.Val.{bool_byte}
use Rattle.sender_octets.proofs.writer.flags_of.Goals as goal

at_most_one : {n : ℕ} (b : Bool) → n ≡ bool_byte b → n ≤ 1
at_most_one true e = omega arith
at_most_one false e = omega arith

pub overflow_mul-result-3 : goal.overflow_mul-result-3
overflow_mul-result-3 c = record { fits = omega (arith, at_most_one _ c.from-waiting.ensures) }

pub overflow_add-result-3 : goal.overflow_add-result-3
overflow_add-result-3 c =
    record {
      fits = omega (arith, at_most_one _ c.from-ad_out.ensures, at_most_one _ c.from-bc_out.ensures, at_most_one _ c.from-bd_out.ensures, at_most_one _ c.from-waiting.ensures);
    }

pub overflow_add-result-4 : goal.overflow_add-result-4
overflow_add-result-4 c =
    record {
      fits =
          omega
          (arith, at_most_one _ c.from-ad_out.ensures, at_most_one _ c.from-bc_out.ensures, at_most_one _ c.from-bd_out.ensures, at_most_one _ c.from-waiting.ensures, at_most_one _ c.from-marked.ensures);
    }
