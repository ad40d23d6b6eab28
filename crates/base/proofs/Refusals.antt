-- Every refusal has a number from 1 to 13.
use mathlib.Core.Path.{◌≡◌}
use Prim.Native.Nat.{ℕ}
use native.Mathlib.Omega.{arith}
use Rattle.base.specs.Refusals.{refusal_number}
use Rattle.base.specs.declared.Refusal.{Refusal}
use Rattle.base.specs.declared.Refusal.TheVariants.{NoStart, NoBlock, NoEnd, Short, Fill, Header, Address, Check, Command, Length, Room, Setting, Release}

pub some_number : (refusal : Refusal) → refusal_number refusal ≡ 0 → ⊥
some_number (NoStart place) e = omega arith
some_number (NoBlock place) e = omega arith
some_number (NoEnd place) e = omega arith
some_number Short e = omega arith
some_number Fill e = omega arith
some_number Header e = omega arith
some_number Address e = omega arith
some_number Check e = omega arith
some_number Command e = omega arith
some_number Length e = omega arith
some_number Room e = omega arith
some_number Setting e = omega arith
some_number Release e = omega arith
