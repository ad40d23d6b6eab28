-- A bit behind the octets changes nothing; any other is inverted by its weight.
use mathlib.Core.Path.{◌≡◌, sym, ap₂}
use Prim.Native.Nat.{ℕ, ◌-◌, ◌/◌, ◌%◌, ◌^◌, ◌<◌}
use native.Mathlib.Omega.{arith}
use lib.Bits.{bit_xor}
use lib.Dec.{eqb, eqb→eq}
use lib.ListN.{get_or, set}
use lib.Seq.{set_out}
use Rattle.base.proofs.Computed.{below}
use Rattle.codeblock.specs.Codeblock.{flipped}
use Rattle.encoded_data.proofs.block.invert.Goals as goal

weight : (k : ℕ) → k < 8 → 128 / 2 ^ k ≡ 2 ^ (7 - k)
weight k h = eqb→eq (128 / 2 ^ k) (2 ^ (7 - k)) (below (λ j. eqb (128 / 2 ^ j) (2 ^ (7 - j))) 8 tt k h)

pub returns-then-octet-octets : goal.returns-then-octet-octets
unfolding flipped
returns-then-octet-octets c =
    let a = c.args in
    let s = a.octets.now in
    ap₂ (λ (i m : ℕ). set s i (bit_xor (get_or s i 0) m)) c.from-octet.ensures (weight (a.bit % 8) (omega arith))

pub returns-else-octet-octets : goal.returns-else-octet-octets
unfolding flipped
returns-else-octet-octets c =
    let a = c.args in
    sym (set_out a.octets.now (a.bit / 8) _ (omega arith))
