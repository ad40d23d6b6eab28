-- Numbers of two octets, the most significant first, as the library joins and parts them.
use Rattle.std.proofs.Common.{◌≡◌, ℕ, ◌+◌, ◌*◌, ◌/◌, ◌%◌, ◌<◌, [], ◌∷◌, arith}
use Rattle.std.proofs.lemmas.Grind.{common_steps}
use Rattle.std.specs.Int.{w16, from_be_bytes, to_be_bytes}

pub pair_joined : (high low : ℕ) → from_be_bytes w16 (high ∷ low ∷ []) ≡ high * 256 + low
pair_joined high low = grind (arith, common_steps)

pub pair_parted : (n : ℕ) → n < 65536 → to_be_bytes w16 n ≡ (n / 256) ∷ (n % 256) ∷ []
pair_parted n h = grind (arith, common_steps)
