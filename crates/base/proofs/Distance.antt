-- Laws of how many bits differ: octet by octet (`wrong_octet`).
use mathlib.Core.Path.{◌≡◌, refl}
use mathlib.Core.List.{List, [], ◌∷◌, ◌++◌}
use Prim.Native.Nat.{ℕ, ◌+◌}
use native.Mathlib.Omega.{arith}
use lib.ListN.{length}
use Rattle.base.specs.Octets.{bits_of, octet_bits}
use Rattle.base.specs.Distance.{differing, wrong_bits}

-- of two parts, each of one length
pub differing_append : (xs ys xs' ys' : List ℕ) → length xs ≡ length ys → differing (xs ++ xs') (ys ++ ys') ≡ differing xs ys + differing xs' ys'
unfolding differing
differing_append [] [] xs' ys' e = omega arith
differing_append [] (y ∷ ys) xs' ys' e = absurd (omega arith)
differing_append (x ∷ xs) [] xs' ys' e = absurd (omega arith)
differing_append (x ∷ xs) (y ∷ ys) xs' ys' e =
    let r = differing_append xs ys xs' ys' (omega arith) in
    omega arith

-- of the first octet, and of the others
pub wrong_octet : (s r : ℕ) (sent received : List ℕ) → wrong_bits (s ∷ sent) (r ∷ received) ≡ differing (bits_of 8 s) (bits_of 8 r) + wrong_bits sent received
unfolding wrong_bits octet_bits bits_of
wrong_octet s r sent received = differing_append (bits_of 8 s) (bits_of 8 r) (octet_bits sent) (octet_bits received) refl
