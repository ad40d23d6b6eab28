-- The bits of octets: they tell the octets, and where none is wrong the octets are the same (`none_wrong_lem`).
use mathlib.Core.Path.{◌≡◌, refl, sym, ap, ap₂, ◌∙◌}
use mathlib.Core.List.{List, [], ◌∷◌}
use Prim.Native.Nat.{ℕ, ◌+◌, ◌<◌}
use native.Mathlib.Omega.{arith}
use lib.Bits.{xor_self}
use lib.ListN.{length, take, drop}
use Rattle.base.specs.Fields.{value_of}
use Rattle.base.specs.Octets.{Octets, bits_of, octet_bits}
use Rattle.base.proofs.Fields.{octet_digits, value_field, length_bits}
use Rattle.base.proofs.Xor.{xor_equal}
use Rattle.base.specs.Distance.{differing, wrong_bits}

octet_told : (o p : ℕ) → o < 256 → p < 256 → bits_of 8 o ≡ bits_of 8 p → o ≡ p
octet_told o p ho hp e =
    sym (ap (value_of 0) (octet_digits o ho) ∙ value_field 8 o ho) ∙ ap (value_of 0) e ∙ ap (value_of 0) (octet_digits p hp) ∙ value_field 8 p hp

octets_told : (s t : List ℕ) → length s ≡ length t → Octets s → Octets t → octet_bits s ≡ octet_bits t → s ≡ t
unfolding octet_bits bits_of
octets_told [] [] l h k e = refl
octets_told [] (p ∷ t) l h k e = absurd (omega arith)
octets_told (o ∷ s) [] l h k e = absurd (omega arith)
octets_told (o ∷ s) (p ∷ t) l h k e =
    ap₂ (λ (x : ℕ) (xs : List ℕ). x ∷ xs) (octet_told o p h.0 k.0 (ap (take 8) e)) (octets_told s t (omega arith) h.1 k.1 (ap (drop 8) e))

none_differing : (xs ys : List ℕ) → length xs ≡ length ys → differing xs ys ≡ 0 → xs ≡ ys
unfolding differing
none_differing [] [] l e = refl
none_differing [] (y ∷ ys) l e = absurd (omega arith)
none_differing (x ∷ xs) [] l e = absurd (omega arith)
none_differing (x ∷ xs) (y ∷ ys) l e =
    ap₂ (λ (b : ℕ) (bs : List ℕ). b ∷ bs) (xor_equal x y (omega arith)) (none_differing xs ys (omega arith) (omega arith))

pub none_wrong_lem : (sent received : List ℕ) → length sent ≡ length received → Octets sent → Octets received → wrong_bits sent received ≡ 0 → sent ≡ received
unfolding wrong_bits
none_wrong_lem sent received l h k e =
    octets_told sent received l h k (none_differing (octet_bits sent) (octet_bits received) (omega (arith, length_bits sent, length_bits received)) e)

-- nothing is wrong in what is the same
self_differing : (xs : List ℕ) → differing xs xs ≡ 0
unfolding differing
self_differing [] = refl
self_differing (x ∷ xs) = ap₂ ◌+◌ (xor_self x) (self_differing xs)

pub self_wrong : (s : List ℕ) → wrong_bits s s ≡ 0
unfolding wrong_bits
self_wrong s = self_differing (octet_bits s)
