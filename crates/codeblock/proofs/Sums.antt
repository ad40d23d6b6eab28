-- Clauses 8.2 and 8.5: the sum of a block of octets is its octets added up, each moved on through the shift register by the octets
-- behind it. It is the register over all but the last, a place up, and the last added (`total_control`). Octets move on by exclusive or, so
-- bits inverted in one octet add themselves, moved on (`total_flip`).
use mathlib.Core.Path.{◌≡◌, refl, sym, ap, ap₂, ◌∙◌}
use mathlib.Core.List.{List, [], ◌∷◌, ◌++◌}
use Prim.Native.Nat.{ℕ, zero, suc, ◌-◌, ◌*◌, ◌<◌}
use native.Mathlib.Nat.{add-zero, mul-one}
use native.Mathlib.Omega.{arith}
use borrow.Author.Tests.{ltb-true}
use lib.Bits.{bit_xor, xor_comm, xor_zero_r}
use lib.Dec.{ltb}
use lib.ListN.{length, get_or, set, length-append, length-set}
use Rattle.base.specs.Octets.{Octets}
use Rattle.base.specs.Register.{shift_bits, register}
use Rattle.base.proofs.Computed.{below, is_true}
use Rattle.base.proofs.Register.{shift_bits_lt}
use Rattle.base.proofs.Xor.{xor_assoc, swap, double}
use Rattle.base.proofs.Table.{shifts, shifts_xor, eight}
use Rattle.codeblock.specs.Codeblock.{generator, parity, error_control}

-- the register, a place up, moved on by eight bits, and by n octets
abbrev moved : ℕ → ℕ
moved = shifts 7 (generator * 2) 8

abbrev pub moved_by : ℕ → ℕ → ℕ
moved_by zero v = v
moved_by (suc n) v = moved_by n (moved v)

moved_lt : (v : ℕ) → v < 256 → moved v < 256
moved_lt v h = ltb-true (moved v) 256 (is_true (ltb (moved v) 256) (below (λ y. ltb (moved y) 256) 256 tt v h))

moved_by_xor : (n u v : ℕ) → u < 256 → v < 256 → moved_by n (bit_xor u v) ≡ bit_xor (moved_by n u) (moved_by n v)
moved_by_xor zero u v hu hv = refl
moved_by_xor (suc n) u v hu hv =
    ap (moved_by n) (shifts_xor 7 (generator * 2) (omega arith) 8 u v hu hv) ∙ moved_by_xor n (moved u) (moved v) (moved_lt u hu) (moved_lt v hv)

-- the sum of a block
unfoldable pub total : List ℕ → ℕ
total [] = 0
total (o ∷ s) = bit_xor (moved_by (length s) o) (total s)

-- the register over octets, a place up, and an octet e behind them
register_total : (s : List ℕ) (r e : ℕ) → r < 128 → Octets s
    → bit_xor (register 6 generator r s * 2) e ≡ bit_xor (moved_by (length s) (r * 2)) (total (s ++ (e ∷ [])))
unfolding register total
register_total [] r e hr h = ap (bit_xor (r * 2)) (sym (xor_zero_r e))
register_total (o ∷ s) r e hr h =
    let t = total (s ++ (e ∷ [])) in
    let l : suc (length s) ≡ length (s ++ (e ∷ [])) = omega (arith, length-append s (e ∷ [])) in
    register_total s (shift_bits 6 generator 8 r o) e (shift_bits_lt 6 generator (omega arith) 8 r o hr h.0) h.1
    ∙ ap (λ (x : ℕ). bit_xor (moved_by (length s) x) t) (sym (eight 6 generator 1 0 refl r o h.0))
    ∙ ap (λ (x : ℕ). bit_xor (moved_by (suc (length s)) (bit_xor (r * 2) x)) t) (mul-one o)
    ∙ ap (λ (x : ℕ). bit_xor x t) (moved_by_xor (suc (length s)) (r * 2) o (omega arith) h.0)
    ∙ xor_assoc (moved_by (suc (length s)) (r * 2)) (moved_by (suc (length s)) o) t
    ∙ ap (λ (n : ℕ). bit_xor (moved_by (suc (length s)) (r * 2)) (bit_xor (moved_by n o) t)) l

zero_moved : (n : ℕ) → moved_by n 0 ≡ 0
zero_moved zero = refl
zero_moved (suc n) = zero_moved n

-- the error control octet: the complemented bits and the parity bits added
pub control_is : (information : List ℕ) → error_control information ≡ bit_xor 0b1111_1110 (parity information * 2)
unfolding error_control
control_is information =
    add-zero (bit_xor (parity information) 0b111_1111 * 2)
    ∙ double (parity information) 0b111_1111
    ∙ xor_comm (parity information * 2) 0b1111_1110

-- the sum over information and an octet behind it
pub total_control : (information : List ℕ) (e : ℕ) → Octets information → bit_xor (parity information * 2) e ≡ total (information ++ (e ∷ []))
unfolding parity
total_control information e h =
    register_total information 0 e (omega arith) h ∙ ap (λ (x : ℕ). bit_xor x (total (information ++ (e ∷ [])))) (zero_moved (length information))

-- bits inverted in one octet add that octet's bits, moved on
pub total_flip : (s : List ℕ) (k m : ℕ) → k < length s → Octets s → m < 256
    → total (set s k (bit_xor (get_or s k 0) m)) ≡ bit_xor (total s) (moved_by (length s - 1 - k) m)
unfolding total
total_flip [] k m l h hm = absurd (omega arith)
total_flip (o ∷ s) zero m l h hm =
    let e : length s ≡ suc (length s) - 1 - 0 = omega arith in
    ap (λ (x : ℕ). bit_xor x (total s)) (moved_by_xor (length s) o m h.0 hm)
    ∙ swap (moved_by (length s) o) (moved_by (length s) m) (total s)
    ∙ ap (λ (n : ℕ). bit_xor (bit_xor (moved_by (length s) o) (total s)) (moved_by n m)) e
total_flip (o ∷ s) (suc k) m l h hm =
    let e : length s - 1 - k ≡ suc (length s) - 1 - suc k = omega arith in
    ap₂ (λ (n t : ℕ). bit_xor (moved_by n o) t) (length-set s k (bit_xor (get_or s k 0) m)) (total_flip s k m (omega arith) h.1 hm)
    ∙ sym (xor_assoc (moved_by (length s) o) (total s) (moved_by (length s - 1 - k) m))
    ∙ ap (λ (n : ℕ). bit_xor (bit_xor (moved_by (length s) o) (total s)) (moved_by n m)) e
