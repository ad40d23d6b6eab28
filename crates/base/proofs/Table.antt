-- The law that a table of 256 entries rests on: a register and the octet that comes in, added at their upper ends, are
-- shifted alike, so eight bits depend on that sum alone (`eight`), and shifts go through exclusive or (`shifts_xor`).
-- For a register of k + 1 bits, put a places up, and an octet, put c places up, with k + a ≡ 7 + c.
use mathlib.Core.Path.{◌≡◌, refl, sym, ap, ap₂, ◌∙◌, subst}
use Prim.Native.Nat.{ℕ, zero, suc, ◌+◌, ◌*◌, ◌/◌, ◌%◌, ◌^◌, ◌<◌}
use native.Mathlib.Nat.{add-zero, mul_assoc, mul-div-mul_right, mul_right_comm, mul-mod_left, zero-mul, mod-lt, pow-suc}
use native.Mathlib.Omega.{arith}
use lib.Bits.{bit_xor, xor_shr, xor_mod, xor_lt, xor_zero_r}
use lib.Pow.{pow_pos, pow-add, mod-pow-add, shl-shr}
use lib.Dec.{eqb, eqb→eq}
use Rattle.base.proofs.Computed.{below}
use Rattle.base.proofs.Xor.{scale, swap, four, bit_times}
use Rattle.base.proofs.Register.{top, leaves}
use Rattle.base.specs.Register.{shift_bit, shift_bits}

up_shr : (x k a : ℕ) → x * 2 ^ a / 2 ^ (k + a) ≡ x / 2 ^ k
up_shr x k a = ap (λ (m : ℕ). x * 2 ^ a / m) (pow-add 2 k a) ∙ mul-div-mul_right x (2 ^ k) (pow_pos a)

up_mod : (x k a : ℕ) → x * 2 ^ a % 2 ^ (k + a) ≡ x % 2 ^ k * 2 ^ a
up_mod x k a =
    mod-pow-add (x * 2 ^ a) k a
    ∙ ap₂ (λ (y z : ℕ). y % 2 ^ k * 2 ^ a + z) (shl-shr x a) (mul-mod_left x (2 ^ a))
    ∙ add-zero (x % 2 ^ k * 2 ^ a)

-- a shift of n + 1 bits by one place, in which m is added where a bit leaves
module _ (n m : ℕ) where
  abbrev pub shift : ℕ → ℕ
  shift v = bit_xor (v % 2 ^ n * 2) (v / 2 ^ n * m)

  abbrev pub shifts : ℕ → ℕ → ℕ
  shifts zero v = v
  shifts (suc j) v = shifts j (shift v)

  module _ (hm : m < 2 ^ n * 2) where
    shift_lt : (v : ℕ) → v < 2 ^ n * 2 → shift v < 2 ^ n * 2
    shift_lt v h =
        let l : v % 2 ^ n < 2 ^ n = mod-lt v (pow_pos n) in
        let w : bit_xor (v % 2 ^ n * 2) (v / 2 ^ n * m) < 2 ^ suc n =
        xor_lt (suc n) (v % 2 ^ n * 2) (v / 2 ^ n * m) (subst (λ (x : ℕ). v % 2 ^ n * 2 < x) (sym (pow-suc 2 n)) (omega arith))
        (subst (λ (x : ℕ). v / 2 ^ n * m < x) (sym (pow-suc 2 n)) (leaves n m hm (v / 2 ^ n) (top n v h))) in
        subst (λ (x : ℕ). shift v < x) (pow-suc 2 n) w

    shift_xor : (u v : ℕ) → u < 2 ^ n * 2 → v < 2 ^ n * 2 → shift (bit_xor u v) ≡ bit_xor (shift u) (shift v)
    shift_xor u v hu hv =
        ap₂ bit_xor
        (ap (λ (x : ℕ). x * 2) (xor_mod u v n) ∙ sym (scale 1 (u % 2 ^ n) (v % 2 ^ n)))
        (ap (λ (x : ℕ). x * m) (xor_shr u v n) ∙ bit_times m (u / 2 ^ n) (v / 2 ^ n) (top n u hu) (top n v hv))
        ∙ four (u % 2 ^ n * 2) (v % 2 ^ n * 2) (u / 2 ^ n * m) (v / 2 ^ n * m)

    pub shifts_xor : (j u v : ℕ) → u < 2 ^ n * 2 → v < 2 ^ n * 2 → shifts j (bit_xor u v) ≡ bit_xor (shifts j u) (shifts j v)
    shifts_xor zero u v hu hv = refl
    shifts_xor (suc j) u v hu hv =
        ap (shifts j) (shift_xor u v hu hv) ∙ shifts_xor j (shift u) (shift v) (shift_lt u hu) (shift_lt v hv)

-- what is left of an octet
abbrev rest : ℕ → ℕ → ℕ
rest zero o = o
rest (suc n) o = rest n (o % 128 * 2)

module _ (k g a c : ℕ) (h : k + a ≡ 7 + c) where
  comb_shr : (r o : ℕ) → bit_xor (r * 2 ^ a) (o * 2 ^ c) / 2 ^ (k + a) ≡ bit_xor (r / 2 ^ k) (o / 128)
  comb_shr r o =
      xor_shr (r * 2 ^ a) (o * 2 ^ c) (k + a)
      ∙ ap₂ bit_xor (up_shr r k a) (ap (λ (m : ℕ). o * 2 ^ c / 2 ^ m) h ∙ up_shr o 7 c)

  comb_mod : (r o : ℕ) → bit_xor (r * 2 ^ a) (o * 2 ^ c) % 2 ^ (k + a) ≡ bit_xor (r % 2 ^ k * 2 ^ a) (o % 128 * 2 ^ c)
  comb_mod r o =
      xor_mod (r * 2 ^ a) (o * 2 ^ c) (k + a)
      ∙ ap₂ bit_xor (up_mod r k a) (ap (λ (m : ℕ). o * 2 ^ c % 2 ^ m) h ∙ up_mod o 7 c)

  step : (r o : ℕ) → bit_xor (shift_bit k g r (o / 128) * 2 ^ a) (o % 128 * 2 * 2 ^ c) ≡ shift (k + a) (g * 2 ^ a) (bit_xor (r * 2 ^ a) (o * 2 ^ c))
  unfolding shift_bit
  step r o =
      ap (λ (x : ℕ). bit_xor x (o % 128 * 2 * 2 ^ c)) (sym (scale a (r % 2 ^ k * 2) (bit_xor (r / 2 ^ k) (o / 128) * g)))
      ∙ swap (r % 2 ^ k * 2 * 2 ^ a) (bit_xor (r / 2 ^ k) (o / 128) * g * 2 ^ a) (o % 128 * 2 * 2 ^ c)
      ∙ ap₂ bit_xor
      (ap₂ bit_xor (mul_right_comm (r % 2 ^ k) 2 (2 ^ a)) (mul_right_comm (o % 128) 2 (2 ^ c))
      ∙ scale 1 (r % 2 ^ k * 2 ^ a) (o % 128 * 2 ^ c)
      ∙ ap (λ (x : ℕ). x * 2) (sym (comb_mod r o)))
      (mul_assoc (bit_xor (r / 2 ^ k) (o / 128)) g (2 ^ a) ∙ ap (λ (x : ℕ). x * (g * 2 ^ a)) (sym (comb_shr r o)))

  steps : (n r o : ℕ) → shifts (k + a) (g * 2 ^ a) n (bit_xor (r * 2 ^ a) (o * 2 ^ c)) ≡ bit_xor (shift_bits k g n r o * 2 ^ a) (rest n o * 2 ^ c)
  unfolding shift_bits
  steps zero r o = refl
  steps (suc n) r o =
      ap (shifts (k + a) (g * 2 ^ a) n) (sym (step r o)) ∙ steps n (shift_bit k g r (o / 128)) (o % 128 * 2)

  -- eight bits are eight shifts of the sum
  pub eight : (r o : ℕ) → o < 256 → shifts (k + a) (g * 2 ^ a) 8 (bit_xor (r * 2 ^ a) (o * 2 ^ c)) ≡ shift_bits k g 8 r o * 2 ^ a
  eight r o ho =
      steps 8 r o
      ∙ ap (λ (x : ℕ). bit_xor (shift_bits k g 8 r o * 2 ^ a) (x * 2 ^ c)) (eqb→eq _ _ (below (λ x. eqb (rest 8 x) 0) 256 tt o ho))
      ∙ ap (bit_xor (shift_bits k g 8 r o * 2 ^ a)) (zero-mul (2 ^ c))
      ∙ xor_zero_r (shift_bits k g 8 r o * 2 ^ a)
