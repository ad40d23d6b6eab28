-- The register keeps its width; and the invariants of the loops that shift an octet in bit by bit, and octets one by one.
use mathlib.Core.Path.{◌≡◌, sym, ap, ◌∙◌, subst}
use mathlib.Core.List.{List, [], ◌∷◌}
use Prim.Native.Nat.{ℕ, zero, suc, ◌+◌, ◌-◌, ◌*◌, ◌/◌, ◌%◌, ◌^◌, ◌<◌, ◌≤◌}
use native.Mathlib.Nat.{mul_comm, zero-mul, one-mul, mod-lt, pow-suc, div-lt_iff_lt-mul}
use native.Mathlib.Omega.{arith}
use lib.Bits.{bit_xor, xor_lt}
use lib.Pow.{pow_pos}
use lib.ListN.{length, drop, get_or, drop_of_length-le}
use Rattle.base.specs.Octets.{Octets}
use Rattle.base.specs.Register.{shift_bit, shift_bits, register}
use Rattle.base.proofs.Lists.{next}

-- the bit that leaves, and what it adds
pub top : (k v : ℕ) → v < 2 ^ k * 2 → v / 2 ^ k < 2
top k v h = (div-lt_iff_lt-mul (pow_pos k)).1 (subst (λ (x : ℕ). v < x) (mul_comm (2 ^ k) 2) h)

module _ (k g : ℕ) (hg : g < 2 ^ k * 2) where
  pub leaves : (q : ℕ) → q < 2 → q * g < 2 ^ k * 2
  leaves zero h = omega (arith, zero-mul g)
  leaves (suc zero) h = omega (arith, one-mul g)
  leaves (suc (suc q)) h = absurd (omega arith)

  pub shift_bit_lt : (r b : ℕ) → r < 2 ^ k * 2 → b < 2 → shift_bit k g r b < 2 ^ k * 2
  unfolding shift_bit
  shift_bit_lt r b hr hb =
      let l : r % 2 ^ k < 2 ^ k = mod-lt r (pow_pos k) in
      subst (λ (x : ℕ). bit_xor (r % 2 ^ k * 2) (bit_xor (r / 2 ^ k) b * g) < x) (pow-suc 2 k)
      (xor_lt (suc k) (r % 2 ^ k * 2) (bit_xor (r / 2 ^ k) b * g) (subst (λ (x : ℕ). r % 2 ^ k * 2 < x) (sym (pow-suc 2 k)) (omega arith))
      (subst (λ (x : ℕ). bit_xor (r / 2 ^ k) b * g < x) (sym (pow-suc 2 k))
      (leaves (bit_xor (r / 2 ^ k) b) (xor_lt 1 (r / 2 ^ k) b (top k r hr) hb))))

  pub shift_bits_lt : (n r o : ℕ) → r < 2 ^ k * 2 → o < 256 → shift_bits k g n r o < 2 ^ k * 2
  unfolding shift_bits
  shift_bits_lt zero r o hr ho = hr
  shift_bits_lt (suc n) r o hr ho =
      shift_bits_lt n (shift_bit k g r (o / 128)) (o % 128 * 2) (shift_bit_lt r (o / 128) hr (omega arith)) (omega arith)

  pub register_lt : (s : List ℕ) (r : ℕ) → r < 2 ^ k * 2 → Octets s → register k g r s < 2 ^ k * 2
  unfolding register
  register_lt [] r hr h = hr
  register_lt (o ∷ s) r hr h = register_lt s (shift_bits k g 8 r o) (shift_bits_lt 8 r o hr h.0) h.1

-- A loop over the bits of an octet: those that are left, shifted into the register so far, give what all eight give.
pub record BitsLeft (k g start octet r bits left : ℕ) : Type 0 where
  pub same : shift_bits k g left r bits ≡ shift_bits k g 8 start octet
  pub within : bits < 256
  pub few : left ≤ 8

module _ {k g start octet r bits left : ℕ} (h : BitsLeft k g start octet r bits left) where
  pub bit_shifted : {q : ℕ} → 0 < left → q ≡ shift_bit k g r (bits / 128) → BitsLeft k g start octet q (bits % 128 * 2) (left - 1)
  unfolding shift_bits
  bit_shifted {q} l e = record {
    same = rw e (sym (one_less_lem left l) ∙ h.same);
    within = omega arith;
    few = omega (arith, h.few);
  }
    where
      one_less_lem : (n : ℕ) → 0 < n → shift_bits k g n r bits ≡ shift_bits k g (n - 1) (shift_bit k g r (bits / 128)) (bits % 128 * 2)
      one_less_lem zero l = absurd (omega arith)
      one_less_lem (suc n) l =
          let e : n ≡ suc n - 1 = omega arith in
          ap (λ (j : ℕ). shift_bits k g j (shift_bit k g r (bits / 128)) (bits % 128 * 2)) e

  pub bits_shifted : left ≤ 0 → r ≡ shift_bits k g 8 start octet
  unfolding shift_bits
  bits_shifted l =
      let z : left ≡ 0 = omega arith in
      rw z at h.same

-- A loop over octets: those from place i on, shifted into the register so far, give what all give.
pub record OctetsLeft (k g start : ℕ) (s : List ℕ) (r i : ℕ) : Type 0 where
  pub same : register k g r (drop i s) ≡ register k g start s
  pub within : i ≤ length s

module _ {k g start : ℕ} {s : List ℕ} {r i : ℕ} (h : OctetsLeft k g start s r i) where
  pub octet_shifted : {q : ℕ} → i < length s → q ≡ shift_bits k g 8 r (get_or s i 0) → OctetsLeft k g start s q (i + 1)
  unfolding register
  octet_shifted {q} l e = record {
    same = rw e (sym (ap (register k g r) (next s i l)) ∙ h.same);
    within = omega arith;
  }

  pub octets_shifted : length s ≤ i → r ≡ register k g start s
  unfolding register
  octets_shifted l = sym (ap (register k g r) (drop_of_length-le s l)) ∙ h.same
