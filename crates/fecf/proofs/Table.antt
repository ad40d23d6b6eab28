-- An octet more: the lower octet moves up, and the upper octet, with the octet added, goes by a table whose lower octet tells the place.
use mathlib.Core.Path.{◌≡◌, refl, sym, ap, ap₂, ◌∙◌}
use Prim.Native.Nat.{ℕ, ◌*◌, ◌/◌, ◌%◌, ◌<◌}
use native.Mathlib.Nat.{mul-one}
use native.Mathlib.Omega.{arith}
use lib.Bits.{bit_xor, xor_shifted, xor_lt, xor_comm, xor_self, xor_zero_r, xor_shr, xor_mod}
use lib.Pow.{split}
use lib.Dec.{eqb, eqb→eq}
use Rattle.base.specs.Register.{shift_bit, shift_bits}
use Rattle.base.proofs.Computed.{below}
use Rattle.base.proofs.Register.{shift_bits_lt}
use Rattle.base.proofs.Xor.{xor_assoc, xor_undo, scale}
use Rattle.base.proofs.Table.{shifts, shifts_xor, eight}
use Rattle.fecf.specs.Fecf.{generator}

-- eight bits into the register, and the table's entry: eight bits into a register of zero
abbrev pub octet : ℕ → ℕ → ℕ
octet = shift_bits 15 generator 8

abbrev pub entry : ℕ → ℕ
entry = octet 0

abbrev moves : ℕ → ℕ
moves = shifts 15 generator 8

parts : (r o : ℕ) → bit_xor (r * 1) (o * 256) ≡ bit_xor (r % 256) (bit_xor (r / 256) o * 256)
parts r o =
    ap (λ (x : ℕ). bit_xor x (o * 256))
    (mul-one r ∙ sym (split r 8) ∙ sym (xor_shifted (r / 256) 8 (r % 256) (omega arith)) ∙ xor_comm (r / 256 * 256) (r % 256))
    ∙ xor_assoc (r % 256) (r / 256 * 256) (o * 256)
    ∙ ap (bit_xor (r % 256)) (scale 8 (r / 256) o)

low : (x : ℕ) → x < 256 → moves x ≡ x * 256
low x h = eqb→eq _ _ (below (λ y. eqb (moves y) (y * 256)) 256 tt x h)

pub by_table_lem : (r o : ℕ) → r < 65536 → o < 256 → octet r o ≡ bit_xor (r % 256 * 256) (entry (bit_xor (r / 256) o))
by_table_lem r o hr ho =
    let hx : bit_xor (r / 256) o < 256 = xor_lt 8 (r / 256) o (omega arith) ho in
    sym (mul-one (octet r o))
    ∙ sym (eight 15 generator 0 8 refl r o ho)
    ∙ ap moves (parts r o)
    ∙ shifts_xor 15 generator (omega arith) 8 (r % 256) (bit_xor (r / 256) o * 256) (omega arith) (omega arith)
    ∙ ap₂ bit_xor (low (r % 256) (omega arith)) (eight 15 generator 0 8 refl 0 (bit_xor (r / 256) o) hx ∙ mul-one (entry (bit_xor (r / 256) o)))

-- the place of an entry in the table, from the entry's lower octet
abbrev folded : ℕ → ℕ
folded y = bit_xor y (y / 16)

abbrev back : ℕ → ℕ
back y = folded (bit_xor y (y % 8 * 32))

entry_back : (x : ℕ) → x < 256 → back (entry x % 256) ≡ x
unfolding shift_bits shift_bit
entry_back x h = eqb→eq _ _ (below (λ y. eqb (back (entry y % 256)) y) 256 tt x h)

-- the two octets of the register after an octet
octet_low : (r o : ℕ) → r < 65536 → o < 256 → octet r o % 256 ≡ entry (bit_xor (r / 256) o) % 256
octet_low r o hr ho =
    let z : r % 256 * 256 % 256 ≡ 0 = omega arith in
    ap (λ (x : ℕ). x % 256) (by_table_lem r o hr ho)
    ∙ xor_mod (r % 256 * 256) (entry (bit_xor (r / 256) o)) 8
    ∙ ap (λ (x : ℕ). bit_xor x (entry (bit_xor (r / 256) o) % 256)) z

octet_high : (r o : ℕ) → r < 65536 → o < 256 → octet r o / 256 ≡ bit_xor (r % 256) (entry (bit_xor (r / 256) o) / 256)
octet_high r o hr ho =
    let z : r % 256 * 256 / 256 ≡ r % 256 = omega arith in
    ap (λ (x : ℕ). x / 256) (by_table_lem r o hr ho)
    ∙ xor_shr (r % 256 * 256) (entry (bit_xor (r / 256) o)) 8
    ∙ ap (λ (x : ℕ). bit_xor x (entry (bit_xor (r / 256) o) / 256)) z

-- what is added on both sides goes
cancel_right : (a b c : ℕ) → bit_xor a c ≡ bit_xor b c → a ≡ b
cancel_right a b c e = sym (xor_undo a c) ∙ ap (λ (x : ℕ). bit_xor x c) e ∙ xor_undo b c

cancel_left : (a b c : ℕ) → bit_xor c a ≡ bit_xor c b → a ≡ b
cancel_left a b c e = cancel_right a b c (xor_comm a c ∙ e ∙ xor_comm c b)

-- the register after an octet tells, by its lower octet, the sum of the upper octet and the octet; and then the lower octet before
upper_same : (r s o p : ℕ) → r < 65536 → s < 65536 → o < 256 → p < 256 → octet r o % 256 ≡ octet s p % 256 → bit_xor (r / 256) o ≡ bit_xor (s / 256) p
upper_same r s o p hr hs ho hp e =
    sym (entry_back (bit_xor (r / 256) o) (xor_lt 8 (r / 256) o (omega arith) ho))
    ∙ ap back (sym (octet_low r o hr ho) ∙ e ∙ octet_low s p hs hp)
    ∙ entry_back (bit_xor (s / 256) p) (xor_lt 8 (s / 256) p (omega arith) hp)

lower_same : (r s o p : ℕ) → r < 65536 → s < 65536 → o < 256 → p < 256 → octet r o ≡ octet s p → r % 256 ≡ s % 256
lower_same r s o p hr hs ho hp e =
    let u : bit_xor (r / 256) o ≡ bit_xor (s / 256) p = upper_same r s o p hr hs ho hp (ap (λ (x : ℕ). x % 256) e) in
    cancel_right (r % 256) (s % 256) (entry (bit_xor (s / 256) p) / 256)
    (ap (λ (x : ℕ). bit_xor (r % 256) (entry x / 256)) (sym u)
    ∙ sym (octet_high r o hr ho)
    ∙ ap (λ (x : ℕ). x / 256) e
    ∙ octet_high s p hs hp)

-- eight bits lose nothing: from one register on, different octets end apart; by one octet, different registers end apart
pub octet_same : (r o p : ℕ) → r < 65536 → o < 256 → p < 256 → octet r o % 256 ≡ octet r p % 256 → o ≡ p
octet_same r o p hr ho hp e = cancel_left o p (r / 256) (upper_same r r o p hr hr ho hp e)

pub register_same : (r s o : ℕ) → r < 65536 → s < 65536 → o < 256 → octet r o ≡ octet s o → r ≡ s
register_same r s o hr hs ho e =
    let u : r / 256 ≡ s / 256 = cancel_right (r / 256) (s / 256) o (upper_same r s o o hr hs ho ho (ap (λ (x : ℕ). x % 256) e)) in
    let l : r % 256 ≡ s % 256 = lower_same r s o o hr hs ho ho e in
    omega arith

pub octet_lt : (r o : ℕ) → r < 65536 → o < 256 → octet r o < 65536
octet_lt r o hr ho = shift_bits_lt 15 generator (omega arith) 8 r o hr ho

-- from one register on, different pairs of octets end apart
pub pair_same : (r a b c d : ℕ) → r < 65536 → a < 256 → b < 256 → c < 256 → d < 256 → octet (octet r a) b ≡ octet (octet r c) d → (a ≡ c) × (b ≡ d)
pair_same r a b c d hr ha hb hc hd e =
    let f : a ≡ c = octet_same r a c hr ha hc (lower_same (octet r a) (octet r c) b d (octet_lt r a hr ha) (octet_lt r c hr hc) hb hd e) in (
      f,
      octet_same (octet r c) b d (octet_lt r c hr hc) hb hd (ap (λ (x : ℕ). x % 256) (ap (λ (x : ℕ). octet (octet r x) b) (sym f) ∙ e)),
    )

-- the register's own upper octet leaves the lower octet, moved up; both its octets leave zero
own : (r : ℕ) → r < 65536 → octet r (r / 256) ≡ r % 256 * 256
unfolding shift_bits shift_bit
own r hr =
    by_table_lem r (r / 256) hr (omega arith)
    ∙ ap (λ (x : ℕ). bit_xor (r % 256 * 256) (entry x)) (xor_self (r / 256))
    ∙ xor_zero_r (r % 256 * 256)

pub own_pair : (r : ℕ) → r < 65536 → octet (octet r (r / 256)) (r % 256) ≡ 0
own_pair r hr =
    let u : r % 256 ≡ r % 256 * 256 / 256 = omega arith in
    let z : r % 256 * 256 % 256 * 256 ≡ 0 = omega arith in
    ap (λ (x : ℕ). octet x (r % 256)) (own r hr) ∙ ap (octet (r % 256 * 256)) u ∙ own (r % 256 * 256) (omega arith) ∙ z
