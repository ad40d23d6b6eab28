-- The register holds a remainder: r x^n + m x^(k+1) = q G + register, for m of n bits (`register_remainder`), and a
-- dividend has one remainder only (`one_remainder`). Both for every width, generator and preset.
use mathlib.Core.Path.{◌≡◌, refl, sym, ap, ap₂, ◌∙◌, subst}
use mathlib.Core.Logic.{◌⊎◌, inl, inr, ⊎_elim}
use mathlib.Core.List.{List, [], ◌∷◌, ◌++◌}
use Prim.Native.Nat.{ℕ, zero, suc, ◌+◌, ◌*◌, ◌/◌, ◌%◌, ◌^◌, ◌<◌, ◌≤◌}
use native.Mathlib.Nat.{pow-suc, mod-lt, mul_assoc, mul-add, div-add-mod', div-eq_of_lt, le-div_iff_mul-le, mul-div-mul_right, zero-mul, one-mul}
use native.Mathlib.Omega.{arith}
use lib.Bits.{bit_xor, xor_shifted, xor_comm, xor_lt, xor_shr, xor_zero_r}
use lib.ListN.{length, replicate, length-append, length-replicate}
use lib.Pow.{pow_pos}
use Rattle.base.specs.Register.{shift_bit, shift_bits, register}
use Rattle.base.specs.Octets.{Bits, Octets, bits_of, octet_bits}
use Rattle.base.specs.Polynomial.{horner, times, Remainder}
use Rattle.base.proofs.Lists.{below_append}
use Rattle.base.proofs.Xor.{xor_assoc, xor_undo, xor_equal, across, scale, swap, four, double, bit_times}
use Rattle.base.proofs.Register.{top, leaves, shift_bit_lt, register_lt}

module _ (k g : ℕ) (hg : g < 2 ^ k * 2) where
  -- the generator with its highest term
  abbrev pub whole : ℕ
  whole = 2 ^ suc k + g

  abbrev leaving : ℕ → ℕ → ℕ
  leaving r b = bit_xor (r / 2 ^ k) b

  wide : (x : ℕ) → x < 2 ^ k * 2 → x < 2 ^ suc k
  wide x h = subst (λ (m : ℕ). x < m) (sym (pow-suc 2 k)) h

  doubled : (r : ℕ) → r * 2 ≡ bit_xor (r / 2 ^ k * 2 ^ suc k) (r % 2 ^ k * 2)
  doubled r =
      let l : r % 2 ^ k < 2 ^ k = mod-lt r (pow_pos k) in
      let e : r / 2 ^ k * 2 ^ k + r % 2 ^ k ≡ r = div-add-mod' r (2 ^ k) in
      let p : r / 2 ^ k * (2 ^ k * 2) ≡ r / 2 ^ k * 2 ^ k * 2 = sym (mul_assoc (r / 2 ^ k) (2 ^ k) 2) in
      let s : r / 2 ^ k * 2 ^ suc k ≡ r / 2 ^ k * 2 ^ k * 2 = ap (λ (m : ℕ). r / 2 ^ k * m) (pow-suc 2 k) ∙ p in
      let x = xor_shifted (r / 2 ^ k) (suc k) (r % 2 ^ k * 2) (wide (r % 2 ^ k * 2) (omega arith)) in
      omega (arith, e, s, x)

  leaving_lt : (r b : ℕ) → r < 2 ^ k * 2 → b < 2 → leaving r b < 2
  leaving_lt r b hr hb = xor_lt 1 (r / 2 ^ k) b (top k r hr) hb

  split : (t : ℕ) → t < 2 → t * whole ≡ bit_xor (t * 2 ^ suc k) (t * g)
  split t h = mul-add t (2 ^ suc k) g ∙ sym (xor_shifted t (suc k) (t * g) (wide (t * g) (leaves k g hg t h)))

  cancel : (t l b c : ℕ) → bit_xor (bit_xor t l) b ≡ bit_xor (bit_xor (bit_xor t b) c) (bit_xor l c)
  cancel t l b c =
      swap t l b
      ∙ sym (ap (λ (x : ℕ). bit_xor (bit_xor t b) x) (xor_comm c (bit_xor l c) ∙ xor_undo l c))
      ∙ sym (xor_assoc (bit_xor t b) c (bit_xor l c))

  -- one bit: r x + b x^(k+1) = t G + the register after it, t the bit that leaves
  pub one : (r b : ℕ) → r < 2 ^ k * 2 → b < 2 → bit_xor (r * 2) (b * 2 ^ suc k) ≡ bit_xor (leaving r b * whole) (shift_bit k g r b)
  unfolding shift_bit
  one r b hr hb =
      ap (λ (x : ℕ). bit_xor x (b * 2 ^ suc k)) (doubled r)
      ∙ cancel (r / 2 ^ k * 2 ^ suc k) (r % 2 ^ k * 2) (b * 2 ^ suc k) (leaving r b * g)
      ∙ ap (λ (x : ℕ). bit_xor (bit_xor x (leaving r b * g)) (shift_bit k g r b)) (scale (suc k) (r / 2 ^ k) b)
      ∙ ap (λ (x : ℕ). bit_xor x (shift_bit k g r b)) (sym (split (leaving r b) (leaving_lt r b hr hb)))

  -- the register over bits, and the bits that leave it: the quotient
  abbrev over_bits : ℕ → List ℕ → ℕ
  over_bits r [] = r
  over_bits r (b ∷ bs) = over_bits (shift_bit k g r b) bs

  abbrev pub quotient : ℕ → List ℕ → List ℕ
  quotient r [] = []
  quotient r (b ∷ bs) = leaving r b ∷ quotient (shift_bit k g r b) bs

  go : (bs : List ℕ) (a r : ℕ) → r < 2 ^ k * 2 → Bits bs
      → horner (2 ^ suc k) (bit_xor a r) bs ≡ bit_xor (horner whole a (quotient r bs)) (over_bits r bs)
  unfolding horner
  go [] a r hr h = refl
  go (b ∷ bs) a r hr h =
      ap (λ (x : ℕ). horner (2 ^ suc k) x bs)
      (ap (λ (x : ℕ). bit_xor x (b * 2 ^ suc k)) (double a r)
      ∙ xor_assoc (a * 2) (r * 2) (b * 2 ^ suc k)
      ∙ ap (bit_xor (a * 2)) (one r b hr h.0)
      ∙ sym (xor_assoc (a * 2) (leaving r b * whole) (shift_bit k g r b)))
      ∙ go bs (bit_xor (a * 2) (leaving r b * whole)) (shift_bit k g r b) (shift_bit_lt k g hg r b hr h.0) h.1

  -- r x^n + m x^(k+1) = q G + the register
  pub division : (bs : List ℕ) (r : ℕ) → r < 2 ^ k * 2 → Bits bs
      → horner (2 ^ suc k) r bs ≡ bit_xor (horner whole 0 (quotient r bs)) (over_bits r bs)
  division bs r hr h = go bs 0 r hr h

  over_bits_append : (xs ys : List ℕ) (r : ℕ) → over_bits r (xs ++ ys) ≡ over_bits (over_bits r xs) ys
  over_bits_append [] ys r = refl
  over_bits_append (x ∷ xs) ys r = over_bits_append xs ys (shift_bit k g r x)

  over_bits_octet : (n r o : ℕ) → over_bits r (bits_of n o) ≡ shift_bits k g n r o
  unfolding bits_of shift_bits
  over_bits_octet zero r o = refl
  over_bits_octet (suc n) r o = over_bits_octet n (shift_bit k g r (o / 128)) (o % 128 * 2)

  -- the register over octets is the one over their bits
  register_bits : (s : List ℕ) (r : ℕ) → register k g r s ≡ over_bits r (octet_bits s)
  unfolding octet_bits register
  register_bits [] r = refl
  register_bits (o ∷ s) r =
      register_bits s (shift_bits k g 8 r o)
      ∙ ap (λ (x : ℕ). over_bits x (octet_bits s)) (sym (over_bits_octet 8 r o))
      ∙ sym (over_bits_append (bits_of 8 o) (octet_bits s) r)

  bits_of_lem : (n o : ℕ) → o < 256 → Bits (bits_of n o)
  unfolding bits_of
  bits_of_lem zero o h = tt
  bits_of_lem (suc n) o h = (omega arith, bits_of_lem n (o % 128 * 2) (omega arith))

  bits_octets : (s : List ℕ) → Octets s → Bits (octet_bits s)
  unfolding octet_bits
  bits_octets [] h = tt
  bits_octets (o ∷ s) h = below_append 2 (bits_of 8 o) (octet_bits s) (bits_of_lem 8 o h.0) (bits_octets s h.1)

  bits_quotient : (bs : List ℕ) (r : ℕ) → r < 2 ^ k * 2 → Bits bs → Bits (quotient r bs)
  bits_quotient [] r hr h = tt
  bits_quotient (b ∷ bs) r hr h = (leaving_lt r b hr h.0, bits_quotient bs (shift_bit k g r b) (shift_bit_lt k g hg r b hr h.0) h.1)

  -- what the register holds after octets is the remainder of r x^n + m x^(k+1) by the generator
  pub register_remainder : (s : List ℕ) (r : ℕ) → r < 2 ^ k * 2 → Octets s
      → Remainder (suc k) whole (horner (2 ^ suc k) r (octet_bits s)) (register k g r s)
  register_remainder s r hr h = record {
    quotient = quotient r (octet_bits s);
    bits = bits_quotient (octet_bits s) r hr (bits_octets s h);
    divides = division (octet_bits s) r hr (bits_octets s h) ∙ ap (bit_xor (times (quotient r (octet_bits s)) whole)) (sym (register_bits s r));
    degree = wide (register k g r s) (register_lt k g hg s r hr h);
  }

-- a multiple of a generator of degree w is zero or of degree w at the least; so a difference of two remainders, a multiple
-- of lower degree, is zero
module _ (w g : ℕ) (low : 2 ^ w ≤ g) (high : g < 2 ^ suc w) where
  Multiple : ℕ → Type 0
  Multiple a = (a ≡ 0) ⊎ (2 ^ w ≤ a)

  bit_multiple : (b : ℕ) → b < 2 → Multiple (b * g)
  unfolding Multiple
  bit_multiple zero h = inl (zero-mul g)
  bit_multiple (suc zero) h = inr (omega (arith, one-mul g))
  bit_multiple (suc (suc b)) h = absurd (omega arith)

  bit_high : (b : ℕ) → b < 2 → b * g < 2 ^ suc w
  bit_high zero h = omega (arith, zero-mul g)
  bit_high (suc zero) h = omega (arith, one-mul g)
  bit_high (suc (suc b)) h = absurd (omega arith)

  one_more : (a b : ℕ) → b < 2 → Multiple a → Multiple (bit_xor (a * 2) (b * g))
  unfolding Multiple
  one_more a b hb (inl z) = subst Multiple (sym (ap (λ (x : ℕ). bit_xor (x * 2) (b * g)) z)) (bit_multiple b hb)
  one_more a b hb (inr l) =
      let e : a * 2 / 2 ^ suc w ≡ a / 2 ^ w = ap (λ (m : ℕ). a * 2 / m) (pow-suc 2 w) ∙ mul-div-mul_right a (2 ^ w) (omega arith) in
      let s : bit_xor (a * 2) (b * g) / 2 ^ suc w ≡ a / 2 ^ w =
      xor_shr (a * 2) (b * g) (suc w) ∙ ap₂ bit_xor e (div-eq_of_lt (bit_high b hb)) ∙ xor_zero_r (a / 2 ^ w) in
      let o : 1 ≤ a / 2 ^ w = (le-div_iff_mul-le (pow_pos w)).1 (omega (arith, one-mul (2 ^ w))) in
      let t : 1 ≤ bit_xor (a * 2) (b * g) / 2 ^ suc w = omega arith in
      let u : 1 * 2 ^ suc w ≤ bit_xor (a * 2) (b * g) = (le-div_iff_mul-le (pow_pos (suc w))).0 t in
      inr (omega (arith, one-mul (2 ^ suc w), pow-suc 2 w))

  multiples : (bs : List ℕ) (a : ℕ) → Bits bs → Multiple a → Multiple (horner g a bs)
  unfolding horner
  multiples [] a h m = m
  multiples (b ∷ bs) a h m = multiples bs (bit_xor (a * 2) (b * g)) h.1 (one_more a b h.0 m)

  -- bit by bit exclusive or, of lists of one length
  abbrev sum : List ℕ → List ℕ → List ℕ
  sum [] ys = []
  sum (x ∷ xs) [] = []
  sum (x ∷ xs) (y ∷ ys) = bit_xor x y ∷ sum xs ys

  bits_sum : (xs ys : List ℕ) → Bits xs → Bits ys → Bits (sum xs ys)
  bits_sum [] ys h k = tt
  bits_sum (x ∷ xs) [] h k = tt
  bits_sum (x ∷ xs) (y ∷ ys) h k = (xor_lt 1 x y h.0 k.0, bits_sum xs ys h.1 k.1)

  horner_sum : (xs ys : List ℕ) (a b : ℕ) → length xs ≡ length ys → Bits xs → Bits ys
      → horner g (bit_xor a b) (sum xs ys) ≡ bit_xor (horner g a xs) (horner g b ys)
  unfolding horner
  horner_sum [] [] a b e h k = refl
  horner_sum [] (y ∷ ys) a b e h k = absurd (omega arith)
  horner_sum (x ∷ xs) [] a b e h k = absurd (omega arith)
  horner_sum (x ∷ xs) (y ∷ ys) a b e h k =
      ap (λ (z : ℕ). horner g z (sum xs ys))
      (ap₂ bit_xor (double a b) (bit_times g x y h.0 k.0) ∙ four (a * 2) (b * 2) (x * g) (y * g))
      ∙ horner_sum xs ys (bit_xor (a * 2) (x * g)) (bit_xor (b * 2) (y * g)) (omega arith) h.1 k.1

  -- coefficients of zero in front
  abbrev padded : ℕ → List ℕ → List ℕ
  padded n bs = replicate n 0 ++ bs

  horner_padded : (n : ℕ) (bs : List ℕ) → times (padded n bs) g ≡ times bs g
  unfolding horner
  horner_padded zero bs = refl
  horner_padded (suc n) bs = ap (λ (z : ℕ). horner g z (padded n bs)) (zero-mul g) ∙ horner_padded n bs

  bits_padded : (n : ℕ) (bs : List ℕ) → Bits bs → Bits (padded n bs)
  bits_padded zero bs h = h
  bits_padded (suc n) bs h = (omega arith, bits_padded n bs h)

  length_padded : (n : ℕ) (bs : List ℕ) → length (padded n bs) ≡ n + length bs
  length_padded n bs = simp (length-append, length-replicate)

  pub one_remainder : (dividend r s : ℕ) → Remainder w g dividend r → Remainder w g dividend s → r ≡ s
  unfolding Multiple
  one_remainder d r s p q =
      let xs = padded (length q.quotient) p.quotient in
      let ys = padded (length p.quotient) q.quotient in
      let bx : Bits xs = bits_padded (length q.quotient) p.quotient p.bits in
      let by : Bits ys = bits_padded (length p.quotient) q.quotient q.bits in
      let el : length xs ≡ length ys = omega (arith, length_padded (length q.quotient) p.quotient, length_padded (length p.quotient) q.quotient) in
      let m : Multiple (times (sum xs ys) g) = multiples (sum xs ys) 0 (bits_sum xs ys bx by) (inl refl) in
      let e : times (sum xs ys) g ≡ bit_xor (times p.quotient g) (times q.quotient g) =
      horner_sum xs ys 0 0 el bx by ∙ ap₂ bit_xor (horner_padded (length q.quotient) p.quotient) (horner_padded (length p.quotient) q.quotient) in
      let f : bit_xor (times p.quotient g) (times q.quotient g) ≡ bit_xor r s = across (times p.quotient g) (times q.quotient g) r s (sym p.divides ∙ q.divides) in
      let l : bit_xor r s < 2 ^ w = xor_lt w r s p.degree q.degree in
      ⊎_elim (λ z. xor_equal r s (sym f ∙ sym e ∙ z)) (λ z. absurd (omega (arith, e ∙ f))) m
