-- Fields and their digits: a value's digits give it back (`value_digits`), a field splits at any digit (`digits_split`), and the
-- bits of packed octets are the bits packed (`bits_octets`). So a packed field reads back by computing its place.
use mathlib.Core.Path.{◌≡◌, refl, sym, ap, ap₂, ◌∙◌, subst}
use mathlib.Core.List.{List, [], ◌∷◌, ◌++◌, append_assoc}
use Prim.Native.Nat.{ℕ, zero, suc, ◌+◌, ◌*◌, ◌/◌, ◌%◌, ◌^◌, ◌<◌, ◌≤◌}
use native.Mathlib.Nat.{zero-add, suc-add, add_comm, zero-mul, one-mul, mul_comm, mul_assoc, add-mul, mul-suc, mul-le-mul_right, pow-suc, mod-eq_of_lt}
use native.Mathlib.Omega.{arith}
use lib.ListN.{length, take, drop, get_or, length-append, length-take, length-drop, take-append-drop}
use lib.Seq.{drop-nil, drop-cons, drop-drop, take-add, take_at, drop_at, take-append-le, drop-append-le, drop-append-add}
use lib.Pow.{mod-pow-add, shr-shr, high}
use Rattle.base.specs.Octets.{Bits, Octets, same, bits_of, octet_bits}
use Rattle.base.specs.Fields.{Field, digits_of, value_of, packed, octets_of, field_at}
use Rattle.base.proofs.Computed.{below, is_true}
use Rattle.base.proofs.Lists.{same_equal, below_append, below_take, below_drop}

one_add : (w : ℕ) → 1 + w ≡ suc w
one_add w = omega arith

pub length_digits : (w value : ℕ) → length (digits_of w value) ≡ w
unfolding digits_of
length_digits zero value = refl
length_digits (suc w) value = ap suc (length_digits w value)

pub bits_digits : (w value : ℕ) → Bits (digits_of w value)
unfolding digits_of
bits_digits zero value = tt
bits_digits (suc w) value = (omega arith, bits_digits w value)

-- packed fields are bits
pub bits_packed : (fields : List Field) → Bits (packed fields)
unfolding packed
bits_packed [] = tt
bits_packed (f ∷ fields) =
    below_append 2 (digits_of f.location.width f.value) (packed fields) (bits_digits f.location.width f.value) (bits_packed fields)

pub value_append : (a : ℕ) (xs ys : List ℕ) → value_of a (xs ++ ys) ≡ value_of (value_of a xs) ys
unfolding value_of
value_append a [] ys = refl
value_append a (x ∷ xs) ys = value_append (a * 2 + x) xs ys

pub value_digits : (w a value : ℕ) → value_of a (digits_of w value) ≡ a * 2 ^ w + value % 2 ^ w
unfolding value_of digits_of
value_digits zero a value = omega arith
value_digits (suc w) a value =
    let m : value % 2 ^ suc w ≡ (value / 2 ^ w % 2) * 2 ^ w + value % 2 ^ w = ap (λ (j : ℕ). value % 2 ^ j) (sym (one_add w)) ∙ mod-pow-add value 1 w in
    let d : (a * 2 + value / 2 ^ w % 2) * 2 ^ w ≡ a * 2 * 2 ^ w + (value / 2 ^ w % 2) * 2 ^ w = add-mul (a * 2) (value / 2 ^ w % 2) (2 ^ w) in
    let p : a * 2 ^ suc w ≡ a * 2 * 2 ^ w = ap (λ (j : ℕ). a * j) (pow-suc 2 w ∙ mul_comm (2 ^ w) 2) ∙ sym (mul_assoc a 2 (2 ^ w)) in
    value_digits w (a * 2 + value / 2 ^ w % 2) value ∙ omega (arith, m, d, p)

-- a value that fits is what its digits give
pub value_field : (w value : ℕ) → value < 2 ^ w → value_of 0 (digits_of w value) ≡ value
value_field w value h = value_digits w 0 value ∙ ap (λ (j : ℕ). j + value % 2 ^ w) (zero-mul (2 ^ w)) ∙ zero-add (value % 2 ^ w) ∙ mod-eq_of_lt h

-- a field of a + b digits is one of a and one of b
pub digits_split : (a b value : ℕ) → digits_of (a + b) value ≡ digits_of a (value / 2 ^ b) ++ digits_of b value
unfolding digits_of
digits_split zero b value = ap (λ (j : ℕ). digits_of j value) (zero-add b)
digits_split (suc a) b value =
    ap (λ (j : ℕ). digits_of j value) (suc-add a b)
    ∙ ap₂ ◌∷◌ (ap (λ (j : ℕ). j % 2) (sym (shr-shr value b a ∙ ap (λ (j : ℕ). value / 2 ^ j) (add_comm b a)))) (digits_split a b value)

value_from : (a : ℕ) (xs : List ℕ) → value_of a xs ≡ a * 2 ^ length xs + value_of 0 xs
unfolding value_of
value_from a [] = omega arith
value_from a (x ∷ xs) =
    let p : a * 2 ^ suc (length xs) ≡ a * 2 * 2 ^ length xs = ap (λ (j : ℕ). a * j) (pow-suc 2 (length xs) ∙ mul_comm (2 ^ length xs) 2) ∙ sym (mul_assoc a 2 (2 ^ length xs)) in
    let d : (a * 2 + x) * 2 ^ length xs ≡ a * 2 * 2 ^ length xs + x * 2 ^ length xs = add-mul (a * 2) x (2 ^ length xs) in
    let z : value_of (0 * 2 + x) xs ≡ x * 2 ^ length xs + value_of 0 xs = ap (λ (j : ℕ). value_of j xs) (zero-add x) ∙ value_from x xs in
    value_from (a * 2 + x) xs ∙ omega (arith, p, d, z)

pub value_lt : (xs : List ℕ) → Bits xs → value_of 0 xs < 2 ^ length xs
unfolding value_of
value_lt [] h = omega arith
value_lt (x ∷ xs) h =
    let z : value_of (0 * 2 + x) xs ≡ x * 2 ^ length xs + value_of 0 xs = ap (λ (j : ℕ). value_of j xs) (zero-add x) ∙ value_from x xs in
    let l : x * 2 ^ length xs ≤ 1 * 2 ^ length xs = mul-le-mul_right (2 ^ length xs) (omega arith) in
    omega (arith, z, l, one-mul (2 ^ length xs), pow-suc 2 (length xs), value_lt xs h.1)

-- bits are the digits of the number that they give
pub digits_value : (a : ℕ) (xs : List ℕ) → Bits xs → digits_of (length xs) (value_of a xs) ≡ xs
unfolding digits_of value_of
digits_value a [] h = refl
digits_value a (x ∷ xs) h =
    let v : value_of (a * 2 + x) xs / 2 ^ length xs ≡ a * 2 + x =
    ap (λ (j : ℕ). j / 2 ^ length xs) (value_from (a * 2 + x) xs) ∙ high (a * 2 + x) (length xs) (value_lt xs h.1) in
    let b : value_of (a * 2 + x) xs / 2 ^ length xs % 2 ≡ x = ap (λ (j : ℕ). j % 2) v ∙ last x h.0 in
    ap₂ ◌∷◌ b (digits_value (a * 2 + x) xs h.1)
  where
    last : (x : ℕ) → x < 2 → (a * 2 + x) % 2 ≡ x
    last x k = omega arith

-- the bits of an octet are its eight digits
pub octet_digits : (octet : ℕ) → octet < 256 → bits_of 8 octet ≡ digits_of 8 octet
unfolding bits_of digits_of
octet_digits octet h = same_equal (bits_of 8 octet) (digits_of 8 octet) (is_true (same (bits_of 8 octet) (digits_of 8 octet)) (below (λ o. same (bits_of 8 o) (digits_of 8 o)) 256 tt octet h))

-- bits packed into octets are those octets' bits
pub bits_octets : (n : ℕ) (bits : List ℕ) → length bits ≡ 8 * n → Bits bits → octet_bits (octets_of n bits) ≡ bits
unfolding octet_bits octets_of
bits_octets zero [] e h = refl
bits_octets zero (x ∷ xs) e h = absurd (omega arith)
bits_octets (suc n) bits e h =
    let l : length (take 8 bits) ≡ 8 = simp length-take (omega (arith, mul-suc 8 n)) in
    let t : Bits (take 8 bits) = below_take 2 8 bits h in
    let b : value_of 0 (take 8 bits) < 256 = subst (λ (j : ℕ). value_of 0 (take 8 bits) < 2 ^ j) l (value_lt (take 8 bits) t) in
    ap₂ (λ (x y : List ℕ). x ++ y)
    (octet_digits (value_of 0 (take 8 bits)) b ∙ ap (λ (j : ℕ). digits_of j (value_of 0 (take 8 bits))) (sym l) ∙ digits_value 0 (take 8 bits) t)
    (bits_octets n (drop 8 bits) (simp length-drop (omega (arith, mul-suc 8 n))) (below_drop 2 8 bits h))
    ∙ take-append-drop 8 bits

pub octets_of_lem : (n : ℕ) (bits : List ℕ) → length bits ≡ 8 * n → Bits bits → Octets (octets_of n bits)
unfolding octets_of
octets_of_lem zero bits e h = tt
octets_of_lem (suc n) bits e h =
    let l : length (take 8 bits) ≡ 8 = simp length-take (omega (arith, mul-suc 8 n)) in
    (subst (λ (j : ℕ). value_of 0 (take 8 bits) < 2 ^ j) l (value_lt (take 8 bits) (below_take 2 8 bits h)), octets_of_lem n (drop 8 bits) (simp length-drop (omega (arith, mul-suc 8 n))) (below_drop 2 8 bits h))

pub length_octets : (n : ℕ) (bits : List ℕ) → length (octets_of n bits) ≡ n
unfolding octets_of
length_octets zero bits = refl
length_octets (suc n) bits = ap suc (length_octets n (drop 8 bits))

-- the bits of octets one behind the other
pub bits_append : (s t : List ℕ) → octet_bits (s ++ t) ≡ octet_bits s ++ octet_bits t
unfolding octet_bits
bits_append [] t = refl
bits_append (o ∷ s) t = ap (λ (l : List ℕ). bits_of 8 o ++ l) (bits_append s t) ∙ sym (append_assoc (bits_of 8 o) (octet_bits s) (octet_bits t))

length_bits_of : (n octet : ℕ) → length (bits_of n octet) ≡ n
unfolding bits_of
length_bits_of zero octet = refl
length_bits_of (suc n) octet = ap suc (length_bits_of n (octet % 128 * 2))

pub length_bits : (s : List ℕ) → length (octet_bits s) ≡ 8 * length s
unfolding octet_bits
length_bits [] = refl
length_bits (o ∷ s) = length-append (bits_of 8 o) (octet_bits s) ∙ ap₂ ◌+◌ (length_bits_of 8 o) (length_bits s) ∙ sym (mul_suc_left 8 (length s))
  where
    mul_suc_left : (a b : ℕ) → a * suc b ≡ a + a * b
    mul_suc_left a b = mul-suc a b ∙ add_comm (a * b) a

-- the bits from octet i on
bits_from : (i : ℕ) (s : List ℕ) → drop (8 * i) (octet_bits s) ≡ octet_bits (drop i s)
unfolding octet_bits
bits_from zero s = refl
bits_from (suc i) [] = drop-nil (8 * suc i)
bits_from (suc i) (o ∷ s) =
    let e : 8 * suc i ≡ length (bits_of 8 o) + 8 * i = omega (arith, mul-suc 8 i, length_bits_of 8 o) in
    ap (λ (j : ℕ). drop j (bits_of 8 o ++ octet_bits s)) e ∙ drop-append-add (bits_of 8 o) (octet_bits s) (8 * i) ∙ bits_from i s

-- w of an octet's digits, behind j and before k of them
digits_middle : (j w k octet : ℕ) → take w (drop j (digits_of (j + (w + k)) octet)) ≡ digits_of w (octet / 2 ^ k)
digits_middle j w k octet =
    ap (λ (l : List ℕ). take w (drop j l)) (digits_split j (w + k) octet)
    ∙ ap (take w) (drop_at (digits_of j (octet / 2 ^ (w + k))) (digits_of (w + k) octet) j (length_digits j (octet / 2 ^ (w + k))) ∙ digits_split w k octet)
    ∙ take_at (digits_of w (octet / 2 ^ k)) (digits_of k octet) w (length_digits w (octet / 2 ^ k))

-- a field within octet i: behind j of its bits, w wide, and k of them behind it
pub field_in_octet : (s : List ℕ) (i j w k : ℕ) → j + (w + k) ≡ 8 → i < length s → get_or s i 0 < 256
    → field_at (record { first = 8 * i + j; width = w }) s ≡ get_or s i 0 / 2 ^ k % 2 ^ w
unfolding field_at octet_bits
field_in_octet s i j w k e h o =
    let x = get_or s i 0 in
    let b : drop (8 * i) (octet_bits s) ≡ bits_of 8 x ++ octet_bits (drop (suc i) s) = bits_from i s ∙ ap octet_bits (drop-cons s i 0 h) in
    let d : drop (8 * i + j) (octet_bits s) ≡ drop j (bits_of 8 x ++ octet_bits (drop (suc i) s)) = sym (drop-drop j (8 * i) (octet_bits s)) ∙ ap (drop j) b in
    let l : length (bits_of 8 x) ≡ 8 = length_bits_of 8 x in
    ap (λ (t : List ℕ). value_of 0 (take w t)) (d ∙ drop-append-le j (bits_of 8 x) (octet_bits (drop (suc i) s)) (omega arith))
    ∙ ap (value_of 0) (take-append-le w (drop j (bits_of 8 x)) (octet_bits (drop (suc i) s)) (simp length-drop (omega arith)))
    ∙ ap (λ (t : List ℕ). value_of 0 (take w (drop j t))) (octet_digits x o ∙ ap (λ (n : ℕ). digits_of n x) (sym e))
    ∙ ap (value_of 0) (digits_middle j w k x)
    ∙ value_digits w 0 (x / 2 ^ k)
    ∙ ap (λ (z : ℕ). z + x / 2 ^ k % 2 ^ w) (zero-mul (2 ^ w))
    ∙ zero-add (x / 2 ^ k % 2 ^ w)

-- a field that goes over a boundary is the part before it and the part behind it
pub field_joined : (s : List ℕ) (f v w : ℕ) → f + v + w ≤ 8 * length s
    → field_at (record { first = f; width = v + w }) s ≡ field_at (record { first = f; width = v }) s * 2 ^ w + field_at (record { first = f + v; width = w }) s
unfolding field_at
field_joined s f v w h =
    let bs = octet_bits s in
    let l : length (take w (drop (f + v) bs)) ≡ w = simp (length-take, length-drop) (omega (arith, length_bits s)) in
    ap (value_of 0) (take-add v w (drop f bs) ∙ ap (λ (t : List ℕ). take v (drop f bs) ++ take w t) (drop-drop v f bs))
    ∙ value_append 0 (take v (drop f bs)) (take w (drop (f + v) bs))
    ∙ value_from (value_of 0 (take v (drop f bs))) (take w (drop (f + v) bs))
    ∙ ap (λ (j : ℕ). value_of 0 (take v (drop f bs)) * 2 ^ j + value_of 0 (take w (drop (f + v) bs))) l
