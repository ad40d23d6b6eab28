-- Wrong bits as bits inverted: where n + 1 bits are wrong, one of them can be inverted and n are left (`one_less_lem`). So a block with one wrong
-- bit is the block sent with that bit inverted (`one_flip`), and one with two is the block sent with two bits inverted, two different ones
-- (`two_flips`). The other way round, one inverted bit is one wrong bit (`flipped_wrong`), and
-- one more at the most in a block with others (`flipped_more`).
use mathlib.Core.Path.{◌≡◌, refl, sym, ap, ap₂, ◌∙◌}
use mathlib.Core.Bool.{Bool, true}
use mathlib.Core.List.{List, [], ◌∷◌, ◌++◌}
use Prim.Native.Nat.{ℕ, zero, suc, ◌+◌, ◌-◌, ◌*◌, ◌/◌, ◌%◌, ◌^◌, ◌<◌, ◌≤◌}
use native.Mathlib.Omega.{arith}
use borrow.Author.Tests.{eqb-true, ltb-true, ne_eqb}
use lib.Bits.{bit_xor, xor_lt, xor_self, xor_shr, xor_mod}
use lib.Dec.{eqb, ltb}
use lib.ListN.{length, get_or, set}
use Rattle.base.specs.Choice.{pick, both}
use Rattle.base.specs.Octets.{Octets, bits_of, octet_bits}
use Rattle.base.proofs.Computed.{below, is_true}
use Rattle.base.proofs.Lists.{octets_at_lem, below_set}
use Rattle.base.proofs.Tests.{both_left, both_right}
use Rattle.base.proofs.Xor.{xor_assoc, xor_undo, swap, double}
use Rattle.base.specs.Distance.{differing, wrong_bits}
use Rattle.codeblock.specs.Codeblock.{flipped}
use Rattle.codeblock.proofs.Bits.{none_wrong_lem, self_wrong}
use Rattle.codeblock.proofs.Codeblock.{length_flipped}

-- how many of the n upper bits of an octet are one
unfoldable pub ones : ℕ → ℕ → ℕ
ones zero x = 0
ones (suc n) x = x / 128 + ones n (x % 128 * 2)

pub rest_xor : (a b : ℕ) → bit_xor a b % 128 * 2 ≡ bit_xor (a % 128 * 2) (b % 128 * 2)
rest_xor a b = ap (λ (x : ℕ). x * 2) (xor_mod a b 7) ∙ double (a % 128) (b % 128)

-- bits that differ are those of the exclusive or that are one
differing_ones : (n a b : ℕ) → differing (bits_of n a) (bits_of n b) ≡ ones n (bit_xor a b)
unfolding differing bits_of ones
differing_ones zero a b = refl
differing_ones (suc n) a b =
    ap₂ ◌+◌ (sym (xor_shr a b 7)) (differing_ones n (a % 128 * 2) (b % 128 * 2) ∙ ap (ones n) (sym (rest_xor a b)))

differing_append : (xs ys us vs : List ℕ) → length xs ≡ length ys → differing (xs ++ us) (ys ++ vs) ≡ differing xs ys + differing us vs
unfolding differing
differing_append [] [] us vs l = omega arith
differing_append [] (y ∷ ys) us vs l = absurd (omega arith)
differing_append (x ∷ xs) [] us vs l = absurd (omega arith)
differing_append (x ∷ xs) (y ∷ ys) us vs l = omega (arith, differing_append xs ys us vs (omega arith))

wrong_more : (o p : ℕ) (s t : List ℕ) → wrong_bits (o ∷ s) (p ∷ t) ≡ ones 8 (bit_xor o p) + wrong_bits s t
unfolding wrong_bits octet_bits bits_of
wrong_more o p s t =
    differing_append (bits_of 8 o) (bits_of 8 p) (octet_bits s) (octet_bits t) refl ∙ ap (λ (x : ℕ). x + differing (octet_bits s) (octet_bits t)) (differing_ones 8 o p)

-- the first bit of an octet that is one: inverted, one less is one
abbrev first_one : ℕ → ℕ → ℕ
first_one zero x = 0
first_one (suc n) x = pick (eqb (x / 128) 0) (suc (first_one n (x % 128 * 2))) 0

abbrev one_less : ℕ → Bool
one_less x = pick (eqb (ones 8 x) 0) true (both (ltb (first_one 8 x) 8) (eqb (suc (ones 8 (bit_xor x (2 ^ (7 - first_one 8 x))))) (ones 8 x)))

first_inverted : (x n : ℕ) → x < 256 → ones 8 x ≡ suc n → (j : ℕ) × (j < 8) × (ones 8 (bit_xor x (2 ^ (7 - j))) ≡ n)
unfolding ones
first_inverted x n h e =
    let j = first_one 8 x in
    let t : both (ltb j 8) (eqb (suc (ones 8 (bit_xor x (2 ^ (7 - j))))) (ones 8 x)) ≡ true =
    sym (ap (λ (b : Bool). pick b true (both (ltb j 8) (eqb (suc (ones 8 (bit_xor x (2 ^ (7 - j))))) (ones 8 x)))) (ne_eqb (ones 8 x) 0 (λ z. omega (arith, z, e))))
    ∙ is_true (one_less x) (below one_less 256 tt x h) in
    let s : suc (ones 8 (bit_xor x (2 ^ (7 - j)))) ≡ ones 8 x = eqb-true _ _ (both_right (ltb j 8) _ t) in
    (j, ltb-true j 8 (both_left (ltb j 8) _ t), omega (arith, s, e))

none_empty : wrong_bits [] [] ≡ 0
unfolding wrong_bits octet_bits differing
none_empty = refl

-- an octet and a bit of it
abbrev Less : List ℕ → List ℕ → ℕ → Type 0
Less s t n = (k : ℕ) × (j : ℕ) × (k < length s) × (j < 8) × (wrong_bits (set s k (bit_xor (get_or s k 0) (2 ^ (7 - j)))) t ≡ n)

-- in the first octet, or in the others
less_first : (o p m n : ℕ) (s t : List ℕ) → o < 256 → p < 256 → ones 8 (bit_xor o p) ≡ suc m → wrong_bits (o ∷ s) (p ∷ t) ≡ suc n → Less (o ∷ s) (p ∷ t) n
less_first o p m n s t ho hp f e =
    let b = first_inverted (bit_xor o p) m (xor_lt 8 o p ho hp) f in
    let w = 2 ^ (7 - b.0) in
    let x : ones 8 (bit_xor (bit_xor o w) p) ≡ m = ap (ones 8) (swap o w p) ∙ b.2 in
    (0, b.0, omega arith, b.1, wrong_more (bit_xor o w) p s t ∙ omega (arith, x, f, e, wrong_more o p s t))

less_others : (o p n : ℕ) (s t : List ℕ) → ones 8 (bit_xor o p) ≡ 0 → Less s t n → Less (o ∷ s) (p ∷ t) n
less_others o p n s t f r =
    (suc r.0, r.1, omega (arith, r.2), r.3, wrong_more o p (set s r.0 (bit_xor (get_or s r.0 0) (2 ^ (7 - r.1)))) t ∙ omega (arith, f, r.4))

inverted_less : (s t : List ℕ) (n : ℕ) → length s ≡ length t → Octets s → Octets t → wrong_bits s t ≡ suc n → Less s t n
inverted_less [] [] n l hs ht e = absurd (omega (arith, e, none_empty))
inverted_less [] (p ∷ t) n l hs ht e = absurd (omega arith)
inverted_less (o ∷ s) [] n l hs ht e = absurd (omega arith)
inverted_less (o ∷ s) (p ∷ t) n l hs ht e = go (ones 8 (bit_xor o p)) refl (inverted_less s t n (omega arith) hs.1 ht.1)
  where
    go : (m : ℕ) → ones 8 (bit_xor o p) ≡ m → (wrong_bits s t ≡ suc n → Less s t n) → Less (o ∷ s) (p ∷ t) n
    go zero f later = less_others o p n s t f (later (omega (arith, f, e, wrong_more o p s t)))
    go (suc m) f later = less_first o p m n s t hs.0 ht.0 f e

-- one inverted bit is one wrong bit
inverted_wrong : (s : List ℕ) (k m : ℕ) → k < length s → ones 8 m ≡ 1 → wrong_bits (set s k (bit_xor (get_or s k 0) m)) s ≡ 1
unfolding ones
inverted_wrong [] k m l e = absurd (omega arith)
inverted_wrong (x ∷ s) zero m l e =
    let y : ones 8 (bit_xor (bit_xor x m) x) ≡ 1 = ap (ones 8) (swap x m x ∙ ap (λ (z : ℕ). bit_xor z m) (xor_self x)) ∙ e in
    wrong_more (bit_xor x m) x s s ∙ ap₂ ◌+◌ y (self_wrong s)
inverted_wrong (x ∷ s) (suc k) m l e =
    let y : ones 8 (bit_xor x x) ≡ 0 = ap (ones 8) (xor_self x) in
    wrong_more x x (set s k (bit_xor (get_or s k 0) m)) s ∙ ap₂ ◌+◌ y (inverted_wrong s k m (omega arith) e)

weight_one : (i : ℕ) → ones 8 (2 ^ (7 - i % 8)) ≡ 1
unfolding ones
weight_one i = eqb-true _ 1 (is_true _ (below (λ y. eqb (ones 8 (2 ^ (7 - y))) 1) 8 tt (i % 8) (omega arith)))

pub flipped_wrong : (i : ℕ) (block : List ℕ) → i < 64 → length block ≡ 8 → wrong_bits (flipped i block) block ≡ 1
unfolding flipped
flipped_wrong i block k l = inverted_wrong block (i / 8) (2 ^ (7 - i % 8)) (omega arith) (weight_one i)

-- and adds one wrong bit at the most
bit_le : (x y : ℕ) → x < 2 → y < 2 → bit_xor x y ≤ x + y
bit_le zero y hx hy = omega arith
bit_le (suc zero) zero hx hy = omega arith
bit_le (suc zero) (suc zero) hx hy = omega arith
bit_le (suc zero) (suc (suc y)) hx hy = absurd (omega arith)
bit_le (suc (suc x)) y hx hy = absurd (omega arith)

ones_le : (n a b : ℕ) → a < 256 → b < 256 → ones n (bit_xor a b) ≤ ones n a + ones n b
unfolding ones
ones_le zero a b ha hb = omega arith
ones_le (suc n) a b ha hb =
    let e : ones (suc n) (bit_xor a b) ≡ bit_xor (a / 128) (b / 128) + ones n (bit_xor (a % 128 * 2) (b % 128 * 2)) =
    ap₂ (λ (x y : ℕ). x + ones n y) (xor_shr a b 7) (rest_xor a b) in
    omega (arith, e, bit_le (a / 128) (b / 128) (omega arith) (omega arith), ones_le n (a % 128 * 2) (b % 128 * 2) (omega arith) (omega arith))

inverted_more : (s t : List ℕ) (k m : ℕ) → length s ≡ length t → Octets s → Octets t → m < 256 → ones 8 m ≡ 1
    → wrong_bits t (set s k (bit_xor (get_or s k 0) m)) ≤ suc (wrong_bits t s)
inverted_more [] t k m l hs ht hm e = omega arith
inverted_more (x ∷ s) [] k m l hs ht hm e = absurd (omega arith)
inverted_more (x ∷ s) (y ∷ t) zero m l hs ht hm e =
    let c : ones 8 (bit_xor y (bit_xor x m)) ≡ ones 8 (bit_xor (bit_xor y x) m) = ap (ones 8) (sym (xor_assoc y x m)) in
    omega (arith, c, e, wrong_more y (bit_xor x m) t s, wrong_more y x t s, ones_le 8 (bit_xor y x) m (xor_lt 8 y x ht.0 hs.0) hm)
inverted_more (x ∷ s) (y ∷ t) (suc k) m l hs ht hm e =
    omega (arith, wrong_more y x t (set s k (bit_xor (get_or s k 0) m)), wrong_more y x t s, inverted_more s t k m (omega arith) hs.1 ht.1 hm e)

-- a bit inverted twice
inverted_twice : (s : List ℕ) (k m : ℕ) → set (set s k (bit_xor (get_or s k 0) m)) k (bit_xor (get_or (set s k (bit_xor (get_or s k 0) m)) k 0) m) ≡ s
inverted_twice [] k m = refl
inverted_twice (x ∷ s) zero m = ap (λ (y : ℕ). y ∷ s) (xor_undo x m)
inverted_twice (x ∷ s) (suc k) m = ap (λ (l : List ℕ). x ∷ l) (inverted_twice s k m)

pub flipped_twice : (i : ℕ) (block : List ℕ) → flipped i (flipped i block) ≡ block
unfolding flipped
flipped_twice i block = inverted_twice block (i / 8) (2 ^ (7 - i % 8))

pub weight_lt : (i : ℕ) → 2 ^ (7 - i % 8) < 256
weight_lt i = ltb-true _ 256 (is_true _ (below (λ y. ltb (2 ^ (7 - y)) 256) 8 tt (i % 8) (omega arith)))

pub octets_flipped : (i : ℕ) (block : List ℕ) → Octets block → Octets (flipped i block)
unfolding flipped
octets_flipped i block h = below_set 256 block (i / 8) _ h (xor_lt 8 (get_or block (i / 8) 0) (2 ^ (7 - i % 8)) (octets_at_lem block h (i / 8)) (weight_lt i))

pub flipped_more : (i : ℕ) (sent block : List ℕ) → length block ≡ length sent → Octets block → Octets sent → wrong_bits sent (flipped i block) ≤ suc (wrong_bits sent block)
unfolding flipped
flipped_more i sent block l h hs = inverted_more block sent (i / 8) (2 ^ (7 - i % 8)) l h hs (weight_lt i) (weight_one i)

-- blocks of eight octets
module _ (sent received : List ℕ) (ls : length sent ≡ 8) (lr : length received ≡ 8) (hs : Octets sent) (hr : Octets received) where
  pub one_less_lem : (n : ℕ) → wrong_bits sent received ≡ suc n → (i : ℕ) × (i < 64) × (wrong_bits (flipped i sent) received ≡ n)
  unfolding flipped
  one_less_lem n e =
      let r = inverted_less sent received n (ls ∙ sym lr) hs hr e in
      let i = 8 * r.0 + r.1 in
      let q : i / 8 ≡ r.0 = omega (arith, r.3) in
      let m : i % 8 ≡ r.1 = omega (arith, r.3) in (
        i,
        omega (arith, r.2, r.3),
        ap₂ (λ (k j : ℕ). wrong_bits (set sent k (bit_xor (get_or sent k 0) (2 ^ (7 - j)))) received) q m ∙ r.4,
      )

  pub none_flipped : wrong_bits sent received ≡ 0 → received ≡ sent
  none_flipped e = sym (none_wrong_lem sent received (ls ∙ sym lr) hs hr e)

  pub one_flip : wrong_bits sent received ≡ 1 → (i : ℕ) × (i < 64) × (received ≡ flipped i sent)
  one_flip e =
      let r = one_less_lem 0 e in
      (r.0, r.1, sym (none_wrong_lem (flipped r.0 sent) received (length_flipped r.0 sent ∙ ls ∙ sym lr) (octets_flipped r.0 sent hs) hr r.2))

module _ (sent received : List ℕ) (ls : length sent ≡ 8) (lr : length received ≡ 8) (hs : Octets sent) (hr : Octets received) where
  pub two_flips : wrong_bits sent received ≡ 2 → (i : ℕ) × (j : ℕ) × (i < 64) × (j < 64) × (i ≡ j → ⊥) × (received ≡ flipped j (flipped i sent))
  two_flips e =
      let a = one_less_lem sent received ls lr hs hr 1 e in
      let b = one_flip (flipped a.0 sent) received (length_flipped a.0 sent ∙ ls) lr (octets_flipped a.0 sent hs) hr a.2 in
      (a.0, b.0, a.1, b.1, (λ z. omega (arith, self_wrong sent, ap (wrong_bits sent) (b.2 ∙ ap (λ (i : ℕ). flipped i (flipped a.0 sent)) (sym z) ∙ flipped_twice a.0 sent))), b.2)
