-- Document 02, order 3: what either mode makes of wrong bits. Every wrong bit adds its column to the syndrome, so all of this follows from
-- the law of the single bits: a syndrome that is not zero is one column, and its bit is mended (`one_flip_mended`, `one_wrong_mended`), or no
-- column, and the block is bad (`bad_syndrome`): two wrong bits (`two_flips_bad`, `two_wrong_bad`), a filler bit of one (`filler_bad`), and the
-- tail's syndrome with up to two wrong bits (`tail_two_bad`). At most one correction exists (`one_correction`). In the detecting mode one to
-- three wrong bits are bad (`three_wrong_bad`), and in the tail's place up to three (`tail_three_bad`).
use mathlib.Core.Path.{◌≡◌, refl, sym, ap, ◌∙◌}
use mathlib.Core.Bool.{Bool, true, false}
use mathlib.Core.Logic.{◌⊎◌, inl, inr}
use mathlib.Core.List.{List}
use Prim.Native.Nat.{ℕ, zero, suc, ◌+◌, ◌/◌, ◌%◌, ◌<◌, ◌≤◌}
use native.Mathlib.Omega.{arith}
use borrow.Author.Tests.{ne_eqb, eqb-true, eqb-false, ltb-true, ltb-false}
use lib.Bits.{bit_xor, xor_lt, xor_mod, xor_zero_r}
use lib.Dec.{eqb, ltb}
use lib.ListN.{length, take, get_or}
use Rattle.base.specs.Octets.{Octets}
use Rattle.base.proofs.Tests.{no}
use Rattle.base.proofs.Xor.{xor_undo, xor_equal}
use Rattle.codeblock.specs.declared.Mode.{Mode}
use Rattle.codeblock.specs.declared.Mode.TheVariants.{Detecting, Correcting}
use Rattle.base.specs.Distance.{wrong_bits}
use Rattle.codeblock.specs.Codeblock.{error_control, syndrome_of, good, bad, is_encoding, flipped, mended, otherwise, judged}
use Rattle.codeblock.proofs.Codeblock.{length_flipped, encoding_length, filler_zero, judged_length}
use Rattle.codeblock.proofs.Flipped.{ones, flipped_twice, octets_flipped, one_less_lem, none_flipped, one_flip, two_flips}
use Rattle.codeblock.proofs.SingleBits.{column_of, columns63, place_in, tail_syndrome, single_bits, distinct, weight_flips, pair_untailed}
use Rattle.codeblock.proofs.Syndrome.{encoding_syndrome, syndrome_flipped, mended_at, mended_search, none_found, judged_other}

-- the syndrome of an encoding is zero
pub encoding_zero : (block : List ℕ) → is_encoding block ≡ true → syndrome_of block ≡ 0
encoding_zero block e = eqb-true (syndrome_of block) 0 (sym (encoding_syndrome block (encoding_length block e)) ∙ e)

-- its filler bit is the block's
filler_syndrome : (block : List ℕ) → syndrome_of block % 2 ≡ get_or block 7 0 % 2
unfolding syndrome_of
filler_syndrome block =
    let c = error_control (take 7 block) in
    xor_mod (get_or block 7 0) c 1 ∙ ap (bit_xor (get_or block 7 0 % 2)) (filler_zero (take 7 block)) ∙ xor_zero_r (get_or block 7 0 % 2)

-- an odd weight is not zero's
odd_weight : (v : ℕ) → ones 8 v % 2 ≡ 1 → v ≡ 0 → ⊥
unfolding ones
odd_weight v o z =
    let w : ones 8 v % 2 ≡ 0 = ap (λ (x : ℕ). ones 8 x % 2) z in
    omega (arith, o, w)

none_otherwise : (mode : Mode) (block : List ℕ) → mended 63 0 block ≡ bad → otherwise mode block ≡ bad
unfolding otherwise
none_otherwise Detecting block e = refl
none_otherwise Correcting block e = e

module _ (block : List ℕ) (l : length block ≡ 8) (h : Octets block) where
  -- a syndrome that is not zero and no column
  pub bad_syndrome : (mode : Mode) → (syndrome_of block ≡ 0 → ⊥) → ((i : ℕ) → i < 63 → column_of i ≡ syndrome_of block → ⊥) → judged mode block ≡ bad
  bad_syndrome mode n none =
      judged_other block l refl mode n
      ∙ none_otherwise mode block (mended_search block l h ∙ ap (λ (i : ℕ). mended_at i block) (none_found (syndrome_of block) none))

  -- of even weight
  even_bad : (mode : Mode) → (syndrome_of block ≡ 0 → ⊥) → ones 8 (syndrome_of block) % 2 ≡ 0 → judged mode block ≡ bad
  even_bad mode n w =
      bad_syndrome mode n (λ i k e.
      let z : ones 8 (column_of i) % 2 ≡ ones 8 (syndrome_of block) % 2 = ap (λ (x : ℕ). ones 8 x % 2) e in
      omega (arith, z, w, (single_bits i (omega arith)).odd))

  -- one that is a column: its bit is mended
  column_mended : (i : ℕ) → i < 63 → syndrome_of block ≡ column_of i → judged Correcting block ≡ good (take 7 (flipped i block)) 1
  unfolding otherwise
  column_mended i k e =
      let s = single_bits i (omega arith) in
      let z : i + i / 63 ≡ i = omega arith in
      let p : place_in 0 columns63 (syndrome_of block) ≡ i = ap (place_in 0 columns63) e ∙ s.found ∙ z in
      judged_other block l refl Correcting (odd_weight (syndrome_of block) (ap (λ (x : ℕ). ones 8 x % 2) e ∙ s.odd))
      ∙ mended_search block l h
      ∙ ap (λ (j : ℕ). mended_at j block) p
      ∙ no _ _ _ (ne_eqb i 64 (λ z. omega arith))

  -- in the detecting mode any that is not zero
  nonzero_bad : (syndrome_of block ≡ 0 → ⊥) → judged Detecting block ≡ bad
  unfolding otherwise
  nonzero_bad n = judged_other block l refl Detecting n

  -- the tail's, with its filler bit cleared
  pub tail_syndrome_bad : (mode : Mode) → syndrome_of block ≡ tail_syndrome → judged mode block ≡ bad
  tail_syndrome_bad mode e =
      bad_syndrome mode (λ z. omega (arith, e, z)) (λ i k c. (single_bits i (omega arith)).untailed (c ∙ e))

-- "A filler bit of one is bad in both modes."
pub filler_bad : (mode : Mode) (block : List ℕ) → Octets block → get_or block 7 0 % 2 ≡ 1 → judged mode block ≡ bad
filler_bad mode block h o = go (eqb (length block) 8) refl
  where
    f : syndrome_of block % 2 ≡ 1
    f = filler_syndrome block ∙ o

    go : (b : Bool) → eqb (length block) 8 ≡ b → judged mode block ≡ bad
    go true t =
        bad_syndrome block (eqb-true (length block) 8 t) h mode (λ z. omega (arith, f, z)) (λ i k e.
        omega (arith, f, e, (single_bits i (omega arith)).filler))
    go false t = judged_length mode block (eqb-false (length block) 8 t)

-- bits inverted in a block whose syndrome is v
module _ (sent : List ℕ) (l : length sent ≡ 8) (h : Octets sent) (v : ℕ) (e : syndrome_of sent ≡ v) (hv : v < 256) where
  one_syndrome : (i : ℕ) → i < 64 → syndrome_of (flipped i sent) ≡ bit_xor v (column_of i)
  one_syndrome i k = syndrome_flipped sent l h i k ∙ ap (λ (x : ℕ). bit_xor x (column_of i)) e

  one_within : (i : ℕ) → i < 64 → bit_xor v (column_of i) < 256
  one_within i k = xor_lt 8 v (column_of i) hv (single_bits i k).within

module _ (sent : List ℕ) (l : length sent ≡ 8) (h : Octets sent) (v : ℕ) (e : syndrome_of sent ≡ v) (hv : v < 256) where
  two_syndrome : (i j : ℕ) → i < 64 → j < 64 → syndrome_of (flipped j (flipped i sent)) ≡ bit_xor (bit_xor v (column_of i)) (column_of j)
  two_syndrome i j k m =
      one_syndrome (flipped i sent) (length_flipped i sent ∙ l) (octets_flipped i sent h) (bit_xor v (column_of i)) (one_syndrome sent l h v e hv i k)
      (one_within sent l h v e hv i k) j m

  -- the weight is even or odd as before
  two_weight : (i j : ℕ) → i < 64 → j < 64 → ones 8 (bit_xor (bit_xor v (column_of i)) (column_of j)) % 2 ≡ ones 8 v % 2
  two_weight i j k m =
      omega (arith, weight_flips v i hv k, weight_flips (bit_xor v (column_of i)) j (one_within sent l h v e hv i k) m)

-- one wrong bit, or none, and two wrong bits, as inverted bits
module _ (sent received : List ℕ) (l : length sent ≡ 8) (lr : length received ≡ 8) (h : Octets sent) (hr : Octets received) where
  -- three wrong bits
  three_syndrome : (v : ℕ) → syndrome_of sent ≡ v → v < 256 → wrong_bits sent received ≡ 3 → ones 8 (syndrome_of received) % 2 ≡ (ones 8 v + 1) % 2
  three_syndrome v e hv w =
      let a = one_less_lem sent received l lr h hr 2 w in
      let i = a.0 in
      let s = flipped i sent in
      let m : length s ≡ 8 = length_flipped i sent ∙ l in
      let o : Octets s = octets_flipped i sent h in
      let b = two_flips s received m lr o hr a.2 in
      let x : syndrome_of s ≡ bit_xor v (column_of i) = one_syndrome sent l h v e hv i a.1 in
      let d : bit_xor v (column_of i) < 256 = one_within sent l h v e hv i a.1 in
      ap (λ (r : List ℕ). ones 8 (syndrome_of r) % 2) b.5
      ∙ ap (λ (y : ℕ). ones 8 y % 2) (two_syndrome s m o (bit_xor v (column_of i)) x d b.0 b.1 b.2 b.3)
      ∙ two_weight s m o (bit_xor v (column_of i)) x d b.0 b.1 b.2 b.3
      ∙ weight_flips v i hv a.1

-- a good block sent
module _ (sent : List ℕ) (g : is_encoding sent ≡ true) (h : Octets sent) where
  eight : length sent ≡ 8
  eight = encoding_length sent g

  column : (i : ℕ) → i < 64 → syndrome_of (flipped i sent) ≡ column_of i
  column i k = one_syndrome sent eight h 0 (encoding_zero sent g) (omega arith) i k

  -- "any one flipped bit among the 63 of a good block is mended", and counted
  pub one_flip_mended : (i : ℕ) → i < 63 → judged Correcting (flipped i sent) ≡ good (take 7 sent) 1
  one_flip_mended i k =
      column_mended (flipped i sent) (length_flipped i sent ∙ eight) (octets_flipped i sent h) i k (column i (omega arith))
      ∙ ap (λ (b : List ℕ). good (take 7 b) 1) (flipped_twice i sent)

  -- "any two are seen as bad", the filler bit among them too
  pub two_flips_bad : (mode : Mode) (i j : ℕ) → i < 64 → j < 64 → (i ≡ j → ⊥) → judged mode (flipped j (flipped i sent)) ≡ bad
  unfolding ones
  two_flips_bad mode i j hi hj n =
      let z = encoding_zero sent g in
      let e = two_syndrome sent eight h 0 z (omega arith) i j hi hj in
      even_bad (flipped j (flipped i sent)) (length_flipped j (flipped i sent) ∙ length_flipped i sent ∙ eight)
      (octets_flipped j (flipped i sent) (octets_flipped i sent h)) mode (λ y. n (distinct i j hi hj (xor_equal (column_of i) (column_of j) (sym e ∙ y))))
      (ap (λ (x : ℕ). ones 8 x % 2) e ∙ two_weight sent eight h 0 z (omega arith) i j hi hj)

  -- the same by the count of wrong bits in what is received
  module _ (received : List ℕ) (l : length received ≡ 8) (hr : Octets received) where
    pub one_wrong_mended : wrong_bits sent received ≡ 1 → get_or received 7 0 % 2 ≡ 0 → judged Correcting received ≡ good (take 7 sent) 1
    one_wrong_mended w f =
        let r = one_flip sent received eight l h hr w in
        let s : syndrome_of received ≡ column_of r.0 = ap syndrome_of r.2 ∙ column r.0 r.1 in
        let z = (single_bits r.0 r.1).filler in
        ap (judged Correcting) r.2 ∙ one_flip_mended r.0 (omega (arith, r.1, s, z, f, filler_syndrome received))

    pub two_wrong_bad : (mode : Mode) → wrong_bits sent received ≡ 2 → judged mode received ≡ bad
    two_wrong_bad mode w =
        let r = two_flips sent received eight l h hr w in
        ap (judged mode) r.5 ∙ two_flips_bad mode r.0 r.1 r.2 r.3 r.4

    -- in the detecting mode three too
    pub three_wrong_bad : 1 ≤ wrong_bits sent received → wrong_bits sent received ≤ 3 → judged Detecting received ≡ bad
    unfolding ones
    three_wrong_bad low high = go (wrong_bits sent received) refl
      where
        go : (n : ℕ) → wrong_bits sent received ≡ n → judged Detecting received ≡ bad
        go zero w = absurd (omega arith)
        go (suc zero) w =
            let r = one_flip sent received eight l h hr w in
            let s : syndrome_of received ≡ column_of r.0 = ap syndrome_of r.2 ∙ column r.0 r.1 in
            nonzero_bad received l hr (odd_weight (syndrome_of received) (ap (λ (x : ℕ). ones 8 x % 2) s ∙ (single_bits r.0 r.1).odd))
        go (suc (suc zero)) w = two_wrong_bad Detecting w
        go (suc (suc (suc zero))) w =
            nonzero_bad received l hr (odd_weight (syndrome_of received) (three_syndrome sent received eight l h hr 0 (encoding_zero sent g) (omega arith) w))
        go (suc (suc (suc (suc n)))) w = absurd (omega arith)

-- "at most one correction exists": good blocks in which at most one bit differs from what is received are the same
module _ (received : List ℕ) (l : length received ≡ 8) (h : Octets received) where
  -- it is the good block, or it with a bit inverted, whose column is then the syndrome
  abbrev Near : List ℕ → Type 0
  Near sent = ((received ≡ sent) × (syndrome_of received ≡ 0)) ⊎ ((i : ℕ) × (i < 64) × (received ≡ flipped i sent) × (syndrome_of received ≡ column_of i))

  near : (sent : List ℕ) → is_encoding sent ≡ true → Octets sent → wrong_bits sent received ≤ 1 → Near sent
  near sent g hs few = go (wrong_bits sent received) refl
    where
      go : (n : ℕ) → wrong_bits sent received ≡ n → Near sent
      go zero w =
          let r = none_flipped sent received (encoding_length sent g) l hs h w in
          inl (r, ap syndrome_of r ∙ encoding_zero sent g)
      go (suc zero) w =
          let r = one_flip sent received (encoding_length sent g) l hs h w in
          inr (r.0, r.1, r.2, ap syndrome_of r.2 ∙ column sent g hs r.0 r.1)
      go (suc (suc n)) w = absurd (omega arith)

  pub one_correction : (first second : List ℕ) → is_encoding first ≡ true → is_encoding second ≡ true → Octets first → Octets second
      → wrong_bits first received ≤ 1 → wrong_bits second received ≤ 1 → first ≡ second
  one_correction first second g k hf hs IsNear-first near-second = go (near first g hf IsNear-first) (near second k hs near-second)
    where
      not_both : syndrome_of received ≡ 0 → (i : ℕ) → i < 64 → syndrome_of received ≡ column_of i → ⊥
      not_both z i b c = odd_weight (column_of i) (single_bits i b).odd (sym c ∙ z)

      go : Near first → Near second → first ≡ second
      go (inl a) (inl b) = sym a.0 ∙ b.0
      go (inl a) (inr b) = absurd (not_both a.1 b.0 b.1 b.3)
      go (inr a) (inl b) = absurd (not_both b.1 a.0 a.1 a.3)
      go (inr a) (inr b) =
          let i : a.0 ≡ b.0 = distinct a.0 b.0 a.1 b.1 (sym a.3 ∙ b.3) in
          sym (flipped_twice a.0 first)
          ∙ ap (flipped a.0) (sym a.2 ∙ b.2)
          ∙ ap (λ (k : ℕ). flipped k (flipped b.0 second)) i
          ∙ flipped_twice b.0 second

-- eight octets that end a CLTU: their syndrome is the tail sequence's
module _ (tail received : List ℕ) (l : length tail ≡ 8) (lr : length received ≡ 8) (h : Octets tail) (hr : Octets received) (e : syndrome_of tail ≡ tail_syndrome + 1) where
  tail_one : wrong_bits tail received ≡ 1 → (mode : Mode) → judged mode received ≡ bad
  unfolding ones
  tail_one w mode =
      let r = one_flip tail received l lr h hr w in
      let i = r.0 in
      let s : syndrome_of received ≡ bit_xor (tail_syndrome + 1) (column_of i) = ap syndrome_of r.2 ∙ one_syndrome tail l h (tail_syndrome + 1) e (omega arith) i r.1 in
      bad_syndrome received lr hr mode
      (odd_weight (syndrome_of received) (ap (λ (x : ℕ). ones 8 x % 2) s ∙ weight_flips (tail_syndrome + 1) i (omega arith) r.1))
      (λ k b c. pair_untailed k i (omega arith) r.1 (ap (λ (x : ℕ). bit_xor x (column_of i)) (c ∙ s) ∙ xor_undo (tail_syndrome + 1) (column_of i)))

  tail_pair : wrong_bits tail received ≡ 2 → (mode : Mode) → judged mode received ≡ bad
  unfolding ones
  tail_pair w mode =
      let r = two_flips tail received l lr h hr w in
      let i = r.0 in
      let j = r.1 in
      let t = two_syndrome tail l h (tail_syndrome + 1) e (omega arith) i j r.2 r.3 in
      let s : syndrome_of received ≡ bit_xor (bit_xor (tail_syndrome + 1) (column_of i)) (column_of j) = ap syndrome_of r.5 ∙ t in
      even_bad received lr hr mode
      (λ z. pair_untailed j i r.3 r.2
      (ap (λ (x : ℕ). bit_xor x (column_of i)) (sym (xor_equal (bit_xor (tail_syndrome + 1) (column_of i)) (column_of j) (sym s ∙ z))) ∙ xor_undo (tail_syndrome + 1) (column_of i)))
      (ap (λ (x : ℕ). ones 8 x % 2) s ∙ two_weight tail l h (tail_syndrome + 1) e (omega arith) i j r.2 r.3)

  tail_none : wrong_bits tail received ≡ 0 → (mode : Mode) → judged mode received ≡ bad
  unfolding ones
  tail_none w mode =
      let s : syndrome_of received ≡ tail_syndrome + 1 = ap syndrome_of (none_flipped tail received l lr h hr w) ∙ e in
      even_bad received lr hr mode (λ z. omega (arith, s, z)) (ap (λ (x : ℕ). ones 8 x % 2) s)

  -- "the tail stays bad even if its filler bit is cleared", and under any two of its 64 bits
  pub tail_two_bad : (mode : Mode) → wrong_bits tail received ≤ 2 → judged mode received ≡ bad
  tail_two_bad mode few = go (wrong_bits tail received) refl
    where
      go : (n : ℕ) → wrong_bits tail received ≡ n → judged mode received ≡ bad
      go zero w = tail_none w mode
      go (suc zero) w = tail_one w mode
      go (suc (suc zero)) w = tail_pair w mode
      go (suc (suc (suc n))) w = absurd (omega arith)

  -- in the detecting mode under any three
  tail_triple : wrong_bits tail received ≡ 3 → judged Detecting received ≡ bad
  unfolding ones
  tail_triple w =
      nonzero_bad received lr hr (odd_weight (syndrome_of received) (three_syndrome tail received l lr h hr (tail_syndrome + 1) e (omega arith) w))

  pub tail_three_bad : wrong_bits tail received ≤ 3 → judged Detecting received ≡ bad
  tail_three_bad few = go (ltb (wrong_bits tail received) 3) refl
    where
      go : (b : Bool) → ltb (wrong_bits tail received) 3 ≡ b → judged Detecting received ≡ bad
      go true t =
          let k : wrong_bits tail received < 3 = ltb-true (wrong_bits tail received) 3 t in
          tail_two_bad Detecting (omega arith)
      go false t =
          let k : 3 ≤ wrong_bits tail received = ltb-false (wrong_bits tail received) 3 t in
          tail_triple (omega arith)
