-- Codeblocks one behind the other: their length, the octet at each place, and one codeblock more, as the writer's loop puts it (`Written`).
use mathlib.Core.Path.{◌≡◌, refl, sym, ap, ap₂, subst, ◌∙◌}
use mathlib.Core.List.{List, [], ◌∷◌, ◌++◌, append_assoc, append-nil}
use Prim.Native.Nat.{ℕ, zero, suc, ◌+◌, ◌*◌, ◌/◌, ◌<◌, ◌≤◌}
use native.Mathlib.Nat.{le_of_suc-le-suc, not-suc-le-zero, zero-add, mul-suc}
use native.Mathlib.Numerals.{add-one}
use native.Mathlib.Omega.{arith}
use lib.ListN.{length, take, drop, get_or, set, length-append, length-take, length-drop, get_or-append}
use lib.Seq.{get_or-append-add, take_at, drop_at, drop-drop, sets-eq}
use borrow.Rule.Slice.PartMut.{put_mid}
use Rattle.codeblock.specs.Codeblock.{codeblock_of, error_control}
use Rattle.codeblock.proofs.Codeblock.{length_codeblock}
use Rattle.memory.specs.Placed.{placed}
use Rattle.memory.proofs.Parts.{placed_length}
use Rattle.memory.proofs.Laws.{placed_fits, placed_mid, placed_behind, placed_front}
use Rattle.encoded_data.specs.EncodedData.{encoded}

-- a part cut from the front of a rest, and what is left behind it
pub cut_front : (rest part more : List ℕ) (n : ℕ) → rest ≡ part ++ more → length part ≡ n → part ≡ take n rest
cut_front rest part more n e l = sym (ap (take n) e ∙ take_at part more n l)

pub cut_back : (rest part more : List ℕ) (n : ℕ) → rest ≡ part ++ more → length part ≡ n → more ≡ drop n rest
cut_back rest part more n e l = sym (ap (drop n) e ∙ drop_at part more n l)

module _ (information : List ℕ) where
  pub length_block : (n : ℕ) → 7 * suc n ≤ length information → length (codeblock_of (take 7 information)) ≡ 8
  length_block n h = length_codeblock (take 7 information) ∙ simp length-take (omega (arith, mul-suc 7 n))

pub length_encoded : (n : ℕ) (information : List ℕ) → 7 * n ≤ length information → length (encoded n information) ≡ 8 * n
unfolding encoded
length_encoded zero information h = refl
length_encoded (suc n) information h =
    let e = length_encoded n (drop 7 information) (simp length-drop (omega (arith, mul-suc 7 n))) in
    simp length-append (omega (arith, length_block information n h, mul-suc 8 n))

pub encoded_at : (n : ℕ) (information : List ℕ) (b i : ℕ) → 7 * n ≤ length information → b < n → i < 8
    → get_or (encoded n information) (8 * b + i) 0 ≡ get_or (codeblock_of (take 7 (drop (7 * b) information))) i 0
unfolding encoded
encoded_at zero information b i h hb hi = absurd (not-suc-le-zero hb)
encoded_at (suc n) information zero i h hb hi =
    let l : i < length (codeblock_of (take 7 information)) = omega (arith, length_block information n h) in
    ap (λ (j : ℕ). get_or (encoded (suc n) information) j 0) (zero-add i)
    ∙ get_or-append (codeblock_of (take 7 information)) (encoded n (drop 7 information)) 0 i l
encoded_at (suc n) information (suc b) i h hb hi =
    let e : 8 * suc b + i ≡ length (codeblock_of (take 7 information)) + (8 * b + i) = omega (arith, length_block information n h, mul-suc 8 b) in
    let d : 7 + 7 * b ≡ 7 * suc b = omega (arith, mul-suc 7 b) in
    ap (λ (j : ℕ). get_or (encoded (suc n) information) j 0) e
    ∙ get_or-append-add (codeblock_of (take 7 information)) (encoded n (drop 7 information)) (8 * b + i) 0
    ∙ encoded_at n (drop 7 information) b i (simp length-drop (omega (arith, mul-suc 7 n))) (le_of_suc-le-suc hb) hi
    ∙ ap (λ (l : List ℕ). get_or (codeblock_of (take 7 l)) i 0) (drop-drop (7 * b) 7 information ∙ ap (λ (j : ℕ). drop j information) d)

-- one codeblock more
encoded_more : (n : ℕ) (information : List ℕ) → encoded (suc n) information ≡ encoded n information ++ codeblock_of (take 7 (drop (7 * n) information))
unfolding encoded
encoded_more zero information = append-nil (codeblock_of (take 7 information))
encoded_more (suc n) information =
    let d : 7 + 7 * n ≡ 7 * suc n = omega (arith, mul-suc 7 n) in
    ap (λ (l : List ℕ). codeblock_of (take 7 information) ++ l)
    (encoded_more n (drop 7 information)
    ∙ ap (λ (l : List ℕ). encoded n (drop 7 information) ++ codeblock_of (take 7 l)) (drop-drop (7 * n) 7 information ∙ ap (λ (j : ℕ). drop j information) d))
    ∙ sym (append_assoc (codeblock_of (take 7 information)) (encoded n (drop 7 information)) (codeblock_of (take 7 (drop (7 * suc n) information))))

-- one octet stored is one octet placed
set_placed : (memory : List ℕ) (place octet : ℕ) → place < length memory → set memory place octet ≡ placed memory place (octet ∷ [])
set_placed memory place octet h =
    sets-eq (octet ∷ []) memory place (omega arith) ∙ sym (placed_fits memory place (octet ∷ []) (omega arith))

-- n codeblocks of the information stand at the front of a memory that was `old`; the rest of the information is left, to be cut by the size
pub record Written (information old memory rest : List ℕ) (size n : ℕ) : Type 0 where
  pub seven : size ≡ 7
  pub left : rest ≡ drop (7 * n) information
  pub within : 7 * n ≤ length information
  pub front : memory ≡ encoded n information ++ drop (length (encoded n information)) old

pub written_none : (information old rest : List ℕ) (size n : ℕ) → rest ≡ information → size ≡ 7 → n ≡ 0 → Written information old old rest size n
unfolding encoded
written_none information old rest size n r z e =
    subst (Written information old old rest size) (sym e) (record { seven = z; left = r; within = omega arith; front = refl })

module _ {information old memory rest : List ℕ} {size n : ℕ} (w : Written information old memory rest size n) (room : 8 * (length information / 7) ≤ length old)
    (same : length memory ≡ length old) where
  -- no seven octets are left
  pub written_all : length rest < size → memory ≡ placed old 0 (encoded (length information / 7) information)
  written_all h =
      let whole : n ≡ length information / 7 = omega (arith, w.seven, w.within, ap length w.left, length-drop (7 * n) information) in
      w.front
      ∙ sym (placed_front old (encoded n information) (omega (arith, length_encoded n information w.within)))
      ∙ ap (λ (j : ℕ). placed old 0 (encoded j information)) whole

  -- codeblock n put behind them: seven octets cut from the rest, and their error control octet
  pub written_more : (part more : List ℕ) (size' : ℕ) → (rest ≡ part ++ more) × (length part ≡ size) → size' ≡ size
      → (written : List ℕ) (at k place control n' : ℕ) → written ≡ part → at ≡ 8 * n → k ≡ 7 → place ≡ 8 * n + 7 → control ≡ error_control part → n' ≡ n + 1
      → Written information old (set (put_mid at k memory written) place control) more size' n'
  unfolding codeblock_of
  written_more part more size' e z written at k place control n' p a l b c next = subst (Written information old (set (put_mid at k memory written) place control) more size') (sym next) (record {
    seven = z ∙ w.seven;
    left = cut_back rest part more 7 e.0 long ∙ ap (drop 7) w.left ∙ drop-drop 7 (7 * n) information ∙ ap (λ (j : ℕ). drop j information) next_seven;
    within = omega (arith, there);
    front =
        ap₂ (set (put_mid at k memory written)) b c
        ∙ ap (λ (m : List ℕ). set m (8 * n + 7) (error_control part)) (placed_mid memory at k part written p (l ∙ sym long) (omega (arith, there)) ∙ one)
        ∙ set_placed ((encoded n information ++ part) ++ drop (length (encoded n information ++ part)) old) (8 * n + 7) (error_control part)
        (omega (arith, there, ap length one, placed_length memory at part))
        ∙ placed_behind old (encoded n information ++ part) (error_control part ∷ []) ((encoded n information ++ part) ++ drop (length (encoded n information ++ part)) old) (8 * n + 7) refl both (omega (arith, there))
        ∙ ap (λ (x : List ℕ). x ++ drop (length x) old) o;
  })
    where
      long : length part ≡ 7
      long = e.1 ∙ w.seven

      there : n < length information / 7
      there = omega (arith, ap length e.0, length-append part more, long, w.within, ap length w.left, length-drop (7 * n) information)

      next_seven : 7 * n + 7 ≡ 7 * (n + 1)
      next_seven = omega arith

      ahead : length (encoded n information) ≡ 8 * n
      ahead = length_encoded n information w.within

      both : 8 * n + 7 ≡ length (encoded n information ++ part)
      both = sym (length-append (encoded n information) part ∙ ap₂ ◌+◌ ahead long)

      one : placed memory at part ≡ (encoded n information ++ part) ++ drop (length (encoded n information ++ part)) old
      one = placed_behind old (encoded n information) part memory at w.front (a ∙ sym ahead) (omega (arith, there))

      o : (encoded n information ++ part) ++ (error_control part ∷ []) ≡ encoded (n + 1) information
      o =
          append_assoc (encoded n information) part (error_control part ∷ [])
          ∙ ap (λ (x : List ℕ). encoded n information ++ codeblock_of x) (cut_front rest part more 7 e.0 long ∙ ap (take 7) w.left)
          ∙ sym (encoded_more n information)
          ∙ ap (λ (j : ℕ). encoded j information) (sym (add-one n))
