-- What memory holds after octets were placed into it: them at their place, before and behind them what was there; and octets placed where they
-- stand change nothing. Each is said of any octets; where they do not fit the memory is as it was. And parts that fit one behind the other are
-- placed as one.
use mathlib.Core.Path.{◌≡◌, refl, sym, ap, ap₂, subst, ◌∙◌}
use mathlib.Core.Bool.{Bool, true, false}
use mathlib.Core.List.{List, [], ◌∷◌, ◌++◌, append_assoc}
use Prim.Native.Nat.{ℕ, suc, ◌+◌, ◌-◌, ◌<◌, ◌≤◌}
use native.Mathlib.Omega.{arith}
use borrow.Author.Tests.{leb-true, leb-false}
use lib.Dec.{leb}
use lib.ListN.{length, take, drop, get_or, set, length-append, length-take, length-drop, take-append-drop}
use lib.Seq.{take-length, take-take, take-add, take-append-le, drop-append-le, drop-append-add, take-append_seam, drop-append_seam, drop-drop, drop-cons, set_at, length-take-le}
use Rattle.memory.specs.Placed.{placed}
use Rattle.memory.proofs.Laws.{placed_fits, placed_not, placed_behind}

-- a fact of the memory after it, by whether the octets fit
by_fit : (P : List ℕ → Type 0) (memory : List ℕ) (place : ℕ) (octets : List ℕ) → (place + length octets ≤ length memory → P (placed memory place octets))
    → P memory → P (placed memory place octets)
by_fit P memory place octets fits not = go (leb (place + length octets) (length memory)) refl where
  go : (b : Bool) → leb (place + length octets) (length memory) ≡ b → P (placed memory place octets)
  go true e = fits (leb-true (place + length octets) (length memory) e)
  go false e = subst P (sym (placed_not memory place octets (leb-false (place + length octets) (length memory) e))) not

pub placed_length : (memory : List ℕ) (place : ℕ) (octets : List ℕ) → length (placed memory place octets) ≡ length memory
placed_length memory place octets =
    by_fit (λ (s : List ℕ). length s ≡ length memory) memory place octets
    (λ h. ap length (placed_fits memory place octets h) ∙ simp (length-append, length-take, length-drop) (omega arith))
    refl

-- a part before `place`, whatever stands from there on
part_before : (place a m : ℕ) (xs ys : List ℕ) → length xs ≡ place → a + m ≤ place → take m (drop a (xs ++ ys)) ≡ take m (drop a xs)
part_before place a m xs ys l h =
    let k : length (drop a xs) ≡ length xs - a = length-drop a xs in
    ap (take m) (drop-append-le a xs ys (omega arith)) ∙ take-append-le m (drop a xs) ys (omega arith)

module _ (memory : List ℕ) (place : ℕ) (octets : List ℕ) where
  abbrev end : ℕ
  end = place + length octets

  module _ (fits : end ≤ length memory) where
    front : length (take place memory) ≡ place
    front = length-take-le place memory (omega arith)

    cut : placed memory place octets ≡ take place memory ++ (octets ++ drop end memory)
    cut = placed_fits memory place octets fits ∙ append_assoc (take place memory) octets (drop end memory)

    -- the octets placed are read back
    pub placed_there : take (length octets) (drop place (placed memory place octets)) ≡ octets
    placed_there =
        let X = octets ++ drop end memory in
        ap (λ (xs : List ℕ). take (length octets) (drop place xs)) cut
        ∙ ap (λ (k : ℕ). take (length octets) (drop k (take place memory ++ X))) (sym front)
        ∙ ap (take (length octets)) (drop-append_seam (take place memory) X)
        ∙ take-append_seam octets (drop end memory)

    before_fits : (a m : ℕ) → a + m ≤ place → take m (drop a (placed memory place octets)) ≡ take m (drop a memory)
    before_fits a m h =
        ap (λ (xs : List ℕ). take m (drop a xs)) cut
        ∙ part_before place a m (take place memory) (octets ++ drop end memory) front h
        ∙ sym (part_before place a m (take place memory) (drop place memory) front h)
        ∙ ap (λ (xs : List ℕ). take m (drop a xs)) (take-append-drop place memory)

    behind_fits : (n : ℕ) → end ≤ n → drop n (placed memory place octets) ≡ drop n memory
    behind_fits n h =
        let r : end + (n - end) ≡ n = omega arith in
        let f : length (take place memory ++ octets) ≡ end = length-append (take place memory) octets ∙ ap (λ (j : ℕ). j + length octets) front in
        ap (drop n) (placed_fits memory place octets fits)
        ∙ ap (λ (j : ℕ). drop j ((take place memory ++ octets) ++ drop end memory)) (sym r ∙ ap (λ (j : ℕ). j + (n - end)) (sym f))
        ∙ drop-append-add (take place memory ++ octets) (drop end memory) (n - end)
        ∙ drop-drop (n - end) end memory
        ∙ ap (λ (j : ℕ). drop j memory) r

  -- what stands before the octets placed stays
  pub placed_before : (a m : ℕ) → a + m ≤ place → take m (drop a (placed memory place octets)) ≡ take m (drop a memory)
  placed_before a m h = by_fit (λ (s : List ℕ). take m (drop a s) ≡ take m (drop a memory)) memory place octets (λ f. before_fits f a m h) refl

  -- what stands behind them stays
  pub placed_after : (n : ℕ) → end ≤ n → drop n (placed memory place octets) ≡ drop n memory
  placed_after n h = by_fit (λ (s : List ℕ). drop n s ≡ drop n memory) memory place octets (λ f. behind_fits f n h) refl

-- as many others written over the octets placed
pub placed_over : (memory : List ℕ) (place : ℕ) (octets others : List ℕ) → length others ≡ length octets → place + length octets ≤ length memory
    → take place (placed memory place octets) ++ (others ++ drop (length octets) (drop place (placed memory place octets))) ≡ placed memory place others
placed_over memory place octets others l h =
    let p = placed memory place octets in
    let b : drop (length octets) (drop place p) ≡ drop (place + length others) memory =
    drop-drop (length octets) place p
    ∙ placed_after memory place octets (place + length octets) (omega arith)
    ∙ ap (λ (n : ℕ). drop (place + n) memory) (sym l) in
    ap₂ (λ (x y : List ℕ). x ++ (others ++ y)) (placed_before memory place octets 0 place (omega arith)) b
    ∙ sym (append_assoc (take place memory) others (drop (place + length others) memory))
    ∙ sym (placed_fits memory place others (omega arith))

-- octets placed where they stand already
pub placed_own : (memory : List ℕ) (place m : ℕ) → placed memory place (take m (drop place memory)) ≡ memory
placed_own memory place m =
    let u = take m (drop place memory) in
    let n = length u in
    let l : n ≤ m = omega (arith, length-take m (drop place memory)) in
    let own : u ≡ take n (drop place memory) = sym (take-length u) ∙ take-take n m (drop place memory) l in
    by_fit (λ (s : List ℕ). s ≡ memory) memory place u
    (λ f.
    placed_fits memory place u f
    ∙ ap (λ (x : List ℕ). take place memory ++ x ++ drop (place + n) memory) own
    ∙ ap (λ (x : List ℕ). x ++ drop (place + n) memory) (sym (take-add place n memory))
    ∙ take-append-drop (place + n) memory)
    refl

-- no octets placed
pub placed_none : (memory : List ℕ) (place : ℕ) → placed memory place [] ≡ memory
placed_none memory place = placed_own memory place 0

-- parts placed one behind the other, where they fit
module _ (row : List ℕ) (at : ℕ) where
  module _ (d : List ℕ) (h : at + length d ≤ length row) where
    pub length_front : length (take at row ++ d) ≡ at + length d
    length_front = length-append (take at row) d ∙ ap (λ (k : ℕ). k + length d) (length-take-le at row (omega arith))

    -- octets behind octets
    pub placed_on : (e : List ℕ) → at + length d + length e ≤ length row → placed (placed row at d) (at + length d) e ≡ placed row at (d ++ e)
    placed_on e k =
        let m : placed row at d ≡ take at row ++ d ++ drop (length (take at row ++ d)) row =
        placed_fits row at d h ∙ ap (λ (i : ℕ). take at row ++ d ++ drop i row) (sym length_front) in
        let a : length (d ++ e) ≡ length d + length e = length-append d e in
        let b : length (take at row ++ d ++ e) ≡ at + length (d ++ e) = length-append (take at row ++ d) e ∙ omega (arith, length_front) in
        placed_behind row (take at row ++ d) e (placed row at d) (at + length d) m (sym length_front) k
        ∙ ap₂ (λ (s : List ℕ) (i : ℕ). s ++ drop i row) (append_assoc (take at row) d e) b
        ∙ sym (placed_fits row at (d ++ e) (omega arith))

    -- one octet more behind them
    pub placed_octet : (x : ℕ) → at + length d < length row → set (placed row at d) (at + length d) x ≡ placed row at (d ++ (x ∷ []))
    placed_octet x k =
        let front = take at row ++ d in
        let behind = drop (suc (at + length d)) row in
        let a : length (d ++ (x ∷ [])) ≡ length d + 1 = length-append d (x ∷ []) in
        let b : suc (at + length d) ≡ at + length (d ++ (x ∷ [])) = omega arith in
        ap (λ (t : List ℕ). set t (at + length d) x) (placed_fits row at d h ∙ ap (λ (t : List ℕ). front ++ t) (drop-cons row (at + length d) 0 k))
        ∙ set_at front (get_or row (at + length d) 0) behind x (at + length d) length_front
        ∙ sym (append_assoc front (x ∷ []) behind)
        ∙ ap₂ (λ (s : List ℕ) (i : ℕ). s ++ drop i row) (append_assoc (take at row) d (x ∷ [])) b
        ∙ sym (placed_fits row at (d ++ (x ∷ [])) (omega arith))
