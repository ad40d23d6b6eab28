-- What `placed` comes to, by whether the octets fit.
use mathlib.Core.Path.{◌≡◌, refl, sym, ap, ap₂, ◌∙◌}
use mathlib.Core.List.{List, ◌++◌}
use Prim.Native.Nat.{ℕ, ◌+◌, ◌<◌, ◌≤◌}
use native.Mathlib.Nat.{zero-add}
use native.Mathlib.Omega.{arith}
use borrow.Author.Tests.{le-leb, lt-leb}
use lib.ListN.{length, take, drop, length-append, length-drop}
use lib.Seq.{paste, take-length, take_at, drop-append-add, drop-drop}
use borrow.Rule.Slice.PartMut.{put_mid}
use Rattle.std.proofs.lemmas.Slice.{put_mid-paste}
use Rattle.memory.specs.Placed.{placed}

pub placed_fits : (memory : List ℕ) (place : ℕ) (octets : List ℕ) → place + length octets ≤ length memory
    → placed memory place octets ≡ take place memory ++ octets ++ drop (place + length octets) memory
unfolding placed
placed_fits memory place octets h = simp (le-leb (place + length octets) (length memory) h)

pub placed_not : (memory : List ℕ) (place : ℕ) (octets : List ℕ) → length memory < place + length octets → placed memory place octets ≡ memory
unfolding placed
placed_not memory place octets h = simp (lt-leb (place + length octets) (length memory) h)

-- all octets copied
pub pasted : (memory : List ℕ) (place : ℕ) (octets : List ℕ) → place + length octets ≤ length memory
    → paste memory place octets (length octets) ≡ placed memory place octets
pasted memory place octets h = rw (take-length octets, placed_fits memory place octets h)

-- octets written over a part of the memory, as by `copy_from_slice`
pub placed_mid : (memory : List ℕ) (place n : ℕ) (octets written : List ℕ) → written ≡ octets → n ≡ length octets → place + length octets ≤ length memory
    → put_mid place n memory written ≡ placed memory place octets
placed_mid memory place n octets written e l h =
    put_mid-paste place n memory written octets (length octets) e (sym l) refl ∙ pasted memory place octets h

-- octets placed behind those that already stand at the front
pub placed_behind : (old front octets memory : List ℕ) (place : ℕ) → memory ≡ front ++ drop (length front) old → place ≡ length front
    → place + length octets ≤ length old → placed memory place octets ≡ (front ++ octets) ++ drop (length (front ++ octets)) old
placed_behind old front octets memory place e p h =
    let l : length memory ≡ length old = ap length e ∙ simp (length-append, length-drop) (omega arith) in
    let n : length (front ++ octets) ≡ place + length octets = length-append front octets ∙ ap (λ (j : ℕ). j + length octets) (sym p) in
    let t : take place memory ≡ front = ap (take place) e ∙ take_at front (drop (length front) old) place (sym p) in
    let d : drop (place + length octets) memory ≡ drop (length (front ++ octets)) old =
    ap₂ (λ (j : ℕ) (m : List ℕ). drop (j + length octets) m) p e
    ∙ drop-append-add front (drop (length front) old) (length octets)
    ∙ drop-drop (length octets) (length front) old
    ∙ ap (λ (j : ℕ). drop j old) (sym (length-append front octets)) in
    placed_fits memory place octets (omega arith) ∙ ap₂ (λ (x y : List ℕ). x ++ octets ++ y) t d

-- octets placed at the front
pub placed_front : (memory octets : List ℕ) → length octets ≤ length memory → placed memory 0 octets ≡ octets ++ drop (length octets) memory
placed_front memory octets h =
    placed_fits memory 0 octets (omega arith) ∙ ap (λ (j : ℕ). octets ++ drop j memory) (zero-add (length octets))
