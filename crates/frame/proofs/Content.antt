-- The test of the FECF: the syndrome of a frame of n octets is zero exactly where its last two octets are the FECF of the others.
use mathlib.Core.Path.{◌≡◌, sym, ap, ◌∙◌}
use mathlib.Core.List.{List, [], ◌∷◌, ◌++◌}
use Prim.Native.Nat.{ℕ, suc, ◌+◌, ◌-◌, ◌*◌, ◌/◌, ◌%◌, ◌<◌, ◌≤◌}
use native.Mathlib.Omega.{arith}
use borrow.Author.Tests.{eq-eqb, ne_eqb}
use lib.Dec.{eqb}
use lib.ListN.{length, take, get_or, length-take}
use lib.Seq.{take-add, get_or-take}
use Rattle.base.specs.Octets.{Octets}
use Rattle.base.proofs.Lists.{below_at, take_next}
use Rattle.fecf.specs.Fecf.{fecf_of, syndrome_of, field_octets}
use Rattle.fecf.proofs.Syndrome.{syndrome_test}
use Rattle.frame.specs.Frame.{header_refusal, content_refusal}
use Rattle.frame_header.proofs.Octets.{o}

-- a part of octets is octets
pub octets_take : (s : List ℕ) (n : ℕ) → ((i : ℕ) → get_or s i 0 < 256) → n ≤ length s → Octets (take n s)
octets_take s n octets h = below_at 256 (take n s) (λ i k. subst_lt (get_or-take n s i 0 (bound k)) (octets i))
  where
    subst_lt : {x y : ℕ} → x ≡ y → y < 256 → x < 256
    subst_lt e l = omega arith

    bound : {i : ℕ} → i < length (take n s) → i < n
    bound k = omega (arith, length-take n s)

two_octets : (a b : ℕ) → a < 256 → b < 256 → field_octets (a * 256 + b) ≡ a ∷ b ∷ []
two_octets a b h k =
    let p : (a * 256 + b) / 256 ≡ a = omega arith in
    let q : (a * 256 + b) % 256 ≡ b = omega arith in
    rw (p, q)

pub take_frame : (s : List ℕ) (n : ℕ) → ((i : ℕ) → get_or s i 0 < 256) → 8 ≤ n → n ≤ length s
    → take n s ≡ take (n - 2) s ++ field_octets (o s (n - 2) * 256 + o s (n - 1))
take_frame s n octets h k =
    let e : n ≡ n - 2 + 2 = omega arith in
    let f : suc (n - 2) ≡ n - 1 = omega arith in
    ap (λ (j : ℕ). take j s) e
    ∙ take-add (n - 2) 2 s
    ∙ ap (λ (l : List ℕ). take (n - 2) s ++ l)
    (take_next s 1 (n - 2) (omega arith)
    ∙ ap (λ (l : List ℕ). o s (n - 2) ∷ l) (take_next s 0 (suc (n - 2)) (omega arith) ∙ ap (λ (j : ℕ). o s j ∷ []) f)
    ∙ sym (two_octets (o s (n - 2)) (o s (n - 1)) (octets (n - 2)) (octets (n - 1))))

pub content_test : (s : List ℕ) (n : ℕ) → ((i : ℕ) → get_or s i 0 < 256) → 8 ≤ n → n ≤ length s
    → eqb (syndrome_of (take n s)) 0 ≡ eqb (o s (n - 2) * 256 + o s (n - 1)) (fecf_of (take (n - 2) s))
content_test s n octets h k =
    ap (λ (l : List ℕ). eqb (syndrome_of l) 0) (take_frame s n octets h k)
    ∙ syndrome_test (take (n - 2) s) (o s (n - 2) * 256 + o s (n - 1)) (octets_take s (n - 2) octets (omega arith)) (omega (arith, octets (n - 2), octets (n - 1)))

-- the check of the content, by that test
module _ (s : List ℕ) (n spacecraft channel : ℕ) (octets : (i : ℕ) → get_or s i 0 < 256) (h : 8 ≤ n) (k : n ≤ length s) where
  pub content_bad : (o s (n - 2) * 256 + o s (n - 1) ≡ fecf_of (take (n - 2) s) → ⊥) → content_refusal s n spacecraft channel ≡ 8
  unfolding content_refusal
  content_bad d = rw (content_test s n octets h k, ne_eqb (o s (n - 2) * 256 + o s (n - 1)) (fecf_of (take (n - 2) s)) d)

  pub content_good : o s (n - 2) * 256 + o s (n - 1) ≡ fecf_of (take (n - 2) s) → content_refusal s n spacecraft channel ≡ header_refusal s n spacecraft channel
  unfolding content_refusal
  content_good e = rw (content_test s n octets h k, eq-eqb (o s (n - 2) * 256 + o s (n - 1)) (fecf_of (take (n - 2) s)) e)
