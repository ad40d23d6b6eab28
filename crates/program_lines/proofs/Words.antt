-- A word as a match reads it: its length by its bounds, and octet by octet.
use Rattle.std.proofs.Common.{◌≡◌, ℕ, suc, ◌≤◌, ◌<◌, List, [], ◌∷◌, Bool, true, false, eqb, leb, length, get_or, refl, ap, ap₂, sym, ◌∙◌, arith}
use Rattle.std.proofs.Math.Dec.{leb-suc-suc, leb-suc-zero}
use borrow.Author.Tests.{le-leb, lt-leb}
use Rattle.base.specs.Choice.{both}
use Rattle.base.specs.Octets.{same}
use Rattle.base.proofs.Tests.{both_false}
use Rattle.text.specs.Fields.{fields_of}
use Rattle.text.proofs.Cuts.{fields_some}
use Rattle.program_lines.specs.declared.Line.TheVariants.{Malformed}
use Rattle.program_lines.specs.Line.{by_fields, line_of}

abbrev pub reads : List ℕ → ℕ → List ℕ → Bool
reads s i [] = true
reads s i (c ∷ p) = both (eqb (get_or s i 0) c) (reads s (suc i) p)

abbrev pub as_long : ℕ → ℕ → Bool
as_long m n = both (leb m n) (leb n m)

reads_behind : (x : ℕ) (s : List ℕ) (i : ℕ) (p : List ℕ) → reads (x ∷ s) (suc i) p ≡ reads s i p
reads_behind x s i [] = refl
reads_behind x s i (c ∷ p) = ap (both (eqb (get_or s i 0) c)) (reads_behind x s (suc i) p)

both_moved : (a b c : Bool) → both a (both b c) ≡ both b (both a c)
both_moved true b c = refl
both_moved false true c = refl
both_moved false false c = refl

as_long_on : (m n : ℕ) → as_long m n ≡ as_long (suc m) (suc n)
as_long_on m n = simp (leb-suc-suc m n, leb-suc-suc n m)

pub same_reads : (s p : List ℕ) → same s p ≡ both (as_long (length s) (length p)) (reads s 0 p)
same_reads [] [] = refl
same_reads [] (c ∷ p) = simp (leb-suc-zero, both_false)
same_reads (x ∷ s) [] = simp leb-suc-zero
same_reads (x ∷ s) (c ∷ p) =
    ap (both (eqb x c)) (same_reads s p ∙ ap₂ both (as_long_on (length s) (length p)) (sym (reads_behind x s 0 p)))
    ∙ both_moved (eqb x c) (as_long (suc (length s)) (suc (length p))) (reads (x ∷ s) 1 p)

-- a whole line, by its length
pub line_long : (s : List ℕ) → 63 < length s → line_of s ≡ Malformed
unfolding line_of
line_long s h = rw (lt-leb (length s) 63 h)

pub line_short : (s : List ℕ) → length s ≤ 63 → line_of s ≡ by_fields (fields_of s)
unfolding line_of
line_short s h = rw (le-leb (length s) 63 h)

-- five fields, or more
pub line_many : (word a b c s : List ℕ) → by_fields (word ∷ a ∷ b ∷ c ∷ fields_of s) ≡ Malformed
unfolding by_fields
line_many word a b c s = go (fields_of s) (fields_some s)
  where
    go : (fields : List (List ℕ)) → 0 < length fields → by_fields (word ∷ a ∷ b ∷ c ∷ fields) ≡ Malformed
    go [] h = absurd (omega arith)
    go (d ∷ fields) h = refl
