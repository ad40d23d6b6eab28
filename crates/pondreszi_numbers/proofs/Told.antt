-- What a writer or a reader answered, told by numbers: they are those of the answer that its outcome has.
use mathlib.Core.Path.{◌≡◌, ap, ◌∙◌}
use mathlib.Core.List.{List}
use Prim.Native.Nat.{ℕ}
use Rattle.base.specs.Outcome.{Outcome, Answer, answer, after, number_of, count_of}
use Rattle.cltu.specs.Cltu.{Found}
use Rattle.pondreszi_numbers.specs.Numbers.{place_of, corrected_of}

-- a writer: its answer a is the outcome's, b, and so is the lent output; a is told
pub told_by_lem : {A : Type 0} {a b : Answer A} {number count : ℕ} {new old : List ℕ} → (a ≡ b) × (new ≡ old) → (number ≡ number_of a) × (count ≡ count_of a)
    → (number ≡ number_of b) × ((new ≡ old) × (count ≡ count_of b))
told_by_lem w t = (t.0 ∙ ap number_of w.0, (w.1, t.1 ∙ ap count_of w.0))

-- a writer that was handed narrowed numbers: its outcome o is the outcome p of the numbers given
pub told_as : {A : Type 0} {o p : Outcome A} {a : Answer A} {number count : ℕ} {new : List ℕ} (old : List ℕ) → o ≡ p
    → (a ≡ answer o) × (new ≡ after o old) → (number ≡ number_of a) × (count ≡ count_of a)
    → (number ≡ number_of (answer p)) × ((new ≡ after p old) × (count ≡ count_of (answer p)))
told_as old e w t = told_by_lem (w.0 ∙ ap answer e, w.1 ∙ ap (λ x. after x old) e) t

-- the reader of CLTUs: the numbers of equal answers
pub same_reading : {a b : Answer Found} → a ≡ b
    → (number_of a ≡ number_of b) × ((count_of a ≡ count_of b) × ((place_of a ≡ place_of b) × (corrected_of a ≡ corrected_of b)))
same_reading e = (ap number_of e, (ap count_of e, (ap place_of e, ap corrected_of e)))
