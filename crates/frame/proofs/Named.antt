-- The refusal of a frame by its name has the number of the definition: `reading_told`, and of any answer in code `named`.
use mathlib.Core.Path.{◌≡◌, refl, sym, ap}
use mathlib.Core.Bool.{Bool, true, false}
use mathlib.Core.List.{List}
use Prim.Native.Nat.{ℕ, ◌+◌}
use native.Mathlib.Omega.{arith}
use lib.Dec.{leb, eqb}
use lib.ListN.{length, take}
use Rattle.std.specs.Prelude.{Result, Ok, Err, is_err}
use Rattle.base.specs.Choice.{pick, must}
use Rattle.base.specs.Fields.{field_at}
use Rattle.base.specs.Limits.{smallest_frame}
use Rattle.base.specs.Refusals.{result_number, frame_refusal, by_number}
use Rattle.base.specs.declared.Refusal.{Refusal}
use Rattle.base.proofs.Tests.{apart}
use Rattle.base.proofs.Refusals.{some_number}
use Rattle.fecf.specs.Fecf.{syndrome_of}
use Rattle.frame_header.specs.Header.{spacecraft_identifier, virtual_channel_identifier, valid_header}
use Rattle.frame.specs.Frame.{total_of, command_held, header_refusal, content_refusal, refusal_of}
use Rattle.frame.specs.Answers.{fields_of, reading_of}

-- the same where a number is known by an equation
pub by_same : {A : Type 0} (a : A) {n m : ℕ} → n ≡ m → by_number n a ≡ by_number m a
by_same a e = ap (λ (n : ℕ). by_number n a) e

module _ {A : Type 0} (a : A) where
  Named : ℕ → Type 0
  Named n = result_number (by_number n a) ≡ n

  check : (t : Bool) (k on : ℕ) → result_number (by_number k a) ≡ k → result_number (by_number on a) ≡ on
      → result_number (by_number (must t k on) a) ≡ must t k on
  check true k on p q = q
  check false k on p q = p

  pub named_content : (s : List ℕ) (n spacecraft channel : ℕ) → result_number (by_number (content_refusal s n spacecraft channel) a) ≡ content_refusal s n spacecraft channel
  unfolding content_refusal header_refusal
  named_content s n spacecraft channel =
      check (eqb (syndrome_of (take n s)) 0) 8 _ refl
      (check (valid_header s) 6 _ refl
      (check (eqb (field_at spacecraft_identifier s) spacecraft) 7 _ refl
      (check (eqb (field_at virtual_channel_identifier s) channel) 7 _ refl
      (check (command_held s n) 9 0 refl refl))))

  pub named : (s : List ℕ) (spacecraft channel : ℕ) → result_number (by_number (refusal_of s spacecraft channel) a) ≡ refusal_of s spacecraft channel
  unfolding refusal_of
  named s spacecraft channel =
      check (leb smallest_frame (length s)) 4 _ refl
      (check (leb smallest_frame (total_of s)) 4 _ refl
      (check (leb (total_of s) (length s)) 4 _ refl
      (check (leb (length s) (total_of s + 6)) 5 _ refl
      (named_content s (total_of s) spacecraft channel))))

-- an answer in code is a refusal exactly where its number is not zero
pub none_where : (r : Result (Unit {0}) Refusal) → is_err r ≡ false → result_number r ≡ 0
none_where (Ok x) e = refl
none_where (Err refusal) e = absurd (apart (sym e))

pub some_where : (r : Result (Unit {0}) Refusal) → is_err r ≡ true → result_number r ≡ 0 → ⊥
some_where (Ok x) e z = apart e
some_where (Err refusal) e z = some_number refusal z

-- a refusal by a number is the same whatever stands beside it
pub same_refusal : {A B : Type 0} (a : A) (b : B) (n : ℕ) {refusal : Refusal} → Err refusal ≡ by_number n a → Err refusal ≡ by_number n b
same_refusal a b n = go (eqb n 0)
  where
    go : {refusal : Refusal} (t : Bool) → Err refusal ≡ pick t (Ok a) (Err (frame_refusal n)) → Err refusal ≡ pick t (Ok b) (Err (frame_refusal n))
    go true e = let z : ◌≡◌ {A = ℕ} 0 1 = cc e in absurd (omega arith)
    go {refusal} false e = let z : refusal ≡ frame_refusal n = cc e in ap Err z

-- of what reading answers
pub reading_told : (s : List ℕ) (spacecraft channel : ℕ) → result_number (reading_of s spacecraft channel) ≡ refusal_of s spacecraft channel
unfolding reading_of
reading_told s spacecraft channel = named (fields_of s) s spacecraft channel
