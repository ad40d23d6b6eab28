-- A codeblock alone is a run of at most one: the run tells its judgement (`single_bad`, `single_good`).
use mathlib.Core.Path.{◌≡◌, refl, sym, ap, ap₂, ◌∙◌}
use mathlib.Core.Bool.{Bool, true, false}
use mathlib.Core.List.{List, ◌++◌, append-nil}
use Prim.Native.Nat.{ℕ}
use native.Mathlib.Nat.{add-zero}
use native.Mathlib.Omega.{arith}
use lib.ListN.{length, take, drop, replicate}
use lib.Seq.{take_all}
use Rattle.base.specs.Choice.{pick}
use Rattle.base.proofs.Tests.{apart}
use Rattle.std.specs.Prelude.{Option, Some, None}
use Rattle.codeblock.specs.Codeblock.{good, bad, judged, is_good, information_of, corrected_of}
use Rattle.codeblock.specs.declared.Judged.{Judged}
use Rattle.codeblock.specs.declared.Mode.{Mode}
use Rattle.codeblock.proofs.Codeblock.{of_judged, good_seven}
use Rattle.encoded_data.specs.EncodedData.{good_run, information_in, corrected_in, whole_in}

-- what is not good is bad, and nothing of it is used
bad_judged : (mode : Mode) (block : List ℕ) → is_good (judged mode block) ≡ false → judged mode block ≡ bad
bad_judged mode block =
    of_judged block (λ (j : Option Judged). is_good j ≡ false → j ≡ bad) (λ e. refl) (λ i k e g. absurd (apart (sym g))) (λ e g. absurd (apart (sym g))) mode

module _ (mode : Mode) (block : List ℕ) (l : length block ≡ 8) {n : ℕ} (e : n ≡ good_run (judged mode) (whole_in (length block) 7) block) where
  all : take 8 block ≡ block
  all = take_all 8 block (omega arith)

  run_is : n ≡ pick (is_good (judged mode block)) 1 0
  unfolding good_run
  run_is =
      e
      ∙ ap (λ (k : ℕ). good_run (judged mode) (whole_in k 7) block) l
      ∙ ap (λ (b : List ℕ). pick (is_good (judged mode b)) 1 0) all

  pub single_bad : n ≡ 0 → judged mode block ≡ bad
  single_bad z = bad_judged mode block (go (is_good (judged mode block)) (sym run_is ∙ z))
    where
      go : (b : Bool) → pick {A = ℕ} b 1 0 ≡ 0 → b ≡ false
      go true h = absurd (omega arith)
      go false h = refl

  is_good_lem : (n ≡ 0 → ⊥) → is_good (judged mode block) ≡ true
  is_good_lem z = go (is_good (judged mode block)) run_is
    where
      go : (b : Bool) → n ≡ pick {A = ℕ} b 1 0 → b ≡ true
      go true h = refl
      go false h = absurd (z h)

  pub single_good : {corrected : ℕ} {memory : List ℕ} → (n ≡ 0 → ⊥) → corrected ≡ corrected_in (judged mode) n block
      → memory ≡ information_in (judged mode) n block ++ drop (length (information_in (judged mode) n block)) (replicate 7 0)
      → judged mode block ≡ good memory corrected
  unfolding information_in corrected_in
  single_good {corrected} {memory} z c m =
      let g : is_good (judged mode block) ≡ true = is_good_lem z in
      let one : n ≡ 1 = run_is ∙ ap (λ (b : Bool). pick b 1 0) g in
      let i : information_in (judged mode) n block ≡ information_of (judged mode block) =
      ap (λ (k : ℕ). information_in (judged mode) k block) one ∙ append-nil (information_of (judged mode (take 8 block))) ∙ ap (λ (b : List ℕ). information_of (judged mode b)) all in
      let v : memory ≡ information_of (judged mode block) =
      m
      ∙ ap₂ (λ (x : List ℕ) (k : ℕ). x ++ drop k (replicate 7 0)) i (ap length i ∙ good_seven mode block g)
      ∙ append-nil (information_of (judged mode block)) in
      let k : corrected ≡ corrected_of (judged mode block) =
      c ∙ ap (λ (k : ℕ). corrected_in (judged mode) k block) one ∙ add-zero (corrected_of (judged mode (take 8 block))) ∙ ap (λ (b : List ℕ). corrected_of (judged mode b)) all in
      told (judged mode block) g ∙ ap₂ good (sym v) (sym k)
    where
      told : (j : Option Judged) → is_good j ≡ true → j ≡ good (information_of j) (corrected_of j)
      told None e = absurd (apart e)
      told (Some j) e = refl
