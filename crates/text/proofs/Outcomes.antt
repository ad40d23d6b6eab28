-- What writing comes to, by whether the room is enough.
use mathlib.Core.Path.{◌≡◌, refl, sym, ap, ap₂, ◌∙◌}
use mathlib.Core.List.{List}
use Prim.Native.Nat.{ℕ, ◌<◌, ◌≤◌}
use native.Mathlib.Omega.{arith}
use borrow.Author.Tests.{le-leb, lt-leb}
use lib.Seq.{take_at}
use lib.ListN.{length, take, drop, length-append}
use Rattle.std.specs.Prelude.{Result, Ok, Err, IsOkAnd}
use Rattle.base.specs.declared.Refusal.{Refusal}
use Rattle.base.specs.Outcome.{Outcome, Outcome.done, Outcome.refused, answer, after, number_of, count_of}
use Rattle.base.specs.Refusals.{written_answer}
use Rattle.base.proofs.Refusals.{some_number}
use Rattle.text.specs.Answers.{written}

pub written_done : (text : List ℕ) (room : ℕ) → length text ≤ room → written text room ≡ done text tt
unfolding written
written_done text room h = simp (le-leb (length text) room h)

pub written_short : (text : List ℕ) (room : ℕ) → room < length text → written text room ≡ refused 11 0
unfolding written
written_short text room h = simp (lt-leb (length text) room h)

-- an outcome that is done is told as no refusal
pub ok_done : (o : Outcome (Unit {0})) (octets : List ℕ) (w : Result ℕ Refusal) → written_answer w ≡ answer o → o ≡ done octets tt → w ≡ Ok (length octets)
ok_done o octets (Ok n) e d = ap Ok (ap count_of e ∙ ap (λ x. count_of (answer x)) d)
ok_done o octets (Err refusal) e d = absurd (some_number refusal (ap number_of e ∙ ap (λ x. number_of (answer x)) d))

-- nor is a text that fits
pub told_ok : (text : List ℕ) (room : ℕ) (w : Result ℕ Refusal) → length text ≤ room → written_answer w ≡ answer (written text room) → w ≡ Ok (length text)
told_ok text room w h e = ok_done (written text room) text w e (written_done text room h)

-- and what then stands at the front
pub told_text : (text old out : List ℕ) (w : Result ℕ Refusal) (count : ℕ) → length text ≤ length old → written_answer w ≡ answer (written text (length old)) → w ≡ Ok count
    → out ≡ after (written text (length old)) old → take count out ≡ text
told_text text old out w count h e is m =
    let n : count ≡ length text = ap (λ (v : Result ℕ Refusal). count_of (written_answer v)) (sym is ∙ told_ok text (length old) w h e) in
    ap₂ take n (m ∙ ap (λ o. after o old) (written_done text (length old) h)) ∙ take_at text (drop (length text) old) (length text) refl

-- what is told to be written lies within the output
pub ok_within : (o : Outcome (Unit {0})) (octets old out : List ℕ) (w : Result ℕ Refusal) → written_answer w ≡ answer o → o ≡ done octets tt → out ≡ after o old
    → length out ≡ length old → IsOkAnd w (λ count. count ≤ length out)
ok_within o octets old out w e d m l =
    let n : length octets ≤ length out =
    omega (arith, ap length (m ∙ ap (λ x. after x old) d) ∙ length-append octets (drop (length octets) old)) in
    rw (ok_done o octets w e d) n
