-- Refuted by name: wrong readers and writers, each with a witness on which it differs from the definitions.
use mathlib.Core.Path.{◌≡◌, refl, sym, ap, ◌∙◌}
use mathlib.Core.Bool.{Bool}
use mathlib.Core.List.{List, [], ◌∷◌, ◌++◌}
use Prim.Native.Nat.{ℕ, zero, suc, ◌+◌, ◌-◌, ◌*◌}
use lib.Dec.{ltb, leb}
use lib.ListN.{length, take, drop, replicate}
use Rattle.base.specs.Choice.{pick, must, both}
use Rattle.base.specs.Limits.{largest_input}
use Rattle.base.specs.Octets.{same, bits_of, octet_bits}
use Rattle.base.specs.Distance.{differing, wrong_bits}
use Rattle.base.specs.Outcome.{Outcome, Outcome.done, Outcome.refused, answer, number_of}
use Rattle.base.specs.Register.{shift_bit, shift_bits, register}
use Rattle.base.proofs.Tests.{apart}
use Rattle.base.proofs.Lists.{same_not}
use Rattle.codeblock.specs.Codeblock.{parity, error_control, codeblock_of, is_encoding, otherwise, judged, is_good}
use Rattle.codeblock.specs.declared.Mode.TheVariants.{Detecting}
use Rattle.randomizer.specs.Randomizer.{next_bit, later, octet, randomized}
use Rattle.start_sequence.specs.StartSequence.{start_sequence, recognized, starts, start_of}
use Rattle.encoded_data.specs.EncodedData.{encoded, good_run, information_in, corrected_in}
use Rattle.cltu.specs.Cltu.{codeblocks, filled, information_for, cltu_of, tail_sequence, Found, reading_run, reading_after, reading_by, reading}
use Rattle.cltu.proofs.Examples.{frame, readings}

-- a reader that refuses all
pub refuses_all : (reader : List ℕ → ℕ → Outcome Found) → ((input : List ℕ) (room : ℕ) → number_of (answer (reader input room)) ≡ 0 → ⊥)
    → ((input : List ℕ) (room : ℕ) → reader input room ≡ reading Detecting input room) → ⊥
refuses_all reader never agrees = never (cltu_of frame) 14 (ap (λ o. number_of (answer o)) (agrees (cltu_of frame) 14) ∙ readings.0)

-- readers with another search for the start sequence
abbrev searching : (List ℕ → ℕ) → List ℕ → ℕ → Outcome Found
searching search input room =
    must (leb (length input) largest_input) (refused 10 0)
    (must (ltb (search input) (length input)) (refused 1 (length input)) (reading_after (judged Detecting) (search input + 2) (drop (search input + 2) input) room))

-- with ours it is the definition
searching_ours : (input : List ℕ) (room : ℕ) → searching start_of input room ≡ reading Detecting input room
unfolding reading_by
searching_ours input room = refl

-- the first place that passes a test
abbrev first_by : (List ℕ → Bool) → List ℕ → ℕ
first_by test [] = 0
first_by test (x ∷ xs) = pick (test (x ∷ xs)) 0 (suc (first_by test xs))

-- a reader by the rule that document 02 replaced, sixteen bits equal to EB 90: it finds the CLTU that EA 90 hides, and finds none where one
-- bit is wrong
abbrev exact : List ℕ → ℕ
exact = first_by (λ s. same (take 2 s) start_sequence)

pub start_exact :
    (searching exact (0xEA ∷ 0x90 ∷ cltu_of frame) 14 ≡ done (filled frame) (record { place = 20; corrected = 0 }))
    × (reading Detecting (0xEA ∷ 0x90 ∷ cltu_of frame) 14 ≡ refused 2 2)
    × (searching exact (0xEA ∷ drop 1 (cltu_of frame)) 14 ≡ refused 1 26)
    × (reading Detecting (0xEA ∷ drop 1 (cltu_of frame)) 14 ≡ done (filled frame) (record { place = 18; corrected = 0 }))
unfolding reading_by reading_run corrected_in information_in good_run start_of starts recognized differing octet_bits bits_of cltu_of information_for encoded filled randomized octet later next_bit judged otherwise is_encoding codeblock_of error_control parity register shift_bits shift_bit
start_exact = (refl, refl, refl, refl)

-- a reader that takes two wrong bits: E8 90 hides a CLTU from it
abbrev two_wrong : List ℕ → ℕ
two_wrong = first_by (λ s. both (leb 2 (length s)) (leb (wrong_bits start_sequence (take 2 s)) 2))

pub start_two_wrong :
    (searching two_wrong (0xE8 ∷ 0x90 ∷ cltu_of frame) 14 ≡ refused 2 2)
    × (reading Detecting (0xE8 ∷ 0x90 ∷ cltu_of frame) 14 ≡ done (filled frame) (record { place = 20; corrected = 0 }))
unfolding reading_by reading_run corrected_in information_in good_run start_of starts recognized wrong_bits differing octet_bits bits_of cltu_of information_for encoded filled randomized octet later next_bit judged otherwise is_encoding codeblock_of error_control parity register shift_bits shift_bit
start_two_wrong = (refl, refl)

-- a reader that takes the last place: it reads the second of two CLTUs
abbrev last_from : ℕ → ℕ → List ℕ → ℕ
last_from found i [] = found
last_from found i (x ∷ xs) = last_from (pick (starts (x ∷ xs)) i found) (suc i) xs

pub start_last :
    (searching (λ s. last_from (length s) 0 s) (cltu_of frame ++ cltu_of frame) 14 ≡ done (filled frame) (record { place = 44; corrected = 0 }))
    × (reading Detecting (cltu_of frame ++ cltu_of frame) 14 ≡ done (filled frame) (record { place = 18; corrected = 0 }))
unfolding reading_by reading_run corrected_in information_in good_run start_of starts recognized differing octet_bits bits_of cltu_of information_for encoded filled randomized octet later next_bit judged otherwise is_encoding codeblock_of error_control parity register shift_bits shift_bit
start_last = (refl, refl)

-- a reader whose test of a codeblock does not look at the filler bit
pub filler_ignored : (test : List ℕ → Bool) → ((information : List ℕ) (control : ℕ) → test (information ++ ((control * 2) ∷ [])) ≡ test (information ++ ((control * 2 + 1) ∷ [])))
    → ((block : List ℕ) → test block ≡ is_good (judged Detecting block)) → ⊥
unfolding judged otherwise is_encoding codeblock_of error_control parity register shift_bits shift_bit
filler_ignored test blind agrees =
    apart (sym (agrees (replicate 7 0 ++ (0xFF ∷ []))) ∙ sym (blind (replicate 7 0) 0x7F) ∙ agrees (replicate 7 0 ++ (0xFE ∷ [])))

-- a randomizer that runs through the error control octets: applied to them, or only counted on over them
abbrev applied : List ℕ → List ℕ
applied octets = start_sequence ++ randomized 0 (encoded (codeblocks (length octets)) (filled octets)) ++ tail_sequence

abbrev sevens : ℕ → ℕ → List ℕ → List ℕ
sevens zero k octets = []
sevens (suc n) k octets = codeblock_of (randomized k (take 7 octets)) ++ sevens n (k + 8) (drop 7 octets)

abbrev counted_on : List ℕ → List ℕ
counted_on octets = start_sequence ++ sevens (codeblocks (length octets)) 0 (filled octets) ++ tail_sequence

pub randomizer_through_control : (applied frame ≡ cltu_of frame → ⊥) × (counted_on frame ≡ cltu_of frame → ⊥)
unfolding cltu_of information_for encoded filled randomized octet later next_bit codeblock_of error_control parity register shift_bits shift_bit
randomizer_through_control = (same_not (applied frame) (cltu_of frame) refl, same_not (counted_on frame) (cltu_of frame) refl)

-- a writer that fills with zeros
abbrev filled_zeros : List ℕ → List ℕ
filled_zeros octets = octets ++ replicate (7 * codeblocks (length octets) - length octets) 0

abbrev zero_fill : List ℕ → List ℕ
zero_fill octets = start_sequence ++ encoded (codeblocks (length octets)) (randomized 0 (filled_zeros octets)) ++ tail_sequence

pub fills_with_zeros : zero_fill frame ≡ cltu_of frame → ⊥
unfolding cltu_of information_for encoded filled randomized octet later next_bit codeblock_of error_control parity register shift_bits shift_bit
fills_with_zeros = same_not (zero_fill frame) (cltu_of frame) refl
