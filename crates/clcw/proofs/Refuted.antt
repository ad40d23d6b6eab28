-- Refuted by name: wrong readers and writers, each with a witness on which it differs from the definitions.
use mathlib.Core.Path.{◌≡◌, sym, ap, ◌∙◌}
use mathlib.Core.Logic.{◌⊎◌, ⊎_elim}
use mathlib.Core.Bool.{true, false}
use mathlib.Core.List.{List, [], ◌∷◌}
use Prim.Native.Nat.{ℕ, ◌+◌, ◌*◌}
use native.Mathlib.Omega.{arith}
use borrow.Author.Tests.{ne_eqb}
use Rattle.base.specs.Octets.{bits_of, octet_bits}
use Rattle.base.specs.Fields.{digits_of, value_of, packed, octets_of, field_at}
use Rattle.base.proofs.Tests.{apart, both_false}
use Rattle.base.specs.Flags.{bit_of}
use Rattle.clcw.specs.declared.Clcw.{Clcw}
use Rattle.clcw.specs.declared.ReceivedWord.{ReceivedWord}
use Rattle.clcw.specs.Clcw.{first_spare, wait_flag, second_spare, word_fields, clcw_of, is_valid, word_of}
use Rattle.std.specs.Prelude.{Ok, Some}
use Rattle.clcw.specs.Answers.{WordReading, received_of, reading_of}
use Rattle.clcw.proofs.Back.{Case, Case.not_four, Case.invalid, Case.address, Case.ours, reading_cases, word_back}
use Rattle.clcw.proofs.Examples.{flags}

-- a reader that refuses all: one that takes no octets for a word
pub refuses_all : (reader : List ℕ → ℕ → WordReading) → ((octets : List ℕ) (channel : ℕ) (received : ReceivedWord) → reader octets channel ≡ Ok (Some received) → ⊥)
    → ((s : List ℕ) (k : ℕ) → reader s k ≡ reading_of s k) → ⊥
refuses_all reader never agrees =
    let word = flags false false false in
    never (clcw_of word) 0 _ (agrees (clcw_of word) 0 ∙ word_back word (omega arith) (omega arith) (omega arith))

-- octets with a spare bit set
abbrev pub SpareSet : List ℕ → Type 0
SpareSet octets = (field_at first_spare octets ≡ 0 → ⊥) ⊎ (field_at second_spare octets ≡ 0 → ⊥)

spare_invalid : (octets : List ℕ) → SpareSet octets → is_valid octets ≡ false
unfolding is_valid
spare_invalid octets =
    ⊎_elim (λ h. simp (ne_eqb (field_at first_spare octets) 0 h, both_false)) (λ h. simp (ne_eqb (field_at second_spare octets) 0 h, both_false))

-- a reader that takes octets with a spare bit set for a word
pub spare_taken : (reader : List ℕ → ℕ → WordReading) (octets : List ℕ) (channel : ℕ) (received : ReceivedWord)
    → SpareSet octets → reader octets channel ≡ Ok (Some received) → ((s : List ℕ) (k : ℕ) → reader s k ≡ reading_of s k) → ⊥
spare_taken reader octets channel received spare taken agrees = go (reading_cases octets channel)
  where
    e : reading_of octets channel ≡ Ok (Some received)
    e = sym (agrees octets channel) ∙ taken

    go : Case octets channel → ⊥
    go (not_four a r) = let z : ◌≡◌ {A = ℕ} 0 1 = cc e in omega arith
    go (invalid a b r) = let z : ◌≡◌ {A = ℕ} 0 1 = cc e in omega arith
    go (address a b c r) = let z : ◌≡◌ {A = ℕ} 0 1 = cc e in omega arith
    go (ours a b c r) = apart (sym (spare_invalid octets spare) ∙ b)

-- a reader that does not look at the second spare bit
pub spare_ignored : (reader : List ℕ → ℕ → WordReading)
    → ((a b c d channel : ℕ) → reader (a ∷ b ∷ (c * 2) ∷ d ∷ []) channel ≡ reader (a ∷ b ∷ (c * 2 + 1) ∷ d ∷ []) channel)
    → ((s : List ℕ) (k : ℕ) → reader s k ≡ reading_of s k) → ⊥
unfolding reading_of received_of word_of is_valid field_at value_of octet_bits bits_of
spare_ignored reader blind agrees =
    let e : reading_of (0x01 ∷ 0x0C ∷ 0x04 ∷ 0x11 ∷ []) 3 ≡ reading_of (0x01 ∷ 0x0C ∷ 0x05 ∷ 0x11 ∷ []) 3 =
    sym (agrees (0x01 ∷ 0x0C ∷ 0x04 ∷ 0x11 ∷ []) 3) ∙ blind 0x01 0x0C 2 0x11 3 ∙ agrees (0x01 ∷ 0x0C ∷ 0x05 ∷ 0x11 ∷ []) 3 in
    let z : ◌≡◌ {A = ℕ} 0 1 = cc in
    omega arith

-- a writer that puts the lockout flag where wait is
pub flag_at_neighbour : (writer : Clcw → List ℕ) → ((word : Clcw) → field_at wait_flag (writer word) ≡ bit_of word.lockout)
    → ((word : Clcw) → writer word ≡ clcw_of word) → ⊥
unfolding clcw_of word_fields octets_of packed value_of digits_of field_at octet_bits bits_of
flag_at_neighbour writer neighbour agrees =
    let z : ◌≡◌ {A = ℕ} 0 1 = sym (ap (field_at wait_flag) (agrees (flags true false false))) ∙ neighbour (flags true false false) in
    omega arith
