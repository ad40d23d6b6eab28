-- Refuted by name: wrong readers, each with a witness on which it differs from the definition.
use mathlib.Core.Path.{◌≡◌, refl, sym, ◌∙◌}
use mathlib.Core.Bool.{Bool, true, false}
use mathlib.Core.List.{List, [], ◌∷◌, ◌++◌}
use Prim.Native.Nat.{ℕ, ◌+◌, ◌<◌, ◌≤◌}
use native.Mathlib.Omega.{arith}
use borrow.Author.Tests.{eq-eqb, ne_eqb, eqb-true}
use lib.Dec.{leb, eqb}
use lib.ListN.{length, take}
use Rattle.base.specs.Choice.{must}
use Rattle.base.specs.Fields.{digits_of, value_of, packed, octets_of, field_at}
use Rattle.base.specs.Octets.{Octets, bits_of, octet_bits}
use Rattle.base.specs.Register.{shift_bit, shift_bits, register}
use Rattle.base.specs.Limits.{largest_unit, largest_spacecraft, largest_channel}
use Rattle.base.proofs.Tests.{yes}
use Rattle.fecf.specs.Fecf.{fecf_of, syndrome_of}
use Rattle.frame_header.specs.Header.{bypass_flag, spacecraft_identifier, frame_sequence_number, header_fields, header_of, valid_header}
use Rattle.frame.specs.Frame.{body_of, raw_frame, frame_of, total_of, data_field, is_command, command_held, header_refusal, content_refusal, refusal_of, kind_of}
use Rattle.frame.specs.declared.Kind.TheVariants.{Ad, Bd}
use Rattle.frame.proofs.Accepted.{accepted}
use Rattle.frame.proofs.Back.{not_refused}
use Rattle.frame.proofs.Examples as examples
use Rattle.frame.proofs.Examples.{checked, unlock}

-- a reader agrees with the definition
abbrev pub Agrees : (List ℕ → ℕ → ℕ → ℕ) → Type 0
Agrees reader = (s : List ℕ) (spacecraft channel : ℕ) → reader s spacecraft channel ≡ refusal_of s spacecraft channel

-- a reader that refuses all
pub refuses_all : (reader : List ℕ → ℕ → ℕ → ℕ) → ((s : List ℕ) (spacecraft channel : ℕ) → reader s spacecraft channel ≡ 0 → ⊥) → Agrees reader → ⊥
refuses_all reader never agrees = never unlock 1 0 (agrees unlock 1 0 ∙ examples.accepted)

-- a reader that does not judge the sequence octet of a type-B frame: one that takes any such frame with another octet there than zero
pub number_of_type_b : (reader : List ℕ → ℕ → ℕ → ℕ) (s : List ℕ) (spacecraft channel : ℕ)
    → field_at bypass_flag s ≡ 1 → (field_at frame_sequence_number s ≡ 0 → ⊥) → reader s spacecraft channel ≡ 0 → Agrees reader → ⊥
number_of_type_b reader s spacecraft channel b d takes agrees =
    let y = accepted s spacecraft channel (sym (agrees s spacecraft channel) ∙ takes) in
    d (eqb-true (field_at frame_sequence_number s) 0 (sym (yes (eqb (field_at bypass_flag s) 1) _ _ (eq-eqb (field_at bypass_flag s) 1 b)) ∙ y.header.sequence))

-- its witness: a BD frame whose octet 4 is 1, with its FECF
abbrev pub numbered : List ℕ
numbered = checked (0x20 ∷ 0x01 ∷ 0x00 ∷ 0x07 ∷ 0x01 ∷ 0xAB ∷ [])

pub numbered_is : (numbered ≡ raw_frame 1 0 1 1 0 (0xAB ∷ [])) × (kind_of numbered ≡ Bd) × (refusal_of numbered 1 0 ≡ 6)
unfolding raw_frame body_of header_of header_fields octets_of packed digits_of kind_of refusal_of content_refusal header_refusal valid_header command_held is_command data_field total_of field_at octet_bits bits_of value_of fecf_of syndrome_of register shift_bits shift_bit
numbered_is = (refl, refl, refl)

-- a reader that judges the sequence octet of an AD frame too: one that refuses any AD frame for its number, whatever the number is
pub number_of_ad : (reader : List ℕ → ℕ → ℕ → ℕ) (number spacecraft channel : ℕ) (unit fill : List ℕ)
    → number < 256 → spacecraft ≤ largest_spacecraft → channel ≤ largest_channel → 1 ≤ length unit → length unit ≤ largest_unit → Octets unit
    → length fill ≤ 6 → Octets fill
    → (reader (frame_of spacecraft channel (Ad number) unit ++ fill) spacecraft channel ≡ 0 → ⊥) → Agrees reader → ⊥
number_of_ad reader number spacecraft channel unit fill hn hs hv low high hu few hf refuses agrees =
    refuses
    (agrees (frame_of spacecraft channel (Ad number) unit ++ fill) spacecraft channel
    ∙ not_refused spacecraft channel (Ad number) unit fill hs hv (hn, low, high, hu) few hf)

-- octets whose FECF is wrong are never refused with 7
not_seven : (s : List ℕ) (spacecraft channel : ℕ) → (syndrome_of (take (total_of s) s) ≡ 0 → ⊥) → refusal_of s spacecraft channel ≡ 7 → ⊥
unfolding refusal_of content_refusal
not_seven s spacecraft channel d e =
    go (leb 8 (length s)) (leb 8 (total_of s)) (leb (total_of s) (length s)) (leb (length s) (total_of s + 6))
    (rw (ne_eqb (syndrome_of (take (total_of s) s)) 0 d) at e)
  where
    go : (a b c d : Bool) → ◌≡◌ {A = ℕ} (must a 4 (must b 4 (must c 4 (must d 5 8)))) 7 → ⊥
    go false b c d z = omega arith
    go true false c d z = omega arith
    go true true false d z = omega arith
    go true true true false z = omega arith
    go true true true true z = omega arith

-- a reader that judges the address, 7, before the FECF, 8: one that answers 7 for any octets with a wrong FECF
pub address_before_check : (reader : List ℕ → ℕ → ℕ → ℕ) (s : List ℕ) (spacecraft channel : ℕ)
    → (syndrome_of (take (total_of s) s) ≡ 0 → ⊥) → reader s spacecraft channel ≡ 7 → Agrees reader → ⊥
address_before_check reader s spacecraft channel d seven agrees = not_seven s spacecraft channel d (sym (agrees s spacecraft channel) ∙ seven)

-- its witness: a frame for spacecraft 1 with a wrong FECF, read by spacecraft 2
abbrev pub wrong : List ℕ
wrong = 0x30 ∷ 0x01 ∷ 0x00 ∷ 0x07 ∷ 0x00 ∷ 0x00 ∷ 0x00 ∷ 0x00 ∷ []

pub wrong_is : (field_at spacecraft_identifier wrong ≡ 1) × (syndrome_of (take (total_of wrong) wrong) ≡ 0 → ⊥) × (refusal_of wrong 2 0 ≡ 8)
unfolding refusal_of content_refusal header_refusal valid_header command_held is_command data_field total_of field_at octet_bits bits_of value_of syndrome_of register shift_bits shift_bit
wrong_is = (refl, (λ z. omega arith), refl)
