-- What document 02's order 10 changes of reading, and that it changes no more (`bounded`): for any octets and address the answer is what it
-- was before, or it is 6 where the former answer was 0, 7 or 9 and the frame is type B with a sequence octet that is not zero. There it
-- does change (`changed`), and each of the three does occur (`each_occurs`). The same holds of the whole answer, with fields and data part
-- (`bounded_answer`). The former rule stands here for this alone: the same checks in the same order but for the one.
use mathlib.Core.Path.{◌≡◌, refl, sym, ap, ◌∙◌}
use mathlib.Core.Bool.{Bool, true, false}
use mathlib.Core.List.{List, [], ◌∷◌}
use mathlib.Core.Logic.{◌⊎◌, inl, inr, ⊎_elim}
use Prim.Native.Nat.{ℕ, ◌+◌}
use native.Mathlib.Omega.{arith}
use borrow.Author.Tests.{eqb-true, eqb-false, eq-eqb, ne_eqb}
use lib.Dec.{leb, eqb}
use lib.ListN.{length, take}
use Rattle.base.specs.Choice.{pick, must, both}
use Rattle.base.specs.Fields.{value_of, field_at}
use Rattle.base.specs.Limits.{smallest_frame}
use Rattle.base.specs.Octets.{bits_of, octet_bits}
use Rattle.base.specs.Register.{shift_bit, shift_bits, register}
use Rattle.base.proofs.Tests.{apart, both_false}
use Rattle.fecf.specs.Fecf.{fecf_of, syndrome_of}
use Rattle.frame_header.specs.Header.{header_length, version, bypass_flag, control_command_flag, reserved_spare, spacecraft_identifier, virtual_channel_identifier, frame_sequence_number, valid_combination, valid_number, valid_header}
use Rattle.frame.specs.Frame.{total_of, data_field, is_command, command_held, header_refusal, content_refusal, refusal_of}
use Rattle.frame.specs.Answers.{FrameReading, fields_of, reading_of, part_of}
use Rattle.std.specs.Prelude.{Err}
use Rattle.base.specs.Refusals.{by_number}
use Rattle.base.specs.declared.Refusal.TheVariants.{Header}
use Rattle.frame.proofs.Examples.{checked}
use Rattle.frame.proofs.Refuted.{numbered}

-- document 01's refusal 6 as it was: "version or spare not zero, or type (0,1)"
unfoldable pub former_valid : List ℕ → Bool
former_valid octets =
    both (leb header_length (length octets))
    (both (eqb (field_at version octets) 0)
    (both (eqb (field_at reserved_spare octets) 0)
    (valid_combination (field_at bypass_flag octets) (field_at control_command_flag octets))))

-- the checks before 6, which both rules make: 4, 4, 4, 5, 8
abbrev checks_before : List ℕ → ℕ → ℕ
checks_before octets on =
    must (leb smallest_frame (length octets)) 4
    (must (leb smallest_frame (total_of octets)) 4
    (must (leb (total_of octets) (length octets)) 4
    (must (leb (length octets) (total_of octets + 6)) 5
    (must (eqb (syndrome_of (take (total_of octets) octets)) 0) 8 on))))

-- the checks behind 6, which both rules make: 7, 7, 9
abbrev checks_behind : List ℕ → ℕ → ℕ → ℕ
checks_behind octets spacecraft channel =
    must (eqb (field_at spacecraft_identifier octets) spacecraft) 7
    (must (eqb (field_at virtual_channel_identifier octets) channel) 7
    (must (command_held octets (total_of octets)) 9 0))

-- the answer as it was
unfoldable pub former_refusal : List ℕ → ℕ → ℕ → ℕ
former_refusal octets spacecraft channel = checks_before octets (must (former_valid octets) 6 (checks_behind octets spacecraft channel))

-- and with it the fields, or the refusal by its number
unfoldable pub former_reading : List ℕ → ℕ → ℕ → FrameReading
former_reading octets spacecraft channel =
    by_number (former_refusal octets spacecraft channel) (fields_of octets)

-- and the data field; after a refusal it is empty
unfoldable pub former_part : List ℕ → ℕ → ℕ → List ℕ
former_part octets spacecraft channel = pick (eqb (former_refusal octets spacecraft channel) 0) (data_field octets (total_of octets)) []

-- an answer of the checks behind 6
abbrev pub Behind : ℕ → Type 0
Behind number = (number ≡ 0) ⊎ ((number ≡ 7) ⊎ (number ≡ 9))

-- a type-B frame with a sequence octet that is not zero
pub record NumberedTypeB (octets : List ℕ) : Type 0 where
  pub type_b : field_at bypass_flag octets ≡ 1
  pub numbered : field_at frame_sequence_number octets ≡ 0 → ⊥

-- an answer is what it was, or it is 6 in place of 0, 7 or 9 by this reason
abbrev pub Bounded : Type 0 → ℕ → ℕ → Type 0
Bounded Reason answer former = (answer ≡ former) ⊎ ((answer ≡ 6) × (Behind former × Reason))

behind_is : (a b c : Bool) → Behind (must a 7 (must b 7 (must c 9 0)))
behind_is false b c = inr (inl refl)
behind_is true false c = inr (inl refl)
behind_is true true false = inr (inr refl)
behind_is true true true = inl refl

other : (number : ℕ) → (number ≡ 0 → ⊥) → (number ≡ 7 → ⊥) → (number ≡ 9 → ⊥) → Behind number → ⊥
other number a b c (inl e) = a e
other number a b c (inr (inl e)) = b e
other number a b c (inr (inr e)) = c e

-- a check that both rules make
before : {Reason : Type 0} (t : Bool) (refusal : ℕ) {answer former : ℕ} → Bounded Reason answer former
    → Bounded Reason (must t refusal answer) (must t refusal former)
before true refusal h = h
before false refusal h = inl refl

-- the check of the header: v as it was, t what came to it
here : {Reason : Type 0} (v t : Bool) {on : ℕ} → Behind on → (t ≡ false → Reason) → Bounded Reason (must (both v t) 6 on) (must v 6 on)
here false t h r = inl refl
here true true h r = inl refl
here true false h r = inr (refl, (h, r refl))

-- where the answer was 0, 7 or 9, no check before refused
passed : (t : Bool) (refusal : ℕ) {answer former : ℕ} → (Behind refusal → ⊥) → (Behind former → answer ≡ 6) → Behind (must t refusal former)
    → must t refusal answer ≡ 6
passed true refusal n h b = h b
passed false refusal n h b = absurd (n b)

module _ (octets : List ℕ) where
  abbrev zero : Bool
  zero = valid_number (field_at bypass_flag octets) (field_at frame_sequence_number octets)

  -- the header's checks are the former ones and this one
  valid_both : valid_header octets ≡ both (former_valid octets) zero
  unfolding valid_header former_valid
  valid_both = go (leb header_length (length octets)) (eqb (field_at version octets) 0) (eqb (field_at reserved_spare octets) 0) _ _
    where
      go : (a b c d e : Bool) → both a (both b (both c (both d e))) ≡ both (both a (both b (both c d))) e
      go false b c d e = refl
      go true false c d e = refl
      go true true false d e = refl
      go true true true d e = refl

  not_zero : zero ≡ false → NumberedTypeB octets
  not_zero = go (eqb (field_at bypass_flag octets) 1) refl (eqb (field_at frame_sequence_number octets) 0) refl
    where
      go : (b : Bool) → eqb (field_at bypass_flag octets) 1 ≡ b → (n : Bool) → eqb (field_at frame_sequence_number octets) 0 ≡ n
          → pick b n true ≡ false → NumberedTypeB octets
      go true e false f z = record { type_b = eqb-true (field_at bypass_flag octets) 1 e; numbered = eqb-false (field_at frame_sequence_number octets) 0 f }
      go true e true f z = absurd (apart (sym z))
      go false e n f z = absurd (apart (sym z))

  zero_not : NumberedTypeB octets → zero ≡ false
  zero_not h = rw (eq-eqb (field_at bypass_flag octets) 1 h.type_b, ne_eqb (field_at frame_sequence_number octets) 0 h.numbered)

  all_before : {Reason : Type 0} {answer former : ℕ} → Bounded Reason answer former → Bounded Reason (checks_before octets answer) (checks_before octets former)
  all_before h =
      before (leb smallest_frame (length octets)) 4
      (before (leb smallest_frame (total_of octets)) 4
      (before (leb (total_of octets) (length octets)) 4
      (before (leb (length octets) (total_of octets + 6)) 5
      (before (eqb (syndrome_of (take (total_of octets) octets)) 0) 8 h))))

  all_passed : {answer former : ℕ} → (Behind former → answer ≡ 6) → Behind (checks_before octets former) → checks_before octets answer ≡ 6
  all_passed h =
      let four = other 4 (λ e. omega arith) (λ e. omega arith) (λ e. omega arith) in
      passed (leb smallest_frame (length octets)) 4 four
      (passed (leb smallest_frame (total_of octets)) 4 four
      (passed (leb (total_of octets) (length octets)) 4 four
      (passed (leb (length octets) (total_of octets + 6)) 5 (other 5 (λ e. omega arith) (λ e. omega arith) (λ e. omega arith))
      (passed (eqb (syndrome_of (take (total_of octets) octets)) 0) 8 (other 8 (λ e. omega arith) (λ e. omega arith) (λ e. omega arith)) h))))

  module _ (spacecraft channel : ℕ) where
    -- the answer, with the one check named
    answer_is : refusal_of octets spacecraft channel ≡ checks_before octets (must (both (former_valid octets) zero) 6 (checks_behind octets spacecraft channel))
    unfolding refusal_of content_refusal header_refusal
    answer_is = ap (λ (v : Bool). checks_before octets (must v 6 (checks_behind octets spacecraft channel))) valid_both

    pub bounded : Bounded (NumberedTypeB octets) (refusal_of octets spacecraft channel) (former_refusal octets spacecraft channel)
    unfolding former_refusal
    bounded =
        rw answer_is
        (all_before
        (here (former_valid octets) zero
        (behind_is (eqb (field_at spacecraft_identifier octets) spacecraft) (eqb (field_at virtual_channel_identifier octets) channel) (command_held octets (total_of octets)))
        not_zero))

    pub changed : NumberedTypeB octets → Behind (former_refusal octets spacecraft channel) → refusal_of octets spacecraft channel ≡ 6
    unfolding former_refusal
    changed h b =
        answer_is
        ∙ all_passed
        (λ _. ap (λ (v : Bool). must v 6 (checks_behind octets spacecraft channel)) (ap (both (former_valid octets)) (zero_not h) ∙ both_false (former_valid octets)))
        b

    -- so of the whole answer: fields or number, and the data part, as they were; or 6 and an empty part
    pub bounded_answer :
        ((reading_of octets spacecraft channel ≡ former_reading octets spacecraft channel) × (part_of octets spacecraft channel ≡ former_part octets spacecraft channel))
        ⊎ ((reading_of octets spacecraft channel ≡ Err Header) × ((part_of octets spacecraft channel ≡ []) × (Behind (former_refusal octets spacecraft channel) × NumberedTypeB octets)))
    unfolding reading_of part_of former_reading former_part
    bounded_answer = ⊎_elim (λ e. inl (rw e, rw e)) (λ h. inr (rw h.0, (rw h.0, h.1))) bounded

-- a BD frame with sequence octet 1 was read; to another spacecraft it was 7; a BC frame with it and no command was 9
abbrev pub no_command : List ℕ
no_command = checked (0x30 ∷ 0x01 ∷ 0x00 ∷ 0x07 ∷ 0x01 ∷ 0x01 ∷ [])

pub each_occurs :
    (former_refusal numbered 1 0 ≡ 0) × (refusal_of numbered 1 0 ≡ 6)
    × (former_refusal numbered 2 0 ≡ 7) × (refusal_of numbered 2 0 ≡ 6)
    × (former_refusal no_command 1 0 ≡ 9) × (refusal_of no_command 1 0 ≡ 6)
unfolding former_refusal former_valid refusal_of content_refusal header_refusal valid_header command_held is_command data_field total_of field_at octet_bits bits_of value_of fecf_of syndrome_of register shift_bits shift_bit
each_occurs = (refl, refl, refl, refl, refl, refl)
