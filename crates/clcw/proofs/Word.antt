-- The fields of table 6-4 as arithmetic on the four octets: what a reader finds (`valid_is`, `word_is`, `received_is`), and what
-- a writer puts (`octets_are`).
use mathlib.Core.Path.{◌≡◌, refl, sym, ap₂, ◌∙◌}
use mathlib.Core.Bool.{Bool, false, not}
use mathlib.Core.List.{List, [], ◌∷◌, ◌++◌}
use Prim.Native.Nat.{ℕ, zero, suc, ◌+◌, ◌*◌, ◌/◌, ◌%◌, ◌^◌, ◌<◌, ◌≤◌}
use native.Mathlib.Nat.{zero-mul, one-mul}
use native.Mathlib.Omega.{arith}
use borrow.Author.Tests.{eq-eqb, ne_eqb}
use lib.Bits.{bit_and, and_high}
use lib.Dec.{eqb}
use lib.ListN.{length, get_or}
use lib.Pow.{pow_pos}
use Rattle.base.specs.Choice.{both}
use Rattle.base.specs.Fields.{digits_of, value_of, packed, octets_of, field_at, at}
use Rattle.base.proofs.Fields.{value_field, field_in_octet, field_joined}
use Rattle.base.proofs.Tests.{bit_le}
use Rattle.base.specs.Flags.{bit_of}
use Rattle.base.specs.Limits.{largest_channel}
use Rattle.clcw.specs.declared.Clcw.{Clcw}
use Rattle.clcw.specs.Clcw.{control_word_type, version_number, status_field, cop_in_effect, virtual_channel, first_spare, no_rf_available, no_bit_lock, lockout_flag, wait_flag, retransmit_flag, farm_bcounter, second_spare, report_value, word_fields, clcw_of, is_valid, word_of}
use Rattle.clcw.specs.Answers.{received_of}

-- a flag's mask of one bit, 2 to the k
flag_digit : (w m : ℕ) → 0 < w → m < 2 → not (eqb (m * w) 0) ≡ eqb m 1
flag_digit w zero p h = simp zero-mul
flag_digit w (suc zero) p h = simp (one-mul, ne_eqb w 0 (λ e. omega arith))
flag_digit w (suc (suc m)) p h = absurd (omega arith)

flag_bit : (x w k : ℕ) → bit_and x w ≡ x / 2 ^ k % 2 * 2 ^ k → not (eqb (bit_and x w) 0) ≡ eqb (x / 2 ^ k % 2) 1
flag_bit x w k e = rw e (flag_digit (2 ^ k) (x / 2 ^ k % 2) (pow_pos k) (omega arith))

-- two fields are zero where the field of both is
both_zero : (a b : ℕ) (t : Bool) → both (eqb a 0) (both (eqb b 0) t) ≡ both (eqb (a * 4 + b) 0) t
both_zero zero zero t = refl
both_zero zero (suc b) t = simp (ne_eqb (suc b) 0 (λ e. omega arith), ne_eqb (0 * 4 + suc b) 0 (λ e. omega arith))
both_zero (suc a) b t = simp (ne_eqb (suc a) 0 (λ e. omega arith), ne_eqb (suc a * 4 + b) 0 (λ e. omega arith))

module _ (s : List ℕ) (four : length s ≡ 4) (octet : (i : ℕ) → get_or s i 0 < 256) where
  -- a field within octet i: behind j of its bits, w wide, and k of them behind it
  field : (i j w k : ℕ) → i < 4 → j + (w + k) ≡ 8 → field_at (at (8 * i + j) w) s ≡ get_or s i 0 / 2 ^ k % 2 ^ w
  field i j w k h e = field_in_octet s i j w k e (omega arith) (octet i)

  -- type and version
  front_is : field_at control_word_type s * 4 + field_at version_number s ≡ get_or s 0 0 / 32
  front_is = sym (field_joined s 0 1 2 (omega arith)) ∙ field 0 0 3 5 (omega arith) refl ∙ omega (arith, octet 0)

  cop_is : field_at cop_in_effect s ≡ get_or s 0 0 % 4
  cop_is = field 0 6 2 0 (omega arith) refl ∙ omega arith

  spare_is : field_at first_spare s ≡ get_or s 1 0 % 4
  spare_is = field 1 6 2 0 (omega arith) refl ∙ omega arith

  spare_is_2 : field_at second_spare s ≡ get_or s 2 0 % 2
  spare_is_2 = field 2 7 1 0 (omega arith) refl ∙ omega arith

  pub channel_is : field_at virtual_channel s ≡ get_or s 1 0 / 4
  channel_is = field 1 0 6 2 (omega arith) refl ∙ omega (arith, octet 1)

  pub valid_is : is_valid s ≡ both (eqb (get_or s 0 0 / 32) 0) (both (eqb (get_or s 0 0 % 4) 1) (both (eqb (get_or s 1 0 % 4) 0) (eqb (get_or s 2 0 % 2) 0)))
  unfolding is_valid
  valid_is = both_zero (field_at control_word_type s) (field_at version_number s) _ ∙ simp (front_is, cop_is, spare_is, spare_is_2)

  -- the tests one behind the other
  pub valid_front : (get_or s 0 0 / 32 ≡ 0 → ⊥) → is_valid s ≡ false
  valid_front h = valid_is ∙ simp (ne_eqb (get_or s 0 0 / 32) 0 h)

  pub valid_cop : get_or s 0 0 / 32 ≡ 0 → (get_or s 0 0 % 4 ≡ 1 → ⊥) → is_valid s ≡ false
  valid_cop f h = valid_is ∙ simp (eq-eqb (get_or s 0 0 / 32) 0 f, ne_eqb (get_or s 0 0 % 4) 1 h)

  pub valid_spare : get_or s 0 0 / 32 ≡ 0 → get_or s 0 0 % 4 ≡ 1 → (get_or s 1 0 % 4 ≡ 0 → ⊥) → is_valid s ≡ false
  valid_spare f k h = valid_is ∙ simp (eq-eqb (get_or s 0 0 / 32) 0 f, eq-eqb (get_or s 0 0 % 4) 1 k, ne_eqb (get_or s 1 0 % 4) 0 h)

  pub valid_last : get_or s 0 0 / 32 ≡ 0 → get_or s 0 0 % 4 ≡ 1 → get_or s 1 0 % 4 ≡ 0 → is_valid s ≡ eqb (get_or s 2 0 % 2) 0
  valid_last f k h = valid_is ∙ simp (eq-eqb (get_or s 0 0 / 32) 0 f, eq-eqb (get_or s 0 0 % 4) 1 k, eq-eqb (get_or s 1 0 % 4) 0 h)

  -- the word as a reader takes it out of octets 1 to 3
  pub word_is : word_of s
      ≡ record {
        channel = get_or s 1 0 / 4;
        lockout = not (eqb (bit_and (get_or s 2 0) 0x20) 0);
        wait = not (eqb (bit_and (get_or s 2 0) 0x10) 0);
        retransmit = not (eqb (bit_and (get_or s 2 0) 0x08) 0);
        counter = get_or s 2 0 / 2 % 4;
        report = get_or s 3 0;
      }
  unfolding word_of
  word_is =
      let x = get_or s 2 0 in
      let l : field_at lockout_flag s ≡ x / 0x20 % 2 = field 2 2 1 5 (omega arith) refl in
      let w : field_at wait_flag s ≡ x / 0x10 % 2 = field 2 3 1 4 (omega arith) refl in
      let r : field_at retransmit_flag s ≡ x / 0x08 % 2 = field 2 4 1 3 (omega arith) refl in
      let n : field_at farm_bcounter s ≡ x / 2 % 4 = field 2 5 2 1 (omega arith) refl in
      let v : field_at report_value s ≡ get_or s 3 0 = field 3 0 8 0 (omega arith) refl ∙ omega (arith, octet 3) in
      simp (channel_is, l, w, r, n, v, flag_bit x 0x20 5 (and_high x 1 5), flag_bit x 0x10 4 (and_high x 1 4), flag_bit x 0x08 3 (and_high x 1 3))

  -- with what is not judged
  pub received_is : received_of s
      ≡ record {
        word = word_of s;
        status = get_or s 0 0 / 4 % 8;
        no_rf = eqb (get_or s 2 0 / 128) 1;
        no_bit_lock = eqb (get_or s 2 0 / 64 % 2) 1;
      }
  unfolding received_of
  received_is =
      let u : field_at status_field s ≡ get_or s 0 0 / 4 % 8 = field 0 3 3 2 (omega arith) refl in
      let f : field_at no_rf_available s ≡ get_or s 2 0 / 128 = field 2 0 1 7 (omega arith) refl ∙ omega (arith, octet 2) in
      let b : field_at no_bit_lock s ≡ get_or s 2 0 / 64 % 2 = field 2 1 1 6 (omega arith) refl in
      simp (u, f, b)

-- the second octet's fields, and the third's
second : (channel : ℕ) → channel ≤ largest_channel → value_of 0 (digits_of 6 channel ++ digits_of 2 0) ≡ channel * 4
unfolding value_of digits_of
second channel h = omega (arith, value_field 6 channel (omega arith))

third : (l w r counter : ℕ) → l ≤ 1 → w ≤ 1 → r ≤ 1 → counter ≤ 3
    → value_of 0 (digits_of 1 0 ++ digits_of 1 0 ++ digits_of 1 l ++ digits_of 1 w ++ digits_of 1 r ++ digits_of 2 counter ++ digits_of 1 0)
    ≡ l * 0x20 + w * 0x10 + r * 0x08 + counter * 2
unfolding value_of digits_of
third l w r counter hl hw hr hc = omega arith

-- the octets of a word whose values fit their fields
pub octets_are : (word : Clcw) → word.channel ≤ largest_channel → word.counter ≤ 3 → word.report < 256
    → clcw_of word
    ≡ 0x01
    ∷ (word.channel * 4)
    ∷ (bit_of word.lockout * 0x20 + bit_of word.wait * 0x10 + bit_of word.retransmit * 0x08 + word.counter * 2)
    ∷ word.report
    ∷ []
unfolding clcw_of word_fields packed octets_of value_of digits_of
octets_are word hc hn hr =
    ap₂ (λ (x : ℕ) (l : List ℕ). 0x01 ∷ x ∷ l) (second word.channel hc)
    (ap₂ (λ (x y : ℕ). x ∷ y ∷ [])
    (third (bit_of word.lockout) (bit_of word.wait) (bit_of word.retransmit) word.counter (bit_le word.lockout) (bit_le word.wait) (bit_le word.retransmit) hn)
    (value_field 8 word.report hr))
