-- Theorems on the definitions: every word built reads back on its own channel (`word_back`) and is refused by every other
-- (`other_channel`); every list of octets gets one of four readings, each by its own condition (`reading_cases`), and none is a
-- word of a channel beyond the limit (`own_beyond`); and table 6-4's fields stand one behind the other, from bit 0 to bit 31 (`layout`).
use mathlib.Core.Path.{◌≡◌, refl, sym, ap, ◌∙◌}
use mathlib.Core.Bool.{Bool, true, false}
use mathlib.Core.List.{List}
use Prim.Native.Nat.{ℕ, ◌<◌, ◌≤◌}
use native.Mathlib.Omega.{arith}
use borrow.Author.Tests.{eqb-true, eqb-false}
use lib.Dec.{eqb}
use lib.ListN.{length, take, drop}
use Rattle.base.specs.Fields.{Location, digits_of, value_of, packed, field_at, contiguous}
use Rattle.base.proofs.Fields.{value_field, bits_packed, bits_octets, length_octets}
use Rattle.base.proofs.Lists.{octets_at_lem}
use Rattle.base.specs.Flags.{bit_of}
use Rattle.base.specs.Octets.{Octets}
use Rattle.base.specs.Limits.{largest_channel}
use Rattle.clcw.specs.declared.Clcw.{Clcw}
use Rattle.clcw.specs.Clcw.{status_field, virtual_channel, no_rf_available, no_bit_lock, lockout_flag, wait_flag, retransmit_flag, farm_bcounter, report_value, word_fields, clcw_of, is_valid, word_of}
use Rattle.std.specs.Prelude.{Some, None, Ok, Err}
use Rattle.base.specs.declared.Refusal.TheVariants.{Address, Length}
use Rattle.clcw.specs.Answers.{WordReading, received_of, reading_of}
use Rattle.clcw.proofs.Word.{channel_is}
use Rattle.clcw.proofs.Outcomes.{a_word, reading_length, reading_invalid, reading_address, reading_word}

-- a flag is its bit
flag_back : (b : Bool) → eqb (value_of 0 (digits_of 1 (bit_of b))) 1 ≡ b
unfolding value_of digits_of
flag_back true = refl
flag_back false = refl

module _ (word : Clcw) where
  length_word : length (clcw_of word) ≡ 4
  unfolding clcw_of
  length_word = length_octets 4 (packed (word_fields word))

  -- the four octets' bits are the fields', so a field reads back by computing its place
  field_back : (location : Location) → field_at location (clcw_of word) ≡ value_of 0 (take location.width (drop location.first (packed (word_fields word))))
  unfolding field_at clcw_of word_fields packed digits_of
  field_back location =
      ap (λ (bits : List ℕ). value_of 0 (take location.width (drop location.first bits)))
      (bits_octets 4 (packed (word_fields word)) refl (bits_packed (word_fields word)))

  valid_back : is_valid (clcw_of word) ≡ true
  unfolding is_valid word_fields packed digits_of value_of
  valid_back = simp field_back

  module _ (hc : word.channel ≤ largest_channel) (hn : word.counter ≤ 3) (hr : word.report < 256) where
    channel_back : field_at virtual_channel (clcw_of word) ≡ word.channel
    unfolding word_fields packed digits_of value_of
    channel_back = field_back virtual_channel ∙ value_field 6 word.channel (omega arith)

    received_back : received_of (clcw_of word) ≡ record { word = word; status = 0; no_rf = false; no_bit_lock = false }
    unfolding received_of word_of word_fields packed digits_of value_of
    received_back =
        let set : Location → Bool = λ flag. eqb (field_at flag (clcw_of word)) 1 in
        let l : set lockout_flag ≡ word.lockout = ap (λ (x : ℕ). eqb x 1) (field_back lockout_flag) ∙ flag_back word.lockout in
        let w : set wait_flag ≡ word.wait = ap (λ (x : ℕ). eqb x 1) (field_back wait_flag) ∙ flag_back word.wait in
        let r : set retransmit_flag ≡ word.retransmit = ap (λ (x : ℕ). eqb x 1) (field_back retransmit_flag) ∙ flag_back word.retransmit in
        let n : field_at farm_bcounter (clcw_of word) ≡ word.counter = field_back farm_bcounter ∙ value_field 2 word.counter (omega arith) in
        let v : field_at report_value (clcw_of word) ≡ word.report = field_back report_value ∙ value_field 8 word.report hr in
        simp (channel_back, l, w, r, n, v, field_back status_field, field_back no_rf_available, field_back no_bit_lock)

    pub word_back : reading_of (clcw_of word) word.channel ≡ Ok (Some (record { word = word; status = 0; no_rf = false; no_bit_lock = false }))
    word_back = reading_word (clcw_of word) word.channel length_word valid_back channel_back ∙ ap a_word received_back

    pub other_channel : (channel : ℕ) → (word.channel ≡ channel → ⊥) → reading_of (clcw_of word) channel ≡ Err Address
    other_channel channel h = reading_address (clcw_of word) channel length_word valid_back (λ e. h (sym channel_back ∙ e))

-- the reading, with what holds of the octets; each condition excludes those before it
pub data Case (octets : List ℕ) (channel : ℕ) : Type 0 where
  not_four : (length octets ≡ 4 → ⊥) → reading_of octets channel ≡ Err Length → Case octets channel
  invalid : length octets ≡ 4 → is_valid octets ≡ false → reading_of octets channel ≡ Ok None → Case octets channel
  address : length octets ≡ 4 → is_valid octets ≡ true → (field_at virtual_channel octets ≡ channel → ⊥)
      → reading_of octets channel ≡ Err Address → Case octets channel
  ours : length octets ≡ 4 → is_valid octets ≡ true → field_at virtual_channel octets ≡ channel
      → reading_of octets channel ≡ Ok (Some (received_of octets)) → Case octets channel

module _ (octets : List ℕ) (channel : ℕ) where
  at_channel : (b : Bool) → eqb (field_at virtual_channel octets) channel ≡ b → length octets ≡ 4 → is_valid octets ≡ true → Case octets channel
  at_channel true e four v =
      let c : field_at virtual_channel octets ≡ channel = eqb-true (field_at virtual_channel octets) channel e in
      ours four v c (reading_word octets channel four v c)
  at_channel false e four v =
      let c : field_at virtual_channel octets ≡ channel → ⊥ = eqb-false (field_at virtual_channel octets) channel e in
      address four v c (reading_address octets channel four v c)

  at_valid : (b : Bool) → is_valid octets ≡ b → length octets ≡ 4 → Case octets channel
  at_valid true v four = at_channel (eqb (field_at virtual_channel octets) channel) refl four v
  at_valid false v four = invalid four v (reading_invalid octets channel four v)

  at_length : (b : Bool) → eqb (length octets) 4 ≡ b → Case octets channel
  at_length true e = at_valid (is_valid octets) refl (eqb-true (length octets) 4 e)
  at_length false e = not_four (eqb-false (length octets) 4 e) (reading_length octets channel (eqb-false (length octets) 4 e))

  pub reading_cases : Case octets channel
  reading_cases = at_length (eqb (length octets) 4) refl

abbrev is_word : WordReading → Bool
is_word (Ok (Some received)) = true
is_word (Ok None) = false
is_word (Err refusal) = false

-- "an own address beyond these matches no frame or word"
pub own_beyond : (octets : List ℕ) (channel : ℕ) → Octets octets → largest_channel < channel → is_word (reading_of octets channel) ≡ false
own_beyond octets channel h beyond = by (reading_cases octets channel)
  where
    by : Case octets channel → is_word (reading_of octets channel) ≡ false
    by (not_four n e) = ap is_word e
    by (invalid four v e) = ap is_word e
    by (address four v c e) = ap is_word e
    by (ours four v c e) =
        absurd (omega (arith, channel_is octets four (octets_at_lem octets h), octets_at_lem octets h 1, c))

-- the fields stand contiguously, and the last ends with bit 31 (6.3.2.1)
pub layout : (word : Clcw) → contiguous 32 0 (word_fields word) ≡ true
unfolding word_fields
layout word = refl
