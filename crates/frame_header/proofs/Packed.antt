-- The packed header by its octets.
use mathlib.Core.Path.{◌≡◌, ap, ◌∙◌}
use mathlib.Core.List.{List, [], ◌∷◌}
use Prim.Native.Nat.{ℕ, ◌+◌, ◌-◌, ◌*◌, ◌/◌, ◌%◌, ◌<◌, ◌≤◌}
use native.Mathlib.Omega.{arith}
use lib.ListN.{length, take, drop}
use Rattle.base.specs.Fields.{digits_of, value_of, packed, octets_of}
use Rattle.base.specs.Limits.{largest_spacecraft, largest_channel}
use Rattle.base.proofs.Fields.{value_digits, value_append, length_octets}
use Rattle.frame_header.specs.Header.{header_length, header_fields, header_of}

pub length_header : (bypass control spacecraft channel total number : ℕ) → length (header_of bypass control spacecraft channel total number) ≡ header_length
unfolding header_of
length_header bypass control spacecraft channel total number = length_octets header_length (packed (header_fields bypass control spacecraft channel total number))

-- eight digits are the value modulo 256
eight : (value : ℕ) → value_of 0 (digits_of 8 value) ≡ value % 256
eight value = value_digits 8 0 value ∙ omega arith

five : {a b c d e a' b' c' d' e' : ℕ} → a ≡ a' → b ≡ b' → c ≡ c' → d ≡ d' → e ≡ e' → ◌≡◌ {A = List ℕ} (a ∷ b ∷ c ∷ d ∷ e ∷ []) (a' ∷ b' ∷ c' ∷ d' ∷ e' ∷ [])
five p q r s t = cc

module _ (bypass control spacecraft channel total number : ℕ) (hb : bypass ≤ 1) (hc : control ≤ 1) (hs : spacecraft ≤ largest_spacecraft) (hv : channel ≤ largest_channel) (low : 8 ≤ total) (high : total ≤ 1024) (hn : number < 256) where
  abbrev bits : List ℕ
  bits = packed (header_fields bypass control spacecraft channel total number)

  first : value_of 0 (take 8 bits) ≡ bypass * 32 + control * 16 + spacecraft / 256
  unfolding header_fields packed digits_of value_of
  first = omega arith

  second : value_of 0 (take 8 (drop 8 bits)) ≡ spacecraft % 256
  unfolding header_fields packed digits_of
  second = eight spacecraft

  third : value_of 0 (take 8 (drop 8 (drop 8 bits))) ≡ channel * 4 + (total - 1) / 256
  unfolding header_fields packed digits_of value_of
  third =
      value_append 0 (digits_of 6 channel) (((total - 1) / 512 % 2) ∷ ((total - 1) / 256 % 2) ∷ [])
      ∙ ap (λ (x : ℕ). (x * 2 + (total - 1) / 512 % 2) * 2 + (total - 1) / 256 % 2) (value_digits 6 0 channel)
      ∙ omega arith

  fourth : value_of 0 (take 8 (drop 8 (drop 8 (drop 8 bits)))) ≡ (total - 1) % 256
  unfolding header_fields packed digits_of
  fourth = eight (total - 1)

  fifth : value_of 0 (take 8 (drop 8 (drop 8 (drop 8 (drop 8 bits))))) ≡ number
  unfolding header_fields packed digits_of
  fifth = eight number ∙ omega arith

  pub header_octets : header_of bypass control spacecraft channel total number
      ≡ (bypass * 32 + control * 16 + spacecraft / 256) ∷ (spacecraft % 256) ∷ (channel * 4 + (total - 1) / 256) ∷ ((total - 1) % 256) ∷ number ∷ []
  unfolding header_of header_fields packed octets_of
  header_octets = five first second third fourth fifth
