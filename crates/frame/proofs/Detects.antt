-- Error detection, exactly: a written frame in which one octet is another (`octet_detected_in_frame`), or one bit is flipped
-- (`bit_detected`), is refused with 8, whatever the own address, as long as the length field, bits 22 to 31, keeps its value. For the
-- length field itself no such claim can be made: `length_flip_undetected` is a frame that is read as another once one bit there is flipped.
use mathlib.Core.Path.{◌≡◌, refl, sym, ap, ap₂, ◌∙◌}
use mathlib.Core.Bool.{Bool, true, false}
use mathlib.Core.List.{List, [], ◌∷◌, ◌++◌}
use Prim.Native.Nat.{ℕ, suc, ◌+◌, ◌-◌, ◌*◌, ◌/◌, ◌%◌, ◌^◌, ◌<◌, ◌≤◌}
use native.Mathlib.Omega.{arith}
use borrow.Author.Tests.{leb-true, leb-false, ltb-true, eqb-true, eqb-false, ne_eqb}
use lib.Bits.{bit_xor, xor_lt, xor_comm, xor_self, xor_mod, xor_zero_r}
use lib.Dec.{leb, ltb, eqb}
use lib.ListN.{length, take, drop, get_or, set, length-append, length-set, get_or-append}
use lib.Pow.{pow_pos}
use lib.Seq.{take_at, split_at, set_split, get_or-set_same, get_or-set_other}
use Rattle.base.specs.Fields.{digits_of, value_of, packed, octets_of, field_at}
use Rattle.base.specs.Octets.{Octets, bits_of, octet_bits}
use Rattle.base.specs.Register.{shift_bit, shift_bits, register}
use Rattle.base.specs.Limits.{largest_spacecraft, largest_channel}
use Rattle.base.proofs.Computed.{below, is_true}
use Rattle.base.proofs.Lists.{octets_at_lem, below_append, below_take, below_drop, below_set}
use Rattle.base.proofs.Xor.{xor_undo}
use Rattle.fecf.specs.Fecf.{fecf_of, syndrome_of}
use Rattle.fecf.proofs.Detection.{detected}
use Rattle.frame_header.specs.Header.{header_fields, header_of, valid_header}
use Rattle.frame.specs.Frame.{bypass_of, control_of, number_of, data_of, body_of, raw_frame, frame_of, total_of, data_field, is_command, command_held, header_refusal, content_refusal, refusal_of, kind_of}
use Rattle.frame.specs.Answers.{part_of}
use Rattle.frame.specs.declared.Kind.{Kind}
use Rattle.frame.specs.declared.Kind.TheVariants.{Ad}
use Rattle.frame.proofs.Octets.{total_is}
use Rattle.frame.proofs.Lengths.{length_frame}
use Rattle.frame.proofs.Written.{lengths_right, Fits, octets_frame, syndrome_frame, length_filled, octets_filled, total_back}
use Rattle.frame.proofs.Back.{Legal, legal_fits}

-- a block with syndrome zero has another one once an octet of it is another
syndrome_changed : (w : List ℕ) (j p : ℕ) → Octets w → j < length w → p < 256 → (get_or w j 0 ≡ p → ⊥) → syndrome_of w ≡ 0 → syndrome_of (set w j p) ≡ 0 → ⊥
syndrome_changed w j p h l hp d z e =
    detected (take j w) (drop (suc j) w) (get_or w j 0) p (below_take 256 j w h) (below_drop 256 (suc j) w h) (octets_at_lem w h j) hp d
    (ap syndrome_of (sym (split_at w j 0 l)) ∙ z) (ap syndrome_of (sym (set_split w j p l)) ∙ e)

-- an octet before others, of a list or of the list changed
module _ (w fill : List ℕ) (j p i : ℕ) (l : i < length w) where
  at_front : get_or (w ++ fill) i 0 ≡ get_or w i 0
  at_front = get_or-append w fill 0 i l

  at_changed : get_or (set w j p ++ fill) i 0 ≡ get_or (set w j p) i 0
  at_changed = get_or-append (set w j p) fill 0 i (omega (arith, length-set w j p))

module _ (bypass control number spacecraft channel : ℕ) (field : List ℕ) (fits : Fits bypass control number spacecraft channel field) (fill : List ℕ) (few : length fill ≤ 6) (hf : Octets fill) where
  abbrev w : List ℕ
  w = raw_frame bypass control number spacecraft channel field

  size : length w ≡ length field + 7
  size = length_frame bypass control number spacecraft channel field

  module _ (j p : ℕ) (inside : j < length w) (hp : p < 256) (other : get_or w j 0 ≡ p → ⊥) (not_three : j ≡ 3 → ⊥) (not-two : j ≡ 2 → p % 4 ≡ get_or w 2 0 % 4) where
    same_three : get_or (set w j p ++ fill) 3 0 ≡ get_or (w ++ fill) 3 0
    same_three =
        at_changed w fill j p 3 (omega (arith, size, fits.low))
        ∙ get_or-set_other w j 3 p 0 (λ e. not_three (sym e))
        ∙ sym (at_front w fill j p 3 (omega (arith, size, fits.low)))

    same_two : get_or (set w j p ++ fill) 2 0 % 4 ≡ get_or (w ++ fill) 2 0 % 4
    same_two =
        ap (λ (x : ℕ). x % 4) (at_changed w fill j p 2 (omega (arith, size, fits.low)))
        ∙ go (eqb 2 j) refl
        ∙ sym (ap (λ (x : ℕ). x % 4) (at_front w fill j p 2 (omega (arith, size, fits.low))))
      where
        go : (b : Bool) → eqb 2 j ≡ b → get_or (set w j p) 2 0 % 4 ≡ get_or w 2 0 % 4
        go true e =
            let z : 2 ≡ j = eqb-true 2 j e in
            ap (λ (i : ℕ). get_or (set w j p) i 0 % 4) z ∙ ap (λ (x : ℕ). x % 4) (get_or-set_same w j p 0 inside) ∙ not-two (sym z)
        go false e = ap (λ (x : ℕ). x % 4) (get_or-set_other w j 2 p 0 (eqb-false 2 j e))

    changed_octets : (i : ℕ) → get_or (set w j p ++ fill) i 0 < 256
    changed_octets =
        octets_at_lem (set w j p ++ fill)
        (below_append 256 (set w j p) fill (below_set 256 w j p (octets_frame bypass control number spacecraft channel field fits) hp) hf)

    changed_length : length (set w j p ++ fill) ≡ length field + 7 + length fill
    changed_length = length-append (set w j p) fill ∙ ap (λ (x : ℕ). x + length fill) (length-set w j p ∙ size)

    changed_total : total_of (set w j p ++ fill) ≡ length field + 7
    changed_total =
        total_is (set w j p ++ fill) changed_octets (omega (arith, changed_length, fits.low))
        ∙ ap₂ (λ (x y : ℕ). x * 256 + y + 1) same_two same_three
        ∙ sym (total_is (w ++ fill) (octets_filled bypass control number spacecraft channel field fits fill few hf) (omega (arith, length_filled bypass control number spacecraft channel field fits fill few hf, fits.low)))
        ∙ total_back bypass control number spacecraft channel field fits fill few hf

    changed_refused : (s' c' : ℕ) → refusal_of (set w j p ++ fill) s' c' ≡ 8
    unfolding content_refusal
    changed_refused s' c' =
        let t : take (length field + 7) (set w j p ++ fill) ≡ set w j p = take_at (set w j p) fill (length field + 7) (length-set w j p ∙ size) in
        let d : syndrome_of (set w j p) ≡ 0 → ⊥ =
        syndrome_changed w j p (octets_frame bypass control number spacecraft channel field fits) inside hp other (syndrome_frame bypass control number spacecraft channel field fits) in
        lengths_right (set w j p ++ fill) (length field + 7) s' c' changed_total (omega (arith, fits.low)) (omega (arith, changed_length)) (omega (arith, changed_length))
        ∙ rw (t, ne_eqb (syndrome_of (set w j p)) 0 d)

-- a bit of an octet flipped: another octet, and its two last bits stay unless it is one of them
module _ (a k : ℕ) (ha : a < 256) (hk : k < 8) where
  power : 2 ^ k < 256
  power = ltb-true (2 ^ k) 256 (is_true (ltb (2 ^ k) 256) (below (λ x. ltb (2 ^ x) 256) 8 tt k hk))

  flipped_lt : bit_xor a (2 ^ k) < 256
  flipped_lt = xor_lt 8 a (2 ^ k) ha power

  flipped_other : a ≡ bit_xor a (2 ^ k) → ⊥
  flipped_other e =
      let z : 2 ^ k ≡ 0 = sym (xor_undo (2 ^ k) a) ∙ ap (λ (x : ℕ). bit_xor x a) (xor_comm (2 ^ k) a ∙ sym e) ∙ xor_self a in
      omega (arith, pow_pos k)

  flipped_two : 2 ≤ k → bit_xor a (2 ^ k) % 4 ≡ a % 4
  flipped_two l =
      let e : k ≡ k - 2 + 2 = omega arith in
      let m : 2 ^ (k - 2 + 2) % 4 ≡ 0 =
      eqb-true (2 ^ (k - 2 + 2) % 4) 0 (is_true (eqb (2 ^ (k - 2 + 2) % 4) 0) (below (λ x. eqb (2 ^ (x + 2) % 4) 0) 6 tt (k - 2) (omega arith))) in
      let z : 2 ^ k % 4 ≡ 0 = ap (λ (x : ℕ). 2 ^ x % 4) e ∙ m in
      xor_mod a (2 ^ k) 2 ∙ ap (bit_xor (a % 4)) z ∙ xor_zero_r (a % 4)

-- a bit of octet 2 that is not of the length field
before_length : (b : ℕ) → (22 ≤ b → b ≤ 31 → ⊥) → b / 8 ≡ 2 → 2 ≤ 7 - b % 8
before_length b outside e = go (leb 22 b) refl
  where
    go : (t : Bool) → leb 22 b ≡ t → 2 ≤ 7 - b % 8
    go true t = absurd (outside (leb-true 22 b t) (omega arith))
    go false t = omega (arith, leb-false 22 b t)

module _ (spacecraft channel : ℕ) (kind : Kind) (unit fill : List ℕ) (hs : spacecraft ≤ largest_spacecraft) (hv : channel ≤ largest_channel) (legal : Legal kind unit) (few : length fill ≤ 6) (hf : Octets fill) where
  fits : Fits (bypass_of kind) (control_of kind) (number_of kind) spacecraft channel (data_of kind unit)
  fits = legal_fits spacecraft channel kind unit hs hv legal

  -- octet j changed to p
  pub octet_detected_in_frame : (j p : ℕ) → j < length (frame_of spacecraft channel kind unit) → p < 256
      → (get_or (frame_of spacecraft channel kind unit) j 0 ≡ p → ⊥)
      → (j ≡ 3 → ⊥) → (j ≡ 2 → p % 4 ≡ get_or (frame_of spacecraft channel kind unit) 2 0 % 4)
      → (s' c' : ℕ) → refusal_of (set (frame_of spacecraft channel kind unit) j p ++ fill) s' c' ≡ 8
  octet_detected_in_frame =
      changed_refused (bypass_of kind) (control_of kind) (number_of kind) spacecraft channel (data_of kind unit) fits fill few hf

  -- bit b flipped
  pub bit_detected : (b : ℕ) → b < 8 * length (frame_of spacecraft channel kind unit) → (22 ≤ b → b ≤ 31 → ⊥)
      → (s' c' : ℕ)
      → refusal_of (set (frame_of spacecraft channel kind unit) (b / 8) (bit_xor (get_or (frame_of spacecraft channel kind unit) (b / 8) 0) (2 ^ (7 - b % 8))) ++ fill) s' c' ≡ 8
  bit_detected b inside outside =
      let w = frame_of spacecraft channel kind unit in
      let a = get_or w (b / 8) 0 in
      let ha : get_or w (b / 8) 0 < 256 =
      octets_at_lem w (octets_frame (bypass_of kind) (control_of kind) (number_of kind) spacecraft channel (data_of kind unit) fits) (b / 8) in
      octet_detected_in_frame (b / 8) (bit_xor a (2 ^ (7 - b % 8))) (omega arith)
      (flipped_lt a (7 - b % 8) ha (omega arith))
      (flipped_other a (7 - b % 8) ha (omega arith))
      (λ e. outside (omega arith) (omega arith))
      (λ e. flipped_two a (7 - b % 8) ha (omega arith) (before_length b outside e) ∙ ap (λ (i : ℕ). get_or w i 0 % 4) e)

-- one bit of the length field flipped in this AD frame leaves another AD frame, with two octets of fill
abbrev pub frame : List ℕ
frame = 0x00 ∷ 0x01 ∷ 0x00 ∷ 0x0A ∷ 0x00 ∷ 0xAB ∷ 0xAB ∷ 0xF4 ∷ 0xA8 ∷ 0x8B ∷ 0x40 ∷ []

abbrev pub flipped : List ℕ
flipped = set frame 3 (bit_xor 0x0A 0x02)

pub length_flip_undetected :
    (frame_of 1 0 (Ad 0) (0xAB ∷ 0xAB ∷ 0xF4 ∷ 0xA8 ∷ []) ≡ frame)
    × (refusal_of frame 1 0 ≡ 0)
    × (part_of frame 1 0 ≡ 0xAB ∷ 0xAB ∷ 0xF4 ∷ 0xA8 ∷ [])
    × (refusal_of flipped 1 0 ≡ 0)
    × (total_of flipped ≡ 9)
    × (kind_of flipped ≡ Ad 0)
    × (part_of flipped 1 0 ≡ 0xAB ∷ 0xAB ∷ [])
unfolding raw_frame body_of header_of header_fields octets_of packed digits_of value_of fecf_of refusal_of content_refusal header_refusal valid_header command_held is_command data_field total_of kind_of part_of field_at octet_bits bits_of syndrome_of register shift_bits shift_bit
length_flip_undetected = (refl, refl, refl, refl, refl, refl, refl)
