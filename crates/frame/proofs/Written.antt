-- A written frame with fill behind it, by its octets: the header's fields as they were packed, the data field, and a syndrome of zero.
use mathlib.Core.Path.{◌≡◌, sym, ap, ◌∙◌, subst}
use mathlib.Core.Bool.{true, not}
use mathlib.Core.List.{List, ◌∷◌, ◌++◌, append_assoc}
use Prim.Native.Nat.{ℕ, ◌+◌, ◌-◌, ◌*◌, ◌/◌, ◌%◌, ◌<◌, ◌≤◌}
use native.Mathlib.Omega.{arith}
use borrow.Author.Tests.{le-leb, eq-eqb, eqb-true}
use lib.Dec.{eqb}
use lib.ListN.{length, take, drop, get_or, length-append}
use lib.Seq.{take_at}
use Rattle.base.specs.Choice.{pick, must, both}
use Rattle.base.specs.Fields.{field_at}
use Rattle.base.specs.Octets.{Octets, same}
use Rattle.base.specs.Limits.{largest_unit, largest_spacecraft, largest_channel}
use Rattle.base.proofs.Lists.{octets_at_lem, below_append}
use Rattle.base.proofs.Tests.{both_left, both_right, not_so}
use Rattle.fecf.specs.Fecf.{fecf_of, syndrome_of, field_octets}
use Rattle.fecf.proofs.Syndrome.{fecf_lt, syndrome_zero}
use Rattle.frame_header.specs.Header.{header_length, version, bypass_flag, control_command_flag, reserved_spare, spacecraft_identifier, virtual_channel_identifier, frame_sequence_number, valid_combination, valid_number, valid_header}
use Rattle.frame_header.proofs.Octets.{o, version_is, bypass_is, control_is, spare_is, spacecraft_is, channel_is, number_is}
use Rattle.frame_header.proofs.Packed.{header_octets}
use Rattle.frame_header.proofs.Laws.{valid_is}
use Rattle.frame.specs.Frame.{unlock_command, body_of, raw_frame, total_of, data_field, is_command, command_held, header_refusal, content_refusal, refusal_of, kind_of}
use Rattle.frame.specs.declared.Kind.TheVariants.{Ad, Bd, Unlock, SetVr}
use Rattle.frame.proofs.Octets.{total_is}
use Rattle.frame.proofs.Lengths.{length_frame}

-- octets whose lengths are right are judged by their content
pub lengths_right : (s : List ℕ) (n spacecraft channel : ℕ) → total_of s ≡ n → 8 ≤ n → n ≤ length s → length s ≤ n + 6
    → refusal_of s spacecraft channel ≡ content_refusal s n spacecraft channel
unfolding refusal_of
lengths_right s n spacecraft channel e low whole few =
    rw (e, le-leb 8 (length s) (omega arith), le-leb 8 n low, le-leb n (length s) whole, le-leb (length s) (n + 6) few)

-- what a frame is written of: its parts within their limits, no type (0,1), and zero for the number of a type-B frame
pub record Fits (bypass control number spacecraft channel : ℕ) (field : List ℕ) : Type 0 where
  pub flag : bypass ≤ 1
  pub type : control ≤ bypass
  pub ns : number < 256
  pub sequence : valid_number bypass number ≡ true
  pub address : spacecraft ≤ largest_spacecraft
  pub virtual : channel ≤ largest_channel
  pub low : 1 ≤ length field
  pub high : length field ≤ largest_unit
  pub octets : Octets field

pub fitting : {bypass control number spacecraft channel : ℕ} {field : List ℕ} → bypass ≤ 1 → control ≤ bypass → number < 256 → valid_number bypass number ≡ true
    → spacecraft ≤ largest_spacecraft → channel ≤ largest_channel
    → 1 ≤ length field → length field ≤ largest_unit → Octets field → Fits bypass control number spacecraft channel field
fitting flag type ns sequence address virtual low high octets = record {
  flag = flag;
  type = type;
  ns = ns;
  sequence = sequence;
  address = address;
  virtual = virtual;
  low = low;
  high = high;
  octets = octets;
}

module _ (bypass control number spacecraft channel : ℕ) (field : List ℕ) (fits : Fits bypass control number spacecraft channel field) where
  -- header and data, octet by octet
  pub body_is : body_of bypass control number spacecraft channel field
      ≡ (bypass * 32 + control * 16 + spacecraft / 256) ∷ (spacecraft % 256) ∷ (channel * 4 + (length field + 7 - 1) / 256) ∷ ((length field + 7 - 1) % 256) ∷ number ∷ field
  unfolding body_of
  body_is =
      ap (λ (h : List ℕ). h ++ field)
      (header_octets bypass control spacecraft channel (length field + 7) number fits.flag (omega arith) fits.address fits.virtual (omega arith) (omega arith) fits.ns)

  octets_body : Octets (body_of bypass control number spacecraft channel field)
  octets_body = subst Octets (sym body_is) (omega arith, (omega arith, (omega arith, (omega arith, (fits.ns, fits.octets)))))

  pub octets_frame : Octets (raw_frame bypass control number spacecraft channel field)
  unfolding raw_frame
  octets_frame =
      let b = body_of bypass control number spacecraft channel field in
      let l : fecf_of b < 65536 = fecf_lt b octets_body in
      below_append 256 b (field_octets (fecf_of b)) octets_body (omega arith, (omega arith, tt))

  pub syndrome_frame : syndrome_of (raw_frame bypass control number spacecraft channel field) ≡ 0
  unfolding raw_frame
  syndrome_frame = syndrome_zero (body_of bypass control number spacecraft channel field) octets_body

  -- and with fill
  module _ (fill : List ℕ) (few : length fill ≤ 6) (hf : Octets fill) where
    abbrev s : List ℕ
    s = raw_frame bypass control number spacecraft channel field ++ fill

    pub length_filled : length s ≡ length field + 7 + length fill
    length_filled =
        length-append (raw_frame bypass control number spacecraft channel field) fill
        ∙ ap (λ (j : ℕ). j + length fill) (length_frame bypass control number spacecraft channel field)

    pub octets_filled : (i : ℕ) → get_or s i 0 < 256
    octets_filled = octets_at_lem s (below_append 256 (raw_frame bypass control number spacecraft channel field) fill octets_frame hf)

    enough : 8 ≤ length s
    enough = omega (arith, length_filled)

    entire : header_length ≤ length s
    entire = omega (arith, length_filled)

    filled_is : s
        ≡ (bypass * 32 + control * 16 + spacecraft / 256) ∷ (spacecraft % 256) ∷ (channel * 4 + (length field + 7 - 1) / 256) ∷ ((length field + 7 - 1) % 256) ∷ number
        ∷ (field ++ (field_octets (fecf_of (body_of bypass control number spacecraft channel field)) ++ fill))
    unfolding raw_frame
    filled_is =
        let f = field_octets (fecf_of (body_of bypass control number spacecraft channel field)) in
        append_assoc (body_of bypass control number spacecraft channel field) f fill ∙ ap (λ (b : List ℕ). b ++ (f ++ fill)) body_is

    first : o s 0 ≡ bypass * 32 + control * 16 + spacecraft / 256
    first = ap (λ (l : List ℕ). o l 0) filled_is

    second : o s 1 ≡ spacecraft % 256
    second = ap (λ (l : List ℕ). o l 1) filled_is

    third : o s 2 ≡ channel * 4 + (length field + 7 - 1) / 256
    third = ap (λ (l : List ℕ). o l 2) filled_is

    fourth : o s 3 ≡ (length field + 7 - 1) % 256
    fourth = ap (λ (l : List ℕ). o l 3) filled_is

    -- the fields as they were packed
    version_back : field_at version s ≡ 0
    version_back = version_is s octets_filled entire ∙ omega (arith, first)

    spare_back : field_at reserved_spare s ≡ 0
    spare_back = spare_is s octets_filled entire ∙ omega (arith, first)

    pub bypass_back : field_at bypass_flag s ≡ bypass
    bypass_back = bypass_is s octets_filled entire ∙ omega (arith, first)

    pub control_back : field_at control_command_flag s ≡ control
    control_back = control_is s octets_filled entire ∙ omega (arith, first)

    pub spacecraft_back : field_at spacecraft_identifier s ≡ spacecraft
    spacecraft_back = spacecraft_is s octets_filled entire ∙ omega (arith, first, second)

    pub channel_back : field_at virtual_channel_identifier s ≡ channel
    channel_back = channel_is s octets_filled entire ∙ omega (arith, third)

    pub number_back : field_at frame_sequence_number s ≡ number
    number_back = number_is s octets_filled entire ∙ ap (λ (l : List ℕ). o l 4) filled_is

    pub total_back : total_of s ≡ length field + 7
    total_back = total_is s octets_filled enough ∙ omega (arith, third, fourth)

    pub field_back : data_field s (length field + 7) ≡ field
    unfolding data_field
    field_back =
        ap (λ (l : List ℕ). take (length field + 7 - 7) (drop 5 l)) filled_is
        ∙ take_at field (field_octets (fecf_of (body_of bypass control number spacecraft channel field)) ++ fill) (length field + 7 - 7) (omega arith)

    combination : valid_combination bypass control ≡ true
    combination =
        ap not
        (not_so (both (eqb bypass 0) (eqb control 1))
        (λ e. omega (arith, eqb-true bypass 0 (both_left (eqb bypass 0) (eqb control 1) e), eqb-true control 1 (both_right (eqb bypass 0) (eqb control 1) e))))

    -- its header is valid
    valid_back : valid_header s ≡ true
    valid_back =
        valid_is s (record {
          entire = entire;
          version_zero = version_back;
          spare_zero = spare_back;
          combination = rw (bypass_back, control_back) combination;
          sequence = rw (bypass_back, number_back) fits.sequence;
        })

    -- what is left to judge: the address, and the command of a frame of type C
    pub refusal_left : (s' c' : ℕ) → refusal_of s s' c'
        ≡ must (eqb spacecraft s') 7 (must (eqb channel c') 7 (must (pick (eqb control 1) (is_command field) true) 9 0))
    unfolding content_refusal header_refusal command_held
    refusal_left s' c' =
        let w = raw_frame bypass control number spacecraft channel field in
        let z : syndrome_of (take (length field + 7) s) ≡ 0 =
        ap syndrome_of (take_at w fill (length field + 7) (length_frame bypass control number spacecraft channel field)) ∙ syndrome_frame in
        lengths_right s (length field + 7) s' c' total_back (omega arith) (omega (arith, length_filled)) (omega (arith, length_filled))
        ∙ rw (eq-eqb (syndrome_of (take (length field + 7) s)) 0 z, valid_back, control_back, spacecraft_back, channel_back, field_back)

    -- the kind, by the flags, the number and the data
    pub kind_left : kind_of s
        ≡ pick (eqb control 1) (pick (same field unlock_command) Unlock (SetVr (get_or field 2 0))) (pick (eqb bypass 1) Bd (Ad number))
    unfolding kind_of
    kind_left = rw (total_back, field_back, control_back, bypass_back, number_back)
