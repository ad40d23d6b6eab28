-- A frame and a control word, written and read, are judged by the numbers narrowed as they are by the numbers given, by the laws of crate
-- pondreszi_numbers.
use mathlib.Core.Path.{◌≡◌, ap, ◌∙◌}
use mathlib.Core.Bool.{Bool}
use mathlib.Core.List.{List, []}
use Prim.Native.Nat.{ℕ, suc, ◌<◌}
use native.Mathlib.Omega.{arith}
use borrow.Author.Tests.{lt-leb, ne_eqb, leb-true, eqb-true}
use lib.Dec.{leb, eqb}
use lib.ListN.{length, get_or}
use Rattle.base.specs.Fields.{field_at}
use Rattle.base.specs.Limits.{smallest_frame, largest_spacecraft, largest_channel}
use Rattle.base.specs.Outcome.{Outcome}
use Rattle.frame_header.specs.Header.{spacecraft_identifier, virtual_channel_identifier}
use Rattle.frame.specs.Frame.{set_vr_command, raw_writing, writing, header_refusal, content_refusal, refusal_of}
use Rattle.frame.specs.Answers.{reading_of, fields_of}
use Rattle.frame.specs.declared.Kind.TheVariants.{Ad, SetVr}
use Rattle.std.specs.Prelude.{Err}
use Rattle.base.specs.Refusals.{by_number}
use Rattle.base.specs.declared.Refusal.TheVariants.{Length}
use Rattle.frame_header.proofs.Octets.{spacecraft_is, channel_is}
use Rattle.clcw.specs.Clcw.{virtual_channel, writing as word_writing}
use Rattle.clcw.specs.Answers.{reading_of as word_reading}
use Rattle.clcw.proofs.Word.{channel_is as word-channel-is}
use Rattle.fop.specs.Limits.{largest_number}
use Rattle.pondreszi_numbers.specs.Numbers.{largest_octet, narrow, with_number, ad_writing, set_vr_writing}
use Rattle.pondreszi_numbers.proofs.Narrowed.{Alike, narrowed, beyond, checked, Spacecraft, Channel, address}

-- a frame written
module _ (bypass control number : ℕ) (field : List ℕ) (room : ℕ) where
  spacecraft_written : (channel : ℕ) → Alike largest_spacecraft (λ s. raw_writing bypass control number s channel field room)
  unfolding raw_writing
  spacecraft_written channel y z h k = rw (lt-leb y largest_spacecraft h, lt-leb z largest_spacecraft k)

  channel_written : (spacecraft : ℕ) → Alike largest_channel (λ c. raw_writing bypass control number spacecraft c field room)
  unfolding raw_writing
  channel_written spacecraft y z h k = rw (lt-leb y largest_channel h, lt-leb z largest_channel k)

  pub frame_narrowed : (spacecraft channel : ℕ) {own ours : ℕ} → Spacecraft own spacecraft → Channel ours channel
      → raw_writing bypass control number own ours field room ≡ raw_writing bypass control number spacecraft channel field room
  frame_narrowed spacecraft channel p q =
      address (λ s c. raw_writing bypass control number s c field room) spacecraft channel spacecraft_written channel_written p q

-- with a number: where it is beyond its limit the spacecraft is, and the number is not looked at
module _ (spacecraft channel number room : ℕ) {judged own ours given : ℕ} (e : judged ≡ with_number number spacecraft (suc largest_spacecraft))
    (p : Spacecraft own judged) (q : Channel ours channel) (r : given ≡ narrow largest_octet 0 number) where
  module _ (unit : List ℕ) where
    ad_number_lem : largest_octet < number
        → writing (with_number number spacecraft (suc largest_spacecraft)) channel (Ad 0) unit room ≡ ad_writing spacecraft channel number unit room
    unfolding raw_writing
    ad_number_lem h = rw (lt-leb number largest_number h)

    pub ad_narrowed : writing own ours (Ad given) unit room ≡ ad_writing spacecraft channel number unit room
    ad_narrowed =
        frame_narrowed 0 0 given unit room judged channel p q
        ∙ ap (λ (s : ℕ). writing s channel (Ad given) unit room) e
        ∙ ap (λ (n : ℕ). writing (with_number number spacecraft (suc largest_spacecraft)) channel (Ad n) unit room) r
        ∙ narrowed (λ n. writing (with_number number spacecraft (suc largest_spacecraft)) channel (Ad n) unit room) largest_octet 0 number ad_number_lem

  set_vr_number : largest_octet < number
      → writing (with_number number spacecraft (suc largest_spacecraft)) channel (SetVr 0) [] room ≡ set_vr_writing spacecraft channel number room
  unfolding raw_writing
  set_vr_number h = rw (lt-leb number largest_number h)

  pub set_vr_narrowed : writing own ours (SetVr given) [] room ≡ set_vr_writing spacecraft channel number room
  set_vr_narrowed =
      frame_narrowed 1 1 0 (set_vr_command given) room judged channel p q
      ∙ ap (λ (s : ℕ). writing s channel (SetVr given) [] room) e
      ∙ ap (λ (n : ℕ). writing (with_number number spacecraft (suc largest_spacecraft)) channel (SetVr n) [] room) r
      ∙ narrowed (λ n. writing (with_number number spacecraft (suc largest_spacecraft)) channel (SetVr n) [] room) largest_octet 0 number set_vr_number

-- octets read: an own address beyond the limits is no frame's and no word's
module _ (octets : List ℕ) (at : (i : ℕ) → get_or octets i 0 < 256) where
  spacecraft_read : (channel : ℕ) → Alike largest_spacecraft (λ s. refusal_of octets s channel)
  unfolding refusal_of content_refusal header_refusal
  spacecraft_read channel y z h k =
      checked (leb smallest_frame (length octets)) 4 _ _
      (λ e.
      let l = leb-true smallest_frame (length octets) e in
      let f = spacecraft_is octets at (omega arith) in
      let b = at 1 in
      rw (ne_eqb (field_at spacecraft_identifier octets) y (λ p. omega arith), ne_eqb (field_at spacecraft_identifier octets) z (λ p. omega arith)))

  channel_read : (spacecraft : ℕ) → Alike largest_channel (refusal_of octets spacecraft)
  unfolding refusal_of content_refusal header_refusal
  channel_read spacecraft y z h k =
      checked (leb smallest_frame (length octets)) 4 _ _
      (λ e.
      let l = leb-true smallest_frame (length octets) e in
      let f = channel_is octets at (omega arith) in
      let b = at 2 in
      rw
      (ne_eqb (field_at virtual_channel_identifier octets) y (λ p. omega arith), ne_eqb (field_at virtual_channel_identifier octets) z (λ p. omega arith)))

  pub reading_narrowed : (spacecraft channel : ℕ) {own ours : ℕ} → Spacecraft own spacecraft → Channel ours channel
      → reading_of octets own ours ≡ reading_of octets spacecraft channel
  unfolding reading_of
  reading_narrowed spacecraft channel p q =
      ap (λ (n : ℕ). by_number n (fields_of octets))
      (address (refusal_of octets) spacecraft channel spacecraft_read channel_read p q)

  word_read : Alike largest_channel (word_reading octets)
  unfolding word_reading
  word_read y z h k =
      checked (eqb (length octets) 4) (Err Length) _ _
      (λ e.
      let l = eqb-true (length octets) 4 e in
      let f = word-channel-is octets l at in
      let b = at 1 in
      rw (ne_eqb (field_at virtual_channel octets) y (λ p. omega arith), ne_eqb (field_at virtual_channel octets) z (λ p. omega arith)))

  pub word_reading_narrowed : (channel : ℕ) {ours : ℕ} → Channel ours channel → word_reading octets ours ≡ word_reading octets channel
  word_reading_narrowed channel q =
      beyond (word_reading octets) largest_channel largest_octet (suc largest_channel) channel word_read (omega arith) (omega arith) q

-- a control word written, and the number that it reports
module _ (lockout wait retransmit : Bool) (room : ℕ) where
  abbrev pub written : ℕ → ℕ → ℕ → Outcome (Unit {0})
  written channel counter report =
      word_writing (record { channel = channel; lockout = lockout; wait = wait; retransmit = retransmit; counter = counter; report = report }) room

  word_channel : (counter report : ℕ) → Alike largest_channel (λ c. written c counter report)
  unfolding word_writing
  word_channel counter report y z h k = rw (lt-leb y largest_channel h, lt-leb z largest_channel k)

  word_counter : (channel report : ℕ) → Alike 3 (λ n. written channel n report)
  unfolding word_writing
  word_counter channel report y z h k = rw (lt-leb y 3 h, lt-leb z 3 k)

  module _ (channel counter report : ℕ) where
    abbrev with : ℕ
    with = with_number report channel (suc largest_channel)

    word_report : largest_octet < report → written with counter 0 ≡ written with counter report
    unfolding word_writing
    word_report h = rw (lt-leb report largest_number h)

    pub word_narrowed : {judged ours count given : ℕ} → judged ≡ with → Channel ours judged → count ≡ narrow largest_octet largest_octet counter
        → given ≡ narrow largest_octet 0 report → written ours count given ≡ written with counter report
    word_narrowed {judged} {ours} {count} {given} e p q r =
        beyond (λ c. written c count given) largest_channel largest_octet (suc largest_channel) judged (word_channel count given) (omega arith) (omega arith) p
        ∙ ap (λ (c : ℕ). written c count given) e
        ∙ beyond (λ n. written with n given) 3 largest_octet largest_octet counter (word_counter with given) (omega arith) (omega arith) q
        ∙ ap (λ (n : ℕ). written with counter n) r
        ∙ narrowed (λ n. written with counter n) largest_octet 0 report word_report
