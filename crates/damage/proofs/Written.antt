-- The frames of ours: the length field of a written frame says its length, and with its fill it is read as without (`written_whole`). So
-- whatever reading a damaged CLTU of one hands out is read as the frame sent, or refused (`written_refused_or_read`; in either mode `written_in_mode`).
use mathlib.Core.Path.{◌≡◌, sym, ap, ◌∙◌, subst}
use mathlib.Core.Logic.{◌⊎◌, inl, inr, ⊎_elim}
use mathlib.Core.List.{List, [], append-nil, ◌++◌}
use Prim.Native.Nat.{ℕ, ◌+◌, ◌-◌, ◌*◌, ◌≤◌}
use native.Mathlib.Omega.{arith}
use lib.ListN.{length, replicate, length-replicate}
use Rattle.base.specs.Fields.{field_at}
use Rattle.base.specs.Limits.{largest_spacecraft, largest_channel}
use Rattle.base.specs.Octets.{Octets}
use Rattle.base.specs.Outcome.{Outcome.done}
use Rattle.codeblock.specs.declared.Mode.{Mode}
use Rattle.codeblock.specs.declared.Mode.TheVariants.{Detecting}
use Rattle.start_sequence.specs.StartSequence.{start_of, Received}
use Rattle.cltu.specs.Cltu.{codeblocks, fill_octet, filled, cltu_of, Found, reading}
use Rattle.cltu.proofs.Places.{octets_fill}
use Rattle.frame_header.specs.Header.{spacecraft_identifier, virtual_channel_identifier}
use Rattle.frame.specs.Frame.{bypass_of, control_of, number_of, data_of, raw_frame, frame_of, total_of, data_field, refusal_of, kind_of}
use Rattle.frame.specs.Answers.{fields_of, reading_of, part_of}
use Rattle.frame.specs.declared.Kind.{Kind}
use Rattle.frame.specs.declared.Kind.TheVariants as kind
use Rattle.frame.proofs.Lengths.{length_frame}
use Rattle.frame.proofs.Written.{Fits, octets_frame, total_back, field_back, spacecraft_back, channel_back, refusal_left, kind_left}
use Rattle.frame.proofs.Back.{Legal, legal_fits}
use Rattle.fop.specs.Units.{Frame, AD, BD, Unlock, SetVR, Refused, Own, written}
use Rattle.damage.specs.Damage.{Damaged, WholeFrame, Sendable, TooShort, ReadsAs}
use Rattle.damage.specs.Few.{FewWrong}
use Rattle.damage.proofs.Refused.{damage_refused_or_sent}
use Rattle.damage.proofs.Mended.{two_refused_or_sent}

module _ (bypass control number spacecraft channel : ℕ) (field : List ℕ) (fits : Fits bypass control number spacecraft channel field) where
  abbrev frame : List ℕ
  frame = raw_frame bypass control number spacecraft channel field

  -- what is the same whatever fill stands behind is the same without
  module _ (fill : List ℕ) (few : length fill ≤ 6) (hf : Octets fill) where
    alike : {A : Type 0} (f : List ℕ → A) {v : A} → ((t : List ℕ) → length t ≤ 6 → Octets t → f (frame ++ t) ≡ v) → f (frame ++ fill) ≡ f frame
    alike f law = law fill few hf ∙ sym (law [] (omega arith) tt) ∙ ap f (append-nil frame)

    reads_alike : ReadsAs frame (frame ++ fill)
    unfolding reading_of part_of fields_of
    reads_alike s' c' =
        let r = alike (λ s. refusal_of s s' c') (λ t l o. refusal_left bypass control number spacecraft channel field fits t l o s' c') in
        let t = alike total_of (total_back bypass control number spacecraft channel field fits) in
        let k = alike kind_of (kind_left bypass control number spacecraft channel field fits) in
        let a = alike (field_at spacecraft_identifier) (spacecraft_back bypass control number spacecraft channel field fits) in
        let b = alike (field_at virtual_channel_identifier) (channel_back bypass control number spacecraft channel field fits) in
        let d = alike (λ s. data_field s (length field + 7)) (field_back bypass control number spacecraft channel field fits) in
        let n = total_back bypass control number spacecraft channel field fits fill few hf in
        (rw (r, t, k, a, b), rw (r, sym t, n, d))

  whole : WholeFrame frame
  whole =
      let size = length_frame bypass control number spacecraft channel field in
      record {
        octets = octets_frame bypass control number spacecraft channel field fits;
        low = omega (arith, fits.low);
        high = omega (arith, fits.high);
        says = ap total_of (sym (append-nil frame)) ∙ total_back bypass control number spacecraft channel field fits [] (omega arith) tt ∙ sym size;
      }

  filled_alike : ReadsAs frame (filled frame)
  unfolding filled
  filled_alike =
      let fill = 7 * codeblocks (length frame) - length frame in
      reads_alike (replicate fill fill_octet) (simp length-replicate (omega arith)) (octets_fill fill)

module _ (own : Own) (hs : own.spacecraft ≤ largest_spacecraft) (hv : own.channel ≤ largest_channel) where
  abbrev Ours : List ℕ → Type 0
  Ours frame = WholeFrame frame × ReadsAs frame (filled frame)

  of_kind : (k : Kind) (unit : List ℕ) → Legal k unit → Ours (frame_of own.spacecraft own.channel k unit)
  of_kind k unit l =
      let fits = legal_fits own.spacecraft own.channel k unit hs hv l in (
        whole (bypass_of k) (control_of k) (number_of k) own.spacecraft own.channel (data_of k unit) fits,
        filled_alike (bypass_of k) (control_of k) (number_of k) own.spacecraft own.channel (data_of k unit) fits,
      )

  -- a frame that is handed down is whole, and its fill changes nothing
  pub written_whole : (x : Frame) → Sendable x → WholeFrame (written own x) × ReadsAs (written own x) (filled (written own x))
  unfolding written
  written_whole (AD u) l = of_kind (kind.Ad u.ns) u.octets l
  written_whole (BD o) l = of_kind kind.Bd o l
  written_whole Unlock l = of_kind kind.Unlock [] l
  written_whole (SetVR v) l = of_kind (kind.SetVr v) [] l
  written_whole (Refused r) l = absurd l

  -- what is handed out as sent, or too short for the frame reader
  handed_read : (x : Frame) → Sendable x → (octets : List ℕ) → (octets ≡ filled (written own x)) ⊎ TooShort octets → ReadsAs (written own x) octets ⊎ TooShort octets
  handed_read x l octets = ⊎_elim (λ z. inl (subst (ReadsAs (written own x)) (sym z) (written_whole x l).1)) inr

  pub written_refused_or_read : (x : Frame) → Sendable x → (received : List ℕ) → Damaged (cltu_of (written own x)) received
      → (room : ℕ) (octets : List ℕ) (found : Found) → reading Detecting received room ≡ done octets found
      → ReadsAs (written own x) octets ⊎ TooShort octets
  written_refused_or_read x l received damaged room octets found e =
      handed_read x l octets (damage_refused_or_sent (written_whole x l).0 received damaged room octets found e)

  -- in either mode, with at most two wrong bits in each codeblock and in the tail, behind octets that hold no near place
  pub written_in_mode : (x : Frame) → Sendable x → (before start body : List ℕ) → Received start → start_of before ≡ length before → FewWrong 2 (written own x) body
      → (mode : Mode) (room : ℕ) (octets : List ℕ) (found : Found) → reading mode (before ++ (start ++ body)) room ≡ done octets found
      → ReadsAs (written own x) octets ⊎ TooShort octets
  written_in_mode x l before start body r none few mode room octets found e =
      let w = (written_whole x l).0 in
      handed_read x l octets (two_refused_or_sent (written own x) body w.octets w.high before start r none w few mode room octets found e)
