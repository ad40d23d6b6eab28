-- The lengths of a written frame and of its body.
use mathlib.Core.Path.{◌≡◌, ap, ◌∙◌}
use mathlib.Core.List.{List}
use Prim.Native.Nat.{ℕ, ◌+◌}
use native.Mathlib.Omega.{arith}
use lib.ListN.{length, length-append}
use Rattle.fecf.specs.Fecf.{fecf_of, field_octets}
use Rattle.frame_header.specs.Header.{header_of}
use Rattle.frame_header.proofs.Packed.{length_header}
use Rattle.frame.specs.Frame.{body_of, raw_frame}

module _ (bypass control number spacecraft channel : ℕ) (field : List ℕ) where
  pub length_body : length (body_of bypass control number spacecraft channel field) ≡ 5 + length field
  unfolding body_of
  length_body =
      length-append (header_of bypass control spacecraft channel (length field + 7) number) field
      ∙ ap (λ (j : ℕ). j + length field) (length_header bypass control spacecraft channel (length field + 7) number)

  pub length_frame : length (raw_frame bypass control number spacecraft channel field) ≡ length field + 7
  unfolding raw_frame
  length_frame =
      length-append (body_of bypass control number spacecraft channel field) (field_octets (fecf_of (body_of bypass control number spacecraft channel field)))
      ∙ omega (arith, length_body)
