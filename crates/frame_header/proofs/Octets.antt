-- The header's fields by the octets that hold them.
use mathlib.Core.Path.{◌≡◌, refl, ap₂, ◌∙◌}
use mathlib.Core.List.{List}
use Prim.Native.Nat.{ℕ, ◌+◌, ◌*◌, ◌/◌, ◌%◌, ◌<◌, ◌≤◌}
use native.Mathlib.Omega.{arith}
use lib.ListN.{length, get_or}
use Rattle.base.specs.Fields.{field_at}
use Rattle.base.proofs.Fields.{field_in_octet, field_joined}
use Rattle.frame_header.specs.Header.{header_length, version, bypass_flag, control_command_flag, reserved_spare, spacecraft_identifier, virtual_channel_identifier, frame_length, frame_sequence_number}

abbrev pub o : List ℕ → ℕ → ℕ
o s i = get_or s i 0

-- the fields of octets s, of which a header is there and each is below 256
module _ (s : List ℕ) (octets : (i : ℕ) → get_or s i 0 < 256) (enough : header_length ≤ length s) where
  pub version_is : field_at version s ≡ o s 0 / 64
  version_is = field_in_octet s 0 0 2 6 refl (omega arith) (octets 0) ∙ omega (arith, octets 0)

  pub spare_is : field_at reserved_spare s ≡ o s 0 / 4 % 4
  spare_is = field_in_octet s 0 4 2 2 refl (omega arith) (octets 0)

  pub bypass_is : field_at bypass_flag s ≡ o s 0 / 32 % 2
  bypass_is = field_in_octet s 0 2 1 5 refl (omega arith) (octets 0)

  pub control_is : field_at control_command_flag s ≡ o s 0 / 16 % 2
  control_is = field_in_octet s 0 3 1 4 refl (omega arith) (octets 0)

  pub spacecraft_is : field_at spacecraft_identifier s ≡ o s 0 % 4 * 256 + o s 1
  spacecraft_is =
      field_joined s 6 2 8 (omega arith)
      ∙ ap₂ (λ (x y : ℕ). x * 256 + y) (field_in_octet s 0 6 2 0 refl (omega arith) (octets 0)) (field_in_octet s 1 0 8 0 refl (omega arith) (octets 1))
      ∙ omega (arith, octets 0, octets 1)

  pub channel_is : field_at virtual_channel_identifier s ≡ o s 2 / 4
  channel_is = field_in_octet s 2 0 6 2 refl (omega arith) (octets 2) ∙ omega (arith, octets 2)

  pub length_is : field_at frame_length s ≡ o s 2 % 4 * 256 + o s 3
  length_is =
      field_joined s 22 2 8 (omega arith)
      ∙ ap₂ (λ (x y : ℕ). x * 256 + y) (field_in_octet s 2 6 2 0 refl (omega arith) (octets 2)) (field_in_octet s 3 0 8 0 refl (omega arith) (octets 3))
      ∙ omega (arith, octets 2, octets 3)

  pub number_is : field_at frame_sequence_number s ≡ o s 4
  number_is = field_in_octet s 4 0 8 0 refl (omega arith) (octets 4) ∙ omega (arith, octets 4)
