-- What reading answers.
use Rattle.std.specs.Prelude.{ℕ, ◌-◌, List, [], Result, eqb}
use Rattle.base.specs.Choice.{pick}
use Rattle.base.specs.Fields.{field_at}
use Rattle.base.specs.Refusals.{by_number}
use Rattle.base.specs.declared.Refusal.{Refusal}
use Rattle.frame_header.specs.Header.{spacecraft_identifier, virtual_channel_identifier}
use Rattle.frame.specs.Frame.{overhead, refusal_of, total_of, data_field, kind_of}
use Rattle.frame.specs.declared.Fields.{Fields}

-- what reading answers in code: the fields, or a refusal
abbrev pub FrameReading : Type 0
FrameReading = Result Fields Refusal

-- the fields of a valid frame
unfoldable pub fields_of : List ℕ → Fields
fields_of octets = record {
  kind = kind_of octets;
  spacecraft = field_at spacecraft_identifier octets;
  channel = field_at virtual_channel_identifier octets;
  total = total_of octets;
  field = total_of octets - overhead;
}

-- what reading answers: the fields, or the refusal
unfoldable pub reading_of : List ℕ → ℕ → ℕ → FrameReading
reading_of octets spacecraft channel = by_number (refusal_of octets spacecraft channel) (fields_of octets)

-- the data field as a part of the lent frame; after a refusal it is empty
unfoldable pub part_of : List ℕ → ℕ → ℕ → List ℕ
part_of octets spacecraft channel = pick (eqb (refusal_of octets spacecraft channel) 0) (data_field octets (total_of octets)) []
