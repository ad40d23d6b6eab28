-- Clauses 6.2 and 6.4 to 6.8, clause 7.8, and document 01, "Frame": the TC Transfer Frame, written and read.
use Rattle.std.specs.Prelude.{ℕ, ◌+◌, ◌-◌, Bool, true, List, [], ◌∷◌, ◌++◌, leb, eqb, length, take, drop, get_or}
use Rattle.base.specs.Choice.{pick, must}
use Rattle.base.specs.Fields.{field_at}
use Rattle.base.specs.Limits.{smallest_frame, largest_unit, largest_spacecraft, largest_channel}
use Rattle.base.specs.Octets.{same}
use Rattle.base.specs.Outcome.{Outcome, Outcome.done, Outcome.refused}
use Rattle.fecf.specs.Fecf.{fecf_of, syndrome_of, field_octets}
use Rattle.frame_header.specs.Header.{header_length, bypass_flag, control_command_flag, spacecraft_identifier, virtual_channel_identifier, frame_length, frame_sequence_number, header_of, valid_header}
use Rattle.frame.specs.declared.Kind.{Kind}
use Rattle.frame.specs.declared.Kind.TheVariants.{Ad, Bd, Unlock, SetVr}

-- table 6-3: the Bypass Flag of each kind of frame
abbrev pub bypass_of : Kind → ℕ
bypass_of (Ad number) = 0
bypass_of Bd = 1
bypass_of Unlock = 1
bypass_of (SetVr value) = 1

-- table 6-3: the Control Command Flag of each kind of frame
abbrev pub control_of : Kind → ℕ
control_of (Ad number) = 0
control_of Bd = 0
control_of Unlock = 1
control_of (SetVr value) = 1

-- clause 6.2.2.9: N(S) in type-A frames, zero in type-B frames
abbrev pub number_of : Kind → ℕ
number_of (Ad number) = number
number_of Bd = 0
number_of Unlock = 0
number_of (SetVr value) = 0

-- clause 7.8: the control command Unlock
abbrev pub unlock_command : List ℕ
unlock_command = 0x00 ∷ []

-- clause 7.8: the control command Set V(R), with its value
abbrev pub set_vr_command : ℕ → List ℕ
set_vr_command value = 0x82 ∷ 0x00 ∷ value ∷ []

-- clause 6.2.3: the data field: the unit of a type-D frame, the command of a type-C frame
abbrev pub data_of : Kind → List ℕ → List ℕ
data_of (Ad number) unit = unit
data_of Bd unit = unit
data_of Unlock unit = unlock_command
data_of (SetVr value) unit = set_vr_command value

-- header, 5 octets, and FECF, 2
abbrev pub overhead : ℕ
overhead = 7

-- header and data, over which the FECF is taken
unfoldable pub body_of : ℕ → ℕ → ℕ → ℕ → ℕ → List ℕ → List ℕ
body_of bypass control number spacecraft channel field = header_of bypass control spacecraft channel (length field + overhead) number ++ field

-- clause 6.2.1: header, data field, FECF
unfoldable pub raw_frame : ℕ → ℕ → ℕ → ℕ → ℕ → List ℕ → List ℕ
raw_frame bypass control number spacecraft channel field =
    body_of bypass control number spacecraft channel field ++ field_octets (fecf_of (body_of bypass control number spacecraft channel field))

-- table 6-3: the frame of a kind, by its flags, its number and its data
abbrev pub frame_of : ℕ → ℕ → Kind → List ℕ → List ℕ
frame_of spacecraft channel kind unit = raw_frame (bypass_of kind) (control_of kind) (number_of kind) spacecraft channel (data_of kind unit)

-- document 01: writing a frame into a room of so many octets: 10, 12, 11
unfoldable pub raw_writing : ℕ → ℕ → ℕ → ℕ → ℕ → List ℕ → ℕ → Outcome (Unit {0})
raw_writing bypass control number spacecraft channel field room =
    must (leb 1 (length field)) (refused 10 0)
    (must (leb (length field) largest_unit) (refused 10 0)
    (must (leb spacecraft largest_spacecraft) (refused 12 0)
    (must (leb channel largest_channel) (refused 12 0)
    (must (leb (length field + overhead) room) (refused 11 0)
    (done (raw_frame bypass control number spacecraft channel field) tt)))))

-- document 01: the same for a frame of a kind: 10, 12, 11
abbrev pub writing : ℕ → ℕ → Kind → List ℕ → ℕ → Outcome (Unit {0})
writing spacecraft channel kind unit room =
    raw_writing (bypass_of kind) (control_of kind) (number_of kind) spacecraft channel (data_of kind unit) room

-- clause 6.6: the number of octets that the header says
unfoldable pub total_of : List ℕ → ℕ
total_of octets = field_at frame_length octets + 1

-- the data field of a frame of n octets
unfoldable pub data_field : List ℕ → ℕ → List ℕ
data_field octets n = take (n - overhead) (drop header_length octets)

-- clause 7.8: the data field holds one of the two commands
unfoldable pub is_command : List ℕ → Bool
is_command field = pick (same field unlock_command) true (same field (set_vr_command (get_or field 2 0)))

-- a frame of n octets of type C holds a command
unfoldable pub command_held : List ℕ → ℕ → Bool
command_held octets n = pick (eqb (field_at control_command_flag octets) 1) (is_command (data_field octets n)) true

-- clause 6.8, and document 01's order 6, 7, 9; 0 where there is none
unfoldable pub header_refusal : List ℕ → ℕ → ℕ → ℕ → ℕ
header_refusal octets n spacecraft channel =
    must (valid_header octets) 6
    (must (eqb (field_at spacecraft_identifier octets) spacecraft) 7
    (must (eqb (field_at virtual_channel_identifier octets) channel) 7
    (must (command_held octets n) 9 0)))

-- clause 6.7: the syndrome of the first n octets is zero
unfoldable pub content_refusal : List ℕ → ℕ → ℕ → ℕ → ℕ
content_refusal octets n spacecraft channel =
    must (eqb (syndrome_of (take n octets)) 0) 8 (header_refusal octets n spacecraft channel)

-- document 01's order 4, 4, 4, 5, 8, 6, 7, 9. Its 10, where the header says more than the largest frame, stood behind the second 4: document 02's
-- order 7, "Refusal 10 moves to the new limits", and ten bits of length say no more than that one (proofs/TenBits).
unfoldable pub refusal_of : List ℕ → ℕ → ℕ → ℕ
refusal_of octets spacecraft channel =
    must (leb smallest_frame (length octets)) 4
    (must (leb smallest_frame (total_of octets)) 4
    (must (leb (total_of octets) (length octets)) 4
    (must (leb (length octets) (total_of octets + 6)) 5
    (content_refusal octets (total_of octets) spacecraft channel))))

-- table 6-3: the kind of a valid frame, with N(S) or the command's value
unfoldable pub kind_of : List ℕ → Kind
kind_of octets =
    pick (eqb (field_at control_command_flag octets) 1)
    (pick (same (data_field octets (total_of octets)) unlock_command) Unlock (SetVr (get_or (data_field octets (total_of octets)) 2 0)))
    (pick (eqb (field_at bypass_flag octets) 1) Bd (Ad (field_at frame_sequence_number octets)))
