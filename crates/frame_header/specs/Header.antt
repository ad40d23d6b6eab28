-- Clauses 6.2.2 and 6.8: the Transfer Frame Primary Header, its eight fields at their locations, and which of its values are valid
-- whatever the receiver.
use Rattle.std.specs.Prelude.{ℕ, ◌-◌, Bool, true, not, List, [], ◌∷◌, leb, eqb, length}
use Rattle.base.specs.Choice.{pick, both}
use Rattle.base.specs.Fields.{Location, Field, packed, octets_of, field_at, at, holds}

-- clause 6.2.2.1: the header has five octets
abbrev pub header_length : ℕ
header_length = 5

-- 6.2.2.2 Transfer Frame Version Number: bits 0-1
abbrev pub version : Location
version = at 0 2

-- 6.2.2.3 Bypass Flag: bit 2
abbrev pub bypass_flag : Location
bypass_flag = at 2 1

-- 6.2.2.4 Control Command Flag: bit 3
abbrev pub control_command_flag : Location
control_command_flag = at 3 1

-- 6.2.2.5 Reserved Spare: bits 4-5
abbrev pub reserved_spare : Location
reserved_spare = at 4 2

-- 6.2.2.6 Spacecraft Identifier: bits 6-15
abbrev pub spacecraft_identifier : Location
spacecraft_identifier = at 6 10

-- 6.2.2.7 Virtual Channel Identifier: bits 16-21
abbrev pub virtual_channel_identifier : Location
virtual_channel_identifier = at 16 6

-- 6.2.2.8 Frame Length: bits 22-31, the number of octets in the frame minus 1
abbrev pub frame_length : Location
frame_length = at 22 10

-- 6.2.2.9 Frame Sequence Number: bits 32-39
abbrev pub frame_sequence_number : Location
frame_sequence_number = at 32 8

-- clause 6.2.2.1: the eight fields, positioned contiguously, of a frame of so many octets
unfoldable pub header_fields : ℕ → ℕ → ℕ → ℕ → ℕ → ℕ → List Field
header_fields bypass control spacecraft channel total number =
    holds version 0
    ∷ holds bypass_flag bypass
    ∷ holds control_command_flag control
    ∷ holds reserved_spare 0
    ∷ holds spacecraft_identifier spacecraft
    ∷ holds virtual_channel_identifier channel
    ∷ holds frame_length (total - 1)
    ∷ holds frame_sequence_number number
    ∷ []

-- the header's octets
unfoldable pub header_of : ℕ → ℕ → ℕ → ℕ → ℕ → ℕ → List ℕ
header_of bypass control spacecraft channel total number = octets_of header_length (packed (header_fields bypass control spacecraft channel total number))

-- clause 6.8: the Bypass Flag and the Control Command Flag are a valid combination; table 6-3 has no (0,1)
abbrev pub valid_combination : ℕ → ℕ → Bool
valid_combination bypass control = not (both (eqb bypass 0) (eqb control 1))

-- Clause 6.2.2.9: zero in type-B frames, those with Bypass Flag 1. Document 01 said: "Type-B frames are written with N(S) zero; on reading
-- it isn't looked at." Document 02, order 10, amends this: "A type-B frame whose sequence octet isn't zero is now refusal 6, judged where
-- 6 was judged, and so event E9."
abbrev pub valid_number : ℕ → ℕ → Bool
valid_number bypass number = pick (eqb bypass 1) (eqb number 0) true

-- clause 6.8, and refusal 6 of document 01 with document 02's order 10: a whole header, its Version Number and Reserved Spare zero, its
-- flags a valid combination, and its Frame Sequence Number zero in a type-B frame
unfoldable pub valid_header : List ℕ → Bool
valid_header octets =
    both (leb header_length (length octets))
    (both (eqb (field_at version octets) 0)
    (both (eqb (field_at reserved_spare octets) 0)
    (both (valid_combination (field_at bypass_flag octets) (field_at control_command_flag octets))
    (valid_number (field_at bypass_flag octets) (field_at frame_sequence_number octets)))))
