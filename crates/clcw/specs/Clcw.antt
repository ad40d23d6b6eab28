-- Clause 6.3, table 6-4, and document 01, "CLCW": the communications link control word.
use Rattle.std.specs.Prelude.{ℕ, Bool, List, [], ◌∷◌, leb, eqb}
use Rattle.base.specs.Choice.{must, both}
use Rattle.base.specs.Fields.{Location, Field, packed, octets_of, field_at, at, holds}
use Rattle.base.specs.Limits.{largest_channel}
use Rattle.base.specs.Outcome.{Outcome, Outcome.done, Outcome.refused}
use Rattle.base.specs.Flags.{bit_of}
use Rattle.clcw.specs.declared.Clcw.{Clcw}

-- Table 6-4, row by row: each field with its location and its length in bits.

-- Control Word Type: bit 0
abbrev pub control_word_type : Location
control_word_type = at 0 1

-- CLCW Version Number: bits 1-2
abbrev pub version_number : Location
version_number = at 1 2

-- Status Field: bits 3-5
abbrev pub status_field : Location
status_field = at 3 3

-- COP in Effect: bits 6-7
abbrev pub cop_in_effect : Location
cop_in_effect = at 6 2

-- Virtual Channel Identification: bits 8-13
abbrev pub virtual_channel : Location
virtual_channel = at 8 6

-- Reserved Spare: bits 14-15
abbrev pub first_spare : Location
first_spare = at 14 2

-- No RF Available Flag: bit 16
abbrev pub no_rf_available : Location
no_rf_available = at 16 1

-- No Bit Lock Flag: bit 17
abbrev pub no_bit_lock : Location
no_bit_lock = at 17 1

-- Lockout Flag: bit 18
abbrev pub lockout_flag : Location
lockout_flag = at 18 1

-- Wait Flag: bit 19
abbrev pub wait_flag : Location
wait_flag = at 19 1

-- Retransmit Flag: bit 20
abbrev pub retransmit_flag : Location
retransmit_flag = at 20 1

-- FARM-B Counter: bits 21-22
abbrev pub farm_bcounter : Location
farm_bcounter = at 21 2

-- Reserved Spare: bit 23
abbrev pub second_spare : Location
second_spare = at 23 1

-- Report Value: bits 24-31
abbrev pub report_value : Location
report_value = at 24 8

-- document 01: status, no RF and no bit lock are written zero
unfoldable pub word_fields : Clcw → List Field
word_fields word =
    holds control_word_type 0
    ∷ holds version_number 0b00
    ∷ holds status_field 0b000
    ∷ holds cop_in_effect 0b01
    ∷ holds virtual_channel word.channel
    ∷ holds first_spare 0b00
    ∷ holds no_rf_available 0
    ∷ holds no_bit_lock 0
    ∷ holds lockout_flag (bit_of word.lockout)
    ∷ holds wait_flag (bit_of word.wait)
    ∷ holds retransmit_flag (bit_of word.retransmit)
    ∷ holds farm_bcounter word.counter
    ∷ holds second_spare 0
    ∷ holds report_value word.report
    ∷ []

-- clause 6.3.1: the four octets
unfoldable pub clcw_of : Clcw → List ℕ
clcw_of word = octets_of 4 (packed (word_fields word))

-- document 01: a channel or counter that its field cannot hold is 12, then 11
unfoldable pub writing : Clcw → ℕ → Outcome (Unit {0})
writing word room =
    must (leb word.channel largest_channel) (refused 12 0)
    (must (leb word.counter 3) (refused 12 0)
    (must (leb 4 room) (refused 11 0)
    (done (clcw_of word) tt)))

-- document 01: wrong type, version, COP or spare make it an invalid CLCW
unfoldable pub is_valid : List ℕ → Bool
is_valid octets =
    both (eqb (field_at control_word_type octets) 0)
    (both (eqb (field_at version_number octets) 0b00)
    (both (eqb (field_at cop_in_effect octets) 0b01)
    (both (eqb (field_at first_spare octets) 0b00) (eqb (field_at second_spare octets) 0))))

-- the fields of a control word that has a meaning to FOP-1
unfoldable pub word_of : List ℕ → Clcw
word_of octets = record {
  channel = field_at virtual_channel octets;
  lockout = eqb (field_at lockout_flag octets) 1;
  wait = eqb (field_at wait_flag octets) 1;
  retransmit = eqb (field_at retransmit_flag octets) 1;
  counter = field_at farm_bcounter octets;
  report = field_at report_value octets;
}
