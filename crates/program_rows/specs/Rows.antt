-- Document 01, "The program": what is written for a line, a row of fields parted by tabs, and the header.
use Rattle.std.specs.Prelude.{ℕ, Bool, true, false, List, [], ◌∷◌, ◌++◌}
use Rattle.text.specs.Decimal.{decimal}
use Rattle.text.specs.Fields.{tab, newline}
use Rattle.farm.specs.declared.State.{State}
use Rattle.farm.specs.declared.State.TheVariants.{Open, Wait, Lockout}
use Rattle.farm.specs.declared.Event.{Event}
use Rattle.farm.specs.declared.Event.TheVariants.{E1, E2, E3, E4, E5, E6, E7, E8, E9, E10, E11}
use Rattle.farm.specs.declared.Variables.{Variables}
use Rattle.program_rows.specs.declared.Output.{Output}
use Rattle.program_rows.specs.declared.Output.TheVariants.{Nothing, Refused, Row}

-- an event as text: E and its number
abbrev pub event_text : Event → List ℕ
event_text E1 = 0x45 ∷ 0x31 ∷ []
event_text E2 = 0x45 ∷ 0x32 ∷ []
event_text E3 = 0x45 ∷ 0x33 ∷ []
event_text E4 = 0x45 ∷ 0x34 ∷ []
event_text E5 = 0x45 ∷ 0x35 ∷ []
event_text E6 = 0x45 ∷ 0x36 ∷ []
event_text E7 = 0x45 ∷ 0x37 ∷ []
event_text E8 = 0x45 ∷ 0x38 ∷ []
event_text E9 = 0x45 ∷ 0x39 ∷ []
event_text E10 = 0x45 ∷ 0x31 ∷ 0x30 ∷ []
event_text E11 = 0x45 ∷ 0x31 ∷ 0x31 ∷ []

-- S1 Open, S2 Wait, S3 Lockout
abbrev pub state_text : State → List ℕ
state_text Open = 0x53 ∷ 0x31 ∷ []
state_text Wait = 0x53 ∷ 0x32 ∷ []
state_text Lockout = 0x53 ∷ 0x33 ∷ []

-- a flag: 1 or 0
abbrev pub flag_text : Bool → ℕ
flag_text true = 0x31
flag_text false = 0x30

-- "flags (lockout, wait, retransmit)"
abbrev pub flags_text : Variables → List ℕ
flags_text v = flag_text v.lockout ∷ flag_text v.wait ∷ flag_text v.retransmit ∷ []

-- fields behind each other, a tab between two, a newline at the end
abbrev pub joined : List (List ℕ) → List ℕ
joined [] = newline ∷ []
joined (field ∷ []) = field ++ (newline ∷ [])
joined (field ∷ next ∷ fields) = field ++ (tab ∷ joined (next ∷ fields))

-- REFUSED
abbrev pub refused_text : List ℕ
refused_text = 0x52 ∷ 0x45 ∷ 0x46 ∷ 0x55 ∷ 0x53 ∷ 0x45 ∷ 0x44 ∷ []

-- what is written for a line: "Output fields: event, state, V(R), flags .., counter", or REFUSED, or nothing
unfoldable pub text_of : Output → List ℕ
text_of Nothing = []
text_of Refused = joined (refused_text ∷ [])
text_of (Row event v) = joined (event_text event ∷ state_text v.state ∷ decimal v.vr ∷ flags_text v ∷ decimal v.counter ∷ [])

-- the header: event state vr flags b
abbrev pub header_text : List ℕ
header_text =
    joined
    ((0x65 ∷ 0x76 ∷ 0x65 ∷ 0x6E ∷ 0x74 ∷ [])
    ∷ (0x73 ∷ 0x74 ∷ 0x61 ∷ 0x74 ∷ 0x65 ∷ [])
    ∷ (0x76 ∷ 0x72 ∷ [])
    ∷ (0x66 ∷ 0x6C ∷ 0x61 ∷ 0x67 ∷ 0x73 ∷ [])
    ∷ (0x62 ∷ [])
    ∷ [])

-- a row has 20 octets at the most
abbrev pub row_room : ℕ
row_room = 20
