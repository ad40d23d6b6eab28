-- A record of a virtual channel as 9 octets, and a table of records as theirs one behind the other, so that a unit can keep them over a reset.
--
--   0 43 hex      3 channel          6 V(R)
--   1 layout, 1   4 W                7 flags: 4 lockout, 2 wait, 1 retransmit
--   2 state: 1 Open, 2 Wait, 3 Lockout
--                 5 units held       8 FARM-B counter
use Rattle.std.specs.Prelude.{ℕ, zero, suc, ◌+◌, ◌*◌, ◌/◌, ◌%◌, Bool, List, [], ◌∷◌, ◌++◌, eqb, length, get_or, drop}
use Rattle.base.specs.Choice.{both}
use Rattle.base.specs.Octets.{same}
use Rattle.base.specs.Flags.{bit_of, is_set}
use Rattle.receiver.specs.declared.Channel.{Channel}
use Rattle.receiver_octets.specs.Kept.{state_number, state_numbered}

-- the octets of a record
abbrev pub record_octets : ℕ
record_octets = 9

abbrev pub octets_of : Channel → List ℕ
octets_of c =
    0x43 ∷ 1 ∷ state_number c.variables.state ∷ c.number ∷ c.window ∷ c.held ∷ c.variables.vr
    ∷ (bit_of c.variables.lockout * 4 + bit_of c.variables.wait * 2 + bit_of c.variables.retransmit) ∷ c.variables.counter ∷ []

-- the record that the first octets would hold
abbrev pub record_in : List ℕ → Channel
record_in o = record {
  number = get_or o 3 0;
  window = get_or o 4 0;
  held = get_or o 5 0;
  variables = record {
    state = state_numbered (get_or o 2 0);
    vr = get_or o 6 0;
    lockout = is_set (get_or o 7 0) 4;
    wait = is_set (get_or o 7 0) 2;
    retransmit = is_set (get_or o 7 0) 1;
    counter = get_or o 8 0;
  };
}

-- records one behind the other, and back
abbrev pub table_octets : List Channel → List ℕ
table_octets [] = []
table_octets (c ∷ cs) = octets_of c ++ table_octets cs

abbrev pub records_from : ℕ → List ℕ → List Channel
records_from zero o = []
records_from (suc n) o = record_in o ∷ records_from n (drop record_octets o)

abbrev pub records_in : List ℕ → List Channel
records_in o = records_from (length o / record_octets) o

-- octets are a table where they are whole records, each those of the record that they would hold
unfoldable pub is_table : List ℕ → Bool
is_table o = both (eqb (length o % record_octets) 0) (same o (table_octets (records_in o)))
