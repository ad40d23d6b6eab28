-- The receiver's state as 12 octets, so that a unit can keep it over a reset.
--
--   0 52 hex      3-4 spacecraft, the most significant octet first     8 buffers taken
--   1 layout, 1   5 channel                                            9 V(R)
--   2 state: 1 Open, 2 Wait, 3 Lockout                                 10 flags: 4 lockout, 2 wait, 1 retransmit
--                 6 W, 7 buffers                                       11 FARM-B counter
use Rattle.std.specs.Prelude.{ℕ, ◌+◌, ◌*◌, ◌/◌, ◌%◌, Bool, List, [], ◌∷◌, eqb, get_or, Result, Ok, Err}
use Rattle.base.specs.Choice.{pick, must, both}
use Rattle.base.specs.Octets.{same}
use Rattle.base.specs.Flags.{bit_of, is_set}
use Rattle.farm.specs.declared.State.{State}
use Rattle.farm.specs.declared.State.TheVariants.{Open, Wait, Lockout}
use Rattle.receiver.specs.State.{well_formed}
use Rattle.receiver.specs.declared.Receiver.{Receiver}
use Rattle.base.specs.declared.Refusal.{Refusal}
use Rattle.base.specs.declared.Refusal.TheVariants.{Setting}
use Rattle.farm.specs.declared.Variables.{Variables}

-- the octets of a state
abbrev pub state_octets : ℕ
state_octets = 12

-- S1 to S3 of table 7-9 by number
abbrev pub state_number : State → ℕ
state_number Open = 1
state_number Wait = 2
state_number Lockout = 3

-- and back; any other number as Lockout
abbrev pub state_numbered : ℕ → State
state_numbered n = pick (eqb n 1) Open (pick (eqb n 2) Wait Lockout)

-- the flags as an octet
abbrev pub flags_octet : Bool → Bool → Bool → ℕ
flags_octet lockout wait retransmit = bit_of lockout * 4 + bit_of wait * 2 + bit_of retransmit

-- the variables that octets hold: the state's, V(R), the flags' and the counter
abbrev pub variables_in : ℕ → ℕ → ℕ → ℕ → Variables
variables_in state vr flags counter = record {
  state = state_numbered state;
  vr = vr;
  lockout = is_set flags 4;
  wait = is_set flags 2;
  retransmit = is_set flags 1;
  counter = counter;
}

-- a receiver as octets
unfoldable pub octets_of : Receiver → List ℕ
octets_of r =
    0x52 ∷ 1 ∷ state_number r.farm.channel.variables.state ∷ r.farm.spacecraft / 256 ∷ r.farm.spacecraft % 256 ∷ r.farm.channel.number
    ∷ r.farm.channel.window ∷ r.farm.buffers ∷ r.farm.channel.held ∷ r.farm.channel.variables.vr
    ∷ (bit_of r.farm.channel.variables.lockout * 4 + bit_of r.farm.channel.variables.wait * 2 + bit_of r.farm.channel.variables.retransmit)
    ∷ r.farm.channel.variables.counter
    ∷ []

-- the receiver that octets would hold
unfoldable pub receiver_in : List ℕ → Receiver
receiver_in o = record {
  farm = record {
    spacecraft = get_or o 3 0 * 256 + get_or o 4 0;
    buffers = get_or o 7 0;
    channel = record {
      number = get_or o 5 0;
      window = get_or o 6 0;
      held = get_or o 8 0;
      variables = record {
        state = state_numbered (get_or o 2 0);
        vr = get_or o 9 0;
        lockout = is_set (get_or o 10 0) 4;
        wait = is_set (get_or o 10 0) 2;
        retransmit = is_set (get_or o 10 0) 1;
        counter = get_or o 11 0;
      };
    };
  };
}

-- octets are a state where they are those of the receiver that they would hold, and that is well-formed
unfoldable pub is_state : List ℕ → Bool
is_state o = both (same o (octets_of (receiver_in o))) (well_formed (receiver_in o).farm)

-- a receiver from octets; 12 where they are no state
unfoldable pub restored_of : List ℕ → Result Receiver Refusal
restored_of o = pick (is_state o) (Ok (receiver_in o)) (Err Setting)

-- and document 01's number of it
abbrev pub restore_refusal : List ℕ → ℕ
restore_refusal o = must (is_state o) 12 0
