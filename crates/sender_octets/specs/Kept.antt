-- The sender's state as octets, so that a unit can keep it over a reset. Numbers of two octets have the most significant first.
--
--   0 53 hex          8-9 spacecraft     15 Transmission_Count                          18 units sent
--   1 layout, 2       10 channel         16 flags: 1 AD_Out, 2 BC_Out, 4 BD_Out Ready,   19 of these marked
--   2 state, 1 to 6   11 V(S)               8 a unit waits, 16 type-BC frame marked      20 type-BC frame: 0 none, 1 Unlock, 2 Set V(R)
--   3 K               12 NN(R)           17 Suspend_State                               21 its value
--   4-5 T1_Initial    13-14 timer                                                       22 on: the length of the unit at each place, two octets each
--   6 Transmission_Limit, 7 Timeout_Type
--
-- Layout 1 had 33 places, of units to 249 octets (before document 02's order 7): its octets are no state.
use Rattle.std.specs.Prelude.{ℕ, zero, suc, ◌+◌, ◌*◌, ◌/◌, ◌%◌, Bool, List, [], ◌∷◌, eqb, get_or, Option, None, Some, Result, Err}
use Rattle.base.specs.Choice.{pick, both}
use Rattle.base.specs.Octets.{same}
use Rattle.base.specs.Flags.{bit_of, is_set}
use Rattle.base.specs.declared.Refusal.{Refusal}
use Rattle.base.specs.declared.Refusal.TheVariants.{Setting}
use Rattle.store.specs.Places.{places}
use Rattle.fop.specs.declared.State.{State}
use Rattle.fop.specs.declared.State.TheVariants as state
use Rattle.sender_values.specs.declared.Control.{Control}
use Rattle.sender_values.specs.declared.Control.TheVariants as control
use Rattle.sender_values.specs.declared.SenderState.{SenderState}
use Rattle.sender_state.specs.State.{well_formed}
use Rattle.sender.specs.Start.{restored_of}
use Rattle.sender.specs.declared.Sender.{Sender}

-- the number of this layout
abbrev pub layout : ℕ
layout = 2

-- the octets of a state before its lengths
abbrev pub number_octets : ℕ
number_octets = 22

-- the octets of a state: two more for each length
abbrev pub state_octets : ℕ
state_octets = number_octets + 2 * places

-- S1 to S6 by number
abbrev pub state_number : State → ℕ
state_number state.S1 = 1
state_number state.S2 = 2
state_number state.S3 = 3
state_number state.S4 = 4
state_number state.S5 = 5
state_number state.S6 = 6

-- and back; any other number as S6
abbrev pub state_numbered : ℕ → State
state_numbered n =
    pick (eqb n 1) state.S1 (pick (eqb n 2) state.S2 (pick (eqb n 3) state.S3 (pick (eqb n 4) state.S4 (pick (eqb n 5) state.S5 state.S6))))

-- the type-BC frame on the Sent_Queue by number
abbrev pub control_number : Option Control → ℕ
control_number None = 0
control_number (Some control.Unlock) = 1
control_number (Some (control.SetVr value)) = 2

-- and V*(R), the value that a Set V(R) carries
abbrev pub control_value : Option Control → ℕ
control_value None = 0
control_value (Some control.Unlock) = 0
control_value (Some (control.SetVr value)) = value

-- and back; any other number as none
abbrev pub control_numbered : ℕ → ℕ → Option Control
control_numbered n value = pick (eqb n 1) (Some control.Unlock) (pick (eqb n 2) (Some (control.SetVr value)) None)

-- numbers as two octets each, the most significant first
abbrev pub pairs : List ℕ → List ℕ
pairs [] = []
pairs (x ∷ xs) = x / 256 ∷ x % 256 ∷ pairs xs

-- the number of two octets at a place
abbrev pub pair_at : List ℕ → ℕ → ℕ
pair_at octets i = get_or octets i 0 * 256 + get_or octets (i + 1) 0

-- n such numbers from place i on
abbrev pub pairs_from : List ℕ → ℕ → ℕ → List ℕ
pairs_from octets i zero = []
pairs_from octets i (suc n) = pair_at octets i ∷ pairs_from octets (i + 2) n

-- the flags in one octet
abbrev pub flags_of : SenderState → ℕ
flags_of s =
    bit_of s.variables.ad_out + bit_of s.variables.bc_out * 2 + bit_of s.variables.bd_out * 4 + bit_of s.queues.waiting * 8
    + bit_of s.queues.control_marked * 16

-- a state as octets
unfoldable pub octets_of : SenderState → List ℕ
octets_of s =
    0x53 ∷ layout ∷ state_number s.state
    ∷ s.settings.k ∷ s.settings.t1_initial / 256 ∷ s.settings.t1_initial % 256 ∷ s.settings.transmission_limit ∷ s.settings.timeout_type
    ∷ s.settings.spacecraft / 256 ∷ s.settings.spacecraft % 256 ∷ s.settings.channel
    ∷ s.variables.vs ∷ s.variables.nnr ∷ s.variables.timer / 256 ∷ s.variables.timer % 256 ∷ s.variables.transmission_count
    ∷ flags_of s ∷ s.variables.suspend_state
    ∷ s.queues.sent ∷ s.queues.marked ∷ control_number s.queues.control ∷ control_value s.queues.control
    ∷ pairs s.lengths

-- the state that octets would hold
unfoldable pub state_in : List ℕ → SenderState
state_in o = record {
  state = state_numbered (get_or o 2 0);
  settings = record {
    k = get_or o 3 0;
    t1_initial = pair_at o 4;
    transmission_limit = get_or o 6 0;
    timeout_type = get_or o 7 0;
    spacecraft = pair_at o 8;
    channel = get_or o 10 0;
  };
  variables = record {
    vs = get_or o 11 0;
    nnr = get_or o 12 0;
    timer = pair_at o 13;
    transmission_count = get_or o 15 0;
    ad_out = is_set (get_or o 16 0) 1;
    bc_out = is_set (get_or o 16 0) 2;
    bd_out = is_set (get_or o 16 0) 4;
    suspend_state = get_or o 17 0;
  };
  queues = record {
    sent = get_or o 18 0;
    marked = get_or o 19 0;
    waiting = is_set (get_or o 16 0) 8;
    control = control_numbered (get_or o 20 0) (get_or o 21 0);
    control_marked = is_set (get_or o 16 0) 16;
  };
  lengths = pairs_from o number_octets places;
}

-- octets are a state where they are those of the state that they would hold, and that is well-formed
unfoldable pub is_state : List ℕ → Bool
is_state o = both (same o (octets_of (state_in o))) (well_formed (state_in o))

-- a sender from octets; 12 where they are no state
unfoldable pub sender_in : List ℕ → Result Sender Refusal
sender_in o = pick (is_state o) (restored_of (state_in o)) (Err Setting)
