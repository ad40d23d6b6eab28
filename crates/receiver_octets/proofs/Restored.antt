-- What is kept over a reset comes back: the octets of every well-formed receiver are a state and hold that receiver (`octets_back`); a state is the
-- octets of the receiver that it holds, and of no other (`state_only`); and that receiver is well-formed (`restored_well`).
use Rattle.std.specs.Prelude.{Result, Ok, Err}
use mathlib.Core.Path.{◌≡◌, refl, sym, ap, ◌∙◌}
use mathlib.Core.Bool.{Bool, true, false}
use mathlib.Core.List.{List}
use Prim.Native.Nat.{ℕ}
use native.Mathlib.Nat.{div-add-mod'}
use Rattle.base.specs.Choice.{pick, must}
use Rattle.base.specs.Octets.{Octets, same}
use Rattle.base.specs.Flags.{is_set}
use Rattle.base.proofs.Lists.{octets_at_lem, same_equal, same_self}
use Rattle.base.proofs.Tests.{both_left, both_right}
use Rattle.farm.specs.declared.State.{State}
use Rattle.farm.proofs.Cells.{by_state}
use Rattle.receiver.specs.declared.Receiver.{Receiver}
use Rattle.receiver.specs.declared.ReceiverState.{ReceiverState}
use Rattle.base.specs.declared.Refusal.{Refusal}
use Rattle.base.specs.declared.Refusal.TheVariants.{Setting}
use Rattle.base.specs.Refusals.{result_number}
use Rattle.receiver.specs.State.{well_formed}
use Rattle.receiver.specs.State as restored
use Rattle.receiver.proofs.Kept.{WellFormed}
use Rattle.receiver.proofs.Restored.{well_formed_lem, was_well_formed}
use Rattle.receiver_octets.specs.Kept.{state_number, state_numbered, flags_octet, octets_of, receiver_in, is_state, restored_of, restore_refusal}

-- a state by its number, and flags by their octet
pub numbered_back : (s : State) → state_numbered (state_number s) ≡ s
numbered_back = by_state (λ (s : State). state_numbered (state_number s) ≡ s) refl refl refl

pub flags_back : (l w t : Bool) → (is_set (flags_octet l w t) 4 ≡ l) × (is_set (flags_octet l w t) 2 ≡ w) × (is_set (flags_octet l w t) 1 ≡ t)
flags_back true true true = (refl, refl, refl)
flags_back true true false = (refl, refl, refl)
flags_back true false true = (refl, refl, refl)
flags_back true false false = (refl, refl, refl)
flags_back false true true = (refl, refl, refl)
flags_back false true false = (refl, refl, refl)
flags_back false false true = (refl, refl, refl)
flags_back false false false = (refl, refl, refl)

-- every receiver is the one that its octets hold
pub receiver_back : (r : Receiver) → receiver_in (octets_of r) ≡ r
unfolding octets_of receiver_in
receiver_back r =
    let v = r.farm.channel.variables in
    let f = flags_back v.lockout v.wait v.retransmit in
    rw (div-add-mod' r.farm.spacecraft 256, numbered_back v.state, f.0, f.1, f.2)

-- the octets of a well-formed receiver are a state, and hold that receiver
pub octets_back : (r : Receiver) → WellFormed r → (is_state (octets_of r) ≡ true) × (receiver_in (octets_of r) ≡ r)
unfolding is_state
octets_back r h = (rw (receiver_back r, same_self (octets_of r)) (well_formed_lem r h), receiver_back r)

-- a state is the octets of the receiver that it holds
pub state_only : (o : List ℕ) → is_state o ≡ true → octets_of (receiver_in o) ≡ o
unfolding is_state
state_only o e = sym (same_equal o (octets_of (receiver_in o)) (both_left _ _ e))

-- and that receiver is well-formed
pub restored_well : (o : List ℕ) → is_state o ≡ true → Octets o → WellFormed (receiver_in o)
unfolding is_state receiver_in
restored_well o e h = was_well_formed (receiver_in o) (both_right (same o (octets_of (receiver_in o))) _ e) (octets_at_lem o h 9)

-- what is restored of octets that are no state, by value and by number
module _ (o : List ℕ) where
  pub refused_value : is_state o ≡ false → Err Setting ≡ restored_of o
  unfolding restored_of
  refused_value e = rw e refl

  pub refused_number : is_state o ≡ false → 12 ≡ restore_refusal o
  refused_number e = rw e refl

  pub restored_number : (x : Result Receiver Refusal) → x ≡ restored_of o → result_number x ≡ restore_refusal o
  unfolding restored_of
  restored_number x e = ap result_number e ∙ numbered (is_state o)
    where
      numbered : (b : Bool) → result_number (pick b (Ok (receiver_in o)) (Err Setting)) ≡ must b 12 0
      numbered true = refl
      numbered false = refl

  -- and of those that are as they are written
  pub restored_is : same o (octets_of (receiver_in o)) ≡ true → (s : ReceiverState) (x : Result Receiver Refusal) → s ≡ (receiver_in o).farm → x ≡ restored.restored_of s
      → x ≡ restored_of o
  unfolding restored_of is_state restored.restored_of
  restored_is k s x p q = q ∙ ap restored.restored_of p ∙ rw k refl
