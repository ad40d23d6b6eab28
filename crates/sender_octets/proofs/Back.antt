-- A state is read back from its octets, octets that are a state are those of one state only, and any others are refused.
use Rattle.std.specs.Prelude.{Option, None, Some}
use mathlib.Core.Path.{◌≡◌, refl, sym, ap, ap₂, ◌∙◌}
use mathlib.Core.Bool.{Bool, true, false}
use mathlib.Core.List.{List}
use Prim.Native.Nat.{ℕ, ◌+◌, ◌*◌, ◌/◌, ◌%◌}
use native.Mathlib.Omega.{arith}
use lib.Dec.{eqb}
use lib.ListN.{length, get_or}
use Rattle.base.specs.Choice.{both}
use Rattle.base.specs.Octets.{same}
use Rattle.base.proofs.Tests.{both_left, no, not_so, bit_le}
use Rattle.base.proofs.Lists.{same_equal, same_self}
use Rattle.base.specs.Flags.{bit_of, is_set}
use Rattle.store.specs.Places.{places}
use Rattle.fop.specs.declared.State.{State}
use Rattle.fop.specs.declared.State.TheVariants as state
use Rattle.sender_values.specs.declared.Control.{Control}
use Rattle.sender_values.specs.declared.Control.TheVariants as control
use Rattle.sender_values.specs.declared.SenderState.{SenderState}
use Rattle.sender_state.specs.State.{well_formed}
use Rattle.std.specs.Prelude.{Err}
use Rattle.base.specs.declared.Refusal.TheVariants.{Setting}
use Rattle.sender_octets.specs.Kept.{layout, number_octets, octets_of, state_in, is_state, sender_in, state_number, state_numbered, control_number, control_value, control_numbered, pairs_from}
use Rattle.sender_octets.proofs.Pairs.{pair_back, pairs_back}
use Rattle.sender_octets.proofs.Parts.{settings_by, variables_by, queues_by, state_by}

-- what the struct's type sees to: it has a length for each place. That its other numbers fit their types is not needed: none is cut on
-- the way to octets, which the contract of `octets_of` says
pub record Sized (s : SenderState) : Type 0 where
  pub lengths : length s.lengths ≡ places

pub state_back : (x : State) → state_numbered (state_number x) ≡ x
state_back state.S1 = refl
state_back state.S2 = refl
state_back state.S3 = refl
state_back state.S4 = refl
state_back state.S5 = refl
state_back state.S6 = refl

control_back : (x : Option Control) → control_numbered (control_number x) (control_value x) ≡ x
control_back None = refl
control_back (Some control.Unlock) = refl
control_back (Some (control.SetVr value)) = refl

-- a flag is read back: the bit of its weight is its bit
flag_back : (n : ℕ) (b : Bool) → n ≡ bit_of b → eqb n 1 ≡ b
flag_back n true e = ap (λ (x : ℕ). eqb x 1) e
flag_back n false e = ap (λ (x : ℕ). eqb x 1) e

-- five flags, each at its weight
abbrev weighed : Bool → Bool → Bool → Bool → Bool → ℕ
weighed a b c d e = bit_of a + bit_of b * 2 + bit_of c * 4 + bit_of d * 8 + bit_of e * 16

flags_back : (a b c d e : Bool)
    → (a ≡ is_set (weighed a b c d e) 1) × (b ≡ is_set (weighed a b c d e) 2) × (c ≡ is_set (weighed a b c d e) 4) × (d ≡ is_set (weighed a b c d e) 8) × (e ≡ is_set (weighed a b c d e) 16)
flags_back a b c d e =
    let n = weighed a b c d e in
    let ha = bit_le a in
    let hb = bit_le b in
    let hc = bit_le c in
    let hd = bit_le d in
    let he = bit_le e in (
      sym (flag_back (n / 1 % 2) a (omega arith)),
      sym (flag_back (n / 2 % 2) b (omega arith)),
      sym (flag_back (n / 4 % 2) c (omega arith)),
      sym (flag_back (n / 8 % 2) d (omega arith)),
      sym (flag_back (n / 16 % 2) e (omega arith)),
    )

module _ (s : SenderState) where
  settings_back : s.settings ≡ (state_in (octets_of s)).settings
  unfolding octets_of
  settings_back =
      settings_by (octets_of s) (sym (pair_back s.settings.t1_initial))
      (sym (pair_back s.settings.spacecraft))

  variables_back : s.variables ≡ (state_in (octets_of s)).variables
  unfolding octets_of
  variables_back =
      let v = s.variables in
      let f = flags_back v.ad_out v.bc_out v.bd_out s.queues.waiting s.queues.control_marked in
      variables_by (octets_of s) (sym (pair_back v.timer)) f.0 f.1 f.2

  module _ (h : Sized s) where
    lengths_back : s.lengths ≡ pairs_from (octets_of s) number_octets places
    unfolding octets_of
    lengths_back = sym (pairs_back (octets_of s) number_octets s.lengths refl) ∙ ap (pairs_from (octets_of s) number_octets) h.lengths

    queues_back : s.queues ≡ (state_in (octets_of s)).queues
    unfolding octets_of
    queues_back =
        let v = s.variables in
        let q = s.queues in
        let f = flags_back v.ad_out v.bc_out v.bd_out q.waiting q.control_marked in
        queues_by (octets_of s) f.3 (sym (control_back q.control)) f.4

    -- the state in the octets of a state is that state
    pub read_back : state_in (octets_of s) ≡ s
    unfolding octets_of
    read_back =
        sym (state_by (octets_of s) (sym (state_back s.state)) settings_back variables_back queues_back lengths_back)

    -- and where the state is well-formed, its octets are a state
    pub octets_back : well_formed s ≡ true → is_state (octets_of s) ≡ true
    unfolding is_state
    octets_back w =
        ap (λ (x : SenderState). both (same (octets_of s) (octets_of x)) (well_formed x)) read_back ∙ ap₂ both (same_self (octets_of s)) w

-- octets that are a state are the octets of the state in them
pub state_only : (o : List ℕ) → is_state o ≡ true → octets_of (state_in o) ≡ o
unfolding is_state
state_only o e = sym (same_equal o (octets_of (state_in o)) (both_left (same o (octets_of (state_in o))) (well_formed (state_in o)) e))

-- octets that are no state give no sender
pub refused_no_state : (o : List ℕ) → is_state o ≡ false → sender_in o ≡ Err Setting
unfolding sender_in
refused_no_state o e = no _ _ _ e

-- octets of another layout are no state, so they are refused with 12: those of layout 1 too
pub other_layout : (o : List ℕ) → (get_or o 1 0 ≡ layout → ⊥) → sender_in o ≡ Err Setting
unfolding octets_of
other_layout o h = refused_no_state o (not_so (is_state o) (λ t. h (sym (ap (λ (x : List ℕ). get_or x 1 0) (state_only o t)))))
