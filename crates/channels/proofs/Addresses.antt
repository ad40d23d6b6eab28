-- How the refusal of octets goes by the address at which they are read: a channel that is there is read at its own; one that is not there at an address that no
-- frame has, so it is refused (`absent_refused`), and with 7 where its own address would take it or refuse it with 9 (`absent_seven`).
use mathlib.Core.Path.{◌≡◌, refl, sym, ap, ◌∙◌}
use mathlib.Core.Logic.{◌⊎◌, ⊎_elim}
use mathlib.Core.Bool.{Bool, true, false}
use mathlib.Core.List.{List}
use Prim.Native.Nat.{ℕ, ◌+◌, ◌≤◌}
use native.Mathlib.Omega.{arith}
use borrow.Author.Tests.{leb-true, ne_eqb}
use lib.Dec.{leb, eqb}
use lib.ListN.{length, take}
use Rattle.base.specs.Choice.{must}
use Rattle.base.specs.Fields.{field_at}
use Rattle.base.specs.Limits.{smallest_frame}
use Rattle.base.specs.Octets.{Octets}
use Rattle.base.proofs.Lists.{octets_at_lem}
use Rattle.fecf.specs.Fecf.{syndrome_of}
use Rattle.frame_header.specs.Header.{spacecraft_identifier, valid_header}
use Rattle.frame_header.proofs.Octets.{channel_is}
use Rattle.frame.specs.Frame.{total_of, header_refusal, content_refusal, refusal_of}
use Rattle.frame.proofs.Back.{own_beyond}
use Rattle.receiver.specs.declared.Channel.{Channel}
use Rattle.channels.specs.Table.{is_in, no_channel, addressed}
use Rattle.channels.specs.Isolation.{named}

-- of the address only this is looked at
pub same_address : (octets : List ℕ) (spacecraft n n' : ℕ) → eqb (named octets) n ≡ eqb (named octets) n' → refusal_of octets spacecraft n ≡ refusal_of octets spacecraft n'
unfolding refusal_of content_refusal header_refusal
same_address octets spacecraft n n' e = rw e

-- the checks before it hold: 4, 5, 8 and 6, and of 7 the spacecraft's
instead : (t : Bool) (number on on' x y : ℕ) → (number ≡ y → ⊥) → (on ≡ y → on' ≡ x) → must t number on ≡ y → must t number on' ≡ x
instead true number on on' x y d k e = k e
instead false number on on' x y d k e = absurd (d e)

other_channel : (octets : List ℕ) (spacecraft n y : ℕ) → ((k : ℕ) → 4 ≤ k → k ≤ 8 → k ≡ y → ⊥) → refusal_of octets spacecraft (named octets) ≡ y
    → (named octets ≡ n → ⊥) → refusal_of octets spacecraft n ≡ 7
unfolding refusal_of content_refusal header_refusal
other_channel octets spacecraft n y far z d =
    instead (leb smallest_frame (length octets)) 4 _ _ 7 y (far 4 (omega arith) (omega arith))
    (instead (leb smallest_frame (total_of octets)) 4 _ _ 7 y (far 4 (omega arith) (omega arith))
    (instead (leb (total_of octets) (length octets)) 4 _ _ 7 y (far 4 (omega arith) (omega arith))
    (instead (leb (length octets) (total_of octets + 6)) 5 _ _ 7 y (far 5 (omega arith) (omega arith))
    (instead (eqb (syndrome_of (take (total_of octets) octets)) 0) 8 _ _ 7 y (far 8 (omega arith) (omega arith))
    (instead (valid_header octets) 6 _ _ 7 y (far 6 (omega arith) (omega arith))
    (instead (eqb (field_at spacecraft_identifier octets) spacecraft) 7 _ _ 7 y (far 7 (omega arith) (omega arith)) (λ e. rw (ne_eqb (named octets) n d)))))))) z

module _ (cs : List Channel) (octets : List ℕ) where
  pub addressed_there : is_in (named octets) cs ≡ true → addressed cs octets ≡ named octets
  addressed_there e = rw e

  pub addressed_absent : is_in (named octets) cs ≡ false → addressed cs octets ≡ no_channel
  addressed_absent e = rw e

  module _ (spacecraft : ℕ) (lent : Octets octets) where
    pub absent_refused : is_in (named octets) cs ≡ false → refusal_of octets spacecraft (addressed cs octets) ≡ 0 → ⊥
    absent_refused e z = (own_beyond octets spacecraft no_channel lent).1 (omega arith) (sym (ap (refusal_of octets spacecraft) (addressed_absent e)) ∙ z)

    -- what is not too short names a channel within its limit
    within : leb smallest_frame (length octets) ≡ true → named octets ≡ no_channel → ⊥
    within p e =
        let l = leb-true smallest_frame (length octets) p in
        omega (arith, channel_is octets (octets_at_lem octets lent) (omega arith), octets_at_lem octets lent 2)

    -- an address that octets do not name refuses them as the one that no frame has
    pub elsewhere_alike : (n : ℕ) → (named octets ≡ n → ⊥) → refusal_of octets spacecraft no_channel ≡ refusal_of octets spacecraft n
    unfolding refusal_of
    elsewhere_alike n d = go (leb smallest_frame (length octets)) refl
      where
        go : (t : Bool) → leb smallest_frame (length octets) ≡ t → refusal_of octets spacecraft no_channel ≡ refusal_of octets spacecraft n
        go true p = same_address octets spacecraft no_channel n (ne_eqb (named octets) no_channel (within p) ∙ sym (ne_eqb (named octets) n d))
        go false p = rw p

    beyond : (y : ℕ) → (4 ≡ y → ⊥) → refusal_of octets spacecraft (named octets) ≡ y → named octets ≡ no_channel → ⊥
    unfolding refusal_of
    beyond y far z = go _ (leb smallest_frame (length octets)) refl z
      where
        go : (on : ℕ) (t : Bool) → leb smallest_frame (length octets) ≡ t → must t 4 on ≡ y → named octets ≡ no_channel → ⊥
        go on true p q = within p
        go on false p q = λ e. far q

    -- 7 is judged before 9
    pub absent_seven : is_in (named octets) cs ≡ false → (refusal_of octets spacecraft (named octets) ≡ 0) ⊎ (refusal_of octets spacecraft (named octets) ≡ 9)
        → refusal_of octets spacecraft (addressed cs octets) ≡ 7
    absent_seven e z = ap (refusal_of octets spacecraft) (addressed_absent e)
        ∙ ⊎_elim (other 0 (λ k a b c. omega arith)) (other 9 (λ k a b c. omega arith)) z
      where
        other : (y : ℕ) → ((k : ℕ) → 4 ≤ k → k ≤ 8 → k ≡ y → ⊥) → refusal_of octets spacecraft (named octets) ≡ y → refusal_of octets spacecraft no_channel ≡ 7
        other y far q = other_channel octets spacecraft no_channel y far q (beyond y (far 4 (omega arith) (omega arith)) q)
