-- What the pattern of `receiver_in` decides: 12 octets are those of the receiver that they would hold where mark, layout, state and flags are such as are
-- written (`kept`, and what is not: `short` to `beyond_flags`).
use mathlib.Core.Path.{◌≡◌, refl, sym, ap, ◌∙◌}
use mathlib.Core.Bool.{true, false}
use mathlib.Core.List.{List, ◌∷◌}
use Prim.Native.Nat.{ℕ, zero, suc, ◌+◌, ◌*◌, ◌/◌, ◌%◌, ◌<◌, ◌≤◌}
use native.Mathlib.Omega.{arith}
use lib.Dec.{eqb, eqb→eq}
use lib.ListN.{length, drop, get_or, drop_of_length-le}
use lib.Seq.{drop-cons}
use Rattle.base.specs.Octets.{same}
use Rattle.base.specs.Flags.{is_set}
use Rattle.base.proofs.Computed.{tabulate, below}
use Rattle.base.proofs.Lists.{same_equal, same_self, same_length_not}
use Rattle.base.proofs.Tests.{not_so, bit_le}
use Rattle.farm.specs.declared.State.{State}
use Rattle.farm.specs.declared.State.TheVariants.{Open, Wait, Lockout}
use Rattle.receiver_octets.specs.Kept.{state_number, state_numbered, flags_octet, octets_of, receiver_in, is_state}

-- a list from place i on, number by number
listed : (s : List ℕ) (n i : ℕ) → length s ≡ i + n → drop i s ≡ tabulate (λ k. get_or s k 0) n i
listed s zero i e =
    let h : length s ≤ i = omega arith in
    drop_of_length-le s h
listed s (suc n) i e = drop-cons s i 0 (omega arith) ∙ ap (λ (l : List ℕ). get_or s i 0 ∷ l) (listed s n (suc i) (omega arith))

-- what is written for what is read, of a state's number and of flags
pub state_again : (n : ℕ) → 1 ≤ n → n ≤ 3 → n ≡ state_number (state_numbered n)
state_again zero h k = absurd (omega arith)
state_again (suc zero) h k = refl
state_again (suc (suc zero)) h k = refl
state_again (suc (suc (suc zero))) h k = refl
state_again (suc (suc (suc (suc n)))) h k = absurd (omega arith)

pub flags_again : (n : ℕ) → n < 8 → n ≡ flags_octet (is_set n 4) (is_set n 2) (is_set n 1)
flags_again n h = eqb→eq n (flags_octet (is_set n 4) (is_set n 2) (is_set n 1)) (below (λ m. eqb m (flags_octet (is_set m 4) (is_set m 2) (is_set m 1))) 8 tt n h)

pub state_low : (s : State) → 1 ≤ state_number s
state_low Open = omega arith
state_low Wait = omega arith
state_low Lockout = omega arith

pub state_high : (s : State) → state_number s ≤ 3
state_high Open = omega arith
state_high Wait = omega arith
state_high Lockout = omega arith

-- what octets have that are those of the receiver that they would hold
pub record Marked (o : List ℕ) : Type 0 where
  pub mark : get_or o 0 0 ≡ 0x52
  pub layout : get_or o 1 0 ≡ 1
  pub low : 1 ≤ get_or o 2 0
  pub high : get_or o 2 0 ≤ 3
  pub flags : get_or o 10 0 < 8

module _ (o : List ℕ) where
  pub kept_marked : same o (octets_of (receiver_in o)) ≡ true → Marked o
  unfolding octets_of
  kept_marked e =
      let r = receiver_in o in
      let at : (i : ℕ) → get_or o i 0 ≡ get_or (octets_of r) i 0 = λ i. ap (λ (l : List ℕ). get_or l i 0) (same_equal o (octets_of r) e) in
      let v = r.farm.channel.variables in
      record {
        mark = at 0;
        layout = at 1;
        low = omega (arith, at 2, state_low v.state);
        high = omega (arith, at 2, state_high v.state);
        flags = omega (arith, at 10, bit_le v.lockout, bit_le v.wait, bit_le v.retransmit);
      }

  pub not_kept : (Marked o → ⊥) → same o (octets_of (receiver_in o)) ≡ false
  not_kept h = not_so (same o (octets_of (receiver_in o))) (λ e. h (kept_marked e))

  -- octets that are no state, by the first that is not as it is written
  is_not : same o (octets_of (receiver_in o)) ≡ false → is_state o ≡ false
  unfolding is_state
  is_not e = rw e refl

  pub bad_length : (length o ≡ 12 → ⊥) → is_state o ≡ false
  unfolding octets_of
  bad_length h = is_not (same_length_not o (octets_of (receiver_in o)) h)

  pub short : length o < 12 → is_state o ≡ false
  short h = bad_length (λ e. omega (arith, h, e))

  pub long : 12 < length o → is_state o ≡ false
  long h = bad_length (λ e. omega (arith, h, e))

  pub other_mark : (get_or o 0 0 ≡ 0x52 → ⊥) → is_state o ≡ false
  other_mark h = is_not (not_kept (λ m. h m.mark))

  pub other_layout : (get_or o 1 0 ≡ 1 → ⊥) → is_state o ≡ false
  other_layout h = is_not (not_kept (λ m. h m.layout))

  pub no_state : get_or o 2 0 < 1 → is_state o ≡ false
  no_state h = is_not (not_kept (λ m. omega (arith, m.low)))

  pub beyond_state : 3 < get_or o 2 0 → is_state o ≡ false
  beyond_state h = is_not (not_kept (λ m. omega (arith, m.high)))

  pub beyond_flags : 7 < get_or o 10 0 → is_state o ≡ false
  beyond_flags h = is_not (not_kept (λ m. omega (arith, m.flags)))

  -- and octets that are as they are written
  written : length o ≡ 12 → ((i : ℕ) → get_or o i 0 < 256) → Marked o → o ≡ octets_of (receiver_in o)
  unfolding octets_of receiver_in
  written twelve octet m =
      let s = state_again (get_or o 2 0) m.low m.high in
      let f = flags_again (get_or o 10 0) m.flags in
      let h : get_or o 3 0 ≡ (get_or o 3 0 * 256 + get_or o 4 0) / 256 = omega (arith, octet 4) in
      let l : get_or o 4 0 ≡ (get_or o 3 0 * 256 + get_or o 4 0) % 256 = omega (arith, octet 4) in
      let a = m.mark in
      let b = m.layout in
      listed o 12 0 twelve ∙ cc

  pub kept : length o ≡ 12 → ((i : ℕ) → get_or o i 0 < 256) → Marked o → same o (octets_of (receiver_in o)) ≡ true
  kept twelve octet m = ap (same o) (sym (written twelve octet m)) ∙ same_self o
