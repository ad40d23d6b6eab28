-- What the tests of `is_record` decide: nine octets are those of the record that they would hold where mark, layout, state and flags are such as are
-- written (`record_is`).
use mathlib.Core.Path.{◌≡◌, refl, sym, ap, ◌∙◌}
use mathlib.Core.Bool.{Bool, true, false}
use mathlib.Core.List.{List, [], ◌∷◌}
use Prim.Native.Nat.{ℕ, ◌<◌, ◌≤◌}
use native.Mathlib.Omega.{arith}
use borrow.Author.Tests.{ltb-true, ltb-false}
use lib.Dec.{ltb}
use lib.ListN.{length, take, get_or}
use Rattle.base.specs.Octets.{same}
use Rattle.base.proofs.Lists.{same_equal, same_self, take_next}
use Rattle.base.proofs.Tests.{not_so, bit_le}
use Rattle.receiver_octets.proofs.Judged.{state_again, flags_again, state_low, state_high}
use Rattle.channel_octets.specs.Kept.{record_octets, octets_of, record_in}

-- what octets have that begin with those of the record that they would hold
pub record Marked (o : List ℕ) : Type 0 where
  pub mark : get_or o 0 0 ≡ 0x43
  pub layout : get_or o 1 0 ≡ 1
  pub low : 1 ≤ get_or o 2 0
  pub high : get_or o 2 0 ≤ 3
  pub flags : get_or o 7 0 < 8

module _ (o : List ℕ) (long : record_octets ≤ length o) where
  -- the first nine, number by number
  nine : take record_octets o
      ≡ get_or o 0 0 ∷ get_or o 1 0 ∷ get_or o 2 0 ∷ get_or o 3 0 ∷ get_or o 4 0 ∷ get_or o 5 0 ∷ get_or o 6 0 ∷ get_or o 7 0 ∷ get_or o 8 0 ∷ []
  nine =
      take_next o 8 0 (omega arith)
      ∙ ap (λ (l : List ℕ). get_or o 0 0 ∷ l) (take_next o 7 1 (omega arith)
      ∙ ap (λ (l : List ℕ). get_or o 1 0 ∷ l) (take_next o 6 2 (omega arith)
      ∙ ap (λ (l : List ℕ). get_or o 2 0 ∷ l) (take_next o 5 3 (omega arith)
      ∙ ap (λ (l : List ℕ). get_or o 3 0 ∷ l) (take_next o 4 4 (omega arith)
      ∙ ap (λ (l : List ℕ). get_or o 4 0 ∷ l) (take_next o 3 5 (omega arith)
      ∙ ap (λ (l : List ℕ). get_or o 5 0 ∷ l) (take_next o 2 6 (omega arith)
      ∙ ap (λ (l : List ℕ). get_or o 6 0 ∷ l) (take_next o 1 7 (omega arith)
      ∙ ap (λ (l : List ℕ). get_or o 7 0 ∷ l) (take_next o 0 8 (omega arith)))))))))

  record_marked : same (take record_octets o) (octets_of (record_in o)) ≡ true → Marked o
  record_marked e =
      let c = record_in o in
      let at : (i : ℕ) → get_or (take record_octets o) i 0 ≡ get_or (octets_of c) i 0 =
      λ i. ap (λ (l : List ℕ). get_or l i 0) (same_equal (take record_octets o) (octets_of c) e) in
      let own : (i : ℕ) → get_or (take record_octets o) i 0 ≡ get_or (get_or o 0 0 ∷ get_or o 1 0 ∷ get_or o 2 0 ∷ get_or o 3 0 ∷ get_or o 4 0 ∷ get_or o 5 0 ∷ get_or o 6 0 ∷ get_or o 7 0 ∷ get_or o 8 0 ∷ []) i 0 =
      λ i. ap (λ (l : List ℕ). get_or l i 0) nine in
      let v = c.variables in
      record {
        mark = sym (own 0) ∙ at 0;
        layout = sym (own 1) ∙ at 1;
        low = omega (arith, own 2, at 2, state_low v.state);
        high = omega (arith, own 2, at 2, state_high v.state);
        flags = omega (arith, own 7, at 7, bit_le v.lockout, bit_le v.wait, bit_le v.retransmit);
      }

  pub not_record : (Marked o → ⊥) → same (take record_octets o) (octets_of (record_in o)) ≡ false
  not_record h = not_so (same (take record_octets o) (octets_of (record_in o))) (λ e. h (record_marked e))

  marked_record : Marked o → take record_octets o ≡ octets_of (record_in o)
  marked_record m =
      let s = state_again (get_or o 2 0) m.low m.high in
      let f = flags_again (get_or o 7 0) m.flags in
      let a = m.mark in
      let b = m.layout in
      nine ∙ cc

  pub record_is : get_or o 0 0 ≡ 0x43 → get_or o 1 0 ≡ 1 → 1 ≤ get_or o 2 0 → get_or o 2 0 ≤ 3
      → ltb (get_or o 7 0) 8 ≡ same (take record_octets o) (octets_of (record_in o))
  record_is a b l h = go (ltb (get_or o 7 0) 8) refl
    where
      go : (t : Bool) → ltb (get_or o 7 0) 8 ≡ t → t ≡ same (take record_octets o) (octets_of (record_in o))
      go true e =
          let k = marked_record (record { mark = a; layout = b; low = l; high = h; flags = ltb-true (get_or o 7 0) 8 e }) in
          sym (ap (same (take record_octets o)) (sym k) ∙ same_self (take record_octets o))
      go false e =
          let f = ltb-false (get_or o 7 0) 8 e in
          sym (not_record (λ m. omega (arith, m.flags)))
