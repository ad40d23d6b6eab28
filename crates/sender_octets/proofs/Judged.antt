-- Octets judged: by their length, by the state that they would hold, then by that state.
use mathlib.Core.Path.{◌≡◌, refl, sym, ap, ap₂, ◌∙◌}
use mathlib.Core.Bool.{Bool, true, false}
use mathlib.Core.List.{List, [], ◌∷◌, ◌++◌}
use Prim.Native.Nat.{ℕ}
use native.Mathlib.Omega.{arith}
use lib.Dec.{eqb}
use lib.ListN.{length, take, drop, take-append-drop}
use lib.Seq.{length-take-le}
use Rattle.std.specs.Prelude.{Result, Err}
use Rattle.base.specs.declared.Refusal.{Refusal}
use Rattle.base.specs.declared.Refusal.TheVariants.{Setting}
use Rattle.base.specs.Choice.{pick, both}
use Rattle.base.specs.Octets.{Octets, same}
use Rattle.base.proofs.Lists.{same_length_not, same_self}
use Rattle.base.proofs.Tests.{no}
use Rattle.store.specs.Places.{places}
use Rattle.sender_values.specs.declared.SenderState.{SenderState}
use Rattle.sender_state.specs.State.{well_formed}
use Rattle.sender.specs.Start.{restored_of}
use Rattle.sender.specs.declared.Sender.{Sender}
use Rattle.sender_octets.specs.Kept.{number_octets, state_octets, octets_of, state_in, is_state, sender_in, pairs}
use Rattle.sender_octets.proofs.Pairs.{length_pairs, length_from, pairs_from_lem}

pub length_octets : (s : SenderState) → length s.lengths ≡ places → length (octets_of s) ≡ state_octets
unfolding octets_of
length_octets s h = omega (arith, length_pairs s.lengths)

-- a state that is not well-formed is refused where it is restored
twice : {A : Type 0} (b : Bool) (x y : A) → pick b x y ≡ pick b (pick b x y) y
twice true x y = refl
twice false x y = refl

restored_where : (s : SenderState) → restored_of s ≡ pick (well_formed s) (restored_of s) (Err Setting)
unfolding restored_of
restored_where s = twice (well_formed s) _ _

-- two lists with the same end are the same where what is before it is
same_append : (a b end : List ℕ) → length a ≡ length b → same (a ++ end) (b ++ end) ≡ same a b
same_append [] [] end l = same_self end
same_append [] (y ∷ b) end l = absurd (omega arith)
same_append (x ∷ a) [] end l = absurd (omega arith)
same_append (x ∷ a) (y ∷ b) end l = ap (both (eqb x y)) (same_append a b end (omega arith))

module _ (o : List ℕ) where
  length_in : length (octets_of (state_in o)) ≡ state_octets
  unfolding state_in
  length_in = length_octets (state_in o) (length_from o number_octets places)

  pub no_length : (length o ≡ state_octets → ⊥) → same o (octets_of (state_in o)) ≡ false
  no_length h = same_length_not o (octets_of (state_in o)) (λ e. h (e ∙ length_in))

  pub no_state : {r : Result Sender Refusal} → same o (octets_of (state_in o)) ≡ false → r ≡ Err Setting → r ≡ sender_in o
  unfolding sender_in is_state
  no_state d e = e ∙ sym (no _ _ _ (ap (λ (b : Bool). both b (well_formed (state_in o))) d))

  pub judged : {r : Result Sender Refusal} → same o (octets_of (state_in o)) ≡ true → r ≡ restored_of (state_in o) → r ≡ sender_in o
  unfolding sender_in is_state
  judged d e = e ∙ restored_where (state_in o) ∙ sym (ap (λ (b : Bool). pick (both b (well_formed (state_in o))) (restored_of (state_in o)) (Err Setting)) d)

  -- the comparison that the code makes, of the numbers of the state that it read: the lengths are always those that stand there
  pub compared : {s : SenderState} (n : List ℕ) {b c : Bool} → Octets o → length o ≡ state_octets → s ≡ state_in o → n ++ pairs s.lengths ≡ octets_of s
      → length n ≡ number_octets → b ≡ same (take number_octets o) n → b ≡ c → same o (octets_of (state_in o)) ≡ c
  unfolding state_in
  compared {s} n {b} {c} octets l es en ln eb e =
      let t : length (take number_octets o) ≡ length n = length-take-le number_octets o (omega arith) ∙ sym ln in
      let w : octets_of (state_in o) ≡ n ++ drop number_octets o =
      ap octets_of (sym es) ∙ sym en ∙ ap (λ (x : SenderState). n ++ pairs x.lengths) es ∙ ap (λ (x : List ℕ). n ++ x) (sym (pairs_from_lem o number_octets places octets l)) in
      ap₂ same (sym (take-append-drop number_octets o)) w
      ∙ same_append (take number_octets o) n (drop number_octets o) t
      ∙ sym eb
      ∙ e
