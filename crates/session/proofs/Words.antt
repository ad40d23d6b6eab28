-- The receiver's control word: where its room is lent it enters the channel and is read as the histories say; where it is not, it is refused by
-- 11 and the words under way stay.
use mathlib.Core.Logic.{◌⊎◌, inl, inr}
use mathlib.Core.Path.{◌≡◌, refl, sym, ap, ◌∙◌}
use mathlib.Core.Bool.{Bool, true, false}
use mathlib.Core.List.{List, [], ◌∷◌, ◌++◌}
use Prim.Native.Nat.{ℕ, ◌≤◌, ◌<◌}
use native.Mathlib.Omega.{arith}
use lib.Dec.{leb}
use borrow.Author.Tests.{leb-true, leb-false, le-leb}
use Rattle.fop.specs.Units.{valid, word_octets, read_word}
use Rattle.farm.specs.declared.Variables.{Variables}
use Rattle.session.specs.Receiver.{word_length, WordAnswer}
use Rattle.session.specs.Ends.{Settings, Within, Ends}
use Rattle.session.specs.Session.{Linked, History, word_made, enters, step}
use Rattle.session.specs.Claims.{reported}
use Rattle.session.proofs.Core.{Session, report}
use Rattle.session.proofs.Octets.{word_back, told_if}
use Rattle.session.proofs.Inv.{Inv}
use Rattle.session.proofs.Next.{history_of}

module _ (set : Settings) (vw : Within set) (m : Ends) (σ : Linked m) (κ : Session) (history : σ.history ≡ history_of κ)
    (word : (lent : ℕ) → m.word lent σ.receiver ≡ told_if (leb word_length lent) (word_octets set.own (report κ.farm))) (I : Inv set κ) where
  abbrev octets : List ℕ
  octets = word_octets set.own (report κ.farm)

  -- the word by whether its room is lent, and the words under way after it
  told : (lent : ℕ) (b : Bool) → leb word_length lent ≡ b → m.word lent σ.receiver ≡ told_if b octets
  told lent b e = word lent ∙ ap (λ (x : Bool). told_if x octets) e

  under_way : (lent : ℕ) (b : Bool) → leb word_length lent ≡ b → (step set m (word_made lent) σ).words ≡ enters σ.words (told_if b octets).word
  unfolding step
  under_way lent b e = ap (λ (a : WordAnswer). enters σ.words a.word) (told lent b e)

  -- the word as it is read
  reads_as : read_word set.own octets ≡ valid (reported set κ.farm (history_of κ))
  unfolding report
  reads_as =
      word_back set.own vw.spacecraft vw.channel (report κ.farm) (omega (arith, I.receiver.counted)) (omega (arith, I.receiver.is_vr))
      ∙ rw (I.receiver.counted, I.receiver.is_vr)

  pub word_made_lem : (v : Variables) → v ≡ κ.farm → (lent : ℕ) → word_length ≤ lent
      → (s : List ℕ) × ((step set m (word_made lent) σ).words ≡ σ.words ++ (s ∷ [])) × (read_word set.own s ≡ valid (reported set v σ.history))
  word_made_lem v e lent h = (
    octets,
    under_way lent true (le-leb word_length lent h),
    reads_as ∙ ap (λ (x : Variables). valid (reported set x (history_of κ))) (sym e)
        ∙ ap (λ (x : History). valid (reported set v x)) (sym history),
  )

  -- the refusal, by whether the room is lent
  abbrev Refusal : ℕ → Type 0
  Refusal lent =
      (((m.word lent σ.receiver).refusal ≡ 0) × (word_length ≤ lent))
      ⊎ (((m.word lent σ.receiver).refusal ≡ 11) × (lent < word_length) × ((step set m (word_made lent) σ).words ≡ σ.words))

  pub word_refusal_lem : (lent : ℕ) → Refusal lent
  word_refusal_lem lent = go (leb word_length lent) refl
    where
      go : (b : Bool) → leb word_length lent ≡ b → Refusal lent
      go true e = inl (ap (λ (a : WordAnswer). a.refusal) (told lent true e), leb-true word_length lent e)
      go false e = inr (ap (λ (a : WordAnswer). a.refusal) (told lent false e), leb-false word_length lent e, under_way lent false e)
