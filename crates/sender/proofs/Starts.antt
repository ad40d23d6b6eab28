-- Each way through the start of a sender, and through one from a state that was kept.
use mathlib.Core.Path.{◌≡◌, sym, ap, ◌∙◌}
use mathlib.Core.Bool.{Bool, true, false}
use Prim.Native.Nat.{ℕ}
use lib.Dec.{leb}
use Rattle.base.proofs.Tests.{yes, no}
use Rattle.sender_values.specs.declared.Settings.{Settings}
use Rattle.sender_values.specs.declared.SenderState.{SenderState}
use Rattle.sender_values.specs.Start.{start_of}
use Rattle.fop.specs.Store.{store_need}
use Rattle.sender_state.specs.State.{settings_hold, well_formed}
use Rattle.std.specs.Prelude.{Result, Ok, Err}
use Rattle.base.specs.declared.Refusal.{Refusal}
use Rattle.base.specs.declared.Refusal.TheVariants.{Room, Setting}
use Rattle.sender.specs.declared.Sender.{Sender}
use Rattle.sender.specs.Start.{starting_of, restored_of}
use Rattle.sender.proofs.Steps.{holds, fails}

module _ (g : Settings) (vs nnr lent : ℕ) (within : Bool) (of-settings : within ≡ settings_hold g) where
  pub start_setting : (r : Result Sender Refusal) → within ≡ false → r ≡ Err Setting → r ≡ starting_of g vs nnr lent
  unfolding starting_of
  start_setting r f e = e ∙ sym (fails _ _ _ (sym of-settings ∙ f))

  pub start_store : (r : Result Sender Refusal) {t : Bool} → within ≡ true → t ≡ leb (store_need g.k 0) lent → t ≡ false → r ≡ Err Room
      → r ≡ starting_of g vs nnr lent
  unfolding starting_of
  start_store r f h t e = e ∙ sym (holds _ _ _ (sym of-settings ∙ f) ∙ fails _ _ _ (sym h ∙ t))

  pub start_done : (s : SenderState) {t : Bool} → within ≡ true → t ≡ leb (store_need g.k 0) lent → t ≡ true → s ≡ start_of g vs nnr
      → Ok (record { fop = s }) ≡ starting_of g vs nnr lent
  unfolding starting_of
  start_done s f h t e =
      ap (λ (x : SenderState). Ok (record { fop = x })) e
      ∙ sym (holds _ _ _ (sym of-settings ∙ f) ∙ holds _ _ _ (sym h ∙ t))

-- a state by whether it is well-formed
module _ (s : SenderState) (a : Bool) (ea : a ≡ well_formed s) where
  pub restored_not : (r : Result Sender Refusal) → a ≡ false → r ≡ Err Setting → r ≡ restored_of s
  unfolding restored_of
  restored_not r p e = e ∙ sym (no _ _ _ (sym ea ∙ p))

  pub restored : a ≡ true → Ok (record { fop = s }) ≡ restored_of s
  unfolding restored_of
  restored p = sym (yes _ _ _ (sym ea ∙ p))
