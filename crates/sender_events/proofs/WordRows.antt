-- The event of a valid control word, as the function asks it: first the lockout flag, then whether N(R) lies from NN(R) to V(S), whether it
-- is V(S), and the retransmit flag. Each way through these choices is a row of table 7-8.
use mathlib.Core.Path.{◌≡◌, refl, sym, ◌∙◌}
use mathlib.Core.Bool.{Bool, true, false, not}
use Prim.Native.Nat.{ℕ, ◌<◌, ◌≤◌}
use lib.Dec.{ltb, eqb}
use borrow.Author.Tests.{lt-ltb, le-ltb, eq-eqb, ne_eqb}
use Rattle.base.specs.Choice.{pick}
use Rattle.base.specs.Modulo.{offset}
use Rattle.base.proofs.Tests.{yes, no}
use Rattle.clcw.specs.declared.Clcw.{Clcw}
use Rattle.fop.specs.declared.Event.{Event as FopEvent}
use Rattle.fop.specs.declared.Event.TheVariants.{E1, E2, E3, E4, E5, E6, E7, E8, E9, E10, E11, E12, E13, E14, E101, E102, E103}
use Rattle.fop.specs.Events.{word_event}
use Rattle.sender_values.specs.declared.SenderState.{SenderState}
use Rattle.sender_values.specs.Start.{begun}
use Rattle.sender_events.specs.Events.{event_of_word}
use Rattle.sender_events.specs.Rows.{all_acknowledged, some_acknowledged, none_acknowledged, retransmission_asked}

-- the rows as choices, for the conditions lockout, retransmit, wait, invalid (N(R) not from NN(R) to V(S)), all (N(R) = V(S)), same
-- (N(R) = NN(R)), once (Transmission_Limit = 1) and short (Transmission_Count < Transmission_Limit)
abbrev chosen : (lockout retransmit wait invalid all same once short : Bool) → FopEvent
chosen l r w i a z o h =
    pick l E14
    (pick i E13
    (pick a (pick r E4 (pick w E3 (pick z E1 E2)))
    (pick r (pick o (pick z E102 E101) (pick z (pick h (pick w E11 E10) (pick w E103 E12)) (pick w E9 E8))) (pick w E7 (pick z E5 E6)))))

-- they are the table's
choices : (l r w i a z o h : Bool)
    → word_event (record { lockout = l; retransmit = r; wait = w; invalid = i; all = a; new = not z; once = o; short = h })
    ≡ chosen l r w i a z o h
unfolding word_event
choices true r w i a z o h = refl
choices false r w true a z o h = refl
choices false true w false true z o h = refl
choices false false true false true z o h = refl
choices false false false false true true o h = refl
choices false false false false true false o h = refl
choices false false true false false z o h = refl
choices false false false false false true o h = refl
choices false false false false false false o h = refl
choices false true w false false true true h = refl
choices false true w false false false true h = refl
choices false true true false false false false h = refl
choices false true false false false false false h = refl
choices false true true false false true false true = refl
choices false true false false false true false true = refl
choices false true true false false true false false = refl
choices false true false false false true false false = refl

-- q is V(S) - NN(R), x is N(R) - NN(R)
module _ (w : Clcw) (s : SenderState) {q x : ℕ} (outstanding : q ≡ offset s.variables.vs s.variables.nnr) (acknowledged : x ≡ offset w.report s.variables.nnr) where
  -- the choices in the order of the function
  asked : event_of_word w s
      ≡ pick w.lockout E14 (pick (ltb q x) E13 (pick (eqb x q) (all_acknowledged w x) (pick w.retransmit (retransmission_asked s w x) (some_acknowledged w x))))
  unfolding event_of_word begun all_acknowledged some_acknowledged none_acknowledged retransmission_asked
  asked =
      rw (outstanding, acknowledged)
      (choices _ _ _ _ _ (eqb (offset w.report s.variables.nnr) 0) (eqb s.settings.transmission_limit 1)
      (ltb s.variables.transmission_count s.settings.transmission_limit))

  -- E13
  pub not_a_number : w.lockout ≡ false → q < x → E13 ≡ event_of_word w s
  not_a_number p i = sym (asked ∙ no _ _ _ p ∙ yes _ _ _ (lt-ltb _ _ i))

  -- E1 to E4
  pub all_there : {r : FopEvent} → r ≡ all_acknowledged w x → w.lockout ≡ false → x ≤ q → x ≡ q → r ≡ event_of_word w s
  all_there e p i a = e ∙ sym (asked ∙ no _ _ _ p ∙ no _ _ _ (le-ltb _ _ i) ∙ yes _ _ _ (eq-eqb _ _ a))

  -- E8 to E12 and E101 to E103
  pub asked_again : {r : FopEvent} → r ≡ retransmission_asked s w x → w.lockout ≡ false → x ≤ q → (x ≡ q → ⊥) → w.retransmit ≡ true → r ≡ event_of_word w s
  asked_again e p i a t = e ∙ sym (asked ∙ no _ _ _ p ∙ no _ _ _ (le-ltb _ _ i) ∙ no _ _ _ (ne_eqb _ _ a) ∙ yes _ _ _ t)

  -- E5 to E7
  pub some_there : {r : FopEvent} → r ≡ some_acknowledged w x → w.lockout ≡ false → x ≤ q → (x ≡ q → ⊥) → w.retransmit ≡ false → r ≡ event_of_word w s
  some_there e p i a t = e ∙ sym (asked ∙ no _ _ _ p ∙ no _ _ _ (le-ltb _ _ i) ∙ no _ _ _ (ne_eqb _ _ a) ∙ no _ _ _ t)

-- E14, whatever the numbers
pub lockout_set : (w : Clcw) (s : SenderState) → w.lockout ≡ true → E14 ≡ event_of_word w s
lockout_set w s p = sym (asked w s refl refl ∙ yes _ _ _ p)
