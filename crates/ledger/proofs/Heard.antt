-- What responses one behind the other say of an AD unit: what each of them says. So responses that say nothing change nothing of it.
use mathlib.Core.Path.{◌≡◌, refl, ap, ap₂, ◌∙◌}
use mathlib.Core.List.{List, [], ◌∷◌, ◌++◌, append-nil}
use mathlib.Core.Option.{Option}
use Prim.Native.Nat.{ℕ}
use Rattle.fop.specs.Units.{Fdu, Frame}
use Rattle.fop.specs.declared.Response.{Response}
use Rattle.fop.specs.declared.Response.TheVariants.{AcceptAdUnit, RejectAdUnit, AcceptBdUnit, RejectBdUnit, AcceptDirective, RejectDirective, ConfirmDirective, DenyDirective}
use Rattle.fop.specs.Events.{SenderEvent}
use Rattle.ledger.specs.Ledger.{Heard, first_of, accepts, rejects, unanswered, hear}
use Rattle.ledger.proofs.Flow.{Quiet, Accepts, Rejects, Asks, silent, waits, offer_rejected, offer_accepted, waiting_rejected, waiting_accepted}

-- responses one behind the other
accepts_append : (rs qs : List Response) (p : Option ℕ) → accepts (rs ++ qs) p ≡ accepts rs p ++ accepts qs p
accepts_append [] qs p = refl
accepts_append (AcceptAdUnit ∷ rs) qs p = ap (λ (ps : List (Option ℕ)). p ∷ ps) (accepts_append rs qs p)
accepts_append (RejectAdUnit ∷ rs) qs p = accepts_append rs qs p
accepts_append (AcceptBdUnit ∷ rs) qs p = accepts_append rs qs p
accepts_append (RejectBdUnit ∷ rs) qs p = accepts_append rs qs p
accepts_append (AcceptDirective ∷ rs) qs p = accepts_append rs qs p
accepts_append (RejectDirective ∷ rs) qs p = accepts_append rs qs p
accepts_append (ConfirmDirective ∷ rs) qs p = accepts_append rs qs p
accepts_append (DenyDirective ∷ rs) qs p = accepts_append rs qs p

rejects_append : (rs qs : List Response) (p : Option ℕ) → rejects (rs ++ qs) p ≡ rejects rs p ++ rejects qs p
rejects_append [] qs p = refl
rejects_append (RejectAdUnit ∷ rs) qs p = ap (λ (ps : List (Option ℕ)). p ∷ ps) (rejects_append rs qs p)
rejects_append (AcceptAdUnit ∷ rs) qs p = rejects_append rs qs p
rejects_append (AcceptBdUnit ∷ rs) qs p = rejects_append rs qs p
rejects_append (RejectBdUnit ∷ rs) qs p = rejects_append rs qs p
rejects_append (AcceptDirective ∷ rs) qs p = rejects_append rs qs p
rejects_append (RejectDirective ∷ rs) qs p = rejects_append rs qs p
rejects_append (ConfirmDirective ∷ rs) qs p = rejects_append rs qs p
rejects_append (DenyDirective ∷ rs) qs p = rejects_append rs qs p

-- what is heard, by the units accepted and rejected
abbrev heard_by : List ℕ → List (Option ℕ) → List (Option ℕ) → Heard
heard_by is a r = record { accepted = a; rejected = r; left = unanswered (a ++ r) is }

-- behind responses that say nothing
behind_quiet : (rs qs : List Response) → Quiet rs → (is : List ℕ) → hear (rs ++ qs) is ≡ hear qs is
behind_quiet rs qs h is =
    ap₂ (heard_by is)
    (accepts_append rs qs (first_of is) ∙ ap (λ (k : Heard). k.accepted ++ accepts qs (first_of is)) (h is))
    (rejects_append rs qs (first_of is) ∙ ap (λ (k : Heard). k.rejected ++ rejects qs (first_of is)) (h is))

-- before them
before_quiet : (rs qs : List Response) → Quiet qs → (is : List ℕ) → hear (rs ++ qs) is ≡ hear rs is
before_quiet rs qs h is =
    ap₂ (heard_by is)
    (accepts_append rs qs (first_of is) ∙ ap (λ (k : Heard). accepts rs (first_of is) ++ k.accepted) (h is) ∙ append-nil (accepts rs (first_of is)))
    (rejects_append rs qs (first_of is) ∙ ap (λ (k : Heard). rejects rs (first_of is) ++ k.rejected) (h is) ∙ append-nil (rejects rs (first_of is)))

module _ (rs : List Response) (h : Quiet rs) where
  pub quiet_more : (qs : List Response) → Quiet qs → Quiet (rs ++ qs)
  quiet_more qs k is = behind_quiet rs qs h is ∙ k is

  pub accepts_now : Accepts (rs ++ (AcceptAdUnit ∷ []))
  accepts_now is = behind_quiet rs (AcceptAdUnit ∷ []) h is

  pub rejects_now : Rejects (rs ++ (RejectAdUnit ∷ []))
  rejects_now is = behind_quiet rs (RejectAdUnit ∷ []) h is

-- what became of the units stays so
pub asks_more : {e : SenderEvent} {w v : Option (List ℕ)} {rs : List Response} {fs : List Frame} {new : List Fdu} (qs : List Response) → Quiet qs
    → Asks e w v rs fs new → Asks e w v (rs ++ qs) fs new
asks_more {rs = rs} qs h (silent b k) = silent b (λ is. before_quiet rs qs h is ∙ k is)
asks_more {rs = rs} qs h (waits k) = waits (λ is. before_quiet rs qs h is ∙ k is)
asks_more {rs = rs} qs h (offer_rejected k) = offer_rejected (λ is. before_quiet rs qs h is ∙ k is)
asks_more {rs = rs} qs h (offer_accepted n k) = offer_accepted n (λ is. before_quiet rs qs h is ∙ k is)
asks_more {rs = rs} qs h (waiting_rejected b k) = waiting_rejected b (λ is. before_quiet rs qs h is ∙ k is)
asks_more {rs = rs} qs h (waiting_accepted b n k) = waiting_accepted b n (λ is. before_quiet rs qs h is ∙ k is)
