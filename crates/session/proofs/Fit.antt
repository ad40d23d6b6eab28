-- An event of the sender that goes through was judged fit and had the room that it needs, and the other way.
use mathlib.Core.Path.{◌≡◌, refl, sym, ◌∙◌}
use mathlib.Core.Bool.{Bool, true, false, false≢true}
use Prim.Native.Nat.{ℕ, ◌≤◌}
use lib.Dec.{leb, eqb}
use borrow.Author.Tests.{eqb-true, leb-true, le-leb}
use Rattle.base.specs.Choice.{pick}
use Rattle.fop.specs.Units.{Own}
use Rattle.fop.specs.Variables.{Fop}
use Rattle.fop.specs.Events.{SenderEvent}
use Rattle.fop.specs.Answers.{judged, sender_refusal, needed}
use Rattle.session.proofs.Core.{goes}

-- an event that goes through was judged fit, and had its room
judge : (j need lent : ℕ) → eqb (pick (eqb j 0) (pick (leb need lent) 0 11) j) 0 ≡ true → (j ≡ 0) × (need ≤ lent)
judge j need lent = first (eqb j 0) refl
  where
    second : (b : Bool) → leb need lent ≡ b → eqb j 0 ≡ true → eqb (pick b 0 11) 0 ≡ true → (j ≡ 0) × (need ≤ lent)
    second true e z t = (eqb-true j 0 z, leb-true need lent e)
    second false e z t = absurd (false≢true t)

    first : (b : Bool) → eqb j 0 ≡ b → eqb (pick b (pick (leb need lent) 0 11) j) 0 ≡ true → (j ≡ 0) × (need ≤ lent)
    first true z t = second (leb need lent) refl z t
    first false z t = absurd (false≢true (sym z ∙ t))

-- so a sender's event that goes through
pub fit : (own : Own) (e : SenderEvent) (lent : ℕ) (f : Fop) → goes own e lent f ≡ true → (judged own e ≡ 0) × (needed own e f ≤ lent)
unfolding sender_refusal
fit own e lent f t = judge (judged own e) (needed own e f) lent t

-- and the other way
pub goes_is : (own : Own) (e : SenderEvent) (lent : ℕ) (f : Fop) → judged own e ≡ 0 → needed own e f ≤ lent → goes own e lent f ≡ true
unfolding sender_refusal
goes_is own e lent f j l = rw (j, le-leb (needed own e f) lent l)
