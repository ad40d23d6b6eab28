-- What a denied unit means to a sender in Initial that is not suspended (`on_board_lem`): it is on board exactly where its number is before V(R).
-- The denied places are those from the count confirmed C up to the count sent S; of these the ones below the count accepted A are on board. V(R)
-- is n + A, the number at place i is n + i, and C ≤ A ≤ S ≤ C + K, so the two numbers differ by less than 256 either way. At any time no more
-- than K units are accepted and not confirmed (`unconfirmed`).
use mathlib.Core.Logic.{◌↔◌}
use mathlib.Core.Path.{◌≡◌, refl, sym, ap, ◌∙◌}
use mathlib.Core.Bool.{Bool, true, false, ◌||◌, false≢true}
use mathlib.Core.List.{List}
use Prim.Native.Nat.{ℕ, zero, suc, ◌+◌, ◌-◌, ◌≤◌, ◌<◌}
use native.Mathlib.Omega.{arith}
use lib.Dec.{eqb}
use lib.ListN.{length, get_or}
use lib.Seq.{get_or-take}
use borrow.Author.Tests.{eqb-true}
use Rattle.base.specs.Modulo.{advanced, offset}
use Rattle.fop.specs.Units.{Fdu}
use Rattle.fop.specs.declared.State.TheVariants.{S6}
use Rattle.fop.specs.Effective.{effective}
use Rattle.session.specs.Ends.{Settings}
use Rattle.session.specs.Session.{no_unit}
use Rattle.session.specs.Claims.{member}
use Rattle.session.specs.Beyond.{OnBoard, Before}
use Rattle.session.proofs.Core.{Session}
use Rattle.session.proofs.Lists.{iota}
use Rattle.session.proofs.Suspended.{effective_is}
use Rattle.session.proofs.Inv.{Inv}
use Rattle.session.proofs.Next.{history_of}
use Rattle.session.proofs.Standing.{initial_denied}

-- a place among c places from j on
pub member_bounds : (i j c : ℕ) → member i (iota j c) ≡ true → (j ≤ i) × (i < j + c)
member_bounds i j zero h = absurd (false≢true h)
member_bounds i j (suc c) h = go (λ k. member_bounds i (suc j) c k) (eqb i j) refl h
  where
    go : (member i (iota (suc j) c) ≡ true → (suc j ≤ i) × (i < suc j + c)) → (t : Bool) → eqb i j ≡ t
        → (t || member i (iota (suc j) c)) ≡ true → (j ≤ i) × (i < j + suc c)
    go f true t k = let e : i ≡ j = eqb-true i j t in (omega arith, omega arith)
    go f false t k = let b = f k in (omega arith, omega arith)

-- of a place i from C on, not further than K from the count accepted A: it is below A exactly where its number is before V(R)
below_is : (n K C A i : ℕ) → K ≤ 127 → C ≤ i → C ≤ A → A ≤ C + K → i < C + K
    → i < A ↔ (1 ≤ offset (advanced n A) (advanced n i)) × (offset (advanced n A) (advanced n i) ≤ 127)
below_is n K C A i k a b c d = (λ l. (omega arith, omega arith), λ h. omega arith)

module _ (set : Settings) (κ : Session) (I : Inv set κ) where
  -- no more than K units are accepted and not confirmed
  pub unconfirmed : length κ.accepted ≤ length κ.confirmed + set.k
  unconfirmed = omega (arith, I.base)

  -- what is accepted is in its place
  accepted_at : (i : ℕ) → i < length κ.accepted → get_or κ.accepted i no_unit ≡ get_or κ.sent i no_unit
  accepted_at i l = ap (λ (s : List Fdu). get_or s i no_unit) I.base.order ∙ get_or-take (length κ.accepted) κ.sent i no_unit l

-- a denied unit is on board exactly where its number is before V(R)
pub on_board_lem : (set : Settings) (κ : Session) → Inv set κ → κ.fop.state ≡ S6 → κ.fop.suspend_state ≡ 0
    → (i : ℕ) → member i κ.denied ≡ true → OnBoard (history_of κ) i ↔ Before κ.farm.vr (get_or κ.sent i no_unit).ns
on_board_lem set κ I s z i h =
    let d = initial_denied set κ I (effective κ.fop) I.side (effective_is κ.fop z ∙ s) in
    let b = member_bounds i (length κ.confirmed) (length κ.sent - length κ.confirmed) (sym (ap (member i) d) ∙ h) in
    let ns : (get_or κ.sent i no_unit).ns ≡ advanced set.n i = I.base.num.at i (omega arith) in
    let k = below_is set.n set.k (length κ.confirmed) (length κ.accepted) i (omega (arith, I.base)) b.0 (omega (arith, I.base))
    (unconfirmed set κ I) (omega (arith, I.base, b)) in
    rw (ns, I.receiver.is_vr) (λ x. k.0 x.0, λ x. (k.1 x, accepted_at set κ I i (k.1 x)))
