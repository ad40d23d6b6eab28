-- The two ways of an event with a store and output lent: it is done as table 7-8 says, or refused, which keeps the variables.
use mathlib.Core.Path.{◌≡◌, refl, sym, ◌∙◌}
use mathlib.Core.Bool.{Bool, true, false, false≢true}
use mathlib.Core.Option.{none}
use Prim.Native.Nat.{ℕ, ◌≤◌}
use native.Mathlib.Omega.{arith}
use borrow.Author.Tests.{eqb-true, le-leb}
use lib.Dec.{leb, eqb}
use Rattle.base.specs.Choice.{pick}
use Rattle.fop.specs.Units.{Own}
use Rattle.fop.specs.Variables.{Fop}
use Rattle.fop.specs.Events.{SenderEvent, work}
use Rattle.fop.specs.Answers.{Answer, octets_down, judged, needed, sender_refusal, answered, refused, sender_answer, sender_next}
use Rattle.fop.specs.Store.{need_at, store_refusal, lent_answer, lent_next}

-- an event that goes through was judged fit
pub judged_fit : (own : Own) (e : SenderEvent) (lent : ℕ) (f : Fop) → eqb (sender_refusal own e lent f) 0 ≡ true → judged own e ≡ 0
unfolding sender_refusal
judged_fit own e lent f t = go (eqb (judged own e) 0) refl t
  where
    go : (b : Bool) → eqb (judged own e) 0 ≡ b → eqb (pick b (pick (leb (needed own e f) lent) 0 11) (judged own e)) 0 ≡ true → judged own e ≡ 0
    go true z t = eqb-true (judged own e) 0 z
    go false z t = absurd (false≢true (sym z ∙ t))

pub lent_ways : (own : Own) (e : SenderEvent) (stored lent : ℕ) (f : Fop) (P : Answer → Fop → Type 0)
    → (judged own e ≡ 0 → P (answered own (work own e f)) (work own e f).fop) → ((r : ℕ) → eqb r 0 ≡ false → P (refused r f) f)
    → P (lent_answer own e stored lent f) (lent_next own e stored lent f)
unfolding lent_answer lent_next sender_answer sender_next
lent_ways own e stored lent f P does refuses = store (eqb (store_refusal own e stored f) 0) refl
  where
    output : (b : Bool) → eqb (sender_refusal own e lent f) 0 ≡ b
        → P (pick b (answered own (work own e f)) (refused (sender_refusal own e lent f) f)) (pick b (work own e f).fop f)
    output true z = does (judged_fit own e lent f z)
    output false z = refuses (sender_refusal own e lent f) z

    store : (b : Bool) → eqb (store_refusal own e stored f) 0 ≡ b
        → P (pick b (sender_answer own e lent f) (refused (store_refusal own e stored f) f)) (pick b (sender_next own e lent f) f)
    store true z = output (eqb (sender_refusal own e lent f) 0) refl
    store false z = refuses (store_refusal own e stored f) z

-- an event that is judged fit, hands nothing down and is lent a store that suffices is done
store_suffices : (own : Own) (e : SenderEvent) (stored : ℕ) (f : Fop) → judged own e ≡ 0 → need_at e f ≤ stored → store_refusal own e stored f ≡ 0
unfolding store_refusal
store_suffices own e stored f j n = rw (j, le-leb (need_at e f) stored n)

none_needed : (own : Own) (e : SenderEvent) (lent : ℕ) (f : Fop) → judged own e ≡ 0 → octets_down own (work own e f).frames ≡ none
    → sender_refusal own e lent f ≡ 0
unfolding sender_refusal needed
none_needed own e lent f j d = rw (j, d, le-leb 0 lent (omega arith))

pub lent_done : (own : Own) (e : SenderEvent) (stored lent : ℕ) (f : Fop) (P : Answer → Fop → Type 0) → judged own e ≡ 0 → need_at e f ≤ stored
    → octets_down own (work own e f).frames ≡ none → P (answered own (work own e f)) (work own e f).fop
    → P (lent_answer own e stored lent f) (lent_next own e stored lent f)
unfolding lent_answer lent_next sender_answer sender_next
lent_done own e stored lent f P j n d p = rw (store_suffices own e stored f j n, none_needed own e lent f j d) p
