-- Every AD frame handed down is the next new unit, or an outstanding unit sent again, its octets unchanged.
use mathlib.Core.Logic.{◌⊎◌, inl, inr}
use mathlib.Core.Path.{◌≡◌, refl, sym, ap, ◌∙◌, subst}
use mathlib.Core.Bool.{Bool, true, false}
use mathlib.Core.List.{List, [], ◌∷◌, ◌++◌}
use mathlib.Core.Option.{Option, some}
use Prim.Native.Nat.{ℕ, ◌+◌, ◌≤◌, ◌<◌}
use native.Mathlib.Omega.{arith}
use lib.Dec.{eqb, T}
use lib.ListN.{length, get_or, length-append, get_or-append}
use lib.Seq.{get_or-append_seam}
use borrow.Author.Tests.{eqb-true}
use Rattle.base.specs.Choice.{pick}
use Rattle.base.specs.Modulo.{offset, advanced}
use Rattle.fop.specs.Units.{Fdu, Frame, AD, BD, Unlock, SetVR, Refused}
use Rattle.fop.specs.declared.State.{State}
use Rattle.fop.specs.declared.State.TheVariants.{S1, S2, S3, S4, S5, S6}
use Rattle.fop.specs.declared.Action.{Action}
use Rattle.fop.specs.declared.Action.TheVariants.{Accept, Reject, Confirm, RejectAd}
use Rattle.fop.specs.declared.Event.{Event as FopEvent}
use Rattle.fop.specs.Table.{Cell, cell, NotApplicable, table78, cell78}
use Rattle.fop.specs.declared.Action.TheVariants.{AcceptBd, RejectBd, AddToWaitQueue, LookForFdu, LookForDirective, RemoveAcknowledgedFrames, InitiateAdRetransmission, InitiateBcRetransmission}
use Rattle.fop.specs.declared.Action.TheVariants.{ReleaseBcFrame, CancelTimer, StartTimer, Alert, Initialise, TransmitUnlock, TransmitSetVr, TransmitBd, SetVs, SetNnr, SetK}
use Rattle.fop.specs.declared.Action.TheVariants.{SetT1Initial, SetTransmissionLimit, SetTimeoutType, AdOutReady, BcOutReady, BdOutReady}
use Rattle.fop.specs.Variables.{Work}
use Rattle.fop.specs.Machine.{fdus, first_marked, perform, perform_all, perform_cell, look_for_fdu, send_next, send_waiting, transmit_ad, remove_acknowledged, fop_do}
use Rattle.fop.specs.Variables.{begin}
use Rattle.fop.specs.Effective.{effective_of, effective}
use Rattle.session.specs.Ends.{Settings}
use Rattle.session.specs.Session.{no_unit}
use Rattle.session.specs.Claims.{IsOutstanding, member}
use Rattle.fop.specs.Machine.{purge}
use Rattle.fop.specs.declared.Action.TheVariants.{Ignore, SetSuspendState, Suspend, Resume}
use Rattle.fop.specs.Table.{if_not_suspended}
use Rattle.fop.proofs.Ways.{look_ways}
use Rattle.session.proofs.Core.{Session, add_all}
use Rattle.session.proofs.Lists.{add_all_append, member_out}
use Rattle.session.proofs.Values.{Bounds, Mode, live, dead, bad, Given, word, unit, nothing, Reports, same_sent, new_sent, queue_length, queue_at}
use Rattle.session.proofs.Rows.{after, after_all, mode_of, sound, cell_ok, leads, Tested}
use Rattle.session.proofs.Suspended.{suspend_all_lem}
use Rattle.session.proofs.Sender.{WInv, keeps}
use Rattle.session.proofs.Queue.{found}
use Rattle.session.proofs.Few.{purge_few}
use Rattle.session.proofs.Inv.{Inv, Side, bounds_of, row_passes, row_sound, row_begins}
use Rattle.session.proofs.Next.{history_of}

-- each AD frame of the list is a unit sent, at a place from C on; and there is one only where m is live
abbrev pub From : Mode → ℕ → List Fdu → List Frame → Type 0
From m C s [] = Unit {0}
From m C s (AD u ∷ fs) = ((m ≡ live) × (i : ℕ) × (C ≤ i) × (i < length s) × (u ≡ get_or s i no_unit)) × From m C s fs
From m C s (BD o ∷ fs) = From m C s fs
From m C s (Unlock ∷ fs) = From m C s fs
From m C s (SetVR v ∷ fs) = From m C s fs
From m C s (Refused r ∷ fs) = From m C s fs

from_more : (m : Mode) (C : ℕ) (s t : List Fdu) (fs : List Frame) → From m C s fs → From m C (s ++ t) fs
from_more m C s t [] h = tt
from_more m C s t (AD u ∷ fs) h =
    let i = h.0.1 in
    ((h.0.0, i, h.0.2, omega (arith, length-append s t, h.0.3), h.0.4 ∙ sym (get_or-append s t no_unit i h.0.3)), from_more m C s t fs h.1)
from_more m C s t (BD o ∷ fs) h = from_more m C s t fs h
from_more m C s t (Unlock ∷ fs) h = from_more m C s t fs h
from_more m C s t (SetVR v ∷ fs) h = from_more m C s t fs h
from_more m C s t (Refused r ∷ fs) h = from_more m C s t fs h

from_append : (m : Mode) (C : ℕ) (s : List Fdu) (fs gs : List Frame) → From m C s fs → From m C s gs → From m C s (fs ++ gs)
from_append m C s [] gs h g = g
from_append m C s (AD u ∷ fs) gs h g = (h.0, from_append m C s fs gs h.1 g)
from_append m C s (BD o ∷ fs) gs h g = from_append m C s fs gs h g
from_append m C s (Unlock ∷ fs) gs h g = from_append m C s fs gs h g
from_append m C s (SetVR v ∷ fs) gs h g = from_append m C s fs gs h g
from_append m C s (Refused r ∷ fs) gs h g = from_append m C s fs gs h g

module _ (n : ℕ) (P : Bounds) (C : ℕ) (gone : List (Option ℕ)) (acc sent0 : List Fdu) (fr0 : List Frame) (given : Given) (a : ℕ) (m0 : Mode) where
  abbrev Down : Mode → List Frame → Type 0
  Down live fs = (m0 ≡ live) × From m0 C (add_all n sent0 fs) fs
  Down dead fs = From m0 C (add_all n sent0 fs) fs
  Down bad fs = Unit {0}

  abbrev pub D : Mode → Work → Type 0
  D m w = Down m w.frames

  abbrev I : Mode → Work → Type 0
  I m w = WInv n P C gone acc sent0 fr0 given a m w

  look_from : (w : Work) → I live w → D live w → D live (look_for_fdu w)
  unfolding send_next send_waiting transmit_ad
  look_from w h d = look_ways (D live) w d again new
    where
      s : List Fdu
      s = add_all n sent0 w.frames

      again : (u : Fdu) → first_marked w.fop.queues.sent_queue ≡ some u → D live (send_next (some u) w)
      again u e =
          let i = found w.fop.queues.sent_queue u e in
          let ln = queue_length C s w.confirmed (fdus w.fop.queues.sent_queue) h.1.cut in
          let j : ℕ = C + (length w.confirmed + i.0) in
          let b : j < length s = omega (arith, ln, i.1) in
          let eu : u ≡ get_or s j no_unit = i.2 ∙ queue_at C s w.confirmed (fdus w.fop.queues.sent_queue) h.1.cut i.0 in
          let same : add_all n s (AD u ∷ []) ≡ s = same_sent n s u j h.0.num b (omega (arith, h.0)) eu in (
            d.0,
            rw (add_all_append n sent0 w.frames (AD u ∷ []), same)
                (from_append m0 C s w.frames (AD u ∷ []) d.1 ((d.0, j, omega arith, b, eu), tt)),
          )

      new : (o : List ℕ) → offset w.fop.numbers.vs w.fop.numbers.nnr < w.fop.preset.k → w.fop.queues.wait_queue ≡ some o → D live (send_waiting (some o) w)
      new o r e =
          let u : Fdu = record { ns = w.fop.numbers.vs; octets = o } in
          let more : add_all n s (AD u ∷ []) ≡ s ++ (u ∷ []) = new_sent n s u h.1.is_vs in (
            d.0,
            rw (add_all_append n sent0 w.frames (AD u ∷ []), more)
                (from_append m0 C (s ++ (u ∷ [])) w.frames (AD u ∷ []) (from_more m0 C s (u ∷ []) w.frames d.1)
                ((d.0, length s, omega (arith, h.0), omega (arith, length-append s (u ∷ [])), sym (get_or-append_seam s u [] no_unit)), tt)),
          )

  bd_from : (m : Mode) (w : Work) → D m w → D m (perform TransmitBd w)
  unfolding perform
  bd_from live w d =
      (d.0, rw (add_all_append n sent0 w.frames (BD w.asked.octets ∷ [])) (from_append m0 C _ w.frames (BD w.asked.octets ∷ []) d.1 tt))
  bd_from dead w d = rw (add_all_append n sent0 w.frames (BD w.asked.octets ∷ [])) (from_append m0 C _ w.frames (BD w.asked.octets ∷ []) d tt)
  bd_from bad w d = tt

  purged : (w : Work) → From m0 C (add_all n sent0 w.frames) w.frames → From m0 C (add_all n sent0 (purge w).frames) (purge w).frames
  purged w d = rw (purge_few w) d

  -- an action that keeps the mode, or is not covered
  by_given : (m m' : Mode) (v : Work) → D m v → (m' ≡ m) ⊎ (m' ≡ bad) → D m' v
  by_given m m' v d (inl e) = subst (λ (y : Mode). D y v) (sym e) d
  by_given m m' v d (inr e) = subst (λ (y : Mode). D y v) (sym e) tt

  wait_mode : (g : Given) (m : Mode) → (after g AddToWaitQueue m ≡ m) ⊎ (after g AddToWaitQueue m ≡ bad)
  wait_mode word m = inr refl
  wait_mode unit m = inl refl
  wait_mode nothing m = inr refl

  bd_mode : (g : Given) (m : Mode) → (after g TransmitBd m ≡ m) ⊎ (after g TransmitBd m ≡ bad)
  bd_mode word m = inr refl
  bd_mode unit m = inl refl
  bd_mode nothing m = inr refl

  remove_mode : (g : Given) (m : Mode) → (after g RemoveAcknowledgedFrames m ≡ m) ⊎ (after g RemoveAcknowledgedFrames m ≡ bad)
  remove_mode word live = inl refl
  remove_mode word dead = inr refl
  remove_mode word bad = inr refl
  remove_mode unit m = inr refl
  remove_mode nothing m = inr refl

  from : (x : Action) (m : Mode) (w : Work) → I m w → D m w → D (after given x m) (perform x w)
  unfolding perform remove_acknowledged
  from Accept m w h d = d
  from Reject m w h d = d
  from Confirm m w h d = d
  from RejectAd m w h d = d
  from AcceptBd m w h d = d
  from RejectBd m w h d = d
  from Ignore m w h d = d
  from (SetSuspendState s) m w h d = d
  from Suspend m w h d = d
  from Resume m w h d = d
  from AddToWaitQueue m w h d = by_given m (after given AddToWaitQueue m) (perform AddToWaitQueue w) d (wait_mode given m)
  from LookForFdu live w h d = look_from w h d
  from LookForFdu dead w h d = tt
  from LookForFdu bad w h d = tt
  from LookForDirective m w h d = tt
  from RemoveAcknowledgedFrames m w h d = by_given m (after given RemoveAcknowledgedFrames m) (perform RemoveAcknowledgedFrames w) d (remove_mode given m)
  from InitiateAdRetransmission m w h d = d
  from InitiateBcRetransmission m w h d = d
  from ReleaseBcFrame m w h d = d
  from CancelTimer m w h d = d
  from StartTimer m w h d = d
  from (Alert r) live w h d = purged w d.1
  from (Alert r) dead w h d = purged w d
  from (Alert r) bad w h d = tt
  from Initialise m w h d = tt
  from TransmitUnlock m w h d = tt
  from TransmitSetVr m w h d = tt
  from TransmitBd m w h d = by_given m (after given TransmitBd m) (perform TransmitBd w) (bd_from m w d) (bd_mode given m)
  from SetVs m w h d = tt
  from SetNnr m w h d = tt
  from SetK m w h d = tt
  from SetT1Initial m w h d = tt
  from SetTransmissionLimit m w h d = tt
  from SetTimeoutType m w h d = tt
  from AdOutReady m w h d = d
  from BcOutReady m w h d = d
  from BdOutReady m w h d = d

  from_all : (xs : List Action) (m : Mode) (w : Work) → I m w → D m w → D (after_all given xs m) (perform_all xs w)
  unfolding perform_all
  from_all [] m w h d = d
  from_all (x ∷ xs) m w h d =
      from_all xs (after given x m) (perform x w) (keeps n P C gone acc sent0 fr0 given a x m w h) (from x m w h d)

  cell_from : (c : Cell) (w : Work) → T (cell_ok given w.fop.suspend_state w.fop.state c) → I (mode_of (effective w.fop)) w
      → D (mode_of (effective w.fop)) w
      → D (mode_of (effective (perform_cell c w).fop)) (perform_cell c w)
  unfolding perform_cell
  cell_from NotApplicable w t h d = d
  cell_from (if_not_suspended xs ys s) w t h d = absurd t
  cell_from (cell xs s) w t h d =
      subst (λ (n : ℕ). D (mode_of (effective_of s n)) (perform_cell (cell xs s) w)) (sym (suspend_all_lem xs w))
      (subst (λ (m : Mode). D m (perform_cell (cell xs s) w)) (leads given w.fop.suspend_state w.fop.state xs s t)
      (from_all xs (mode_of (effective w.fop)) w h d))

start_from : (n C : ℕ) (P : Bounds) (gone : List (Option ℕ)) (acc sent0 : List Fdu) (fr0 : List Frame) (given : Given) (a : ℕ) (m : Mode) (w : Work)
    → w.frames ≡ []
    → D n P C gone acc sent0 fr0 given a m m w
start_from n C P gone acc sent0 fr0 given a live w e = (refl, rw e tt)
start_from n C P gone acc sent0 fr0 given a dead w e = rw e tt
start_from n C P gone acc sent0 fr0 given a bad w e = tt

end_from : (n C : ℕ) (P : Bounds) (gone : List (Option ℕ)) (acc sent0 : List Fdu) (fr0 : List Frame) (given : Given) (a : ℕ) (m0 m : Mode) (w : Work)
    → T (sound m) → D n P C gone acc sent0 fr0 given a m0 m w → From m0 C (add_all n sent0 w.frames) w.frames
end_from n C P gone acc sent0 fr0 given a m0 live w g d = d.1
end_from n C P gone acc sent0 fr0 given a m0 dead w g d = d
end_from n C P gone acc sent0 fr0 given a m0 bad w g d = absurd g

module _ (set : Settings) (σ : Session) (I : Inv set σ) where
  pub row_from : (given : Given) (a : ℕ) (e : FopEvent) (o : List ℕ) (v : ℕ) → Tested given e σ.fop.suspend_state → length σ.confirmed ≤ a
      → Reports given set.n a (length σ.accepted) v o
      → From (mode_of (effective σ.fop)) (length σ.confirmed) (add_all set.n σ.sent (fop_do e o v σ.fop).frames) (fop_do e o v σ.fop).frames
  unfolding fop_do
  row_from given a e o v t l r =
      end_from set.n (length σ.confirmed) (bounds_of set) σ.denied σ.accepted σ.sent σ.frames given a (mode_of (effective σ.fop))
      (mode_of (effective (fop_do e o v σ.fop).fop)) (fop_do e o v σ.fop)
      (row_sound set σ I given e t o v)
      (cell_from set.n (bounds_of set) (length σ.confirmed) σ.denied σ.accepted σ.sent σ.frames given a (mode_of (effective σ.fop))
      (cell78 (table78 e) σ.fop.state) (begin (some e) o v σ.fop)
      (row_passes set σ I given e t) (row_begins set σ I given a o v l r (some e))
      (start_from set.n (length σ.confirmed) (bounds_of set) σ.denied σ.accepted σ.sent σ.frames given a (mode_of (effective σ.fop))
      (begin (some e) o v σ.fop) refl))

  -- a sender in service has denied nothing
  serving : (s : State) → Side (mode_of s) set.n (length σ.confirmed) σ.sent σ.denied (fdus σ.fop.queues.sent_queue) σ.fop.numbers.vs σ.fop.numbers.nnr
      → mode_of s ≡ live → σ.denied ≡ []
  serving S1 h e = h.fresh
  serving S2 h e = h.fresh
  serving S3 h e = h.fresh
  serving S4 h e = absurd h
  serving S5 h e = absurd h
  serving S6 h e = let z : ◌≡◌ {A = ℕ} 0 1 = cc in absurd (omega arith)

  -- the one AD frame handed down
  pub is_handed_lem : (u : Fdu) → From (mode_of (effective σ.fop)) (length σ.confirmed) (add_all set.n σ.sent (AD u ∷ [])) (AD u ∷ [])
      → (u.ns ≡ advanced set.n (length σ.sent)) ⊎ ((i : ℕ) × IsOutstanding (history_of σ) i × (u ≡ get_or σ.sent i no_unit))
  is_handed_lem u h = go (eqb u.ns (advanced set.n (length σ.sent))) refl h
    where
      go : (b : Bool) → eqb u.ns (advanced set.n (length σ.sent)) ≡ b
          → From (mode_of (effective σ.fop)) (length σ.confirmed) (pick b (σ.sent ++ (u ∷ [])) σ.sent) (AD u ∷ [])
          → (u.ns ≡ advanced set.n (length σ.sent)) ⊎ ((i : ℕ) × IsOutstanding (history_of σ) i × (u ≡ get_or σ.sent i no_unit))
      go true e h = inl (eqb-true _ _ e)
      go false e h =
          let f = serving (effective σ.fop) I.side h.0.0 in
          inr (h.0.1, (h.0.3, ap (member h.0.1) I.places ∙ member_out h.0.1 0 (length σ.confirmed) (omega (arith, h.0.2)), rw f), h.0.4)
