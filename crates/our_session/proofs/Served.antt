-- An event that offers no unit: our sender's step agrees with the table machine's work on its row. The unit handed down stood in the store
-- before the units confirmed left it, where the sender reads it.
use Rattle.std.specs.Prelude.{Option, None, Some}
use Prim.Native.Nat.{ℕ, ◌+◌, ◌-◌, ◌≤◌, ◌<◌}
use mathlib.Core.Path.{◌≡◌, refl, sym, ap, subst, ◌∙◌}
use mathlib.Core.Bool.{false, true≢false}
use mathlib.Core.List.{List, []}
use native.Mathlib.Omega.{arith}
use lib.Dec.{eqb}
use lib.ListN.{length}
use Rattle.base.proofs.Tests.{no}
use Rattle.store.specs.Places.{unit_at, without}
use Rattle.store.specs.Slid.{slid}
use Rattle.store.proofs.Laws.{without_unit}
use Rattle.store.proofs.Need.{larger_second}
use Rattle.fop.specs.Units.{Own}
use Rattle.fop.specs.declared.Event.{Event as FopEvent}
use Rattle.fop.specs.Variables as machine
use Rattle.fop.specs.Machine.{fop_do}
use Rattle.sender_values.specs.declared.Handed.{Handed}
use Rattle.sender_values.specs.declared.Handed.TheVariants as handed
use Rattle.sender_values.specs.declared.Queues.{Queues}
use Rattle.sender_values.specs.declared.SenderState.{SenderState}
use Rattle.sender_values.specs.declared.Work.{Work}
use Rattle.store.specs.Places.{places}
use Rattle.sender_values.specs.Start.{begun, sender_of}
use Rattle.sender_values.specs.Actions.{units_held}
use Rattle.sender_view.specs.View.{fop_of}
use Rattle.sender_view.proofs.SentQueue.{held_least, held_most}
use Rattle.sender_table.specs.Rows.{row_of}
use Rattle.fop.specs.Table.{event_number}
use Rattle.sender_rows_view.specs.State.{Good}
use Rattle.sender_rows_view.proofs.Rows.{Brings, brings, Meets, Shows, store_by, lengths_by, is_offering}
use Rattle.sender_rows_view.proofs.Theorem.{row_view, row_few_lem}
use Rattle.sender_frames.specs.Frames.{place_handed, unit_before}
use Rattle.sender.specs.Events.{store_served, lengths_served, served_by}
use Rattle.our_session.specs.Ours.{lent_output}
use Rattle.our_session.proofs.Writing.{Fits, Carries}
use Rattle.our_session.proofs.Concluding.{Agrees}
use Rattle.our_session.proofs.Bypass.{bypasses, no_bypass}
use Rattle.our_session.proofs.Shown.{held_fits, shown}

-- what an event that offers no unit does to the store and the lengths
others : (b : Brings) (o : List ℕ) (s : SenderState) (w : Work) (store : List ℕ) → is_offering b ≡ false
    → (store_by b o s w store ≡ store_served s w store) × (lengths_by b o s w ≡ lengths_served s w)
others b o s w store t = (no _ _ _ t, no _ _ _ t)

-- g is the state whose row it is: s, or s with its timer lowered
module _ (own : Own) (e : FopEvent) (n : ℕ) (s g : SenderState) (store : List ℕ) (lent : ℕ) (good : Good own s store) (by-good : Good own g store)
    (meets : Meets e [] n g) (same-queues : g.queues ≡ s.queues) (same_lengths : g.lengths ≡ s.lengths) (not-offering : is_offering (brings e) ≡ false)
    (unbypassed : eqb (event_number e) 21 ≡ false) where
  abbrev w : Work
  w = row_of e n (begun g)

  abbrev count : ℕ
  count = w.told.confirmed.count

  -- the units held before the event, and those of them that stay
  abbrev all_held : ℕ
  all_held = units_held s.queues.sent s.queues.waiting

  abbrev lengths : List ℕ
  lengths = lengths_served s w

  abbrev new : List ℕ
  new = store_served s w store

  abbrev m : machine.Work
  m = fop_do e [] n (fop_of (begun g) g.lengths store)

  shows : Shows own e [] n w lengths new m
  shows =
      subst (λ (ls : List ℕ). Shows own e [] n w ls new m) ((others (brings e) [] g w store not-offering).1 ∙ ap (slid count) same_lengths)
      (subst (λ (x : List ℕ). Shows own e [] n w (lengths_by (brings e) [] g w) x m)
      ((others (brings e) [] g w store not-offering).0
      ∙ ap (λ (q : Queues). without g.lengths count (units_held q.sent q.waiting - count) store) same-queues
      ∙ ap (λ (ls : List ℕ). without ls count (all_held - count) store) same_lengths)
      (row_view own e [] n g store by-good meets))

  -- the units confirmed and those still held are no more
  kept_all : count + units_held w.queues.sent w.queues.waiting ≤ all_held
  kept_all =
      subst (λ (q : Queues). count + units_held w.queues.sent w.queues.waiting ≤ units_held q.sent q.waiting) same-queues
      (subst (λ (k : ℕ). count + units_held w.queues.sent w.queues.waiting ≤ k) (no _ _ _ not-offering) (row_few_lem own e [] n g store by-good meets))

  -- the unit at place i after the event stood at place i + count before it
  unit_is : (i : ℕ) → i < w.queues.sent → unit_at s.lengths (i + count) store ≡ unit_at lengths i new
  unfolding begun
  unit_is i h =
      let before : all_held ≤ places = omega (arith, held_most s.queues.sent s.queues.waiting, good.formed.sent_most) in
      let stay : i < all_held - count = omega (arith, h, kept_all, held_least w.queues.sent w.queues.waiting) in
      let few : count + (all_held - count) ≤ length s.lengths = omega (arith, before, stay, good.formed.all_places) in
      let turned : i + count ≡ count + i = omega arith in
      ap (λ (k : ℕ). unit_at s.lengths k store) turned
      ∙ sym (without_unit s.lengths count store good.formed.units (all_held - count) i stay few (omega (arith, held_most s.queues.sent s.queues.waiting, stay, larger_second s.settings.k s.queues.sent, good.formed.room)))

  carried : (h : Option Handed) → w.told.handed ≡ h
      → Carries own s.settings good.spacecraft good.channel good.spacecraft_most good.channel_most lengths new [] (unit_before s w store) lent h
  unfolding sender_of
  carried None q = tt
  carried (Some (handed.Ad k i)) q =
      let p : i < w.queues.sent = shows.sent k i q in
      let u : unit_before s w store ≡ unit_at lengths i new = ap (λ (h : Option Handed). unit_at s.lengths (place_handed h + count) store) q ∙ unit_is i p in
      (u, subst Fits (sym u) (held_fits own (sender_of w lengths) new i shows.good p))
  carried (Some handed.Bd) q = absurd (true≢false (sym (ap bypasses q) ∙ no_bypass e n g unbypassed))
  carried (Some handed.Unlock) q = tt
  carried (Some (handed.SetVr k)) q = tt

  pub serves : Agrees own lent (fop_of (begun s) s.lengths store) m (served_by (Some e) s w store (lent_output lent))
  unfolding served_by
  serves = shown own e [] n s store lengths new (unit_before s w store) lent w m good shows (carried w.told.handed refl)
