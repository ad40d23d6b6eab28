-- Requests to transfer a unit. The unit offered is the one handed down, or an older one that is marked; a BD unit goes straight down.
use Rattle.std.specs.Prelude.{Option, None, Some}
use Prim.Native.Nat.{ℕ, suc, ◌+◌, ◌-◌, ◌≤◌, ◌<◌}
use mathlib.Core.Path.{◌≡◌, refl, sym, ap, subst, ◌∙◌}
use mathlib.Core.Bool.{Bool, true, false, true≢false}
use mathlib.Core.List.{List}
use native.Mathlib.Omega.{arith}
use borrow.Author.Tests.{eqb-true, eqb-false}
use lib.Dec.{eqb}
use lib.ListN.{length, set}
use Rattle.base.specs.Choice.{pick}
use Rattle.base.proofs.Tests.{yes, no}
use Rattle.store.specs.Places.{place_offset, unit_at, unit_put, without}
use Rattle.store.specs.Slid.{slid}
use Rattle.store.proofs.Parts.{slid_none}
use Rattle.store.proofs.Moving.{without_none}
use Rattle.store.proofs.Laws.{put_there, put_before}
use Rattle.store.proofs.Need.{larger_second}
use Rattle.fop.specs.Effective.{in_service}
use Rattle.fop.specs.Units.{Own}
use Rattle.fop.specs.declared.Event.{Event as FopEvent}
use Rattle.fop.specs.declared.Event.TheVariants.{E19, E20, E21, E22}
use Rattle.fop.specs.Table.{table78, cell78}
use Rattle.fop.specs.Variables as machine
use Rattle.fop.specs.Machine.{fop_do}
use Rattle.sender_values.specs.declared.Handed.{Handed}
use Rattle.sender_values.specs.declared.Handed.TheVariants as handed
use Rattle.fop.specs.declared.State.{State}
use Rattle.sender_values.specs.declared.SenderState.{SenderState}
use Rattle.sender_values.specs.declared.Work.{Work}
use Rattle.sender_values.specs.Actions as act
use Rattle.sender_values.specs.Actions.{units_held}
use Rattle.sender_values.specs.Parts.{with_variables, with_told}
use Rattle.sender_values.specs.Start.{begun, none_told, sender_of}
use Rattle.sender_view.specs.View.{fop_of}
use Rattle.sender_table.specs.Rows.{done, done_all, done_cell, row_of}
use Rattle.sender_rows_view.specs.State.{Good}
use Rattle.sender_rows_view.proofs.Rows.{Meets, Shows, brings, is_offering, lengths_after}
use Rattle.sender_rows_view.proofs.Allowed.{in_states}
use Rattle.fop.proofs.Choices.{never}
use Rattle.sender_rows_view.proofs.Theorem.{row_view, row_few_lem}
use Rattle.sender.specs.Answers.{step_by}
use Rattle.sender_frames.specs.Frames.{handed_writing, place_handed, unit_offered}
use Rattle.sender.specs.Events.{offered_by, bypassed_by}
use Rattle.our_session.specs.Ours.{lent_output}
use Rattle.our_session.proofs.Writing.{Fits, Carries}
use Rattle.our_session.proofs.Concluding.{Agrees}
use Rattle.our_session.proofs.Bypass.{bypasses, no_bypass}
use Rattle.our_session.proofs.Shown.{held_fits, shown}

-- What rows E19 (out of S1 to S3), E20, E21 and E22 hand down and confirm, by computing in each state.
module _ (n : ℕ) (s : SenderState) where
  abbrev in_state : FopEvent → State → Work
  in_state e x = done_cell (cell78 (table78 e) x) n (begun s)

  -- this is handed down, and no unit confirmed
  abbrev Tells : Option Handed → Work → Type 0
  Tells h w = (w.told.handed ≡ h) × (w.told.confirmed.count ≡ 0)

  e19_outside : in_service s.state ≡ false → (row_of E19 n (begun s)).told.handed ≡ None
  unfolding row_of table78 done_cell done_all done act.respond act.to_state with_told begun none_told
  e19_outside =
      in_states (λ x. in_service x ≡ false → (in_state E19 x).told.handed ≡ None) never never never (λ t. refl) (λ t. refl) (λ t. refl) s.state

  e20_none : Tells None (row_of E20 n (begun s))
  unfolding row_of table78 done_cell done_all done act.respond act.to_state with_told begun none_told
  e20_none = in_states (λ x. Tells None (in_state E20 x)) (refl, refl) (refl, refl) (refl, refl) (refl, refl) (refl, refl) (refl, refl) s.state

  e21_bd : Tells (Some handed.Bd) (row_of E21 n (begun s))
  unfolding row_of table78 done_cell done_all done act.transmit_bd_frame act.hand_down act.to_state with_variables with_told begun none_told
  e21_bd = in_states (λ x. Tells (Some handed.Bd) (in_state E21 x)) (refl, refl) (refl, refl) (refl, refl) (refl, refl) (refl, refl) (refl, refl) s.state

  e22_none : Tells None (row_of E22 n (begun s))
  unfolding row_of table78 done_cell done_all done act.respond act.to_state with_told begun none_told
  e22_none = in_states (λ x. Tells None (in_state E22 x)) (refl, refl) (refl, refl) (refl, refl) (refl, refl) (refl, refl) (refl, refl) s.state

less_of : (a b : ℕ) → a ≤ b → (a ≡ b → ⊥) → a < b
less_of a b h n = omega (arith, h, n)

abbrev is_none : Option Handed → Bool
is_none None = true
is_none (Some (handed.Ad n i)) = false
is_none (Some handed.Bd) = false
is_none (Some handed.Unlock) = false
is_none (Some (handed.SetVr n)) = false

-- nothing confirmed: the store and the lengths are as they were
same_store : (lengths : List ℕ) (count held : ℕ) (store : List ℕ) → count ≡ 0 → without lengths count (held - count) store ≡ store
same_store lengths count held store z = ap (λ (k : ℕ). without lengths k (held - k) store) z ∙ without_none lengths (held - 0) store

same_lengths : (lengths : List ℕ) (count : ℕ) → count ≡ 0 → slid count lengths ≡ lengths
same_lengths lengths count z = ap (λ (k : ℕ). slid k lengths) z ∙ slid_none lengths

module _ (own : Own) (o : List ℕ) (s : SenderState) (store : List ℕ) (lent : ℕ) (good : Good own s store) (legal : Fits o) where
  -- E19: the unit is added in S1 to S3
  abbrev w : Work
  w = row_of E19 0 (begun s)

  abbrev longer : List ℕ
  longer = set s.lengths s.queues.sent (length o)

  abbrev put : List ℕ
  put = unit_put s.queues.sent o store

  abbrev lengths : List ℕ
  lengths = pick (in_service s.state) longer s.lengths

  abbrev new : List ℕ
  new = pick (in_service s.state) put store

  abbrev m : machine.Work
  m = fop_do E19 o 0 (fop_of (begun s) s.lengths store)

  shows : Shows own E19 o 0 w lengths new m
  shows = row_view own E19 o 0 s store good legal

  few : s.queues.sent < length s.lengths
  unfolding begun
  few = omega (arith, good.formed.sent_most, good.formed.all_places)

  fits_store : place_offset s.queues.sent + length o ≤ length store
  unfolding begun
  fits_store = omega (arith, good.formed.room, legal.1, larger_second s.settings.k s.queues.sent)

  -- the unit at a place, before and after, in S1 to S3
  unit_is : in_service s.state ≡ true → (i : ℕ) → i < w.queues.sent
      → pick (eqb i s.queues.sent) o (unit_at s.lengths i store) ≡ unit_at lengths i new
  unfolding begun
  unit_is t i h = by (eqb i s.queues.sent) refl where
    after : unit_at longer i put ≡ unit_at lengths i new
    after = ap (λ (x : List ℕ). unit_at longer i x) (sym (yes _ _ _ t)) ∙ ap (λ (x : List ℕ). unit_at x i new) (sym (yes _ _ _ t))

    below : i ≤ s.queues.sent
    below = last w.queues.waiting (row_few_lem own E19 o 0 s store good legal) where
      last : (b : Bool) → w.told.confirmed.count + units_held w.queues.sent b ≤ suc s.queues.sent → i ≤ s.queues.sent
      last true f = omega (arith, f, h)
      last false f = omega (arith, f, h)

    by : (b : Bool) → eqb i s.queues.sent ≡ b → pick b o (unit_at s.lengths i store) ≡ unit_at lengths i new
    by true q =
        sym (put_there s.lengths store o s.queues.sent few fits_store)
        ∙ ap (λ (k : ℕ). unit_at longer k put) (sym (eqb-true i s.queues.sent q)) ∙ after
    by false q =
        let less : i < s.queues.sent = less_of i s.queues.sent below (eqb-false i s.queues.sent q) in
        sym (put_before s.lengths store o s.queues.sent good.formed.units i less) ∙ after

  carried : (h : Option Handed) → w.told.handed ≡ h
      → Carries own s.settings good.spacecraft good.channel good.spacecraft_most good.channel_most lengths new o (unit_offered s w o store) lent h
  unfolding sender_of
  carried None q = tt
  carried (Some (handed.Ad k i)) q =
      let p : i < w.queues.sent = shows.sent k i q in
      let v : (b : Bool) → in_service s.state ≡ b → in_service s.state ≡ true = main k i q in
      let u : unit_offered s w o store ≡ unit_at lengths i new =
      ap (λ (h : Option Handed). pick (eqb (place_handed h) s.queues.sent) o (unit_at s.lengths (place_handed h) store)) q ∙ unit_is (v (in_service s.state) refl) i p in
      (u, subst Fits (sym u) (held_fits own (sender_of w lengths) new i shows.good p)) where
        main : (k i : ℕ) → w.told.handed ≡ (Some (handed.Ad k i)) → (b : Bool) → in_service s.state ≡ b → in_service s.state ≡ true
        main k i q true t = t
        main k i q false t = let z : None ≡ (Some (handed.Ad k i)) = sym (e19_outside 0 s t) ∙ q in absurd (true≢false (ap is_none z))
  carried (Some handed.Bd) q = absurd (true≢false (sym (ap bypasses q) ∙ no_bypass E19 0 s refl))
  carried (Some handed.Unlock) q = tt
  carried (Some (handed.SetVr k)) q = tt

  pub offers : Agrees own lent (fop_of (begun s) s.lengths store) m (offered_by E19 s w o store (lent_output lent))
  unfolding offered_by
  offers = shown own E19 o 0 s store lengths new (unit_offered s w o store) lent w m good shows (carried w.told.handed refl)

-- a row that hands nothing down and confirms nothing: E20, E22
module _ (own : Own) (e : FopEvent) (o u : List ℕ) (s : SenderState) (store : List ℕ) (lent : ℕ) (good : Good own s store)
    (none-down : (row_of e 0 (begun s)).told.handed ≡ None)
    (shows : Shows own e o 0 (row_of e 0 (begun s)) s.lengths store (fop_do e o 0 (fop_of (begun s) s.lengths store))) where
  pub keeps : Agrees own lent (fop_of (begun s) s.lengths store) (fop_do e o 0 (fop_of (begun s) s.lengths store))
      (step_by (Some e) s (row_of e 0 (begun s)) s.lengths
      (handed_writing s.settings (row_of e 0 (begun s)).told.handed u (length (lent_output lent))) store store (lent_output lent))
  keeps =
      shown own e o 0 s store s.lengths store u lent (row_of e 0 (begun s)) (fop_do e o 0 (fop_of (begun s) s.lengths store)) good shows
      (subst (Carries own s.settings good.spacecraft good.channel good.spacecraft_most good.channel_most s.lengths store o u lent)
      (sym none-down) tt)

module _ (own : Own) (o : List ℕ) (s : SenderState) (store : List ℕ) (lent : ℕ) (good : Good own s store) where
  -- a row that offers and confirms nothing keeps the store and the lengths
  kept : (e : FopEvent) → Meets e o 0 s → is_offering (brings e) ≡ false → (row_of e 0 (begun s)).told.confirmed.count ≡ 0
      → Shows own e o 0 (row_of e 0 (begun s)) s.lengths store (fop_do e o 0 (fop_of (begun s) s.lengths store))
  kept e meets t z =
      let w = row_of e 0 (begun s) in
      let m = fop_do e o 0 (fop_of (begun s) s.lengths store) in
      let held = units_held s.queues.sent s.queues.waiting in
      subst (λ (ls : List ℕ). Shows own e o 0 w ls store m) (no _ _ _ t ∙ same_lengths s.lengths w.told.confirmed.count z)
      (subst (λ (x : List ℕ). Shows own e o 0 w (lengths_after e o s w) x m) (no _ _ _ t ∙ same_store s.lengths w.told.confirmed.count held store z)
      (row_view own e o 0 s store good meets))

  -- E20: the Wait_Queue holds a unit already
  pub rejects_ad : Agrees own lent (fop_of (begun s) s.lengths store) (fop_do E20 o 0 (fop_of (begun s) s.lengths store)) (offered_by E20 s (row_of E20 0 (begun s)) o store (lent_output lent))
  unfolding offered_by
  rejects_ad =
      keeps own E20 o (unit_offered s (row_of E20 0 (begun s)) o store) s store lent good (e20_none 0 s).0 (kept E20 tt refl (e20_none 0 s).1)

  -- E22: BD_Out_Flag is Not_Ready
  pub rejects_bd : Agrees own lent (fop_of (begun s) s.lengths store) (fop_do E22 o 0 (fop_of (begun s) s.lengths store)) (bypassed_by E22 s (row_of E22 0 (begun s)) o store (lent_output lent))
  unfolding bypassed_by
  rejects_bd = keeps own E22 o o s store lent good (e22_none 0 s).0 (kept E22 tt refl (e22_none 0 s).1)

  -- E21: the BD unit goes down
  pub bypasses_down : Fits o → Agrees own lent (fop_of (begun s) s.lengths store) (fop_do E21 o 0 (fop_of (begun s) s.lengths store)) (bypassed_by E21 s (row_of E21 0 (begun s)) o store (lent_output lent))
  unfolding bypassed_by
  bypasses_down legal =
      let w = row_of E21 0 (begun s) in
      shown own E21 o 0 s store s.lengths store o lent w (fop_do E21 o 0 (fop_of (begun s) s.lengths store)) good (kept E21 tt refl (e21_bd 0 s).1)
      (subst (Carries own s.settings good.spacecraft good.channel good.spacecraft_most good.channel_most s.lengths store o o lent) (sym (e21_bd 0 s).0) (refl, legal))
