-- Every event of the session: our sender's step does what the table machine does on what the sender's state and store read as.
use Rattle.std.specs.Prelude.{Option, None, Some, Ok, Err}
use Prim.Native.Nat.{ℕ, zero, suc, ◌-◌, ◌≤◌, ◌<◌}
use mathlib.Core.Path.{◌≡◌, refl, sym, ap, ap₂, subst, ◌∙◌}
use mathlib.Core.Bool.{Bool, true, false, not, ◌&&◌}
use mathlib.Core.List.{List, [], ◌∷◌}
use mathlib.Core.Option.{none, some}
use native.Mathlib.Omega.{arith}
use borrow.Author.Tests.{leb-true, le-leb, eq-eqb, ne_eqb, eqb-true, eqb-false, not-true}
use lib.Dec.{leb, ltb, eqb}
use lib.ListN.{length, replicate, get_or}
use Rattle.base.specs.Choice.{pick, must, both}
use Rattle.base.specs.Limits.{largest_unit}
use Rattle.base.specs.Fields.{field_at}
use Rattle.base.specs.Modulo.{offset}
use Rattle.base.specs.Outcome.{Outcome, Outcome.done}
use Rattle.base.specs.Outcome as outcome
use Rattle.base.proofs.Tests.{both_left, both_right, yes, no}
use Rattle.base.proofs.Computed.{is_true}
use Rattle.base.proofs.Lists.{octets_at_lem}
use Rattle.store.specs.Places.{unit_at}
use Rattle.store.specs.Slid.{slid}
use Rattle.store.proofs.Parts.{slid_none}
use Rattle.store.proofs.Moving.{without_none}
use Rattle.clcw.specs.Clcw.{virtual_channel, is_valid, word_of}
use Rattle.clcw.specs.Answers.{WordReading, reading_of, received_of}
use Rattle.clcw.specs.declared.Clcw.{Clcw}
use Rattle.base.specs.Refusals.{refusal_number}
use Rattle.base.specs.declared.Refusal.TheVariants.{Address, Length}
use Rattle.base.proofs.Refusals.{some_number}
use Rattle.clcw.proofs.Word.{word_is}
use Rattle.fop.specs.Units.{Own, Frame, Word, WordReceived, invalid, word_received, read_word, are_octets, legal}
use Rattle.fop.specs.declared.Event.{Event as FopEvent}
use Rattle.fop.specs.declared.Event.TheVariants.{E15, E18, E19, E20, E21, E22, E36, E39, E103}
use Rattle.fop.specs.Variables as machine
use Rattle.fop.specs.Variables.{Fop}
use Rattle.fop.specs.Machine.{fop_do}
use Rattle.fop.specs.declared.Lower.{Lower}
use Rattle.fop.specs.Events.{when, first, SenderEvent, request_ad, request_bd, tick, lower, directive, word_arrives, is_empty, seen, word_lines, word_event, expiry_lines, valid_directive, directive_lines, directive_event, work, fop_ad, fop_bd, fop_tick, fop_expiry, fop_lower, fop_directive, fop_received, fop_word}
use Rattle.fop.specs.Events as fop
use Rattle.fop.specs.Answers.{octets_down, room, judged, other_refusal, refused}
use Rattle.fop.specs.Limits.{largest_k}
use Rattle.fop.specs.Store.{store_need, window_at, need_at, store_refusal}
use Rattle.sender_values.specs.declared.SenderState.{SenderState}
use Rattle.sender_values.specs.declared.Handed.{Handed}
use Rattle.sender_values.specs.declared.Work.{Work}
use Rattle.sender_values.specs.Start.{begun, none_told, sender_of}
use Rattle.sender_view.specs.View.{entries_from, fop_of}
use Rattle.sender_values.specs.Actions.{units_held}
use Rattle.sender_table.specs.Rows.{row_if, row_of}
use Rattle.fop.specs.Table.{event_number}
use Rattle.sender_events.specs.Events.{variables_of, event_of_expiry, event_of_ad, event_of_bd, event_of_directive, window_of, event_of_word, told}
use Rattle.sender_rows_view.specs.State.{Good}
use Rattle.sender_rows_view.proofs.Rows.{brings, Meets, is_offering}
use Rattle.fop.proofs.Test.{first_all}
use Rattle.session.proofs.Octets.{octets_are}
use Rattle.sender.specs.Answers.{Step, step_by, refused_step}
use Rattle.sender_frames.specs.Limits.{need_of}
use Rattle.sender_frames.specs.Frames.{handed_writing, unit_before}
use Rattle.sender.specs.Events.{store_served, lengths_served, served_by, served, offered_by, bypassed_by, request_ad_of, request_bd_of, directive_of, ticked, tick_of, lower_layer_of, word_by, control_word_of}
use Rattle.our_session.specs.Ours.{Held, step_of, answer_by, lent_output, reads}
use Rattle.our_session.specs.Does.{Does, Well}
use Rattle.our_session.proofs.Writing.{Fits, fitting}
use Rattle.our_session.proofs.Concluding.{Agrees, concludes, refuses_any}
use Rattle.our_session.proofs.Judged.{agreed, refuses, judged_refused, store_refused, refused_keeps, refused_well}
use Rattle.our_session.proofs.Served.{serves}
use Rattle.our_session.proofs.Requested.{offers, rejects_ad, rejects_bd, bypasses_down}
use Rattle.our_session.proofs.Meets.{word_meets, directive_meets, expiry_meets, valid_not_40, invalid_is_40, set_k_event, window_limits}
use Rattle.our_session.proofs.Widened.{widened, widened_good, good_well, well_good, row_widened, row_none, table_widened, table_none}

-- an event that neither offers a unit nor is E21
abbrev plain : FopEvent → Bool
plain e = both (not (is_offering (brings e))) (not (eqb (event_number e) 21))

plain_not_offering : (e : FopEvent) → plain e ≡ true → is_offering (brings e) ≡ false
plain_not_offering e p = not-true _ (both_left _ _ p)

plain_unbypassed : (e : FopEvent) → plain e ≡ true → eqb (event_number e) 21 ≡ false
plain_unbypassed e p = not-true _ (both_right (not (is_offering (brings e))) _ p)

-- the units on the Sent_Queue are as many as the struct says
pub entries_count : (lengths store : List ℕ) (f p i n : ℕ) → length (entries_from lengths store f p i n) ≡ n
entries_count lengths store f p i zero = refl
entries_count lengths store f p i (suc n) = ap suc (entries_count lengths store f p (suc i) n)

-- work that hands nothing down is not refused, whatever the variables before it
agrees_any : (own : Own) (lent : ℕ) (f g : Fop) (m : machine.Work) (x : Step) → m.frames ≡ [] → Agrees own lent f m x → Agrees own lent g m x
agrees_any own lent f g m x none-down a =
    let b : leb (room (octets_down own m.frames)) lent ≡ true =
    ap (λ (fr : List Frame). leb (room (octets_down own fr)) lent) none-down ∙ le-leb 0 lent (omega arith) in
    record {
      answer = a.answer ∙ yes _ _ _ b ∙ sym (yes _ _ _ b);
      next = a.next ∙ yes _ _ _ b ∙ sym (yes _ _ _ b);
      good = a.good;
    }

-- octets as they are read at our channel
yes_received : (own : Own) (octets : List ℕ) → are_octets octets ≡ true → (r : WordReading) → reading_of octets own.channel ≡ r → read_word own octets ≡ word_received r
unfolding read_word
yes_received own octets t r q = ap (λ (b : Bool). word_received (pick b (reading_of octets own.channel) (Err Length))) t ∙ ap word_received q

module _ (own : Own) (s : SenderState) (store : List ℕ) (lent : ℕ) (well : Well own s) where
  abbrev f : Fop
  f = fop_of (begun s) s.lengths store

  abbrev output : List ℕ
  output = lent_output lent

  abbrev D : SenderEvent → Step → Type 0
  D e x = Does own (length store) lent e f x

  -- the need by the table's variables is that by the struct
  need_is : (e : SenderEvent) (k : ℕ) → window_at e f ≡ k → leb (need_at e f) (length store) ≡ leb (store_need k s.queues.sent) (length store)
  unfolding begun
  need_is e k q =
      ap₂ (λ (j n : ℕ). leb (store_need j n) (length store)) q
      (entries_count s.lengths store (offset s.variables.vs s.queues.sent) (s.queues.sent - s.queues.marked) 0 s.queues.sent)

  refused_by : (e : SenderEvent) (r : ℕ) → store_refusal own e (length store) f ≡ r → eqb r 0 ≡ false → answer_by (refused_step r s store output) ≡ refused r f
      → D e (refused_step r s store output)
  refused_by e r q h a =
      refuses own (length store) lent e f (refused_step r s store output) r q h a (refused_keeps own s store output r) (refused_well own s store output r well)

  judged_by : (e : SenderEvent) (j : ℕ) → judged own e ≡ j → eqb j 0 ≡ false → answer_by (refused_step j s store output) ≡ refused j f → D e (refused_step j s store output)
  judged_by e j q h a = refused_by e j (judged_refused own (length store) lent e f j q h) h a

  -- an event that 10, 12 and 7 do not refuse, judged by the store with the window k
  by_store : (e : SenderEvent) (k : ℕ) (x : Step) → judged own e ≡ 0 → window_at e f ≡ k → (store_need k s.queues.sent ≤ length store → Agrees own lent f (work own e f) x)
      → D e (must (leb (store_need k s.queues.sent) (length store)) (refused_step 11 s store output) x)
  by_store e k x j q h = by (leb (store_need k s.queues.sent) (length store)) refl where
    by : (b : Bool) → leb (store_need k s.queues.sent) (length store) ≡ b → D e (must b (refused_step 11 s store output) x)
    by true t =
        let a = h (leb-true (store_need k s.queues.sent) (length store) t) in
        agreed own (length store) lent e f x j (need_is e k q ∙ t) a (good_well a.good)
    by false t = refused_by e 11 (store_refused own (length store) lent e f j (need_is e k q ∙ t)) refl (refuses_any s store output 11)

  -- an event of the table that is served, of the state g
  by_row : (ev : SenderEvent) → judged own ev ≡ 0 → window_at ev f ≡ s.settings.k → (e : FopEvent) (n : ℕ) (g : SenderState)
      → work own ev f ≡ fop_do e [] n (fop_of (begun g) g.lengths store) → (Good own s store → Good own g store × Meets e [] n g)
      → g.queues ≡ s.queues → g.lengths ≡ s.lengths → plain e ≡ true → D ev (served s.settings.k (Some e) n s g store output)
  unfolding served row_if
  by_row ev j i e n g is meets q l p =
      by_store ev s.settings.k _ j i
      (λ room.
      let good = well store room in
      let w = meets good in
      subst (λ (m : machine.Work). Agrees own lent f m (served_by (Some e) s (row_of e n (begun g)) store output)) (sym is)
      (serves own e n s g store lent good w.0 w.1 q l (plain_not_offering e p) (plain_unbypassed e p)))

  -- Answers of the lower layer.
  lower_row : (l : Lower) → (plain (fop.lower_event l) ≡ true) × Meets (fop.lower_event l) [] 0 s
  lower_row Lower.AdAccept = (refl, tt)
  lower_row Lower.AdReject = (refl, tt)
  lower_row Lower.BcAccept = (refl, tt)
  lower_row Lower.BcReject = (refl, tt)
  lower_row Lower.BdAccept = (refl, tt)
  lower_row Lower.BdReject = (refl, tt)

  pub lower_does : (l : Lower) → D (lower l) (lower_layer_of l s store output)
  unfolding lower_layer_of work fop_lower judged begun
  lower_does l = by_row (lower l) refl refl (fop.lower_event l) 0 s refl (λ g. (g, (lower_row l).1)) refl refl (lower_row l).0

  -- Directives.
  directive_plain : (d v : ℕ) → plain (directive_event d v (variables_of s)) ≡ true
  unfolding directive_event
  directive_plain d v = is_true _ (first_all plain (directive_lines d v (variables_of s)) E39 tt)

  -- Set K, of the sender that has the new K: it hands nothing down, so it is the same of this one
  served_same : (k : Option FopEvent) (v : ℕ) (w : Work) → w.told.handed ≡ None → served_by k (widened v s) w store output ≡ served_by k s w store output
  unfolding served_by handed_writing
  served_same k v w none-down =
      let F : SenderState → Option Handed → Step = λ t h.
      step_by k t w (lengths_served s w) (handed_writing t.settings h (unit_before s w store) (length output)) (store_served s w store) store output in
      ap (F (widened v s)) none-down ∙ sym (ap (F s) none-down)

  set_k_agrees : (v : ℕ) → 1 ≤ v → v ≤ largest_k → store_need v s.queues.sent ≤ length store
      → Agrees own lent f (fop_do E36 [] v f) (served_by (Some E36) s (row_of E36 v (begun s)) store output)
  set_k_agrees v least most room =
      let g = widened v s in
      let w = row_of E36 v (begun s) in
      let good = widened_good own s (replicate (need_of s) 0) (well_good own s well) v least most store room in
      let same : served_by (Some E36) g (row_of E36 v (begun g)) store output ≡ served_by (Some E36) s w store output =
      ap (λ (x : Work). served_by (Some E36) g x store output) (sym (row_widened v s v)) ∙ served_same (Some E36) v w (row_none v s).0 in
      agrees_any own lent (fop_of (begun g) s.lengths store) f (fop_do E36 [] v f) _ (table_none v s v s.lengths store)
      (subst (λ (m : machine.Work). Agrees own lent (fop_of (begun g) s.lengths store) m (served_by (Some E36) s (row_of E36 v (begun s)) store output))
      (sym (table_widened v s v s.lengths store))
      (subst (λ (x : Step). Agrees own lent (fop_of (begun g) s.lengths store) (fop_do E36 [] v (fop_of (begun g) s.lengths store)) x) same
      (serves own E36 v g g store lent good good refl refl refl refl refl)))

  -- a valid directive is served
  directive_served : (d v : ℕ) → valid_directive d v ≡ true → directive_of d v s store output ≡ served (window_of d v s.settings.k) (Some (event_of_directive d v s)) v s s store output
  unfolding directive_of event_of_directive
  directive_served d v t = no _ _ _ (valid_not_40 d v s t)

  set_k_does : (v : ℕ) → valid_directive 8 v ≡ true → D (directive 8 v) (directive_of 8 v s store output)
  unfolding event_of_directive work fop_directive judged directive_event served row_if
  set_k_does v t =
      let l = window_limits v t in
      let e : directive_event 8 v (variables_of s) ≡ E36 = set_k_event v s t in
      subst (λ (x : Step). D (directive 8 v) x)
      (sym (directive_served 8 v t ∙ ap (λ (y : FopEvent). served v (Some y) v s s store output) e))
      (by_store (directive 8 v) v _ (yes _ _ _ t) refl
      (λ room. subst (λ (y : FopEvent). Agrees own lent f (fop_do y [] v f) (served_by (Some E36) s (row_of E36 v (begun s)) store output)) (sym e)
      (set_k_agrees v l.0 l.1 room)))

  directive_valid : (d v : ℕ) → valid_directive d v ≡ true → eqb d 8 ≡ false → D (directive d v) (directive_of d v s store output)
  unfolding event_of_directive work fop_directive judged directive_event begun
  directive_valid d v t other =
      subst (λ (x : Step). D (directive d v) x)
      (sym (directive_served d v t ∙ ap (λ (k : ℕ). served k (Some (event_of_directive d v s)) v s s store output) (no _ _ _ other)))
      (by_row (directive d v) (yes _ _ _ t) (no _ _ _ other) (directive_event d v (variables_of s)) v s refl
      (λ g. (g, directive_meets d v s t g.suspend_most (λ q. absurd (eqb-false d 8 other q)))) refl refl (directive_plain d v))

  directive_invalid : (d v : ℕ) → valid_directive d v ≡ false → D (directive d v) (directive_of d v s store output)
  unfolding directive_of event_of_directive judged
  directive_invalid d v t =
      subst (λ (x : Step). D (directive d v) x) (sym (yes _ _ _ (ap (λ (e : FopEvent). eqb (event_number e) 40) (invalid_is_40 d v s t))))
      (judged_by (directive d v) 12 (no _ _ _ t) refl (refuses_any s store output 12))

  pub directive_does : (d v : ℕ) → D (directive d v) (directive_of d v s store output)
  directive_does d v = by (valid_directive d v) refl (eqb d 8) refl where
    by : (b : Bool) → valid_directive d v ≡ b → (c : Bool) → eqb d 8 ≡ c → D (directive d v) (directive_of d v s store output)
    by true t true c =
        let e : d ≡ 8 = eqb-true d 8 c in
        subst (λ (n : ℕ). D (directive n v) (directive_of n v s store output)) (sym e) (set_k_does v (ap (λ (n : ℕ). valid_directive n v) (sym e) ∙ t))
    by true t false c = directive_valid d v t c
    by false t b c = directive_invalid d v t

  -- Ticks.
  abbrev expired : FopEvent
  expired =
      first (expiry_lines (ltb s.variables.transmission_count s.settings.transmission_limit) (eqb s.settings.timeout_type 0)) E18

  expiry_plain : plain expired ≡ true
  expiry_plain =
      is_true _ (first_all plain (expiry_lines (ltb s.variables.transmission_count s.settings.transmission_limit) (eqb s.settings.timeout_type 0)) E18 tt)

  ticked_good : Good own s store → Good own (ticked s) store
  unfolding begun
  ticked_good good = record {
    formed = good.formed;
    window_least = good.window_least;
    window = good.window;
    clock_least = good.clock_least;
    limit_least = good.limit_least;
    limit = good.limit;
    count_least = good.count_least;
    count_most = good.count_most;
    type_most = good.type_most;
    suspend_most = good.suspend_most;
    suspend_initial = good.suspend_initial;
    sent_main = good.sent_main;
    waiting_main = good.waiting_main;
    stopped = λ q. omega (arith, good.stopped q);
    control_s5 = good.control_s5;
    filled = good.filled;
    spacecraft = good.spacecraft;
    channel = good.channel;
    spacecraft_most = good.spacecraft_most;
    channel_most = good.channel_most;
  }

  abbrev lowered : Fop
  lowered = fop_of (begun (ticked s)) s.lengths store

  -- the tick that makes the timer zero
  expires : s.variables.timer ≡ 1 → D tick (served s.settings.k (Some (event_of_expiry (ticked s))) 0 s (ticked s) store output)
  unfolding event_of_expiry work fop_tick fop_expiry judged begun
  expires one =
      by_row tick refl refl expired 0 (ticked s) (yes _ _ _ (eq-eqb s.variables.timer 1 one))
      (λ g. (ticked_good g, expiry_meets (ticked s) (omega (arith, one)))) refl refl expiry_plain

  -- any other
  passes : Good own s store → Agrees own lent f (machine.begin none [] 0 lowered) (served_by None s (begun (ticked s)) store output)
  unfolding served_by handed_writing begun none_told sender_of
  passes good =
      let w : Work = begun (ticked s) in
      let staying = units_held s.queues.sent s.queues.waiting - 0 in
      let nothing_down : done [] tt ≡ fitting none lent = ap (λ (b : Bool). pick {A = Outcome (Unit {0})} b (done [] tt) (outcome.Outcome.refused 11 0)) (sym (le-leb 0 lent (omega arith))) in
      subst (λ (x : Step). Agrees own lent f (machine.begin none [] 0 lowered) x)
      (sym (ap (λ (x : List ℕ). step_by None s w (slid 0 s.lengths) (done [] tt) x store output) (without_none s.lengths staying store)
      ∙ ap (λ (ls : List ℕ). step_by None s w ls (done [] tt) store store output) (slid_none s.lengths)
      ∙ ap (λ (x : Outcome (Unit {0})). step_by None s w s.lengths x store store output) nothing_down))
      (concludes own None [] 0 s store s.lengths store w (machine.begin none [] 0 lowered) lent refl refl refl (ticked_good good) good tt)

  waits : eqb s.variables.timer 1 ≡ false → D tick (served s.settings.k None 0 s (ticked s) store output)
  unfolding served row_if work fop_tick judged begun
  waits running =
      by_store tick s.settings.k _ refl refl
      (λ room. subst (λ (m : machine.Work). Agrees own lent f m (served_by None s (begun (ticked s)) store output)) (sym (no _ _ _ running)) (passes (well store room)))

  pub tick_does : D tick (tick_of s store output)
  unfolding tick_of
  tick_does = by (eqb s.variables.timer 1) refl where
    by : (b : Bool) → eqb s.variables.timer 1 ≡ b → D tick (served s.settings.k (pick b (Some (event_of_expiry (ticked s))) None) 0 s (ticked s) store output)
    by true t = expires (eqb-true s.variables.timer 1 t)
    by false t = waits t

  -- Control words.
  abbrev report_in : WordReading → ℕ
  report_in (Ok (Some r)) = r.word.report
  report_in (Ok None) = 0
  report_in (Err refusal) = 0

  report_octet : (octets : List ℕ) (channel : ℕ) → are_octets octets ≡ true → report_in (reading_of octets channel) < 256
  unfolding reading_of received_of
  report_octet octets channel t = by (eqb (length octets) 4) refl (is_valid octets) (eqb (field_at virtual_channel octets) channel) where
    at_octet : (i : ℕ) → get_or octets i 0 < 256
    at_octet = octets_at_lem octets (octets_are octets t)

    by : (a : Bool) → eqb (length octets) 4 ≡ a → (b c : Bool)
        → report_in (must a (Err Length) (must b (Ok None) (must c (Err Address) (Ok (Some (received_of octets)))))) < 256
    by true e true true =
        let q : (word_of octets).report ≡ get_or octets 3 0 = ap (λ (x : Clcw). x.report) (word_is octets (eqb-true (length octets) 4 e) at_octet) in
        omega (arith, q, at_octet 3)
    by true e true false = omega arith
    by true e false c = omega arith
    by false e b c = omega arith

  word_plain : (w : Word) → plain (word_event (seen w (variables_of s))) ≡ true
  unfolding word_event
  word_plain w = is_true _ (first_all plain (word_lines (seen w (variables_of s))) E103 tt)

  -- by what the octets are read as
  received_does : (octets : List ℕ) → are_octets octets ≡ true → (r : WordReading) → reading_of octets own.channel ≡ r → report_in r < 256
      → D (word_arrives octets) (word_by r s store output)
  unfolding event_of_word work fop_received fop_word judged read_word begun
  received_does octets t (Ok (Some r)) q o =
      let h : read_word own octets ≡ word_received (Ok (Some r)) = yes_received own octets t (Ok (Some r)) q in
      by_row (word_arrives octets) (ap other_refusal h) refl (word_event (seen (told r.word) (variables_of s))) r.word.report s
      (ap (λ (x : WordReceived). fop_received x f) h) (λ g. (g, word_meets (told r.word) s o)) refl refl (word_plain (told r.word))
  received_does octets t (Ok None) q o =
      let h : read_word own octets ≡ invalid = yes_received own octets t (Ok None) q in
      by_row (word_arrives octets) (ap other_refusal h) refl E15 0 s (ap (λ (x : WordReceived). fop_received x f) h) (λ g. (g, tt)) refl refl refl
  received_does octets t (Err refusal) q o =
      judged_by (word_arrives octets) (refusal_number refusal) (ap other_refusal (yes_received own octets t (Err refusal) q))
      (ne_eqb (refusal_number refusal) 0 (some_number refusal)) (refuses_any s store output (refusal_number refusal))

  own_channel_lem : s.settings.channel ≡ own.channel
  own_channel_lem = (well_good own s well).channel

  pub word_does : (octets : List ℕ) → are_octets octets ≡ true → D (word_arrives octets) (control_word_of octets s store output)
  unfolding control_word_of
  word_does octets t =
      subst (λ (c : ℕ). D (word_arrives octets) (word_by (reading_of octets c) s store output)) (sym own_channel_lem)
      (received_does octets t (reading_of octets own.channel) refl (report_octet octets own.channel t))

  -- Requests.
  legal_fits : (o : List ℕ) → leb 1 (length o) ≡ true → leb (length o) largest_unit ≡ true → Fits o
  legal_fits o a b = (leb-true _ _ a, leb-true _ _ b)

  -- an AD request, by the Wait_Queue
  abbrev by_waiting : List ℕ → Bool → FopEvent
  by_waiting unit b = first (when (is_empty (pick b (some unit) none)) E19 ∷ []) E20

  ad_event_lem : Good own s store → (o : List ℕ) → Fits o → (b : Bool)
      → Agrees own lent f (fop_do (by_waiting [] b) o 0 f)
      (offered_by (by_waiting [] b) s (row_of (by_waiting [] b) 0 (begun s)) o store output)
  ad_event_lem good o legal true = rejects_ad own o s store lent good
  ad_event_lem good o legal false = offers own o s store lent good legal

  unit_aside : (u v : List ℕ) (b : Bool) → by_waiting u b ≡ by_waiting v b
  unit_aside u v true = refl
  unit_aside u v false = refl

  ad_row : Good own s store → (o : List ℕ) → Fits o → Agrees own lent f (fop_ad o f) (offered_by (event_of_ad s) s (row_of (event_of_ad s) 0 (begun s)) o store output)
  unfolding fop_ad event_of_ad begun
  ad_row good o legal =
      let u : List ℕ = unit_at s.lengths s.queues.sent store in
      let v : List ℕ = unit_at s.lengths s.queues.sent [] in
      subst (λ (e : FopEvent). Agrees own lent f (fop_do e o 0 f) (offered_by (event_of_ad s) s (row_of (event_of_ad s) 0 (begun s)) o store output))
      (unit_aside [] u s.queues.waiting)
      (subst (λ (e : FopEvent). Agrees own lent f (fop_do (by_waiting [] s.queues.waiting) o 0 f)
      (offered_by e s (row_of e 0 (begun s)) o store output))
      (unit_aside [] v s.queues.waiting) (ad_event_lem good o legal s.queues.waiting))

  -- a BD request, by the BD_Out_Flag
  bd_event : Good own s store → (o : List ℕ) → Fits o → (b : Bool)
      → Agrees own lent f (fop_do (first (when b E21 ∷ []) E22) o 0 f)
      (bypassed_by (first (when b E21 ∷ []) E22) s (row_of (first (when b E21 ∷ []) E22) 0 (begun s)) o store output)
  bd_event good o legal true = bypasses_down own o s store lent good legal
  bd_event good o legal false = rejects_bd own o s store lent good

  bd_row : Good own s store → (o : List ℕ) → Fits o → Agrees own lent f (fop_bd o f) (bypassed_by (event_of_bd s) s (row_of (event_of_bd s) 0 (begun s)) o store output)
  unfolding fop_bd event_of_bd begun
  bd_row good o legal = bd_event good o legal s.variables.bd_out

  -- a request is judged by its length, and by whether it is octets at all
  module _ (e : SenderEvent) (o : List ℕ) (x : Step) (judged_is : judged own e ≡ pick (legal o) 0 10) (window : window_at e f ≡ s.settings.k)
      (agrees : Good own s store → Fits o → Agrees own lent f (work own e f) x) where
    abbrev asked : Bool → Bool → Bool → Step
    asked a b c =
        pick c (must a (refused_step 10 s store output) (must b (refused_step 10 s store output) (must (leb (need_of s) (length store)) (refused_step 11 s store output) x)))
        (refused_step 10 s store output)

    request_does : D e (asked (leb 1 (length o)) (leb (length o) largest_unit) (are_octets o))
    unfolding legal
    request_does = by (leb 1 (length o)) refl (leb (length o) largest_unit) refl (are_octets o) refl where
      stopped : judged own e ≡ 10 → D e (refused_step 10 s store output)
      stopped j = judged_by e 10 j refl (refuses_any s store output 10)

      test : (a b c : Bool) → leb 1 (length o) ≡ a → leb (length o) largest_unit ≡ b → are_octets o ≡ c → judged own e ≡ pick (a && (b && c)) 0 10
      test a b c p q r =
          judged_is ∙ ap (λ (y : Bool). pick (y && (leb (length o) largest_unit && are_octets o)) 0 10) p ∙ ap (λ (y : Bool). pick (a && (y && are_octets o)) 0 10) q
          ∙ ap (λ (y : Bool). pick (a && (b && y)) 0 10) r

      by : (a : Bool) → leb 1 (length o) ≡ a → (b : Bool) → leb (length o) largest_unit ≡ b → (c : Bool) → are_octets o ≡ c → D e (asked a b c)
      by true p true q true r =
          by_store e s.settings.k x (test true true true p q r) window (λ room. agrees (well store room) (legal_fits o p q))
      by true p true q false r = stopped (test true true false p q r)
      by true p false q true r = stopped (test true false true p q r)
      by true p false q false r = stopped (test true false false p q r)
      by false p b q true r = stopped (test false b true p q r)
      by false p b q false r = stopped (test false b false p q r)

  pub ad_does : (o : List ℕ) → D (request_ad o) (pick (are_octets o) (request_ad_of s o store output) (refused_step 10 s store output))
  unfolding request_ad_of work judged begun
  ad_does o =
      request_does (request_ad o) o (offered_by (event_of_ad s) s (row_of (event_of_ad s) 0 (begun s)) o store output) refl refl (λ good. ad_row good o)

  pub bd_does : (o : List ℕ) → D (request_bd o) (pick (are_octets o) (request_bd_of s o store output) (refused_step 10 s store output))
  unfolding request_bd_of work judged begun
  bd_does o = request_does (request_bd o) o (bypassed_by (event_of_bd s) s (row_of (event_of_bd s) 0 (begun s)) o store output) refl refl (λ good. bd_row good o)

  -- a word that is no octets is refused as one not of four
  word_octets_lem : (octets : List ℕ) (b : Bool) → are_octets octets ≡ b
      → D (word_arrives octets) (pick b (control_word_of octets s store output) (refused_step 10 s store output))
  unfolding judged read_word
  word_octets_lem octets true t = word_does octets t
  word_octets_lem octets false t =
      judged_by (word_arrives octets) 10 (ap (λ (b : Bool). other_refusal (word_received (pick b (reading_of octets own.channel) (Err Length)))) t) refl (refuses_any s store output 10)

  pub any_word_does : (octets : List ℕ) → D (word_arrives octets) (pick (are_octets octets) (control_word_of octets s store output) (refused_step 10 s store output))
  any_word_does octets = word_octets_lem octets (are_octets octets) refl

-- every event
pub does : (own : Own) (e : SenderEvent) (lent : ℕ) (x : Held) → Well own x.sender.fop
    → Does own (length x.store) lent e (reads x) (step_of e (lent_output lent) x)
unfolding step_of
does own (request_ad o) lent x g = ad_does own x.sender.fop x.store lent g o
does own (request_bd o) lent x g = bd_does own x.sender.fop x.store lent g o
does own tick lent x g = tick_does own x.sender.fop x.store lent g
does own (lower l) lent x g = lower_does own x.sender.fop x.store lent g l
does own (directive d v) lent x g = directive_does own x.sender.fop x.store lent g d v
does own (word_arrives s) lent x g = any_word_does own x.sender.fop x.store lent g s
