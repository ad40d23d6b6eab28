-- Transmission and retransmission: the view of the action's result is the machine's action on the view. An event hands down one frame at
-- the most, so each law that hands one down asks that none is yet.
use Rattle.std.specs.Prelude.{None, Some}
use Rattle.std.specs.Prelude as std
use mathlib.Core.Path.{◌≡◌, refl, sym, ap, ◌∙◌}
use mathlib.Core.Bool.{Bool, true, false, ◌&&◌}
use mathlib.Core.List.{List, [], ◌∷◌, ◌++◌}
use mathlib.Core.Option.{Option, none, some}
use Prim.Native.Nat.{ℕ, zero, suc, ◌+◌, ◌-◌, ◌≤◌, ◌<◌}
use native.Mathlib.Omega.{arith}
use borrow.Author.Tests.{ltb-true, ltb-false, lt-leb, ne_eqb}
use lib.Dec.{ltb, leb, eqb}
use Rattle.base.specs.Choice.{pick}
use Rattle.base.specs.Modulo.{advanced, offset}
use Rattle.base.proofs.Tests.{yes, no}
use Rattle.fop.specs.Limits.{largest_k}
use Rattle.store.specs.Places.{unit_at}
use Rattle.fop.specs.Units.{Fdu, Frame, AD, BD, Unlock, SetVR}
use Rattle.fop.specs.declared.Action.TheVariants as action
use Rattle.fop.specs.declared.Event.{Event as FopEvent}
use Rattle.fop.specs.Variables as machine
use Rattle.fop.specs.Variables.{Entry, BcEntry}
use Rattle.fop.specs.Machine.{perform, mark_all, unmark, first_marked, count_for, transmit_ad, send_waiting, send_next, look_for_fdu, look_for_directive, mark_bc, transmit_bc}
use Rattle.sender_values.specs.declared.Control.{Control}
use Rattle.sender_values.specs.declared.Control.TheVariants as control
use Rattle.sender_values.specs.declared.Handed.{Handed}
use Rattle.sender_values.specs.declared.Handed.TheVariants as handed
use Rattle.fop.specs.declared.Response.{Response}
use Rattle.fop.specs.declared.Response.TheVariants.{AcceptAdUnit}
use Rattle.sender_values.specs.declared.Work.{Work}
use Rattle.sender_values.specs.Parts.{with_variables, with_queues, with_told}
use Rattle.sender_values.specs.Actions as act
use Rattle.sender_view.specs.View.{entry_at, entries_from, entries_of, wait_of, bc_of, fop_of, frames_of, responses_of, view, WellFormed}
use Rattle.sender_view.proofs.Offsets.{offset_ge, offset_add, offset_up, back_and_on}
use Rattle.sender_view.proofs.SentQueue.{mark_all_lem, unmarked, unmark_first, first_marked_lem, none_marked, one_more}
use Rattle.sender_view.proofs.ViewAnswers.{seen, Room, more_responses}

module _ (e : Option FopEvent) (o : List ℕ) (n : ℕ) (c d : List Fdu) (w : Work) (lengths store : List ℕ) where
  -- Initiate AD retransmission, Initiate BC retransmission
  pub initiate_ad_retransmission_lem : w.variables.transmission_count < 255
      → perform action.InitiateAdRetransmission (view e o n c d w lengths store) ≡ view e o n c d (act.initiate_ad_retransmission w) lengths store
  unfolding perform act.initiate_ad_retransmission act.again act.abort act.start_timer with_variables with_queues with_told
  initiate_ad_retransmission_lem h =
      let v = w.variables in
      let q = w.queues in
      let F : ℕ → List Entry → machine.Work = λ x xs.
      machine.tell true w.told.alert w.told.suspended
      (machine.on_fop (machine.set_clock w.settings.t1_initial x (machine.set_sequence v.vs v.nnr xs (fop_of w lengths store))) (view e o n c d w lengths store)) in
      let a : advanced v.transmission_count 1 ≡ v.transmission_count + 1 = omega arith in
      let z : q.sent - q.sent ≡ 0 = omega arith in
      let b : entries_of lengths store v.vs q.sent q.sent ≡ mark_all (entries_of lengths store v.vs q.sent q.marked) =
      ap (λ (p : ℕ). entries_from lengths store (offset v.vs q.sent) p 0 q.sent) z
      ∙ sym (mark_all_lem lengths store (offset v.vs q.sent) (q.sent - q.marked) 0 q.sent) in
      ap (λ (x : ℕ). F x (mark_all (entries_of lengths store v.vs q.sent q.marked))) (sym a) ∙ ap (F (advanced v.transmission_count 1)) (sym b)

  marked_bc : (k : std.Option Control) (m : Bool) → mark_bc (bc_of k m) ≡ bc_of k true
  marked_bc None m = refl
  marked_bc (Some control.Unlock) m = refl
  marked_bc (Some (control.SetVr x)) m = refl

  pub initiate_bc_retransmission_lem : w.variables.transmission_count < 255
      → perform action.InitiateBcRetransmission (view e o n c d w lengths store) ≡ view e o n c d (act.initiate_bc_retransmission w) lengths store
  unfolding perform act.initiate_bc_retransmission act.hold_control act.again act.abort act.start_timer with_variables with_queues with_told
  initiate_bc_retransmission_lem h =
      let v = w.variables in
      let q = w.queues in
      let F : ℕ → Option BcEntry → machine.Work = λ x b.
      machine.tell true w.told.alert w.told.suspended
      (machine.on_fop (machine.set_clock w.settings.t1_initial x (machine.set_bc b (fop_of w lengths store))) (view e o n c d w lengths store)) in
      let a : advanced v.transmission_count 1 ≡ v.transmission_count + 1 = omega arith in
      ap (λ (x : ℕ). F x (mark_bc (bc_of q.control q.control_marked))) (sym a)
      ∙ ap (F (advanced v.transmission_count 1)) (marked_bc q.control q.control_marked)

count_same : (lengths store : List ℕ) (f p n x : ℕ) → count_for (entries_from lengths store f p 0 n) x ≡ act.count_for n x
count_same lengths store f p zero x = refl
count_same lengths store f p (suc n) x = sym (no (eqb (suc n) 0) 1 x (ne_eqb (suc n) 0 (λ q. omega arith)))

one_fewer : (s m : ℕ) → 0 < m → m ≤ s → s ≤ largest_k → s - offset m 1 ≡ suc (s - m)
one_fewer s m a b c = omega arith

-- one more sent, unmarked
sent_more : (lengths store : List ℕ) (vs sent marked : ℕ) → marked ≡ 0 → sent ≤ largest_k → vs < 256
    → entries_of lengths store (advanced vs 1) (advanced sent 1) marked
    ≡ entries_of lengths store vs sent marked ++ (record { fdu = record { ns = vs; octets = unit_at lengths sent store }; marked = false } ∷ [])
sent_more lengths store vs n m e s k =
    let f = offset vs n in
    let a : advanced n 1 ≡ suc n = omega arith in
    let b : offset (advanced vs 1) (suc n) ≡ f = offset_up vs n (omega arith) k in
    let c : suc n - m ≡ suc n = omega arith in
    let d : n - m ≡ n = omega arith in
    let j : 0 + n ≡ n = omega arith in
    let g : advanced f (0 + n) ≡ vs = ap (advanced f) j ∙ back_and_on vs n (omega arith) k in
    ap (λ (x : ℕ). entries_from lengths store (offset (advanced vs 1) x) (x - m) 0 x) a
    ∙ ap (λ (x : ℕ). entries_from lengths store x (suc n - m) 0 (suc n)) b
    ∙ ap (λ (x : ℕ). entries_from lengths store f x 0 (suc n)) c
    ∙ one_more lengths store f (suc n) 0 n
    ∙ ap (λ (xs : List Entry). xs ++ (entry_at lengths store f (suc n) (0 + n) ∷ [])) (unmarked lengths store f (suc n) n 0 n (omega arith) (omega arith))
    ∙ ap (λ (x : ℕ). entries_from lengths store f n 0 n ++ (record { fdu = record { ns = x; octets = unit_at lengths (0 + n) store }; marked = leb (suc n) (0 + n) } ∷ [])) g
    ∙ ap (λ (x : Bool). entries_from lengths store f n 0 n ++ (record { fdu = record { ns = vs; octets = unit_at lengths (0 + n) store }; marked = x } ∷ [])) (lt-leb (suc n) (0 + n) (omega arith))
    ∙ ap (λ (x : ℕ). entries_from lengths store f n 0 n ++ (record { fdu = record { ns = vs; octets = unit_at lengths x store }; marked = false } ∷ [])) j
    ∙ ap (λ (x : ℕ). entries_from lengths store f x 0 n ++ (record { fdu = record { ns = vs; octets = unit_at lengths n store }; marked = false } ∷ [])) (sym d)

none_of : (m : ℕ) → m ≤ 0 → m ≡ 0
none_of m h = omega arith

-- Frames handed down where none was.
module _ (e : Option FopEvent) (o : List ℕ) (n : ℕ) (c d : List Fdu) (w : Work) (lengths store : List ℕ) (first : w.told.handed ≡ None) where
  no_frames : frames_of w.told.handed lengths store o ≡ []
  no_frames = ap (λ (h : std.Option Handed). frames_of h lengths store o) first

  pub transmit_unlock_lem : perform action.TransmitUnlock (view e o n c d w lengths store) ≡ view e o n c d (act.transmit_unlock w) lengths store
  unfolding perform transmit_bc act.transmit_unlock act.transmit_bc_frame act.hold_control act.hand_down act.start_timer with_variables with_queues with_told
  transmit_unlock_lem =
      ap (λ (x : List Frame). seen e o n c d w (fop_of (act.transmit_unlock w) lengths store) (x ++ (Unlock ∷ [])) (responses_of w.told.responses)) no_frames

  pub transmit_set_vr_lem : perform action.TransmitSetVr (view e o n c d w lengths store) ≡ view e o n c d (act.transmit_set_vr n w) lengths store
  unfolding perform transmit_bc act.transmit_set_vr act.transmit_bc_frame act.hold_control act.hand_down act.start_timer with_variables with_queues with_told
  transmit_set_vr_lem =
      ap (λ (x : List Frame). seen e o n c d w (fop_of (act.transmit_set_vr n w) lengths store) (x ++ (SetVR n ∷ [])) (responses_of w.told.responses)) no_frames

  pub transmit_bd : perform action.TransmitBd (view e o n c d w lengths store) ≡ view e o n c d (act.transmit_bd_frame w) lengths store
  unfolding perform act.transmit_bd_frame act.hand_down with_variables with_told
  transmit_bd = ap (λ (x : List Frame). seen e o n c d w (fop_of (act.transmit_bd_frame w) lengths store) (x ++ (BD o ∷ [])) (responses_of w.told.responses)) no_frames

  -- Look for directive, with the frame x on the Sent_Queue
  looked : (x : Frame) (h : std.Option Handed) → frames_of h lengths store o ≡ x ∷ [] → bc_of w.queues.control false ≡ some (record { frame = x; marked = false })
      → (a m : Bool) → w.variables.bc_out ≡ a → w.queues.control_marked ≡ m
      → look_for_directive (some (record { frame = x; marked = w.queues.control_marked })) (view e o n c d w lengths store) ≡ view e o n c d (pick a (pick m (act.send_control h w) w) w) lengths store
  unfolding look_for_directive act.send_control act.hold_control act.hand_down with_variables with_queues with_told
  looked x h f b true true p q =
      let F : Option BcEntry → List Frame → machine.Work = λ y fr.
      seen e o n c d w (machine.set_out w.variables.ad_out false w.variables.bd_out (machine.set_bc y (fop_of w lengths store))) fr (responses_of w.told.responses) in
      yes (w.queues.control_marked && w.variables.bc_out) _ _ (rw (q, p))
      ∙ ap (λ (fr : List Frame). F (some (record { frame = x; marked = false })) (fr ++ (x ∷ []))) no_frames
      ∙ ap (F (some (record { frame = x; marked = false }))) (sym f)
      ∙ ap (λ (y : Option BcEntry). F y (frames_of h lengths store o)) (sym b)
  looked x h f b true false p q = no (w.queues.control_marked && w.variables.bc_out) _ _ (rw q)
  looked x h f b false true p q = no (w.queues.control_marked && w.variables.bc_out) _ _ (rw (q, p))
  looked x h f b false false p q = no (w.queues.control_marked && w.variables.bc_out) _ _ (rw q)

  looked_of : (k : std.Option Control) → w.queues.control ≡ k
      → look_for_directive (bc_of k w.queues.control_marked) (view e o n c d w lengths store) ≡ view e o n c d (act.look_for_directive_of k w) lengths store
  unfolding act.look_for_directive_of act.send_marked_control look_for_directive
  looked_of None p = refl
  looked_of (Some control.Unlock) p =
      looked Unlock (Some handed.Unlock) refl (ap (λ (k : std.Option Control). bc_of k false) p) w.variables.bc_out w.queues.control_marked refl refl
  looked_of (Some (control.SetVr x)) p =
      looked (SetVR x) (Some (handed.SetVr x)) refl (ap (λ (k : std.Option Control). bc_of k false) p) w.variables.bc_out w.queues.control_marked refl refl

  pub look_for_directive_lem : perform action.LookForDirective (view e o n c d w lengths store) ≡ view e o n c d (act.look_for_directive w) lengths store
  unfolding perform
  look_for_directive_lem = looked_of w.queues.control refl

  -- Look for FDU
  module _ (well : WellFormed w lengths store) (room : Room 1 w.told.responses) where
    marked_again : 0 < w.queues.marked
        → send_next (first_marked (entries_of lengths store w.variables.vs w.queues.sent w.queues.marked)) (view e o n c d w lengths store)
        ≡ view e o n c d (act.send_marked w) lengths store
    unfolding send_next act.send_marked act.hand_down with_variables with_queues with_told
    marked_again h =
        let q = w.queues in
        let v = w.variables in
        let p = q.sent - q.marked in
        let f = offset v.vs q.sent in
        let Q = entries_of lengths store v.vs q.sent q.marked in
        let x : advanced f p ≡ offset v.vs q.marked = offset_add v.vs q.sent q.marked well.last (omega (arith, well.sent_most)) well.vs_octet in
        let y : p ≡ offset q.sent q.marked = sym (offset_ge q.sent q.marked well.last (omega (arith, well.sent_most))) in
        let z : q.sent - offset q.marked 1 ≡ suc p = one_fewer q.sent q.marked h well.last well.sent_most in
        let F : List Frame → ℕ → ℕ → List Entry → machine.Work = λ fr i j xs.
        seen e o n c d w (machine.set_out false v.bc_out v.bd_out (machine.set_sequence v.vs v.nnr xs (fop_of w lengths store)))
        (fr ++ (AD (record { ns = i; octets = unit_at lengths j store }) ∷ [])) (responses_of w.told.responses) in
        ap (λ (u : Option Fdu). send_next u (view e o n c d w lengths store)) (first_marked_lem lengths store f p 0 q.sent (omega arith) (omega (arith, well.last)))
        ∙ ap (λ (fr : List Frame). F fr (advanced f p) p (unmark Q)) no_frames
        ∙ ap (λ (i : ℕ). F [] i p (unmark Q)) x
        ∙ ap (λ (j : ℕ). F [] (offset v.vs q.marked) j (unmark Q)) y
        ∙ ap (F [] (offset v.vs q.marked) (offset q.sent q.marked))
        (unmark_first lengths store f p 0 q.sent (omega arith) (omega (arith, well.last)) ∙ ap (λ (j : ℕ). entries_from lengths store f j 0 q.sent) (sym z))

    -- the unit waiting is accepted and sent
    waiting_sent : w.queues.marked ≡ 0 → send_waiting (some (unit_at lengths w.queues.sent store)) (view e o n c d w lengths store)
        ≡ view e o n c d (act.transmit_ad_frame (act.respond AcceptAdUnit w)) lengths store
    unfolding send_waiting transmit_ad act.transmit_ad_frame act.respond act.hand_down act.start_timer with_variables with_queues with_told
    waiting_sent z =
        let q = w.queues in
        let v = w.variables in
        let u = unit_at lengths q.sent store in
        let Q = entries_of lengths store v.vs q.sent q.marked in
        let new : Entry = record { fdu = record { ns = v.vs; octets = u }; marked = false } in
        let F : List Frame → List Response → ℕ → List Entry → machine.Work = λ fr rs x xs.
        seen e o n c d w (machine.set_out false v.bc_out v.bd_out
        (machine.set_clock w.settings.t1_initial x (machine.set_sequence (advanced v.vs 1) v.nnr xs (machine.set_wait none (fop_of w lengths store)))))
        (fr ++ (AD (record { ns = v.vs; octets = u }) ∷ [])) rs in
        let rs = responses_of w.told.responses ++ (AcceptAdUnit ∷ []) in
        let k = act.count_for q.sent v.transmission_count in
        let more = entries_of lengths store (advanced v.vs 1) (advanced q.sent 1) q.marked in
        ap (λ (fr : List Frame). F fr rs (count_for Q v.transmission_count) (Q ++ (new ∷ []))) no_frames
        ∙ ap (λ (x : ℕ). F [] rs x (Q ++ (new ∷ []))) (count_same lengths store (offset v.vs q.sent) (q.sent - q.marked) q.sent v.transmission_count)
        ∙ ap (F [] rs k) (sym (sent_more lengths store v.vs q.sent q.marked z well.sent_most well.vs_octet))
        ∙ ap (λ (r : List Response). F [] r k more) (sym (more_responses 1 w.told.responses room))

    none_marked_next : w.queues.marked ≡ 0
        → send_next (first_marked (entries_of lengths store w.variables.vs w.queues.sent w.queues.marked)) (view e o n c d w lengths store)
        ≡ pick (act.in_window w) (send_waiting (wait_of lengths store w.queues.sent w.queues.waiting) (view e o n c d w lengths store)) (view e o n c d w lengths store)
    unfolding send_next act.in_window
    none_marked_next z =
        let q = w.queues in
        let h : 0 + q.sent ≤ q.sent - q.marked = omega arith in
        ap (λ (u : Option Fdu). send_next u (view e o n c d w lengths store)) (none_marked lengths store (offset w.variables.vs q.sent) (q.sent - q.marked) 0 q.sent h)

    send_none : send_waiting none (view e o n c d w lengths store) ≡ view e o n c d w lengths store
    unfolding send_waiting
    send_none = refl

    pub look_for_fdu_lem : perform action.LookForFdu (view e o n c d w lengths store) ≡ view e o n c d (act.look_for_fdu w) lengths store
    unfolding perform look_for_fdu act.look_for_fdu
    look_for_fdu_lem = by w.variables.ad_out (ltb 0 w.queues.marked) refl w.queues.waiting refl (act.in_window w) refl where
      zero_marked : ltb 0 w.queues.marked ≡ false → w.queues.marked ≡ 0
      zero_marked x = none_of w.queues.marked (ltb-false 0 w.queues.marked x)

      by : (a m : Bool) → ltb 0 w.queues.marked ≡ m → (i : Bool) → w.queues.waiting ≡ i → (r : Bool) → act.in_window w ≡ r
          → pick a (send_next (first_marked (entries_of lengths store w.variables.vs w.queues.sent w.queues.marked)) (view e o n c d w lengths store)) (view e o n c d w lengths store)
          ≡ view e o n c d (pick a (pick m (act.send_marked w) (pick i (pick r (act.transmit_ad_frame (act.respond AcceptAdUnit w)) w) w)) w) lengths store
      by false m x i f r g = refl
      by true true x i f r g = marked_again (ltb-true 0 w.queues.marked x)
      by true false x true f true g =
          none_marked_next (zero_marked x) ∙ yes _ _ _ g
          ∙ ap (λ (b : Bool). send_waiting (wait_of lengths store w.queues.sent b) (view e o n c d w lengths store)) f ∙ waiting_sent (zero_marked x)
      by true false x true f false g = none_marked_next (zero_marked x) ∙ no _ _ _ g
      by true false x false f true g =
          none_marked_next (zero_marked x) ∙ yes _ _ _ g
          ∙ ap (λ (b : Bool). send_waiting (wait_of lengths store w.queues.sent b) (view e o n c d w lengths store)) f ∙ send_none
      by true false x false f false g = none_marked_next (zero_marked x) ∙ no _ _ _ g
