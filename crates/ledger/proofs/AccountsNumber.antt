-- The unit that an event puts on the Sent_Queue has the number V(S) of before the event (`new_numbered`): every action keeps that no unit came to the
-- queue, with V(S) as it was, or that an AD frame with V(S) as it was is handed down. Only V(S) := V* may change V(S) otherwise, and no cell of table 7-8
-- has that action and Look for FDU together: one computed test.
use mathlib.Core.Logic.{◌⊎◌, inl, inr}
use mathlib.Core.Path.{◌≡◌, refl, sym, ap, ◌∙◌}
use mathlib.Core.Bool.{Bool, true, false, ◌&&◌, ◌||◌, false≢true}
use mathlib.Core.List.{List, [], ◌∷◌, ◌++◌, append_assoc, cons≢nil, head-eq_of_cons-eq, tail-eq_of_cons-eq}
use mathlib.Core.Option.{Option, none, some}
use Prim.Native.Nat.{ℕ, suc, ◌+◌, ◌≤◌}
use native.Mathlib.Omega.{arith}
use lib.Dec.{T, eqb}
use lib.ListN.{length, length-append}
use Rattle.base.specs.Choice.{pick}
use Rattle.fop.specs.Units.{Fdu, Frame, AD, WordReceived, valid, invalid, other, Own, read_word}
use Rattle.fop.specs.declared.Action.{Action}
use Rattle.fop.specs.declared.Action.TheVariants.{Ignore, Accept, Reject, Confirm, RejectAd}
use Rattle.fop.specs.declared.Event.{Event as FopEvent}
use Rattle.fop.specs.Table.{Cell, cell, if_not_suspended, NotApplicable, table78, cell78}
use Rattle.fop.specs.declared.Action.TheVariants.{AcceptBd, RejectBd, AddToWaitQueue, LookForFdu, LookForDirective, RemoveAcknowledgedFrames, InitiateAdRetransmission, InitiateBcRetransmission}
use Rattle.fop.specs.declared.Action.TheVariants.{ReleaseBcFrame, CancelTimer, StartTimer, Alert, Initialise, TransmitUnlock, TransmitSetVr, TransmitBd, SetSuspendState, Suspend, Resume}
use Rattle.fop.specs.declared.Action.TheVariants.{SetVs, SetNnr, SetK, SetT1Initial, SetTransmissionLimit, SetTimeoutType, AdOutReady, BcOutReady, BdOutReady}
use Rattle.fop.specs.Variables.{Entry, Fop, Work, begin, hand_down}
use Rattle.fop.specs.Machine.{fdus, is_acknowledged, acknowledged, unacknowledged, perform, perform_all, perform_cell, fop_do, look_for_fdu, send_next, send_waiting, transmit_ad, transmit_bc, remove_acknowledged, purge}
use Rattle.fop.specs.declared.Lower.{Lower}
use Rattle.fop.specs.Events.{when, is_empty, seen, word_lines, word_event, fop_word, fop_ad, fop_bd, fop_tick, lower_event, fop_lower, directive_lines, directive_event, fop_directive, fop_received}
use Rattle.fop.specs.Events.{SenderEvent, request_ad, request_bd, tick, lower, directive, word_arrives, work}
use Rattle.fop.proofs.Choices.{by_pick, and_l, and_r}
use Rattle.fop.proofs.Ways.{look_ways, directive_ways, purge_ways}
use Rattle.fop.proofs.Test.{every_cell, every_cell_lem, first_all, lower_all, tick_ways, lowered, Keeps, all_keep, all_keep_lem}
use Rattle.session.proofs.Queue.{fdus_mark, fdus_unmark}
use Rattle.ledger.proofs.Flow.{Follows, Asks, silent, waits, offer_rejected, offer_accepted, waiting_rejected, waiting_accepted, Flow}

-- a frame with the number v is handed down
pub record Sends (v : ℕ) (frames : List Frame) : Type 0 where
  pub before : List Frame
  pub unit : Fdu
  pub behind : List Frame
  pub is : frames ≡ before ++ (AD unit ∷ behind)
  pub number : unit.ns ≡ v

more : (v : ℕ) (frames : List Frame) (x : Frame) → Sends v frames → Sends v (frames ++ (x ∷ []))
more v frames x s = record {
  before = s.before;
  unit = s.unit;
  behind = s.behind ++ (x ∷ []);
  is = ap (λ (l : List Frame). l ++ (x ∷ [])) s.is ∙ append_assoc s.before (AD s.unit ∷ s.behind) (x ∷ []);
  number = s.number;
}

-- where one frame is handed down, it is this one
only : (v : ℕ) (u : Fdu) (frames : List Frame) → frames ≡ AD u ∷ [] → Sends v frames → u.ns ≡ v
only v u frames e s = go s.before (sym e ∙ s.is)
  where
    go : (b : List Frame) → AD u ∷ [] ≡ b ++ (AD s.unit ∷ s.behind) → u.ns ≡ v
    go [] p = let q = head-eq_of_cons-eq p in cc
    go (x ∷ []) p = absurd (cons≢nil (sym (tail-eq_of_cons-eq p)))
    go (x ∷ y ∷ b) p = absurd (cons≢nil (sym (tail-eq_of_cons-eq p)))

-- every frame of the Sent_Queue is acknowledged, or stays
acknowledged_length : (nnr nr : ℕ) (q : List Entry) → length (acknowledged nnr nr q) + length (fdus (unacknowledged nnr nr q)) ≡ length (fdus q)
acknowledged_length nnr nr [] = refl
acknowledged_length nnr nr (e ∷ q) = go (is_acknowledged nnr nr e) (acknowledged_length nnr nr q)
  where
    go : (b : Bool) → length (acknowledged nnr nr q) + length (fdus (unacknowledged nnr nr q)) ≡ length (fdus q)
        → length (pick b (e.fdu ∷ acknowledged nnr nr q) (acknowledged nnr nr q))
        + length (fdus (pick b (unacknowledged nnr nr q) (e ∷ unacknowledged nnr nr q))) ≡ suc (length (fdus q))
    go true h = omega arith
    go false h = omega arith

-- From v and so many units on the Sent_Queue.
module _ (v most : ℕ) where
  -- the units confirmed, denied and on the queue
  abbrev count : Work → ℕ
  count w = length w.confirmed + (length w.denied + length (fdus w.fop.queues.sent_queue))

  -- kept says that V(S) is as it was
  abbrev Next : Bool → Work → Type 0
  Next kept w = ((count w ≤ most) × (kept ≡ true → w.fop.numbers.vs ≡ v)) ⊎ Sends v w.frames

  look_next : (w : Work) → Next true w → Next true (look_for_fdu w)
  unfolding send_next send_waiting transmit_ad
  look_next w (inl h) =
      look_ways (Next true) w (inl h) (λ u e. inl (rw (fdus_unmark w.fop.queues.sent_queue) h))
      (λ o r e. inr (record { before = w.frames; unit = _; behind = []; is = refl; number = h.1 refl }))
  look_next w (inr s) = look_ways (Next true) w (inr s) (λ u e. inr (more v w.frames _ s)) (λ o r e. inr (more v w.frames _ s))

  purge_next : (kept : Bool) (w : Work) → Next kept w → Next kept (purge w)
  purge_next kept w (inl h) =
      purge_ways (Next kept) w (inl (omega (arith, h.0, length-append w.denied (fdus w.fop.queues.sent_queue)), h.1)) (λ r x k. k)
  purge_next kept w (inr s) = purge_ways (Next kept) w (inr s) (λ r x k. k)

  remove_next : (kept : Bool) (w : Work) → Next kept w → Next kept (remove_acknowledged w)
  unfolding remove_acknowledged
  remove_next kept w (inl h) =
      inl (
        omega (
          arith,
          h.0,
          acknowledged_length w.fop.numbers.nnr w.asked.value w.fop.queues.sent_queue,
          length-append w.confirmed (acknowledged w.fop.numbers.nnr w.asked.value w.fop.queues.sent_queue),
        ),
        h.1,
      )
  remove_next kept w (inr s) = inr s

  mark_next : (kept : Bool) → Keeps (Next kept) InitiateAdRetransmission
  unfolding perform
  mark_next kept w (inl h) = inl (rw (fdus_mark w.fop.queues.sent_queue) h)
  mark_next kept w (inr s) = inr s

  -- one more frame is handed down
  hand_next : (kept : Bool) (w : Work) (y : Frame) → Next kept w → Next kept (hand_down y w)
  hand_next kept w y (inl h) = inl h
  hand_next kept w y (inr s) = inr (more v w.frames y s)

  set_next : (w : Work) → Next false w → Next false (perform SetVs w)
  unfolding perform
  set_next w (inl h) = inl (h.0, λ k. absurd (false≢true k))
  set_next w (inr s) = inr s

  -- each action with its proof, where it keeps this
  unfoldable next : (kept : Bool) (x : Action) → Option (Keeps (Next kept) x)
  unfolding perform transmit_bc
  next kept Ignore = some (λ w h. h)
  next kept Accept = some (λ w h. h)
  next kept Reject = some (λ w h. h)
  next kept Confirm = some (λ w h. h)
  next kept RejectAd = some (λ w h. h)
  next kept AcceptBd = some (λ w h. h)
  next kept RejectBd = some (λ w h. h)
  next kept AddToWaitQueue = some (λ w h. h)
  next true LookForFdu = some look_next
  next false LookForFdu = none
  next kept LookForDirective =
      some (λ w h. directive_ways (Next kept) w h (λ b. hand_next kept w b.frame h) w.fop.queues.bc_frame)
  next kept RemoveAcknowledgedFrames = some (remove_next kept)
  next kept InitiateAdRetransmission = some (mark_next kept)
  next kept InitiateBcRetransmission = some (λ w h. h)
  next kept ReleaseBcFrame = some (λ w h. h)
  next kept CancelTimer = some (λ w h. h)
  next kept StartTimer = some (λ w h. h)
  next kept (Alert r) = some (λ w h. purge_next kept w h)
  next kept Initialise = some (λ w h. purge_next kept w h)
  next kept TransmitUnlock = some (λ w h. hand_next kept w _ h)
  next kept TransmitSetVr = some (λ w h. hand_next kept w _ h)
  next kept TransmitBd = some (λ w h. hand_next kept w _ h)
  next kept (SetSuspendState n) = some (λ w h. h)
  next kept Suspend = some (λ w h. h)
  next kept Resume = some (λ w h. h)
  next true SetVs = none
  next false SetVs = some set_next
  next kept SetNnr = some (λ w h. h)
  next kept SetK = some (λ w h. h)
  next kept SetT1Initial = some (λ w h. h)
  next kept SetTransmissionLimit = some (λ w h. h)
  next kept SetTimeoutType = some (λ w h. h)
  next kept AdOutReady = some (λ w h. h)
  next kept BcOutReady = some (λ w h. h)
  next kept BdOutReady = some (λ w h. h)

  -- in the end: no unit came to the queue, or a frame with the number v is handed down
  abbrev pub Known : Work → Type 0
  Known w = (count w ≤ most) ⊎ Sends v w.frames

  known : (kept : Bool) (w : Work) → Next kept w → Known w
  known kept w (inl h) = inl h.0
  known kept w (inr s) = inr s

  -- actions that pass one of the two tests
  abbrev passes : List Action → Bool
  passes xs = all_keep (Next true) (next true) xs || all_keep (Next false) (next false) xs

  all_known : (xs : List Action) (w : Work) → T (passes xs) → count w ≤ most → w.fop.numbers.vs ≡ v → Known (perform_all xs w)
  all_known xs w t c e = go (all_keep (Next true) (next true) xs) refl t
    where
      go : (b : Bool) → all_keep (Next true) (next true) xs ≡ b → T (b || all_keep (Next false) (next false) xs) → Known (perform_all xs w)
      go true z k = known true (perform_all xs w) (all_keep_lem (Next true) (next true) xs w (rw z tt) (inl (c, λ y. e)))
      go false z k = known false (perform_all xs w) (all_keep_lem (Next false) (next false) xs w k (inl (c, λ y. absurd (false≢true y))))

  abbrev cell_known : Cell → Bool
  cell_known NotApplicable = true
  cell_known (cell xs s) = passes xs
  cell_known (if_not_suspended xs ys s) = passes xs && passes ys

  cell_known_lem : (c : Cell) (w : Work) → T (cell_known c) → count w ≤ most → w.fop.numbers.vs ≡ v → Known (perform_cell c w)
  unfolding perform_cell
  cell_known_lem NotApplicable w t c e = inl c
  cell_known_lem (cell xs s) w t c e = all_known xs w t c e
  cell_known_lem (if_not_suspended xs ys s) w t c e =
      by_pick Known (eqb w.fop.suspend_state 0) (λ z. all_known xs w (and_l (passes xs) _ t) c e) (λ z. all_known ys w (and_r (passes xs) _ t) c e)

  abbrev row_known : FopEvent → Bool
  row_known e = every_cell cell_known (table78 e)

  do_known : (e : FopEvent) (o : List ℕ) (x : ℕ) (f : Fop) → T (row_known e) → length (fdus f.queues.sent_queue) ≤ most → f.numbers.vs ≡ v
      → Known (fop_do e o x f)
  unfolding fop_do
  do_known e o x f t c n =
      cell_known_lem (cell78 (table78 e) f.state) (begin (some e) o x f) (every_cell_lem cell_known (table78 e) f.state t) (omega arith) n

  -- Every event.

  ad_known : (o : List ℕ) (f : Fop) → length (fdus f.queues.sent_queue) ≤ most → f.numbers.vs ≡ v → Known (fop_ad o f)
  unfolding fop_ad table78 next
  ad_known o f c n = do_known _ o 0 f (first_all row_known (when (is_empty f.queues.wait_queue) FopEvent.E19 ∷ []) FopEvent.E20 tt) c n

  bd_known : (o : List ℕ) (f : Fop) → length (fdus f.queues.sent_queue) ≤ most → f.numbers.vs ≡ v → Known (fop_bd o f)
  unfolding fop_bd table78 next
  bd_known o f c n = do_known _ o 0 f (first_all row_known (when f.out.bd FopEvent.E21 ∷ []) FopEvent.E22 tt) c n

  tick_known : (f : Fop) → length (fdus f.queues.sent_queue) ≤ most → f.numbers.vs ≡ v → Known (fop_tick f)
  unfolding table78 next
  tick_known f c n = tick_ways row_known tt Known f (λ s. tt) (λ e t. do_known e [] 0 (lowered f) t c n) (inl (omega arith))

  lower_known : (l : Lower) (f : Fop) → length (fdus f.queues.sent_queue) ≤ most → f.numbers.vs ≡ v → Known (fop_lower l f)
  unfolding fop_lower table78 next
  lower_known l f c n = do_known (lower_event l) [] 0 f (lower_all row_known tt l) c n

  directive_known : (d x : ℕ) (f : Fop) → length (fdus f.queues.sent_queue) ≤ most → f.numbers.vs ≡ v → Known (fop_directive d x f)
  unfolding fop_directive directive_event table78 next
  directive_known d x f c n = do_known _ [] x f (first_all row_known (directive_lines d x f) FopEvent.E39 tt) c n

  received_known : (r : WordReceived) (f : Fop) → length (fdus f.queues.sent_queue) ≤ most → f.numbers.vs ≡ v → Known (fop_received r f)
  unfolding fop_received fop_word word_event table78 next
  received_known (valid w) f c n = do_known _ [] w.nr f (first_all row_known (word_lines (seen w f)) FopEvent.E103 tt) c n
  received_known invalid f c n = do_known FopEvent.E15 [] 0 f tt c n
  received_known (other r) f c n = inl (omega arith)

-- the work on an event
abbrev From : Fop → Work → Type 0
From f w = Known f.numbers.vs (length (fdus f.queues.sent_queue)) w

work_known : (own : Own) (e : SenderEvent) (f : Fop) → From f (work own e f)
unfolding work
work_known own (request_ad o) f = ad_known _ _ o f (omega arith) refl
work_known own (request_bd o) f = bd_known _ _ o f (omega arith) refl
work_known own tick f = tick_known _ _ f (omega arith) refl
work_known own (lower l) f = lower_known _ _ l f (omega arith) refl
work_known own (directive d x) f = directive_known _ _ d x f (omega arith) refl
work_known own (word_arrives s) f = received_known _ _ (read_word own s) f (omega arith) refl

-- so the new units of the flow law, of which there is one at most, have the numbers from V(S) on
pub record Numbered (v : ℕ) (new : List Fdu) : Type 0 where
  pub follows : Follows v new
  pub most : length new ≤ 1

pub nothing_new : (v : ℕ) → Numbered v []
nothing_new v = record { follows = tt; most = omega arith }

sent_next : (f : Fop) (u : Fdu) (w : Work) → w.frames ≡ AD u ∷ []
    → fdus f.queues.sent_queue ++ (u ∷ []) ≡ (w.confirmed ++ w.denied) ++ fdus w.fop.queues.sent_queue → From f w → Numbered f.numbers.vs (u ∷ [])
sent_next f u w h e (inl k) =
    absurd (omega (
      arith,
      k,
      ap length e,
      length-append (fdus f.queues.sent_queue) (u ∷ []),
      length-append w.confirmed w.denied,
      length-append (w.confirmed ++ w.denied) (fdus w.fop.queues.sent_queue),
    ))
sent_next f u w h e (inr s) = record { follows = (only f.numbers.vs u w.frames h s, tt); most = omega arith }

asks_numbered : (f : Fop) (e : SenderEvent) (q q' : Option (List ℕ)) (w : Work) (frames : List Frame) (new : List Fdu) → Asks e q q' w.responses frames new
    → w.frames ≡ frames → fdus f.queues.sent_queue ++ new ≡ (w.confirmed ++ w.denied) ++ fdus w.fop.queues.sent_queue → From f w
    → Numbered f.numbers.vs new
asks_numbered f e q q' w frames new (silent r s) h u k = nothing_new f.numbers.vs
asks_numbered f e q q' w frames new (waits s) h u k = nothing_new f.numbers.vs
asks_numbered f e q q' w frames new (offer_rejected s) h u k = nothing_new f.numbers.vs
asks_numbered f e q q' w frames new (offer_accepted b s) h u k = sent_next f _ w h u k
asks_numbered f e q q' w frames new (waiting_rejected r s) h u k = nothing_new f.numbers.vs
asks_numbered f e q q' w frames new (waiting_accepted r b s) h u k = sent_next f _ w h u k

pub new_numbered : (own : Own) (e : SenderEvent) (f : Fop) (flow : Flow e f (work own e f)) → Numbered f.numbers.vs flow.new
new_numbered own e f flow =
    asks_numbered f e _ _ (work own e f) (work own e f).frames flow.new flow.asks refl flow.units (work_known own e f)
