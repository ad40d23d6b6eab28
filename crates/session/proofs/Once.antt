-- At a transmission limit of 1 no unit is sent twice: E101, E102 and E17 alert where the other limits resend, so nothing is ever marked, and
-- every AD frame that an event of the session hands down carries V(S), which then advances (`work_once`).
use mathlib.Core.Logic.{inl, inr}
use mathlib.Core.Path.{◌≡◌, refl, sym, ap, ◌∙◌, subst}
use mathlib.Core.Bool.{Bool, true, false, not, ◌&&◌, false≢true, true≢false}
use mathlib.Core.List.{List, [], ◌∷◌, ◌++◌}
use mathlib.Core.Option.{Option, none, some}
use Prim.Native.Nat.{ℕ, ◌≤◌}
use native.Mathlib.Omega.{arith}
use borrow.Author.Tests.{eq-eqb, le-ltb}
use lib.Dec.{T, eqb}
use Rattle.base.specs.Choice.{pick}
use Rattle.base.specs.Modulo.{advanced}
use Rattle.fop.specs.Units.{Fdu, Frame, AD, BD, Unlock, SetVR, Refused, Own, Word, WordReceived, valid, invalid, other, read_word, word_octets}
use Rattle.fop.specs.declared.Action.{Action}
use Rattle.fop.specs.declared.Action.TheVariants.{Ignore, Accept, Reject, Confirm, RejectAd}
use Rattle.fop.specs.declared.Event.{Event as FopEvent}
use Rattle.fop.specs.Table.{Cell, cell, if_not_suspended, NotApplicable, table78, cell78}
use Rattle.fop.specs.declared.Action.TheVariants.{AcceptBd, RejectBd, AddToWaitQueue, LookForFdu, LookForDirective, RemoveAcknowledgedFrames, InitiateAdRetransmission, InitiateBcRetransmission}
use Rattle.fop.specs.declared.Action.TheVariants.{ReleaseBcFrame, CancelTimer, StartTimer, Alert, Initialise, TransmitUnlock, TransmitSetVr, TransmitBd, SetSuspendState, Suspend, Resume}
use Rattle.fop.specs.declared.Action.TheVariants.{SetVs, SetNnr, SetK, SetT1Initial, SetTransmissionLimit, SetTimeoutType, AdOutReady, BcOutReady, BdOutReady}
use Rattle.fop.specs.Variables.{Entry, Fop, Work, begin}
use Rattle.fop.specs.Machine.{first_marked, unacknowledged, is_acknowledged, count_for, mark_bc, perform, perform_cell, send_next, send_waiting, transmit_ad, look_for_directive, remove_acknowledged, fop_do}
use Rattle.fop.specs.Events.{when, first, Seen, word_lines, word_event, seen, fop_word, fop_ad, fop_bd, expiry_lines, fop_expiry, fop_tick, fop_lower, fop_directive, fop_received, is_empty, SenderEvent, request_ad, request_bd, lower, directive, word_arrives, work}
use Rattle.fop.specs.Events as fop
use Rattle.session.specs.Ends.{Settings, start_sender}
use Rattle.session.specs.Session.{Event, ad_request, bd_request, ticks, lower_says, terminate, resume, word_in, word_lost, word_made, frame_in, frame_lost, release}
use Rattle.session.specs.Stronger.{InSession}
use Rattle.session.proofs.Receiver.{begun}
use Rattle.session.proofs.Core.{Session, goes, sender, answered, word_come, channels, frame_come, receiver, releases, free, is_held, step, step_with}
use Rattle.fop.proofs.Choices.{by_pick, none_some}
use Rattle.fop.proofs.Ways.{look_ways, purge_ways}
use Rattle.session.proofs.Suspended.{session_all}
use Rattle.fop.proofs.Test.{every_cell, every_cell_lem, first_all, lower_all, lowered, Keeps, all_keep, all_keep_lem}

-- frames handed down while V(S) goes from a to b: each AD frame has the number that V(S) has then
abbrev pub Run : ℕ → List Frame → ℕ → Type 0
Run a [] b = a ≡ b
Run a (AD u ∷ fs) b = (u.ns ≡ a) × Run (advanced a 1) fs b
Run a (BD o ∷ fs) b = Run a fs b
Run a (Unlock ∷ fs) b = Run a fs b
Run a (SetVR v ∷ fs) b = Run a fs b
Run a (Refused r ∷ fs) b = Run a fs b

run_ad : (fs : List Frame) (a b : ℕ) (u : Fdu) → u.ns ≡ b → Run a fs b → Run a (fs ++ (AD u ∷ [])) (advanced b 1)
run_ad [] a b u e h = (e ∙ sym h, ap (λ (x : ℕ). advanced x 1) h)
run_ad (AD x ∷ fs) a b u e h = (h.0, run_ad fs (advanced a 1) b u e h.1)
run_ad (BD o ∷ fs) a b u e h = run_ad fs a b u e h
run_ad (Unlock ∷ fs) a b u e h = run_ad fs a b u e h
run_ad (SetVR v ∷ fs) a b u e h = run_ad fs a b u e h
run_ad (Refused r ∷ fs) a b u e h = run_ad fs a b u e h

run_bd : (fs : List Frame) (a b : ℕ) (o : List ℕ) → Run a fs b → Run a (fs ++ (BD o ∷ [])) b
run_bd [] a b o h = h
run_bd (AD x ∷ fs) a b o h = (h.0, run_bd fs (advanced a 1) b o h.1)
run_bd (BD y ∷ fs) a b o h = run_bd fs a b o h
run_bd (Unlock ∷ fs) a b o h = run_bd fs a b o h
run_bd (SetVR v ∷ fs) a b o h = run_bd fs a b o h
run_bd (Refused r ∷ fs) a b o h = run_bd fs a b o h

-- a queue with nothing marked
abbrev Unmarked : List Entry → Type 0
Unmarked q = first_marked q ≡ none

-- of its first entry and of the others
tail_unmarked : (e : Entry) (q : List Entry) → Unmarked (e ∷ q) → (e.marked ≡ false) × Unmarked q
tail_unmarked e q h = go e.marked refl h
  where
    go : (b : Bool) → e.marked ≡ b → pick b (some e.fdu) (first_marked q) ≡ none → (e.marked ≡ false) × Unmarked q
    go true m k = absurd (none_some (sym k))
    go false m k = (m, k)

unmarked_with : (e : Entry) (q : List Entry) → e.marked ≡ false → Unmarked q → Unmarked (e ∷ q)
unmarked_with e q m h = rw m h

-- one more unit sent, which is not marked
more_unmarked : (q : List Entry) (u : Fdu) → Unmarked q → Unmarked (q ++ (record { fdu = u; marked = false } ∷ []))
more_unmarked [] u h = refl
more_unmarked (e ∷ q) u h = let t = tail_unmarked e q h in unmarked_with e (q ++ (record { fdu = u; marked = false } ∷ [])) t.0 (more_unmarked q u t.1)

-- the frames that stay
rest_unmarked : (nnr nr : ℕ) (q : List Entry) → Unmarked q → Unmarked (unacknowledged nnr nr q)
rest_unmarked nnr nr [] h = refl
rest_unmarked nnr nr (e ∷ q) h =
    let t = tail_unmarked e q h in
    by_pick Unmarked (is_acknowledged nnr nr e) (λ b. rest_unmarked nnr nr q t.1) (λ b. unmarked_with e (unacknowledged nnr nr q) t.0 (rest_unmarked nnr nr q t.1))

count_least_lem : (q : List Entry) (c : ℕ) → 1 ≤ c → 1 ≤ count_for q c
count_least_lem [] c h = omega arith
count_least_lem (e ∷ q) c h = h

-- Transmission_Limit 1, Transmission_Count at least 1, nothing marked, no type-BC frame; and the frames handed down from V(S) = v on
abbrev J : ℕ → Work → Type 0
J v w =
    (w.fop.preset.transmission_limit ≡ 1) × (1 ≤ w.fop.clock.transmission_count) × Unmarked w.fop.queues.sent_queue
    × (w.fop.queues.bc_frame ≡ none) × Run v w.frames w.fop.numbers.vs

-- every action but Initiate AD retransmission, which marks, and those of directives that the session does not have
unfoldable once : (v : ℕ) (x : Action) → Option (Keeps (J v) x)
unfolding perform remove_acknowledged send_next send_waiting transmit_ad look_for_directive
once v Ignore = some (λ w h. h)
once v Accept = some (λ w h. h)
once v Reject = some (λ w h. h)
once v Confirm = some (λ w h. h)
once v RejectAd = some (λ w h. h)
once v AcceptBd = some (λ w h. h)
once v RejectBd = some (λ w h. h)
once v AddToWaitQueue = some (λ w h. h)
once v LookForFdu = some (λ w h. look_ways (J v) w h (λ u e. absurd (none_some (sym h.2 ∙ e)))
    (λ o r e. (h.0, count_least_lem w.fop.queues.sent_queue _ h.1, more_unmarked w.fop.queues.sent_queue _ h.2, h.3, run_ad w.frames v _ _ refl h.4)))
once v LookForDirective = some (λ w h. subst (λ (o : Option _). J v (look_for_directive o w)) (sym h.3) h)
once v RemoveAcknowledgedFrames = some (λ w h. (h.0, omega arith, rest_unmarked w.fop.numbers.nnr w.asked.value w.fop.queues.sent_queue h.2, h.3, h.4))
once v InitiateAdRetransmission = none
once v InitiateBcRetransmission = some (λ w h. (h.0, omega arith, h.2, ap mark_bc h.3, h.4))
once v ReleaseBcFrame = some (λ w h. (h.0, h.1, h.2, refl, h.4))
once v CancelTimer = some (λ w h. h)
once v StartTimer = some (λ w h. h)
once v (Alert r) = some (λ w h. purge_ways (J v) w (h.0, h.1, refl, refl, h.4) (λ r x k. k))
once v Initialise = none
once v TransmitUnlock = none
once v TransmitSetVr = none
once v TransmitBd = some (λ w h. (h.0, h.1, h.2, h.3, run_bd w.frames v _ w.asked.octets h.4))
once v (SetSuspendState n) = some (λ w h. h)
once v Suspend = some (λ w h. h)
once v Resume = some (λ w h. h)
once v SetVs = none
once v SetNnr = some (λ w h. h)
once v SetK = some (λ w h. h)
once v SetT1Initial = some (λ w h. h)
once v SetTransmissionLimit = none
once v SetTimeoutType = none
once v AdOutReady = some (λ w h. h)
once v BcOutReady = some (λ w h. h)
once v BdOutReady = some (λ w h. h)

abbrev cell_once : ℕ → Cell → Bool
cell_once v NotApplicable = true
cell_once v (cell xs s) = all_keep (J v) (once v) xs
cell_once v (if_not_suspended xs ys s) = false

cell_once_lem : (v : ℕ) (c : Cell) (w : Work) → T (cell_once v c) → J v w → J v (perform_cell c w)
unfolding perform_cell
cell_once_lem v NotApplicable w t h = h
cell_once_lem v (cell xs s) w t h = all_keep_lem (J v) (once v) xs w t h
cell_once_lem v (if_not_suspended xs ys s) w t h = absurd t

abbrev row_once : ℕ → FopEvent → Bool
row_once v e = every_cell (cell_once v) (table78 e)

-- a sender at a transmission limit of 1
pub record Once (f : Fop) : Type 0 where
  pub limit : f.preset.transmission_limit ≡ 1
  pub counted : 1 ≤ f.clock.transmission_count
  pub unmarked : Unmarked f.queues.sent_queue
  pub no_bc : f.queues.bc_frame ≡ none

-- what an event leaves of it, and the frames that it hands down
abbrev pub Stays : ℕ → Work → Type 0
Stays v w = Once w.fop × Run v w.frames w.fop.numbers.vs

do_once : (e : FopEvent) (o : List ℕ) (n : ℕ) (f : Fop) → T (row_once f.numbers.vs e) → Once f → Stays f.numbers.vs (fop_do e o n f)
unfolding fop_do
do_once e o n f t h =
    let j = cell_once_lem f.numbers.vs (cell78 (table78 e) f.state) (begin (some e) o n f) (every_cell_lem (cell_once f.numbers.vs) (table78 e) f.state t)
    (h.limit, h.counted, h.unmarked, h.no_bc, refl) in
    (record { limit = j.0; counted = j.1; unmarked = j.2; no_bc = j.3 }, j.4)

-- the expiry at the limit is E17 or E18
expiry_once : (v : ℕ) (short alerting : Bool) → short ≡ false → T (row_once v (first (expiry_lines short alerting) FopEvent.E18))
unfolding table78 once
expiry_once v true alerting s = absurd (true≢false s)
expiry_once v false true s = tt
expiry_once v false false s = tt

tick_once : (f : Fop) → Once f → Stays f.numbers.vs (fop_tick f)
unfolding fop_tick fop_expiry
tick_once f h =
    let k : Once (lowered f) = record { limit = h.limit; counted = h.counted; unmarked = h.unmarked; no_bc = h.no_bc } in
    by_pick (Stays f.numbers.vs) (eqb f.clock.timer 1)
    (λ b. do_once _ [] 0 (lowered f) (expiry_once f.numbers.vs _ _ (le-ltb f.clock.transmission_count f.preset.transmission_limit (omega (arith, h.limit, h.counted)))) k)
    (λ b. (k, refl))

-- what a control word shows, with Transmission_Limit = 1 or not
abbrev with_once : Bool → Seen → Seen
with_once b s = record {
  lockout = s.lockout;
  retransmit = s.retransmit;
  wait = s.wait;
  invalid = s.invalid;
  all = s.all;
  new = s.new;
  once = b;
  short = s.short;
}

-- at the limit a word that asks for a retransmission is E101 or E102
word_once : (v : ℕ) (s : Seen) → s.once ≡ true → T (row_once v (first (word_lines s) FopEvent.E103))
unfolding table78 once
word_once v s e = go s.once e
  where
    go : (b : Bool) → b ≡ true → T (row_once v (first (word_lines (with_once b s)) FopEvent.E103))
    go true q =
        first_all (row_once v)
        (when s.lockout FopEvent.E14 ∷ when s.invalid FopEvent.E13 ∷ when (s.all && not s.retransmit && not s.wait && not s.new) FopEvent.E1
        ∷ when (s.all && not s.retransmit && not s.wait) FopEvent.E2 ∷ when (s.all && not s.retransmit) FopEvent.E3 ∷ when s.all FopEvent.E4
        ∷ when (not s.retransmit && not s.wait && not s.new) FopEvent.E5 ∷ when (not s.retransmit && not s.wait) FopEvent.E6
        ∷ when (not s.retransmit) FopEvent.E7 ∷ when s.new FopEvent.E101 ∷ [])
        FopEvent.E102 tt
    go false q = absurd (false≢true q)

received_once : (x : WordReceived) (f : Fop) → Once f → Stays f.numbers.vs (fop_received x f)
unfolding fop_received fop_word word_event table78 once
received_once (valid w) f h = do_once _ [] w.nr f (word_once f.numbers.vs (seen w f) (eq-eqb _ 1 h.limit)) h
received_once invalid f h = do_once _ [] 0 f tt h
received_once (other r) f h = (h, refl)

-- an event of the session
pub work_once : (own : Own) (ws : List (List ℕ)) (e : SenderEvent) (f : Fop) → InSession ws e → Once f → Stays f.numbers.vs (work own e f)
unfolding work fop_ad fop_bd fop_lower fop_directive table78 once
work_once own ws (request_ad o) f i h = do_once _ o 0 f (first_all (row_once f.numbers.vs) (when (is_empty f.queues.wait_queue) FopEvent.E19 ∷ []) FopEvent.E20 tt) h
work_once own ws (request_bd o) f i h = do_once _ o 0 f (first_all (row_once f.numbers.vs) (when f.out.bd FopEvent.E21 ∷ []) FopEvent.E22 tt) h
work_once own ws fop.tick f i h = tick_once f h
work_once own ws (lower l) f i h = do_once _ [] 0 f (lower_all (row_once f.numbers.vs) tt l) h
work_once own ws (directive d v) f i h = do_once _ [] v f (session_all (row_once f.numbers.vs) tt d v f i) h
work_once own ws (word_arrives s) f i h = received_once (read_word own s) f h

-- The session's sender at a limit of 1, at the start and after each event.
pub start_once : (set : Settings) → 1 ≤ set.count → set.limit ≡ 1 → Once (begun set).fop
unfolding start_sender
start_once set k l = record { limit = l; counted = k; unmarked = refl; no_bc = refl }

module _ (set : Settings) where
  sender_once : (ws : List (List ℕ)) (e : SenderEvent) (lent : ℕ) (κ : Session) → InSession ws e → Once κ.fop → Once (sender set e lent κ).fop
  unfolding sender answered
  sender_once ws e lent κ i o =
      by_pick (λ (τ : Session). Once τ.fop) (goes set.own e lent κ.fop) (λ b. (work_once set.own ws e κ.fop i o).0) (λ b. o)

  pub word_in_lem : (lent : ℕ) (l : List Word) (κ : Session) → Once κ.fop → Once (word_come set lent l κ).fop
  unfolding word_come channels
  word_in_lem lent [] κ o = o
  word_in_lem lent (w ∷ ws) κ o =
      let s = word_octets set.own w in
      sender_once (s ∷ []) (word_arrives s) lent (channels κ.frames ws κ) ([], refl) o

  pub frame_in_lem : (room : Bool) (l : List Frame) (κ : Session) → Once κ.fop → Once (frame_come set room l κ).fop
  unfolding frame_come receiver
  frame_in_lem room [] κ o = o
  frame_in_lem room (x ∷ fs) κ o = o

  pub step_once : (e : Event) (κ : Session) → Once κ.fop → Once (step set e κ).fop
  unfolding step step_with channels releases receiver
  step_once (ad_request u lent) κ o = sender_once [] (request_ad u) lent κ tt o
  step_once (bd_request u lent) κ o = sender_once [] (request_bd u) lent κ tt o
  step_once (ticks lent) κ o = sender_once [] fop.tick lent κ tt o
  step_once (lower_says l lent) κ o = sender_once [] (lower l) lent κ tt o
  step_once (terminate v lent) κ o = sender_once [] (directive 5 v) lent κ (inl refl) o
  step_once (resume v lent) κ o = sender_once [] (directive 6 v) lent κ (inr refl) o
  step_once (word_in lent) κ o = word_in_lem lent κ.words κ o
  step_once word_lost κ o = o
  step_once (word_made lent) κ o = o
  step_once frame_in κ o = frame_in_lem (free set κ) κ.frames κ o
  step_once frame_lost κ o = o
  step_once release κ o = by_pick (λ (τ : Session). Once τ.fop) (is_held κ) (λ b. o) (λ b. o)
