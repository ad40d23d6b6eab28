-- Every event keeps the flags' invariant (Keys): a row leads to a state of resending only from one, or by a word that asks for it, which is a
-- computed test of table 7-8; the receiver's rows are computed in each state.
use mathlib.Core.Logic.{◌⊎◌, inl, inr}
use mathlib.Core.Path.{◌≡◌, refl, sym, ap, subst, ◌∙◌}
use mathlib.Core.Bool.{Bool, true, false, not, ◌&&◌}
use mathlib.Core.List.{List, [], ◌∷◌, ◌++◌}
use mathlib.Core.Option.{Option, none, some}
use Prim.Native.Nat.{ℕ, ◌+◌, ◌*◌, ◌/◌, ◌≤◌, ◌<◌}
use native.Mathlib.Omega.{arith}
use lib.Dec.{leb, eqb, T, leb→le, eqb→eq}
use lib.ListN.{length, length-append}
use Rattle.base.specs.Choice.{pick}
use Rattle.base.specs.Modulo.{advanced}
use Rattle.fop.specs.Units.{Fdu, Frame, AD, BD, Unlock, SetVR, Refused, Word, word_octets}
use Rattle.fop.specs.declared.State.{State}
use Rattle.fop.specs.declared.State.TheVariants.{S1, S2, S3, S4, S5, S6}
use Rattle.fop.specs.declared.Action.{Action}
use Rattle.fop.specs.declared.Event.{Event as FopEvent}
use Rattle.fop.specs.Table.{Cell, cell, NotApplicable, table78, cell78}
use Rattle.fop.specs.Variables.{Fop, Work, begin, on_fop, set_state}
use Rattle.fop.specs.Effective.{effective_of, effective}
use Rattle.fop.specs.Machine.{fop_do, perform_cell, perform_all, perform}
use Rattle.fop.specs.Events.{Seen, seen, word_lines, word_event, fop_word, fop_tick, fop_ad, fop_bd, fop_lower, fop_directive, directive_event}
use Rattle.fop.specs.declared.Lower.{Lower}
use Rattle.fop.specs.Events.{when, first, lower_event, is_empty, SenderEvent, request_ad, request_bd, lower, directive, word_arrives, work}
use Rattle.fop.specs.Answers.{judged}
use Rattle.session.specs.Receiver.{word_length}
use Rattle.session.specs.Ends.{Settings, Within, start_sender, start_receiver}
use Rattle.session.specs.Session.{Event, ad_request, bd_request, ticks, lower_says, terminate, resume, word_in, word_lost, word_made, frame_in, frame_lost, release, places}
use Rattle.session.specs.Session.{rest, add_sent}
use Rattle.fop.specs.Events as fop
use Rattle.fop.proofs.Choices.{by_pick, never, and_l, and_r, ◌also◌}
use Rattle.fop.proofs.Test.{first_all, first_each, lower_all, lowered, tick_ways}
use Rattle.session.proofs.Suspended.{suspend_all, suspend_all_lem, unsuspended}
use Rattle.session.proofs.Core.{Session, add_all, first_of, answered, sender, goes, channels, word_come, frame_come, receiver, taken, step, step_with}
use Rattle.session.proofs.Core.{releases, frame_event, is_handed, free, is_held}
use Rattle.session.proofs.Chan.{Fly, Wds}
use Rattle.session.proofs.Values.{Given, word, unit, nothing, Reports}
use Rattle.session.proofs.Rows.{mode_of, sound, at_all, at_suspended, at_initial, at_any, at_zero, at_initial_lem, row_any, Tested, any, word_ok, ad_ok, bd_ok, lower_ok, terminate_ok}
use Rattle.session.proofs.Rows.{resume_rows, resume_ok}
use Rattle.session.specs.Suspension.{admits, rejects}
use Rattle.session.proofs.Inv.{Inv, in_mode, is_locked, row_bound, with_fop, timed, fit, word_read, legal_of}
use Rattle.session.proofs.Receiver.{ad_cases, begun, at}
use Rattle.session.proofs.Clear.{length_places}
use Rattle.session.proofs.Keys.{bit, bit_le, rank, rank_le, floor, waits, Keys, keys_le, keys_mono, keys_add, Tidy}
use Rattle.session.proofs.Every.{implies, implied, every_seen, seen_at}
use Rattle.fop.specs.Table.{if_not_suspended}
use Rattle.farm.specs.Table as t79
use Rattle.farm.specs.Table.{step_of, unit_of}
use Rattle.farm.specs.declared.State.{State as FarmState}
use Rattle.farm.specs.declared.State.TheVariants.{Open, Wait, Lockout}
use Rattle.farm.specs.declared.Event.{Event as FarmEvent}
use Rattle.farm.specs.declared.Event.TheVariants as farm
use Rattle.farm.specs.declared.Variables.{Variables}

-- the next effective state is not one of resending
abbrev forward : ℕ → State → Cell → Bool
forward n s NotApplicable = false
forward n s (cell xs u) = leb (rank (effective_of u (suspend_all xs n))) 0
forward n s (if_not_suspended xs ys u) = false

-- the next effective state is one of resending only if the last was
abbrev holds : ℕ → State → Cell → Bool
holds n s NotApplicable = true
holds n s (cell xs u) = leb (rank (effective_of u (suspend_all xs n))) (rank (effective_of s n))
holds n s (if_not_suspended xs ys u) = false

abbrev row_holds : FopEvent → Bool
row_holds e = at_all (holds 0) (table78 e) && at_suspended holds (table78 e)

-- at every Suspend_State, or at the one at hand
abbrev Holds : FopEvent → ℕ → Type 0
Holds e n = T (row_holds e) ⊎ T (at_initial holds n (table78 e))

holds_at : (e : FopEvent) (f : Fop) → Holds e f.suspend_state → T (sound (mode_of (effective f))) → T (unsuspended f.state f.suspend_state)
    → T (holds f.suspend_state f.state (cell78 (table78 e) f.state))
holds_at e f (inl h) g o =
    at_any holds (table78 e) f.state f.suspend_state (and_l (at_all (holds 0) (table78 e)) _ h) (inr (and_r (at_all (holds 0) (table78 e)) _ h)) g o
holds_at e f (inr h) g o = at_initial_lem holds (table78 e) f.state f.suspend_state h o

-- by what is known of Suspend_State after the actions
rank_after : (xs : List Action) (w : Work) (u : State) (k : ℕ) → T (leb (rank (effective_of u (suspend_all xs w.fop.suspend_state))) k)
    → rank (effective_of u (perform_all xs w).fop.suspend_state) ≤ k
rank_after xs w u k t = subst (λ (n : ℕ). rank (effective_of u n) ≤ k) (sym (suspend_all_lem xs w)) (leb→le _ k t)

forward_next : (c : Cell) (w : Work) → T (forward w.fop.suspend_state w.fop.state c) → rank (effective (perform_cell c w).fop) ≤ 0
unfolding perform_cell
forward_next NotApplicable w t = absurd t
forward_next (if_not_suspended xs ys u) w t = absurd t
forward_next (cell xs u) w t = rank_after xs w u 0 t

holds_next : (c : Cell) (w : Work) → T (holds w.fop.suspend_state w.fop.state c)
    → rank (effective (perform_cell c w).fop) ≤ rank (effective w.fop)
unfolding perform_cell
holds_next NotApplicable w t = omega arith
holds_next (if_not_suspended xs ys u) w t = absurd t
holds_next (cell xs u) w t = rank_after xs w u (rank (effective w.fop)) t

-- without the retransmit flag a word leads to no state of resending
abbrev forward_at : Seen → Bool
forward_at x = implies (not x.retransmit) (at_all (forward 0) (table78 (word_event x)))

forward_all : T (every_seen forward_at)
unfolding table78 word_event
forward_all = tt

word_forward : (x : Seen) → x.retransmit ≡ false → T (at_all (forward 0) (table78 (word_event x)))
word_forward x r = implied (not x.retransmit) _ (seen_at forward_at x forward_all) (rw r)

-- in Initial a word is ignored, suspended or not
initial_ignores : (x : Seen) (w : Work) → perform_cell (cell78 (table78 (word_event x)) S6) w ≡ on_fop (set_state S6 w.fop) w
unfolding perform_cell perform_all perform table78 word_event
initial_ignores x w =
    first_each (λ e. perform_cell (cell78 (table78 e) S6) w ≡ on_fop (set_state S6 w.fop) w) (word_lines x) FopEvent.E103
    (refl also refl also refl also refl also refl also refl also refl also refl
    also refl also refl also refl also refl also refl also refl also refl also refl also tt) refl

-- so without the retransmit flag a word leads to no effective state of resending, or changes nothing
module _ (x : Seen) (r : x.retransmit ≡ false) (e : Option FopEvent) (o : List ℕ) (v : ℕ) (f : Fop) (g : T (sound (mode_of (effective f))))
    (out : T (unsuspended f.state f.suspend_state)) where
  abbrev done : Work
  done = perform_cell (cell78 (table78 (word_event x)) f.state) (begin e o v f)

  abbrev Falls : Type 0
  Falls = (rank (effective done.fop) ≤ 0) ⊎ ((done.confirmed ≡ []) × (rank (effective done.fop) ≤ rank (effective f)))

  forward_zero : f.suspend_state ≡ 0 → Falls
  forward_zero z =
      inl (forward_next (cell78 (table78 (word_event x)) f.state) (begin e o v f) (at_zero forward (table78 (word_event x)) f.state f.suspend_state (word_forward x r) g z))

  ignored_initial : f.state ≡ S6 → Falls
  ignored_initial q =
      let p : done ≡ on_fop (set_state S6 f) (begin e o v f) =
      ap (λ (s : State). perform_cell (cell78 (table78 (word_event x)) s) (begin e o v f)) q ∙ initial_ignores x (begin e o v f) in
      let k : rank (effective done.fop) ≡ rank (effective f) =
      ap (λ (w : Work). rank (effective w.fop)) p ∙ ap (λ (s : State). rank (effective_of s f.suspend_state)) (sym q) in
      inr (ap (λ (w : Work). w.confirmed) p, omega (arith, k))

  word_falls : Falls
  word_falls = by f.state refl
    where
      outside : (s : State) → f.state ≡ s → T (unsuspended s f.suspend_state)
      outside s q = subst (λ (y : State). T (unsuspended y f.suspend_state)) q out

      in_session : (s : State) → f.state ≡ s → T (sound (mode_of (effective_of s f.suspend_state)))
      in_session s q = subst (λ (y : State). T (sound (mode_of (effective_of y f.suspend_state)))) q g

      by : (s : State) → f.state ≡ s → Falls
      by S1 q = forward_zero (eqb→eq f.suspend_state 0 (outside S1 q))
      by S2 q = forward_zero (eqb→eq f.suspend_state 0 (outside S2 q))
      by S3 q = forward_zero (eqb→eq f.suspend_state 0 (outside S3 q))
      by S4 q = absurd (in_session S4 q)
      by S5 q = absurd (in_session S5 q)
      by S6 q = ignored_initial q

-- the table's rows that no word brings
abbrev timer_row : FopEvent → Bool
timer_row e = row_any nothing e && row_holds e

timer_holds : T (timer_row FopEvent.E16 && timer_row FopEvent.E17)
unfolding table78
timer_holds = tt

suspending_holds : T (timer_row FopEvent.E104 && timer_row FopEvent.E18)
unfolding table78
suspending_holds = tt

ad_holds : (c : Bool) → T (row_holds (first (when c FopEvent.E19 ∷ []) FopEvent.E20))
unfolding table78
ad_holds c = first_all row_holds (when c FopEvent.E19 ∷ []) FopEvent.E20 tt

bd_holds : (c : Bool) → T (row_holds (first (when c FopEvent.E21 ∷ []) FopEvent.E22))
unfolding table78
bd_holds c = first_all row_holds (when c FopEvent.E21 ∷ []) FopEvent.E22 tt

lower_holds : (l : Lower) → T (row_holds (lower_event l))
unfolding table78
lower_holds = lower_all row_holds tt

terminate_holds : T (row_holds FopEvent.E29)
unfolding table78
terminate_holds = tt

resume_holds : (v : ℕ) (f : Fop) → T (sound (mode_of (effective f))) → T (unsuspended f.state f.suspend_state) → Holds (directive_event 6 v f) f.suspend_state
unfolding table78
resume_holds = resume_rows Holds (inl tt) (inr tt) (inr tt) (inr tt)

-- the sender's answers
one_grows : (n : ℕ) (s : List Fdu) (f : Frame) → length s ≤ length (add_sent n s f)
one_grows n s (AD u) = go (eqb u.ns (advanced n (length s)))
  where
    go : (b : Bool) → length s ≤ length (pick b (s ++ (u ∷ [])) s)
    go true = omega (arith, length-append s (u ∷ []))
    go false = omega arith
one_grows n s (BD o) = omega arith
one_grows n s Unlock = omega arith
one_grows n s (SetVR v) = omega arith
one_grows n s (Refused r) = omega arith

sent_grows : (n : ℕ) (s : List Fdu) (fs : List Frame) → length s ≤ length (add_all n s fs)
sent_grows n s [] = omega arith
sent_grows n s (f ∷ fs) = omega (arith, one_grows n s f, sent_grows n (add_sent n s f) fs)

tidy_answered : (n : ℕ) (σ : Session) (ws : List Word) (w : Work) (low : ℕ) → Tidy n σ
    → Keys n (length σ.sent) low (2 * length σ.accepted + bit σ.farm.retransmit) ws
    → floor (effective w.fop) (length σ.confirmed + length w.confirmed) ≤ low → low ≤ 2 * length σ.sent
    → Tidy n (answered n w (channels σ.frames ws σ))
unfolding answered channels
tidy_answered n σ ws w low t k a b =
    let g = sent_grows n σ.sent w.frames in
    let c : length (σ.confirmed ++ places (add_all n σ.sent w.frames) (first_of w.confirmed) (length w.confirmed))
    ≡ length σ.confirmed + length w.confirmed =
    length-append σ.confirmed _ ∙ ap (λ (x : ℕ). length σ.confirmed + x) (length_places _ _ _) in
    record {
      keys = keys_mono n _ _ low _ _ _ ws g (omega (arith, a, c)) (omega arith) k;
      wait_flag = t.wait_flag;
      wait_missing = t.wait_missing;
      missing = omega (arith, t.missing, g);
      below = omega (arith, a, b, c, g);
    }

-- a row that confirms nothing
plain_tidy : (set : Settings) (σ : Session) (given : Given) (e : FopEvent) (o : List ℕ) (v : ℕ) → Inv set σ → Tidy set.n σ → Tested given e σ.fop.suspend_state → Holds e σ.fop.suspend_state
    → Reports given set.n (length σ.confirmed) (length σ.accepted) v o
    → Tidy set.n (answered set.n (fop_do e o v σ.fop) (channels σ.frames σ.words σ))
unfolding fop_do
plain_tidy set σ given e o v I t ok h r =
    let rk : rank (effective (fop_do e o v σ.fop).fop) ≤ rank (effective σ.fop) =
    holds_next (cell78 (table78 e) σ.fop.state) (begin (some e) o v σ.fop) (holds_at e σ.fop h (in_mode set σ I) I.suspension.outside) in
    let cb = row_bound set σ given (length σ.confirmed) e o v I ok (omega arith) r in
    tidy_answered set.n σ σ.words (fop_do e o v σ.fop) (floor (effective σ.fop) (length σ.confirmed)) t t.keys (omega (arith, rk, cb)) t.below

sender_tidy : (set : Settings) (e : SenderEvent) (lent : ℕ) (σ : Session) → Tidy set.n σ
    → (judged set.own e ≡ 0 → Tidy set.n (answered set.n (work set.own e σ.fop) σ)) → Tidy set.n (sender set e lent σ)
unfolding sender
sender_tidy set e lent σ t h =
    by_pick (Tidy set.n) (goes set.own e lent σ.fop) (λ b. h (fit set.own e lent σ.fop b).0) (λ b. t)

tick_tidy : (set : Settings) (σ : Session) → Inv set σ → Tidy set.n σ → Tidy set.n (answered set.n (fop_tick σ.fop) σ)
unfolding answered channels
tick_tidy set σ I t =
    let τ : Session = with_fop (lowered σ.fop) σ in
    let t' : Tidy set.n τ = record { keys = t.keys; wait_flag = t.wait_flag; wait_missing = t.wait_missing; missing = t.missing; below = t.below } in
    tick_ways timer_row timer_holds (λ w. Tidy set.n (answered set.n w σ)) σ.fop (λ b. suspending_holds)
    (λ e h. plain_tidy set τ nothing e [] 0 (timed set _ _ σ I) t' (any nothing e (and_l (row_any nothing e) _ h)) (inl (and_r (row_any nothing e) _ h)) tt)
    (tidy_answered set.n τ σ.words (begin none [] 0 τ.fop) (floor (effective σ.fop) (length σ.confirmed)) t' t.keys (omega arith) t.below)

pub words_tidy : (n : ℕ) (σ : Session) (fs : List Frame) (ws : List Word) → Tidy n σ
    → Keys n (length σ.sent) (floor (effective σ.fop) (length σ.confirmed)) (2 * length σ.accepted + bit σ.farm.retransmit) ws
    → Tidy n (channels fs ws σ)
unfolding channels
words_tidy n σ fs ws t k =
    record { keys = k; wait_flag = t.wait_flag; wait_missing = t.wait_missing; missing = t.missing; below = t.below }

pub word_tidy : (set : Settings) → Within set → (lent : ℕ) (σ : Session) (l : List Word) → Inv set σ → Tidy set.n σ
    → Wds set.n (length σ.confirmed) (length σ.accepted) l
    → Keys set.n (length σ.sent) (floor (effective σ.fop) (length σ.confirmed)) (2 * length σ.accepted + bit σ.farm.retransmit) l
    → Tidy set.n (word_come set lent l σ)
unfolding word_come fop_word fop_do channels
word_tidy set vw lent σ [] I t h k = t
word_tidy set vw lent σ (w ∷ ws) I t h k =
    let b1 = bit_le w.retransmit in
    let b2 = bit_le σ.farm.retransmit in
    let ca : length σ.confirmed ≤ k.0 = omega (arith, k.2, b1) in
    let al : k.0 ≤ length σ.accepted = omega (arith, keys_le set.n _ _ _ ws k.6, b2) in
    let cb = row_bound set σ word k.0 (word_event (seen w σ.fop)) [] w.nr I (any word _ (word_ok (seen w σ.fop))) ca (k.1, al) in
    sender_tidy set (word_arrives (word_octets set.own w)) lent (channels σ.frames ws σ)
    (words_tidy set.n σ σ.frames ws t (keys_mono set.n _ _ _ _ _ _ ws (omega arith) k.2 (omega arith) k.6))
    (λ j. rw (word_read set vw w σ.fop h.3 (omega (arith, h.1)))
    (tidy_answered set.n σ ws (fop_word w σ.fop) (2 * k.0 + bit w.retransmit) t k.6 (low (in_mode set σ I) w.retransmit refl cb) (omega (arith, k.5))))
  where
    low : T (sound (mode_of (effective σ.fop))) → (b : Bool) → w.retransmit ≡ b → length σ.confirmed + length (fop_word w σ.fop).confirmed ≤ k.0
        → floor (effective (fop_word w σ.fop).fop) (length σ.confirmed + length (fop_word w σ.fop).confirmed) ≤ 2 * k.0 + bit w.retransmit
    low g true e c = omega (arith, rank_le (effective (fop_word w σ.fop).fop), ap bit e, c)
    low g false e c =
        by (word_falls (seen w σ.fop) e (some (word_event (seen w σ.fop))) [] w.nr σ.fop g I.suspension.outside)
      where
        by : Falls (seen w σ.fop) e (some (word_event (seen w σ.fop))) [] w.nr σ.fop g I.suspension.outside
            → floor (effective (fop_word w σ.fop).fop) (length σ.confirmed + length (fop_word w σ.fop).confirmed) ≤ 2 * k.0 + bit w.retransmit
        by (inl r) = omega (arith, c, r)
        by (inr (z, r)) = omega (arith, ap length z, r, k.2)

-- the receiver
tidy_received : (n : ℕ) (σ : Session) (v : Variables) (acc : List Fdu) (bda : List (List ℕ)) (r : ℕ) (fs : List Frame) → Tidy n σ
    → bit v.wait ≤ waits v.state → waits v.state ≤ bit v.retransmit
    → length acc + bit v.retransmit ≤ length σ.sent
    → 2 * length σ.accepted + bit σ.farm.retransmit ≤ 2 * length acc + bit v.retransmit → Tidy n (receiver v acc bda r fs σ)
unfolding receiver
tidy_received n σ v acc bda r fs t a b m k =
    record {
      keys = keys_mono n _ _ _ _ _ _ σ.words (omega arith) (omega arith) k t.keys;
      wait_flag = a;
      wait_missing = b;
      missing = m;
      below = t.below;
    }

module _ (n : ℕ) (σ : Session) (fs : List Frame) (t : Tidy n σ) where
  -- what the invariant says of the flags, at a state named s
  abbrev At : FarmState → Type 0
  At s = (is_locked s ≡ false) × (bit σ.farm.wait ≤ waits s) × (waits s ≤ bit σ.farm.retransmit)

  as_it_was : (v : Variables) (b : List (List ℕ)) (r : ℕ) → bit v.wait ≤ waits v.state → waits v.state ≤ bit v.retransmit
      → v.retransmit ≡ σ.farm.retransmit → Tidy n (receiver v σ.accepted b r fs σ)
  as_it_was v b r w h q = tidy_received n σ v σ.accepted b r fs t w h (rw q t.missing) (rw q (omega arith))

  -- the event e in the state s, for an AD frame
  abbrev RT : Fdu → FarmEvent → FarmState → Type 0
  RT u e s = Tidy n (receiver (step_of e 0 (at s σ.farm)) (taken (AD u) (is_handed (unit_of e s)) σ.accepted) σ.accepted_bd σ.released fs σ)

  takes_tidy : (u : Fdu) → length σ.accepted < length σ.sent → (s : FarmState) → At s → RT u farm.E1 s
  unfolding t79.table step_of t79.perform_all t79.perform t79.accepts
  takes_tidy u b Open h =
      tidy_received n σ _ _ _ _ fs t h.1 (omega arith) (omega (arith, length-append σ.accepted (u ∷ [])))
      (omega (arith, length-append σ.accepted (u ∷ []), bit_le σ.farm.retransmit))
  takes_tidy u b Wait h = as_it_was _ _ _ h.1 h.2 refl
  takes_tidy u b Lockout h = never h.0

  e2_tidy : (u : Fdu) → length σ.accepted < length σ.sent → (s : FarmState) → At s → RT u farm.E2 s
  unfolding t79.table step_of t79.perform_all t79.perform t79.accepts
  e2_tidy u b Open h = tidy_received n σ _ _ _ _ fs t (omega arith) (omega arith) (omega arith) (omega (arith, bit_le σ.farm.retransmit))
  e2_tidy u b Wait h = as_it_was _ _ _ h.1 h.2 refl
  e2_tidy u b Lockout h = never h.0

  e3_tidy : (u : Fdu) → length σ.accepted < length σ.sent → (s : FarmState) → At s → RT u farm.E3 s
  unfolding t79.table step_of t79.perform_all t79.perform t79.accepts
  e3_tidy u b Open h = tidy_received n σ _ _ _ _ fs t h.1 (omega arith) (omega arith) (omega (arith, bit_le σ.farm.retransmit))
  e3_tidy u b Wait h = as_it_was _ _ _ h.1 h.2 refl
  e3_tidy u b Lockout h = never h.0

  e4_tidy : (u : Fdu) (s : FarmState) → At s → RT u farm.E4 s
  unfolding t79.table step_of t79.perform_all t79.perform t79.accepts
  e4_tidy u Open h = as_it_was _ _ _ h.1 h.2 refl
  e4_tidy u Wait h = as_it_was _ _ _ h.1 h.2 refl
  e4_tidy u Lockout h = never h.0

  e6_tidy : (b : List (List ℕ)) (s : FarmState) → At s → Tidy n (receiver (step_of farm.E6 0 (at s σ.farm)) σ.accepted b σ.released fs σ)
  unfolding t79.table step_of t79.perform_all t79.perform t79.accepts
  e6_tidy b Open h = as_it_was _ _ _ h.1 h.2 refl
  e6_tidy b Wait h = as_it_was _ _ _ h.1 h.2 refl
  e6_tidy b Lockout h = never h.0

  e10_tidy : (r : ℕ) (s : FarmState) → At s → Tidy n (receiver (step_of farm.E10 0 (at s σ.farm)) σ.accepted σ.accepted_bd r fs σ)
  unfolding t79.table step_of t79.perform_all t79.perform
  e10_tidy r Open h = as_it_was _ _ _ h.1 h.2 refl
  e10_tidy r Wait h = as_it_was _ _ _ (omega arith) (omega arith) refl
  e10_tidy r Lockout h = never h.0

pub frame_tidy : (set : Settings) → Within set → (σ : Session) (room : Bool) (l : List Frame) → Inv set σ → Tidy set.n σ
    → Fly (set.w / 2) σ.sent (length σ.accepted) (length σ.accepted) l → Tidy set.n (frame_come set room l σ)
unfolding frame_come frame_event
frame_tidy set vw σ room [] I t h = t
frame_tidy set vw σ room (AD u ∷ fs) I t h =
    let it : At set.n σ fs t σ.farm.state = (I.receiver.unlocked, t.wait_flag, t.wait_missing) in
    ad_cases set vw σ room u fs I h (λ e. RT set.n σ fs t u e σ.farm.state)
    (λ i p. takes_tidy set.n σ fs t u (omega (arith, h.2)) σ.farm.state it)
    (λ i p. e2_tidy set.n σ fs t u (omega (arith, h.2)) σ.farm.state it)
    (λ i. e3_tidy set.n σ fs t u (omega (arith, h.2)) σ.farm.state it)
    (λ i. e4_tidy set.n σ fs t u σ.farm.state it)
frame_tidy set vw σ room (BD o ∷ fs) I t h = e6_tidy set.n σ fs t _ σ.farm.state (I.receiver.unlocked, t.wait_flag, t.wait_missing)
frame_tidy set vw σ room (Unlock ∷ fs) I t h = absurd h
frame_tidy set vw σ room (SetVR v ∷ fs) I t h = absurd h
frame_tidy set vw σ room (Refused r ∷ fs) I t h = absurd h

release_tidy : (set : Settings) (σ : Session) → Inv set σ → Tidy set.n σ
    → Tidy set.n (receiver (step_of farm.E10 0 σ.farm) σ.accepted σ.accepted_bd (σ.released + 1) σ.frames σ)
release_tidy set σ I t = e10_tidy set.n σ σ.frames t _ σ.farm.state (I.receiver.unlocked, t.wait_flag, t.wait_missing)

rest_keys : (n S lo hi : ℕ) (ws : List Word) → Keys n S lo hi ws → Keys n S lo hi (rest ws)
rest_keys n S lo hi [] h = h
rest_keys n S lo hi (w ∷ ws) h = keys_mono n S S (2 * h.0 + bit w.retransmit) lo hi hi ws (omega arith) h.2 (omega arith) h.6

pub step_tidy : (set : Settings) → Within set → (e : Event) (σ : Session) → admits (rejects e) σ.fop ≡ true → Inv set σ → Tidy set.n σ → Tidy set.n (step set e σ)
unfolding step step_with releases work judged fop_ad fop_bd fop_lower fop_directive directive_event channels
step_tidy set vw (ad_request o lent) σ a I t =
    sender_tidy set (request_ad o) lent σ t
    (λ j. plain_tidy set σ unit (first (when (is_empty σ.fop.queues.wait_queue) FopEvent.E19 ∷ []) FopEvent.E20) o 0 I t
    (any unit _ (ad_ok (is_empty σ.fop.queues.wait_queue))) (inl (ad_holds (is_empty σ.fop.queues.wait_queue))) (legal_of o j))
step_tidy set vw (bd_request o lent) σ a I t =
    sender_tidy set (request_bd o) lent σ t
    (λ j. plain_tidy set σ unit (first (when σ.fop.out.bd FopEvent.E21 ∷ []) FopEvent.E22) o 0 I t (any unit _ (bd_ok σ.fop.out.bd))
    (inl (bd_holds σ.fop.out.bd)) (legal_of o j))
step_tidy set vw (ticks lent) σ a I t = sender_tidy set fop.tick lent σ t (λ j. tick_tidy set σ I t)
step_tidy set vw (lower_says l lent) σ a I t = sender_tidy set (lower l) lent σ t
    (λ j. plain_tidy set σ nothing (lower_event l) [] 0 I t (lower_ok l σ.fop a) (inl (lower_holds l)) tt)
step_tidy set vw (terminate v lent) σ a I t =
    sender_tidy set (directive 5 v) lent σ t (λ j. plain_tidy set σ nothing FopEvent.E29 [] v I t (any nothing FopEvent.E29 terminate_ok) (inl terminate_holds) tt)
step_tidy set vw (resume v lent) σ a I t =
    sender_tidy set (directive 6 v) lent σ t (λ j. plain_tidy set σ nothing (directive_event 6 v σ.fop) [] v I t
    (resume_ok v σ.fop (in_mode set σ I) I.suspension.outside) (resume_holds v σ.fop (in_mode set σ I) I.suspension.outside) tt)
step_tidy set vw (word_in lent) σ a I t = word_tidy set vw lent σ σ.words I t I.words t.keys
step_tidy set vw word_lost σ a I t = words_tidy set.n σ σ.frames (rest σ.words) t (rest_keys set.n _ _ _ σ.words t.keys)
step_tidy set vw (word_made lent) σ a I t =
    words_tidy set.n σ σ.frames _ t
    (by_pick (Keys set.n _ _ _) (leb word_length lent)
    (λ b. keys_add set.n _ _ (length σ.accepted) σ.farm σ.words I.receiver.is_vr I.receiver.no_lock
    (omega (arith, t.wait_flag, t.wait_missing)) t.missing t.keys)
    (λ b. t.keys))
step_tidy set vw frame_in σ a I t = frame_tidy set vw σ (free set σ) σ.frames I t I.base.fly
step_tidy set vw frame_lost σ a I t = words_tidy set.n σ (rest σ.frames) σ.words t t.keys
step_tidy set vw release σ a I t = by_pick (Tidy set.n) (is_held σ) (λ e. release_tidy set σ I t) (λ e. t)

pub start_tidy : (set : Settings) → Tidy set.n (begun set)
unfolding start_sender start_receiver
start_tidy set = record { keys = omega arith; wait_flag = omega arith; wait_missing = omega arith; missing = omega arith; below = omega arith }
