-- A sender in Initial that is not suspended, with no AD frame under way, stays so at every event of the session, and nothing more is accepted
-- (`step_ended`): a computed test of table 7-8 shows that each row of these events leaves Initial as it is, and only an event that leaves the sender
-- serving hands an AD frame down (Serving). The parts are said over any list of words and any list of frames without an AD frame, whichever of
-- them stay under way. Last, what octets say of the frames under way (`frames_none`).
use mathlib.Core.Logic.{inl, inr}
use mathlib.Core.Path.{◌≡◌, refl, sym, ap, ◌∙◌, subst}
use mathlib.Core.Bool.{Bool, true, false, not, ◌&&◌, false≢true}
use mathlib.Core.List.{List, [], ◌∷◌, map}
use mathlib.Core.Option.{some}
use Prim.Native.Nat.{ℕ}
use lib.Dec.{T, eqb, eqb→eq}
use Rattle.fop.specs.Units.{Frame, AD, BD, Unlock, SetVR, Refused, Own, Word, WordReceived, valid, invalid, other, written, read_word, word_octets}
use Rattle.fop.specs.declared.State.{State}
use Rattle.fop.specs.declared.State.TheVariants.{S1, S2, S3, S4, S5, S6}
use Rattle.fop.specs.declared.Event.{Event as FopEvent}
use Rattle.fop.specs.Table.{Cell, cell, if_not_suspended, NotApplicable, table78, cell78}
use Rattle.fop.specs.Variables.{Fop, Work, begin}
use Rattle.fop.specs.Effective.{effective}
use Rattle.fop.specs.Machine.{perform, perform_all, perform_cell, fop_do}
use Rattle.fop.specs.Events.{when, word_lines, word_event, seen, fop_word, fop_ad, fop_bd, is_empty, fop_tick, fop_lower, fop_directive, directive_event, directive_lines, first, fop_received}
use Rattle.fop.specs.Events.{SenderEvent, request_ad, request_bd, lower, directive, word_arrives, work}
use Rattle.fop.specs.Events as fop
use Rattle.session.specs.Frames.{read}
use Rattle.session.specs.Ends.{Settings, Within, Ends, Tied, SessionDirective}
use Rattle.session.specs.Session.{Linked, Event, ad_request, bd_request, ticks, lower_says, terminate, resume, word_in, word_lost, word_made, frame_in, frame_lost, release, rest}
use Rattle.session.specs.Claims.{serves}
use Rattle.session.specs.Stronger.{InSession}
use Rattle.session.specs.Channels.{LinkEvent, demanded, frame_stays, word_stays, frame_filled, frame_again, noise, word_noise, is_ad, stays, is_fill}
use Rattle.session.specs.Beyond.{no_ad, none_again}
use Rattle.fop.proofs.Choices.{by_pick, and_l, and_r, and_both}
use Rattle.fop.proofs.Test.{first_all, lower_all, lowered, tick_ways}
use Rattle.session.proofs.Suspended.{is_initial, suspend_all, suspend_all_lem, effective_is}
use Rattle.session.proofs.Core.{Session, goes, sender, answered, word_come, channels, frame_come, receiver, releases, free, is_held, step, step_with}
use Rattle.session.proofs.Rows.{mode_of, sound}
use Rattle.session.proofs.Inv.{Inv}
use Rattle.session.proofs.Link.{Rel, Reads, reads, fly_reads}
use Rattle.session.proofs.Channels.{stays_ad, link_step}
use Rattle.session.proofs.Serving.{NoAd, none_more, Serving, ad_serving, bd_serving, tick_serving, lower_serving, directive_serving, word_serving}

-- The sender.

pub record Initial (f : Fop) : Type 0 where
  pub state : f.state ≡ S6
  pub unsuspended : f.suspend_state ≡ 0

is_initial_lem : (s : State) → T (is_initial s) → s ≡ S6
is_initial_lem S1 t = absurd t
is_initial_lem S2 t = absurd t
is_initial_lem S3 t = absurd t
is_initial_lem S4 t = absurd t
is_initial_lem S5 t = absurd t
is_initial_lem S6 t = refl

-- the test: the cell of Initial leads to Initial, with Suspend_State 0 as it was
abbrev cell_initial : Cell → Bool
cell_initial NotApplicable = true
cell_initial (cell xs u) = is_initial u && eqb (suspend_all xs 0) 0
cell_initial (if_not_suspended xs ys u) = false

abbrev row_initial : FopEvent → Bool
row_initial e = cell_initial (cell78 (table78 e) S6)

cell_initial_lem : (c : Cell) (w : Work) → T (cell_initial c) → Initial w.fop → Initial (perform_cell c w).fop
unfolding perform_cell
cell_initial_lem NotApplicable w t h = h
cell_initial_lem (cell xs u) w t h =
    record {
      state = is_initial_lem u (and_l (is_initial u) _ t);
      unsuspended = suspend_all_lem xs w ∙ ap (suspend_all xs) h.unsuspended ∙ eqb→eq (suspend_all xs 0) 0 (and_r (is_initial u) _ t);
    }
cell_initial_lem (if_not_suspended xs ys u) w t h = absurd t

do_initial : (e : FopEvent) (o : List ℕ) (v : ℕ) (f : Fop) → T (row_initial e) → Initial f → Initial (fop_do e o v f).fop
unfolding fop_do
do_initial e o v f t h =
    cell_initial_lem (cell78 (table78 e) f.state) (begin (some e) o v f) (subst (λ (s : State). T (cell_initial (cell78 (table78 e) s))) (sym h.state) t) h

-- what such an event leaves
abbrev Kept : Work → Type 0
Kept w = Initial w.fop × NoAd w.frames

-- an event that leaves the sender in Initial does not leave it serving
kept : (w : Work) → Initial w.fop → Serving w → Kept w
kept w h (inl n) = (h, n)
kept w h (inr s) = absurd (false≢true (ap serves (sym h.state) ∙ s))

-- Initial is a state of the session
in_session : (f : Fop) → Initial f → T (sound (mode_of (effective f)))
in_session f h = subst (λ (s : State). T (sound (mode_of s))) (sym (effective_is f h.unsuspended ∙ h.state)) tt

-- an invalid word is ignored
invalid_none : (f : Fop) → Initial f → NoAd (fop_do FopEvent.E15 [] 0 f).frames
unfolding fop_do table78 perform_cell perform_all perform
invalid_none f h =
    subst (λ (s : State). NoAd (perform_cell (cell78 (table78 FopEvent.E15) s) (begin (some FopEvent.E15) [] 0 f)).frames) (sym h.state) tt

received_kept : (x : WordReceived) (f : Fop) → Initial f → Kept (fop_received x f)
unfolding fop_received fop_word word_event table78
received_kept (valid w) f h =
    kept (fop_word w f) (do_initial _ [] w.nr f (first_all row_initial (word_lines (seen w f)) FopEvent.E103 tt) h) (word_serving f (in_session f h) w)
received_kept invalid f h = (do_initial FopEvent.E15 [] 0 f tt h, invalid_none f h)
received_kept (other r) f h = (h, tt)

tick_initial : (f : Fop) → Initial f → Initial (fop_tick f).fop
unfolding table78
tick_initial f h =
    let k : Initial (lowered f) = record { state = h.state; unsuspended = h.unsuspended } in
    tick_ways row_initial tt (λ w. Initial w.fop) f (λ z. tt) (λ e t. do_initial e [] 0 (lowered f) t k) k

-- an event of the session
pub work_kept : (own : Own) (ws : List (List ℕ)) (e : SenderEvent) (f : Fop) → InSession ws e → Initial f → Kept (work own e f)
unfolding work fop_ad fop_bd fop_lower fop_directive directive_event table78
work_kept own ws (request_ad o) f i h =
    kept (fop_ad o f) (do_initial _ o 0 f (first_all row_initial (when (is_empty f.queues.wait_queue) FopEvent.E19 ∷ []) FopEvent.E20 tt) h)
    (ad_serving f (in_session f h) o)
work_kept own ws (request_bd o) f i h =
    kept (fop_bd o f) (do_initial _ o 0 f (first_all row_initial (when f.out.bd FopEvent.E21 ∷ []) FopEvent.E22 tt) h) (bd_serving f (in_session f h) o)
work_kept own ws fop.tick f i h = kept (fop_tick f) (tick_initial f h) (tick_serving f (in_session f h))
work_kept own ws (lower l) f i h = kept (fop_lower l f) (do_initial _ [] 0 f (lower_all row_initial tt l) h) (lower_serving f (in_session f h) l)
work_kept own ws (directive d v) f i h = kept (fop_directive d v f) (do_initial _ [] v f (by i) h) (directive_serving f (in_session f h) d v i)
  where
    -- Resume is refused: the sender is not suspended
    by : SessionDirective d → T (row_initial (first (directive_lines d v f) FopEvent.E39))
    by (inl q) = rw q tt
    by (inr q) = rw (q, h.unsuspended) tt
work_kept own ws (word_arrives s) f i h = received_kept (read_word own s) f h

-- The session.

none_behind : (f : Frame) (fs : List Frame) → NoAd (f ∷ fs) → NoAd fs
none_behind (AD u) fs h = absurd h
none_behind (BD o) fs h = h
none_behind Unlock fs h = h
none_behind (SetVR v) fs h = h
none_behind (Refused r) fs h = h

pub none_rest : (fs : List Frame) → NoAd fs → NoAd (rest fs)
none_rest [] h = h
none_rest (f ∷ fs) h = none_behind f fs h

-- no AD frame is there to stay
none_stays : (fs : List Frame) → NoAd fs → NoAd (stays_ad fs)
none_stays [] h = tt
none_stays (AD u ∷ fs) h = absurd h
none_stays (BD o ∷ fs) h = tt
none_stays (Unlock ∷ fs) h = tt
none_stays (SetVR v ∷ fs) h = tt
none_stays (Refused r ∷ fs) h = tt

-- the sender is in Initial, not suspended, and no AD frame is under way
pub record Ended (κ : Session) : Type 0 where
  pub initial : Initial κ.fop
  pub none : NoAd κ.frames

-- and so it is after an event, which accepts nothing
abbrev pub StaysEnded : Session → Session → Type 0
StaysEnded κ τ = Ended τ × (τ.accepted ≡ κ.accepted)

module _ (set : Settings) where
  pub sender_ended : (ws : List (List ℕ)) (e : SenderEvent) (lent : ℕ) (κ : Session) → InSession ws e → Ended κ → StaysEnded κ (sender set e lent κ)
  unfolding sender answered
  sender_ended ws e lent κ i h =
      let k = work_kept set.own ws e κ.fop i h.initial in
      by_pick (StaysEnded κ) (goes set.own e lent κ.fop)
      (λ b. (record { initial = k.0; none = none_more κ.frames (work set.own e κ.fop).frames h.none k.1 }, refl)) (λ b. (h, refl))

  -- other channels
  pub channels_ended : (fs : List Frame) (ws : List Word) (κ : Session) → NoAd fs → Ended κ → StaysEnded κ (channels fs ws κ)
  unfolding channels
  channels_ended fs ws κ n h = (record { initial = h.initial; none = n }, refl)

  -- the first of any words to the sender
  pub words_ended : (lent : ℕ) (l : List Word) (κ : Session) → Ended κ → StaysEnded κ (word_come set lent l κ)
  unfolding word_come channels
  words_ended lent [] κ h = (h, refl)
  words_ended lent (w ∷ ws) κ h =
      let s = word_octets set.own w in
      sender_ended (s ∷ []) (word_arrives s) lent (channels κ.frames ws κ) ([], refl) (channels_ended κ.frames ws κ h.none h).0

  -- the first of any frames, none of them an AD frame, to the receiver
  pub frames_ended : (room : Bool) (l : List Frame) (κ : Session) → NoAd l → Ended κ → StaysEnded κ (frame_come set room l κ)
  unfolding frame_come receiver
  frames_ended room [] κ n h = (h, refl)
  frames_ended room (AD u ∷ fs) κ n h = absurd n
  frames_ended room (BD o ∷ fs) κ n h = (record { initial = h.initial; none = n }, refl)
  frames_ended room (Unlock ∷ fs) κ n h = (record { initial = h.initial; none = n }, refl)
  frames_ended room (SetVR v ∷ fs) κ n h = (record { initial = h.initial; none = n }, refl)
  frames_ended room (Refused r ∷ fs) κ n h = (record { initial = h.initial; none = n }, refl)

  release_ended : (held : Bool) (κ : Session) → Ended κ → StaysEnded κ (releases held κ)
  unfolding releases receiver
  release_ended held κ h = by_pick (StaysEnded κ) held (λ b. (record { initial = h.initial; none = h.none }, refl)) (λ b. (h, refl))

  -- every event of demand 3
  pub step_ended : (e : Event) (κ : Session) → Ended κ → Ended (step set e κ) × ((step set e κ).accepted ≡ κ.accepted)
  unfolding step step_with
  step_ended (ad_request o lent) κ h = sender_ended [] (request_ad o) lent κ tt h
  step_ended (bd_request o lent) κ h = sender_ended [] (request_bd o) lent κ tt h
  step_ended (ticks lent) κ h = sender_ended [] fop.tick lent κ tt h
  step_ended (lower_says l lent) κ h = sender_ended [] (lower l) lent κ tt h
  step_ended (terminate v lent) κ h = sender_ended [] (directive 5 v) lent κ (inl refl) h
  step_ended (resume v lent) κ h = sender_ended [] (directive 6 v) lent κ (inr refl) h
  step_ended (word_in lent) κ h = words_ended lent κ.words κ h
  step_ended word_lost κ h = channels_ended κ.frames (rest κ.words) κ h.none h
  step_ended (word_made lent) κ h = channels_ended κ.frames _ κ h.none h
  step_ended frame_in κ h = frames_ended (free set κ) κ.frames κ h.none h
  step_ended frame_lost κ h = channels_ended (rest κ.frames) κ.words κ (none_rest κ.frames h.none) h
  step_ended release κ h = release_ended (is_held κ) κ h

  -- and every one besides, but the recorder's
  pub link_ended : (kept : ℕ) (e : LinkEvent) (κ : Session) → none_again (e ∷ []) ≡ true → Ended κ → StaysEnded κ (link_step set kept e κ)
  unfolding link_step
  link_ended kept (demanded e) κ n h = step_ended e κ h
  link_ended kept (frame_stays fill) κ n h =
      by_pick (StaysEnded κ) (is_fill fill) (λ b. frames_ended (free set κ) (stays_ad κ.frames) κ (none_stays κ.frames h.none) h) (λ b. (h, refl))
  link_ended kept (word_stays lent) κ n h = words_ended lent (stays κ.words) κ h
  link_ended kept (frame_filled fill) κ n h = by_pick (StaysEnded κ) (is_fill fill) (λ b. step_ended frame_in κ h) (λ b. (h, refl))
  link_ended kept (frame_again i) κ n h = absurd (false≢true n)
  link_ended kept (noise o) κ n h = (h, refl)
  link_ended kept (word_noise o lent) κ n h = (h, refl)

-- The frames under way as octets.

none_first : (f : Frame) (fs : List Frame) → not (is_ad f) ≡ true → NoAd fs → NoAd (f ∷ fs)
none_first (AD u) fs e h = absurd (false≢true e)
none_first (BD o) fs e h = h
none_first Unlock fs e h = h
none_first (SetVR v) fs e h = h
none_first (Refused r) fs e h = h

module _ (set : Settings) (vw : Within set) where
  -- frames that read back, and read so are no AD frames
  pub written_none : (l : List Frame) → Reads l → no_ad set.own (map (written set.own) l) ≡ true → NoAd l
  written_none [] r h = tt
  written_none (x ∷ xs) r h =
      let b = and_both (not (is_ad (read set.own (written set.own x)))) _ h in
      none_first x xs (ap (λ (y : Frame). not (is_ad y)) (sym (reads set vw x r.0)) ∙ b.0) (written_none xs r.1 b.1)

  pub frames_none : (m : Ends) (t : Tied set m) (σ : Linked m) (κ : Session) → Rel set vw m t σ κ → Inv set κ → no_ad set.own σ.frames ≡ true
      → NoAd κ.frames
  frames_none m t σ κ R I h =
      written_none κ.frames (fly_reads set.n _ κ.sent I.base.num _ _ κ.frames I.base.fly) (ap (no_ad set.own) (sym R.frames) ∙ h)
