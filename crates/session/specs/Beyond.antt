-- What holds beyond demand 3, of any pair of ends, over channels that repeat and noise (specs/Channels): all of demand 3 and of the stronger
-- claims (R), what noise does (N), what a denied unit means (D), and a pass that ends (P).
use Rattle.std.specs.Prelude.{◌≡◌, ◌⊎◌, ◌↔◌, Bool, true, false, not, ◌&&◌, List, [], ◌∷◌, ◌++◌, map, ℕ, ◌+◌, ◌*◌, ◌≤◌, ◌<◌, length, get_or}
use Rattle.std.proofs.Math.Option.{none, some}
use Rattle.base.specs.Modulo.{advanced, offset}
use Rattle.base.specs.Limits.{largest_frame}
use Rattle.fop.specs.Units.{Fdu, AD, Refused, other, Own, legal, read_word}
use Rattle.fop.specs.declared.State.TheVariants.{S1, S6}
use Rattle.fop.specs.declared.Lower.TheVariants.{AdAccept}
use Rattle.fop.specs.Events.{word_arrives}
use Rattle.fop.specs.Answers.{refused}
use Rattle.farm.specs.declared.State.TheVariants.{Open}
use Rattle.farm.specs.declared.Event.TheVariants.{E9}
use Rattle.session.specs.Frames.{read}
use Rattle.session.specs.Receiver.{frame_arrives, release_buffer}
use Rattle.session.specs.Ends.{Settings, Ends, tables}
use Rattle.session.specs.Session.{Event, ad_request, lower_says, word_in, word_made, frame_in, release, Linked, History, begins, step, run, no_unit}
use Rattle.session.specs.Claims.{Claims, BufferFree, units_at, member, next_number}
use Rattle.session.specs.Stronger.{Stronger}
use Rattle.session.specs.Channels.{LinkEvent, demanded, frame_stays, word_stays, frame_filled, frame_again, noise, word_noise, is_ad, is_fill, negative_window, largest_negative_window, link_step, link_run}
use Rattle.session.specs.Suspension.{link_unrejected}

-- R. What the receiver hands out: what it accepts, and nothing else. A frame that was repeated and is not accepted hands nothing out.
pub record HandsOut (set : Settings) (m : Ends) (σ : Linked m) : Type 0 where
  -- an AD frame under way: its own unit, where it is accepted, or nothing
  pub frame : (s : List ℕ) (fs : List (List ℕ)) (u : Fdu) → σ.frames ≡ s ∷ fs → read set.own s ≡ AD u
      → (((m.answer_receiver (frame_arrives s) σ.receiver).unit ≡ some u.octets)
      × ((step set m frame_in σ).history.accepted ≡ σ.history.accepted ++ (u ∷ [])))
      ⊎ (((m.answer_receiver (frame_arrives s) σ.receiver).unit ≡ none) × ((step set m frame_in σ).history.accepted ≡ σ.history.accepted))
  -- a release hands nothing out
  pub released : (m.answer_receiver release_buffer σ.receiver).unit ≡ none

-- A frame under way that arrives with fill behind it: answered as the frame alone, with the same unit handed out or none, and counted as it.
pub record FilledAlike (set : Settings) (kept : ℕ) (m : Ends) (σ : Linked m) : Type 0 where
  pub answer : (s : List ℕ) (fs : List (List ℕ)) (fill : List ℕ) → σ.frames ≡ s ∷ fs → is_fill fill ≡ true
      → m.answer_receiver (frame_arrives (s ++ fill)) σ.receiver ≡ m.answer_receiver (frame_arrives s) σ.receiver
  pub history : (fill : List ℕ) → is_fill fill ≡ true → (link_step set kept m (frame_filled fill) σ).history ≡ (step set m frame_in σ).history
  -- and so where it also stays
  pub stays : (fill : List ℕ) → is_fill fill ≡ true
      → (link_step set kept m (frame_stays fill) σ).history ≡ (link_step set kept m (frame_stays []) σ).history

-- N. What the readers refuse, at any time: the whole answer of the ends, and that the tables' session, both ends and both channels, stays.
pub record Harmless (set : Settings) (kept : ℕ) (m : Ends) (σ : Linked m) (γ : Linked (tables set)) : Type 0 where
  -- document 01: "A frame that is refused is event E9 to the receiver"; E9 discards it in every state
  pub frame : (o : List ℕ) (n : ℕ) → read set.own o ≡ Refused n
      → (m.answer_receiver (frame_arrives o) σ.receiver ≡ record { refusal = n; event = some E9; unit = none })
      × ((link_step set kept m (noise o) σ).history ≡ σ.history)
      × (link_step set kept (tables set) (noise o) γ ≡ γ)
  -- octets refused as a control word, with 7 or 10: the refusal alone
  pub word : (o : List ℕ) (lent n : ℕ) → read_word set.own o ≡ other n
      → (m.answer (word_arrives o) lent σ.sender ≡ refused n γ.sender) × ((n ≡ 7) ⊎ (n ≡ 10))
      × ((link_step set kept m (word_noise o lent) σ).history ≡ σ.history)
      × (link_step set kept (tables set) (word_noise o lent) γ ≡ γ)

-- no AD frame is under way
abbrev pub no_ad : Own → List (List ℕ) → Bool
no_ad own [] = true
no_ad own (x ∷ fs) = not (is_ad (read own x)) && no_ad own fs

-- the recorder repeats nothing
abbrev pub none_again : List LinkEvent → Bool
none_again [] = true
none_again (demanded e ∷ es) = none_again es
none_again (frame_stays fill ∷ es) = none_again es
none_again (word_stays lent ∷ es) = none_again es
none_again (frame_filled fill ∷ es) = none_again es
none_again (frame_again i ∷ es) = false
none_again (noise o ∷ es) = none_again es
none_again (word_noise o lent ∷ es) = none_again es

-- the unit at place i of Sent is on board: it is accepted, in its place
abbrev pub OnBoard : History → ℕ → Type 0
OnBoard h i = (i < length h.accepted) × (get_or h.accepted i no_unit ≡ get_or h.sent i no_unit)

-- a number before V(R), modulo 256: by 1 to the largest NW, less than half of the numbers
abbrev pub Before : ℕ → ℕ → Type 0
Before vr x = (1 ≤ offset vr x) × (offset vr x ≤ largest_negative_window)

-- D. What a denied unit means, to a sender in Initial that is not suspended. Which units are denied is specs/Stronger, `initial`.
pub record Split (set : Settings) (kept : ℕ) (m : Ends) (σ : Linked m) (γ : Linked (tables set)) : Type 0 where
  -- exactly the denied units with numbers before V(R) are on board: V(R) is what a control word made now reports
  pub on_board : γ.sender.state ≡ S6 → γ.sender.suspend_state ≡ 0 → (i : ℕ) → member i σ.history.denied ≡ true
      → OnBoard σ.history i ↔ Before γ.receiver.farm.channel.variables.vr (get_or σ.history.sent i no_unit).ns
  -- and, with no AD frame under way, no others ever will be, whatever of these events comes but the recorder's: it could still bring one on board
  pub no_others : γ.sender.state ≡ S6 → γ.sender.suspend_state ≡ 0 → no_ad set.own σ.frames ≡ true
      → (es : List LinkEvent) → none_again es ≡ true → (link_run set kept m es σ).history.accepted ≡ σ.history.accepted
  -- at any time, no more than K units are accepted and not confirmed
  pub unconfirmed : length σ.history.accepted ≤ length σ.history.confirmed + set.k

-- P. At rest: the sender active, its queues empty, the lower layer ready, the timer stopped; the channels empty; the receiver Open without flags,
-- a buffer free.
pub record Rest (set : Settings) {m : Ends} (σ : Linked m) (γ : Linked (tables set)) : Type 0 where
  pub active : γ.sender.state ≡ S1
  pub sent_queue : γ.sender.queues.sent_queue ≡ []
  pub wait_queue : γ.sender.queues.wait_queue ≡ none
  pub ready : γ.sender.out.ad ≡ true
  pub stopped : γ.sender.clock.timer ≡ 0
  pub frames : σ.frames ≡ []
  pub words : σ.words ≡ []
  pub opened : γ.receiver.farm.channel.variables.state ≡ Open
  pub lockout : γ.receiver.farm.channel.variables.lockout ≡ false
  pub wait : γ.receiver.farm.channel.variables.wait ≡ false
  pub retransmit : γ.receiver.farm.channel.variables.retransmit ≡ false
  pub free : BufferFree set σ.history

-- the events of one unit: it is offered, the lower layer accepts its frame, the frame arrives, its buffer is released, a control word is made and
-- arrives; with room lent for the largest frame
abbrev pub pass_of : List ℕ → List Event
pass_of o =
    ad_request o largest_frame ∷ lower_says AdAccept largest_frame ∷ frame_in ∷ release ∷ word_made largest_frame ∷ word_in largest_frame ∷ []

-- a pass of several units, one after the other
abbrev pub pass : List (List ℕ) → List Event
pass [] = []
pass (o ∷ os) = pass_of o ++ pass os

-- units with numbers from x on
abbrev pub numbered : ℕ → List (List ℕ) → List Fdu
numbered x [] = []
numbered x (o ∷ os) = record { ns = x; octets = o } ∷ numbered (advanced x 1) os

-- each of them is legal
abbrev pub all_legal : List (List ℕ) → Bool
all_legal [] = true
all_legal (o ∷ os) = legal o && all_legal os

-- after a pass of the units os, six events for each, which led from σ to τ: all of them are sent, in order, with the next numbers; all are
-- accepted; all that is sent is confirmed; and it is at rest again
pub record Passed (set : Settings) {m : Ends} (os : List (List ℕ)) (σ τ : Linked m) (δ : Linked (tables set)) : Type 0 where
  pub events : length (pass os) ≡ 6 * length os
  pub sent : τ.history.sent ≡ σ.history.sent ++ numbered (next_number set σ.history) os
  pub accepted : τ.history.accepted ≡ σ.history.accepted ++ numbered (next_number set σ.history) os
  pub confirmed : units_at τ.history.sent τ.history.confirmed ≡ map some τ.history.sent
  pub rest : Rest set τ δ

-- all of it, of ends that stand as σ and of the tables that stand as γ
pub record BeyondAt (set : Settings) (kept : ℕ) (m : Ends) (σ : Linked m) (γ : Linked (tables set)) : Type 0 where
  pub claims : Claims set m σ γ
  pub stronger : Stronger set m σ γ
  pub hands_out : HandsOut set m σ
  pub filled : FilledAlike set kept m σ
  pub harmless : Harmless set kept m σ γ
  pub split : Split set kept m σ γ
  pub passes : Rest set σ γ → (os : List (List ℕ)) → all_legal os ≡ true → Passed set os σ (run set m (pass os) σ) (run set (tables set) (pass os) γ)

-- after every list of events in which no lower-layer reject comes while suspended, with a recorder that keeps at most NW units
abbrev pub Beyond : Settings → Ends → Type 0
Beyond set m =
    (kept : ℕ) → kept ≤ negative_window set → (es : List LinkEvent) → link_unrejected set kept es (begins (tables set)) ≡ true
    → BeyondAt set kept m (link_run set kept m es (begins m)) (link_run set kept (tables set) es (begins (tables set)))

-- and at Timeout_Type 0, where nothing is suspended, after every list of events
abbrev pub BeyondAlerting : Settings → Ends → Type 0
BeyondAlerting set m =
    set.timeout_type ≡ 0 → (kept : ℕ) → kept ≤ negative_window set → (es : List LinkEvent)
    → BeyondAt set kept m (link_run set kept m es (begins m)) (link_run set kept (tables set) es (begins (tables set)))
