-- One unit from rest to rest, of the table machines (`round`): it is offered, the lower layer takes it, its frame arrives, its buffer is released,
-- a control word is made, and arrives. The unit is then sent, accepted and confirmed, and the session is at rest again.
--
-- `Stands` says how the parts of a session stand. Each of the six events is a lemma that says how they stand after it: of the sender by one
-- row of table 7-8 (E19, E41, E2), of the receiver by one of table 7-9 (E1, E10). At rest V(S), NN(R) and V(R) are the same number (`level`).
use mathlib.Core.Path.{◌≡◌, refl, sym, ap, ◌∙◌, subst}
use mathlib.Core.Bool.{Bool, true, false}
use mathlib.Core.List.{List, [], ◌∷◌, ◌++◌}
use mathlib.Core.Option.{none}
use Prim.Native.Nat.{ℕ, ◌+◌, ◌-◌, ◌≤◌, ◌<◌}
use native.Mathlib.Omega.{arith}
use lib.Dec.{ltb}
use lib.ListN.{length, length-append}
use borrow.Author.Tests.{lt-ltb, eq-eqb}
use Rattle.base.specs.Choice.{pick}
use Rattle.base.specs.Limits.{largest_frame}
use Rattle.base.specs.Modulo.{advanced, offset}
use Rattle.frame.proofs.Lengths.{length_frame}
use Rattle.fop.specs.Units.{Fdu, Frame, AD, Word, Own, legal, written, word_octets}
use Rattle.fop.specs.declared.State.TheVariants.{S1}
use Rattle.fop.specs.declared.Lower.TheVariants.{AdAccept}
use Rattle.fop.specs.Table.{table78}
use Rattle.fop.specs.Variables.{Fop, Work, Entry, Preset, set_state, set_out, set_clock, set_sequence, set_wait}
use Rattle.fop.specs.Machine.{fdus, first_marked, count_for, unacknowledged, fop_do, perform_cell, perform_all, perform, look_for_fdu, remove_acknowledged, send_waiting, transmit_ad}
use Rattle.fop.specs.Events.{SenderEvent, request_ad, lower, word_arrives, work, fop_ad, fop_lower, fop_word, word_event}
use Rattle.fop.specs.Answers.{judged, needed, octets_down, room}
use Rattle.farm.specs.Table.{table, step_of, unit_of}
use Rattle.farm.specs.Table as farm
use Rattle.farm.specs.Window.{ad_event}
use Rattle.farm.specs.declared.State.{State as FarmState}
use Rattle.farm.specs.declared.State.TheVariants.{Open}
use Rattle.farm.specs.declared.Event.{Event as FarmEvent}
use Rattle.farm.specs.declared.Event.TheVariants.{E1, E10}
use Rattle.farm.specs.declared.Variables.{Variables}
use Rattle.session.specs.Ends.{Settings, Within}
use Rattle.session.specs.Session.{Event, ad_request, lower_says, word_in, word_made, frame_in, release}
use Rattle.session.specs.Claims.{BufferFree, next_number}
use Rattle.session.specs.Stronger.{in_service}
use Rattle.session.specs.Beyond.{pass_of}
use Rattle.fop.proofs.Choices.{none_some}
use Rattle.fop.proofs.Ways.{look_ways}
use Rattle.session.proofs.Core.{Session, add_all, answered, sender, channels, receiver, word_come, frame_come, frame_event, is_handed, report, releases, step_with, step, free, is_held}
use Rattle.session.proofs.Octets.{legal_is}
use Rattle.session.proofs.Values.{new_sent, queue_length}
use Rattle.session.proofs.Inv.{Inv, word_read, fine}
use Rattle.session.proofs.Receiver.{at}
use Rattle.session.proofs.Buffers.{Stocked}
use Rattle.session.proofs.Next.{history_of, lv, sender_is, sent_at_once, ad_is}

-- how a session stands: both ends, both channels, Sent, Accepted and the releases done
pub record Stands (κ : Session) (f : Fop) (v : Variables) (fs : List Frame) (ws : List Word) (s a : List Fdu) (r : ℕ) : Type 0 where
  pub fop : κ.fop ≡ f
  pub farm : κ.farm ≡ v
  pub frames : κ.frames ≡ fs
  pub words : κ.words ≡ ws
  pub sent : κ.sent ≡ s
  pub accepted : κ.accepted ≡ a
  pub released : κ.released ≡ r

-- what the work on an event has come to: the sender, and the frames handed down
record Does (w : Work) (f : Fop) (new : List Frame) : Type 0 where
  fop : w.fop ≡ f
  frames : w.frames ≡ new

-- the unit o with the number x, as the Sent_Queue has it
abbrev queued : ℕ → List ℕ → Entry
queued x o = record { fdu = record { ns = x; octets = o }; marked = false }

-- a sender of empty queues after it sent the unit o, with AD_Out_Flag as it is then
abbrev sending : Bool → List ℕ → Fop → Fop
sending out o f =
    set_state S1
    (set_out out f.out.bc f.out.bd
    (set_clock f.preset.t1_initial 1
    (set_sequence (advanced f.numbers.vs 1) f.numbers.nnr (queued f.numbers.vs o ∷ []) (set_wait none f))))

-- and after all of the Sent_Queue is confirmed by a word that reports x
abbrev confirming : ℕ → Fop → Fop
confirming x f = set_state S1 (set_clock 0 1 (set_sequence f.numbers.vs x [] f))

-- a unit is offered: E19
offer_does : (o : List ℕ) (f : Fop) → f.state ≡ S1 → f.out.ad ≡ true → f.queues.wait_queue ≡ none → f.queues.sent_queue ≡ []
    → offset f.numbers.vs f.numbers.nnr < f.preset.k
    → Does (fop_ad o f) (sending false o f) (AD (record { ns = f.numbers.vs; octets = o }) ∷ [])
unfolding sent_at_once send_waiting transmit_ad perform
offer_does o f s a w q k =
    let is = ad_is o f s a w (ap first_marked q) k in
    record {
      fop = ap (λ (x : Work). x.fop) is
          ∙ ap (λ (x : List Entry). set_state S1
          (set_out false f.out.bc f.out.bd
          (set_clock f.preset.t1_initial (count_for x f.clock.transmission_count)
          (set_sequence (advanced f.numbers.vs 1) f.numbers.nnr (x ++ (queued f.numbers.vs o ∷ [])) (set_wait none f))))) q;
      frames = ap (λ (x : Work). x.frames) is;
    }

-- Look for FDU with nothing marked and nothing waiting
look_idle : (w : Work) → first_marked w.fop.queues.sent_queue ≡ none → w.fop.queues.wait_queue ≡ none → look_for_fdu w ≡ w
look_idle w m q = look_ways (λ v. v ≡ w) w refl (λ u e. absurd (none_some (sym m ∙ e))) (λ o r e. absurd (none_some (sym q ∙ e)))

-- the lower layer comes ready, with nothing to send: E41
ready_does : (f : Fop) → f.state ≡ S1 → first_marked f.queues.sent_queue ≡ none → f.queues.wait_queue ≡ none
    → Does (fop_lower AdAccept f) (set_state S1 (set_out true f.out.bc f.out.bd f)) []
unfolding fop_lower fop_do perform_cell perform_all perform table78
ready_does f s m q =
    record {
      fop = rw s (ap (λ (x : Work). set_state S1 x.fop) (look_idle _ m q));
      frames = rw s (ap (λ (x : Work). x.frames) (look_idle _ m q));
    }

-- a clear control word that reports V(S), one more than NN(R), which leaves nothing on the Sent_Queue, with nothing waiting: E2
clear_does : (c : Word) (f : Fop) → f.state ≡ S1 → c.lockout ≡ false → c.wait ≡ false → c.retransmit ≡ false
    → offset c.nr f.numbers.nnr ≡ 1 → offset f.numbers.vs f.numbers.nnr ≡ 1
    → unacknowledged f.numbers.nnr c.nr f.queues.sent_queue ≡ [] → f.queues.wait_queue ≡ none
    → Does (fop_word c f) (confirming c.nr f) []
unfolding fop_word word_event fop_do perform_cell perform_all perform remove_acknowledged table78
clear_does c f s l w t e d n q =
    record {
      fop = rw (s, l, w, t, e, d) (ap (λ (x : Work). set_state S1 x.fop) (look_idle _ (ap first_marked n) q)
          ∙ ap (λ (x : List Entry). set_state S1 (set_clock 0 1 (set_sequence f.numbers.vs c.nr x f))) n);
      frames = rw (s, l, w, t, e, d) (ap (λ (x : Work). x.frames) (look_idle _ (ap first_marked n) q));
    }

-- FARM-1's variables, Open, after the expected unit is accepted
abbrev onward : Variables → Variables
onward v =
    record { state = Open; vr = advanced v.vr 1; lockout = v.lockout; wait = v.wait; retransmit = false; counter = v.counter }

accepts_is : (v : Variables) → v.state ≡ Open → step_of E1 0 v ≡ onward v
unfolding table step_of farm.perform_all farm.perform
accepts_is v e = ap (λ (s : FarmState). step_of E1 0 (at s v)) e

releases_is : (v : Variables) → v.state ≡ Open → step_of E10 0 v ≡ v
unfolding table step_of farm.perform_all farm.perform
releases_is v e = ap (λ (s : FarmState). step_of E10 0 (at s v)) e ∙ ap (λ (s : FarmState). at s v) (sym e)

-- an AD frame that is expected, to an Open receiver with a buffer free
event_is_lem : (w : ℕ) (u : Fdu) (v : Variables) → v.state ≡ Open → offset u.ns v.vr ≡ 0 → frame_event w true (AD u) v ≡ E1
unfolding frame_event ad_event
event_is_lem w u v s z = rw (s, eq-eqb (offset u.ns v.vr) 0 z)

handed_is : (s : FarmState) → s ≡ Open → is_handed (unit_of E1 s) ≡ true
unfolding table farm.accepts
handed_is s e = rw e

-- a frame of a legal unit fits into the room of the largest frame
unit_fits : (own : Own) (x : ℕ) (o : List ℕ) → legal o ≡ true → length (written own (AD (record { ns = x; octets = o }))) ≤ largest_frame
unfolding written
unit_fits own x o g = omega (arith, length_frame 0 0 x own.spacecraft own.channel o, legal_is o g)

-- the events, by how the session stands before and after each
module _ (set : Settings) (κ : Session) (f : Fop) (v : Variables) where
  -- an event of the sender
  sender_stands : (fs : List Frame) (ws : List Word) (s a : List Fdu) (r : ℕ) → Stands κ f v fs ws s a r
      → (e : SenderEvent) (f' : Fop) (new : List Frame) → Does (work set.own e f) f' new → judged set.own e ≡ 0
      → room (octets_down set.own new) ≤ largest_frame
      → Stands (sender set e largest_frame κ) f' v (fs ++ new) ws (add_all set.n s new) a r
  unfolding answered needed
  sender_stands fs ws s a r h e f' new d j l =
      let is : (work set.own e κ.fop).frames ≡ new = ap (λ (x : Fop). (work set.own e x).frames) h.fop ∙ d.frames in
      let lent : room (octets_down set.own (work set.own e κ.fop).frames) ≤ largest_frame =
      subst (λ (x : List Frame). room (octets_down set.own x) ≤ largest_frame) (sym is) l in
      rw (sender_is set e largest_frame κ j lent) (record {
        fop = ap (λ (x : Fop). (work set.own e x).fop) h.fop ∙ d.fop;
        farm = h.farm;
        frames = ap (λ (x : List Frame). x ++ (work set.own e κ.fop).frames) h.frames ∙ ap (λ (x : List Frame). fs ++ x) is;
        words = h.words;
        sent = ap (λ (x : List Fdu). add_all set.n x (work set.own e κ.fop).frames) h.sent ∙ ap (add_all set.n s) is;
        accepted = h.accepted;
        released = h.released;
      })

  -- the oldest frame arrives, expected, at an Open receiver with a buffer free
  frame_stands : (u : Fdu) (fs : List Frame) (ws : List Word) (s a : List Fdu) (r : ℕ) → Stands κ f v (AD u ∷ fs) ws s a r
      → v.state ≡ Open → offset u.ns v.vr ≡ 0 → length a - r < set.buffers
      → Stands (step set frame_in κ) f (onward v) fs ws s (a ++ (u ∷ [])) r
  unfolding step step_with frame_come receiver
  frame_stands u fs ws s a r h o z b =
      let fr : free set κ ≡ true =
      ap (λ (x : List Fdu). ltb (length x - κ.released) set.buffers) h.accepted
      ∙ ap (λ (x : ℕ). ltb (length a - x) set.buffers) h.released ∙ lt-ltb (length a - r) set.buffers b in
      let e : frame_event set.w (free set κ) (AD u) κ.farm ≡ E1 =
      ap (λ (x : Bool). frame_event set.w x (AD u) κ.farm) fr ∙ ap (frame_event set.w true (AD u)) h.farm
      ∙ event_is_lem set.w u v o z in
      let t : is_handed (unit_of (frame_event set.w (free set κ) (AD u) κ.farm) κ.farm.state) ≡ true =
      ap (λ (x : FarmEvent). is_handed (unit_of x κ.farm.state)) e ∙ handed_is κ.farm.state (ap (λ (x : Variables). x.state) h.farm ∙ o) in
      subst (λ (l : List Frame). Stands (frame_come set (free set κ) l κ) f (onward v) fs ws s (a ++ (u ∷ [])) r) (sym h.frames) (record {
        fop = h.fop;
        farm = ap (λ (x : FarmEvent). step_of x 0 κ.farm) e ∙ ap (step_of E1 0) h.farm ∙ accepts_is v o;
        frames = refl;
        words = h.words;
        sent = h.sent;
        accepted = ap (λ (x : Bool). pick x (κ.accepted ++ (u ∷ [])) κ.accepted) t ∙ ap (λ (x : List Fdu). x ++ (u ∷ [])) h.accepted;
        released = h.released;
      })

  -- a buffer is released, of an Open receiver
  release_stands : (fs : List Frame) (ws : List Word) (s a : List Fdu) (r : ℕ) → Stands κ f v fs ws s a r → v.state ≡ Open → r < length a
      → Stands (step set release κ) f v fs ws s a (r + 1)
  unfolding step step_with releases receiver
  release_stands fs ws s a r h o b =
      let held : is_held κ ≡ true =
      ap (λ (x : List Fdu). ltb 0 (length x - κ.released)) h.accepted
      ∙ ap (λ (x : ℕ). ltb 0 (length a - x)) h.released ∙ lt-ltb 0 (length a - r) (omega arith) in
      subst (λ (x : Bool). Stands (releases x κ) f v fs ws s a (r + 1)) (sym held) (record {
        fop = h.fop;
        farm = ap (step_of E10 0) h.farm ∙ releases_is v o;
        frames = h.frames;
        words = h.words;
        sent = h.sent;
        accepted = h.accepted;
        released = ap (λ (x : ℕ). x + 1) h.released;
      })

  -- a control word is made
  made_stands : (fs : List Frame) (ws : List Word) (s a : List Fdu) (r : ℕ) → Stands κ f v fs ws s a r
      → Stands (step set (word_made largest_frame) κ) f v fs (ws ++ (report v ∷ [])) s a r
  unfolding step step_with channels
  made_stands fs ws s a r h =
      record {
        fop = h.fop;
        farm = h.farm;
        frames = h.frames;
        words = ap (λ (x : List Word). x ++ (report κ.farm ∷ [])) h.words ∙ ap (λ (x : Variables). ws ++ (report x ∷ [])) h.farm;
        sent = h.sent;
        accepted = h.accepted;
        released = h.released;
      }

-- the oldest word arrives, as it was reported, and nothing is sent
word_stands : (set : Settings) → Within set → (κ : Session) (f : Fop) (v : Variables) (fs : List Frame) (c : Word) (ws : List Word) (s a : List Fdu) (r : ℕ)
    → Stands κ f v fs (c ∷ ws) s a r → c.counter ≤ 3 → c.nr < 256 → (f' : Fop) → Does (fop_word c f) f' []
    → Stands (step set (word_in largest_frame) κ) f' v (fs ++ []) ws s a r
unfolding step step_with word_come channels
word_stands set vw κ f v fs c ws s a r h k b f' d =
    let is = word_read set vw c f k b in
    subst (λ (x : List Word). Stands (word_come set largest_frame x κ) f' v (fs ++ []) ws s a r) (sym h.words)
    (sender_stands set (channels κ.frames ws κ) f v fs ws s a r
    (record { fop = h.fop; farm = h.farm; frames = h.frames; words = refl; sent = h.sent; accepted = h.accepted; released = h.released })
    (word_arrives (word_octets set.own c)) f' []
    (record { fop = ap (λ (x : Work). x.fop) is ∙ d.fop; frames = ap (λ (x : Work). x.frames) is ∙ d.frames }) (fine set vw c k b) (omega arith))

-- at rest: how the table machines stand where `Rest` holds of both ends' sessions
pub record Resting (set : Settings) (κ : Session) : Type 0 where
  pub active : κ.fop.state ≡ S1
  pub sent_queue : κ.fop.queues.sent_queue ≡ []
  pub wait_queue : κ.fop.queues.wait_queue ≡ none
  pub ready : κ.fop.out.ad ≡ true
  pub stopped : κ.fop.clock.timer ≡ 0
  pub frames : κ.frames ≡ []
  pub words : κ.words ≡ []
  pub opened : κ.farm.state ≡ Open
  pub lockout : κ.farm.lockout ≡ false
  pub wait : κ.farm.wait ≡ false
  pub retransmit : κ.farm.retransmit ≡ false
  pub free : BufferFree set (history_of κ)

-- all that is sent is confirmed then, and V(S), NN(R) and V(R) are the same number
pub record Level (set : Settings) (κ : Session) : Type 0 where
  pub confirmed : length κ.confirmed ≡ length κ.sent
  pub accepted : length κ.accepted ≡ length κ.sent
  pub vs : κ.fop.numbers.vs ≡ advanced set.n (length κ.sent)
  pub nnr : κ.fop.numbers.nnr ≡ advanced set.n (length κ.sent)
  pub vr : κ.farm.vr ≡ advanced set.n (length κ.sent)

pub level : (set : Settings) (κ : Session) → Inv set κ → Resting set κ → Level set κ
level set κ I r =
    let sv : in_service κ.fop.state ≡ true = rw r.active in
    let l = lv set κ I sv in
    let empty : length (fdus κ.fop.queues.sent_queue) ≡ 0 = ap (λ (q : List Entry). length (fdus q)) r.sent_queue in
    let ln = queue_length (length κ.confirmed) κ.sent [] (fdus κ.fop.queues.sent_queue) l.cut in
    let c : length κ.confirmed ≡ length κ.sent = omega (arith, empty, ln, I.base.truly, I.base.behind) in
    let a : length κ.accepted ≡ length κ.sent = omega (arith, c, I.base.truly, I.base.behind) in
    record {
      confirmed = c;
      accepted = a;
      vs = l.is_vs;
      nnr = omega (arith, l.is_nn, c);
      vr = omega (arith, I.receiver.is_vr, a);
    }

-- of two numbers that are the same, one advanced by 1 is 1 ahead of the other
one_on : (n y x z : ℕ) → x ≡ advanced n y → z ≡ advanced n y → offset (advanced x 1) z ≡ 1
one_on n y x z e d = omega arith

-- a list of events
unfoldable pub run : Settings → List Event → Session → Session
run set [] κ = κ
run set (e ∷ es) κ = run set es (step set e κ)

-- after a round with the unit u, which led from κ to τ
pub record Round (set : Settings) (u : Fdu) (κ τ : Session) : Type 0 where
  pub sent : τ.sent ≡ κ.sent ++ (u ∷ [])
  pub accepted : τ.accepted ≡ κ.accepted ++ (u ∷ [])
  pub rest : Resting set τ

module _ (set : Settings) (vw : Within set) (κ : Session) (I : Inv set κ) (stock : Stocked set κ) (rest : Resting set κ) (o : List ℕ) (g : legal o ≡ true) where
  same : Level set κ
  same = level set κ I rest

  -- the unit, and Sent and Accepted with it
  abbrev u : Fdu
  u = record { ns = κ.fop.numbers.vs; octets = o }

  abbrev s : List Fdu
  s = κ.sent ++ (u ∷ [])

  abbrev a : List Fdu
  a = κ.accepted ++ (u ∷ [])

  -- the session after each of the first five events
  abbrev after_offer : Session
  after_offer = step set (ad_request o largest_frame) κ

  abbrev after_ready : Session
  after_ready = step set (lower_says AdAccept largest_frame) after_offer

  abbrev after_frame : Session
  after_frame = step set frame_in after_ready

  abbrev after_release : Session
  after_release = step set release after_frame

  abbrev after_word : Session
  after_word = step set (word_made largest_frame) after_release

  offered : Stands after_offer (sending false o κ.fop) κ.farm (AD u ∷ []) [] s κ.accepted κ.released
  unfolding step step_with work judged
  offered =
      subst (λ (x : List Fdu). Stands after_offer (sending false o κ.fop) κ.farm (AD u ∷ []) [] x κ.accepted κ.released)
      (new_sent set.n κ.sent u same.vs)
      (sender_stands set κ κ.fop κ.farm [] [] κ.sent κ.accepted κ.released
      (record { fop = refl; farm = refl; frames = rest.frames; words = rest.words; sent = refl; accepted = refl; released = refl }) (request_ad o)
      (sending false o κ.fop) (AD u ∷ [])
      (offer_does o κ.fop rest.active rest.ready rest.wait_queue rest.sent_queue
      (omega (arith, same.vs, same.nnr, vw.window_least, ap (λ (p : Preset). p.k) I.is_set)))
      (rw g) (unit_fits set.own κ.fop.numbers.vs o g))

  taken : Stands after_ready (sending true o κ.fop) κ.farm (AD u ∷ []) [] s κ.accepted κ.released
  unfolding step step_with work judged
  taken =
      sender_stands set after_offer (sending false o κ.fop) κ.farm (AD u ∷ []) [] s κ.accepted κ.released offered (lower AdAccept)
      (sending true o κ.fop) [] (ready_does (sending false o κ.fop) refl refl refl) refl (omega arith)

  arrived : Stands after_frame (sending true o κ.fop) (onward κ.farm) [] [] s a κ.released
  arrived =
      frame_stands set after_ready (sending true o κ.fop) κ.farm u [] [] s κ.accepted κ.released taken rest.opened
      (omega (arith, same.vs, same.vr)) (omega (arith, rest.free, vw.buffers_least))

  freed : Stands after_release (sending true o κ.fop) (onward κ.farm) [] [] s a (κ.released + 1)
  freed =
      release_stands set after_frame (sending true o κ.fop) (onward κ.farm) [] [] s a κ.released arrived refl
      (omega (arith, stock.below, length-append κ.accepted (u ∷ [])))

  reported : Stands after_word (sending true o κ.fop) (onward κ.farm) [] (report (onward κ.farm) ∷ []) s a (κ.released + 1)
  reported = made_stands set after_release (sending true o κ.fop) (onward κ.farm) [] [] s a (κ.released + 1) freed

  -- the word reports the number after the unit's, and so confirms it
  reports_next : offset (advanced κ.farm.vr 1) κ.fop.numbers.nnr ≡ 1
  reports_next = one_on set.n (length κ.sent) κ.farm.vr κ.fop.numbers.nnr same.vr same.nnr

  acknowledged : unacknowledged κ.fop.numbers.nnr (advanced κ.farm.vr 1) (queued κ.fop.numbers.vs o ∷ []) ≡ []
  acknowledged =
      let z : offset κ.fop.numbers.vs κ.fop.numbers.nnr ≡ 0 = omega (arith, same.vs, same.nnr) in
      rw (z, reports_next)

  confirmed : Stands (run set (pass_of o) κ) (confirming (advanced κ.farm.vr 1) (sending true o κ.fop)) (onward κ.farm) [] [] s a (κ.released + 1)
  unfolding run report
  confirmed =
      word_stands set vw after_word (sending true o κ.fop) (onward κ.farm) [] (report (onward κ.farm)) [] s a (κ.released + 1) reported
      (omega (arith, I.receiver.counted)) (omega arith) (confirming (advanced κ.farm.vr 1) (sending true o κ.fop))
      (clear_does (report (onward κ.farm)) (sending true o κ.fop) refl rest.lockout rest.wait refl reports_next
      (one_on set.n (length κ.sent) κ.fop.numbers.vs κ.fop.numbers.nnr same.vs same.nnr) acknowledged refl)

  pub round : Round set (record { ns = next_number set (history_of κ); octets = o }) κ (run set (pass_of o) κ)
  round =
      let h = confirmed in
      let e : u ≡ record { ns = next_number set (history_of κ); octets = o } = ap (λ (x : ℕ). record { ns = x; octets = o }) same.vs in
      record {
        sent = h.sent ∙ ap (λ (x : Fdu). κ.sent ++ (x ∷ [])) e;
        accepted = h.accepted ∙ ap (λ (x : Fdu). κ.accepted ++ (x ∷ [])) e;
        rest = record {
          active = ap (λ (f : Fop). f.state) h.fop;
          sent_queue = ap (λ (f : Fop). f.queues.sent_queue) h.fop;
          wait_queue = ap (λ (f : Fop). f.queues.wait_queue) h.fop;
          ready = ap (λ (f : Fop). f.out.ad) h.fop;
          stopped = ap (λ (f : Fop). f.clock.timer) h.fop;
          frames = h.frames;
          words = h.words;
          opened = ap (λ (v : Variables). v.state) h.farm;
          lockout = ap (λ (v : Variables). v.lockout) h.farm ∙ rest.lockout;
          wait = ap (λ (v : Variables). v.wait) h.farm ∙ rest.wait;
          retransmit = ap (λ (v : Variables). v.retransmit) h.farm;
          free = omega (arith, rest.free, h.released, ap length h.accepted, length-append κ.accepted (u ∷ []));
        };
      }
