-- The receiver's half of the tie: the octets that a caller keeps stand for the receiver that they hold. A call keeps them a state whatever
-- list arrives as a frame, also one that is no octets: what the test of a state looks at does not depend on V(R), and up to V(R) every frame
-- does what some frame of octets does (`arrives`).
use Rattle.std.specs.Prelude as code
use Rattle.std.specs.Prelude.{None, Some, Result, Ok, Err}
use Prim.Native.Nat.{ℕ, ◌+◌, ◌-◌, ◌≤◌, zero, suc}
use mathlib.Core.Path.{◌≡◌, refl, sym, ap, subst, ◌∙◌}
use mathlib.Core.Bool.{Bool, true, false}
use mathlib.Core.List.{List, [], ◌∷◌, ◌++◌, append-nil}
use mathlib.Core.Option.{Option, none, some}
use native.Mathlib.Nat.{add-zero}
use native.Mathlib.Omega.{arith}
use lib.Dec.{leb, ltb, eqb}
use lib.ListN.{length, take, drop}
use lib.Seq.{take-append_seam}
use Rattle.base.specs.Choice.{pick, must, both}
use Rattle.base.specs.Modulo.{offset}
use Rattle.base.specs.Octets.{Octets, same}
use Rattle.base.specs.Outcome.{Outcome, Outcome.done, Outcome.refused}
use Rattle.base.specs.Limits.{largest_channel}
use Rattle.base.proofs.Lists.{same_self}
use Rattle.base.proofs.Tests.{apart, both_right}
use Rattle.clcw.specs.Clcw.{writing, clcw_of}
use Rattle.clcw.specs.declared.Clcw.{Clcw}
use Rattle.frame.specs.Frame.{refusal_of, total_of, data_field, overhead, frame_of}
use Rattle.frame.specs.Answers.{FrameReading, reading_of, part_of}
use Rattle.frame.specs.declared.Kind.{Kind}
use Rattle.frame.specs.declared.Kind.TheVariants.{Ad, Bd, Unlock, SetVr}
use Rattle.frame.proofs.Written.{octets_frame}
use Rattle.frame.proofs.Back.{Legal, legal_fits, frame_back}
use Rattle.receiver.specs.State.{well_formed}
use Rattle.receiver_octets.specs.Kept.{octets_of, receiver_in, is_state}
use Rattle.farm.specs.Table.{event_number, table, perform, perform_all, step_of, unit_of}
use Rattle.receiver.specs.Channel.{event_of, star_of, takes}
use Rattle.receiver.specs.Channel as channel
use Rattle.receiver.specs.Receiver.{become, has_room, answered, arrived, by_reading, receive_of, part_for, unit_part, release_of, word_of}
use Rattle.farm.specs.declared.State.{State}
use Rattle.farm.specs.declared.Event.{Event}
use Rattle.farm.specs.declared.Event.TheVariants.{E1, E2, E3, E4, E5, E6, E7, E8, E9, E10, E11}
use Rattle.farm.specs.declared.Variables.{Variables}
use Rattle.receiver.specs.declared.Receiver.{Receiver}
use Rattle.receiver.specs.declared.Received.{Received}
use Rattle.farm.specs.declared.AcceptedUnit.{AcceptedUnit}
use Rattle.farm.specs.declared.AcceptedUnit.TheVariants.{Ad as AdUnit, Bd as BdUnit}
use Rattle.base.specs.Refusals.{optional_number}
use Rattle.base.specs.declared.Refusal.{Refusal}
use Rattle.base.specs.declared.Refusal.TheVariants.{Release as NoneTaken}
use Rattle.farm.specs.Window.{ad_event}
use Rattle.farm.proofs.Cells.{at, by_state, by_event_lem, e9_keeps}
use Rattle.receiver.proofs.Kept.{WellFormed, receive_well, release_well, word_written_lem}
use Rattle.receiver_octets.proofs.Restored.{receiver_back, octets_back, restored_well}
use Rattle.session.specs.Receiver.{ReceiverEvent, frame_arrives, release_buffer, ReceiverAnswer, event_numbered, receiver_next, after_release, handed_out, release_answer, receiver_answer, word_length, word_told, receiver_word}
use Rattle.session.specs.Ends.{Settings, Within, start_receiver}
use Rattle.pondreszi_receiver.specs.Receivers.{unit_number, unit_place, Frame, received, frame_call, Release, released_by, release_call, word_call}
use Rattle.called_session.specs.Called.{unit_called, receiver_called, receiver_after, word_written}

-- V(R) set aside

-- the variables with V(R) 0
abbrev unnumbered : Variables → Variables
unnumbered v = record { state = v.state; vr = 0; lockout = v.lockout; wait = v.wait; retransmit = v.retransmit; counter = v.counter }

-- the receiver with V(R) 0
abbrev aside : Receiver → Receiver
aside r = become r.farm.channel.held (unnumbered r.farm.channel.variables) r

aside_well : (r : Receiver) → WellFormed r → WellFormed (aside r)
aside_well r h = record {
  settings = h.settings;
  variables = record {
    lockout = h.variables.lockout;
    wait = h.variables.wait;
    retransmit = h.variables.retransmit;
    counter = h.variables.counter;
    vr = omega arith;
  };
  taken = h.taken;
  wait_full = h.wait_full;
}

-- no row lets V(R) or V*(R) into another variable
module _ (star : ℕ) (v : Variables) where
  abbrev Apart : Event → State → Type 0
  Apart e s = unnumbered (step_of e star (at s v)) ≡ unnumbered (step_of e 0 (at s (unnumbered v)))

  cell_aside : (e : Event) (s : State) → Apart e s
  unfolding step_of table perform_all perform
  cell_aside =
      by_event_lem (λ (e : Event). (s : State) → Apart e s)
      (by_state (Apart E1) refl refl refl)
      (by_state (Apart E2) refl refl refl)
      (by_state (Apart E3) refl refl refl)
      (by_state (Apart E4) refl refl refl)
      (by_state (Apart E5) refl refl refl)
      (by_state (Apart E6) refl refl refl)
      (by_state (Apart E7) refl refl refl)
      (by_state (Apart E8) refl refl refl)
      (by_state (Apart E9) refl refl refl)
      (by_state (Apart E10) refl refl refl)
      (by_state (Apart E11) refl refl refl)

  step_aside : (e : Event) → unnumbered (step_of e star v) ≡ unnumbered (step_of e 0 (unnumbered v))
  step_aside e = cell_aside e v.state

-- an event of the table, of a receiver and of it with V(R) 0
answered_aside : (r : Receiver) (n m : code.Option Refusal) (e : Event) (star : ℕ) → aside (answered n e star r).next ≡ aside (answered m e 0 (aside r)).next
unfolding answered channel.answered
answered_aside r n m e star =
    ap (λ (v : Variables). become (r.farm.channel.held + takes (unit_of e r.farm.channel.variables.state)) v r) (step_aside star r.farm.channel.variables e)

-- the frame of octets that does the same: N(S) by its distance from V(R), and any V*(R) as 0
abbrev kind_aside : Receiver → Kind → Kind
kind_aside r (Ad number) = Ad (offset number r.farm.channel.variables.vr)
kind_aside r Bd = Bd
kind_aside r Unlock = Unlock
kind_aside r (SetVr value) = SetVr 0

module _ (r : Receiver) (h : WellFormed (aside r)) where
  event_aside : (k : Kind) → event_of (has_room r) (aside r).farm.channel (kind_aside r k) ≡ event_of (has_room r) r.farm.channel k
  unfolding event_of
  event_aside (Ad number) =
      let e : offset (offset number r.farm.channel.variables.vr) 0 ≡ offset number r.farm.channel.variables.vr = omega arith in
      ap (ad_event r.farm.channel.window r.farm.channel.variables.state (has_room r)) e
  event_aside Bd = refl
  event_aside Unlock = refl
  event_aside (SetVr value) = refl

  star_aside : (k : Kind) → star_of (kind_aside r k) ≡ 0
  star_aside (Ad number) = refl
  star_aside Bd = refl
  star_aside Unlock = refl
  star_aside (SetVr value) = refl

  abbrev unit : List ℕ
  unit = 0 ∷ []

  legal_aside : (k : Kind) → Legal (kind_aside r k) unit
  legal_aside (Ad number) = (omega arith, omega arith, omega arith, (omega arith, tt))
  legal_aside Bd = (omega arith, omega arith, (omega arith, tt))
  legal_aside Unlock = tt
  legal_aside (SetVr value) = omega arith

  -- such a frame arrives
  arrived_aside : (k : Kind) → WellFormed (arrived (aside r) (kind_aside r k)).next
  unfolding receive_of by_reading
  arrived_aside k =
      let sc = r.farm.spacecraft in
      let ch = r.farm.channel.number in
      let hs = h.settings.spacecraft_fits in
      let hc = h.settings.channel_fits in
      let kind : Kind = kind_aside r k in
      let frame : List ℕ = frame_of sc ch kind unit ++ [] in
      let o : Octets frame = subst Octets (sym (append-nil (frame_of sc ch kind unit)))
      (octets_frame _ _ _ sc ch _ (legal_fits sc ch kind unit hs hc (legal_aside k))) in
      subst (λ (x : FrameReading). WellFormed (by_reading (aside r) x).next)
      (frame_back sc ch kind unit [] hs hc (legal_aside k) (omega arith) tt)
      (receive_well (aside r) frame o h)

  by_reading_lem : (x : FrameReading) → WellFormed (aside (by_reading r x).next)
  unfolding by_reading arrived answered channel.arrived channel.answered
  by_reading_lem (Ok fields) =
      let k : Kind = fields.kind in
      subst WellFormed
      (sym (answered_aside r None None (event_of (has_room r) r.farm.channel k) (star_of k)))
      (aside_well _ (subst (λ (e : Event). WellFormed (answered None e 0 (aside r)).next) (event_aside k)
      (subst (λ (star : ℕ). WellFormed (answered None (event_of (has_room r) (aside r).farm.channel (kind_aside r k)) star (aside r)).next) (star_aside k) (arrived_aside k))))
  by_reading_lem (Err refusal) = subst WellFormed (sym kept) h where
    kept : aside (answered (Some refusal) E9 0 r).next ≡ aside r
    kept =
        ap (λ (n : ℕ). become n (unnumbered (step_of E9 0 r.farm.channel.variables)) r) (add-zero r.farm.channel.held)
        ∙ ap (λ (v : Variables). become r.farm.channel.held (unnumbered v) r) (e9_keeps 0 r.farm.channel.variables)

  -- whatever list arrives
  arrives : (s : List ℕ) → WellFormed (aside (receive_of r s).next)
  unfolding receive_of
  arrives s = by_reading_lem (reading_of s r.farm.spacecraft r.farm.channel.number)

  -- and a release
  releases : WellFormed (aside (after_release (release_of r) r))
  unfolding release_of
  releases = by (ltb 0 r.farm.channel.held) refl where
    by : (b : Bool) → ltb 0 r.farm.channel.held ≡ b
        → WellFormed (aside (after_release (must b (Err NoneTaken) (Ok (answered None E10 0 (become (r.farm.channel.held - 1) r.farm.channel.variables r)))) r))
    by true e =
        subst WellFormed (sym (answered_aside (become (r.farm.channel.held - 1) r.farm.channel.variables r) None None E10 0))
        (aside_well _ (release_well (aside r) (answered None E10 0 (become (r.farm.channel.held - 1) (unnumbered r.farm.channel.variables) r)) h
        (ap (λ (x : Bool). must x (Err NoneTaken) (Ok (answered None E10 0 (become (r.farm.channel.held - 1) (unnumbered r.farm.channel.variables) r)))) e)))
    by false e = h

-- the octets that a caller keeps: those of the receiver that they hold, which is well-formed but for V(R)
pub record GoodReceiver (state : List ℕ) : Type 0 where
  pub is : octets_of (receiver_in state) ≡ state
  pub well : WellFormed (aside (receiver_in state))

-- the octets of a receiver that is
pub receiver_good : (r : Receiver) → WellFormed (aside r) → GoodReceiver (octets_of r)
receiver_good r h = record {
  is = ap octets_of (receiver_back r);
  well = subst (λ (x : Receiver). WellFormed (aside x)) (sym (receiver_back r)) h;
}

-- they are a state
well_aside : (r : Receiver) → WellFormed (aside r) → well_formed r.farm ≡ true
unfolding is_state well_formed
well_aside r h =
    ap (λ (x : Receiver). well_formed x.farm) (sym (receiver_back (aside r)))
    ∙ both_right (same (octets_of (aside r)) (octets_of (receiver_in (octets_of (aside r))))) _ (octets_back (aside r) h).0

module _ (state : List ℕ) (good : GoodReceiver state) where
  abbrev r : Receiver
  r = receiver_in state

  pub good_state : is_state state ≡ true
  unfolding is_state
  good_state =
      ap (λ (o : List ℕ). both (same state o) (well_formed r.farm)) good.is ∙ ap (λ (b : Bool). both b (well_formed r.farm)) (same_self state)
      ∙ well_aside r good.well

  frame_is : (s : List ℕ) → frame_call state s ≡ received (receive_of r s) (unit_part r s)
  unfolding frame_call
  frame_is s = rw good_state

  release_is_lem : release_call state ≡ released_by (release_of r) state
  unfolding release_call
  release_is_lem = rw good_state

  word_is : (lent : ℕ) → word_call state lent ≡ writing (word_of r) lent
  unfolding word_call
  word_is lent = rw good_state

  -- the state after a release, refused or not
  released_state : (x : Result Received Refusal) → (released_by x state).state ≡ octets_of (after_release x r)
  released_state (Ok a) = refl
  released_state (Err refusal) = sym good.is

  -- the octets after an event are those of the receiver after it
  pub after_is : (e : ReceiverEvent) → receiver_after e state ≡ octets_of (receiver_next e r)
  unfolding receiver_after receiver_next
  after_is (frame_arrives s) = ap (λ (x : Frame). x.state) (frame_is s)
  after_is release_buffer = ap (λ (x : Release). x.state) release_is_lem ∙ released_state (release_of r)

  next_well : (e : ReceiverEvent) → WellFormed (aside (receiver_next e r))
  unfolding receiver_next
  next_well (frame_arrives s) = arrives r good.well s
  next_well release_buffer = releases r good.well

  pub keeps_receiver_lem : (e : ReceiverEvent) → GoodReceiver (receiver_after e state)
  keeps_receiver_lem e = subst GoodReceiver (sym (after_is e)) (receiver_good (receiver_next e r) (next_well e))

  pub next_receiver_lem : (e : ReceiverEvent) → receiver_in (receiver_after e state) ≡ receiver_next e r
  next_receiver_lem e = ap receiver_in (after_is e) ∙ receiver_back (receiver_next e r)

-- the event by its number
event_back : (e : Event) → event_numbered (event_number e) ≡ some e
event_back = by_event_lem (λ (e : Event). event_numbered (event_number e) ≡ some e) refl refl refl refl refl refl refl refl refl refl refl

-- the unit by its place in the caller's frame
take_again : (n : ℕ) (xs : List ℕ) → take (length (take n xs)) xs ≡ take n xs
take_again zero xs = refl
take_again (suc n) [] = refl
take_again (suc n) (x ∷ xs) = ap (λ (l : List ℕ). x ∷ l) (take_again n xs)

pub part_taken : (s : List ℕ) (sc ch : ℕ) → take (length (part_of s sc ch)) (drop 5 s) ≡ part_of s sc ch
unfolding part_of data_field
part_taken s sc ch = by (eqb (refusal_of s sc ch) 0) where
  by : (b : Bool) → take (length (pick b (take (total_of s - overhead) (drop 5 s)) [])) (drop 5 s) ≡ pick b (take (total_of s - overhead) (drop 5 s)) []
  by true = take_again (total_of s - overhead) (drop 5 s)
  by false = refl

pub unit_back : (u : code.Option AcceptedUnit) (s p : List ℕ) → take (length p) (drop 5 s) ≡ p
    → pick (eqb (unit_number u) 0) none (some (take (length (part_for u p)) (drop (unit_place u) s))) ≡ handed_out u (part_for u p)
unit_back None s p h = refl
unit_back (Some AdUnit) s p h = ap some h
unit_back (Some BdUnit) s p h = ap some h

-- the answer by its numbers
abbrev answer_of_frame : Frame → List ℕ → ReceiverAnswer
answer_of_frame x s = record { refusal = x.number; event = event_numbered x.event; unit = unit_called x s }

abbrev answer_of_release : Release → ReceiverAnswer
answer_of_release x = record { refusal = x.number; event = event_numbered x.event; unit = none }

release_told_lem : (r : Receiver) (state : List ℕ) → answer_of_release (released_by (release_of r) state) ≡ receiver_answer release_buffer r
unfolding receiver_answer release_of answered channel.answered
release_told_lem r state = by (ltb 0 r.farm.channel.held) where
  by : (b : Bool) → answer_of_release (released_by (must b (Err NoneTaken) (Ok (answered None E10 0 (become (r.farm.channel.held - 1) r.farm.channel.variables r)))) state)
      ≡ release_answer (must b (Err NoneTaken) (Ok (answered None E10 0 (become (r.farm.channel.held - 1) r.farm.channel.variables r))))
  by true = refl
  by false = refl

-- the control word, whatever the output held: it is never refused with 0
pub written_told : (c : Clcw) (lent : ℕ) (output : List ℕ) → word_written (writing c lent) output ≡ word_told (writing c lent)
unfolding writing
written_told c lent output = by (leb c.channel largest_channel) (leb c.counter 3) (leb 4 lent) where
  by : (x y z : Bool) → word_written (must x (refused 12 0) (must y (refused 12 0) (must z (refused 11 0) (done (clcw_of c) tt)))) output
      ≡ word_told (must x (refused 12 0) (must y (refused 12 0) (must z (refused 11 0) (done (clcw_of c) tt))))
  by true true true =
      ap (λ (o : List ℕ). record { refusal = 0; word = some o }) (take-append_seam (clcw_of c) (drop (length (clcw_of c)) output))
  by true true false = refl
  by true false z = refl
  by false y z = refl

module _ (state : List ℕ) (good : GoodReceiver state) where
  pub answer_receiver_lem : (e : ReceiverEvent) → receiver_called e state ≡ receiver_answer e (receiver_in state)
  unfolding receiver_called receiver_answer unit_part
  answer_receiver_lem (frame_arrives s) =
      let r : Receiver = receiver_in state in
      let a : Received = receive_of r s in
      ap (λ (x : Frame). answer_of_frame x s) (frame_is state good s)
      ∙ ap (λ (x : Option Event). record { refusal = optional_number a.refusal; event = x; unit = unit_called (received a (unit_part r s)) s }) (event_back a.event)
      ∙ ap (λ (x : Option (List ℕ)). record { refusal = optional_number a.refusal; event = some a.event; unit = x })
      (unit_back a.unit s (part_of s r.farm.spacecraft r.farm.channel.number) (part_taken s r.farm.spacecraft r.farm.channel.number))
  answer_receiver_lem release_buffer = ap answer_of_release (release_is_lem state good) ∙ release_told_lem (receiver_in state) state

  pub word_receiver : (lent : ℕ) (output : List ℕ) → word_written (word_call state lent) output ≡ receiver_word lent (receiver_in state)
  unfolding receiver_word
  word_receiver lent output =
      ap (λ (w : Outcome (Unit {0})). word_written w output) (word_is state good lent) ∙ written_told (word_of (receiver_in state)) lent output

-- the receiver of the session's start
pub start_good : (set : Settings) → Within set → GoodReceiver (octets_of (start_receiver set))
unfolding start_receiver
start_good set within =
    receiver_good (start_receiver set) (record {
      settings = record {
        spacecraft_fits = within.spacecraft;
        channel_fits = within.channel;
        even = within.even;
        narrow = within.farm_least;
        wide = within.farm_most;
        some = within.buffers_least;
        few = within.buffers_most;
      };
      variables = record {
        lockout = refl;
        wait = refl;
        retransmit = λ w. absurd (apart w);
        counter = omega (arith, within.counter_most);
        vr = omega arith;
      };
      taken = omega arith;
      wait_full = λ w. absurd (apart w);
    })

-- Its control word can always be written: octets that are a state are refused for want of room only.
pub word_always : (state : List ℕ) (lent : ℕ) → is_state state ≡ true → Octets state → word_length ≤ lent
    → word_call state lent ≡ done (clcw_of (word_of (receiver_in state))) tt
unfolding word_call
word_always state lent e o room =
    ap (λ (b : Bool). must b (refused 12 0) (writing (word_of (receiver_in state)) lent)) e ∙ word_written_lem (receiver_in state) lent (restored_well state e o) room
