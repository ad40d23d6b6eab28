-- The session of the table machines with frames and words as they are read, before they become octets: what the proofs go by. Of the
-- receiver it has FARM-1's variables only: whether a buffer is free, and whether one is taken, is told to each event.
use mathlib.Core.Bool.{Bool, true, false}
use mathlib.Core.List.{List, [], ◌∷◌, ◌++◌}
use mathlib.Core.Option.{Option}
use Prim.Native.Nat.{ℕ, ◌+◌, ◌-◌}
use lib.Dec.{leb, ltb, eqb}
use lib.ListN.{length}
use Rattle.base.specs.Choice.{pick}
use Rattle.base.specs.Modulo.{offset}
use Rattle.fop.specs.Units.{Fdu, Frame, AD, BD, Unlock, SetVR, Refused, Word, Own, word_octets}
use Rattle.fop.specs.Variables.{Fop, Work}
use Rattle.fop.specs.Events.{SenderEvent, request_ad, request_bd, directive, word_arrives, work}
use Rattle.fop.specs.Events as fop
use Rattle.fop.specs.Answers.{sender_refusal}
use Rattle.farm.specs.Table.{step_of, unit_of}
use Rattle.farm.specs.Window.{ad_event}
use Rattle.farm.specs.declared.Event.{Event as FarmEvent}
use Rattle.farm.specs.declared.Event.TheVariants as farm
use Rattle.farm.specs.declared.Variables.{Variables}
use Rattle.farm.specs.declared.AcceptedUnit.{AcceptedUnit}
use Rattle.std.specs.Prelude.{Some, None}
use Rattle.std.specs.Prelude as code
use Rattle.session.specs.Receiver.{word_length}
use Rattle.session.specs.Ends.{Settings}
use Rattle.session.specs.Session.{Event, ad_request, bd_request, ticks, lower_says, terminate, resume, word_in, word_lost, word_made, frame_in, frame_lost, release, add_sent, add_bd, places, rest}

-- the sender and FARM-1's variables as the tables have them, the channels, and the histories
pub record Session : Type 0 where
  pub fop : Fop
  pub farm : Variables
  pub frames : List Frame
  pub words : List Word
  pub sent : List Fdu
  pub accepted : List Fdu
  pub confirmed : List (Option ℕ)
  pub denied : List (Option ℕ)
  pub released : ℕ
  pub sent_bd : List (List ℕ)
  pub accepted_bd : List (List ℕ)

-- Sent, after frames are handed down
abbrev pub add_all : ℕ → List Fdu → List Frame → List Fdu
add_all n s [] = s
add_all n s (f ∷ fs) = add_all n (add_sent n s f) fs

-- and so the units of BD frames
abbrev pub add_bds : List (List ℕ) → List Frame → List (List ℕ)
add_bds b [] = b
add_bds b (f ∷ fs) = add_bds (add_bd b f) fs

-- a run's first number; 0 where it is empty
abbrev pub first_of : List Fdu → ℕ
first_of [] = 0
first_of (u ∷ us) = u.ns

-- the sender's work is taken over: its frames enter the channel, and its runs the histories
unfoldable pub answered : ℕ → Work → Session → Session
answered n w σ =
    let s : List Fdu = add_all n σ.sent w.frames in
    record {
      fop = w.fop;
      farm = σ.farm;
      frames = σ.frames ++ w.frames;
      words = σ.words;
      sent = s;
      accepted = σ.accepted;
      confirmed = σ.confirmed ++ places s (first_of w.confirmed) (length w.confirmed);
      denied = σ.denied ++ places s (first_of w.denied) (length w.denied);
      released = σ.released;
      sent_bd = add_bds σ.sent_bd w.frames;
      accepted_bd = σ.accepted_bd;
    }

-- the event is not refused
abbrev pub goes : Own → SenderEvent → ℕ → Fop → Bool
goes own e lent f = eqb (sender_refusal own e lent f) 0

-- an event of the sender; a refusal changes nothing
unfoldable pub sender : Settings → SenderEvent → ℕ → Session → Session
sender set e lent σ = pick (goes set.own e lent σ.fop) (answered set.n (work set.own e σ.fop) σ) σ

-- other channels
unfoldable pub channels : List Frame → List Word → Session → Session
channels f w σ = record {
  fop = σ.fop;
  farm = σ.farm;
  frames = f;
  words = w;
  sent = σ.sent;
  accepted = σ.accepted;
  confirmed = σ.confirmed;
  denied = σ.denied;
  released = σ.released;
  sent_bd = σ.sent_bd;
  accepted_bd = σ.accepted_bd;
}

-- the units accepted, with the unit of an AD frame that was accepted
abbrev pub taken : Frame → Bool → List Fdu → List Fdu
taken (AD u) t a = pick t (a ++ (u ∷ [])) a
taken (BD o) t a = a
taken Unlock t a = a
taken (SetVR v) t a = a
taken (Refused r) t a = a

-- and so of BD units
abbrev pub taken_bd : Frame → Bool → List (List ℕ) → List (List ℕ)
taken_bd (AD u) t a = a
taken_bd (BD o) t a = pick t (a ++ (o ∷ [])) a
taken_bd Unlock t a = a
taken_bd (SetVR v) t a = a
taken_bd (Refused r) t a = a

-- the receiver's part, and the frames left
unfoldable pub receiver : Variables → List Fdu → List (List ℕ) → ℕ → List Frame → Session → Session
receiver v a b r f σ = record {
  fop = σ.fop;
  farm = v;
  frames = f;
  words = σ.words;
  sent = σ.sent;
  accepted = a;
  confirmed = σ.confirmed;
  denied = σ.denied;
  released = r;
  sent_bd = σ.sent_bd;
  accepted_bd = b;
}

-- the oldest word to the sender
unfoldable pub word_come : Settings → ℕ → List Word → Session → Session
word_come set lent [] σ = σ
word_come set lent (w ∷ ws) σ = sender set (word_arrives (word_octets set.own w)) lent (channels σ.frames ws σ)

-- the event of a frame, and the value V*(R) that it carries, to a receiver of window w; room: a buffer is free
unfoldable pub frame_event : ℕ → Bool → Frame → Variables → FarmEvent
frame_event w room (AD u) v = ad_event w v.state room (offset u.ns v.vr)
frame_event w room (BD o) v = farm.E6
frame_event w room Unlock v = farm.E7
frame_event w room (SetVR x) v = farm.E8
frame_event w room (Refused r) v = farm.E9

-- V*(R)
abbrev pub star : Frame → ℕ
star (AD u) = 0
star (BD o) = 0
star Unlock = 0
star (SetVR v) = v
star (Refused r) = 0

-- a unit is handed out
abbrev pub is_handed : code.Option AcceptedUnit → Bool
is_handed None = false
is_handed (Some unit) = true

-- the frame is handed out
abbrev pub handed : ℕ → Bool → Frame → Variables → Bool
handed w room f v = is_handed (unit_of (frame_event w room f v) v.state)

-- the oldest frame to the receiver
unfoldable pub frame_come : Settings → Bool → List Frame → Session → Session
frame_come set room [] σ = σ
frame_come set room (f ∷ fs) σ =
    receiver (step_of (frame_event set.w room f σ.farm) (star f) σ.farm) (taken f (handed set.w room f σ.farm) σ.accepted)
    (taken_bd f (handed set.w room f σ.farm) σ.accepted_bd) σ.released fs σ

-- the control word that is reported
unfoldable pub report : Variables → Word
report v = record { lockout = v.lockout; wait = v.wait; retransmit = v.retransmit; counter = v.counter; nr = v.vr }

-- the words under way, with one that is made where its room is lent
abbrev pub add_word : Bool → Word → List Word → List Word
add_word lent w ws = pick lent (ws ++ (w ∷ [])) ws

-- a release, where a buffer is taken
unfoldable pub releases : Bool → Session → Session
releases held σ = pick held (receiver (step_of farm.E10 0 σ.farm) σ.accepted σ.accepted_bd (σ.released + 1) σ.frames σ) σ

-- an event; room: a buffer is free, held: one is taken
unfoldable pub step_with : Settings → Bool → Bool → Event → Session → Session
step_with set room held (ad_request o lent) σ = sender set (request_ad o) lent σ
step_with set room held (bd_request o lent) σ = sender set (request_bd o) lent σ
step_with set room held (ticks lent) σ = sender set fop.tick lent σ
step_with set room held (lower_says l lent) σ = sender set (fop.lower l) lent σ
step_with set room held (terminate v lent) σ = sender set (directive 5 v) lent σ
step_with set room held (resume v lent) σ = sender set (directive 6 v) lent σ
step_with set room held (word_in lent) σ = word_come set lent σ.words σ
step_with set room held word_lost σ = channels σ.frames (rest σ.words) σ
step_with set room held (word_made lent) σ = channels σ.frames (add_word (leb word_length lent) (report σ.farm) σ.words) σ
step_with set room held frame_in σ = frame_come set room σ.frames σ
step_with set room held frame_lost σ = channels (rest σ.frames) σ.words σ
step_with set room held release σ = releases held σ

-- the single receiver's buffers: those taken hold units accepted and not released
abbrev pub used : Session → ℕ
used σ = length σ.accepted - σ.released

-- a buffer is free
abbrev pub free : Settings → Session → Bool
free set σ = ltb (used σ) set.buffers

-- a buffer is taken
abbrev pub is_held : Session → Bool
is_held σ = ltb 0 (used σ)

-- an event, with the buffers as they are
unfoldable pub step : Settings → Event → Session → Session
step set e σ = step_with set (free set σ) (is_held σ) e σ
