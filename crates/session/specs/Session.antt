-- Document 01's session of two ends, and its histories, which come from the ends' answers alone.
use Rattle.std.specs.Prelude.{Bool, false, ◌||◌, List, [], ◌∷◌, ◌++◌, ℕ, zero, suc, ◌+◌, eqb, length, get_or}
use Rattle.std.proofs.Math.Option.{Option, none, some}
use Rattle.base.specs.Choice.{pick}
use Rattle.base.specs.Modulo.{advanced}
use Rattle.fop.specs.Units.{Fdu, Frame, AD, BD, Unlock, SetVR, Refused, Own}
use Rattle.fop.specs.declared.Lower.{Lower}
use Rattle.fop.specs.Events.{SenderEvent, request_ad, request_bd, directive, word_arrives}
use Rattle.fop.specs.Events as fop
use Rattle.fop.specs.Answers.{Answer}
use Rattle.farm.specs.Table.{event_number}
use Rattle.farm.specs.declared.Event.{Event as FarmEvent}
use Rattle.session.specs.Frames.{read}
use Rattle.session.specs.Receiver.{frame_arrives, release_buffer, ReceiverAnswer}
use Rattle.session.specs.Ends.{Settings, Ends}

-- The histories. A unit confirmed or denied is known by its place in sent; `none` is a number that was never sent.
pub record History : Type 0 where
  pub sent : List Fdu
  pub accepted : List Fdu
  pub confirmed : List (Option ℕ)
  pub denied : List (Option ℕ)
  pub released : ℕ
  pub locked_out : Bool
  pub sent_bd : List (List ℕ)
  pub accepted_bd : List (List ℕ)

-- what stands at a place where no unit is
abbrev pub no_unit : Fdu
no_unit = record { ns = 0; octets = [] }

-- Sent: "the units of AD frames handed down whose N(S) is n plus the count sent before"
abbrev pub add_sent : ℕ → List Fdu → Frame → List Fdu
add_sent n s (AD u) = pick (eqb u.ns (advanced n (length s))) (s ++ (u ∷ [])) s
add_sent n s (BD o) = s
add_sent n s Unlock = s
add_sent n s (SetVR v) = s
add_sent n s (Refused r) = s

-- the units of BD frames handed down
abbrev pub add_bd : List (List ℕ) → Frame → List (List ℕ)
add_bd b (AD u) = b
add_bd b (BD o) = b ++ (o ∷ [])
add_bd b Unlock = b
add_bd b (SetVR v) = b
add_bd b (Refused r) = b

-- sent, after an answer that hands a frame down or none
abbrev pub sent_after : Own → ℕ → List Fdu → Option (List ℕ) → List Fdu
sent_after own n s none = s
sent_after own n s (some o) = add_sent n s (read own o)

-- and so the units of BD frames
abbrev pub sent_bd_after : Own → List (List ℕ) → Option (List ℕ) → List (List ℕ)
sent_bd_after own b none = b
sent_bd_after own b (some o) = add_bd b (read own o)

-- the place below i of the unit last sent with the number x
abbrev pub last_place : List Fdu → ℕ → ℕ → Option ℕ
last_place s x zero = none
last_place s x (suc i) = pick (eqb (get_or s i no_unit).ns x) (some i) (last_place s x i)

-- Confirmed, Denied: "those of the answers' runs end to end, a number meaning the unit last sent with it by then": the places of `count` units
-- from the number x on
abbrev pub places : List Fdu → ℕ → ℕ → List (Option ℕ)
places s x zero = []
places s x (suc c) = last_place s x (length s) ∷ places s (advanced x 1) c

-- the histories after an answer of the sender
unfoldable pub after_sender : Settings → Answer → History → History
after_sender set a h =
    let s : List Fdu = sent_after set.own set.n h.sent a.down in
    record {
      sent = s;
      accepted = h.accepted;
      confirmed = h.confirmed ++ places s a.confirmed.number a.confirmed.count;
      denied = h.denied ++ places s a.denied.number a.denied.count;
      released = h.released;
      locked_out = h.locked_out;
      sent_bd = sent_bd_after set.own h.sent_bd a.down;
      accepted_bd = h.accepted_bd;
    }

-- the row of table 7-9 that the receiver answers, by its number; 0 where it is none
abbrev pub row_of : Option FarmEvent → ℕ
row_of none = 0
row_of (some e) = event_number e

-- with the unit handed out, if any
abbrev pub add_unit : List Fdu → ℕ → Option (List ℕ) → List Fdu
add_unit l ns none = l
add_unit l ns (some o) = l ++ (record { ns = ns; octets = o } ∷ [])

-- and so of BD units
abbrev pub add_octets : List (List ℕ) → Option (List ℕ) → List (List ℕ)
add_octets l none = l
add_octets l (some o) = l ++ (o ∷ [])

-- Accepted: "those of AD frames answered E1 in Open", where E1 hands a unit out (in Lockout it discards): the frame's N(S), and the data part
-- that the receiver hands out
abbrev pub add_accepted : List Fdu → Frame → ReceiverAnswer → List Fdu
add_accepted l (AD u) a = pick (eqb (row_of a.event) 1) (add_unit l u.ns a.unit) l
add_accepted l (BD d) a = l
add_accepted l Unlock a = l
add_accepted l (SetVR v) a = l
add_accepted l (Refused r) a = l

-- and of BD frames, answered E6
abbrev pub add_accepted_bd : List (List ℕ) → Frame → ReceiverAnswer → List (List ℕ)
add_accepted_bd l (AD u) a = l
add_accepted_bd l (BD d) a = pick (eqb (row_of a.event) 6) (add_octets l a.unit) l
add_accepted_bd l Unlock a = l
add_accepted_bd l (SetVR v) a = l
add_accepted_bd l (Refused r) a = l

-- E5 locks the receiver out
abbrev pub locks : Option FarmEvent → Bool
locks e = eqb (row_of e) 5

-- the histories after the receiver's answer to the frame x
unfoldable pub after_frame : Frame → ReceiverAnswer → History → History
after_frame x a h = record {
  sent = h.sent;
  accepted = add_accepted h.accepted x a;
  confirmed = h.confirmed;
  denied = h.denied;
  released = h.released;
  locked_out = h.locked_out || locks a.event;
  sent_bd = h.sent_bd;
  accepted_bd = add_accepted_bd h.accepted_bd x a;
}

-- "releases done": those that are not refused
unfoldable pub after_release : ReceiverAnswer → History → History
after_release a h = record {
  sent = h.sent;
  accepted = h.accepted;
  confirmed = h.confirmed;
  denied = h.denied;
  released = pick (eqb a.refusal 0) (h.released + 1) h.released;
  locked_out = h.locked_out;
  sent_bd = h.sent_bd;
  accepted_bd = h.accepted_bd;
}

-- "Its state is sender, receiver and two channels, frames and control words under way", as octets, the oldest first; and the histories.
pub record Linked (m : Ends) : Type 0 where
  pub sender : m.Sender
  pub receiver : m.Receiver
  pub frames : List (List ℕ)
  pub words : List (List ℕ)
  pub history : History

-- "It starts synchronised and active, .. channels empty."
unfoldable pub begins : (m : Ends) → Linked m
begins m = record {
  sender = m.sender;
  receiver = m.receiver;
  frames = [];
  words = [];
  history = record { sent = []; accepted = []; confirmed = []; denied = []; released = 0; locked_out = false; sent_bd = []; accepted_bd = [] };
}

-- the events; the last number is the room lent for a frame or word. To the sender: an AD or BD request, a tick, an answer of the lower layer,
-- Terminate and Resume (document 02, order 9) each with its value, which is not looked at, the oldest word; to the receiver: the oldest frame, a
-- release; the receiver's control word is made; the oldest frame or word is lost
pub data Event : Type 0 where
  ad_request bd_request : List ℕ → ℕ → Event
  ticks : ℕ → Event
  lower_says : Lower → ℕ → Event
  terminate resume : ℕ → ℕ → Event
  word_in word_made : ℕ → Event
  word_lost frame_in frame_lost release : Event

-- "each frame handed down, even if aborted later, enters its channel", and so does a control word that is made
abbrev pub enters : List (List ℕ) → Option (List ℕ) → List (List ℕ)
enters fs none = fs
enters fs (some o) = fs ++ (o ∷ [])

-- an event of the sender, with ws the words left
unfoldable pub to_sender : Settings → (m : Ends) → SenderEvent → ℕ → List (List ℕ) → Linked m → Linked m
to_sender set m e lent ws σ =
    let a : Answer = m.answer e lent σ.sender in
    record {
      sender = m.next e lent σ.sender;
      receiver = σ.receiver;
      frames = enters σ.frames a.down;
      words = ws;
      history = after_sender set a σ.history;
    }

-- the oldest word to the sender, lost where it is refused; "an empty channel gives nothing"
unfoldable pub word_come : Settings → (m : Ends) → ℕ → List (List ℕ) → Linked m → Linked m
word_come set m lent [] σ = σ
word_come set m lent (w ∷ ws) σ = to_sender set m (word_arrives w) lent ws σ

-- the oldest frame to the receiver
unfoldable pub frame_come : Settings → (m : Ends) → List (List ℕ) → Linked m → Linked m
frame_come set m [] σ = σ
frame_come set m (x ∷ fs) σ = record {
  sender = σ.sender;
  receiver = m.next_receiver (frame_arrives x) σ.receiver;
  frames = fs;
  words = σ.words;
  history = after_frame (read set.own x) (m.answer_receiver (frame_arrives x) σ.receiver) σ.history;
}

-- a release to the receiver
unfoldable pub releases : (m : Ends) → Linked m → Linked m
releases m σ = record {
  sender = σ.sender;
  receiver = m.next_receiver release_buffer σ.receiver;
  frames = σ.frames;
  words = σ.words;
  history = after_release (m.answer_receiver release_buffer σ.receiver) σ.history;
}

-- other channels, and nothing else changed
abbrev pub channels : (m : Ends) → List (List ℕ) → List (List ℕ) → Linked m → Linked m
channels m fs ws σ = record { sender = σ.sender; receiver = σ.receiver; frames = fs; words = ws; history = σ.history }

-- all but the oldest
abbrev pub rest : {A : Type 0} → List A → List A
rest [] = []
rest (x ∷ xs) = xs

-- an event
unfoldable pub step : Settings → (m : Ends) → Event → Linked m → Linked m
step set m (ad_request o lent) σ = to_sender set m (request_ad o) lent σ.words σ
step set m (bd_request o lent) σ = to_sender set m (request_bd o) lent σ.words σ
step set m (ticks lent) σ = to_sender set m fop.tick lent σ.words σ
step set m (lower_says l lent) σ = to_sender set m (fop.lower l) lent σ.words σ
step set m (terminate v lent) σ = to_sender set m (directive 5 v) lent σ.words σ
step set m (resume v lent) σ = to_sender set m (directive 6 v) lent σ.words σ
step set m (word_in lent) σ = word_come set m lent σ.words σ
step set m word_lost σ = channels m σ.frames (rest σ.words) σ
step set m (word_made lent) σ = channels m σ.frames (enters σ.words (m.word lent σ.receiver).word) σ
step set m frame_in σ = frame_come set m σ.frames σ
step set m frame_lost σ = channels m (rest σ.frames) σ.words σ
step set m release σ = releases m σ

-- "Each event gets what the last one left"
unfoldable pub run : Settings → (m : Ends) → List Event → Linked m → Linked m
run set m [] σ = σ
run set m (e ∷ es) σ = run set m es (step set m e σ)
