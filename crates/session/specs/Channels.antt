-- Beyond demand 3: channels that repeat, a recorder that repeats frames, fill, and noise. A repeated frame is what once put an old date over a new one.
-- Demand 3 as document 01 words it is the case of its own events alone (proofs/Theorem).
use Rattle.std.specs.Prelude.{Bool, true, false, ◌&&◌, List, [], ◌∷◌, ◌++◌, ℕ, ◌+◌, ◌/◌, ltb, leb, length, get_or}
use Rattle.std.proofs.Math.Option.{Option, none, some}
use Rattle.base.specs.Choice.{pick}
use Rattle.fop.specs.Units.{Fdu, Frame, AD, BD, Unlock, SetVR, Refused, WordReceived, valid, invalid, other, Own, are_octets, written, read_word}
use Rattle.session.specs.Frames.{read}
use Rattle.session.specs.Ends.{Settings, Ends}
use Rattle.session.specs.Session.{Event, Linked, no_unit, enters, channels, word_come, frame_come, step}

-- Demand 3's events, and six more.
pub data LinkEvent : Type 0 where
  -- an event of demand 3
  demanded : Event → LinkEvent
  -- the oldest frame arrives at the receiver, with these octets behind it, and also stays; the oldest word arrives at the sender, with this room
  -- lent, and also stays
  frame_stays : List ℕ → LinkEvent
  word_stays : ℕ → LinkEvent
  -- the oldest frame arrives with these octets behind it, as the fill of its last codeblock stands behind a frame that comes out of a CLTU
  frame_filled : List ℕ → LinkEvent
  -- a recorder repeats the frame of the unit at this place of Sent
  frame_again : ℕ → LinkEvent
  -- octets that the frame reader refuses arrive at the receiver; octets that are refused as a control word arrive at the sender, with this
  -- room lent; what is under way stays
  noise : List ℕ → LinkEvent
  word_noise : List ℕ → ℕ → LinkEvent

-- a type-AD frame
abbrev pub is_ad : Frame → Bool
is_ad (AD u) = true
is_ad (BD o) = false
is_ad Unlock = false
is_ad (SetVR v) = false
is_ad (Refused r) = false

-- the frame reader's answer is a refusal
abbrev pub is_refused : Frame → Bool
is_refused (AD u) = false
is_refused (BD o) = false
is_refused Unlock = false
is_refused (SetVR v) = false
is_refused (Refused r) = true

-- octets refused as a control word: with 10 (not four octets) or 7 (another channel's). An invalid word is no refusal, but event E15.
abbrev pub is_refused_word : WordReceived → Bool
is_refused_word (valid w) = false
is_refused_word invalid = false
is_refused_word (other r) = true

-- `frame_come` and `word_come` (specs/Session) let the first of a list arrive and leave the others under way; of an empty list nothing arrives, and
-- all stays as it was. So these lists say what arrives and what is left.

-- the oldest of a channel arrives and stays: it stands there twice
abbrev pub stays : {A : Type 0} → List A → List A
stays [] = []
stays (x ∷ xs) = x ∷ x ∷ xs

-- a type-AD frame; where the oldest is a type-B frame nothing arrives: it has no number, and the receiver takes each copy for a new one
abbrev pub stays_ad : Own → List (List ℕ) → List (List ℕ)
stays_ad own [] = []
stays_ad own (x ∷ fs) = pick (is_ad (read own x)) (stays (x ∷ fs)) []

-- document 01: refusal 5 is "more than 6 octets after the frame"
abbrev pub largest_fill : ℕ
largest_fill = 6

abbrev pub is_fill : List ℕ → Bool
is_fill fill = leb (length fill) largest_fill && are_octets fill

-- the oldest frame with fill behind it
abbrev pub with_fill : List ℕ → List (List ℕ) → List (List ℕ)
with_fill fill [] = []
with_fill fill (x ∷ fs) = pick (is_fill fill) ((x ++ fill) ∷ fs) []

-- octets from elsewhere arrive, where the test holds, and leave all that is under way
abbrev pub arriving : Bool → List ℕ → List (List ℕ) → List (List ℕ)
arriving b o xs = pick b (o ∷ xs) []

-- document 01, "Limits": "PW = NW = W/2"
abbrev pub negative_window : Settings → ℕ
negative_window set = set.w / 2

-- and the largest NW: "Receiver window W even, 2 to 254"
abbrev pub largest_negative_window : ℕ
largest_negative_window = 127

-- the unit at place i is one of the last `kept` units sent
abbrev pub is_kept : ℕ → List Fdu → ℕ → Bool
is_kept kept sent i = ltb i (length sent) && leb (length sent) (i + kept)

-- a recorder that keeps so many units: the frame of the unit at place i, if it is one of these, as a sender hands it down (specs/Claims, `Sends`)
abbrev pub repeated : Own → ℕ → List Fdu → ℕ → Option (List ℕ)
repeated own kept sent i = pick (is_kept kept sent i) (some (written own (AD (get_or sent i no_unit)))) none

-- An event, with a recorder that keeps so many units. "An empty channel gives nothing".
unfoldable pub link_step : Settings → ℕ → (m : Ends) → LinkEvent → Linked m → Linked m
link_step set kept m (demanded e) σ = step set m e σ
link_step set kept m (frame_stays fill) σ = frame_come set m (with_fill fill (stays_ad set.own σ.frames)) σ
link_step set kept m (word_stays lent) σ = word_come set m lent (stays σ.words) σ
link_step set kept m (frame_filled fill) σ = frame_come set m (with_fill fill σ.frames) σ
link_step set kept m (frame_again i) σ = channels m (enters σ.frames (repeated set.own kept σ.history.sent i)) σ.words σ
link_step set kept m (noise o) σ = frame_come set m (arriving (is_refused (read set.own o)) o σ.frames) σ
link_step set kept m (word_noise o lent) σ = word_come set m lent (arriving (is_refused_word (read_word set.own o)) o σ.words) σ

-- a list of them
unfoldable pub link_run : Settings → ℕ → (m : Ends) → List LinkEvent → Linked m → Linked m
link_run set kept m [] σ = σ
link_run set kept m (e ∷ es) σ = link_run set kept m es (link_step set kept m e σ)
