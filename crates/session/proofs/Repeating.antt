-- The events of channels that repeat and of noise, computed of the table machines: a frame that stays, with fill behind it or not, is accepted once and
-- then discarded, with nothing handed out; a word that stays confirms once; the recorder's frame is discarded; refused octets are answered and
-- change nothing. And a receiver that hands a repeated unit out again, refuted.
use mathlib.Core.Logic.{◌⊎◌, inl, inr}
use mathlib.Core.Path.{◌≡◌, refl, ap}
use mathlib.Core.List.{List, [], ◌∷◌}
use mathlib.Core.Option.{Option, none, some}
use Prim.Native.Nat.{ℕ}
use native.Mathlib.Omega.{arith}
use lib.ListN.{length}
use Rattle.fop.specs.Units.{Fdu, Frame, AD, BD, Unlock, SetVR, Refused, other, written, read_word}
use Rattle.fop.specs.Variables.{Fop}
use Rattle.fop.specs.Answers.{sender_answer, sender_next}
use Rattle.receiver.specs.declared.Receiver.{Receiver}
use Rattle.farm.specs.declared.Event.TheVariants.{E4}
use Rattle.session.specs.Frames.{read}
use Rattle.session.specs.Receiver.{ReceiverEvent, frame_arrives, release_buffer, ReceiverAnswer, receiver_next, receiver_answer, receiver_word}
use Rattle.session.specs.Ends.{Settings, Ends, tables, start_sender, start_receiver}
use Rattle.session.specs.Session.{Linked, begins, ad_request, word_made}
use Rattle.session.specs.Channels.{LinkEvent, demanded, frame_stays, word_stays, frame_again, noise, word_noise, negative_window, link_step, link_run}
use Rattle.session.specs.Beyond.{HandsOut}
use Rattle.session.proofs.Trace.{computing, settings, discarding}

abbrev set : Settings
set = settings 3 2 9 3

abbrev after : List LinkEvent → Linked (tables set)
after es = link_run set (negative_window set) (tables set) es (begins (tables set))

-- the receiver's answer to the oldest frame
abbrev answered : Linked (tables set) → List (List ℕ) → ReceiverAnswer
answered σ [] = receiver_answer (frame_arrives []) σ.receiver
answered σ (s ∷ fs) = receiver_answer (frame_arrives s) σ.receiver

-- a unit is sent; its frame arrives and stays, twice
abbrev sent : List LinkEvent
sent = demanded (ad_request (7 ∷ []) 256) ∷ []

abbrev stayed : List LinkEvent
stayed = demanded (ad_request (7 ∷ []) 256) ∷ frame_stays [] ∷ frame_stays (0x55 ∷ 0x55 ∷ []) ∷ []

pub frame_stays_lem : ((after stayed).history.accepted ≡ (after sent).history.sent) × ((after stayed).frames ≡ (after sent).frames)
    × (answered (after stayed) (after stayed).frames ≡ discarding E4)
unfolding computing link_step link_run
frame_stays_lem = (refl, refl, refl)

-- a word that reports it arrives and stays, twice; the recorder repeats the unit
abbrev confirmed : List LinkEvent
confirmed = demanded (ad_request (7 ∷ []) 256) ∷ frame_stays [] ∷ demanded (word_made 4) ∷ word_stays 256 ∷ word_stays 256 ∷ frame_again 0 ∷ []

pub word_stays_lem : ((after confirmed).history.confirmed ≡ some 0 ∷ []) × (length (after confirmed).words ≡ 1)
    × (length (after confirmed).frames ≡ 2) × ((after confirmed).history.accepted ≡ (after sent).history.sent)
unfolding computing link_step link_run
word_stays_lem = (refl, refl, refl, refl)

-- octets that are refused: too short for a frame (4), not four for a word (10)
pub noise_changes_nothing : (read set.own (1 ∷ 2 ∷ []) ≡ Refused 4) × (read_word set.own (1 ∷ 2 ∷ []) ≡ other 10)
    × (after (demanded (ad_request (7 ∷ []) 256) ∷ noise (1 ∷ 2 ∷ []) ∷ word_noise (1 ∷ 2 ∷ []) 256 ∷ []) ≡ after sent)
unfolding computing link_step link_run
noise_changes_nothing = (refl, refl, refl)

-- A receiver that hands a unit out with every AD or BD frame, accepted or not. Its refusals and events are the tables', and here its histories too, but
-- the unit of a frame that is repeated is handed out again (`again_handed`). `HandsOut` refuses it (`refuted_hands_out`).
abbrev part_of_lem : Frame → Option (List ℕ)
part_of_lem (AD u) = some u.octets
part_of_lem (BD o) = some o
part_of_lem Unlock = none
part_of_lem (SetVR v) = none
part_of_lem (Refused r) = none

abbrev always : ReceiverEvent → ReceiverAnswer → ReceiverAnswer
always (frame_arrives s) a = record { refusal = a.refusal; event = a.event; unit = part_of_lem (read set.own s) }
always release_buffer a = a

abbrev hands_out_again : Ends
hands_out_again = record {
  Sender = Fop;
  Receiver = Receiver;
  sender = start_sender set;
  receiver = start_receiver set;
  next = sender_next set.own;
  answer = sender_answer set.own;
  next_receiver = receiver_next;
  answer_receiver = λ e x. always e (receiver_answer e x);
  word = receiver_word;
}

abbrev stayed_again : Linked hands_out_again
stayed_again = link_run set (negative_window set) hands_out_again (demanded (ad_request (7 ∷ []) 256) ∷ frame_stays [] ∷ []) (begins hands_out_again)

abbrev seven : Fdu
seven = record { ns = 254; octets = 7 ∷ [] }

-- its histories are the tables', and it hands the unit out again
pub again_handed : (stayed_again.history ≡ (after (demanded (ad_request (7 ∷ []) 256) ∷ frame_stays [] ∷ [])).history)
    × ((hands_out_again.answer_receiver (frame_arrives (written set.own (AD seven))) stayed_again.receiver).unit ≡ some (7 ∷ []))
unfolding computing link_step link_run
again_handed = (refl, refl)

pub refuted_hands_out : HandsOut set hands_out_again stayed_again → ⊥
unfolding computing link_step link_run
refuted_hands_out h = go (h.frame _ [] seven refl refl)
  where
    go : ((◌≡◌ {A = Option (List ℕ)} (some (7 ∷ [])) (some (7 ∷ []))) × (◌≡◌ {A = List Fdu} (seven ∷ []) (seven ∷ seven ∷ [])))
        ⊎ ((◌≡◌ {A = Option (List ℕ)} (some (7 ∷ [])) none) × (◌≡◌ {A = List Fdu} (seven ∷ []) (seven ∷ []))) → ⊥
    go (inl e) = omega (arith, ap length e.1)
    go (inr e) = let z : ◌≡◌ {A = ℕ} 0 1 = cc in omega arith
