-- What goes wrong where a number is given to another unit while a frame that carries it is still under way (docs/OPERATIONS.md, "Before the
-- service begins again"): two sessions of the table machines with directives besides document 01's events, computed. In both an old unit is
-- accepted, the sender confirms the new one that has its number, and the new one is then discarded as a repeated frame (E4).
use mathlib.Core.Path.{◌≡◌, refl}
use mathlib.Core.List.{List, [], ◌∷◌}
use Prim.Native.Nat.{ℕ}
use Rattle.fop.specs.Units.{Fdu}
use Rattle.fop.specs.declared.State.TheVariants.{S1}
use Rattle.fop.specs.Machine.{fdus}
use Rattle.fop.specs.declared.Lower.TheVariants.{AdAccept, BcAccept}
use Rattle.fop.specs.Events.{directive, word_arrives}
use Rattle.fop.specs.Answers.{Answer, sender_answer}
use Rattle.farm.specs.declared.Event.TheVariants.{E4}
use Rattle.session.specs.Receiver.{ReceiverAnswer, frame_arrives, receiver_answer}
use Rattle.session.specs.Ends.{Settings, tables}
use Rattle.session.specs.Session.{Event, Linked, begins, step, to_sender, ad_request, lower_says, terminate, word_in, word_made, frame_in, frame_lost}
use Rattle.session.proofs.Trace.{computing, settings, discarding}

abbrev set : Settings
set = settings 3 2 9 3

-- what operators do: an event of the session, or a directive by its number and value
pub data Operation : Type 0 where
  event : Event → Operation
  direct : ℕ → ℕ → Operation

abbrev pub does : Operation → Linked (tables set) → Linked (tables set)
does (event e) σ = step set (tables set) e σ
does (direct d v) σ = to_sender set (tables set) (directive d v) 256 σ.words σ

abbrev pub after : List Operation → Linked (tables set) → Linked (tables set)
after [] σ = σ
after (x ∷ xs) σ = after xs (does x σ)

-- the old unit and the new one, both with the number 254
abbrev old : Fdu
old = record { ns = 254; octets = 1 ∷ [] }

abbrev new : Fdu
new = record { ns = 254; octets = 2 ∷ [] }

-- the old unit is sent, and denied by Terminate while its frame is under way
abbrev denied : List Operation
denied = event (ad_request (1 ∷ []) 256) ∷ event (lower_says AdAccept 256) ∷ event (terminate 0 256) ∷ []

-- a word reports the number; Set V(S) to it, Initiate with CLCW check, and a clear word ends the check
abbrev by_check : List Operation
by_check =
    event (word_made 4) ∷ event (word_in 256) ∷ direct 7 254 ∷ direct 2 0 ∷ event (word_made 4) ∷ event (word_in 256) ∷ []

-- or Initiate with Set V(R), which a word made before ends; its frame is lost behind the old unit's
abbrev by_set_vr : List Operation
by_set_vr = event (word_made 4) ∷ direct 4 254 ∷ event (lower_says BcAccept 256) ∷ event (word_in 256) ∷ []

-- the new unit is sent, and the old one's frame arrives
abbrev sent_again : List Operation
sent_again = event (ad_request (2 ∷ []) 256) ∷ event frame_in ∷ []

-- the answer to a word that is made now, and to the oldest frame
abbrev confirming : Linked (tables set) → List (List ℕ) → Answer
confirming σ [] = sender_answer set.own (directive 0 0) 256 σ.sender
confirming σ (s ∷ ws) = sender_answer set.own (word_arrives s) 256 σ.sender

abbrev arriving : Linked (tables set) → List (List ℕ) → ReceiverAnswer
arriving σ [] = receiver_answer (frame_arrives []) σ.receiver
arriving σ (s ∷ fs) = receiver_answer (frame_arrives s) σ.receiver

-- the accident: the sender is active, the old unit is on board and the new one alone is on the Sent_Queue; the next word confirms it; its
-- frame, the only one still under way, is discarded
pub record Accident (σ : Linked (tables set)) : Type 0 where
  pub active : σ.sender.state ≡ S1
  pub on_board_lem : σ.history.accepted ≡ old ∷ []
  pub queued : fdus σ.sender.queues.sent_queue ≡ new ∷ []
  pub confirmed : (confirming σ (does (event (word_made 4)) σ).words).confirmed ≡ record { number = 254; count = 1 }
  pub discarded : arriving σ σ.frames ≡ discarding E4

-- Set V(S) and Initiate with CLCW check
pub renumbered_by_check : Accident (after sent_again (after by_check (after denied (begins (tables set)))))
unfolding computing
renumbered_by_check = record { active = refl; on_board_lem = refl; queued = refl; confirmed = refl; discarded = refl }

-- Initiate with Set V(R)
pub renumbered_by_set_vr : Accident (after (event frame_lost ∷ []) (after sent_again (after by_set_vr (after denied (begins (tables set))))))
unfolding computing
renumbered_by_set_vr = record { active = refl; on_board_lem = refl; queued = refl; confirmed = refl; discarded = refl }
