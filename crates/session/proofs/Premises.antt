-- For each claim of demand 3 about the next event, a computed session of the table machines that meets all its premises; of a sender "active or
-- resending without wait" one in each of the two states.
use mathlib.Core.Path.{◌≡◌, refl}
use mathlib.Core.Bool.{true, false}
use mathlib.Core.List.{List, [], ◌∷◌}
use mathlib.Core.Option.{none, some}
use Prim.Native.Nat.{ℕ, ◌<◌}
use lib.Dec.{leb→le}
use lib.ListN.{length}
use Rattle.fop.specs.Units as units
use Rattle.fop.specs.Events as events
use Rattle.session.specs.Frames as frames
use Rattle.session.specs.Session as ses
use Rattle.fop.specs.Units.{Fdu, AD, Word, valid, legal}
use Rattle.fop.specs.declared.State.{State}
use Rattle.fop.specs.declared.State.TheVariants.{S1, S2}
use Rattle.fop.specs.Machine.{first_marked}
use Rattle.fop.specs.declared.Lower.TheVariants.{AdAccept}
use Rattle.fop.specs.Events.{request_ad, lower, word_arrives}
use Rattle.farm.specs.declared.State.TheVariants.{Open}
use Rattle.session.specs.Ends.{Settings, tables}
use Rattle.session.specs.Session.{Event, Linked, ad_request, ticks, lower_says, word_made, frame_in, frame_lost, word_in}
use Rattle.session.specs.Claims.{IsOutstanding, outstanding, expected, BufferFree, Lent, next_number}
use Rattle.session.proofs.Trace.{computing, settings}

-- a window of 1, and wider ones
abbrev set : Settings
set = settings 1 2 2 3

abbrev two : Settings
two = settings 2 2 2 3

abbrev wide : Settings
wide = settings 3 2 2 3

abbrev after : (s : Settings) → List Event → Linked (tables s)
after s es = ses.run s (tables s) es (ses.begins (tables s))

abbrev one : Fdu
one = record { ns = 254; octets = 17 ∷ [] }

-- a clear control word
abbrev clear : ℕ → Word
clear number = record { lockout = false; wait = false; retransmit = false; counter = 0; nr = number }

-- "The receiver accepts an AD frame exactly when ..": a frame under way to a receiver that is Open, expects it and has a buffer free
abbrev accepts_list : List Event
accepts_list = ad_request (17 ∷ []) 256 ∷ []

abbrev Accepts : Type 0
Accepts =
    (s : List ℕ) × (fs : List (List ℕ)) × ((after set accepts_list).frames ≡ s ∷ fs) × (frames.read set.own s ≡ AD one)
    × ((after set accepts_list).receiver.farm.channel.variables.state ≡ Open) × (one.ns ≡ expected set (after set accepts_list).history)
    × BufferFree set (after set accepts_list).history

-- "An active sender with a ready lower layer ..": at the start
abbrev Offered : Type 0
Offered =
    (legal (17 ∷ []) ≡ true) × Lent set (request_ad (17 ∷ [])) 8 (after set []).sender × ((after set []).sender.state ≡ S1)
    × ((after set []).sender.out.ad ≡ true) × ((after set []).sender.queues.wait_queue ≡ none) × (first_marked (after set []).sender.queues.sent_queue ≡ none)
    × (length (outstanding (after set []).history) < set.k)

-- The other claims speak of a sender active or resending without wait: each is met in both states, st.
module _ (s : Settings) (es : List Event) (st : State) where
  -- "When the lower layer comes ready, .. its oldest marked unit"
  abbrev ReadyAgain : Fdu → Type 0
  ReadyAgain u =
      Lent s (lower AdAccept) 9 (after s es).sender × ((after s es).sender.state ≡ st)
      × (first_marked (after s es).sender.queues.sent_queue ≡ some u)

  -- "with none marked and fewer than K outstanding, .. the unit waiting"
  abbrev ReadyNew : List ℕ → Type 0
  ReadyNew o =
      Lent s (lower AdAccept) 9 (after s es).sender × ((after s es).sender.state ≡ st)
      × (first_marked (after s es).sender.queues.sent_queue ≡ none) × (length (outstanding (after s es).history) < s.k)
      × ((after s es).sender.queues.wait_queue ≡ some o)

  -- "a timer expiry short of the transmission limit": one tick before it, the first unit outstanding
  abbrev Expires : Type 0
  Expires =
      Lent s events.tick 8 (after s es).sender × ((after s es).sender.state ≡ st)
      × ((after s es).sender.clock.timer ≡ 1) × ((after s es).sender.clock.transmission_count < s.limit)
      × IsOutstanding (after s es).history 0

  -- "a clear control word reporting the next number to send ..": units outstanding, a unit waiting and the lower layer ready
  abbrev Clears : ℕ → List ℕ → Type 0
  Clears number o =
      (w : List ℕ) × (ws : List (List ℕ)) × ((after s es).words ≡ w ∷ ws) × (units.read_word s.own w ≡ valid (clear number))
      × Lent s (word_arrives w) 9 (after s es).sender × ((after s es).sender.state ≡ st)
      × (number ≡ next_number s (after s es).history) × (0 < length (outstanding (after s es).history))
      × ((after s es).sender.out.ad ≡ true) × ((after s es).sender.queues.wait_queue ≡ some o)

-- active: the timer expired before the lower layer answered
abbrev again_list : List Event
again_list = ad_request (17 ∷ []) 256 ∷ ticks 256 ∷ ticks 256 ∷ []

-- a second unit is offered before the lower layer answered
abbrev new_list : List Event
new_list = ad_request (17 ∷ []) 256 ∷ ad_request (34 ∷ 35 ∷ []) 256 ∷ []

-- the timer has one tick left
abbrev expires_list : List Event
expires_list = ad_request (17 ∷ []) 256 ∷ lower_says AdAccept 256 ∷ ticks 256 ∷ []

-- with a window of 1 full
abbrev clears_list : List Event
clears_list = ad_request (17 ∷ []) 256 ∷ lower_says AdAccept 256 ∷ ad_request (34 ∷ 35 ∷ []) 256 ∷ frame_in ∷ word_made 4 ∷ []

-- resending without wait: the first of two units was lost, a word asked for both, and the first is on its way again
abbrev resending_list : List Event → List Event
resending_list es =
    ad_request (17 ∷ []) 256 ∷ lower_says AdAccept 256 ∷ ad_request (34 ∷ 35 ∷ []) 256 ∷ lower_says AdAccept 256 ∷ frame_lost ∷ frame_in ∷ word_made 4
    ∷ word_in 256 ∷ es

-- the second is too, and a third unit is offered
abbrev resending_new : List Event
resending_new = resending_list (lower_says AdAccept 256 ∷ ad_request (51 ∷ 52 ∷ []) 256 ∷ [])

abbrev resending_expires : List Event
resending_expires = resending_list (ticks 256 ∷ [])

-- with a window of 2 full, both units arrive
abbrev resending_clears : List Event
resending_clears =
    resending_list
    (lower_says AdAccept 256 ∷ lower_says AdAccept 256 ∷ ad_request (51 ∷ 52 ∷ []) 256 ∷ frame_in ∷ frame_in ∷ word_made 4 ∷ [])

pub premises : Accepts × Offered
    × ReadyAgain set again_list S1 one × ReadyAgain wide (resending_list []) S2 (record { ns = 255; octets = 34 ∷ 35 ∷ [] })
    × ReadyNew wide new_list S1 (34 ∷ 35 ∷ []) × ReadyNew wide resending_new S2 (51 ∷ 52 ∷ [])
    × Expires set expires_list S1 × Expires wide resending_expires S2
    × Clears set clears_list S1 255 (34 ∷ 35 ∷ []) × Clears two resending_clears S2 0 (51 ∷ 52 ∷ [])
unfolding computing
premises = (
  (0 ∷ 5 ∷ 36 ∷ 7 ∷ 254 ∷ 17 ∷ 103 ∷ 182 ∷ [], [], refl, refl, refl, refl, leb→le 1 2 tt),
  (refl, leb→le 8 8 tt, refl, refl, refl, refl, leb→le 1 1 tt),
  (leb→le 8 9 tt, refl, refl),
  (leb→le 9 9 tt, refl, refl),
  (leb→le 9 9 tt, refl, refl, leb→le 2 3 tt, refl),
  (leb→le 9 9 tt, refl, refl, leb→le 3 3 tt, refl),
  (leb→le 8 8 tt, refl, refl, leb→le 2 3 tt, (leb→le 1 1 tt, refl, refl)),
  (leb→le 0 8 tt, refl, refl, leb→le 3 3 tt, (leb→le 1 2 tt, refl, refl)),
  (1 ∷ 36 ∷ 0 ∷ 255 ∷ [], [], refl, refl, leb→le 9 9 tt, refl, refl, leb→le 1 1 tt, refl, refl),
  (1 ∷ 36 ∷ 0 ∷ 0 ∷ [], [], refl, refl, leb→le 9 9 tt, refl, refl, leb→le 1 2 tt, refl, refl),
)
