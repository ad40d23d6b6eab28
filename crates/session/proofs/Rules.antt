-- Why docs/OPERATIONS.md, "At all times", has its rules: what happens to the table machines where one is not kept, computed. Dates that go by
-- both AD and BD arrive in another order than they were offered, with nothing lost or repeated (`mixed`). A receiver that begins again with the
-- V(R) of its start takes a unit a second time (`reset_repeats`), and so does one to which a recorder repeats a frame of an older session
-- (`older_session`). A number given again is in Renumbered, a recorder that keeps too much in Counterexamples and Replayed.
use mathlib.Core.Path.{◌≡◌, refl}
use mathlib.Core.List.{List, [], ◌∷◌, ◌++◌}
use Prim.Native.Nat.{ℕ}
use Rattle.fop.specs.Units.{Frame, AD, BD, Unlock, SetVR, Refused, written}
use Rattle.fop.specs.declared.Lower.TheVariants.{AdAccept, BcAccept}
use Rattle.session.specs.Frames.{read}
use Rattle.session.specs.Ends.{Settings, tables, start_receiver}
use Rattle.session.specs.Session.{Linked, begins, ad_request, bd_request, lower_says, terminate, frame_in, frame_come, step}
use Rattle.session.specs.Channels.{demanded, frame_stays, link_step, link_run}
use Rattle.session.proofs.Trace.{computing, settings, after}
use Rattle.session.proofs.Renumbered.{event, direct, after as operations}

abbrev set : Settings
set = settings 3 2 9 3

-- the dates 1, 2 and 3 are offered in this order, the third as a BD unit, while the lower layer still has the first
abbrev mixed_list : List (List ℕ)
mixed_list = (after set (tables set) (ad_request (1 ∷ []) 256 ∷ ad_request (2 ∷ []) 256 ∷ bd_request (3 ∷ []) 256 ∷ lower_says AdAccept 256 ∷ [])).frames

-- the date that a frame carries
abbrev date_of : Frame → List ℕ
date_of (AD u) = u.octets
date_of (BD o) = o
date_of Unlock = []
date_of (SetVR v) = []
date_of (Refused r) = []

abbrev dates : List (List ℕ) → List ℕ
dates [] = []
dates (s ∷ fs) = date_of (read set.own s) ++ dates fs

-- they arrive as 1, 3, 2, and all are accepted
abbrev arrived : Linked (tables set)
arrived =
    after set (tables set)
    (ad_request (1 ∷ []) 256 ∷ ad_request (2 ∷ []) 256 ∷ bd_request (3 ∷ []) 256 ∷ lower_says AdAccept 256 ∷ frame_in ∷ frame_in ∷ frame_in ∷ [])

pub mixed : (dates mixed_list ≡ 1 ∷ 3 ∷ 2 ∷ [])
    × (arrived.history.accepted ≡ record { ns = 254; octets = 1 ∷ [] } ∷ record { ns = 255; octets = 2 ∷ [] } ∷ [])
    × (arrived.history.accepted_bd ≡ (3 ∷ []) ∷ [])
unfolding computing
mixed = (refl, refl, refl)

-- a unit is accepted, and its frame stays
abbrev once : Linked (tables set)
once = link_run set 0 (tables set) (demanded (ad_request (1 ∷ []) 256) ∷ frame_stays [] ∷ []) (begins (tables set))

-- the receiver on board begins again, as at its start
abbrev begun_again : Linked (tables set) → Linked (tables set)
begun_again σ = record { sender = σ.sender; receiver = start_receiver set; frames = σ.frames; words = σ.words; history = σ.history }

pub reset_repeats : (once.history.accepted ≡ record { ns = 254; octets = 1 ∷ [] } ∷ [])
    × ((step set (tables set) frame_in (begun_again once)).history.accepted
    ≡ record { ns = 254; octets = 1 ∷ [] } ∷ record { ns = 254; octets = 1 ∷ [] } ∷ [])
unfolding computing link_run link_step
reset_repeats = (refl, refl)

-- A recorder keeps a frame of an older session: a unit is accepted, the service ends, and Initiate with Set V(R) begins another at the same number.
abbrev older : Linked (tables set)
older =
    operations
    (event (ad_request (1 ∷ []) 256) ∷ event (lower_says AdAccept 256) ∷ event frame_in ∷ event (terminate 0 256) ∷ direct 4 254
    ∷ event (lower_says BcAccept 256) ∷ event frame_in ∷ []) (begins (tables set))

-- it repeats the frame, and the unit is accepted a second time
abbrev old_frame : List (List ℕ)
old_frame = written set.own (AD (record { ns = 254; octets = 1 ∷ [] })) ∷ []

pub older_session : (older.history.accepted ≡ record { ns = 254; octets = 1 ∷ [] } ∷ []) × (older.frames ≡ [])
    × ((frame_come set (tables set) old_frame older).history.accepted
    ≡ record { ns = 254; octets = 1 ∷ [] } ∷ record { ns = 254; octets = 1 ∷ [] } ∷ [])
unfolding computing
older_session = (refl, refl, refl)
