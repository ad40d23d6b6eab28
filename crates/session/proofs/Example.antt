-- Sessions of the table machines, computed: every answer, event by event, and the histories at the end.
use mathlib.Core.Path.{◌≡◌, refl}
use mathlib.Core.Bool.{false}
use mathlib.Core.List.{List, [], ◌∷◌}
use mathlib.Core.Option.{Option, some}
use Prim.Native.Nat.{ℕ}
use Rattle.farm.specs.declared.Event.TheVariants as farm
use Rattle.session.specs.Session as ses
use Rattle.fop.specs.Units.{Fdu}
use Rattle.fop.specs.declared.State.TheVariants.{S1, S2, S3, S6}
use Rattle.fop.specs.declared.Alert.TheVariants.{Limit, T1, Term}
use Rattle.fop.specs.declared.Event.TheVariants.{E1, E2, E5, E9, E10, E16, E17, E19, E21, E22, E29, E41, E45, E101}
use Rattle.fop.specs.declared.Response.TheVariants.{AcceptAdUnit, RejectAdUnit, AcceptBdUnit, RejectBdUnit, AcceptDirective, ConfirmDirective}
use Rattle.fop.specs.declared.Lower.TheVariants.{AdAccept, BdAccept}
use Rattle.session.specs.Ends.{Settings, tables}
use Rattle.session.specs.Session.{Event, History, ad_request, bd_request, ticks, lower_says, terminate, word_in, word_made, frame_in, frame_lost, release}
use Rattle.session.proofs.Trace.{computing, settings, Said, S, R, N, trace, by, no_event, down, aborting, responding, alerting, confirming, denying, discarding, handing}

-- a session over a list of events: every answer, and the histories at the end
abbrev Runs : Settings → List Event → List Said → History → Type 0
Runs s es answers h =
    (trace s es (ses.begins (tables s)) ≡ answers) × ((ses.run s (tables s) es (ses.begins (tables s))).history ≡ h)

abbrev usual : Settings
usual = settings 3 2 2 3

abbrev one_buffer : Settings
one_buffer = settings 3 1 2 3

abbrev limit_one : Settings
limit_one = settings 3 2 2 1

-- with a timer that expires at the first tick
abbrev limit_two : Settings
limit_two = settings 3 2 1 2

-- the AD units of the examples, by their numbers, and their frames
abbrev unit_254 : Fdu
unit_254 = record { ns = 254; octets = 17 ∷ [] }

abbrev unit_255 : Fdu
unit_255 = record { ns = 255; octets = 34 ∷ 35 ∷ [] }

abbrev unit_0 : Fdu
unit_0 = record { ns = 0; octets = 51 ∷ [] }

abbrev frame_254 : List ℕ
frame_254 = 0 ∷ 5 ∷ 36 ∷ 7 ∷ 254 ∷ 17 ∷ 103 ∷ 182 ∷ []

abbrev frame_255 : List ℕ
frame_255 = 0 ∷ 5 ∷ 36 ∷ 8 ∷ 255 ∷ 34 ∷ 35 ∷ 13 ∷ 88 ∷ []

abbrev frame_0 : List ℕ
frame_0 = 0 ∷ 5 ∷ 36 ∷ 7 ∷ 0 ∷ 51 ∷ 83 ∷ 88 ∷ []

-- a unit is sent at once
abbrev sends : List ℕ → Said
sends frame = S (responding (AcceptAdUnit ∷ []) (down frame (by E19 S1)))

-- the histories of a session without BD units: sent, accepted, confirmed, denied, and the releases done
abbrev ad_history : List Fdu → List Fdu → List (Option ℕ) → List (Option ℕ) → ℕ → History
ad_history sent accepted confirmed denied released = record {
  sent = sent;
  accepted = accepted;
  confirmed = confirmed;
  denied = denied;
  released = released;
  locked_out = false;
  sent_bd = [];
  accepted_bd = [];
}

-- a whole session: a unit is lost, the timer expires and resends it; the next finds no buffer, so the receiver waits, and a release lets it be
-- resent and confirmed; Terminate denies the last, and a BD unit still passes
abbrev whole_list : List Event
whole_list =
    ad_request (17 ∷ []) 256 ∷ frame_lost ∷ lower_says AdAccept 256 ∷ ticks 256 ∷ ticks 256 ∷ frame_in
    ∷ lower_says AdAccept 256 ∷ ad_request (34 ∷ 35 ∷ []) 256 ∷ lower_says AdAccept 256 ∷ frame_in ∷ word_made 4
    ∷ word_in 256 ∷ release ∷ word_made 4 ∷ word_in 256 ∷ frame_in ∷ word_made 4 ∷ word_in 256 ∷ lower_says AdAccept 256
    ∷ ad_request (51 ∷ []) 256 ∷ terminate 7 256 ∷ bd_request (51 ∷ []) 256 ∷ frame_lost ∷ frame_in ∷ []

abbrev Whole : Type 0
Whole =
    Runs one_buffer whole_list
    (sends frame_254
    ∷ N
    ∷ S (by E41 S1)
    ∷ S (no_event S1)
    ∷ S (aborting (down frame_254 (by E16 S1)))
    ∷ R (handing (17 ∷ []) farm.E1)
    ∷ S (by E41 S1)
    ∷ sends frame_255
    ∷ S (by E41 S1)
    ∷ R (discarding farm.E2)
    ∷ N
    ∷ S (confirming 254 1 (by E9 S3))
    ∷ R (discarding farm.E10)
    ∷ N
    ∷ S (aborting (down frame_255 (by E10 S2)))
    ∷ R (handing (34 ∷ 35 ∷ []) farm.E1)
    ∷ N
    ∷ S (confirming 255 1 (by E2 S1))
    ∷ S (by E41 S1)
    ∷ sends frame_0
    ∷ S (denying 0 1 (alerting Term (responding (AcceptDirective ∷ ConfirmDirective ∷ []) (by E29 S6))))
    ∷ S (down (32 ∷ 5 ∷ 36 ∷ 7 ∷ 0 ∷ 51 ∷ 102 ∷ 80 ∷ []) (by E21 S6))
    ∷ N
    ∷ R (handing (51 ∷ []) farm.E6)
    ∷ [])
    (record {
      sent = unit_254 ∷ unit_255 ∷ unit_0 ∷ [];
      accepted = unit_254 ∷ unit_255 ∷ [];
      confirmed = some 0 ∷ some 1 ∷ [];
      denied = some 2 ∷ [];
      released = 1;
      locked_out = false;
      sent_bd = (51 ∷ []) ∷ [];
      accepted_bd = (51 ∷ []) ∷ [];
    })

-- a unit is lost; the timer resends it; it is accepted and confirmed
abbrev lost_list : List Event
lost_list =
    ad_request (17 ∷ []) 256 ∷ frame_lost ∷ lower_says AdAccept 256 ∷ ticks 256 ∷ ticks 256 ∷ frame_in ∷ word_made 4
    ∷ word_in 256 ∷ []

abbrev Lost : Type 0
Lost =
    Runs usual lost_list
    (sends frame_254
    ∷ N
    ∷ S (by E41 S1)
    ∷ S (no_event S1)
    ∷ S (aborting (down frame_254 (by E16 S1)))
    ∷ R (handing (17 ∷ []) farm.E1)
    ∷ N
    ∷ S (confirming 254 1 (by E2 S1))
    ∷ [])
    (ad_history (unit_254 ∷ []) (unit_254 ∷ []) (some 0 ∷ []) [] 0)

-- the first of two units is lost; a word asks for it; both are resent, accepted and confirmed
abbrev gap_list : List Event
gap_list =
    ad_request (17 ∷ []) 256 ∷ lower_says AdAccept 256 ∷ ad_request (34 ∷ 35 ∷ []) 256 ∷ lower_says AdAccept 256
    ∷ frame_lost ∷ frame_in ∷ word_made 4 ∷ word_in 256 ∷ lower_says AdAccept 256 ∷ frame_in ∷ frame_in ∷ word_made 4
    ∷ word_in 256 ∷ []

abbrev Gap : Type 0
Gap =
    Runs usual gap_list
    (sends frame_254
    ∷ S (by E41 S1)
    ∷ sends frame_255
    ∷ S (by E41 S1)
    ∷ N
    ∷ R (discarding farm.E3)
    ∷ N
    ∷ S (aborting (down frame_254 (by E10 S2)))
    ∷ S (down frame_255 (by E41 S2))
    ∷ R (handing (17 ∷ []) farm.E1)
    ∷ R (handing (34 ∷ 35 ∷ []) farm.E1)
    ∷ N
    ∷ S (confirming 254 2 (by E2 S1))
    ∷ [])
    (ad_history (unit_254 ∷ unit_255 ∷ []) (unit_254 ∷ unit_255 ∷ []) (some 0 ∷ some 1 ∷ []) [] 0)

-- no buffer is free: the receiver waits until one is released
abbrev full_list : List Event
full_list =
    ad_request (17 ∷ []) 256 ∷ lower_says AdAccept 256 ∷ ad_request (34 ∷ 35 ∷ []) 256 ∷ lower_says AdAccept 256
    ∷ frame_in ∷ frame_in ∷ word_made 4 ∷ word_in 256 ∷ release ∷ word_made 4 ∷ word_in 256 ∷ frame_in ∷ word_made 4 ∷ word_in 256
    ∷ []

abbrev Full : Type 0
Full =
    Runs one_buffer full_list
    (sends frame_254
    ∷ S (by E41 S1)
    ∷ sends frame_255
    ∷ S (by E41 S1)
    ∷ R (handing (17 ∷ []) farm.E1)
    ∷ R (discarding farm.E2)
    ∷ N
    ∷ S (confirming 254 1 (by E9 S3))
    ∷ R (discarding farm.E10)
    ∷ N
    ∷ S (aborting (down frame_255 (by E10 S2)))
    ∷ R (handing (34 ∷ 35 ∷ []) farm.E1)
    ∷ N
    ∷ S (confirming 255 1 (by E2 S1))
    ∷ [])
    (ad_history (unit_254 ∷ unit_255 ∷ []) (unit_254 ∷ unit_255 ∷ []) (some 0 ∷ some 1 ∷ []) [] 1)

-- BD units
abbrev expedited_list : List Event
expedited_list =
    bd_request (17 ∷ []) 256 ∷ bd_request (34 ∷ 35 ∷ []) 256 ∷ lower_says BdAccept 256 ∷ bd_request (51 ∷ []) 256
    ∷ frame_in ∷ frame_in ∷ word_made 4 ∷ []

abbrev Expedited : Type 0
Expedited =
    Runs usual expedited_list
    (S (down (32 ∷ 5 ∷ 36 ∷ 7 ∷ 0 ∷ 17 ∷ 98 ∷ 112 ∷ []) (by E21 S1))
    ∷ S (responding (RejectBdUnit ∷ []) (by E22 S1))
    ∷ S (responding (AcceptBdUnit ∷ []) (by E45 S1))
    ∷ S (down (32 ∷ 5 ∷ 36 ∷ 7 ∷ 0 ∷ 51 ∷ 102 ∷ 80 ∷ []) (by E21 S1))
    ∷ R (handing (17 ∷ []) farm.E6)
    ∷ R (handing (51 ∷ []) farm.E6)
    ∷ N
    ∷ [])
    (record {
      sent = [];
      accepted = [];
      confirmed = [];
      denied = [];
      released = 0;
      locked_out = false;
      sent_bd = (17 ∷ []) ∷ (51 ∷ []) ∷ [];
      accepted_bd = (17 ∷ []) ∷ (51 ∷ []) ∷ [];
    })

-- at a transmission limit of 1, one word confirms one unit and denies two
abbrev both_list : List Event
both_list =
    ad_request (17 ∷ []) 256 ∷ lower_says AdAccept 256 ∷ ad_request (34 ∷ 35 ∷ []) 256 ∷ lower_says AdAccept 256
    ∷ ad_request (51 ∷ []) 256 ∷ lower_says AdAccept 256 ∷ frame_in ∷ frame_lost ∷ frame_in ∷ word_made 4 ∷ word_in 256 ∷ []

abbrev Both : Type 0
Both =
    Runs limit_one both_list
    (sends frame_254
    ∷ S (by E41 S1)
    ∷ sends frame_255
    ∷ S (by E41 S1)
    ∷ sends frame_0
    ∷ S (by E41 S1)
    ∷ R (handing (17 ∷ []) farm.E1)
    ∷ N
    ∷ R (discarding farm.E3)
    ∷ N
    ∷ S (denying 255 2 (confirming 254 1 (alerting Limit (by E101 S6))))
    ∷ [])
    (ad_history (unit_254 ∷ unit_255 ∷ unit_0 ∷ []) (unit_254 ∷ []) (some 0 ∷ []) (some 1 ∷ some 2 ∷ []) 0)

-- Terminate, with a unit sent and one waiting
abbrev ended_list : List Event
ended_list =
    ad_request (17 ∷ []) 256 ∷ ad_request (34 ∷ 35 ∷ []) 256 ∷ terminate 0 256 ∷ ad_request (51 ∷ []) 256 ∷ []

abbrev Ended : Type 0
Ended =
    Runs usual ended_list
    (sends frame_254
    ∷ S (by E19 S1)
    ∷ S (denying 254 1 (alerting Term (responding (AcceptDirective ∷ RejectAdUnit ∷ ConfirmDirective ∷ []) (by E29 S6))))
    ∷ S (responding (RejectAdUnit ∷ []) (by E19 S6))
    ∷ [])
    (ad_history (unit_254 ∷ []) [] [] (some 0 ∷ []) 0)

-- words that acknowledge nothing new
abbrev early_list : List Event
early_list =
    ad_request (17 ∷ []) 256 ∷ lower_says AdAccept 256 ∷ word_made 4 ∷ word_in 256 ∷ frame_in ∷ word_made 4 ∷ word_made 4
    ∷ word_in 256 ∷ word_in 256 ∷ []

abbrev Early : Type 0
Early =
    Runs usual early_list
    (sends frame_254
    ∷ S (by E41 S1)
    ∷ N
    ∷ S (by E5 S1)
    ∷ R (handing (17 ∷ []) farm.E1)
    ∷ N
    ∷ N
    ∷ S (confirming 254 1 (by E2 S1))
    ∷ S (by E1 S1)
    ∷ [])
    (ad_history (unit_254 ∷ []) (unit_254 ∷ []) (some 0 ∷ []) [] 0)

-- the timer at the transmission limit
abbrev given_up_list : List Event
given_up_list =
    ad_request (17 ∷ []) 256 ∷ lower_says AdAccept 256 ∷ ticks 256 ∷ lower_says AdAccept 256 ∷ ticks 256 ∷ []

abbrev GivenUp : Type 0
GivenUp =
    Runs limit_two given_up_list
    (sends frame_254
    ∷ S (by E41 S1)
    ∷ S (aborting (down frame_254 (by E16 S1)))
    ∷ S (by E41 S1)
    ∷ S (denying 254 1 (alerting T1 (by E17 S6)))
    ∷ [])
    (ad_history (unit_254 ∷ []) [] [] (some 0 ∷ []) 0)

pub sessions : Whole × Lost × Gap × Full × Expedited × Both × Ended × Early × GivenUp
unfolding computing
sessions = ((refl, refl), (refl, refl), (refl, refl), (refl, refl), (refl, refl), (refl, refl), (refl, refl), (refl, refl), (refl, refl))
