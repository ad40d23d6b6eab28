-- A computed session with a suspension and its Resume, and why demand 3 supposes that no lower-layer reject comes while suspended: by a witness
-- (`refuted_rejected`), after BD_Reject and Resume an active sender with nothing outstanding does not send.
use mathlib.Core.Path.{◌≡◌, refl, ap}
use mathlib.Core.Bool.{true, false}
use mathlib.Core.List.{List, [], ◌∷◌}
use mathlib.Core.Option.{some}
use native.Mathlib.Omega.{arith}
use lib.Dec.{leb→le}
use lib.ListN.{length}
use Rattle.fop.specs.Units.{Fdu}
use Rattle.fop.specs.declared.State.TheVariants.{S1, S6}
use Rattle.fop.specs.declared.Lower.TheVariants.{AdAccept, BdReject}
use Rattle.fop.specs.declared.Response.TheVariants.{AcceptAdUnit, RejectAdUnit, AcceptDirective, ConfirmDirective}
use Rattle.fop.specs.declared.Event.TheVariants.{E2, E18, E19, E20, E29, E31, E41}
use Rattle.fop.specs.Effective.{effective, is_suspended}
use Rattle.farm.specs.declared.Event.TheVariants as farm
use Rattle.session.specs.Ends.{Settings, tables}
use Rattle.session.specs.Session.{Event, begins, ad_request, ticks, lower_says, terminate, resume, word_in, word_made, frame_in}
use Rattle.session.specs.Claims.{Claims}
use Rattle.session.specs.Suspension.{unrejected}
use Rattle.session.proofs.Trace.{computing, after, trace, S, R, N, by, down, responding, confirming, suspending, handing}

-- Timeout_Type 1, K 2, a timer that expires at the first tick, and a transmission limit of 1
abbrev set : Settings
set = record {
  n = 254;
  k = 2;
  w = 10;
  buffers = 2;
  t1 = 1;
  limit = 1;
  timeout_type = 1;
  own = record { spacecraft = 5; channel = 9 };
  count = 1;
  counter = 0;
}

-- a unit is sent and one waits; the timer suspends; while suspended a request is rejected, the frame arrives, a word is ignored, Terminate
-- changes nothing
abbrev suspended : List Event
suspended =
    ad_request (17 ∷ []) 256 ∷ ad_request (34 ∷ 35 ∷ []) 256 ∷ ticks 256 ∷ ad_request (51 ∷ []) 256 ∷ frame_in ∷ word_made 4 ∷ word_in 256 ∷ terminate 0 256 ∷ []

-- Resume; the lower layer is ready and the unit that waits is sent; a word confirms both
abbrev resumed : List Event
resumed =
    ad_request (17 ∷ []) 256 ∷ ad_request (34 ∷ 35 ∷ []) 256 ∷ ticks 256 ∷ ad_request (51 ∷ []) 256 ∷ frame_in ∷ word_made 4 ∷ word_in 256 ∷ terminate 0 256
    ∷ resume 9 256 ∷ lower_says AdAccept 256 ∷ frame_in ∷ word_made 4 ∷ word_in 256 ∷ []

abbrev units : List Fdu
units = record { ns = 254; octets = 17 ∷ [] } ∷ record { ns = 255; octets = 34 ∷ 35 ∷ [] } ∷ []

pub record Whole : Type 0 where
  pub unrejected : unrejected set resumed (begins (tables set)) ≡ true
  -- suspended, in Initial, from S1
  pub suspends : is_suspended (after set (tables set) suspended).sender ≡ true
  pub initial : (after set (tables set) suspended).sender.state ≡ S6
  pub left : effective (after set (tables set) suspended).sender ≡ S1
  pub waiting : (after set (tables set) suspended).sender.queues.wait_queue ≡ some (34 ∷ 35 ∷ [])
  -- every answer
  pub answers : trace set resumed (begins (tables set))
      ≡ S (responding (AcceptAdUnit ∷ []) (down (0 ∷ 5 ∷ 36 ∷ 7 ∷ 254 ∷ 17 ∷ 103 ∷ 182 ∷ []) (by E19 S1)))
      ∷ S (by E19 S1)
      ∷ S (suspending true (by E18 S6))
      ∷ S (responding (RejectAdUnit ∷ []) (by E20 S6))
      ∷ R (handing (17 ∷ []) farm.E1)
      ∷ N
      ∷ S (by E2 S6)
      ∷ S (responding (AcceptDirective ∷ ConfirmDirective ∷ []) (by E29 S6))
      ∷ S (responding (AcceptDirective ∷ ConfirmDirective ∷ []) (by E31 S1))
      ∷ S (responding (AcceptAdUnit ∷ []) (down (0 ∷ 5 ∷ 36 ∷ 8 ∷ 255 ∷ 34 ∷ 35 ∷ 13 ∷ 88 ∷ []) (by E41 S1)))
      ∷ R (handing (34 ∷ 35 ∷ []) farm.E1)
      ∷ N
      ∷ S (confirming 254 2 (by E2 S1))
      ∷ []
  pub sent : (after set (tables set) resumed).history.sent ≡ units
  pub accepted : (after set (tables set) resumed).history.accepted ≡ units
  pub confirmed : (after set (tables set) resumed).history.confirmed ≡ some 0 ∷ some 1 ∷ []
  pub denied : (after set (tables set) resumed).history.denied ≡ []

pub whole : Whole
unfolding computing unrejected
whole = record {
  unrejected = refl;
  suspends = refl;
  initial = refl;
  left = refl;
  waiting = refl;
  answers = refl;
  sent = refl;
  accepted = refl;
  confirmed = refl;
  denied = refl;
}

-- two units are sent, the timer suspends, BD_Reject empties the queues and leaves Suspend_State, Resume gives S1
abbrev rejected : List Event
rejected =
    ad_request (17 ∷ []) 256 ∷ ad_request (34 ∷ 35 ∷ []) 256 ∷ lower_says AdAccept 256 ∷ lower_says AdAccept 256 ∷ ticks 256 ∷ lower_says BdReject 256
    ∷ resume 0 256 ∷ []

pub reject_comes : unrejected set rejected (begins (tables set)) ≡ false
unfolding computing unrejected
reject_comes = refl

-- nothing is outstanding, but V(S) - NN(R) is K: the window is full, and the next unit offered is not sent
pub refuted_rejected : Claims set (tables set) (after set (tables set) rejected) (after set (tables set) rejected) → ⊥
unfolding computing
refuted_rejected c = omega (arith, ap length (c.offered (51 ∷ []) 256 refl (leb→le 0 256 tt) refl refl refl refl (leb→le 1 2 tt)).counted)
