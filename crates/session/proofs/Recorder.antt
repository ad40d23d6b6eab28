-- What the claims on denied units suppose (specs/Beyond, `Split`), computed of the table machines. A sender in Initial with three denied units, of
-- which the two with numbers before V(R) are on board and the third is not (`denied_split`), so the premises of `on_board` are met on both sides. And
-- why the recorder is left out of `no_others`: with no AD frame under way it still brings a denied unit on board (`recorder_brings`).
use mathlib.Core.Path.{◌≡◌, refl, sym, ap, ◌∙◌}
use mathlib.Core.Bool.{true, false}
use mathlib.Core.List.{List, [], ◌∷◌}
use mathlib.Core.Option.{some}
use Prim.Native.Nat.{ℕ}
use native.Mathlib.Omega.{arith}
use lib.Dec.{leb→le}
use lib.ListN.{length, get_or}
use Rattle.fop.specs.Units.{Fdu}
use Rattle.fop.specs.declared.State.TheVariants.{S6}
use Rattle.fop.specs.declared.Lower.TheVariants.{AdAccept}
use Rattle.session.specs.Ends.{Settings, tables}
use Rattle.session.specs.Session.{Linked, History, ad_request, lower_says, terminate, frame_in, frame_lost, begins, no_unit}
use Rattle.session.specs.Claims.{member}
use Rattle.session.specs.Channels.{LinkEvent, demanded, frame_again, negative_window, link_step, link_run}
use Rattle.session.specs.Beyond.{no_ad, OnBoard, Before}
use Rattle.session.proofs.Trace.{computing, settings}

abbrev set : Settings
set = settings 3 2 9 3

-- with a recorder that keeps as many units as it may
abbrev after : List LinkEvent → Linked (tables set) → Linked (tables set)
after es σ = link_run set (negative_window set) (tables set) es σ

-- the sender is in Initial, not suspended, and no AD frame is under way
pub record Terminated (σ : Linked (tables set)) : Type 0 where
  pub initial : σ.sender.state ≡ S6
  pub unsuspended : σ.sender.suspend_state ≡ 0
  pub none : no_ad set.own σ.frames ≡ true

-- three units are sent, with the numbers 254, 255 and 0; two arrive, the third is lost, and Terminate denies all
abbrev split_list : List LinkEvent
split_list =
    demanded (ad_request (17 ∷ []) 256) ∷ demanded (lower_says AdAccept 256) ∷ demanded (ad_request (34 ∷ []) 256) ∷ demanded (lower_says AdAccept 256)
    ∷ demanded (ad_request (51 ∷ []) 256) ∷ demanded frame_in ∷ demanded frame_in ∷ demanded frame_lost ∷ demanded (terminate 0 256) ∷ []

abbrev split : Linked (tables set)
split = after split_list (begins (tables set))

-- where V(R) is vr: the unit at place i is denied, its number is before V(R), and it is on board; or it is denied, and neither
abbrev DeniedOnBoard : ℕ → History → ℕ → Type 0
DeniedOnBoard vr h i = (member i h.denied ≡ true) × Before vr (get_or h.sent i no_unit).ns × OnBoard h i

abbrev DeniedOnly : ℕ → History → ℕ → Type 0
DeniedOnly vr h i = (member i h.denied ≡ true) × (Before vr (get_or h.sent i no_unit).ns → ⊥) × (OnBoard h i → ⊥)

abbrev Apart : ℕ → History → Type 0
Apart vr h = DeniedOnBoard vr h 0 × DeniedOnBoard vr h 1 × DeniedOnly vr h 2

-- the histories then
abbrev split_history : History
split_history =
    let first : Fdu = record { ns = 254; octets = 17 ∷ [] } in
    let second : Fdu = record { ns = 255; octets = 34 ∷ [] } in
    let third : Fdu = record { ns = 0; octets = 51 ∷ [] } in
    record {
      sent = first ∷ second ∷ third ∷ [];
      accepted = first ∷ second ∷ [];
      confirmed = [];
      denied = some 0 ∷ some 1 ∷ some 2 ∷ [];
      released = 0;
      locked_out = false;
      sent_bd = [];
      accepted_bd = [];
    }

apart : Apart 0 split_history
apart = (
  (refl, (leb→le 1 2 tt, leb→le 2 127 tt), (leb→le 1 2 tt, refl)),
  (refl, (leb→le 1 1 tt, leb→le 1 127 tt), (leb→le 2 2 tt, refl)),
  (refl, λ h. omega (arith, h.0), λ h. omega (arith, h.0)),
)

split_is : Terminated split × (split.receiver.farm.channel.variables.vr ≡ 0) × (split.history ≡ split_history)
unfolding computing link_step link_run
split_is = (record { initial = refl; unsuspended = refl; none = refl }, refl, refl)

pub denied_split : Terminated split × Apart split.receiver.farm.channel.variables.vr split.history
denied_split = (split_is.0, rw (split_is.1, split_is.2) apart)

-- a unit is sent, denied by Terminate, and its frame is lost
abbrev lost : Linked (tables set)
lost = after (demanded (ad_request (17 ∷ []) 256) ∷ demanded (terminate 0 256) ∷ demanded frame_lost ∷ []) (begins (tables set))

-- the recorder repeats it, and it arrives
abbrev repeated : Linked (tables set)
repeated = after (frame_again 0 ∷ demanded frame_in ∷ []) lost

pub recorder_brings : Terminated lost × (lost.history.denied ≡ some 0 ∷ []) × (lost.history.accepted ≡ [])
    × (repeated.history.accepted ≡ record { ns = 254; octets = 17 ∷ [] } ∷ [])
unfolding computing link_step link_run
recorder_brings = (record { initial = refl; unsuspended = refl; none = refl }, refl, refl, refl)

-- so `no_others` over every list of events is false
pub recorder_left_out : ((es : List LinkEvent) → (after es lost).history.accepted ≡ lost.history.accepted) → ⊥
recorder_left_out h =
    omega (arith, ap length (sym recorder_brings.3 ∙ h (frame_again 0 ∷ demanded frame_in ∷ []) ∙ recorder_brings.2))
