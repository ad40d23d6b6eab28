-- Crate receiver's receiver at a written frame and at a release, seen as FARM-1's variables and a count of buffers taken.
use mathlib.Core.Path.{◌≡◌, refl, ap}
use mathlib.Core.Bool.{Bool, true}
use mathlib.Core.Option.{some}
use mathlib.Core.List.{List, [], ◌∷◌}
use Prim.Native.Nat.{ℕ, ◌+◌, ◌-◌, ◌/◌, ◌≤◌, ◌<◌}
use native.Mathlib.Omega.{arith}
use lib.Dec.{ltb}
use lib.ListN.{length, length-append}
use Rattle.base.specs.Choice.{must}
use Rattle.fop.specs.Units.{Fdu, Frame, AD, BD, Unlock, SetVR, Refused, legal, written}
use Rattle.farm.specs.Table.{table, accepts, unit_of}
use Rattle.receiver.specs.Channel.{event_of, takes}
use Rattle.receiver.specs.Channel as channel
use Rattle.receiver.specs.Receiver.{answered, arrived, by_reading, receive_of, part_for, unit_part, release_of}
use Rattle.farm.proofs.Units.{no_unit_lem}
use Rattle.farm.specs.declared.State.{State as FarmState}
use Rattle.farm.specs.declared.State.TheVariants.{Open, Wait, Lockout}
use Rattle.farm.specs.declared.Event.{Event as FarmEvent}
use Rattle.farm.specs.declared.Event.TheVariants as farm
use Rattle.farm.specs.declared.Variables.{Variables}
use Rattle.receiver.specs.declared.Receiver.{Receiver}
use Rattle.std.specs.Prelude as code
use Rattle.std.specs.Prelude.{Ok, Err}
use Rattle.base.specs.declared.Refusal.TheVariants.{Release}
use Rattle.session.specs.Receiver.{ReceiverAnswer, handed_out}
use Rattle.session.specs.Ends.{Settings, Within}
use Rattle.session.specs.Session.{add_accepted, add_accepted_bd}
use Rattle.session.proofs.Core.{Session, taken, taken_bd, frame_event, star, is_handed, used, free}
use Rattle.session.proofs.Chan.{Fly}
use Rattle.session.proofs.Octets.{ad_reading, ad_part, bd_reading, bd_part}
use Rattle.session.proofs.Inv.{Inv}
use Rattle.session.proofs.Receiver.{ad_cases}

-- a frame that is written so that it reads back
abbrev pub Readable : Frame → Type 0
Readable (AD u) = (legal u.octets ≡ true) × (u.ns < 256)
Readable (BD o) = legal o ≡ true
Readable Unlock = ⊥
Readable (SetVR v) = ⊥
Readable (Refused r) = ⊥

abbrev pub data_part : Frame → List ℕ
data_part (AD u) = u.octets
data_part (BD o) = o
data_part Unlock = []
data_part (SetVR v) = []
data_part (Refused r) = []

-- the receiver of these settings, with k buffers taken and the variables v
abbrev pub receiver_of : Settings → ℕ → Variables → Receiver
receiver_of set k v = record {
  farm = record {
    spacecraft = set.own.spacecraft;
    buffers = set.buffers;
    channel = record { number = set.own.channel; window = set.w; held = k; variables = v };
  };
}

module _ (set : Settings) (vw : Within set) (k : ℕ) (v : Variables) where
  pub received_is : (x : Frame) → Readable x
      → receive_of (receiver_of set k v) (written set.own x)
      ≡ answered code.None (frame_event set.w (ltb k set.buffers) x v) (star x) (receiver_of set k v)
  unfolding receive_of by_reading arrived answered channel.arrived event_of frame_event
  received_is (AD u) h = ap (by_reading (receiver_of set k v)) (ad_reading set.own vw.spacecraft vw.channel u h.0 h.1)
  received_is (BD o) h = ap (by_reading (receiver_of set k v)) (bd_reading set.own vw.spacecraft vw.channel o h)
  received_is Unlock h = absurd h
  received_is (SetVR x) h = absurd h
  received_is (Refused r) h = absurd h

  pub part_is : (x : Frame) → Readable x
      → unit_part (receiver_of set k v) (written set.own x)
      ≡ part_for (unit_of (frame_event set.w (ltb k set.buffers) x v) v.state) (data_part x)
  unfolding unit_part answered channel.answered
  part_is (AD u) h = rw (received_is (AD u) h, ad_part set.own vw.spacecraft vw.channel u h.0 h.1)
  part_is (BD o) h = rw (received_is (BD o) h, bd_part set.own vw.spacecraft vw.channel o h)
  part_is Unlock h = absurd h
  part_is (SetVR x) h = absurd h
  part_is (Refused r) h = absurd h

  -- a release, where a buffer is taken and where none is
  pub released_is : release_of (receiver_of set k v)
      ≡ must (ltb 0 k) (Err Release) (Ok (answered code.None farm.E10 0 (receiver_of set (k - 1) v)))
  unfolding release_of
  released_is = refl

-- the receiver's answer to a frame of the session that is the event e in the state s
abbrev pub answer_by : FarmEvent → FarmState → Frame → ReceiverAnswer
answer_by e s x = record { refusal = 0; event = some e; unit = handed_out (unit_of e s) (part_for (unit_of e s) (data_part x)) }

-- the units accepted
e1_adds : (l : List Fdu) (u : Fdu) (s : FarmState)
    → add_accepted l (AD u) (answer_by farm.E1 s (AD u)) ≡ taken (AD u) (is_handed (unit_of farm.E1 s)) l
unfolding table accepts
e1_adds l u Open = refl
e1_adds l u Wait = refl
e1_adds l u Lockout = refl

e6_adds : (l : List (List ℕ)) (o : List ℕ) (s : FarmState)
    → add_accepted_bd l (BD o) (answer_by farm.E6 s (BD o)) ≡ taken_bd (BD o) (is_handed (unit_of farm.E6 s)) l
unfolding table accepts
e6_adds l o Open = refl
e6_adds l o Wait = refl
e6_adds l o Lockout = refl

module _ (set : Settings) (vw : Within set) (κ : Session) (I : Inv set κ) (room : Bool) where
  pub accepted_is : (x : Frame) (fs : List Frame) → Fly (set.w / 2) κ.sent (length κ.accepted) (length κ.accepted) (x ∷ fs)
      → add_accepted κ.accepted x (answer_by (frame_event set.w room x κ.farm) κ.farm.state x)
      ≡ taken x (is_handed (unit_of (frame_event set.w room x κ.farm) κ.farm.state)) κ.accepted
  unfolding frame_event
  accepted_is (AD u) fs h =
      ad_cases set vw κ room u fs I h
      (λ e. add_accepted κ.accepted (AD u) (answer_by e κ.farm.state (AD u)) ≡ taken (AD u) (is_handed (unit_of e κ.farm.state)) κ.accepted)
      (λ i p. e1_adds κ.accepted u κ.farm.state) (λ i p. rw (no_unit_lem farm.E2 κ.farm.state refl refl))
      (λ i. rw (no_unit_lem farm.E3 κ.farm.state refl refl)) (λ i. rw (no_unit_lem farm.E4 κ.farm.state refl refl))
  accepted_is (BD o) fs h = refl
  accepted_is Unlock fs h = refl
  accepted_is (SetVR v) fs h = refl
  accepted_is (Refused r) fs h = refl

  pub accepted_bd_is : (x : Frame)
      → add_accepted_bd κ.accepted_bd x (answer_by (frame_event set.w room x κ.farm) κ.farm.state x)
      ≡ taken_bd x (is_handed (unit_of (frame_event set.w room x κ.farm) κ.farm.state)) κ.accepted_bd
  unfolding frame_event
  accepted_bd_is (AD u) = refl
  accepted_bd_is (BD o) = e6_adds κ.accepted_bd o κ.farm.state
  accepted_bd_is Unlock = refl
  accepted_bd_is (SetVR v) = refl
  accepted_bd_is (Refused r) = refl

-- the count of buffers taken goes with the units accepted
e1_takes : (a : List Fdu) (u : Fdu) (R : ℕ) → R ≤ length a → (s : FarmState)
    → length a - R + takes (unit_of farm.E1 s) ≡ length (taken (AD u) (is_handed (unit_of farm.E1 s)) a) - R
unfolding table accepts
e1_takes a u R b Open = omega (arith, length-append a (u ∷ []))
e1_takes a u R b Wait = omega arith
e1_takes a u R b Lockout = omega arith

e6_takes : (n : ℕ) (s : FarmState) → n + takes (unit_of farm.E6 s) ≡ n
unfolding table accepts
e6_takes n Open = omega arith
e6_takes n Wait = omega arith
e6_takes n Lockout = omega arith

pub used_is : (set : Settings) → Within set → (κ : Session) → Inv set κ → κ.released ≤ length κ.accepted → (x : Frame) (fs : List Frame)
    → Fly (set.w / 2) κ.sent (length κ.accepted) (length κ.accepted) (x ∷ fs)
    → used κ + takes (unit_of (frame_event set.w (free set κ) x κ.farm) κ.farm.state)
    ≡ length (taken x (is_handed (unit_of (frame_event set.w (free set κ) x κ.farm) κ.farm.state)) κ.accepted) - κ.released
unfolding frame_event
used_is set vw κ I b (AD u) fs h =
    ad_cases set vw κ (free set κ) u fs I h
    (λ e. used κ + takes (unit_of e κ.farm.state) ≡ length (taken (AD u) (is_handed (unit_of e κ.farm.state)) κ.accepted) - κ.released)
    (λ i p. e1_takes κ.accepted u κ.released b κ.farm.state) (λ i p. rw (no_unit_lem farm.E2 κ.farm.state refl refl) (omega arith))
    (λ i. rw (no_unit_lem farm.E3 κ.farm.state refl refl) (omega arith)) (λ i. rw (no_unit_lem farm.E4 κ.farm.state refl refl) (omega arith))
used_is set vw κ I b (BD o) fs h = e6_takes (used κ) κ.farm.state
used_is set vw κ I b Unlock fs h = absurd h
used_is set vw κ I b (SetVR v) fs h = absurd h
used_is set vw κ I b (Refused r) fs h = absurd h
