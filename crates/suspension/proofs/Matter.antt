-- What the suspension law looks at of the work on an event, as one record, so that one computed equation says all of it; and the law's statements read
-- off such an equation.
use mathlib.Core.Path.{◌≡◌, refl, sym, ap, subst}
use mathlib.Core.Logic.{◌⊎◌, inl}
use mathlib.Core.Bool.{Bool, false}
use mathlib.Core.List.{List, []}
use mathlib.Core.Option.{Option, none, some}
use Prim.Native.Nat.{ℕ}
use Rattle.fop.specs.Units.{Fdu, Frame, BD, Own, written}
use Rattle.fop.specs.declared.State.{State}
use Rattle.fop.specs.declared.Alert.{Alert}
use Rattle.std.specs.Prelude as code
use Rattle.std.specs.Prelude.{None}
use Rattle.fop.specs.Variables.{Numbers, Queues, Fop, Work}
use Rattle.fop.specs.Events.{SenderEvent, request_bd}
use Rattle.fop.specs.Answers.{octets_down, run_of, answered}
use Rattle.suspension.specs.Suspension.{takes, NoAdUnit, UnitsKept, Kept}

pub record Matter : Type 0 where
  pub numbers : Numbers
  pub queues : Queues
  pub count : ℕ
  pub state : State
  pub suspend_state : ℕ
  pub frames : List Frame
  pub confirmed : List Fdu
  pub denied : List Fdu
  pub accepted : Bool
  pub alert : code.Option Alert
  pub abort : Bool

abbrev pub matter : Work → Matter
matter w = record {
  numbers = w.fop.numbers;
  queues = w.fop.queues;
  count = w.fop.clock.transmission_count;
  state = w.fop.state;
  suspend_state = w.fop.suspend_state;
  frames = w.frames;
  confirmed = w.confirmed;
  denied = w.denied;
  accepted = takes w.responses;
  alert = w.notices.alert;
  abort = w.notices.abort;
}

-- the units of f, with a state and Suspend_State, frames handed down, no unit accepted, confirmed or denied, no alert and no abort
abbrev pub still : State → ℕ → List Frame → Fop → Matter
still s n frames f = record {
  numbers = f.numbers;
  queues = f.queues;
  count = f.clock.transmission_count;
  state = s;
  suspend_state = n;
  frames = frames;
  confirmed = [];
  denied = [];
  accepted = false;
  alert = None;
  abort = false;
}

pub units_of : (s : State) (n : ℕ) (frames : List Frame) (f : Fop) (w : Work) → matter w ≡ still s n frames f → UnitsKept f w.fop
units_of s n frames f w p = record { numbers = ap (λ m. m.numbers) p; queues = ap (λ m. m.queues) p; count = ap (λ m. m.count) p }

pub kept_of : (frames : List Frame) (f : Fop) (w : Work) → matter w ≡ still f.state f.suspend_state frames f → Kept f w.fop
kept_of frames f w p = record {
  units = units_of f.state f.suspend_state frames f w p;
  state = ap (λ m. m.state) p;
  suspend_state = ap (λ m. m.suspend_state) p;
}

module _ (own : Own) (e : SenderEvent) (s : State) (n : ℕ) (f : Fop) (w : Work) where
  -- no frame, or that of a BD unit offered
  abbrev Down : Option (List ℕ) → Type 0
  Down d = (d ≡ none) ⊎ ((o : List ℕ) × (e ≡ request_bd o) × (d ≡ some (written own (BD o))))

  pub no_ad_unit : (frames : List Frame) → Down (octets_down own frames) → matter w ≡ still s n frames f → NoAdUnit own e (answered own w)
  no_ad_unit frames d p = record {
    down = subst Down (sym (ap (λ m. octets_down own m.frames) p)) d;
    confirmed = ap (λ m. run_of m.confirmed) p;
    denied = ap (λ m. run_of m.denied) p;
    accepted = ap (λ m. m.accepted) p;
    alert = ap (λ m. m.alert) p;
    abort = ap (λ m. m.abort) p;
  }

  pub no_frame : matter w ≡ still s n [] f → NoAdUnit own e (answered own w)
  no_frame p = no_ad_unit [] (inl refl) p
