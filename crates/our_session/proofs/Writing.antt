-- The frame handed down, as our sender writes it: the octets that the table machine hands down where they fit into the output, else 11.
use Rattle.std.specs.Prelude.{None, Some}
use Rattle.std.specs.Prelude as std
use Prim.Native.Nat.{ℕ, ◌+◌, ◌-◌, ◌*◌, ◌≤◌}
use mathlib.Core.Path.{◌≡◌, refl, sym, ap, ◌∙◌}
use mathlib.Core.Bool.{Bool, true, false}
use mathlib.Core.List.{List, []}
use mathlib.Core.Option.{Option, none, some}
use native.Mathlib.Omega.{arith}
use borrow.Author.Tests.{leb-true, leb-false, le-leb}
use lib.Dec.{leb}
use lib.ListN.{length, drop, get_or, length-drop}
use lib.Seq.{length-take-le}
use Rattle.base.specs.Choice.{pick}
use Rattle.base.specs.Limits.{largest_unit, largest_spacecraft, largest_channel}
use Rattle.base.specs.Outcome.{Outcome, Outcome.done, Outcome.refused}
use Rattle.frame.specs.Frame.{bypass_of, control_of, number_of, data_of, frame_of, writing}
use Rattle.frame.specs.declared.Kind.{Kind}
use Rattle.frame.specs.declared.Kind.TheVariants as kind
use Rattle.frame.proofs.Lengths.{length_frame}
use Rattle.frame_writer.proofs.Emitted.{writing_room, writing_done}
use Rattle.fop.specs.Units.{Own, written}
use Rattle.fop.specs.Answers.{octets_down, room}
use Rattle.sender_values.specs.declared.Settings.{Settings}
use Rattle.sender_values.specs.declared.Handed.{Handed}
use Rattle.sender_values.specs.declared.Handed.TheVariants as handed
use Rattle.store.specs.Places.{place_offset, unit_at}
use Rattle.sender_view.specs.View.{frames_of}
use Rattle.sender_frames.specs.Frames.{handed_writing}

-- the octets of a frame, none where there is none
abbrev pub octets_in : Option (List ℕ) → List ℕ
octets_in none = []
octets_in (some x) = x

-- what writing a frame into `lent` octets comes to
abbrev pub fitting : Option (List ℕ) → ℕ → Outcome (Unit {0})
fitting x lent = pick (leb (room x) lent) (done (octets_in x) tt) (refused 11 0)

-- a data field within the limits
abbrev pub Fits : List ℕ → Type 0
Fits u = (1 ≤ length u) × (length u ≤ largest_unit)

module _ (spacecraft channel : ℕ) (s : spacecraft ≤ largest_spacecraft) (c : channel ≤ largest_channel) where
  pub frame_fits : (k : Kind) (u : List ℕ) (lent : ℕ) → Fits (data_of k u) → writing spacecraft channel k u lent ≡ fitting (some (frame_of spacecraft channel k u)) lent
  frame_fits k u lent f = by (leb (length (frame_of spacecraft channel k u)) lent) refl where
    long : length (frame_of spacecraft channel k u) ≡ length (data_of k u) + 7
    long = length_frame (bypass_of k) (control_of k) (number_of k) spacecraft channel (data_of k u)

    by : (b : Bool) → leb (length (frame_of spacecraft channel k u)) lent ≡ b
        → writing spacecraft channel k u lent ≡ pick b (done (frame_of spacecraft channel k u) tt) (refused 11 0)
    by true e =
        writing_done (bypass_of k) (control_of k) (number_of k) spacecraft channel (data_of k u) lent f.0 f.1 s c
        (omega (arith, leb-true (length (frame_of spacecraft channel k u)) lent e, long))
    by false e =
        writing_room (bypass_of k) (control_of k) (number_of k) spacecraft channel (data_of k u) lent f.0 f.1 s c
        (omega (arith, leb-false (length (frame_of spacecraft channel k u)) lent e, long))

-- a unit of the store, at a place that holds one
pub unit_fits : (lengths store : List ℕ) (i : ℕ) → 1 ≤ get_or lengths i 0 → get_or lengths i 0 ≤ largest_unit → place_offset (i + 1) ≤ length store
    → Fits (unit_at lengths i store)
unit_fits lengths store i a b r =
    let l : length (drop (largest_unit * i) store) ≡ length store - largest_unit * i = length-drop (largest_unit * i) store in
    let t : length (unit_at lengths i store) ≡ get_or lengths i 0 = length-take-le (get_or lengths i 0) (drop (largest_unit * i) store) (omega (arith, l, b, r)) in
    (omega (arith, t, a), omega (arith, t, b))

-- the frame handed down: u is its unit, o that of a BD request
module _ (own : Own) (g : Settings) (es : g.spacecraft ≡ own.spacecraft) (ec : g.channel ≡ own.channel)
    (ms : own.spacecraft ≤ largest_spacecraft) (mc : own.channel ≤ largest_channel) (lengths store o u : List ℕ) (lent : ℕ) where
  at_address : (k : Kind) (v : List ℕ) → Fits (data_of k v) → writing g.spacecraft g.channel k v lent ≡ fitting (some (frame_of own.spacecraft own.channel k v)) lent
  at_address k v f =
      ap (λ (x : ℕ). writing x g.channel k v lent) es ∙ ap (λ (x : ℕ). writing own.spacecraft x k v lent) ec
      ∙ frame_fits own.spacecraft own.channel ms mc k v lent f

  -- which unit it is
  abbrev pub Carries : std.Option Handed → Type 0
  Carries None = Unit {0}
  Carries (Some (handed.Ad n i)) = (u ≡ unit_at lengths i store) × Fits u
  Carries (Some handed.Bd) = (u ≡ o) × Fits u
  Carries (Some handed.Unlock) = Unit {0}
  Carries (Some (handed.SetVr n)) = Unit {0}

  pub handed_fits : (h : std.Option Handed) → Carries h → handed_writing g h u lent ≡ fitting (octets_down own (frames_of h lengths store o)) lent
  unfolding handed_writing written
  handed_fits None c = ap (λ (b : Bool). pick {A = Outcome (Unit {0})} b (done [] tt) (refused 11 0)) (sym (le-leb 0 lent (omega arith)))
  handed_fits (Some (handed.Ad n i)) c =
      at_address (kind.Ad n) u c.1 ∙ ap (λ (v : List ℕ). fitting (some (frame_of own.spacecraft own.channel (kind.Ad n) v)) lent) c.0
  handed_fits (Some handed.Bd) c = at_address kind.Bd u c.1 ∙ ap (λ (v : List ℕ). fitting (some (frame_of own.spacecraft own.channel kind.Bd v)) lent) c.0
  handed_fits (Some handed.Unlock) c = at_address kind.Unlock [] (omega arith, omega arith)
  handed_fits (Some (handed.SetVr n)) c = at_address (kind.SetVr n) [] (omega arith, omega arith)
