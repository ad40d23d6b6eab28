-- The octets of the unit accepted, counted by the frame's length field: they are those of the part of the frame that is handed out (`unit_counted`).
use mathlib.Core.Path.{◌≡◌, refl, sym, ap, ◌∙◌}
use mathlib.Core.Bool.{Bool, true, false}
use mathlib.Core.List.{List}
use Prim.Native.Nat.{ℕ, ◌-◌, ◌≤◌, ◌<◌}
use native.Mathlib.Omega.{arith}
use borrow.Author.Tests.{le-leb, lt-leb, leb-true, leb-false}
use lib.Dec.{leb}
use lib.ListN.{length}
use Rattle.base.proofs.Tests.{both_false}
use Rattle.frame.specs.Frame.{overhead, refusal_of, total_of}
use Rattle.frame.specs.Answers.{part_of}
use Rattle.frame.proofs.Accepted.{accepted, part_frame}
use Rattle.frame.proofs.Octets.{length_data}
use Rattle.receiver.specs.Receiver.{part_for}
use Rattle.farm.specs.declared.AcceptedUnit.{AcceptedUnit}
use Rattle.farm.specs.declared.AcceptedUnit.TheVariants.{Ad, Bd}
use Rattle.std.specs.Prelude.{Option, Some, None}
use Rattle.pondreszi_receiver.specs.Receivers.{data_count, unit_count}

-- the octets of the data field, by what the frame is
module _ (frame : List ℕ) where
  pub whole_count : 8 ≤ total_of frame → total_of frame ≤ length frame → data_count frame ≡ total_of frame - overhead
  whole_count h k = rw (le-leb 8 (total_of frame) h, le-leb (total_of frame) (length frame) k)

  pub low_count : total_of frame < 8 → data_count frame ≡ 0
  low_count h = rw (lt-leb 8 (total_of frame) h)

  pub cut_count : length frame < total_of frame → data_count frame ≡ 0
  cut_count h = rw (lt-leb (total_of frame) (length frame) h, both_false (leb 8 (total_of frame)))

  pub short_count : length frame < 8 → data_count frame ≡ 0
  short_count h = go (leb 8 (total_of frame)) refl
    where
      go : (b : Bool) → leb 8 (total_of frame) ≡ b → data_count frame ≡ 0
      go true e = cut_count (omega (arith, leb-true 8 (total_of frame) e))
      go false e = low_count (leb-false 8 (total_of frame) e)

-- the octets of a unit, by what the unit is
pub count_of : (frame : List ℕ) {n : ℕ} {u v : Option AcceptedUnit} → u ≡ v → n ≡ unit_count v frame → n ≡ unit_count u frame
count_of frame p h = h ∙ ap (λ (x : Option AcceptedUnit). unit_count x frame) (sym p)

-- the unit accepted is the data field of a frame that is not refused
module _ (frame : List ℕ) (spacecraft channel : ℕ) where
  part_length : refusal_of frame spacecraft channel ≡ 0 → data_count frame ≡ length (part_of frame spacecraft channel)
  part_length e =
      let y = accepted frame spacecraft channel e in
      whole_count frame y.low y.whole ∙ sym (length_data frame (total_of frame) y.low y.whole) ∙ ap length (sym (part_frame frame spacecraft channel e))

  pub unit_counted : (u : Option AcceptedUnit) → ((u ≡ None → ⊥) → refusal_of frame spacecraft channel ≡ 0) → unit_count u frame ≡ length (part_for u (part_of frame spacecraft channel))
  unit_counted None h = refl
  unit_counted (Some Ad) h =
      part_length (h (λ e. let z : ◌≡◌ {A = ℕ} 0 1 = cc in
      omega arith))
  unit_counted (Some Bd) h =
      part_length (h (λ e. let z : ◌≡◌ {A = ℕ} 0 1 = cc in
      omega arith))
