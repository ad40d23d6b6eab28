-- Reading back what was written, with fill or without: the fields (`frame_back`) and the data (`data_back`) come back to the frame's own
-- address, and every other address is refused with 7 (`other_address`). An own address beyond the limits matches nothing
-- (`own_beyond`). And the header's eight fields stand one behind the other, from bit 0 to bit 39 (`layout`).
use mathlib.Core.Path.{◌≡◌, refl, sym, ap, ◌∙◌}
use mathlib.Core.Bool.{Bool, true, false}
use mathlib.Core.List.{List, ◌++◌}
use Prim.Native.Nat.{ℕ, ◌+◌, ◌-◌, ◌<◌, ◌≤◌}
use native.Mathlib.Omega.{arith}
use borrow.Author.Tests.{eq-eqb, ne_eqb, eqb-true}
use lib.Dec.{eqb}
use lib.ListN.{length, get_or}
use Rattle.base.specs.Choice.{pick, must}
use Rattle.base.specs.Fields.{contiguous}
use Rattle.base.specs.Octets.{Octets, same}
use Rattle.base.specs.Limits.{largest_unit, largest_spacecraft, largest_channel}
use Rattle.base.proofs.Lists.{octets_at_lem}
use Rattle.frame_header.specs.Header.{header_fields}
use Rattle.frame_header.proofs.Octets.{spacecraft_is, channel_is}
use Rattle.frame.specs.Frame.{bypass_of, control_of, number_of, unlock_command, data_of, frame_of, total_of, data_field, is_command, refusal_of, kind_of}
use Rattle.frame.specs.Answers.{reading_of, part_of}
use Rattle.frame.specs.declared.Kind.{Kind}
use Rattle.frame.specs.declared.Kind.TheVariants.{Ad, Bd, Unlock, SetVr}
use Rattle.std.specs.Prelude.{Ok}
use Rattle.frame.proofs.Accepted.{accepted, reading_frame, part_frame}
use Rattle.frame.proofs.Written.{Fits, fitting, total_back, field_back, refusal_left, kind_left}

-- what may be written: N(S) and the value of Set V(R) are octets, a unit has 1 to largest_unit octets
abbrev pub Legal : Kind → List ℕ → Type 0
Legal (Ad number) unit = (number < 256) × (1 ≤ length unit) × (length unit ≤ largest_unit) × Octets unit
Legal Bd unit = (1 ≤ length unit) × (length unit ≤ largest_unit) × Octets unit
Legal Unlock unit = Unit {0}
Legal (SetVr value) unit = value < 256

-- it fits, and reads back as itself
pub legal_fits : (spacecraft channel : ℕ) (kind : Kind) (unit : List ℕ) → spacecraft ≤ largest_spacecraft → channel ≤ largest_channel → Legal kind unit
    → Fits (bypass_of kind) (control_of kind) (number_of kind) spacecraft channel (data_of kind unit)
legal_fits spacecraft channel (Ad number) unit hs hv l = fitting (omega arith) (omega arith) l.0 refl hs hv l.1 l.2 l.3
legal_fits spacecraft channel Bd unit hs hv l = fitting (omega arith) (omega arith) (omega arith) refl hs hv l.0 l.1 l.2
legal_fits spacecraft channel Unlock unit hs hv l = fitting (omega arith) (omega arith) (omega arith) refl hs hv (omega arith) (omega arith) (omega arith, tt)
legal_fits spacecraft channel (SetVr value) unit hs hv l =
    fitting (omega arith) (omega arith) (omega arith) refl hs hv (omega arith) (omega arith) (omega arith, (omega arith, (l, tt)))

command_held_lem : (kind : Kind) (unit : List ℕ) → pick (eqb (control_of kind) 1) (is_command (data_of kind unit)) true ≡ true
unfolding is_command
command_held_lem (Ad number) unit = refl
command_held_lem Bd unit = refl
command_held_lem Unlock unit = refl
command_held_lem (SetVr value) unit = rw (eq-eqb value value refl)

kind_same : (kind : Kind) (unit : List ℕ)
    → pick (eqb (control_of kind) 1) (pick (same (data_of kind unit) unlock_command) Unlock (SetVr (get_or (data_of kind unit) 2 0))) (pick (eqb (bypass_of kind) 1) Bd (Ad (number_of kind)))
    ≡ kind
kind_same (Ad number) unit = refl
kind_same Bd unit = refl
kind_same Unlock unit = refl
kind_same (SetVr value) unit = refl

module _ (spacecraft channel : ℕ) (kind : Kind) (unit fill : List ℕ) (hs : spacecraft ≤ largest_spacecraft) (hv : channel ≤ largest_channel) (legal : Legal kind unit) (few : length fill ≤ 6) (hf : Octets fill) where
  fits : Fits (bypass_of kind) (control_of kind) (number_of kind) spacecraft channel (data_of kind unit)
  fits = legal_fits spacecraft channel kind unit hs hv legal

  left : (s' c' : ℕ) → refusal_of (frame_of spacecraft channel kind unit ++ fill) s' c' ≡ must (eqb spacecraft s') 7 (must (eqb channel c') 7 0)
  left s' c' =
      refusal_left (bypass_of kind) (control_of kind) (number_of kind) spacecraft channel (data_of kind unit) fits fill few hf s' c'
      ∙ ap (λ (b : Bool). must (eqb spacecraft s') 7 (must (eqb channel c') 7 (must b 9 0))) (command_held_lem kind unit)

  pub not_refused : refusal_of (frame_of spacecraft channel kind unit ++ fill) spacecraft channel ≡ 0
  not_refused = left spacecraft channel ∙ rw (eq-eqb spacecraft spacecraft refl, eq-eqb channel channel refl)

  total : total_of (frame_of spacecraft channel kind unit ++ fill) ≡ length (data_of kind unit) + 7
  total = total_back (bypass_of kind) (control_of kind) (number_of kind) spacecraft channel (data_of kind unit) fits fill few hf

  pub frame_back : reading_of (frame_of spacecraft channel kind unit ++ fill) spacecraft channel
      ≡ Ok (record { kind = kind; spacecraft = spacecraft; channel = channel; total = length (data_of kind unit) + 7; field = length (data_of kind unit) })
  frame_back =
      let k : kind_of (frame_of spacecraft channel kind unit ++ fill) ≡ kind =
      kind_left (bypass_of kind) (control_of kind) (number_of kind) spacecraft channel (data_of kind unit) fits fill few hf ∙ kind_same kind unit in
      let l : length (data_of kind unit) + 7 - 7 ≡ length (data_of kind unit) = omega arith in
      reading_frame (frame_of spacecraft channel kind unit ++ fill) spacecraft channel not_refused ∙ rw (k, total, l)

  pub data_back : part_of (frame_of spacecraft channel kind unit ++ fill) spacecraft channel ≡ data_of kind unit
  data_back =
      part_frame (frame_of spacecraft channel kind unit ++ fill) spacecraft channel not_refused
      ∙ ap (data_field (frame_of spacecraft channel kind unit ++ fill)) total
      ∙ field_back (bypass_of kind) (control_of kind) (number_of kind) spacecraft channel (data_of kind unit) fits fill few hf

  pub other_address : (s' c' : ℕ) → (s' ≡ spacecraft → c' ≡ channel → ⊥) → refusal_of (frame_of spacecraft channel kind unit ++ fill) s' c' ≡ 7
  other_address s' c' other = left s' c' ∙ go (eqb spacecraft s') refl
    where
      go : (b : Bool) → eqb spacecraft s' ≡ b → ◌≡◌ {A = ℕ} (must b 7 (must (eqb channel c') 7 0)) 7
      go true e = rw (ne_eqb channel c' (λ z. other (sym (eqb-true spacecraft s' e)) (sym z)))
      go false e = refl

-- an own address beyond the limits
pub own_beyond : (octets : List ℕ) (s' c' : ℕ) → Octets octets
    → (largest_spacecraft < s' → refusal_of octets s' c' ≡ 0 → ⊥) × (largest_channel < c' → refusal_of octets s' c' ≡ 0 → ⊥)
own_beyond octets s' c' h = (
  (λ l e.
      let y = accepted octets s' c' e in
      omega (arith, spacecraft_is octets (octets_at_lem octets h) y.header.entire, octets_at_lem octets h 1)),
  (λ l e.
      let y = accepted octets s' c' e in
      omega (arith, channel_is octets (octets_at_lem octets h) y.header.entire, octets_at_lem octets h 2)),
)

-- the header's fields stand contiguously, and the last ends with bit 39
pub layout : (bypass control spacecraft channel total number : ℕ) → contiguous 40 0 (header_fields bypass control spacecraft channel total number) ≡ true
unfolding header_fields
layout _ _ _ _ _ _ = refl
