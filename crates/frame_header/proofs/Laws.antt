-- What makes a header valid: by the tests of its octets, which code makes (`valid_short`, `valid_by_octets`); and by its fields, the one way
-- (`valid_told`) and the other (`valid_is`).
use mathlib.Core.Path.{◌≡◌, sym, ◌∙◌}
use mathlib.Core.Bool.{Bool, true, false, not}
use mathlib.Core.List.{List}
use Prim.Native.Nat.{ℕ, ◌/◌, ◌%◌, ◌<◌, ◌≤◌}
use borrow.Author.Tests.{leb-true, le-leb, lt-leb, eqb-true, eq-eqb}
use lib.Dec.{eqb}
use lib.ListN.{length, get_or}
use Rattle.base.specs.Choice.{pick, both}
use Rattle.base.specs.Fields.{field_at}
use Rattle.base.proofs.Computed.{agree}
use Rattle.base.proofs.Tests.{both_left, both_right}
use Rattle.frame_header.specs.Header.{header_length, version, bypass_flag, control_command_flag, reserved_spare, frame_sequence_number, valid_combination, valid_number, valid_header}
use Rattle.frame_header.proofs.Octets.{o, version_is, spare_is, bypass_is, control_is, number_is}

-- the tests of a header's octets, the flags by one of them
abbrev pub tested : List ℕ → Bool
tested s =
    both (eqb (o s 0 / 64) 0)
    (both (eqb (o s 0 / 4 % 4) 0)
    (both (not (eqb (o s 0 / 16 % 4) 1))
    (pick (eqb (o s 0 / 32 % 2) 1) (eqb (o s 4) 0) true)))

pub valid_short : (s : List ℕ) → length s < header_length → false ≡ valid_header s
unfolding valid_header
valid_short s h = rw (lt-leb header_length (length s) h)

pub valid_by_octets : (s : List ℕ) {r : Bool} → ((i : ℕ) → get_or s i 0 < 256) → header_length ≤ length s → r ≡ tested s → r ≡ valid_header s
unfolding valid_header
valid_by_octets s octets h e =
    let combination : both (eqb (o s 0 / 32 % 2) 0) (eqb (o s 0 / 16 % 2) 1) ≡ eqb (o s 0 / 16 % 4) 1 =
    agree (λ x. both (eqb (x / 32 % 2) 0) (eqb (x / 16 % 2) 1)) (λ x. eqb (x / 16 % 4) 1) 256 tt (o s 0) (octets 0) in
    e ∙ sym (rw (le-leb header_length (length s) h, version_is s octets h, spare_is s octets h, bypass_is s octets h, control_is s octets h, combination, number_is s octets h))

-- a valid header, field by field
pub record Valid (s : List ℕ) : Type 0 where
  pub entire : header_length ≤ length s
  pub version_zero : field_at version s ≡ 0
  pub spare_zero : field_at reserved_spare s ≡ 0
  pub combination : valid_combination (field_at bypass_flag s) (field_at control_command_flag s) ≡ true
  pub sequence : valid_number (field_at bypass_flag s) (field_at frame_sequence_number s) ≡ true

split : (a b : Bool) → both a b ≡ true → (a ≡ true) × (b ≡ true)
split a b e = (both_left a b e, both_right a b e)

pub valid_told : (s : List ℕ) → valid_header s ≡ true → Valid s
unfolding valid_header
valid_told s e =
    let a = split _ _ e in
    let b = split _ _ a.1 in
    let c = split _ _ b.1 in
    let d = split _ _ c.1 in record {
      entire = leb-true header_length (length s) a.0;
      version_zero = eqb-true (field_at version s) 0 b.0;
      spare_zero = eqb-true (field_at reserved_spare s) 0 c.0;
      combination = d.0;
      sequence = d.1;
    }

pub valid_is : (s : List ℕ) → Valid s → valid_header s ≡ true
unfolding valid_header
valid_is s v =
    rw (le-leb header_length (length s) v.entire, eq-eqb (field_at version s) 0 v.version_zero, eq-eqb (field_at reserved_spare s) 0 v.spare_zero, v.combination, v.sequence)
