-- A frame written, put into a CLTU, read out of it and read as a frame is the same frame: the CLTU's fill of at most 6 octets is what
-- the frame reader's check 5 allows.
use mathlib.Core.Path.{◌≡◌}
use mathlib.Core.List.{List, ◌++◌}
use Prim.Native.Nat.{ℕ, ◌+◌, ◌-◌, ◌*◌, ◌≤◌}
use native.Mathlib.Omega.{arith}
use lib.ListN.{length, replicate, length-replicate}
use Rattle.base.specs.Outcome.{Outcome.done}
use Rattle.base.specs.Limits.{largest_input, largest_spacecraft, largest_channel}
use Rattle.start_sequence.specs.StartSequence.{start_of}
use Rattle.codeblock.specs.declared.Mode.{Mode}
use Rattle.cltu.specs.Cltu.{codeblocks, fill_octet, filled, cltu_of, reading}
use Rattle.cltu.proofs.Places.{octets_fill}
use Rattle.cltu.proofs.RoundTrip.{round_trip}
use Rattle.frame.specs.Frame.{bypass_of, control_of, number_of, data_of, frame_of}
use Rattle.frame.specs.Answers.{reading_of, part_of}
use Rattle.frame.specs.declared.Kind.{Kind}
use Rattle.std.specs.Prelude.{Ok}
use Rattle.frame.proofs.Back.{Legal, frame_back, data_back}
use Rattle.frame.proofs.Lengths.{length_frame}

-- what the receiving end makes in either mode of a CLTU that stands behind octets without a place within one bit of a start sequence,
-- whatever follows it
pub record Through (mode : Mode) (before behind : List ℕ) (spacecraft channel : ℕ) (kind : Kind) (unit : List ℕ) (room : ℕ) : Type 0 where
  pub octets : List ℕ
  pub place : ℕ
  pub read : reading mode (before ++ (cltu_of (frame_of spacecraft channel kind unit) ++ behind)) room ≡ done octets (record { place = place; corrected = 0 })
  pub fields : reading_of octets spacecraft channel
      ≡ Ok (record { kind = kind; spacecraft = spacecraft; channel = channel; total = length (data_of kind unit) + 7; field = length (data_of kind unit) })
  pub data_part_lem : part_of octets spacecraft channel ≡ data_of kind unit

module _ (mode : Mode) (before behind : List ℕ) (spacecraft channel : ℕ) (kind : Kind) (unit : List ℕ) (room : ℕ) (hs : spacecraft ≤ largest_spacecraft) (hc : channel ≤ largest_channel) (legal : Legal kind unit) where
  abbrev frame : List ℕ
  frame = frame_of spacecraft channel kind unit

  abbrev fill : List ℕ
  fill = replicate (7 * codeblocks (length frame) - length frame) fill_octet

  short : length fill ≤ 6
  short = omega (arith, length-replicate (7 * codeblocks (length frame) - length frame) fill_octet)

  size : length frame ≡ length (data_of kind unit) + 7
  size = length_frame (bypass_of kind) (control_of kind) (number_of kind) spacecraft channel (data_of kind unit)

  pub through : start_of before ≡ length before → length (before ++ (cltu_of frame ++ behind)) ≤ largest_input → 7 * codeblocks (length frame) ≤ room
      → Through mode before behind spacecraft channel kind unit room
  unfolding filled
  through none h r = record {
    octets = filled frame;
    place = length before + 2 + 8 * codeblocks (length frame);
    read = round_trip before frame behind room mode none (omega (arith, size)) h r;
    fields = frame_back spacecraft channel kind unit fill hs hc legal short (octets_fill (7 * codeblocks (length frame) - length frame));
    data_part_lem = data_back spacecraft channel kind unit fill hs hc legal short (octets_fill (7 * codeblocks (length frame) - length frame));
  }
