-- A frame put into the output part by part, and the outcomes of writing by their checks.
use mathlib.Core.Path.{◌≡◌, refl, sym, ap, ◌∙◌}
use mathlib.Core.List.{List, [], ◌++◌}
use Prim.Native.Nat.{ℕ, ◌+◌, ◌<◌, ◌≤◌}
use native.Mathlib.Omega.{arith}
use borrow.Author.Tests.{le-leb, lt-leb}
use lib.ListN.{length, take, drop}
use lib.Seq.{take_at}
use Rattle.base.specs.Outcome.{Outcome, Outcome.done, Outcome.refused}
use Rattle.memory.specs.Placed.{placed}
use Rattle.memory.proofs.Laws.{placed_behind}
use Rattle.fecf.specs.Fecf.{fecf_of, field_octets}
use Rattle.base.specs.Limits.{largest_unit, largest_spacecraft, largest_channel}
use Rattle.frame_header.specs.Header.{header_of}
use Rattle.frame_header.proofs.Packed.{length_header}
use Rattle.frame.proofs.Lengths.{length_body, length_frame}
use Rattle.frame.specs.Frame.{body_of, raw_frame, raw_writing}

module _ (bypass control number spacecraft channel : ℕ) (field : List ℕ) where
  -- header, data and FECF, one behind the other
  pub emitted : (old header one two octets three : List ℕ) (check : ℕ) → length field + 7 ≤ length old
      → header ≡ header_of bypass control spacecraft channel (length field + 7) number
      → one ≡ placed old 0 header → two ≡ placed one 5 field → check ≡ fecf_of (take (5 + length field) two) → octets ≡ field_octets check
      → three ≡ placed two (5 + length field) octets
      → three ≡ raw_frame bypass control number spacecraft channel field ++ drop (length field + 7) old
  unfolding raw_frame body_of
  emitted old header one two octets three check room eh e1 e2 ec eo e3 =
      let lb = length_body bypass control number spacecraft channel field in
      let lf = length_frame bypass control number spacecraft channel field in
      let h = header_of bypass control spacecraft channel (length field + 7) number in
      let b = body_of bypass control number spacecraft channel field in
      let lh = length_header bypass control spacecraft channel (length field + 7) number in
      let s1 : one ≡ h ++ drop (length h) old = e1 ∙ ap (placed old 0) eh ∙ placed_behind old [] h old 0 refl refl (omega arith) in
      let s2 : two ≡ b ++ drop (length b) old = e2 ∙ placed_behind old h field one 5 s1 (sym lh) (omega arith) in
      let c : check ≡ fecf_of b = ec ∙ ap fecf_of (ap (take (5 + length field)) s2 ∙ take_at b (drop (length b) old) (5 + length field) lb) in
      let o : octets ≡ field_octets (fecf_of b) = eo ∙ ap field_octets c in
      e3 ∙ ap (placed two (5 + length field)) o
      ∙ placed_behind old b (field_octets (fecf_of b)) two (5 + length field) s2 (sym lb) (omega arith)
      ∙ ap (λ (n : ℕ). (b ++ field_octets (fecf_of b)) ++ drop n old) lf

  -- writing, check by check
  module _ (room : ℕ) where
    abbrev outcome : Outcome (Unit {0})
    outcome = raw_writing bypass control number spacecraft channel field room

    pub writing_empty : length field < 1 → outcome ≡ refused 10 0
    unfolding raw_writing
    writing_empty h = simp (lt-leb 1 (length field) h)

    pub writing_long : 1 ≤ length field → largest_unit < length field → outcome ≡ refused 10 0
    unfolding raw_writing
    writing_long l h = simp (le-leb 1 (length field) l, lt-leb (length field) largest_unit h)

    pub writing_spacecraft : 1 ≤ length field → length field ≤ largest_unit → largest_spacecraft < spacecraft → outcome ≡ refused 12 0
    unfolding raw_writing
    writing_spacecraft l h s = simp (le-leb 1 (length field) l, le-leb (length field) largest_unit h, lt-leb spacecraft largest_spacecraft s)

    pub writing_channel : 1 ≤ length field → length field ≤ largest_unit → spacecraft ≤ largest_spacecraft → largest_channel < channel
        → outcome ≡ refused 12 0
    unfolding raw_writing
    writing_channel l h s c =
        simp (le-leb 1 (length field) l, le-leb (length field) largest_unit h, le-leb spacecraft largest_spacecraft s, lt-leb channel largest_channel c)

    pub writing_room : 1 ≤ length field → length field ≤ largest_unit → spacecraft ≤ largest_spacecraft → channel ≤ largest_channel
        → room < length field + 7 → outcome ≡ refused 11 0
    unfolding raw_writing
    writing_room l h s c r =
        simp (
          le-leb 1 (length field) l,
          le-leb (length field) largest_unit h,
          le-leb spacecraft largest_spacecraft s,
          le-leb channel largest_channel c,
          lt-leb (length field + 7) room r,
        )

    pub writing_done : 1 ≤ length field → length field ≤ largest_unit → spacecraft ≤ largest_spacecraft → channel ≤ largest_channel
        → length field + 7 ≤ room → outcome ≡ done (raw_frame bypass control number spacecraft channel field) tt
    unfolding raw_writing
    writing_done l h s c r =
        simp (
          le-leb 1 (length field) l,
          le-leb (length field) largest_unit h,
          le-leb spacecraft largest_spacecraft s,
          le-leb channel largest_channel c,
          le-leb (length field + 7) room r,
        )
