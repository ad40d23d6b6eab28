-- Clauses 8.2 to 8.7: wrong bits in a CLTU on its way, and what its reading is then.
use Rattle.std.specs.Prelude.{ℕ, ◌+◌, ◌*◌, ◌<◌, ◌≤◌, ◌≡◌, List, ltb, leb, length, take, drop}
use Rattle.base.specs.Choice.{must}
use Rattle.base.specs.Limits.{smallest_frame, largest_frame, largest_unit}
use Rattle.base.specs.Octets.{Octets}
use Rattle.base.specs.Distance.{wrong_bits}
use Rattle.base.specs.Outcome.{Outcome, Outcome.done, Outcome.refused}
use Rattle.frame.specs.Frame.{total_of}
use Rattle.frame.specs.Answers.{reading_of, part_of}
use Rattle.std.specs.Prelude.{Err}
use Rattle.base.specs.declared.Refusal.TheVariants.{Short}
use Rattle.codeblock.specs.declared.Mode.TheVariants.{Detecting}
use Rattle.start_sequence.specs.StartSequence.{Received}
use Rattle.cltu.specs.Cltu.{Found, codeblocks, filled, cltu_of, reading}
use Rattle.fop.specs.Units.{Frame, AD, BD, Unlock, SetVR}
use Rattle.fop.specs.Units as units

-- the eight octets with number b behind the start sequence: each codeblock, and then the tail sequence
abbrev pub eight_at : ℕ → List ℕ → List ℕ
eight_at b cltu = take 8 (drop (8 * b) (drop 2 cltu))

-- octets received for a CLTU sent: at most one bit of the start sequence is wrong, and at most three in each eight octets behind it
pub record Damaged (sent received : List ℕ) : Type 0 where
  pub same_length : length received ≡ length sent
  pub octets : Octets received
  pub start : Received (take 2 received)
  pub few : (b : ℕ) → wrong_bits (eight_at b sent) (eight_at b received) ≤ 3

-- reading that ends behind n codeblocks of a frame's CLTU: 2 where n is 0, then 11, then the information of those codeblocks
unfoldable pub reading_front : List ℕ → ℕ → ℕ → Outcome Found
reading_front frame n room =
    must (ltb 0 n) (refused 2 2)
    (must (leb (7 * n) room) (refused 11 0)
    (done (take (7 * n) (filled frame)) (record { place = 2 + 8 * n; corrected = 0 })))

-- what reading a damaged CLTU of a frame comes to: it ends at the first codeblock that is damaged, or else at the tail
pub record ReadToDamage (frame received : List ℕ) : Type 0 where
  pub blocks : ℕ
  pub within : blocks ≤ codeblocks (length frame)
  pub intact : (b : ℕ) → b < blocks → eight_at b received ≡ eight_at b (cltu_of frame)
  pub damaged : blocks < codeblocks (length frame) → eight_at blocks received ≡ eight_at blocks (cltu_of frame) → ⊥
  pub read : (room : ℕ) → reading Detecting received room ≡ reading_front frame blocks room

-- a frame within document 01's limits whose header says its length
pub record WholeFrame (frame : List ℕ) : Type 0 where
  pub octets : Octets frame
  pub low : smallest_frame ≤ length frame
  pub high : length frame ≤ largest_frame
  pub says : total_of frame ≡ length frame

-- what a sender may hand down: N(S) and the value of Set V(R) are octets, a unit has 1 to largest_unit octets
abbrev pub Sendable : Frame → Type 0
Sendable (AD u) = (u.ns < 256) × (1 ≤ length u.octets) × (length u.octets ≤ largest_unit) × Octets u.octets
Sendable (BD o) = (1 ≤ length o) × (length o ≤ largest_unit) × Octets o
Sendable Unlock = Unit {0}
Sendable (SetVR v) = v < 256
Sendable (units.Refused r) = ⊥

-- octets that the frame reader refuses with 4, too short, whatever the own address
abbrev pub TooShort : List ℕ → Type 0
TooShort octets = (spacecraft channel : ℕ) → reading_of octets spacecraft channel ≡ Err Short

-- octets that the frame reader reads as it reads the frame, whatever the own address: the answer and the data field
abbrev pub ReadsAs : List ℕ → List ℕ → Type 0
ReadsAs frame octets =
    (spacecraft channel : ℕ)
    → (reading_of octets spacecraft channel ≡ reading_of frame spacecraft channel) × (part_of octets spacecraft channel ≡ part_of frame spacecraft channel)
