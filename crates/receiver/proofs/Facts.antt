-- Theorems on the receiver: every answer is the table's; a refused frame changes nothing; a release gives one buffer back, and is what its channel's is.
use Rattle.std.specs.Prelude.{Some, None, Result, Ok, Err}
use mathlib.Core.Path.{◌≡◌, refl}
use mathlib.Core.Bool.{Bool, true, false}
use mathlib.Core.List.{List}
use Prim.Native.Nat.{ℕ, ◌+◌, ◌-◌, ◌<◌}
use native.Mathlib.Omega.{arith}
use native.Mathlib.Nat.{add-zero}
use borrow.Author.Tests.{ne_eqb, lt-ltb, ltb-false}
use lib.Dec.{ltb}
use Rattle.base.specs.Choice.{pick, must}
use Rattle.base.specs.Refusals.{refusal_number, frame_refusal}
use Rattle.frame.specs.Frame.{refusal_of}
use Rattle.frame.specs.Answers.{FrameReading, reading_of}
use Rattle.frame.proofs.Named.{reading_told}
use Rattle.farm.specs.declared.State.{State}
use Rattle.farm.specs.declared.State.TheVariants.{Open, Wait, Lockout}
use Rattle.farm.specs.declared.Event.TheVariants.{E9, E10}
use Rattle.farm.specs.Table.{step_of, unit_of}
use Rattle.farm.specs.Window.{not_wait}
use Rattle.farm.proofs.Cells.{e9_keeps}
use Rattle.receiver.specs.declared.ChannelAnswer.{ChannelAnswer}
use Rattle.base.specs.declared.Refusal.{Refusal}
use Rattle.base.specs.declared.Refusal.TheVariants.{Release}
use Rattle.receiver.specs.declared.Receiver.{Receiver}
use Rattle.receiver.specs.declared.Received.{Received}
use Rattle.receiver.specs.Channel.{star_of, takes}
use Rattle.receiver.specs.Channel as channel
use Rattle.receiver.specs.Receiver.{become, has_room, told_by, answered, arrived, by_reading, receive_of, release_of}
use Rattle.receiver.proofs.Kept.{WellFormed, wait_full_lem}

-- the value V*(R) of a reading
abbrev pub star_for : FrameReading → ℕ
star_for (Ok fields) = star_of fields.kind
star_for (Err refusal) = 0

-- every answer is the table's: the variables, the unit, and of the rest only the buffers taken
pub record ByTable (r : Receiver) (star : ℕ) (x : Received) : Type 0 where
  pub variables : x.next.farm.channel.variables ≡ step_of x.event star r.farm.channel.variables
  pub unit : x.unit ≡ unit_of x.event r.farm.channel.variables.state
  pub next : x.next ≡ become (r.farm.channel.held + takes x.unit) x.next.farm.channel.variables r

pub by_table_lem : (r : Receiver) (octets : List ℕ) → ByTable r (star_for (reading_of octets r.farm.spacecraft r.farm.channel.number)) (receive_of r octets)
unfolding receive_of by_reading arrived answered channel.arrived channel.answered
by_table_lem r octets = go (reading_of octets r.farm.spacecraft r.farm.channel.number)
  where
    go : (reading : FrameReading) → ByTable r (star_for reading) (by_reading r reading)
    go (Ok fields) = record { variables = refl; unit = refl; next = refl }
    go (Err refusal) = record { variables = refl; unit = refl; next = refl }

-- a refused frame is E9, with the refusal of its number, and changes nothing
pub refused_changes_nothing : (r : Receiver) (octets : List ℕ) (number : ℕ) → refusal_of octets r.farm.spacecraft r.farm.channel.number ≡ number → (number ≡ 0 → ⊥)
    → (receive_of r octets ≡ record { refusal = Some (frame_refusal number); event = E9; unit = None; next = r }) × (refusal_number (frame_refusal number) ≡ number)
unfolding receive_of by_reading reading_of answered channel.answered
refused_changes_nothing r octets number e d = (
  rw (e, ne_eqb number 0 d, e9_keeps 0 r.farm.channel.variables, add-zero r.farm.channel.held),
  rw (e, ne_eqb number 0 d) at (reading_told octets r.farm.spacecraft r.farm.channel.number),
)

-- a release is E10 with one buffer given back, and is refused only where none is taken
pub release_by_table : (r : Receiver) → 0 < r.farm.channel.held
    → release_of r ≡ Ok (record { refusal = None; event = E10; unit = None; next = become (r.farm.channel.held - 1) (step_of E10 0 r.farm.channel.variables) r })
unfolding release_of answered channel.answered
release_by_table r h = rw (lt-ltb 0 r.farm.channel.held h, add-zero (r.farm.channel.held - 1))

pub release_refused : (r : Receiver) → r.farm.channel.held ≡ 0 → release_of r ≡ Err Release
unfolding release_of
release_refused r e = rw e

-- of a well-formed receiver the channel's whole rule of a release is the receiver's: in Wait every buffer is taken, and there is at least one
abbrev pub released_by : Result ChannelAnswer Refusal → Receiver → Result Received Refusal
released_by (Ok a) r = Ok (told_by None a r)
released_by (Err refusal) r = Err refusal

pub release_alike : (r : Receiver) → WellFormed r → released_by (channel.release_of (has_room r) r.farm.channel) r ≡ release_of r
unfolding release_of answered channel.release_of
release_alike r h = go (ltb 0 r.farm.channel.held) r.farm.channel.variables.state refl refl
  where
    one : ChannelAnswer
    one = channel.answered E10 0 (channel.become (r.farm.channel.held - 1) r.farm.channel.variables r.farm.channel)

    go : (b : Bool) (s : State) → ltb 0 r.farm.channel.held ≡ b → r.farm.channel.variables.state ≡ s
        → released_by (must (pick b true (pick (not_wait s) false (has_room r))) (Err Release) (Ok one)) r
        ≡ must b (Err Release) (Ok (told_by None one r))
    go true s e p = refl
    go false Open e p = refl
    go false Wait e p = absurd (omega (arith, ltb-false 0 r.farm.channel.held e, wait_full_lem r h p, h.settings.some))
    go false Lockout e p = refl
