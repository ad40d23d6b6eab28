-- What the tests of `well_formed` decide: a state is well-formed where its settings are those of a new receiver, and flags, counter and buffers are
-- as every event leaves them (`ready_is`, `setting_is`).
use mathlib.Core.Path.{◌≡◌, refl, sym, ap, ◌∙◌}
use mathlib.Core.Bool.{Bool, true, false}
use mathlib.Core.List.{List, [], ◌∷◌}
use Prim.Native.Nat.{◌%◌}
use lib.Dec.{leb, ltb, eqb}
use Rattle.std.specs.Prelude.{Result, Ok, Err}
use Rattle.base.specs.Choice.{pick, must, both}
use Rattle.base.specs.Limits.{largest_spacecraft, largest_channel}
use Rattle.receiver.specs.declared.ReceiverState.{ReceiverState}
use Rattle.receiver.specs.declared.Receiver.{Receiver}
use Rattle.base.specs.declared.Refusal.{Refusal}
use Rattle.base.specs.declared.Refusal.TheVariants.{Setting}
use Rattle.receiver.specs.Receiver.{largest_buffers, at_start, start_of}
use Rattle.receiver.specs.State.{flags_hold, well_formed}

-- flags, counter and buffers taken are as every event leaves them
abbrev pub running : ReceiverState → Bool
running s =
    both (flags_hold s.channel.variables.state s.channel.variables.lockout s.channel.variables.wait s.channel.variables.retransmit)
    (both (ltb s.channel.variables.counter 4) (both (leb s.channel.held s.buffers) (pick s.channel.variables.wait (eqb s.channel.held s.buffers) true)))

-- a test behind a start, where there is a receiver
abbrev pub behind : Bool → Result Receiver Refusal → Bool
behind test (Ok r) = test
behind test (Err refusal) = false

-- checks in front of a test, and in front of a start: they decide both alike
abbrev pub before : List Bool → Bool → Bool
before [] test = test
before (check ∷ checks) test = both check (before checks test)

abbrev pub settled : List Bool → Result Receiver Refusal → Result Receiver Refusal
settled [] start = start
settled (check ∷ checks) start = must check (Err Setting) (settled checks start)

pub alike : (checks : List Bool) (test : Bool) (r : Receiver) → before checks test ≡ behind test (settled checks (Ok r))
alike [] test r = refl
alike (true ∷ checks) test r = alike checks test r
alike (false ∷ checks) test r = refl

-- document 01, "Limits"
abbrev pub settings : ReceiverState → List Bool
settings s =
    leb s.spacecraft largest_spacecraft ∷ leb s.channel.number largest_channel ∷ eqb (s.channel.window % 2) 0
    ∷ leb 2 s.channel.window ∷ leb s.channel.window 254 ∷ leb 1 s.buffers ∷ leb s.buffers largest_buffers ∷ []

module _ (s : ReceiverState) (start : Result Receiver Refusal) (e : start ≡ start_of s.spacecraft s.channel.number s.channel.window s.channel.variables.vr s.buffers) where
  pub well_formed_is : well_formed s ≡ behind (running s) start
  unfolding well_formed start_of
  well_formed_is =
      alike (settings s) (running s) (at_start s.spacecraft s.channel.number s.channel.window s.channel.variables.vr s.buffers)
      ∙ ap (behind (running s)) (sym e)

  pub setting_is : start ≡ Err Setting → well_formed s ≡ false
  setting_is p = well_formed_is ∙ ap (behind (running s)) p

  pub ready_is : (x : Receiver) → start ≡ Ok x → well_formed s ≡ running s
  ready_is x p = well_formed_is ∙ ap (behind (running s)) p
