-- A computed example: document 01's run of its program, W = 20, V(R) = 250, one buffer.
use mathlib.Core.Path.{◌≡◌, refl}
use mathlib.Core.Bool.{Bool, true, false}
use mathlib.Core.List.{List, [], ◌∷◌}
use Prim.Native.Nat.{ℕ}
use Rattle.frame.specs.declared.Kind.{Kind}
use Rattle.frame.specs.declared.Kind.TheVariants.{Ad, Unlock}
use Rattle.farm.specs.declared.State.{State}
use Rattle.farm.specs.declared.State.TheVariants.{Open, Wait, Lockout}
use Rattle.farm.specs.declared.Event.{Event}
use Rattle.farm.specs.declared.Event.TheVariants.{E1, E2, E3, E4, E5, E7}
use Rattle.farm.specs.declared.Variables.{Variables}
use Rattle.receiver.specs.declared.Receiver.{Receiver}
use Rattle.farm.specs.Table.{table, perform, perform_all, step_of, accepts}
use Rattle.farm.specs.Window.{ad_event}
use Rattle.receiver.specs.Channel as channel
use Rattle.receiver.specs.Receiver.{at_start, arrived}

-- the events of valid frames in a row, each with the variables after it
abbrev answers : List Kind → Receiver → List (Event × Variables)
answers [] r = []
answers (kind ∷ kinds) r = ((arrived r kind).event, (arrived r kind).next.farm.channel.variables) ∷ answers kinds (arrived r kind).next

-- a line of the program's output: event, state, V(R), flags, counter
abbrev line : Event → State → ℕ → Bool → Bool → Bool → ℕ → Event × Variables
line e s vr lockout wait retransmit counter =
    (e, record { state = s; vr = vr; lockout = lockout; wait = wait; retransmit = retransmit; counter = counter })

pub document_01 :
    answers (Ad 250 ∷ Ad 252 ∷ Ad 251 ∷ Unlock ∷ Ad 250 ∷ Ad 10 ∷ []) (at_start 0 0 20 250 1)
    ≡ line E1 Open 251 false false false 0
    ∷ line E3 Open 251 false false true 0
    ∷ line E2 Wait 251 false true true 0
    ∷ line E7 Open 251 false false false 1
    ∷ line E4 Open 251 false false false 1
    ∷ line E5 Lockout 251 true false false 1
    ∷ []
unfolding arrived channel.arrived channel.answered channel.event_of ad_event step_of table perform_all perform accepts
document_01 = refl
