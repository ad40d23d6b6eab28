-- Clauses 7.2.3 and 7.9.3: a virtual channel of the receiver, its record and what a frame and a release make of it. Whether an AD buffer is free
-- (`room`) is told to it; whose buffers they are, specs/Receiver says.
use Rattle.std.specs.Prelude.{ℕ, ◌+◌, ◌-◌, Bool, true, false, ltb, Option, Some, None, Result, Ok, Err}
use Rattle.base.specs.Choice.{pick, must}
use Rattle.base.specs.Modulo.{offset}
use Rattle.base.specs.declared.Refusal.{Refusal}
use Rattle.base.specs.declared.Refusal.TheVariants.{Release}
use Rattle.clcw.specs.declared.Clcw.{Clcw}
use Rattle.frame.specs.declared.Kind.{Kind}
use Rattle.frame.specs.declared.Kind.TheVariants.{Ad, Bd, Unlock, SetVr}
use Rattle.farm.specs.Table.{step_of, unit_of}
use Rattle.farm.specs.Window.{not_wait, ad_event}
use Rattle.farm.specs.declared.State.{State}
use Rattle.farm.specs.declared.Event.{Event}
use Rattle.farm.specs.declared.Event.TheVariants.{E6, E7, E8, E10}
use Rattle.farm.specs.declared.Variables.{Variables}
use Rattle.farm.specs.declared.AcceptedUnit.{AcceptedUnit}
use Rattle.farm.specs.declared.AcceptedUnit.TheVariants.{Ad as AdUnit, Bd as BdUnit}
use Rattle.receiver.specs.declared.Channel.{Channel}
use Rattle.receiver.specs.declared.ChannelAnswer.{ChannelAnswer}

-- the channel with other variables and another count of units held
abbrev pub become : ℕ → Variables → Channel → Channel
become held variables c = record { number = c.number; window = c.window; held = held; variables = variables }

-- the event of a valid frame by its kind
unfoldable pub event_of : Bool → Channel → Kind → Event
event_of room c (Ad number) = ad_event c.window c.variables.state room (offset number c.variables.vr)
event_of room c Bd = E6
event_of room c Unlock = E7
event_of room c (SetVr value) = E8

-- V*(R), the value that a Set V(R) carries; 0 for any other frame
abbrev pub star_of : Kind → ℕ
star_of (Ad number) = 0
star_of Bd = 0
star_of Unlock = 0
star_of (SetVr value) = value

-- document 01: "E1 takes a buffer" (in Open, where its unit is accepted)
abbrev pub takes : Option AcceptedUnit → ℕ
takes None = 0
takes (Some AdUnit) = 1
takes (Some BdUnit) = 0

-- an event by the table: its unit, and the channel after it
unfoldable pub answered : Event → ℕ → Channel → ChannelAnswer
answered e star c = record {
  event = e;
  unit = unit_of e c.variables.state;
  next = become (c.held + takes (unit_of e c.variables.state)) (step_of e star c.variables) c;
}

-- a valid frame of a kind
unfoldable pub arrived : Bool → Channel → Kind → ChannelAnswer
arrived room c kind = answered (event_of room c kind) (star_of kind) c

-- document 02, request 8: "A release naming a channel that holds a buffer gives one back and is E10. Naming one that holds none is 13, except for
-- a channel in Wait while the pool has room: that is E10". A receiver with one channel judges 13 first, as document 01 says (specs/Receiver), and
-- never waits with room (proofs/Kept, `wait_full_lem`), so both rules agree there (proofs/Facts, `release_alike`).
abbrev pub may_release : ℕ → State → Bool → Bool
may_release held state room = pick (ltb 0 held) true (pick (not_wait state) false room)

-- document 01: "a release gives one back and is E10"; a channel that holds none gives none back (0 - 1 is 0)
unfoldable pub release_of : Bool → Channel → Result ChannelAnswer Refusal
release_of room c =
    must (may_release c.held c.variables.state room) (Err Release) (Ok (answered E10 0 (become (c.held - 1) c.variables c)))

-- E11: the control word, with V(R), flags and counter as they are
abbrev pub word_of : Channel → Clcw
word_of c = record {
  channel = c.number;
  lockout = c.variables.lockout;
  wait = c.variables.wait;
  retransmit = c.variables.retransmit;
  counter = c.variables.counter;
  report = c.variables.vr;
}
