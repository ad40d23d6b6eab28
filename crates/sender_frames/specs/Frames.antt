-- The frame that an event hands down to the lower layer, as crate frame defines it; its unit, and what a unit offered is judged by.
use Rattle.std.specs.Prelude.{ℕ, ◌+◌, List, [], leb, eqb, length, Option, None, Some}
use Rattle.base.specs.Choice.{pick, must}
use Rattle.base.specs.Limits.{largest_unit}
use Rattle.base.specs.Outcome.{Outcome, Outcome.done}
use Rattle.store.specs.Places.{unit_at}
use Rattle.frame.specs.Frame.{writing}
use Rattle.frame.specs.declared.Kind.TheVariants as kind
use Rattle.sender_values.specs.declared.Settings.{Settings}
use Rattle.sender_values.specs.declared.Handed.{Handed}
use Rattle.sender_values.specs.declared.Handed.TheVariants as handed
use Rattle.sender_values.specs.declared.SenderState.{SenderState}
use Rattle.sender_values.specs.declared.Work.{Work}
use Rattle.sender_frames.specs.Limits.{need_of}

-- "Legal: within the limits": the length of a unit
abbrev pub must_be_unit : {A : Type 0} → List ℕ → A → A → A
must_be_unit o refusal on = must (leb 1 (length o)) refusal (must (leb (length o) largest_unit) refusal on)

-- "Sender events are judged 10, 12, 7, 11": the refusal of a request by the length of its unit, then by the lent store; 0 where there is none
abbrev pub request_refusal : SenderState → List ℕ → List ℕ → ℕ
request_refusal s o store = must_be_unit o 10 (must (leb (need_of s) (length store)) 11 0)

-- the frame handed down, with the unit u of an AD or BD frame, into output of the length lent
unfoldable pub handed_writing : Settings → Option Handed → List ℕ → ℕ → Outcome (Unit {0})
handed_writing g None u lent = done [] tt
handed_writing g (Some (handed.Ad n i)) u lent = writing g.spacecraft g.channel (kind.Ad n) u lent
handed_writing g (Some handed.Bd) u lent = writing g.spacecraft g.channel kind.Bd u lent
handed_writing g (Some handed.Unlock) u lent = writing g.spacecraft g.channel kind.Unlock [] lent
handed_writing g (Some (handed.SetVr n)) u lent = writing g.spacecraft g.channel (kind.SetVr n) [] lent

-- the place of the unit that is handed down, after the event
abbrev pub place_handed : Option Handed → ℕ
place_handed None = 0
place_handed (Some (handed.Ad n i)) = i
place_handed (Some handed.Bd) = 0
place_handed (Some handed.Unlock) = 0
place_handed (Some (handed.SetVr n)) = 0

-- the unit that is handed down stood, before the event, behind the units that the event confirms
abbrev pub unit_before : SenderState → Work → List ℕ → List ℕ
unit_before s w store = unit_at s.lengths (place_handed w.told.handed + w.told.confirmed.count) store

-- the unit that an AD request hands down: the one offered, which would be the last of the sent ones, or an older one that is marked
abbrev pub unit_offered : SenderState → Work → List ℕ → List ℕ → List ℕ
unit_offered s w o store =
    pick (eqb (place_handed w.told.handed) s.queues.sent) o (unit_at s.lengths (place_handed w.told.handed) store)
