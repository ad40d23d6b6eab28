-- "I sign nothing that a unit which never sends, resends or accepts could also pass": what every pair of ends does that meets demand 3 after
-- every list of events.
use Rattle.std.specs.Prelude.{◌≡◌, true, List, [], ◌∷◌, ◌<◌, length}
use Rattle.fop.specs.Units.{Fdu}
use Rattle.session.specs.Ends.{Settings, Ends, tables}
use Rattle.session.specs.Session.{Event, Linked, begins, step, run}
use Rattle.session.specs.Claims.{Claims, Resends, member}
use Rattle.session.specs.Suspension.{unrejected}

module _ (set : Settings) (m : Ends) where
  -- the ends after a list of events, from the start
  abbrev pub after : List Event → Linked m
  after es = run set m es (begins m)

  -- demand 3, after every list of events in which no lower-layer reject comes while suspended (document 02, order 9)
  abbrev pub Demanded : Type 0
  Demanded =
      (es : List Event) → unrejected set es (begins (tables set)) ≡ true
      → Claims set m (after es) (run set (tables set) es (begins (tables set)))

  -- demand 3 as document 01 words it, at Timeout_Type 0: after every list of events
  abbrev pub DemandedAlerting : Type 0
  DemandedAlerting = set.timeout_type ≡ 0 → (es : List Event) → Claims set m (after es) (run set (tables set) es (begins (tables set)))

  -- a unit that sends: after some list of events a unit is sent
  pub record Sending : Type 0 where
    pub events : List Event
    pub unit : Fdu
    pub sent : (after events).history.sent ≡ unit ∷ []

  -- a unit that accepts
  pub record Accepting : Type 0 where
    pub events : List Event
    pub unit : Fdu
    pub accepted : (after events).history.accepted ≡ unit ∷ []

  -- a unit that resends: at some event it hands an outstanding unit down again
  pub record Resending : Type 0 where
    pub events : List Event
    pub event : Event
    pub unit : Fdu
    pub resent : Resends set unit (after events) (step set m event (after events))

  -- a unit that confirms: after some list of events the first unit sent is confirmed
  pub record Confirming : Type 0 where
    pub events : List Event
    pub confirmed : member 0 (after events).history.confirmed ≡ true

  -- and does not send on the first event alone: a unit is sent at a later one
  pub record SendingLater : Type 0 where
    pub first : Event
    pub later : List Event
    pub more : length (after (first ∷ [])).history.sent < length (after (first ∷ later)).history.sent

  -- all of these
  pub record Signed : Type 0 where
    pub sends : Sending
    pub accepts : Accepting
    pub resends : Resending
    pub confirms : Confirming
    pub sends_later : SendingLater
