-- The events of the sender: "Sender events are judged 10, 12, 7, 11, then by the table." The rows are crate sender_rows' (table 7-8), which row
-- it is crate sender_events', and the frame handed down crate sender_frames'.
use Rattle.std.specs.Prelude.{ℕ, ◌-◌, Bool, List, leb, eqb, length, set, Option, Some, None, Ok, Err}
use Rattle.base.specs.Choice.{pick, must, both}
use Rattle.store.specs.Places.{unit_put, without}
use Rattle.store.specs.Slid.{slid}
use Rattle.clcw.specs.Answers.{WordReading, reading_of}
use Rattle.base.specs.Refusals.{refusal_number}
use Rattle.sender_values.specs.declared.SenderState.{SenderState}
use Rattle.sender_values.specs.declared.Work.{Work}
use Rattle.sender_values.specs.Parts.{clocked}
use Rattle.sender_values.specs.Actions.{units_held}
use Rattle.sender_values.specs.Start.{begun}
use Rattle.sender_table.specs.Rows.{row_of, row_if}
use Rattle.fop.specs.Effective.{in_service}
use Rattle.fop.specs.declared.Lower.{Lower}
use Rattle.fop.specs.Store.{store_need}
use Rattle.fop.specs.declared.Event.{Event as FopEvent}
use Rattle.fop.specs.declared.Event.TheVariants.{E15}
use Rattle.fop.specs.Table.{event_number}
use Rattle.fop.specs.Events.{lower_event}
use Rattle.sender_events.specs.Events.{event_of_word, event_of_directive, window_of, event_of_expiry, event_of_ad, event_of_bd}
use Rattle.sender_frames.specs.Limits.{need_of}
use Rattle.sender_frames.specs.Frames.{handed_writing, unit_before, unit_offered, must_be_unit}
use Rattle.sender.specs.declared.Event.{Event}
use Rattle.sender.specs.declared.Event.TheVariants as event
use Rattle.sender.specs.Answers.{Step, refused_step, step_by}

-- the store without the units that the event confirms; the others that were held before it move down, those too that it then denies or rejects
abbrev pub store_served : SenderState → Work → List ℕ → List ℕ
store_served s w store =
    without s.lengths w.told.confirmed.count (units_held s.queues.sent s.queues.waiting - w.told.confirmed.count) store

-- and the lengths of the units that stay
abbrev pub lengths_served : SenderState → Work → List ℕ
lengths_served s w = slid w.told.confirmed.count s.lengths

-- an event that offers no unit, if it is one of the table, and the work on it: the units confirmed leave the store's front
unfoldable pub served_by : Option FopEvent → SenderState → Work → List ℕ → List ℕ → Step
served_by event s w store output =
    step_by event s w (lengths_served s w) (handed_writing s.settings w.told.handed (unit_before s w store) (length output)) (store_served s w store) store output

-- the same by the event's row, with the value n that it brings; 11 where the lent store is too short for the window k and the units sent
unfoldable pub served : ℕ → Option FopEvent → ℕ → SenderState → SenderState → List ℕ → List ℕ → Step
served k event n s g store output =
    must (leb (store_need k s.queues.sent) (length store)) (refused_step 11 s store output)
    (served_by event s (row_if event n (begun g)) store output)

-- the unit offered is added to the Wait_Queue: E19 in S1 to S3
abbrev pub added : FopEvent → SenderState → Bool
added event s = both (eqb (event_number event) 19) (in_service s.state)

-- the lengths with that of the unit offered, n, behind the sent ones, where it is added to the Wait_Queue
abbrev pub lengths_offered : FopEvent → SenderState → ℕ → List ℕ
lengths_offered event s n = pick (added event s) (set s.lengths s.queues.sent n) s.lengths

-- an AD request by its event and the work on it: the unit offered goes into the store behind the sent ones
unfoldable pub offered_by : FopEvent → SenderState → Work → List ℕ → List ℕ → List ℕ → Step
offered_by event s w o store output =
    step_by (Some event) s w (lengths_offered event s (length o)) (handed_writing s.settings w.told.handed (unit_offered s w o store) (length output))
    (pick (added event s) (unit_put s.queues.sent o store) store)
    store output

-- Request to transfer an AD unit
unfoldable pub request_ad_of : SenderState → List ℕ → List ℕ → List ℕ → Step
request_ad_of s o store output =
    must_be_unit o (refused_step 10 s store output)
    (must (leb (need_of s) (length store)) (refused_step 11 s store output)
    (offered_by (event_of_ad s) s (row_of (event_of_ad s) 0 (begun s)) o store output))

-- a BD request by its event and the work on it
unfoldable pub bypassed_by : FopEvent → SenderState → Work → List ℕ → List ℕ → List ℕ → Step
bypassed_by event s w o store output = step_by (Some event) s w s.lengths (handed_writing s.settings w.told.handed o (length output)) store store output

-- Request to transfer a BD unit
unfoldable pub request_bd_of : SenderState → List ℕ → List ℕ → List ℕ → Step
request_bd_of s o store output =
    must_be_unit o (refused_step 10 s store output)
    (must (leb (need_of s) (length store)) (refused_step 11 s store output)
    (bypassed_by (event_of_bd s) s (row_of (event_of_bd s) 0 (begun s)) o store output))

-- a directive by its number d and value v: 12 for the invalid directive, E40
unfoldable pub directive_of : ℕ → ℕ → SenderState → List ℕ → List ℕ → Step
directive_of d v s store output =
    pick (eqb (event_number (event_of_directive d v s)) 40) (refused_step 12 s store output)
    (served (window_of d v s.settings.k) (Some (event_of_directive d v s)) v s s store output)

-- "A tick lowers a running timer by one"
abbrev pub ticked : SenderState → SenderState
ticked s = record {
  state = s.state;
  settings = s.settings;
  variables = clocked (s.variables.timer - 1) s.variables.transmission_count s.variables;
  queues = s.queues;
  lengths = s.lengths;
}

-- "the tick that makes it zero is the expiry"; any other is no event of the table
abbrev pub event_of_tick : SenderState → Option FopEvent
event_of_tick s = pick (eqb s.variables.timer 1) (Some (event_of_expiry (ticked s))) None

-- a tick
unfoldable pub tick_of : SenderState → List ℕ → List ℕ → Step
tick_of s store output = served s.settings.k (event_of_tick s) 0 s (ticked s) store output

-- an answer of the lower layer
unfoldable pub lower_layer_of : Lower → SenderState → List ℕ → List ℕ → Step
lower_layer_of l s store output = served s.settings.k (Some (lower_event l)) 0 s s store output

-- a control word as it was read: 10 where it is not of four octets, 7 where it is another channel's; an invalid one is E15
abbrev pub word_by : WordReading → SenderState → List ℕ → List ℕ → Step
word_by (Ok (Some r)) s store output = served s.settings.k (Some (event_of_word r.word s)) r.word.report s s store output
word_by (Ok None) s store output = served s.settings.k (Some E15) 0 s s store output
word_by (Err refusal) s store output = refused_step (refusal_number refusal) s store output

-- a control word, any octets
unfoldable pub control_word_of : List ℕ → SenderState → List ℕ → List ℕ → Step
control_word_of octets s store output = word_by (reading_of octets s.settings.channel) s store output

-- any event, with the octets lent beside it: the unit of a request, or the control word; the others bring none
unfoldable pub event_of : Event → List ℕ → SenderState → List ℕ → List ℕ → Step
event_of event.RequestAd octets s store output = request_ad_of s octets store output
event_of event.RequestBd octets s store output = request_bd_of s octets store output
event_of event.Tick octets s store output = tick_of s store output
event_of (event.LowerLayer l) octets s store output = lower_layer_of l s store output
event_of (event.Directive d v) octets s store output = directive_of d v s store output
event_of event.ControlWord octets s store output = control_word_of octets s store output
