-- How examples of the sender are written: what the table machine computes with, and its answers, each by its event and next state with what it tells
-- besides.
use mathlib.Core.Bool.{Bool, true, false}
use mathlib.Core.List.{List, []}
use mathlib.Core.Option.{Option, none, some}
use Prim.Native.Nat.{ℕ}
use Rattle.std.specs.Prelude as code
use Rattle.std.specs.Prelude.{None, Some}
use Rattle.base.specs.Octets as octets
use Rattle.base.specs.Fields as fields
use Rattle.base.specs.Register as register
use Rattle.fecf.specs.Fecf as fecf
use Rattle.frame_header.specs.Header as header
use Rattle.frame.specs.Frame as frame
use Rattle.clcw.specs.Clcw as clcw
use Rattle.clcw.specs.Answers as clcw_answers
use Rattle.fop.specs.Units as units
use Rattle.fop.specs.Table as table
use Rattle.fop.specs.Machine as machine
use Rattle.fop.specs.Events as events
use Rattle.fop.specs.Answers as answers
use Rattle.fop.specs.Store as store
use Rattle.fop.specs.declared.Alert.{Alert}
use Rattle.fop.specs.declared.State.{State}
use Rattle.fop.specs.declared.Response.{Response}
use Rattle.fop.specs.declared.Run.{Run}
use Rattle.fop.specs.declared.Event.{Event as FopEvent}
use Rattle.fop.specs.Answers.{Answer}

-- to unfold this is to unfold every definition that the sender's table machine computes with
unfoldable pub computing : Unit {0}
unfolding units.legal units.written units.word_octets units.read_word table.table78 machine.transmit_ad machine.send_waiting machine.send_next
    machine.look_for_fdu machine.look_for_directive machine.transmit_bc machine.deny_bc machine.reject_waiting machine.purge machine.remove_acknowledged
    machine.perform machine.perform_all machine.perform_cell machine.fop_do events.word_event events.fop_word events.fop_ad events.fop_bd events.fop_expiry
    events.fop_tick events.fop_lower events.directive_event events.fop_directive events.fop_received events.work answers.needed answers.judged
    answers.sender_refusal answers.sender_answer answers.sender_next store.larger store.store_refusal store.lent_answer store.lent_next frame.body_of frame.raw_frame
    header.header_fields header.header_of clcw.word_fields clcw.clcw_of clcw.is_valid clcw.word_of clcw_answers.received_of clcw_answers.reading_of fecf.fecf_of
    register.shift_bit register.shift_bits register.register fields.digits_of fields.value_of fields.packed fields.octets_of fields.field_at
    octets.bits_of octets.octet_bits
computing = tt

-- an answer: by an event, or a tick that is no expiry, to a next state
abbrev nothing : Run
nothing = record { number = 0; count = 0 }

abbrev answering : Option FopEvent → State → Answer
answering e s = record {
  refusal = 0;
  event = e;
  state = s;
  down = none;
  abort = false;
  responses = [];
  alert = None;
  suspended = false;
  confirmed = nothing;
  denied = nothing;
}

abbrev pub by : FopEvent → State → Answer
by e s = answering (some e) s

abbrev pub no_event : State → Answer
no_event s = answering none s

-- the same answer but for the frame, the abort, the responses, the alert, the Suspend notification and the runs
abbrev telling : Option (List ℕ) → Bool → List Response → code.Option Alert → Bool → Run → Run → Answer → Answer
telling d b r l s c n a = record {
  refusal = a.refusal;
  event = a.event;
  state = a.state;
  down = d;
  abort = b;
  responses = r;
  alert = l;
  suspended = s;
  confirmed = c;
  denied = n;
}

-- and but for one of them
abbrev pub with_down : Option (List ℕ) → Answer → Answer
with_down d a = telling d a.abort a.responses a.alert a.suspended a.confirmed a.denied a

abbrev pub with_confirmed : Run → Answer → Answer
with_confirmed r a = telling a.down a.abort a.responses a.alert a.suspended r a.denied a

abbrev pub down : List ℕ → Answer → Answer
down o a = with_down (some o) a

abbrev pub confirming : ℕ → ℕ → Answer → Answer
confirming n c a = with_confirmed (record { number = n; count = c }) a

abbrev pub denying : ℕ → ℕ → Answer → Answer
denying n c a = telling a.down a.abort a.responses a.alert a.suspended a.confirmed (record { number = n; count = c }) a

abbrev pub aborting : Answer → Answer
aborting a = telling a.down true a.responses a.alert a.suspended a.confirmed a.denied a

abbrev pub responding : List Response → Answer → Answer
responding r a = telling a.down a.abort r a.alert a.suspended a.confirmed a.denied a

abbrev pub alerting : Alert → Answer → Answer
alerting r a = telling a.down a.abort a.responses (Some r) a.suspended a.confirmed a.denied a

abbrev pub suspending : Bool → Answer → Answer
suspending s a = telling a.down a.abort a.responses a.alert s a.confirmed a.denied a
