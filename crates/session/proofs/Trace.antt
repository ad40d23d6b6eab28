-- How the examples are written: their settings, what the table machines answer, event by event, and what they compute with.
use mathlib.Core.List.{List, [], ◌∷◌}
use mathlib.Core.Option.{none, some}
use Prim.Native.Nat.{ℕ}
use Rattle.base.specs.Octets as octets
use Rattle.base.specs.Fields as fields
use Rattle.base.specs.Register as register
use Rattle.fecf.specs.Fecf as fecf
use Rattle.frame_header.specs.Header as header
use Rattle.frame.specs.Frame as frame
use Rattle.frame.specs.Answers as frame_answers
use Rattle.clcw.specs.Clcw as clcw
use Rattle.clcw.specs.Answers as clcw_answers
use Rattle.farm.specs.Table as t79
use Rattle.farm.specs.Window as window
use Rattle.receiver.specs.Channel as channel
use Rattle.receiver.specs.Receiver as receiver
use Rattle.farm.specs.declared.Event.{Event as FarmEvent}
use Rattle.receiver.specs.declared.Receiver.{Receiver}
use Rattle.fop.specs.Units as units
use Rattle.fop.specs.Table as table
use Rattle.fop.specs.Variables.{Fop}
use Rattle.fop.specs.Machine as machine
use Rattle.fop.specs.Events as events
use Rattle.fop.specs.Events.{request_ad, request_bd, tick, lower, directive, word_arrives}
use Rattle.fop.specs.Answers as answers
use Rattle.fop.specs.Answers.{Answer, sender_answer}
use Rattle.session.specs.Frames as frames
use Rattle.session.specs.Receiver as rcv
use Rattle.session.specs.Receiver.{frame_arrives, release_buffer, ReceiverAnswer, receiver_answer}
use Rattle.session.specs.Ends as ends
use Rattle.session.specs.Ends.{Settings, Ends, tables}
use Rattle.session.specs.Session as ses
use Rattle.session.specs.Session.{Event, Linked, step, ad_request, bd_request, ticks, lower_says, terminate, resume, word_in, word_lost, word_made, frame_in, frame_lost, release}
use Rattle.session.specs.Claims.{outstanding}
pub use Rattle.fop.proofs.Trace.{by, no_event, with_down, with_confirmed, down, confirming, denying, aborting, responding, alerting, suspending}

-- to unfold this is to unfold every definition that a session of the table machines computes with
unfoldable pub computing : Unit {0}
unfolding outstanding ses.run ses.begins ses.step ses.to_sender ses.word_come ses.frame_come ses.releases ses.after_sender ses.after_frame ses.after_release
    ends.start_sender ends.start_receiver rcv.receiver_next rcv.receiver_answer rcv.receiver_word frames.read units.legal units.written
    units.word_octets units.read_word table.table78 machine.transmit_ad machine.send_waiting machine.send_next machine.look_for_fdu machine.look_for_directive
    machine.transmit_bc machine.deny_bc machine.reject_waiting machine.purge machine.remove_acknowledged machine.perform machine.perform_all machine.perform_cell
    machine.fop_do events.word_event events.fop_word events.fop_ad events.fop_bd events.fop_expiry events.fop_tick events.fop_lower
    events.directive_event events.fop_directive events.fop_received events.work answers.needed answers.judged answers.sender_refusal
    answers.sender_answer answers.sender_next t79.table t79.perform t79.perform_all t79.step_of t79.accepts window.ad_event channel.event_of channel.answered channel.arrived
    receiver.answered receiver.arrived receiver.by_reading receiver.receive_of receiver.unit_part receiver.release_of receiver.word_of frame.body_of
    frame.raw_frame frame.total_of frame.data_field frame.is_command frame.command_held header.valid_header frame.header_refusal frame.content_refusal frame.refusal_of frame.kind_of
    frame_answers.fields_of frame_answers.reading_of frame_answers.part_of header.header_fields header.header_of clcw.word_fields clcw.clcw_of clcw.writing
    clcw.is_valid clcw.word_of clcw_answers.received_of clcw_answers.reading_of fecf.fecf_of fecf.syndrome_of register.shift_bit register.shift_bits
    register.register fields.digits_of fields.value_of fields.packed fields.octets_of fields.field_at octets.bits_of octets.octet_bits
computing = tt

-- the settings of the examples, by K, the count of buffers, T1_Initial and Transmission_Limit
abbrev pub settings : ℕ → ℕ → ℕ → ℕ → Settings
settings k buffers t1 limit =
    record { n = 254; k = k; w = 10; buffers = buffers; t1 = t1; limit = limit; timeout_type = 0; own = record { spacecraft = 5; channel = 9 }; count = 1; counter = 0 }

-- the session of a pair of ends after a list of events
abbrev pub after : Settings → (m : Ends) → List Event → Linked m
after set m es = ses.run set m es (ses.begins m)

-- the sender's answer, the receiver's, or none
pub data Said : Type 0 where
  S : Answer → Said
  R : ReceiverAnswer → Said
  N : Said

abbrev ask : Settings → List (List ℕ) → ℕ → Fop → Said
ask s [] l f = N
ask s (w ∷ ws) l f = S (sender_answer s.own (word_arrives w) l f)

abbrev arrive : List (List ℕ) → Receiver → Said
arrive [] r = N
arrive (x ∷ xs) r = R (receiver_answer (frame_arrives x) r)

abbrev pub said : (s : Settings) → Event → Linked (tables s) → Said
said s (ad_request o l) σ = S (sender_answer s.own (request_ad o) l σ.sender)
said s (bd_request o l) σ = S (sender_answer s.own (request_bd o) l σ.sender)
said s (ticks l) σ = S (sender_answer s.own tick l σ.sender)
said s (lower_says x l) σ = S (sender_answer s.own (lower x) l σ.sender)
said s (terminate v l) σ = S (sender_answer s.own (directive 5 v) l σ.sender)
said s (resume v l) σ = S (sender_answer s.own (directive 6 v) l σ.sender)
said s (word_in l) σ = ask s σ.words l σ.sender
said s word_lost σ = N
said s (word_made l) σ = N
said s frame_in σ = arrive σ.frames σ.receiver
said s frame_lost σ = N
said s release σ = R (receiver_answer release_buffer σ.receiver)

abbrev pub trace : (s : Settings) → List Event → Linked (tables s) → List Said
trace s [] σ = []
trace s (e ∷ es) σ = said s e σ ∷ trace s es (step s (tables s) e σ)

-- the receiver's: an event that hands out no unit, and one that does
abbrev pub discarding : FarmEvent → ReceiverAnswer
discarding e = record { refusal = 0; event = some e; unit = none }

abbrev pub handing : List ℕ → FarmEvent → ReceiverAnswer
handing o e = record { refusal = 0; event = some e; unit = some o }
