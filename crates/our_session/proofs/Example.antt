-- A session of our own two ends, computed: the first frame is lost and sent again when the timer expires, a second unit waits until the lower
-- layer is ready, both are accepted, and one control word confirms both (`our_session`). And two ends that come to the session's start by
-- Initiate with Set V(R), its frame sent twice: Transmission_Count and the FARM-B counter are 2 there (`twice_begins`, `twice_received`). And a
-- sender at a start with two numbers far apart (`far_start`). And Set K with units outstanding, judged by the new K (`set_k_lem`);
-- once they are confirmed a smaller store suffices (`need_after`). And a suspension and its Resume (`our_suspension`).
use Rattle.std.specs.Prelude.{Option, Some, None}
use mathlib.Core.Path.{◌≡◌, refl, ap, ◌∙◌}
use mathlib.Core.Bool.{true, false}
use mathlib.Core.List.{List, [], ◌∷◌}
use mathlib.Core.Option.{some}
use Prim.Native.Nat.{ℕ, ◌-◌, ◌≤◌}
use lib.Dec.{leb→le}
use lib.ListN.{length, replicate}
use Rattle.fop.specs.Units.{Fdu, SetVR, written}
use Rattle.fop.specs.declared.Lower.TheVariants.{AdAccept, BcAccept}
use Rattle.fop.specs.declared.Event.{Event as FopEvent}
use Rattle.fop.specs.Table.{event_number}
use Rattle.fop.specs.declared.State.{State}
use Rattle.fop.specs.declared.State.TheVariants.{S1, S6}
use Rattle.fop.specs.Variables.{Fop}
use Rattle.sender_view.specs.View.{fop_of}
use Rattle.fop.specs.Store.{larger, store_need}
use Rattle.fop.specs.Events.{SenderEvent, request_ad, tick, lower, directive, word_arrives}
use Rattle.receiver.specs.Receiver.{at_start}
use Rattle.receiver.specs.declared.Receiver.{Receiver}
use Rattle.session.specs.Receiver.{frame_arrives, word_length, receiver_next, receiver_word}
use Rattle.session.specs.Ends.{Settings, Within, start_sender, start_receiver}
use Rattle.session.specs.Session.{Event, ad_request, ticks, lower_says, word_made, word_in, frame_in, frame_lost}
use Rattle.session.proofs.Trace.{computing, settings, after}
use Rattle.frame.specs.Frame.{raw_writing}
use Rattle.store.specs.Places as stored
use Rattle.store.specs.Slid as slide
use Rattle.memory.specs.Placed as place
use Rattle.sender_values.specs.declared.Queues.{Queues}
use Rattle.sender_values.specs.declared.Variables.{Variables}
use Rattle.sender_values.specs.Actions as act
use Rattle.sender_values.specs.Parts as parts
use Rattle.sender_values.specs.Start as start
use Rattle.sender_table.specs.Rows as rows
use Rattle.sender_events.specs.Events as event
use Rattle.sender.specs.Answers as answers
use Rattle.sender.specs.Start as starting
use Rattle.sender_frames.specs.Frames as frames
use Rattle.sender.specs.Events as sender
use Rattle.our_session.specs.Ours.{Held, sender_settings, lent_output, step_of, held_after, sender_started, fresh_held, held_after_all, start_held, reads, Begins, ours}
use Rattle.our_session.proofs.Theorem.{next_all, tables_all, Suffices, all_suffice, begins_after, fresh_good, fresh_reads}

abbrev set : Settings
set = settings 3 2 1 3

abbrev store : List ℕ
store = replicate (store_need set.k 0) 0

abbrev events : List Event
events =
    ad_request (17 ∷ []) 256 ∷ frame_lost ∷ lower_says AdAccept 256 ∷ ticks 256 ∷ ad_request (34 ∷ 35 ∷ []) 256 ∷ lower_says AdAccept 256 ∷ frame_in ∷ frame_in
    ∷ word_made 4 ∷ word_in 256 ∷ []

abbrev units : List Fdu
units = record { ns = 254; octets = 17 ∷ [] } ∷ record { ns = 255; octets = 34 ∷ 35 ∷ [] } ∷ []

-- to unfold this is to unfold every definition that our two ends compute with
unfoldable pub computing_ours : Unit {0}
unfolding computing raw_writing fresh_held step_of starting.starting_of start.start_of start.none_told start.begun start.sender_of frames.handed_writing sender.served_by
    sender.served sender.offered_by sender.request_ad_of sender.directive_of sender.tick_of sender.lower_layer_of sender.control_word_of answers.answered
    answers.refusing event.event_of_word event.event_of_directive event.event_of_expiry event.event_of_ad rows.done rows.done_all rows.done_cell
    rows.row_of rows.row_if parts.with_settings parts.with_variables parts.with_queues parts.with_told act.to_state act.start_timer
    act.cancel_timer act.count_one act.ad_out_ready act.set_suspend_state act.responses_with act.respond act.hand_down act.abort act.add_to_wait_queue
    act.hold_control act.release_bc_frame act.transmit_ad_frame act.send_marked act.in_window act.look_for_fdu act.again act.initiate_ad_retransmission
    act.set_vs act.set_nnr act.notify act.alert act.remove_acknowledged_frames act.emptied act.deny_control act.purge_sent_queue act.not_waiting
    act.purge_wait_queue act.initialise slide.slid stored.without place.placed larger
computing_ours = tt

pub our_session : (after set (ours set (start_held set store)) events).history
    ≡ record { sent = units; accepted = units; confirmed = some 0 ∷ some 1 ∷ []; denied = []; released = 0; locked_out = false; sent_bd = []; accepted_bd = [] }
unfolding computing_ours
our_session = refl

-- The sender starts at 0. The lower layer takes the frame of Set V(R), the timer expires, and the lower layer takes it again; then a control
-- word reports V(R).
abbrev twice : Settings
twice = record { n = 254; k = 3; w = 10; buffers = 2; t1 = 1; limit = 3; timeout_type = 0; own = set.own; count = 2; counter = 2 }

abbrev receiver_twice : Receiver
receiver_twice =
    let frame = written set.own (SetVR 254) in
    receiver_next (frame_arrives frame) (receiver_next (frame_arrives frame) (at_start set.own.spacecraft set.own.channel 10 0 2))

abbrev word_twice : List ℕ
word_twice = 1 ∷ 36 ∷ 4 ∷ 254 ∷ []

abbrev initiating : List (SenderEvent × ℕ)
initiating =
    (directive 4 254, 256) ∷ (lower BcAccept, 256) ∷ (tick, 256) ∷ (lower BcAccept, 256) ∷ (word_arrives word_twice, 256) ∷ []

pub twice_received : (receiver_twice ≡ start_receiver twice) × (receiver_word word_length receiver_twice ≡ record { refusal = 0; word = some word_twice })
unfolding computing
twice_received = (refl, refl)

twice_within : Within twice
twice_within = record {
  number = leb→le _ _ tt;
  window_least = leb→le _ _ tt;
  window_most = leb→le _ _ tt;
  even = refl;
  farm_least = leb→le _ _ tt;
  farm_most = leb→le _ _ tt;
  fits = leb→le _ _ tt;
  buffers_least = leb→le _ _ tt;
  buffers_most = leb→le _ _ tt;
  timer_least = leb→le _ _ tt;
  timer_most = leb→le _ _ tt;
  limit_least = leb→le _ _ tt;
  limit_most = leb→le _ _ tt;
  timeout_most = leb→le _ _ tt;
  spacecraft = leb→le _ _ tt;
  channel = leb→le _ _ tt;
  count_least = leb→le _ _ tt;
  count_most = leb→le _ _ tt;
  counter_most = leb→le _ _ tt;
}

-- a store of any octets that is long enough
module _ (lent : List ℕ) (long : store_need twice.k 0 ≤ length lent) where
  -- K is 3 and no unit is outstanding at each of these events
  abbrev first : Fop
  first = fop_of (start.begun (start.start_of (sender_settings twice) 0 0)) (start.start_of (sender_settings twice) 0 0).lengths lent

  twice_suffices : Suffices set.own (length lent) initiating first
  unfolding computing start.start_of start.begun larger
  twice_suffices = (long, (long, (long, (long, (long, tt)))))

  twice_tables : tables_all set.own initiating first ≡ start_sender twice
  unfolding computing start.start_of start.begun
  twice_tables = refl

  twice_reads : next_all set.own (length lent) initiating (reads (fresh_held twice 0 lent)) ≡ start_sender twice
  twice_reads =
      ap (next_all set.own (length lent) initiating) (fresh_reads twice twice_within 0 (leb→le _ _ tt) lent long)
      ∙ all_suffice set.own (length lent) initiating first twice_suffices ∙ twice_tables

  pub twice_begins : Begins twice (held_after_all initiating (fresh_held twice 0 lent))
  unfolding fresh_held
  twice_begins = begins_after twice initiating (fresh_held twice 0 lent) (fresh_good twice twice_within 0 (leb→le _ _ tt) lent long) twice_reads

-- A start with V(S) 200 and NN(R) 0, further apart than any K: the first unit waits until Terminate; Set V(S) brings both to one number, and the
-- next unit is handed down, in a frame of 8 octets.
abbrev far : Held
far = record { sender = sender_started (starting.starting_of (sender_settings set) 200 0 (length store)); store = store }

-- the number of an event in table 7-8, 0 where there is none
abbrev number_of : Option FopEvent → ℕ
number_of None = 0
number_of (Some event) = event_number event

-- the number of each event, and the count of octets handed down
abbrev events_of : List SenderEvent → Held → List (ℕ × ℕ)
events_of [] x = []
events_of (e ∷ es) x =
    let step = step_of e (lent_output 256) x in
    (number_of step.answer.event, step.answer.down) ∷ events_of es (held_after step)

abbrev offering : SenderEvent
offering = request_ad (17 ∷ [])

pub far_start : events_of (directive 1 0 ∷ offering ∷ directive 5 0 ∷ directive 7 6 ∷ directive 1 0 ∷ offering ∷ []) far
    ≡ (23, 0) ∷ (19, 0) ∷ (29, 0) ∷ (35, 0) ∷ (23, 0) ∷ (19, 8) ∷ []
unfolding computing_ours
far_start = refl

-- Set K with two units outstanding, K being 3: the refusal, and K after it. Downwards with a store that suffices for the new K and the two, which
-- is less than the former K needs; with an octet less; upwards with the former K's store; upwards with one that suffices; an invalid value.
abbrev outstanding : Held
outstanding =
    held_after_all ((request_ad (17 ∷ []), 8) ∷ (lower AdAccept, 0) ∷ (request_ad (34 ∷ []), 8) ∷ []) (start_held set store)

abbrev set_k : ℕ → ℕ → ℕ × ℕ
set_k k lent =
    let step = step_of (directive 8 k) [] (record { sender = outstanding.sender; store = replicate lent 0 }) in
    (step.answer.refusal, step.answer.next.fop.settings.k)

pub set_k_lem : (outstanding.sender.fop.queues.sent ≡ 2)
    × (set_k 1 (store_need 1 2) ≡ (0, 1))
    × (set_k 1 (store_need 1 2 - 1) ≡ (11, 3))
    × (set_k 4 (store_need 3 2) ≡ (11, 3))
    × (set_k 4 (store_need 4 2) ≡ (0, 4))
    × (set_k 0 0 ≡ (12, 3))
unfolding computing_ours act.set_k
set_k_lem = (refl, refl, refl, refl, refl, refl)

-- After Set K from 3 to 1 with the two outstanding, with a store for the two, a control word confirms both (V(R) is 0). Then a store for K, which
-- is less, suffices for a request and for a tick; an octet less is refused.
abbrev narrowed_k : Held
narrowed_k = held_after (step_of (directive 8 1) [] (record { sender = outstanding.sender; store = replicate (store_need 1 2) 0 }))

abbrev confirmed_both : Held
confirmed_both = held_after (step_of (word_arrives (1 ∷ 36 ∷ 0 ∷ 0 ∷ [])) [] narrowed_k)

abbrev refusal_with : SenderEvent → ℕ → ℕ
refusal_with e lent = (step_of e (lent_output 8) (record { sender = confirmed_both.sender; store = replicate lent 0 })).answer.refusal

pub need_after : (narrowed_k.sender.fop.settings.k ≡ 1)
    × (narrowed_k.sender.fop.queues.sent ≡ 2)
    × (confirmed_both.sender.fop.queues.sent ≡ 0)
    × (refusal_with offering (store_need 1 0) ≡ 0)
    × (refusal_with offering (store_need 1 0 - 1) ≡ 11)
    × (refusal_with tick (store_need 1 0) ≡ 0)
    × (refusal_with tick (store_need 1 0 - 1) ≡ 11)
unfolding computing_ours act.set_k
need_after = (refl, refl, refl, refl, refl, refl, refl)

-- Told Timeout_Type 1 at a limit of 3, with one unit outstanding and marked and one waiting: the third expiry suspends (E18, the two before it are E104).
-- While suspended an AD request is rejected, and Terminate changes nothing. Resume (E31) brings back queues with marks, V(S) and NN(R), and starts the timer.
abbrev left : Held
left =
    held_after_all ((directive 11 1, 0) ∷ (request_ad (17 ∷ []), 8) ∷ (request_ad (34 ∷ []), 0) ∷ (tick, 0) ∷ (tick, 0) ∷ []) (start_held set store)

abbrev suspended : Held
suspended = held_after (step_of tick [] left)

abbrev resumed : Held
resumed = held_after_all ((offering, 0) ∷ (directive 5 0, 0) ∷ (directive 6 0, 0) ∷ []) suspended

-- the state, the variables and the queues
abbrev seen : Held → State × Variables × Queues
seen x = (x.sender.fop.state, x.sender.fop.variables, x.sender.fop.queues)

abbrev standing : State → ℕ → ℕ → State × Variables × Queues
standing state suspend_state timer = (
  state,
  record {
    vs = 255;
    nnr = 254;
    timer = timer;
    transmission_count = 3;
    ad_out = false;
    bc_out = true;
    bd_out = true;
    suspend_state = suspend_state;
  },
  record { sent = 1; marked = 1; waiting = true; control = None; control_marked = false },
)

pub our_suspension : (seen left ≡ standing S1 0 1)
    × ((step_of tick [] left).answer.suspended ≡ true)
    × (seen suspended ≡ standing S6 1 0)
    × (seen resumed ≡ standing S1 0 1)
    × (events_of (tick ∷ offering ∷ directive 5 0 ∷ directive 6 0 ∷ []) left ≡ (18, 0) ∷ (20, 0) ∷ (29, 0) ∷ (31, 0) ∷ [])
unfolding computing_ours act.set_timeout_type act.suspend act.resumed
our_suspension = (refl, refl, refl, refl, refl)
