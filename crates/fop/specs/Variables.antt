-- FOP-1's variables (clause 7.2.2), and what the work on an event has come to.
use Rattle.std.specs.Prelude.{Bool, true, false, List, [], ◌∷◌, ◌++◌, ℕ, None}
use Rattle.std.specs.Prelude as code
use Rattle.std.proofs.Math.Option.{Option, none}
use Rattle.fop.specs.declared.Alert.{Alert}
use Rattle.fop.specs.declared.Response.{Response}
use Rattle.fop.specs.declared.State.{State}
use Rattle.fop.specs.declared.State.TheVariants.{S6}
use Rattle.fop.specs.Units.{Fdu, Frame}
use Rattle.fop.specs.declared.Event.{Event as FopEvent}

-- a type-AD frame on the Sent_Queue; marked is its To_Be_Retransmitted_Flag
pub record Entry : Type 0 where
  pub fdu : Fdu
  pub marked : Bool

-- the type-BC frame on the Sent_Queue, likewise
pub record BcEntry : Type 0 where
  pub frame : Frame
  pub marked : Bool

-- vs is V(S), nnr is NN(R)
pub record Numbers : Type 0 where
  pub vs : ℕ
  pub nnr : ℕ

-- what directives set: K (FOP_Sliding_Window_Width), Transmission_Limit, T1_Initial, Timeout_Type
pub record Preset : Type 0 where
  pub k : ℕ
  pub transmission_limit : ℕ
  pub t1_initial : ℕ
  pub timeout_type : ℕ

-- the timer's ticks left, 0 where it is stopped, and Transmission_Count
pub record Clock : Type 0 where
  pub timer : ℕ
  pub transmission_count : ℕ

-- AD_Out_Flag, BC_Out_Flag, BD_Out_Flag: true where Ready
pub record OutFlags : Type 0 where
  pub ad : Bool
  pub bc : Bool
  pub bd : Bool

-- sent_queue and bc_frame are the Sent_Queue, which never holds AD and BC frames together; "The wait queue holds one unit"
pub record Queues : Type 0 where
  pub sent_queue : List Entry
  pub wait_queue : Option (List ℕ)
  pub bc_frame : Option BcEntry

-- the variables
pub record Fop : Type 0 where
  pub state : State
  pub suspend_state : ℕ
  pub numbers : Numbers
  pub preset : Preset
  pub clock : Clock
  pub out : OutFlags
  pub queues : Queues

-- "A sender starts Initial, flags ready, queues empty, timer stopped, Transmission_Count 1, with the numbers and settings given": V(S), NN(R)
abbrev pub at_start : ℕ → ℕ → Preset → Fop
at_start vs nnr preset = record {
  state = S6;
  suspend_state = 0;
  numbers = record { vs = vs; nnr = nnr };
  preset = preset;
  clock = record { timer = 0; transmission_count = 1 };
  out = record { ad = true; bc = true; bd = true };
  queues = record { sent_queue = []; wait_queue = none; bc_frame = none };
}

-- The variables with some of them changed.

-- the state
abbrev pub set_state : State → Fop → Fop
set_state s f = record { state = s; suspend_state = f.suspend_state; numbers = f.numbers; preset = f.preset; clock = f.clock; out = f.out; queues = f.queues }

-- Suspend_State
abbrev pub set_suspend : ℕ → Fop → Fop
set_suspend s f = record { state = f.state; suspend_state = s; numbers = f.numbers; preset = f.preset; clock = f.clock; out = f.out; queues = f.queues }

-- V(S), NN(R) and the queues
abbrev pub set_numbered : Numbers → Queues → Fop → Fop
set_numbered n q f = record { state = f.state; suspend_state = f.suspend_state; numbers = n; preset = f.preset; clock = f.clock; out = f.out; queues = q }

-- what directives set
abbrev pub set_preset : Preset → Fop → Fop
set_preset p f = record { state = f.state; suspend_state = f.suspend_state; numbers = f.numbers; preset = p; clock = f.clock; out = f.out; queues = f.queues }

-- the timer, Transmission_Count and the flags
abbrev pub set_timed : Clock → OutFlags → Fop → Fop
set_timed c o f = record { state = f.state; suspend_state = f.suspend_state; numbers = f.numbers; preset = f.preset; clock = c; out = o; queues = f.queues }

-- V(S), NN(R) and the AD frames of the Sent_Queue
abbrev pub set_sequence : ℕ → ℕ → List Entry → Fop → Fop
set_sequence v n q f =
    set_numbered (record { vs = v; nnr = n }) (record { sent_queue = q; wait_queue = f.queues.wait_queue; bc_frame = f.queues.bc_frame }) f

-- the Wait_Queue
abbrev pub set_wait : Option (List ℕ) → Fop → Fop
set_wait w f = set_numbered f.numbers (record { sent_queue = f.queues.sent_queue; wait_queue = w; bc_frame = f.queues.bc_frame }) f

-- the type-BC frame of the Sent_Queue
abbrev pub set_bc : Option BcEntry → Fop → Fop
set_bc b f = set_numbered f.numbers (record { sent_queue = f.queues.sent_queue; wait_queue = f.queues.wait_queue; bc_frame = b }) f

-- the timer and Transmission_Count
abbrev pub set_clock : ℕ → ℕ → Fop → Fop
set_clock t c f = set_timed (record { timer = t; transmission_count = c }) f.out f

-- AD_Out_Flag, BC_Out_Flag, BD_Out_Flag
abbrev pub set_out : Bool → Bool → Bool → Fop → Fop
set_out a b d f = set_timed f.clock (record { ad = a; bc = b; bd = d }) f

-- K (FOP_Sliding_Window_Width)
abbrev pub with_k : ℕ → Preset → Preset
with_k v p = record { k = v; transmission_limit = p.transmission_limit; t1_initial = p.t1_initial; timeout_type = p.timeout_type }

-- Transmission_Limit
abbrev pub with_limit : ℕ → Preset → Preset
with_limit v p = record { k = p.k; transmission_limit = v; t1_initial = p.t1_initial; timeout_type = p.timeout_type }

-- T1_Initial
abbrev pub with_t1 : ℕ → Preset → Preset
with_t1 v p = record { k = p.k; transmission_limit = p.transmission_limit; t1_initial = v; timeout_type = p.timeout_type }

-- Timeout_Type
abbrev pub with_timeout_type : ℕ → Preset → Preset
with_timeout_type v p = record { k = p.k; transmission_limit = p.transmission_limit; t1_initial = p.t1_initial; timeout_type = v }

-- what an event brings: which it is of table 7-8, the unit and the value that it carries (N(R), or a directive's)
pub record Asked : Type 0 where
  pub event : Option FopEvent
  pub octets : List ℕ
  pub value : ℕ

-- an Abort request to the lower procedures, an Alert notification with its reason, a Suspend notification
pub record Notices : Type 0 where
  pub abort : Bool
  pub alert : code.Option Alert
  pub suspended : Bool

-- the work on an event: the variables, what is asked, and what is answered so far: the frames handed down (session, proofs/Few: at most one), the
-- units confirmed and denied, the responses in their order, the notices
pub record Work : Type 0 where
  pub fop : Fop
  pub asked : Asked
  pub frames : List Frame
  pub confirmed : List Fdu
  pub denied : List Fdu
  pub responses : List Response
  pub notices : Notices

-- the variables and the frames handed down are changed
abbrev pub on_work : Fop → List Frame → Work → Work
on_work f x w = record { fop = f; asked = w.asked; frames = x; confirmed = w.confirmed; denied = w.denied; responses = w.responses; notices = w.notices }

-- the variables are changed
abbrev pub on_fop : Fop → Work → Work
on_fop f w = on_work f w.frames w

-- a frame is handed down
abbrev pub hand_down : Frame → Work → Work
hand_down x w = on_work w.fop (w.frames ++ (x ∷ [])) w

-- units are confirmed or denied
abbrev pub runs : List Fdu → List Fdu → Work → Work
runs c d w = record { fop = w.fop; asked = w.asked; frames = w.frames; confirmed = c; denied = d; responses = w.responses; notices = w.notices }

-- what is said besides: responses and notices
abbrev pub says : List Response → Notices → Work → Work
says r n w = record { fop = w.fop; asked = w.asked; frames = w.frames; confirmed = w.confirmed; denied = w.denied; responses = r; notices = n }

-- one more response
abbrev pub respond : Response → Work → Work
respond r w = says (w.responses ++ (r ∷ [])) w.notices w

-- an Abort request, an Alert notification, a Suspend notification
abbrev pub tell : Bool → code.Option Alert → Bool → Work → Work
tell a r s w = says w.responses (record { abort = a; alert = r; suspended = s }) w

-- the work at its start
abbrev pub begin : Option FopEvent → List ℕ → ℕ → Fop → Work
begin e o v f = record {
  fop = f;
  asked = record { event = e; octets = o; value = v };
  frames = [];
  confirmed = [];
  denied = [];
  responses = [];
  notices = record { abort = false; alert = None; suspended = false };
}
