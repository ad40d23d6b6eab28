-- A sender at its start, and the work on an event at its start and at its end.
use Rattle.std.specs.Prelude.{ℕ, true, false, List, replicate, None}
use Rattle.fop.specs.declared.State.TheVariants.{S6}
use Rattle.sender_values.specs.declared.Settings.{Settings}
use Rattle.sender_values.specs.declared.SenderState.{SenderState}
use Rattle.sender_values.specs.declared.Told.{Told}
use Rattle.sender_values.specs.declared.Work.{Work}
use Rattle.store.specs.Places.{places}
use Rattle.sender_values.specs.Limits.{largest_responses}

-- document 01: "A sender starts Initial, flags ready, queues empty, timer stopped, Transmission_Count 1, with the numbers and settings given"
unfoldable pub start_of : Settings → ℕ → ℕ → SenderState
start_of settings vs nnr = record {
  state = S6;
  settings = settings;
  variables = record {
    vs = vs;
    nnr = nnr;
    timer = 0;
    transmission_count = 1;
    ad_out = true;
    bc_out = true;
    bd_out = true;
    suspend_state = 0;
  };
  queues = record { sent = 0; marked = 0; waiting = false; control = None; control_marked = false };
  lengths = replicate places 0;
}

-- nothing is told yet
unfoldable pub none_told : Told
none_told = record {
  handed = None;
  abort = false;
  alert = None;
  suspended = false;
  responses = record { count = 0; numbers = replicate largest_responses 0 };
  confirmed = record { number = 0; count = 0 };
  denied = record { number = 0; count = 0 };
}

-- the work on an event at its start
unfoldable pub begun : SenderState → Work
begun s = record { state = s.state; settings = s.settings; variables = s.variables; queues = s.queues; told = none_told }

-- the sender that the work leaves, with the lengths of its units
unfoldable pub sender_of : Work → List ℕ → SenderState
sender_of w lengths = record { state = w.state; settings = w.settings; variables = w.variables; queues = w.queues; lengths = lengths }
