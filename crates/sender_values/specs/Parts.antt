-- The work with one of its parts changed.
use Rattle.std.specs.Prelude.{ℕ, Bool, Option}
use Rattle.sender_values.specs.declared.Settings.{Settings}
use Rattle.sender_values.specs.declared.Variables.{Variables}
use Rattle.sender_values.specs.declared.Control.{Control}
use Rattle.sender_values.specs.declared.Queues.{Queues}
use Rattle.sender_values.specs.declared.Handed.{Handed}
use Rattle.fop.specs.declared.Alert.{Alert}
use Rattle.sender_values.specs.declared.Responses.{Responses}
use Rattle.fop.specs.declared.Run.{Run}
use Rattle.sender_values.specs.declared.Told.{Told}
use Rattle.sender_values.specs.declared.Work.{Work}

-- other settings
unfoldable pub with_settings : Settings → Work → Work
with_settings s w = record { state = w.state; settings = s; variables = w.variables; queues = w.queues; told = w.told }

-- other variables
unfoldable pub with_variables : Variables → Work → Work
with_variables v w = record { state = w.state; settings = w.settings; variables = v; queues = w.queues; told = w.told }

-- other queues
unfoldable pub with_queues : Queues → Work → Work
with_queues q w = record { state = w.state; settings = w.settings; variables = w.variables; queues = q; told = w.told }

-- something else told
unfoldable pub with_told : Told → Work → Work
with_told t w = record { state = w.state; settings = w.settings; variables = w.variables; queues = w.queues; told = t }

-- the settings: K, T1_Initial, Transmission_Limit, Timeout_Type
abbrev pub setting : ℕ → ℕ → ℕ → ℕ → Settings → Settings
setting k t1 limit timeout s =
    record { k = k; t1_initial = t1; transmission_limit = limit; timeout_type = timeout; spacecraft = s.spacecraft; channel = s.channel }

-- the variables

-- V(S) and NN(R)
abbrev pub numbered : ℕ → ℕ → Variables → Variables
numbered vs nnr v = record {
  vs = vs;
  nnr = nnr;
  timer = v.timer;
  transmission_count = v.transmission_count;
  ad_out = v.ad_out;
  bc_out = v.bc_out;
  bd_out = v.bd_out;
  suspend_state = v.suspend_state;
}

-- the timer and Transmission_Count
abbrev pub clocked : ℕ → ℕ → Variables → Variables
clocked timer count v = record {
  vs = v.vs;
  nnr = v.nnr;
  timer = timer;
  transmission_count = count;
  ad_out = v.ad_out;
  bc_out = v.bc_out;
  bd_out = v.bd_out;
  suspend_state = v.suspend_state;
}

-- AD_Out_Flag, BC_Out_Flag and BD_Out_Flag
abbrev pub flagged : Bool → Bool → Bool → Variables → Variables
flagged ad bc bd v = record {
  vs = v.vs;
  nnr = v.nnr;
  timer = v.timer;
  transmission_count = v.transmission_count;
  ad_out = ad;
  bc_out = bc;
  bd_out = bd;
  suspend_state = v.suspend_state;
}

-- Suspend_State
abbrev pub suspended_at : ℕ → Variables → Variables
suspended_at s v = record {
  vs = v.vs;
  nnr = v.nnr;
  timer = v.timer;
  transmission_count = v.transmission_count;
  ad_out = v.ad_out;
  bc_out = v.bc_out;
  bd_out = v.bd_out;
  suspend_state = s;
}

-- the queues

-- the units: how many are sent, how many of the last are marked, whether one waits
abbrev pub holding : ℕ → ℕ → Bool → Queues → Queues
holding sent marked waiting q =
    record { sent = sent; marked = marked; waiting = waiting; control = q.control; control_marked = q.control_marked }

-- the type-BC frame, and whether it is marked
abbrev pub controlling : Option Control → Bool → Queues → Queues
controlling control marked q =
    record { sent = q.sent; marked = q.marked; waiting = q.waiting; control = control; control_marked = marked }

-- what is told

-- the frame handed down
abbrev pub handing : Option Handed → Told → Told
handing h t =
    record { handed = h; abort = t.abort; alert = t.alert; suspended = t.suspended; responses = t.responses; confirmed = t.confirmed; denied = t.denied }

-- abort, alert, Suspend notification
abbrev pub telling : Bool → Option Alert → Bool → Told → Told
telling abort alert suspended t =
    record { handed = t.handed; abort = abort; alert = alert; suspended = suspended; responses = t.responses; confirmed = t.confirmed; denied = t.denied }

-- the responses
abbrev pub responding : Responses → Told → Told
responding r t =
    record { handed = t.handed; abort = t.abort; alert = t.alert; suspended = t.suspended; responses = r; confirmed = t.confirmed; denied = t.denied }

-- the runs confirmed and denied
abbrev pub running : Run → Run → Told → Told
running confirmed denied t =
    record { handed = t.handed; abort = t.abort; alert = t.alert; suspended = t.suspended; responses = t.responses; confirmed = confirmed; denied = denied }
