-- Which event of table 7-8 it is. The conditions are crate fop's (specs/Events).
use Rattle.std.specs.Prelude.{ℕ, [], ◌∷◌, ltb, eqb}
use Rattle.base.specs.Choice.{pick}
use Rattle.fop.specs.declared.Event.{Event as FopEvent}
use Rattle.fop.specs.declared.Event.TheVariants.{E18, E19, E20, E21, E22}
use Rattle.fop.specs.Units.{Word}
use Rattle.fop.specs.Variables.{Fop}
use Rattle.fop.specs.Events.{first, when, is_empty, seen, word_event, expiry_lines, directive_event}
use Rattle.clcw.specs.declared.Clcw.{Clcw}
use Rattle.sender_values.specs.declared.SenderState.{SenderState}
use Rattle.sender_values.specs.Start.{begun}
use Rattle.sender_view.specs.View.{fop_of}

-- the sender's variables; no condition of the table looks at a unit's octets, so no store is needed
abbrev pub variables_of : SenderState → Fop
variables_of s = fop_of (begun s) s.lengths []

-- what a control word tells FOP-1
abbrev pub told : Clcw → Word
told w = record { lockout = w.lockout; wait = w.wait; retransmit = w.retransmit; counter = w.counter; nr = w.report }

-- E1 to E14 and E101 to E103
unfoldable pub event_of_word : Clcw → SenderState → FopEvent
event_of_word w s = word_event (seen (told w) (variables_of s))

-- E23 to E40
unfoldable pub event_of_directive : ℕ → ℕ → SenderState → FopEvent
event_of_directive d v s = directive_event d v (variables_of s)

-- the window that the lent store is judged by at a directive (crate fop, specs/Store, `window_at`): K, "at Set K" (directive 8) "the new K"
abbrev pub window_of : ℕ → ℕ → ℕ → ℕ
window_of d v k = pick (eqb d 8) v k

-- E16, E17, E18, E104
unfoldable pub event_of_expiry : SenderState → FopEvent
event_of_expiry s = first (expiry_lines (ltb s.variables.transmission_count s.settings.transmission_limit) (eqb s.settings.timeout_type 0)) E18

-- E19, E20
unfoldable pub event_of_ad : SenderState → FopEvent
event_of_ad s = first (when (is_empty (variables_of s).queues.wait_queue) E19 ∷ []) E20

-- E21, E22
unfoldable pub event_of_bd : SenderState → FopEvent
event_of_bd s = first (when s.variables.bd_out E21 ∷ []) E22
