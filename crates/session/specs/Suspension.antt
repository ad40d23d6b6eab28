-- Document 02, order 9, what demand 3 now supposes of a list of events: "Demand 3, started at Suspend_State 0, now allows Resume as well as Terminate, if
-- no lower-layer reject comes while suspended". Suspended is the table machine's, over the same list.
use Rattle.std.specs.Prelude.{Bool, true, false, not, ◌&&◌, List, [], ◌∷◌, ℕ}
use Rattle.fop.specs.Variables.{Fop}
use Rattle.fop.specs.Events.{is_reject}
use Rattle.fop.specs.Effective.{is_suspended}
use Rattle.session.specs.Ends.{Settings, tables}
use Rattle.session.specs.Session.{Event, ad_request, bd_request, ticks, lower_says, terminate, resume, word_in, word_lost, word_made, frame_in, frame_lost, release, Linked, step}
use Rattle.session.specs.Channels.{LinkEvent, demanded, frame_stays, word_stays, frame_filled, frame_again, noise, word_noise, link_step}

-- the event is a reject of the lower layer
abbrev pub rejects : Event → Bool
rejects (ad_request o lent) = false
rejects (bd_request o lent) = false
rejects (ticks lent) = false
rejects (lower_says l lent) = is_reject l
rejects (terminate v lent) = false
rejects (resume v lent) = false
rejects (word_in lent) = false
rejects word_lost = false
rejects (word_made lent) = false
rejects frame_in = false
rejects frame_lost = false
rejects release = false

-- and so of the link's events
abbrev pub link_rejects : LinkEvent → Bool
link_rejects (demanded e) = rejects e
link_rejects (frame_stays fill) = false
link_rejects (word_stays lent) = false
link_rejects (frame_filled fill) = false
link_rejects (frame_again i) = false
link_rejects (noise o) = false
link_rejects (word_noise o lent) = false

-- an event comes, a reject or not, and not a reject to a sender that is suspended
abbrev pub admits : Bool → Fop → Bool
admits reject f = not (reject && is_suspended f)

-- "no lower-layer reject comes while suspended": in a list of events, from where the tables' session stands
unfoldable pub unrejected : (set : Settings) → List Event → Linked (tables set) → Bool
unrejected set [] γ = true
unrejected set (e ∷ es) γ = admits (rejects e) γ.sender && unrejected set es (step set (tables set) e γ)

-- and so in a list of the link's events
unfoldable pub link_unrejected : (set : Settings) → ℕ → List LinkEvent → Linked (tables set) → Bool
link_unrejected set kept [] γ = true
link_unrejected set kept (e ∷ es) γ = admits (link_rejects e) γ.sender && link_unrejected set kept es (link_step set kept (tables set) e γ)
