-- The store of units that the host lends: what the sender needs of it at an event, and when it refuses. Document 02, order 7: "The store is lent
-- by the host: units for K, or for all outstanding if more, and one waiting; a smaller one is refusal 11, at Set K by the new K, and K stays."
use Rattle.std.specs.Prelude.{ℕ, ◌+◌, ◌*◌, leb, eqb, length}
use Rattle.base.specs.Choice.{pick}
use Rattle.base.specs.Limits.{largest_unit}
use Rattle.fop.specs.Units.{Own}
use Rattle.fop.specs.Variables.{Fop}
use Rattle.fop.specs.Events.{SenderEvent, request_ad, request_bd, tick, lower, directive, word_arrives}
use Rattle.fop.specs.Answers.{Answer, judged, sender_answer, sender_next, refused}

-- the larger of two numbers
unfoldable pub larger : ℕ → ℕ → ℕ
larger a b = pick (leb a b) b a

-- "units for K, or for all outstanding if more, and one waiting": the octets that they need, by K and the units outstanding
abbrev pub store_need : ℕ → ℕ → ℕ
store_need k outstanding = largest_unit * (larger k outstanding + 1)

-- the window that the store is judged by: K, "at Set K" (directive 8) "the new K"
abbrev pub window_at : SenderEvent → Fop → ℕ
window_at (request_ad o) f = f.preset.k
window_at (request_bd o) f = f.preset.k
window_at tick f = f.preset.k
window_at (lower l) f = f.preset.k
window_at (directive d v) f = pick (eqb d 8) v f.preset.k
window_at (word_arrives s) f = f.preset.k

-- the octets of the store that the sender needs at an event: by that window, and by the units on the Sent_Queue before the event
abbrev pub need_at : SenderEvent → Fop → ℕ
need_at e f = store_need (window_at e f) (length f.queues.sent_queue)

-- "Sender events are judged 10, 12, 7, 11": 11 where the store lent, of so many octets, is smaller
unfoldable pub store_refusal : Own → SenderEvent → ℕ → Fop → ℕ
store_refusal own e stored f = pick (eqb (judged own e) 0) (pick (leb (need_at e f) stored) 0 11) (judged own e)

-- the answer to an event with a store of `stored` octets lent, and output of `lent`
unfoldable pub lent_answer : Own → SenderEvent → ℕ → ℕ → Fop → Answer
lent_answer own e stored lent f =
    pick (eqb (store_refusal own e stored f) 0) (sender_answer own e lent f) (refused (store_refusal own e stored f) f)

-- the variables after it: "and K stays", as all else does after a refusal
unfoldable pub lent_next : Own → SenderEvent → ℕ → ℕ → Fop → Fop
lent_next own e stored lent f = pick (eqb (store_refusal own e stored f) 0) (sender_next own e lent f) f
