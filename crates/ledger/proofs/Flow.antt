-- What an event of table 7-8's machine does to AD units, and what it keeps so that this can be told from numbers: the flow law of an event (`Flow`),
-- which Rows proves action by action and Accounts makes a ledger of.
use mathlib.Core.Path.{◌≡◌}
use mathlib.Core.Bool.{true, false}
use mathlib.Core.List.{List, [], ◌∷◌, ◌++◌}
use mathlib.Core.Option.{Option, none, some}
use Prim.Native.Nat.{ℕ, ◌≤◌}
use lib.Dec.{T}
use lib.ListN.{length}
use Rattle.base.specs.Modulo.{advanced, offset}
use Rattle.fop.specs.Limits.{largest_k, largest_number}
use Rattle.fop.specs.Units.{Fdu, Frame, AD, legal}
use Rattle.fop.specs.declared.Response.{Response}
use Rattle.fop.specs.Variables.{Fop, Work}
use Rattle.fop.specs.Effective.{effective, in_service}
use Rattle.fop.specs.Machine.{fdus}
use Rattle.fop.specs.Events.{SenderEvent, request_ad}
use Rattle.session.proofs.Suspended.{unsuspended}
use Rattle.ledger.specs.Ledger.{first_of, others_of, hear}
use Rattle.ledger.specs.Accounted.{is_request}

-- units with numbers that follow one another from x on
abbrev pub Follows : ℕ → List Fdu → Type 0
Follows x [] = Unit {0}
Follows x (u ∷ us) = (u.ns ≡ x) × Follows (advanced x 1) us

-- The least that every event keeps: the units on the Sent_Queue have the last numbers below V(S), are no more than V(S) - NN(R) and than the largest K; a
-- unit that waits is legal; no unit is held but where the effective state is one of the main protocol's.
pub record Well (f : Fop) : Type 0 where
  pub oldest : ℕ
  pub follows : Follows oldest (fdus f.queues.sent_queue)
  pub up_to : f.numbers.vs ≡ advanced oldest (length (fdus f.queues.sent_queue))
  pub oldest_most : oldest ≤ largest_number
  pub vs_most : f.numbers.vs ≤ largest_number
  pub nnr_most : f.numbers.nnr ≤ largest_number
  pub inside : length (fdus f.queues.sent_queue) ≤ offset f.numbers.vs f.numbers.nnr
  pub most : length (fdus f.queues.sent_queue) ≤ largest_k
  pub window : f.preset.k ≤ largest_k
  pub waiting_legal : (o : List ℕ) → f.queues.wait_queue ≡ some o → legal o ≡ true
  pub outside : T (unsuspended f.state f.suspend_state)
  pub none_sent : in_service (effective f) ≡ false → f.queues.sent_queue ≡ []
  pub none_waits : in_service (effective f) ≡ false → f.queues.wait_queue ≡ none

-- what responses say of AD units: nothing, one accept, one reject
abbrev pub Quiet : List Response → Type 0
Quiet rs = (is : List ℕ) → hear rs is ≡ record { accepted = []; rejected = []; left = is }

abbrev pub Accepts : List Response → Type 0
Accepts rs = (is : List ℕ) → hear rs is ≡ record { accepted = first_of is ∷ []; rejected = []; left = others_of is }

abbrev pub Rejects : List Response → Type 0
Rejects rs = (is : List ℕ) → hear rs is ≡ record { accepted = []; rejected = first_of is ∷ []; left = others_of is }

-- what becomes of the unit offered and of the one waiting: the event, the Wait_Queue before and after it, the responses, the frames handed down, and the
-- units that are new on the Sent_Queue
pub data Asks : SenderEvent → Option (List ℕ) → Option (List ℕ) → List Response → List Frame → List Fdu → Type 0 where
  -- nothing is offered, and nothing is said
  silent : {e : SenderEvent} {w : Option (List ℕ)} {rs : List Response} {fs : List Frame} → is_request e ≡ false → Quiet rs → Asks e w w rs fs []
  -- the unit offered waits, is rejected, or is sent at once
  waits : {o : List ℕ} {rs : List Response} {fs : List Frame} → Quiet rs → Asks (request_ad o) none (some o) rs fs []
  offer_rejected : {o : List ℕ} {w : Option (List ℕ)} {rs : List Response} {fs : List Frame} → Rejects rs → Asks (request_ad o) w w rs fs []
  offer_accepted : {o : List ℕ} {n : ℕ} {rs : List Response} → n ≤ largest_number → Accepts rs
      → Asks (request_ad o) none none rs (AD (record { ns = n; octets = o }) ∷ []) (record { ns = n; octets = o } ∷ [])
  -- at another event the unit waiting is rejected, or sent
  waiting_rejected : {e : SenderEvent} {o : List ℕ} {rs : List Response} {fs : List Frame} → is_request e ≡ false → Rejects rs → Asks e (some o) none rs fs []
  waiting_accepted : {e : SenderEvent} {o : List ℕ} {n : ℕ} {rs : List Response} → is_request e ≡ false → n ≤ largest_number → Accepts rs
      → Asks e (some o) none rs (AD (record { ns = n; octets = o }) ∷ []) (record { ns = n; octets = o } ∷ [])

-- the flow law of an event: the units that were on the Sent_Queue and the new ones are those confirmed, those denied and those on it now, in this order
pub record Flow (e : SenderEvent) (f : Fop) (w : Work) : Type 0 where
  pub well : Well w.fop
  pub new : List Fdu
  pub units : fdus f.queues.sent_queue ++ new ≡ (w.confirmed ++ w.denied) ++ fdus w.fop.queues.sent_queue
  pub asks : Asks e f.queues.wait_queue w.fop.queues.wait_queue w.responses w.frames new
