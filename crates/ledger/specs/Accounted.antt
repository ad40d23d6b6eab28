-- Document 02, order 11, sentence by sentence, of any sender: after any sequence of its events, each given what the last left.
use Rattle.std.specs.Prelude.{◌≡◌, Bool, true, false, List, [], ◌∷◌, ◌++◌, map, ℕ, zero, suc, ◌+◌, ◌≤◌, length}
use Rattle.std.proofs.Math.Option.{Option, none, some}
use Rattle.base.specs.Choice.{pick}
use Rattle.base.specs.Limits.{largest_spacecraft, largest_channel}
use Rattle.fop.specs.Limits.{largest_k, largest_transmission_limit, largest_timer, largest_number, largest_timeout_type}
use Rattle.fop.specs.Units.{Fdu, Own}
use Rattle.fop.specs.Variables.{Fop, Preset, at_start}
use Rattle.fop.specs.Machine.{fdus}
use Rattle.fop.specs.Events.{SenderEvent, request_ad, request_bd, tick, lower, directive, word_arrives}
use Rattle.fop.specs.Answers.{Answer}
use Rattle.fop.specs.Store.{lent_next, lent_answer}
use Rattle.ledger.specs.Ledger.{Turn, Accepted, confirmed, denied, ledger, places, settled_places, with_fate, is_place, outstanding}

-- "an AD request offered"
abbrev pub is_request : SenderEvent → Bool
is_request (request_ad o) = true
is_request (request_bd o) = false
is_request tick = false
is_request (lower l) = false
is_request (directive d v) = false
is_request (word_arrives s) = false

-- stands at the place i of the list
abbrev pub is_offered : List Turn → ℕ → Bool
is_offered [] i = false
is_offered (t ∷ ts) zero = is_request t.event
is_offered (t ∷ ts) (suc i) = is_offered ts i

-- how many are offered
abbrev pub offered : List Turn → ℕ
offered [] = 0
offered (t ∷ ts) = pick (is_request t.event) 1 0 + offered ts

-- how often the place i is among these
abbrev pub times : ℕ → List (Option ℕ) → ℕ
times i [] = 0
times i (p ∷ ps) = pick (is_place i p) 1 0 + times i ps

-- each is a place
abbrev pub all_places : List (Option ℕ) → Bool
all_places [] = true
all_places (none ∷ ps) = false
all_places (some i ∷ ps) = all_places ps

-- the unit of an event
abbrev pub unit_of : SenderEvent → List ℕ
unit_of (request_ad o) = o
unit_of (request_bd o) = []
unit_of tick = []
unit_of (lower l) = []
unit_of (directive d v) = []
unit_of (word_arrives s) = []

-- the unit offered at the place i
abbrev pub unit_at : List Turn → ℕ → List ℕ
unit_at [] i = []
unit_at (t ∷ ts) zero = unit_of t.event
unit_at (t ∷ ts) (suc i) = unit_at ts i

-- an accepted unit: its number, and the octets offered at its place
abbrev pub fdu_at : List Turn → Option ℕ → Option ℕ → Option Fdu
fdu_at ts none n = none
fdu_at ts (some i) none = none
fdu_at ts (some i) (some n) = some (record { ns = n; octets = unit_at ts i })

abbrev pub fdus_at : List Turn → List Accepted → List (Option Fdu)
fdus_at ts [] = []
fdus_at ts (a ∷ more) = fdu_at ts a.place a.number ∷ fdus_at ts more

-- the unit on the Wait_Queue, if any
abbrev pub waiting_in : Option (List ℕ) → List (List ℕ)
waiting_in none = []
waiting_in (some o) = o ∷ []

-- The claims, of a list of events with their answers and its ledger; f is table 7-8's machine after the same list.
pub record Accounted (own : Own) (ts : List Turn) (f : Fop) : Type 0 where
  -- "every AD request offered is rejected, accepted, or waiting, and never two of these": each place at which one stands once in all three, any other never
  pub once : (i : ℕ) → times i (ledger own ts).rejected + (times i (places (ledger own ts).accepted) + times i (map some (ledger own ts).waiting))
      ≡ pick (is_offered ts i) 1 0
  -- no response speaks of a unit that is not there
  pub known : (all_places (ledger own ts).rejected ≡ true) × (all_places (places (ledger own ts).accepted) ≡ true)
  -- "Every accepted one is confirmed once, denied once, or still outstanding."
  pub fates : (i : ℕ) → times i (with_fate confirmed (ledger own ts).settled) + (times i (with_fate denied (ledger own ts).settled)
      + times i (places (outstanding (ledger own ts))))
      ≡ times i (places (ledger own ts).accepted)
  -- "Confirms and denials come in the order of acceptance."
  pub order : settled_places (ledger own ts).settled ++ places (outstanding (ledger own ts)) ≡ places (ledger own ts).accepted
  -- "Requests offered equal rejected plus waiting plus confirmed plus denied plus outstanding"
  pub total : offered ts
      ≡ length (ledger own ts).rejected + length (ledger own ts).waiting + length (with_fate confirmed (ledger own ts).settled)
      + length (with_fate denied (ledger own ts).settled) + length (outstanding (ledger own ts))
  -- "The waiting and the outstanding are those its queues then hold, in that order."
  pub waits : map (unit_at ts) (ledger own ts).waiting ≡ waiting_in f.queues.wait_queue
  pub stands : fdus_at ts (outstanding (ledger own ts)) ≡ map some (fdus f.queues.sent_queue)

-- A sender, whatever it is: a fresh one; what it may be lent at an event, given what the last left; the octets of store and of output in that; what it
-- does and answers; and the variables of table 7-8 that its state and store read as.
pub record Sender : Type 1 where
  pub Held : Type 0
  pub Lent : Type 0
  pub Fits : Lent → Held → Type 0
  pub stored : Lent → ℕ
  pub room : Lent → ℕ
  pub fresh : Held
  pub next : SenderEvent → Lent → Held → Held
  pub answer : SenderEvent → Lent → Held → Answer
  pub reads : Held → Fop

module _ (m : Sender) where
  -- the sender after events, each given what the last left
  unfoldable pub after : List (SenderEvent × m.Lent) → m.Held → m.Held
  after [] x = x
  after (e ∷ es) x = after es (m.next e.0 e.1 x)

  -- the events with its answers
  unfoldable pub turns : List (SenderEvent × m.Lent) → m.Held → List Turn
  turns [] x = []
  turns (e ∷ es) x = record { event = e.0; answer = m.answer e.0 e.1 x } ∷ turns es (m.next e.0 e.1 x)

  -- each is lent what it may be
  unfoldable pub AllFit : List (SenderEvent × m.Lent) → m.Held → Type 0
  AllFit [] x = Unit {0}
  AllFit (e ∷ es) x = m.Fits e.1 x × AllFit es (m.next e.0 e.1 x)

  -- table 7-8's machine over the same list
  unfoldable pub tables : Own → List (SenderEvent × m.Lent) → Fop → Fop
  tables own [] f = f
  tables own (e ∷ es) f = tables own es (lent_next own e.0 (m.stored e.1) (m.room e.1) f)

  -- the events with that machine's answers
  unfoldable pub table_turns : Own → List (SenderEvent × m.Lent) → Fop → List Turn
  table_turns own [] f = []
  table_turns own (e ∷ es) f =
      record { event = e.0; answer = lent_answer own e.0 (m.stored e.1) (m.room e.1) f }
      ∷ table_turns own es (lent_next own e.0 (m.stored e.1) (m.room e.1) f)

-- "a fresh sender": V(S), NN(R) and settings within document 01's limits, and the address
pub record Fresh : Type 0 where
  pub own : Own
  pub vs : ℕ
  pub nnr : ℕ
  pub preset : Preset

pub record Within (s : Fresh) : Type 0 where
  pub vs : s.vs ≤ largest_number
  pub nnr : s.nnr ≤ largest_number
  pub window_least : 1 ≤ s.preset.k
  pub window_most : s.preset.k ≤ largest_k
  pub timer_least : 1 ≤ s.preset.t1_initial
  pub timer_most : s.preset.t1_initial ≤ largest_timer
  pub limit_least : 1 ≤ s.preset.transmission_limit
  pub limit_most : s.preset.transmission_limit ≤ largest_transmission_limit
  pub timeout_most : s.preset.timeout_type ≤ largest_timeout_type
  pub spacecraft : s.own.spacecraft ≤ largest_spacecraft
  pub channel : s.own.channel ≤ largest_channel

abbrev pub start_of : Fresh → Fop
start_of s = at_start s.vs s.nnr s.preset

-- Order 11 of a sender: after every list of events that are lent what they may be. The waiting and the outstanding are those of a second run of the tables,
-- so that no sender is judged by its own fields, and those that its own state and store then hold; and what is rejected, accepted, confirmed and
-- denied is what that run's answers say.
pub record AllAccounted (s : Fresh) (m : Sender) : Type 0 where
  pub by_tables : (es : List (SenderEvent × m.Lent)) → AllFit m es m.fresh → Accounted s.own (turns m es m.fresh) (tables m s.own es (start_of s))
  pub held : (es : List (SenderEvent × m.Lent)) → AllFit m es m.fresh → Accounted s.own (turns m es m.fresh) (m.reads (after m es m.fresh))
  pub same : (es : List (SenderEvent × m.Lent)) → AllFit m es m.fresh
      → ledger s.own (turns m es m.fresh) ≡ ledger s.own (table_turns m s.own es (start_of s))

-- a sender that does as table 7-8 says, with the store that it is lent (crate fop, specs/Store)
pub record ByTable (s : Fresh) (m : Sender) : Type 1 where
  pub Well : m.Held → Type 0
  pub well : Well m.fresh
  pub keeps : (e : SenderEvent) (l : m.Lent) (x : m.Held) → m.Fits l x → Well x → Well (m.next e l x)
  pub start : m.reads m.fresh ≡ start_of s
  pub next : (e : SenderEvent) (l : m.Lent) (x : m.Held) → m.Fits l x → Well x
      → m.reads (m.next e l x) ≡ lent_next s.own e (m.stored l) (m.room l) (m.reads x)
  pub answer : (e : SenderEvent) (l : m.Lent) (x : m.Held) → m.Fits l x → Well x
      → m.answer e l x ≡ lent_answer s.own e (m.stored l) (m.room l) (m.reads x)

-- the table machine itself: any store and room lent
pub record Given : Type 0 where
  pub stored : ℕ
  pub room : ℕ

abbrev pub table_machine : Fresh → Sender
table_machine s = record {
  Held = Fop;
  Lent = Given;
  Fits = λ l f. Unit {0};
  stored = λ l. l.stored;
  room = λ l. l.room;
  fresh = start_of s;
  next = λ e l f. lent_next s.own e l.stored l.room f;
  answer = λ e l f. lent_answer s.own e l.stored l.room f;
  reads = λ f. f;
}
