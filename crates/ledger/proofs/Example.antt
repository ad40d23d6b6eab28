-- The ledger of a run of the table machine, computed: what each place of the list comes to. It shows that the definitions say what document 02, order 11,
-- means by rejected, accepted, waiting, confirmed, denied and outstanding.
use mathlib.Core.Path.{◌≡◌, refl}
use mathlib.Core.Bool.{Bool, true, false}
use mathlib.Core.List.{List, [], ◌∷◌, ◌++◌, map}
use mathlib.Core.Option.{Option, none, some}
use Prim.Native.Nat.{ℕ, ◌*◌}
use native.Mathlib.Omega.{arith}
use Rattle.base.specs.Limits.{largest_frame, largest_unit}
use Rattle.fop.specs.Units.{Fdu, Own, word_octets}
use Rattle.fop.specs.declared.Lower.TheVariants.{AdAccept, BcAccept}
use Rattle.fop.specs.Events.{SenderEvent, request_ad, tick, lower, directive, word_arrives}
use Rattle.fop.specs.Machine.{fdus}
use Rattle.fop.proofs.Trace as fop
use Rattle.session.proofs.Trace as session
use Rattle.ledger.specs.Ledger.{Accepted, Fate, Settled, Ledger, confirmed, denied, enter, enter_all, ledger, outstanding, with_fate}
use Rattle.ledger.specs.Accounted.{Sender, Given, Fresh, Within, table_machine, after, turns, tables, start_of, unit_at, fdus_at, offered}

-- to unfold this is to unfold every definition that the ledger of a run of the table machine computes with
unfoldable pub computing : Unit {0}
unfolding fop.computing session.computing enter enter_all outstanding after turns tables
computing = tt

abbrev pub own : Own
own = record { spacecraft = 5; channel = 9 }

-- K is 2, so a store for three units; the timer expires at each tick, and suspends at the second
abbrev pub fresh : Fresh
fresh = record { own = own; vs = 254; nnr = 254; preset = record { k = 2; transmission_limit = 2; t1_initial = 1; timeout_type = 1 } }

pub within : Within fresh
within = record {
  vs = omega arith;
  nnr = omega arith;
  window_least = omega arith;
  window_most = omega arith;
  timer_least = omega arith;
  timer_most = omega arith;
  limit_least = omega arith;
  limit_most = omega arith;
  timeout_most = omega arith;
  spacecraft = omega arith;
  channel = omega arith;
}

abbrev pub machine : Sender
machine = table_machine fresh

-- an event with a store that suffices and so much room
abbrev pub given : ℕ → SenderEvent → SenderEvent × Given
given room e = (e, record { stored = largest_unit * 3; room = room })

-- with room for any frame
abbrev pub at : SenderEvent → SenderEvent × Given
at e = given largest_frame e

-- a word with N(R), and its Lockout flag
abbrev pub word : ℕ → Bool → SenderEvent
word nr lockout = word_arrives (word_octets own (record { lockout = lockout; wait = false; retransmit = false; counter = 0; nr = nr }))

-- what the ledger says after events, and what the queues then hold: the units on the Sent_Queue, and the one on the Wait_Queue
abbrev Says : List (SenderEvent × Given) → Ledger → List Accepted → List Fdu → Option (List ℕ) → Type 0
Says es l stands sent waits =
    (ledger own (turns machine es (start_of fresh)) ≡ l) × (outstanding (ledger own (turns machine es (start_of fresh))) ≡ stands)
    × (fdus (after machine es (start_of fresh)).queues.sent_queue ≡ sent) × ((after machine es (start_of fresh)).queues.wait_queue ≡ waits)

-- a unit accepted at a place, with its number
abbrev took : ℕ → ℕ → Accepted
took i n = record { place = some i; number = some n }

-- a unit settled, by its place
abbrev done : Fate → ℕ → Settled
done f i = record { fate = f; place = some i }

abbrev unit : ℕ → List ℕ → Fdu
unit n o = record { ns = n; octets = o }

-- Initiate. The unit 1 is sent; 2 is refused for want of room (11), the one of no octets by 10; 3 is sent, 4 waits, and 5 is rejected (E20).
abbrev pub filled : List (SenderEvent × Given)
filled =
    at (directive 1 0) ∷ at (request_ad (1 ∷ [])) ∷ at (lower AdAccept) ∷ given 0 (request_ad (2 ∷ [])) ∷ at (request_ad [])
    ∷ at (request_ad (3 ∷ [])) ∷ at (request_ad (4 ∷ [])) ∷ at (request_ad (5 ∷ [])) ∷ []

then_filled : Says filled
    (record {
      turns = 8;
      waiting = 6 ∷ [];
      rejected = some 3 ∷ some 4 ∷ some 7 ∷ [];
      accepted = took 1 254 ∷ took 5 255 ∷ [];
      settled = [];
    }) (took 1 254 ∷ took 5 255 ∷ []) (unit 254 (1 ∷ []) ∷ unit 255 (3 ∷ []) ∷ []) (some (4 ∷ []))
unfolding computing
then_filled = (refl, refl, refl, refl)

-- A word confirms 1, and the window lets 4 go, which is accepted at the word's event: known by the place of its request.
abbrev pub confirming : List (SenderEvent × Given)
confirming = filled ++ (at (lower AdAccept) ∷ at (word 255 false) ∷ [])

then_confirming : Says confirming
    (record {
      turns = 10;
      waiting = [];
      rejected = some 3 ∷ some 4 ∷ some 7 ∷ [];
      accepted = took 1 254 ∷ took 5 255 ∷ took 6 0 ∷ [];
      settled = done confirmed 1 ∷ [];
    }) (took 5 255 ∷ took 6 0 ∷ []) (unit 255 (3 ∷ []) ∷ unit 0 (4 ∷ []) ∷ []) none
unfolding computing
then_confirming = (refl, refl, refl, refl)

-- 6 waits; a word with its Lockout flag gives an alert, which denies 3 and 4 and rejects 6.
abbrev pub alerted : List (SenderEvent × Given)
alerted = confirming ++ (at (request_ad (6 ∷ [])) ∷ at (word 255 true) ∷ [])

then_alerted : Says alerted
    (record {
      turns = 12;
      waiting = [];
      rejected = some 3 ∷ some 4 ∷ some 7 ∷ some 10 ∷ [];
      accepted = took 1 254 ∷ took 5 255 ∷ took 6 0 ∷ [];
      settled = done confirmed 1 ∷ done denied 5 ∷ done denied 6 ∷ [];
    }) [] [] none
unfolding computing
then_alerted = (refl, refl, refl, refl)

-- Initiate with Set V(R): numbers begin again at 254. 7 and 8 are sent with numbers that earlier units had, 9 waits. The second expiry suspends; 10 is
-- rejected while suspended.
abbrev pub suspended : List (SenderEvent × Given)
suspended =
    alerted ++ (at (lower AdAccept) ∷ at (directive 4 254) ∷ at (lower BcAccept) ∷ at (word 254 false) ∷ at (request_ad (7 ∷ []))
    ∷ at (lower AdAccept) ∷ at (request_ad (8 ∷ [])) ∷ at (request_ad (9 ∷ [])) ∷ at tick ∷ at tick ∷ at (request_ad (10 ∷ [])) ∷ [])

then_suspended : Says suspended
    (record {
      turns = 23;
      waiting = 19 ∷ [];
      rejected = some 3 ∷ some 4 ∷ some 7 ∷ some 10 ∷ some 22 ∷ [];
      accepted = took 1 254 ∷ took 5 255 ∷ took 6 0 ∷ took 16 254 ∷ took 18 255 ∷ [];
      settled = done confirmed 1 ∷ done denied 5 ∷ done denied 6 ∷ [];
    }) (took 16 254 ∷ took 18 255 ∷ []) (unit 254 (7 ∷ []) ∷ unit 255 (8 ∷ []) ∷ []) (some (9 ∷ []))
unfolding computing
then_suspended = (refl, refl, refl, refl)

-- Resume, and a word confirms 7: the unit last accepted with the number 254, not 1.
abbrev pub resumed : List (SenderEvent × Given)
resumed = suspended ++ (at (directive 6 0) ∷ at (word 255 false) ∷ [])

then_resumed : Says resumed
    (record {
      turns = 25;
      waiting = 19 ∷ [];
      rejected = some 3 ∷ some 4 ∷ some 7 ∷ some 10 ∷ some 22 ∷ [];
      accepted = took 1 254 ∷ took 5 255 ∷ took 6 0 ∷ took 16 254 ∷ took 18 255 ∷ [];
      settled = done confirmed 1 ∷ done denied 5 ∷ done denied 6 ∷ done confirmed 16 ∷ [];
    }) (took 18 255 ∷ []) (unit 255 (8 ∷ []) ∷ []) (some (9 ∷ []))
unfolding computing
then_resumed = (refl, refl, refl, refl)

-- Offered: 11. Rejected 5, waiting 1, confirmed 2, denied 2, outstanding 1.
then_counted : (offered (turns machine resumed (start_of fresh)) ≡ 11)
    × (with_fate confirmed (ledger own (turns machine resumed (start_of fresh))).settled ≡ some 1 ∷ some 16 ∷ [])
    × (with_fate denied (ledger own (turns machine resumed (start_of fresh))).settled ≡ some 5 ∷ some 6 ∷ [])
    × (map (unit_at (turns machine resumed (start_of fresh))) (19 ∷ []) ≡ (9 ∷ []) ∷ [])
    × (fdus_at (turns machine resumed (start_of fresh)) (took 18 255 ∷ []) ≡ some (unit 255 (8 ∷ [])) ∷ [])
    × (tables machine own resumed (start_of fresh) ≡ after machine resumed (start_of fresh))
unfolding computing
then_counted = (refl, refl, refl, refl, refl, refl)
