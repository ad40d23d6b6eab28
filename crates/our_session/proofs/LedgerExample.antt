-- The ledger of a run of our own sender, computed, with another store lent at each event: shorter than what the last left, octets behind the units changed,
-- too short to have them. The run is one that order 11 speaks of (`fitting`), and the units held are those that the ledger says (`accounts`).
use mathlib.Core.Path.{◌≡◌, refl}
use mathlib.Core.Bool.{Bool, true, false}
use mathlib.Core.List.{List, [], ◌∷◌, ◌++◌}
use mathlib.Core.Logic.{inl, inr}
use mathlib.Core.Option.{none, some}
use Prim.Native.Nat.{ℕ, ◌-◌, ◌*◌}
use borrow.Author.Tests.{leb-true, ltb-true}
use lib.Dec.{leb, ltb}
use lib.ListN.{length, take, replicate}
use Rattle.base.specs.Choice.{pick, both}
use Rattle.base.proofs.Tests.{both_left, both_right}
use Rattle.base.specs.Limits.{largest_frame, largest_unit}
use Rattle.fop.specs.declared.Lower.TheVariants.{AdAccept}
use Rattle.fop.specs.Events.{SenderEvent, request_ad, lower, directive}
use Rattle.fop.specs.Machine.{fdus}
use Rattle.ledger.specs.Ledger.{confirmed, ledger, outstanding}
use Rattle.ledger.specs.Accounted.{Sender, after, turns, AllFit}
use Rattle.ledger.proofs.Example.{computing, own, fresh, word}
use Rattle.our_session.specs.Ours.{Held, reads}
use Rattle.our_session.specs.Ledger.{Lent, Fits, units_need, next_lent, our_ledger}
use Rattle.our_session.proofs.Example.{computing_ours}

-- K is 2, so three units' places suffice; four are lent at the start
abbrev machine : Sender
machine = our_ledger fresh (replicate (largest_unit * 4) 0)

-- an event, lent so many octets of what the last left with these behind them
record Part : Type 0 where
  event : SenderEvent
  count : ℕ
  behind : List ℕ

abbrev lending : Part → Held → Lent
lending p x = record { store = take p.count x.store ++ p.behind; room = largest_frame }

abbrev listed : List Part → Held → List (SenderEvent × Lent)
listed [] x = []
listed (p ∷ ps) x = (p.event, lending p x) ∷ listed ps (next_lent p.event (lending p x) x)

-- each part has the units held, or the store is too short for them
abbrev fits : Part → Held → Bool
fits p x = pick (leb (units_need x) p.count) true (ltb (length (lending p x).store) (units_need x))

abbrev all_fit : List Part → Held → Bool
all_fit [] x = true
all_fit (p ∷ ps) x = both (fits p x) (all_fit ps (next_lent p.event (lending p x) x))

fits_is : (p : Part) (x : Held) → fits p x ≡ true → Fits (lending p x) x
fits_is p x = by (leb (units_need x) p.count) refl where
  by : (b : Bool) → leb (units_need x) p.count ≡ b → pick b true (ltb (length (lending p x).store) (units_need x)) ≡ true → Fits (lending p x) x
  by true z t = record { count = p.count; behind = p.behind; part = refl; has = inl (leb-true _ _ z) }
  by false z t = record { count = p.count; behind = p.behind; part = refl; has = inr (ltb-true _ _ t) }

all_fit_lem : (ps : List Part) (x : Held) → all_fit ps x ≡ true → AllFit machine (listed ps x) x
unfolding AllFit
all_fit_lem [] x t = tt
all_fit_lem (p ∷ ps) x t = (fits_is p x (both_left _ _ t), all_fit_lem ps _ (both_right (fits p x) _ t))

-- Initiate. The unit 1 is sent with a shorter store, 2 with other octets behind the places of two units; 3 waits. With an octet less than three places 4 is
-- refused (11), and so is a word that would confirm 1, with no store at all. With a store that suffices it confirms 1, and 3 is sent.
abbrev others : List ℕ
others = replicate largest_unit 170

abbrev parts : List Part
parts =
    record { event = directive 1 0; count = largest_unit * 4; behind = [] }
    ∷ record { event = request_ad (1 ∷ []); count = largest_unit * 3; behind = [] }
    ∷ record { event = lower AdAccept; count = largest_unit * 2; behind = others }
    ∷ record { event = request_ad (2 ∷ []); count = largest_unit * 2; behind = others }
    ∷ record { event = request_ad (3 ∷ []); count = largest_unit * 3; behind = [] }
    ∷ record { event = request_ad (4 ∷ []); count = largest_unit * 3 - 1; behind = [] }
    ∷ record { event = word 255 false; count = 0; behind = [] }
    ∷ record { event = lower AdAccept; count = largest_unit * 3; behind = others }
    ∷ record { event = word 255 false; count = largest_unit * 4; behind = [] }
    ∷ []

abbrev events : List (SenderEvent × Lent)
events = listed parts machine.fresh

fitting : AllFit machine events machine.fresh
unfolding computing computing_ours
fitting = all_fit_lem parts machine.fresh refl

accounts : (ledger own (turns machine events machine.fresh)
    ≡ record {
      turns = 9;
      waiting = [];
      rejected = some 5 ∷ [];
      accepted = record { place = some 1; number = some 254 } ∷ record { place = some 3; number = some 255 } ∷ record { place = some 4; number = some 0 } ∷ [];
      settled = record { fate = confirmed; place = some 1 } ∷ [];
    })
    × (outstanding (ledger own (turns machine events machine.fresh))
    ≡ record { place = some 3; number = some 255 } ∷ record { place = some 4; number = some 0 } ∷ [])
    × (fdus (reads (after machine events machine.fresh)).queues.sent_queue
    ≡ record { ns = 255; octets = 2 ∷ [] } ∷ record { ns = 0; octets = 3 ∷ [] } ∷ [])
    × ((reads (after machine events machine.fresh)).queues.wait_queue ≡ none)
unfolding computing computing_ours
accounts = (refl, refl, refl, refl)
