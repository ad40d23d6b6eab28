-- Suspensions of the table machine, computed. One from S1 with units outstanding, one of them marked, and one waiting: what begins it, every kind of
-- event that comes while it lasts, and its Resume; the law's premises are met there, each by computing. Then one from each of S2, S3 and S4; in S4 the
-- first expiry suspends, in S5 none does. Last, what operators meet at the transmission limit.
use mathlib.Core.Path.{◌≡◌, refl}
use mathlib.Core.Bool.{Bool, true, false}
use mathlib.Core.List.{List, [], ◌∷◌, ◌++◌}
use mathlib.Core.Option.{none, some}
use Prim.Native.Nat.{ℕ, ◌*◌}
use lib.Dec.{leb→le}
use Rattle.base.specs.Limits.{largest_frame, largest_unit}
use Rattle.fop.specs.Units.{Own, word_octets}
use Rattle.fop.specs.declared.State.{State}
use Rattle.fop.specs.declared.State.TheVariants.{S1, S2, S3, S4, S5, S6}
use Rattle.fop.specs.declared.Alert.TheVariants.{T1}
use Rattle.std.specs.Prelude.{None}
use Rattle.fop.specs.declared.Lower.TheVariants.{AdAccept}
use Rattle.fop.specs.declared.Response.TheVariants.{RejectAdUnit, AcceptDirective, RejectDirective, ConfirmDirective, DenyDirective}
use Rattle.fop.specs.declared.Event.TheVariants.{E2, E18, E20, E21, E29, E31, E35, E36, E41}
use Rattle.fop.specs.Variables.{OutFlags, Fop, at_start}
use Rattle.fop.specs.Events.{SenderEvent, request_ad, request_bd, tick, lower, directive, word_arrives}
use Rattle.fop.specs.Answers.{Answer}
use Rattle.fop.proofs.Choices.{◌also◌}
use Rattle.fop.proofs.Trace.{computing, by, no_event, down, responding, alerting, suspending}
use Rattle.suspension.specs.Suspension.{Sender, table_machine, Suspended, NoAdUnit, Kept, suspends_at, Begun, resumed, Back, after_all, none_ends, NoneAd, SuspensionLaw}
use Rattle.suspension.proofs.Law.{tables_by_table, suspension_law}

abbrev pub own : Own
own = record { spacecraft = 5; channel = 9 }

-- a store for K units and one waiting
abbrev pub stored : ℕ
stored = largest_unit * 3

abbrev pub machine : Sender
machine = table_machine own stored

abbrev pub start : Fop
start = at_start 254 254 (record { k = 2; transmission_limit = 2; t1_initial = 1; timeout_type = 1 })

-- the events, each with room for any frame
abbrev roomy : List SenderEvent → List (SenderEvent × ℕ)
roomy [] = []
roomy (e ∷ es) = (e, largest_frame) ∷ roomy es

-- every answer to events
abbrev answers : List SenderEvent → Fop → List Answer
answers [] f = []
answers (e ∷ es) f = machine.answer e largest_frame f ∷ answers es (machine.next e largest_frame f)

-- the sender after events, with room for any frame
abbrev pub after : List SenderEvent → Fop → Fop
after es f = after_all own machine (roomy es) f

-- a word with N(R), and whether it asks for retransmission and for a wait
abbrev word : ℕ → Bool → Bool → SenderEvent
word nr retransmit wait = word_arrives (word_octets own (record { lockout = false; wait = wait; retransmit = retransmit; counter = 0; nr = nr }))

-- A suspension from S1.

-- two units outstanding, the second marked, and one waiting, at the transmission limit: by state, Suspend_State, K, timer and flags
abbrev standing : State → ℕ → ℕ → ℕ → OutFlags → Fop
standing s n k t o = record {
  state = s;
  suspend_state = n;
  numbers = record { vs = 0; nnr = 254 };
  preset = record { k = k; transmission_limit = 2; t1_initial = 1; timeout_type = 1 };
  clock = record { timer = t; transmission_count = 2 };
  out = o;
  queues = record {
    sent_queue =
        record { fdu = record { ns = 254; octets = 1 ∷ [] }; marked = false } ∷ record { fdu = record { ns = 255; octets = 2 ∷ [] }; marked = true } ∷ [];
    wait_queue = some (3 ∷ []);
    bc_frame = none;
  };
}

-- two units fill the window, a third waits; the first expiry sends the first again, and its mark is off
abbrev opening : List SenderEvent
opening = directive 1 0 ∷ request_ad (1 ∷ []) ∷ lower AdAccept ∷ request_ad (2 ∷ []) ∷ lower AdAccept ∷ request_ad (3 ∷ []) ∷ tick ∷ []

abbrev pub before : Fop
before = standing S1 0 2 1 (record { ad = false; bc = true; bd = true })

reached : after opening start ≡ before
unfolding computing after_all
reached = refl

-- the second expiry suspends
abbrev pub begun : Fop
begun = standing S6 1 2 0 (record { ad = false; bc = true; bd = true })

suspends : (machine.answer tick largest_frame before ≡ suspending true (by E18 S6)) × (machine.next tick largest_frame before ≡ begun)
unfolding computing
suspends = (refl, refl)

-- while it lasts: an AD and a BD unit, a tick, AD_Accept, a word that acknowledges all, Terminate, Set K, Set V(S)
abbrev meanwhile : List SenderEvent
meanwhile = request_ad (4 ∷ []) ∷ request_bd (5 ∷ []) ∷ tick ∷ lower AdAccept ∷ word 0 false false ∷ directive 5 0 ∷ directive 8 1 ∷ directive 7 3 ∷ []

abbrev pub resumes : SenderEvent
resumes = directive 6 0

abbrev back : Fop
back = standing S1 0 1 1 (record { ad = true; bc = true; bd = false })

lasts : answers (meanwhile ++ (resumes ∷ [])) begun
    ≡ responding (RejectAdUnit ∷ []) (by E20 S6)
    ∷ down (32 ∷ 5 ∷ 36 ∷ 7 ∷ 0 ∷ 5 ∷ 48 ∷ 197 ∷ []) (by E21 S6)
    ∷ no_event S6
    ∷ by E41 S6
    ∷ by E2 S6
    ∷ responding (AcceptDirective ∷ ConfirmDirective ∷ []) (by E29 S6)
    ∷ responding (AcceptDirective ∷ ConfirmDirective ∷ []) (by E36 S6)
    ∷ responding (RejectDirective ∷ []) (by E35 S6)
    ∷ responding (AcceptDirective ∷ ConfirmDirective ∷ []) (by E31 S1)
    ∷ []
unfolding computing
lasts = refl

ended : after (meanwhile ++ (resumes ∷ [])) begun ≡ back
unfolding computing after_all
ended = refl

-- The law's premises are met there, each by computing.
law : SuspensionLaw own machine
law = suspension_law own machine (tables_by_table own stored)

pub there : Suspended begun
there = record { initial = refl; suspended = refl }

met_notified : (◌≡◌ {A = SenderEvent} tick tick) × (suspends_at before ≡ true)
unfolding computing
met_notified = law.notified tick largest_frame before tt refl

met_suspends : (machine.answer tick largest_frame before).suspended ≡ true
unfolding computing
met_suspends = law.suspends largest_frame before tt (leb→le _ _ tt) refl

met_begins : Begun before (machine.next tick largest_frame before) × NoAdUnit own tick (machine.answer tick largest_frame before)
unfolding computing
met_begins = law.begins tick largest_frame before tt refl

-- of each event while it lasts
abbrev AllKept : List SenderEvent → Type 0
AllKept [] = Unit {0}
AllKept (e ∷ es) = (Kept begun (machine.next e largest_frame begun) × NoAdUnit own e (machine.answer e largest_frame begun)) × AllKept es

met_keeps : AllKept meanwhile
unfolding computing
met_keeps =
    law.keeps (request_ad (4 ∷ [])) largest_frame begun tt there refl
    also law.keeps (request_bd (5 ∷ [])) largest_frame begun tt there refl
    also law.keeps tick largest_frame begun tt there refl
    also law.keeps (lower AdAccept) largest_frame begun tt there refl
    also law.keeps (word 0 false false) largest_frame begun tt there refl
    also law.keeps (directive 5 0) largest_frame begun tt there refl
    also law.keeps (directive 8 1) largest_frame begun tt there refl
    also law.keeps (directive 7 3) largest_frame begun tt there refl
    also tt

met_terminates : (machine.next (directive 5 0) largest_frame begun ≡ begun)
    × ((machine.answer (directive 5 0) largest_frame begun).responses ≡ AcceptDirective ∷ ConfirmDirective ∷ [])
    × ((machine.answer (directive 5 0) largest_frame begun).alert ≡ None)
unfolding computing
met_terminates = law.terminates 0 largest_frame begun tt there (leb→le _ _ tt)

met_resumes : (machine.next resumes largest_frame begun ≡ resumed begun)
    × ((machine.answer resumes largest_frame begun).responses ≡ AcceptDirective ∷ ConfirmDirective ∷ [])
    × NoAdUnit own resumes (machine.answer resumes largest_frame begun)
unfolding computing
met_resumes = law.resumes 0 largest_frame begun tt there (leb→le _ _ tt)

met_whole : NoneAd own machine ((tick, largest_frame) ∷ (roomy meanwhile ++ ((resumes, largest_frame) ∷ []))) before
    × Back before (machine.next resumes largest_frame (after_all own machine (roomy meanwhile) (machine.next tick largest_frame before)))
unfolding computing after_all none_ends
met_whole = law.whole tick largest_frame (roomy meanwhile) 0 largest_frame before tt refl refl (leb→le _ _ tt)

-- Suspend_State 2, 3 and 4. After the events the state is s, a tick suspends with Suspend_State n, and Resume brings back s.
abbrev Returns : List SenderEvent → State → ℕ → Type 0
Returns es s n =
    ((after es start).state ≡ s) × ((machine.answer tick largest_frame (after es start)).suspended ≡ true)
    × ((after (es ++ (tick ∷ [])) start).state ≡ S6) × ((after (es ++ (tick ∷ [])) start).suspend_state ≡ n)
    × ((after (es ++ (tick ∷ resumes ∷ [])) start).state ≡ s) × ((after (es ++ (tick ∷ resumes ∷ [])) start).suspend_state ≡ 0)

-- a word asks for retransmission
from_s2 : Returns (directive 1 0 ∷ request_ad (1 ∷ []) ∷ word 254 true false ∷ []) S2 2
unfolding computing after_all
from_s2 = (refl, refl, refl, refl, refl, refl)

-- and for a wait, at the transmission limit
from_s3 : Returns (directive 1 0 ∷ request_ad (1 ∷ []) ∷ tick ∷ word 254 true true ∷ []) S3 3
unfolding computing after_all
from_s3 = (refl, refl, refl, refl, refl, refl)

-- Initiate with CLCW check: the first expiry suspends, below the transmission limit
from_s4 : Returns (directive 2 0 ∷ []) S4 4
unfolding computing after_all
from_s4 = (refl, refl, refl, refl, refl, refl)

-- Initiate with Unlock: the first expiry marks the frame for retransmission, and the second, at the transmission limit, is an alert
abbrev unlocking : List SenderEvent
unlocking = directive 3 0 ∷ tick ∷ []

from_s5 : ((after unlocking start).state ≡ S5)
    × (machine.answer tick largest_frame (after unlocking start) ≡ alerting T1 (responding (DenyDirective ∷ []) (by E18 S6)))
    × ((after (unlocking ++ (tick ∷ [])) start).suspend_state ≡ 0)
unfolding computing after_all
from_s5 = (refl, refl, refl)

-- After Resume Transmission_Count still stands at the limit: the next expiry suspends again, unless the limit was set higher before.
again : (machine.answer tick largest_frame back).suspended ≡ true
unfolding computing
again = refl

raised : ((after (directive 10 3 ∷ resumes ∷ tick ∷ []) begun).state ≡ S1)
    × ((after (directive 10 3 ∷ resumes ∷ tick ∷ []) begun).clock.transmission_count ≡ 3)
unfolding computing after_all
raised = (refl, refl)
