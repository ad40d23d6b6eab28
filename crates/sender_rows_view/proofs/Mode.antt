-- What is known of the work on an event from one action of table 7-8 to the next, as a mode: `after` says what each action needs and what
-- it leaves known, and `allows` goes through a cell. Whether the whole table is allowed is so a matter of computing.
use Prim.Native.Nat.{ℕ, zero, suc}
use mathlib.Core.Path.{◌≡◌, refl, sym, ap₂, ◌∙◌}
use mathlib.Core.Bool.{Bool, true, false, not}
use mathlib.Core.List.{List, [], ◌∷◌}
use borrow.Author.Tests.{eqb-true}
use lib.Dec.{leb, eqb}
use lib.ListN.{get_or}
use Rattle.base.specs.Choice.{pick, both}
use Rattle.base.proofs.Tests.{both_left, both_right}
use Rattle.fop.specs.Limits.{largest_suspend_state}
use Rattle.fop.specs.declared.Action.{Action}
use Rattle.fop.specs.Table.{Cell, cell, if_not_suspended, NotApplicable}
use Rattle.fop.specs.declared.Action.TheVariants.{Ignore, Accept, Reject, Confirm, RejectAd, AcceptBd, RejectBd, AddToWaitQueue, LookForFdu, LookForDirective, RemoveAcknowledgedFrames}
use Rattle.fop.specs.declared.Action.TheVariants.{InitiateAdRetransmission, InitiateBcRetransmission, ReleaseBcFrame, CancelTimer, StartTimer, Alert, Initialise, TransmitUnlock, TransmitSetVr, TransmitBd}
use Rattle.fop.specs.declared.Action.TheVariants.{SetSuspendState, Suspend, Resume, SetVs, SetNnr, SetK, SetT1Initial, SetTransmissionLimit, SetTimeoutType, AdOutReady, BcOutReady, BdOutReady}
use Rattle.fop.specs.declared.State.{State}
use Rattle.sender_values.specs.Limits.{largest_responses}
use Rattle.fop.specs.Effective.{effective_of, in_service}
use Rattle.sender_rows_view.specs.State.{with_frame, initial}
use Rattle.sender_rows_view.proofs.Rows.{Brings, nothing, acknowledging, again, offering, numbering, widening, clocking, limiting, timing, expiring, expiring_again, resuming}

-- the store: as it was, moved down by the units confirmed, or with the unit offered put into it
pub data Stored : Type 0 where
  kept moved put : Stored

-- what is known of the queues and the timer: whether the Sent_Queue has no unit, no unit waits, and the timer is stopped, each of which
-- counts where it is true; whether a type-BC frame is on the Sent_Queue, which is known either way; and Suspend_State
pub record Idle : Type 0 where
  pub unsent : Bool
  pub unasked : Bool
  pub stopped : Bool
  pub frame : Bool
  pub suspend : ℕ

-- the timer started, and stopped
abbrev pub started : Idle → Idle
started z = record { unsent = z.unsent; unasked = z.unasked; stopped = false; frame = z.frame; suspend = z.suspend }

abbrev pub ceased : Idle → Idle
ceased z = record { unsent = z.unsent; unasked = z.unasked; stopped = true; frame = z.frame; suspend = z.suspend }

-- the type-BC frame put on the Sent_Queue, and taken off it
abbrev pub framed : Idle → Idle
framed z = record { unsent = z.unsent; unasked = z.unasked; stopped = z.stopped; frame = true; suspend = z.suspend }

abbrev pub released : Idle → Idle
released z = record { unsent = z.unsent; unasked = z.unasked; stopped = z.stopped; frame = false; suspend = z.suspend }

-- Suspend_State set, and the AD service resumed
abbrev pub suspended_at : ℕ → Idle → Idle
suspended_at n z = record { unsent = z.unsent; unasked = z.unasked; stopped = z.stopped; frame = z.frame; suspend = n }

abbrev pub resumed : Idle → Idle
resumed z = suspended_at 0 (started z)

-- a unit put on the Wait_Queue
abbrev pub offered : Idle → Idle
offered z = record { unsent = z.unsent; unasked = false; stopped = z.stopped; frame = z.frame; suspend = z.suspend }

-- units left on the Sent_Queue; one put on it, from the Wait_Queue
abbrev pub remaining : Idle → Idle
remaining z = record { unsent = false; unasked = z.unasked; stopped = z.stopped; frame = z.frame; suspend = z.suspend }

abbrev pub sending : Idle → Idle
sending z = record { unsent = false; unasked = false; stopped = false; frame = z.frame; suspend = z.suspend }

-- the Sent_Queue purged, the Wait_Queue, and both
abbrev pub sent_purged : Idle → Idle
sent_purged z = record { unsent = true; unasked = z.unasked; stopped = z.stopped; frame = false; suspend = z.suspend }

abbrev pub wait_purged : Idle → Idle
wait_purged z = record { unsent = z.unsent; unasked = true; stopped = z.stopped; frame = z.frame; suspend = z.suspend }

abbrev pub both_purged : Idle → Idle
both_purged z = wait_purged (sent_purged z)

pub data Mode : Type 0 where
  -- the work as it begins; whether Transmission_Count is below 255, and what is known of the queues and the timer
  fresh : Bool → Idle → Mode
  -- no frame is handed down yet; the store, the same two, whether no unit is denied yet, and the room left for responses
  going : Stored → Bool → Idle → Bool → ℕ → Mode
  -- V(S) is set, with the Sent_Queue empty, and NN(R) not yet
  half : Stored → Idle → Bool → ℕ → Mode
  -- a frame may be handed down; the store, and what is known of the queues and the timer
  over : Stored → Idle → Mode
  -- an action that is not allowed was done
  bad : Mode

-- what events bring, told apart by numbers
abbrev code : Brings → ℕ
code nothing = 0
code acknowledging = 1
code again = 2
code offering = 3
code numbering = 4
code widening = 5
code clocking = 6
code limiting = 7
code timing = 8
code expiring = 9
code expiring_again = 10
code (resuming k) = 11

abbrev code_at : Brings → ℕ
code_at nothing = 0
code_at acknowledging = 0
code_at again = 0
code_at offering = 0
code_at numbering = 0
code_at widening = 0
code_at clocking = 0
code_at limiting = 0
code_at timing = 0
code_at expiring = 0
code_at expiring_again = 0
code_at (resuming k) = k

abbrev uncode : ℕ → ℕ → Brings
uncode c k =
    get_or (nothing ∷ acknowledging ∷ again ∷ offering ∷ numbering ∷ widening ∷ clocking ∷ limiting ∷ timing ∷ expiring ∷ expiring_again ∷ []) c (resuming k)

coded : (b : Brings) → uncode (code b) (code_at b) ≡ b
coded nothing = refl
coded acknowledging = refl
coded again = refl
coded offering = refl
coded numbering = refl
coded widening = refl
coded clocking = refl
coded limiting = refl
coded timing = refl
coded expiring = refl
coded expiring_again = refl
coded (resuming k) = refl

unfoldable pub same : Brings → Brings → Bool
same b c = both (eqb (code b) (code c)) (eqb (code_at b) (code_at c))

pub same_is : (b c : Brings) → same b c ≡ true → b ≡ c
unfolding same
same_is b c t =
    sym (coded b)
    ∙ ap₂ uncode (eqb-true (code b) (code c) (both_left _ _ t)) (eqb-true (code_at b) (code_at c) (both_right (eqb (code b) (code c)) _ t)) ∙ coded c

-- the mode after an action that is done only from some modes
abbrev pub on_fresh : (Bool → Idle → Mode) → Mode → Mode
on_fresh F (fresh f z) = F f z
on_fresh F (going p f z u l) = bad
on_fresh F (half p z u l) = bad
on_fresh F (over p z) = bad
on_fresh F bad = bad

abbrev pub on_going : (Stored → Bool → Idle → Bool → ℕ → Mode) → Mode → Mode
on_going F (fresh f z) = F kept f z true largest_responses
on_going F (going p f z u l) = F p f z u l
on_going F (half p z u l) = bad
on_going F (over p z) = bad
on_going F bad = bad

abbrev pub on_half : (Stored → Idle → Bool → ℕ → Mode) → Mode → Mode
on_half F (fresh f z) = bad
on_half F (going p f z u l) = bad
on_half F (half p z u l) = F p z u l
on_half F (over p z) = bad
on_half F bad = bad

abbrev pub only_if : Bool → Mode → Mode
only_if t m = pick t m bad

-- room for a response is taken
abbrev pub taking : ℕ → (ℕ → Mode) → Mode
taking zero F = bad
taking (suc l) F = F l

-- the mode after each group of actions
abbrev pub turned : (Idle → Idle) → Stored → Bool → Idle → Bool → ℕ → Mode
turned Z p f z u l = going p f (Z z) u l

abbrev pub answered : Stored → Bool → Idle → Bool → ℕ → Mode
answered p f z u l = taking l (going p f z u)

abbrev pub repeated : Stored → Bool → Idle → Bool → ℕ → Mode
repeated p f z u l = only_if f (going p false (started z) u l)

abbrev pub purged : (Idle → Idle) → Stored → Bool → Idle → Bool → ℕ → Mode
purged Z p f z u l = only_if u (taking l (λ k. taking k (going p false (both_purged (Z z)) false)))

abbrev pub handed_down : Stored → Bool → Idle → Bool → ℕ → Mode
handed_down p f z u l = over p z

abbrev pub controlled : Stored → Bool → Idle → Bool → ℕ → Mode
controlled p f z u l = over p (framed (started z))

abbrev pub looked : Stored → Bool → Idle → Bool → ℕ → Mode
looked p f z u l = taking l (λ k. over p (sending z))

abbrev pub given : Bool → Stored → Bool → Idle → Bool → ℕ → Mode
given t p f z u l = only_if t (going p f z u l)

unfoldable pub after : Brings → Action → Mode → Mode
after b Ignore m = on_going going m
after b Accept m = on_going answered m
after b Reject m = on_going answered m
after b Confirm m = on_going answered m
after b RejectAd m = on_going answered m
after b AcceptBd m = on_going answered m
after b RejectBd m = on_going answered m
after b AddToWaitQueue m = on_fresh (λ f z. only_if (same b offering) (going put f (offered z) true largest_responses)) m
after b LookForFdu m = on_going looked m
after b LookForDirective m = on_going handed_down m
after b RemoveAcknowledgedFrames m = on_fresh (λ f z. only_if (same b acknowledging) (going moved true (remaining z) true largest_responses)) m
after b InitiateAdRetransmission m = on_going repeated m
after b InitiateBcRetransmission m = on_going repeated m
after b ReleaseBcFrame m = on_going (turned released) m
after b CancelTimer m = on_going (turned ceased) m
after b StartTimer m = on_going (turned started) m
after b (Alert r) m = on_going (purged ceased) m
after b Initialise m = on_going (purged (suspended_at 0)) m
after b TransmitUnlock m = on_going controlled m
after b TransmitSetVr m = on_going (λ p f z u l. only_if (same b numbering) (controlled p f z u l)) m
after b TransmitBd m = on_going handed_down m
after b (SetSuspendState s) m = on_going (turned (suspended_at s)) m
after b Suspend m = on_going going m
after b Resume m = on_going (turned resumed) m
after b SetVs m = on_going (λ p f z u l. only_if (same b numbering) (only_if z.unsent (half p z u l))) m
after b SetNnr m = on_half (λ p z u l. going p false z u l) m
after b SetK m = on_going (given (same b widening)) m
after b SetT1Initial m = on_going (given (same b clocking)) m
after b SetTransmissionLimit m = on_going (given (same b limiting)) m
after b SetTimeoutType m = on_going (given (same b timing)) m
after b AdOutReady m = on_going going m
after b BcOutReady m = on_going going m
after b BdOutReady m = on_going going m

unfoldable pub after_all : Brings → List Action → Mode → Mode
after_all b [] m = m
after_all b (a ∷ more) m = after_all b more (after b a m)

-- The test of a cell.

-- what is known of the queues and the timer in each state, at each Suspend_State (specs/State)
abbrev pub idle_in : State → ℕ → Idle
idle_in x n = record {
  unsent = not (in_service (effective_of x n));
  unasked = not (in_service (effective_of x n));
  stopped = initial x;
  frame = with_frame x;
  suspend = n;
}

-- what an event brings: Transmission_Count < Transmission_Limit, and the timer stopped
abbrev pub repeats : Brings → Bool
repeats b = pick (same b again) true (same b expiring_again)

abbrev pub expired : Brings → Bool
expired b = pick (same b expiring) true (same b expiring_again)

-- the mode in which an event begins
abbrev pub begins : Brings → State → ℕ → Mode
begins b x n = fresh (repeats b) (pick (expired b) (ceased (idle_in x n)) (idle_in x n))

-- an event that Resume AD Service is meets one Suspend_State
abbrev pub meets_at : Brings → ℕ → Bool
meets_at nothing n = true
meets_at acknowledging n = true
meets_at again n = true
meets_at offering n = true
meets_at numbering n = true
meets_at widening n = true
meets_at clocking n = true
meets_at limiting n = true
meets_at timing n = true
meets_at expiring n = true
meets_at expiring_again n = true
meets_at (resuming k) n = eqb n k

-- what is known is all that is asked
abbrev pub implied : Bool → Bool → Bool
implied true known = known
implied false known = true

abbrev pub agrees : Bool → Bool → Bool
agrees true known = known
agrees false known = not known

abbrev pub covers : Idle → Idle → Bool
covers asked z =
    both (implied asked.unsent z.unsent)
    (both (implied asked.unasked z.unasked) (both (implied asked.stopped z.stopped) (agrees asked.frame z.frame)))

-- the store is the one that the event leaves (proofs/Rows, `store_by`)
abbrev pub not_put : Stored → Bool
not_put kept = true
not_put moved = true
not_put put = false

abbrev pub put_where : Bool → Stored → Bool
put_where true kept = false
put_where true moved = false
put_where true put = true
put_where false kept = true
put_where false moved = false
put_where false put = false

abbrev pub fits : Brings → Bool → Stored → Bool
fits offering x p = put_where x p
fits nothing x p = not_put p
fits acknowledging x p = not_put p
fits again x p = not_put p
fits numbering x p = not_put p
fits widening x p = not_put p
fits clocking x p = not_put p
fits limiting x p = not_put p
fits timing x p = not_put p
fits expiring x p = not_put p
fits expiring_again x p = not_put p
fits (resuming k) x p = not_put p

-- Suspend_State is one that the state allows (specs/State)
abbrev pub may_suspend : State → ℕ → Bool
may_suspend x n = both (leb n largest_suspend_state) (pick (initial x) true (eqb n 0))

-- what is known at the end of a cell is what its next state asks
abbrev pub leaves : Brings → State → State → Stored → Idle → Bool
leaves b x y p z = both (fits b (in_service x) p) (both (covers (idle_in y z.suspend) z) (may_suspend y z.suspend))

abbrev pub ends : Brings → State → State → Mode → Bool
ends b x s (fresh f z) = false
ends b x s (going p f z u l) = leaves b x s p z
ends b x s (half p z u l) = false
ends b x s (over p z) = leaves b x s p z
ends b x s bad = false

-- the actions of a cell are allowed, and leave the store, the queues, the timer and Suspend_State as they must
unfoldable pub allows : Brings → State → ℕ → Cell → Bool
allows b x n NotApplicable = fits b (in_service x) kept
allows b x n (cell acts s) = ends b x s (after_all b acts (begins b x n))
allows b x n (if_not_suspended acts others s) = pick (eqb n 0) (ends b x s (after_all b acts (begins b x n))) (ends b x s (after_all b others (begins b x n)))
