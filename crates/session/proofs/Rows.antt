-- One computed test of table 7-8: what its actions do to the sender's mode, which is that of its effective state, cell by cell.
use mathlib.Core.Logic.{◌⊎◌, inl, inr}
use mathlib.Core.Path.{◌≡◌, refl, sym, subst}
use mathlib.Core.Bool.{Bool, true, false, not, ◌&&◌}
use mathlib.Core.List.{List, [], ◌∷◌}
use mathlib.Core.Option.{some}
use Prim.Native.Nat.{ℕ, zero, suc, ◌≤◌}
use native.Mathlib.Omega.{arith}
use lib.Dec.{T, eqb, eqb→eq}
use borrow.Author.Tests.{ne_eqb}
use Rattle.fop.specs.declared.State.{State}
use Rattle.fop.specs.declared.State.TheVariants.{S1, S2, S3, S4, S5, S6}
use Rattle.fop.specs.declared.Action.{Action}
use Rattle.fop.specs.declared.Action.TheVariants.{Ignore, SetSuspendState, Suspend, Resume, Accept, Reject, Confirm}
use Rattle.fop.specs.declared.Event.{Event as FopEvent}
use Rattle.fop.specs.Table.{Cell, cell, if_not_suspended, NotApplicable, Row, row, table78, cell78}
use Rattle.fop.specs.declared.Action.TheVariants.{RejectAd, AcceptBd, RejectBd, AddToWaitQueue, LookForFdu, LookForDirective, RemoveAcknowledgedFrames, InitiateAdRetransmission}
use Rattle.fop.specs.declared.Action.TheVariants.{InitiateBcRetransmission, ReleaseBcFrame, CancelTimer, StartTimer, Alert, Initialise, TransmitUnlock, TransmitSetVr, TransmitBd}
use Rattle.fop.specs.declared.Action.TheVariants.{SetVs, SetNnr, SetK, SetT1Initial, SetTransmissionLimit, SetTimeoutType, AdOutReady, BcOutReady, BdOutReady}
use Rattle.fop.specs.Variables.{Fop}
use Rattle.fop.specs.Variables.{begin}
use Rattle.fop.specs.Effective.{suspended_in, effective_of, effective}
use Rattle.fop.specs.Machine.{perform_cell, fop_do}
use Rattle.fop.specs.declared.Lower.{Lower}
use Rattle.fop.specs.Events.{when, first, Seen, word_lines, word_event, lower_event, is_reject, directive_lines, directive_event}
use Rattle.fop.proofs.Choices.{and_l, and_r}
use Rattle.session.specs.Suspension.{admits}
use Rattle.base.proofs.Computed.{is_true}
use Rattle.fop.proofs.Test.{first_all}
use Rattle.session.proofs.Suspended.{suspend_all, suspend_all_lem, unsuspended, not_suspended_lem}
use Rattle.session.proofs.Values.{Mode, live, dead, bad, Given, word, unit, nothing}

-- what an action does to the mode; bad: the invariant does not cover it
abbrev pub after : Given → Action → Mode → Mode
after g Accept m = m
after g Reject m = m
after g Confirm m = m
after g RejectAd m = m
after g AcceptBd m = m
after g RejectBd m = m
after g Ignore m = m
after word AddToWaitQueue m = bad
after unit AddToWaitQueue m = m
after nothing AddToWaitQueue m = bad
after g LookForFdu live = live
after g LookForFdu dead = bad
after g LookForFdu bad = bad
after g LookForDirective m = bad
after word RemoveAcknowledgedFrames live = live
after word RemoveAcknowledgedFrames dead = bad
after word RemoveAcknowledgedFrames bad = bad
after unit RemoveAcknowledgedFrames m = bad
after nothing RemoveAcknowledgedFrames m = bad
after g InitiateAdRetransmission m = m
after g InitiateBcRetransmission m = m
after g ReleaseBcFrame m = m
after g CancelTimer m = m
after g StartTimer m = m
after g (Alert r) live = dead
after g (Alert r) dead = dead
after g (Alert r) bad = bad
after g Initialise m = bad
after g TransmitUnlock m = bad
after g TransmitSetVr m = bad
after word TransmitBd m = bad
after unit TransmitBd m = m
after nothing TransmitBd m = bad
after g SetVs m = bad
after g SetNnr m = bad
after g SetK m = bad
after g SetT1Initial m = bad
after g SetTransmissionLimit m = bad
after g SetTimeoutType m = bad
after g (SetSuspendState s) m = m
after g Suspend m = m
after g Resume m = m
after g AdOutReady m = m
after g BcOutReady m = m
after g BdOutReady m = m

-- a list of actions
abbrev pub after_all : Given → List Action → Mode → Mode
after_all g [] m = m
after_all g (x ∷ xs) m = after_all g xs (after g x m)

abbrev pub mode_of : State → Mode
mode_of S1 = live
mode_of S2 = live
mode_of S3 = live
mode_of S4 = bad
mode_of S5 = bad
mode_of S6 = dead

abbrev pub match : Mode → Mode → Bool
match live live = true
match live dead = false
match live bad = false
match dead live = false
match dead dead = true
match dead bad = false
match bad live = false
match bad dead = false
match bad bad = false

matched : (a b : Mode) → T (match a b) → a ≡ b
matched live live t = refl
matched live dead t = absurd t
matched live bad t = absurd t
matched dead live t = absurd t
matched dead dead t = refl
matched dead bad t = absurd t
matched bad live t = absurd t
matched bad dead t = absurd t
matched bad bad t = absurd t

abbrev pub sound : Mode → Bool
sound live = true
sound dead = true
sound bad = false

-- tests of a row, cell by cell, in the states of the session
abbrev pub at_all : (State → Cell → Bool) → Row → Bool
at_all t (row a b c d e f) = t S1 a && (t S2 b && (t S3 c && t S6 f))

pub at_cell : (t : State → Cell → Bool) (r : Row) (s : State) (n : ℕ) → T (at_all t r) → T (sound (mode_of (effective_of s n))) → T (t s (cell78 r s))
at_cell t (row a b c d e f) S1 n h g = and_l (t S1 a) _ h
at_cell t (row a b c d e f) S2 n h g = and_l (t S2 b) _ (and_r (t S1 a) _ h)
at_cell t (row a b c d e f) S3 n h g = and_l (t S3 c) _ (and_r (t S2 b) _ (and_r (t S1 a) _ h))
at_cell t (row a b c d e f) S4 n h g = absurd g
at_cell t (row a b c d e f) S5 n h g = absurd g
at_cell t (row a b c d e f) S6 n h g = and_r (t S3 c) _ (and_r (t S2 b) _ (and_r (t S1 a) _ h))

-- a test that depends on Suspend_State, at Suspend_State 0
pub at_zero : (t : ℕ → State → Cell → Bool) (r : Row) (s : State) (n : ℕ) → T (at_all (t 0) r) → T (sound (mode_of (effective_of s n))) → n ≡ 0
    → T (t n s (cell78 r s))
at_zero t r s n h g z = subst (λ (k : ℕ). T (t k s (cell78 r s))) (sym z) (at_cell (t 0) r s n h g)

-- in Initial, suspended in one of the main protocol's states
abbrev pub at_suspended : (ℕ → State → Cell → Bool) → Row → Bool
at_suspended t (row a b c d e f) = t 1 S6 f && (t 2 S6 f && t 3 S6 f)

-- a sender suspended in another is not one of the session
above_three : (n : ℕ) → 4 ≤ n → suspended_in n ≡ S4
above_three n h =
    let no : (k : ℕ) → k ≤ 3 → eqb n k ≡ false = λ k l. ne_eqb n k (λ e. omega (arith, h, l, e)) in
    rw (no 0 (omega arith), no 1 (omega arith), no 2 (omega arith), no 3 (omega arith))

-- such a test at 0, or where it holds while suspended too
pub at_any : (t : ℕ → State → Cell → Bool) (r : Row) (s : State) (n : ℕ) → T (at_all (t 0) r) → (n ≡ 0) ⊎ T (at_suspended t r)
    → T (sound (mode_of (effective_of s n))) → T (unsuspended s n) → T (t n s (cell78 r s))
at_any t r s n h (inl z) g o = at_zero t r s n h g z
at_any t r S1 n h (inr u) g o = at_zero t r S1 n h g (eqb→eq n 0 o)
at_any t r S2 n h (inr u) g o = at_zero t r S2 n h g (eqb→eq n 0 o)
at_any t r S3 n h (inr u) g o = at_zero t r S3 n h g (eqb→eq n 0 o)
at_any t r S4 n h (inr u) g o = absurd g
at_any t r S5 n h (inr u) g o = absurd g
at_any t (row a b c d e f) S6 zero h (inr u) g o = at_cell (t 0) (row a b c d e f) S6 0 h g
at_any t (row a b c d e f) S6 (suc zero) h (inr u) g o = and_l (t 1 S6 f) _ u
at_any t (row a b c d e f) S6 (suc (suc zero)) h (inr u) g o = and_l (t 2 S6 f) _ (and_r (t 1 S6 f) _ u)
at_any t (row a b c d e f) S6 (suc (suc (suc zero))) h (inr u) g o = and_r (t 2 S6 f) _ (and_r (t 1 S6 f) _ u)
at_any t (row a b c d e f) S6 (suc (suc (suc (suc k)))) h (inr u) g o =
    absurd (subst (λ (s : State). T (sound (mode_of s))) (above_three (suc (suc (suc (suc k)))) (omega arith)) g)

-- the one test of the table, at a Suspend_State: each cell's actions lead to the mode of its next effective state, with Suspend_State 0 but in
-- Initial
abbrev pub cell_ok : Given → ℕ → State → Cell → Bool
cell_ok g n s NotApplicable = true
cell_ok g n s (if_not_suspended xs ys u) = false
cell_ok g n s (cell xs u) =
    match (after_all g xs (mode_of (effective_of s n))) (mode_of (effective_of u (suspend_all xs n))) && unsuspended u (suspend_all xs n)

pub leads : (g : Given) (n : ℕ) (s : State) (xs : List Action) (u : State) → T (cell_ok g n s (cell xs u))
    → after_all g xs (mode_of (effective_of s n)) ≡ mode_of (effective_of u (suspend_all xs n))
leads g n s xs u t =
    let a : Mode = after_all g xs (mode_of (effective_of s n)) in
    let b : Mode = mode_of (effective_of u (suspend_all xs n)) in
    matched a b (and_l (match a b) (unsuspended u (suspend_all xs n)) t)

-- the test of a row, at Suspend_State 0
abbrev pub row_ok : Given → FopEvent → Bool
row_ok g e = at_all (cell_ok g 0) (table78 e)

-- while suspended
abbrev pub row_suspended : Given → FopEvent → Bool
row_suspended g e = at_suspended (cell_ok g) (table78 e)

-- at one Suspend_State that is not 0, which a sender has in Initial alone
abbrev pub at_initial : (ℕ → State → Cell → Bool) → ℕ → Row → Bool
at_initial t n r = not (eqb n 0) && t n S6 (cell78 r S6)

pub at_initial_lem : (t : ℕ → State → Cell → Bool) (r : Row) (s : State) (n : ℕ) → T (at_initial t n r) → T (unsuspended s n) → T (t n s (cell78 r s))
at_initial_lem t r s n h o = by s o
  where
    suspends : {A : Type 0} → T (eqb n 0) → A
    suspends z = absurd (subst (λ (b : Bool). T (not b && t n S6 (cell78 r S6))) (is_true (eqb n 0) z) h)

    by : (s : State) → T (unsuspended s n) → T (t n s (cell78 r s))
    by S1 o = suspends o
    by S2 o = suspends o
    by S3 o = suspends o
    by S4 o = suspends o
    by S5 o = suspends o
    by S6 o = and_r (not (eqb n 0)) _ h

-- a row is tested at a Suspend_State
abbrev pub Tested : Given → FopEvent → ℕ → Type 0
Tested g e n = (T (row_ok g e) × ((n ≡ 0) ⊎ T (row_suspended g e))) ⊎ T (at_initial (cell_ok g) n (table78 e))

-- at every one
abbrev pub row_any : Given → FopEvent → Bool
row_any g e = row_ok g e && row_suspended g e

pub any : (g : Given) (e : FopEvent) {n : ℕ} → T (row_any g e) → Tested g e n
any g e t = inl (and_l (row_ok g e) (row_suspended g e) t, inr (and_r (row_ok g e) (row_suspended g e) t))

-- the cell that a sender meets passes the test
abbrev pub Passes : Given → FopEvent → Fop → Type 0
Passes g e f = T (cell_ok g f.suspend_state f.state (cell78 (table78 e) f.state))

pub passes : (g : Given) (e : FopEvent) (f : Fop) → Tested g e f.suspend_state → T (sound (mode_of (effective f)))
    → T (unsuspended f.state f.suspend_state) → Passes g e f
passes g e f (inl t) h o = at_any (cell_ok g) (table78 e) f.state f.suspend_state t.0 t.1 h o
passes g e f (inr t) h o = at_initial_lem (cell_ok g) (table78 e) f.state f.suspend_state t o

match_sound : (a b : Mode) → T (match a b) → T (sound b)
match_sound a live t = tt
match_sound a dead t = tt
match_sound live bad t = absurd t
match_sound dead bad t = absurd t
match_sound bad bad t = absurd t

-- its mode after the row
module _ (g : Given) (e : FopEvent) (o : List ℕ) (v : ℕ) (f : Fop) (t : Passes g e f) where
  pub do_sound : T (sound (mode_of (effective f))) → T (sound (mode_of (effective (fop_do e o v f).fop)))
  unfolding fop_do perform_cell
  do_sound h = go (cell78 (table78 e) f.state) t
    where
      go : (c : Cell) → T (cell_ok g f.suspend_state f.state c) → T (sound (mode_of (effective (perform_cell c (begin (some e) o v f)).fop)))
      go NotApplicable t = h
      go (if_not_suspended xs ys s) t = absurd t
      go (cell xs s) t =
          subst (λ (n : ℕ). T (sound (mode_of (effective_of s n)))) (sym (suspend_all_lem xs (begin (some e) o v f)))
          (match_sound (after_all g xs (mode_of (effective f))) (mode_of (effective_of s (suspend_all xs f.suspend_state)))
          (and_l (match (after_all g xs (mode_of (effective f))) (mode_of (effective_of s (suspend_all xs f.suspend_state)))) _ t))

  pub do_unsuspended : T (unsuspended f.state f.suspend_state) → T (unsuspended (fop_do e o v f).fop.state (fop_do e o v f).fop.suspend_state)
  unfolding fop_do perform_cell
  do_unsuspended h = go (cell78 (table78 e) f.state) t
    where
      go : (c : Cell) → T (cell_ok g f.suspend_state f.state c)
          → T (unsuspended (perform_cell c (begin (some e) o v f)).fop.state (perform_cell c (begin (some e) o v f)).fop.suspend_state)
      go NotApplicable t = h
      go (if_not_suspended xs ys s) t = absurd t
      go (cell xs s) t =
          subst (λ (n : ℕ). T (unsuspended s n)) (sym (suspend_all_lem xs (begin (some e) o v f)))
          (and_r (match (after_all g xs (mode_of (effective f))) (mode_of (effective_of s (suspend_all xs f.suspend_state)))) _ t)

pub word_ok : (s : Seen) → T (row_any word (word_event s))
unfolding table78 word_event
word_ok s = first_all (row_any word) (word_lines s) FopEvent.E103 tt

-- the answers of the lower layer: a reject alerts, and while suspended it would leave Suspend_State with nothing to resume
pub lower_ok : (l : Lower) (f : Fop) → admits (is_reject l) f ≡ true → Tested nothing (lower_event l) f.suspend_state
unfolding table78
lower_ok Lower.AdAccept f a = any nothing FopEvent.E41 tt
lower_ok Lower.AdReject f a = inl (tt, inl (not_suspended_lem f a))
lower_ok Lower.BcAccept f a = any nothing FopEvent.E43 tt
lower_ok Lower.BcReject f a = inl (tt, inl (not_suspended_lem f a))
lower_ok Lower.BdAccept f a = any nothing FopEvent.E45 tt
lower_ok Lower.BdReject f a = inl (tt, inl (not_suspended_lem f a))

-- the expiry of the timer: it suspends at Timeout_Type 1 only
pub timer_ok : T (row_any nothing FopEvent.E16 && row_any nothing FopEvent.E17)
unfolding table78
timer_ok = tt

pub suspending_ok : T (row_any nothing FopEvent.E104 && row_any nothing FopEvent.E18)
unfolding table78
suspending_ok = tt

pub ad_ok : (c : Bool) → T (row_any unit (first (when c FopEvent.E19 ∷ []) FopEvent.E20))
unfolding table78
ad_ok c = first_all (row_any unit) (when c FopEvent.E19 ∷ []) FopEvent.E20 tt

pub bd_ok : (c : Bool) → T (row_any unit (first (when c FopEvent.E21 ∷ []) FopEvent.E22))
unfolding table78
bd_ok c = first_all (row_any unit) (when c FopEvent.E21 ∷ []) FopEvent.E22 tt

pub terminate_ok : T (row_any nothing FopEvent.E29)
unfolding table78
terminate_ok = tt

-- Resume: its row by Suspend_State, which is that of a state of the main protocol
pub resume_rows : (P : FopEvent → ℕ → Type 0) → P FopEvent.E30 0 → P FopEvent.E31 1 → P FopEvent.E32 2 → P FopEvent.E33 3
    → (v : ℕ) (f : Fop) → T (sound (mode_of (effective f))) → T (unsuspended f.state f.suspend_state) → P (directive_event 6 v f) f.suspend_state
unfolding directive_event
resume_rows P none one two three v f g o = by f.suspend_state refl
  where
    by : (n : ℕ) → f.suspend_state ≡ n → P (first (directive_lines 6 v f) FopEvent.E39) f.suspend_state
    by zero z = rw z none
    by (suc zero) z = rw z one
    by (suc (suc zero)) z = rw z two
    by (suc (suc (suc zero))) z = rw z three
    by (suc (suc (suc (suc k)))) z = absurd (beyond f.state (rw z at g) (rw z at o))
      where
        outside : T (eqb (suc (suc (suc (suc k)))) 0) → ⊥
        outside o = let e : suc (suc (suc (suc k))) ≡ 0 = eqb→eq (suc (suc (suc (suc k)))) 0 o in omega arith

        beyond : (s : State) → T (sound (mode_of (effective_of s (suc (suc (suc (suc k))))))) → T (unsuspended s (suc (suc (suc (suc k))))) → ⊥
        beyond S1 g o = outside o
        beyond S2 g o = outside o
        beyond S3 g o = outside o
        beyond S4 g o = outside o
        beyond S5 g o = outside o
        beyond S6 g o = subst (λ (s : State). T (sound (mode_of s))) (above_three (suc (suc (suc (suc k)))) (omega arith)) g

pub resume_ok : (v : ℕ) (f : Fop) → T (sound (mode_of (effective f))) → T (unsuspended f.state f.suspend_state)
    → Tested nothing (directive_event 6 v f) f.suspend_state
unfolding table78
resume_ok = resume_rows (Tested nothing) (any nothing FopEvent.E30 tt) (inr tt) (inr tt) (inr tt)
