-- The runs of units that the work tells, by first number and count, are those of the machine's lists of units confirmed and denied.
use Rattle.std.specs.Prelude.{Option, None, Some}
use mathlib.Core.Path.{◌≡◌, refl, sym, ap, ◌∙◌}
use mathlib.Core.Bool.{Bool, true, false}
use mathlib.Core.List.{List, ◌∷◌}
use Prim.Native.Nat.{ℕ, zero, suc, ◌-◌, ◌≤◌}
use native.Mathlib.Omega.{arith}
use borrow.Author.Tests.{ne_eqb}
use lib.Dec.{eqb}
use lib.ListN.{length, take}
use Rattle.base.specs.Choice.{pick}
use Rattle.base.specs.Modulo.{advanced, offset}
use Rattle.base.proofs.Tests.{no}
use Rattle.fop.specs.Answers.{run_of}
use Rattle.fop.specs.Variables.{Entry}
use Rattle.fop.specs.Machine.{fdus}
use Rattle.fop.specs.declared.Alert.{Alert}
use Rattle.sender_values.specs.declared.Control.{Control}
use Rattle.sender_values.specs.declared.Control.TheVariants as control
use Rattle.fop.specs.declared.Response.TheVariants.{RejectAdUnit}
use Rattle.sender_values.specs.declared.Work.{Work}
use Rattle.sender_values.specs.Parts.{with_variables, with_queues, with_told}
use Rattle.sender_values.specs.Actions as act
use Rattle.sender_values.specs.Actions.{run_from, staying}
use Rattle.sender_view.specs.View.{entry_at, entries_from, entries_of, WellFormed}
use Rattle.sender_view.proofs.ViewRemoval.{gone_is}

taken_length : (lengths store : List ℕ) (f p i n g : ℕ) → g ≤ n → length (fdus (take g (entries_from lengths store f p i n))) ≡ g
taken_length lengths store f p i n zero h = refl
taken_length lengths store f p i zero (suc g) h = absurd (omega arith)
taken_length lengths store f p i (suc n) (suc g) h = ap suc (taken_length lengths store f p (suc i) n g (omega arith))

all_taken : (lengths store : List ℕ) (f p i n : ℕ) → take n (entries_from lengths store f p i n) ≡ entries_from lengths store f p i n
all_taken lengths store f p i zero = refl
all_taken lengths store f p i (suc n) = ap (λ (xs : List Entry). entry_at lengths store f p i ∷ xs) (all_taken lengths store f p (suc i) n)

first_number : (vs sent : ℕ) → advanced (offset vs sent) 0 ≡ offset vs sent
first_number vs sent = omega arith

-- the g oldest units of the queue, and all of them
run_taken : (lengths store : List ℕ) (vs sent marked g : ℕ) → g ≤ sent
    → run_of (fdus (take g (entries_of lengths store vs sent marked))) ≡ (run_from (offset vs sent) g)
run_taken lengths store vs sent marked zero h = refl
run_taken lengths store vs zero marked (suc g) h = absurd (omega arith)
run_taken lengths store vs (suc n) marked (suc g) h =
    ap (λ (x : ℕ). record { number = advanced (offset vs (suc n)) 0; count = suc x }) (taken_length lengths store (offset vs (suc n)) (suc n - marked) 1 n g (omega arith))
    ∙ ap (λ (x : ℕ). record { number = x; count = suc g }) (first_number vs (suc n))
    ∙ ap (λ (x : ℕ). record { number = x; count = suc g }) (sym (no (eqb (suc g) 0) 0 (offset vs (suc n)) (ne_eqb (suc g) 0 (λ q. omega arith))))

run_all : (lengths store : List ℕ) (vs sent marked : ℕ) → run_of (fdus (entries_of lengths store vs sent marked)) ≡ (run_from (offset vs sent) sent)
run_all lengths store vs sent marked =
    ap (λ (xs : List Entry). run_of (fdus xs)) (sym (all_taken lengths store (offset vs sent) (sent - marked) 0 sent)) ∙ run_taken lengths store vs sent marked sent (omega arith)

-- the run confirmed by Remove acknowledged frames
pub confirmed_run : (w : Work) (lengths store : List ℕ) (n : ℕ) → WellFormed w lengths store
    → run_of (fdus (take (w.queues.sent - staying n w) (entries_of lengths store w.variables.vs w.queues.sent w.queues.marked)))
    ≡ (act.remove_acknowledged_frames n w).told.confirmed
unfolding act.remove_acknowledged_frames with_told
confirmed_run w lengths store n well =
    let q = w.queues in
    run_taken lengths store w.variables.vs q.sent q.marked (q.sent - staying n w) (omega arith)
    ∙ ap (λ (g : ℕ). (run_from (offset w.variables.vs q.sent) g)) (sym (gone_is w lengths store n well))

-- the runs after both queues are purged
module _ (w : Work) where
  -- a purge tells the units denied, and keeps those confirmed
  record Purged (v : Work) : Type 0 where
    confirmed : v.told.confirmed ≡ w.told.confirmed
    denied : v.told.denied ≡ run_from (offset w.variables.vs w.queues.sent) w.queues.sent

  sent_purged_lem : (k : Option Control) → Purged (act.deny_control k (act.emptied w))
  unfolding act.deny_control act.respond act.emptied act.release_bc_frame act.hold_control with_queues with_told
  sent_purged_lem None = record { confirmed = refl; denied = refl }
  sent_purged_lem (Some control.Unlock) = record { confirmed = refl; denied = refl }
  sent_purged_lem (Some (control.SetVr x)) = record { confirmed = refl; denied = refl }

  wait_purged_lem : (v : Work) → Purged v → Purged (act.purge_wait_queue v)
  unfolding act.purge_wait_queue act.not_waiting act.respond with_queues with_told
  wait_purged_lem v p = by v.queues.waiting where
    by : (b : Bool) → Purged (pick b (act.respond RejectAdUnit (act.not_waiting v)) v)
    by true = record { confirmed = p.confirmed; denied = p.denied }
    by false = p

  both_purged_lem : Purged (act.purge_wait_queue (act.purge_sent_queue w))
  unfolding act.purge_sent_queue
  both_purged_lem = wait_purged_lem (act.deny_control w.queues.control (act.emptied w)) (sent_purged_lem w.queues.control)

-- the run denied by Alert, and the run confirmed, which Alert keeps
pub denied_run : (w : Work) (lengths store : List ℕ) (a : Option Alert)
    → run_of (fdus (entries_of lengths store w.variables.vs w.queues.sent w.queues.marked)) ≡ (act.alert a w).told.denied
unfolding act.alert act.notify act.cancel_timer with_variables with_told
denied_run w lengths store a =
    run_all lengths store w.variables.vs w.queues.sent w.queues.marked ∙ (sym (both_purged_lem (act.cancel_timer w)).denied)
