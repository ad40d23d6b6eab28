-- A cell that is allowed shows the machine's work: its actions lead to a mode that its next state asks, and from there the next state is set.
use Rattle.std.specs.Prelude.{Option, None}
use Prim.Native.Nat.{ℕ, suc, ◌+◌, ◌≤◌, ◌<◌}
use mathlib.Core.Path.{◌≡◌, refl, sym, ap, subst, ◌∙◌}
use mathlib.Core.Bool.{Bool, true, false, not}
use mathlib.Core.List.{List, []}
use native.Mathlib.Omega.{arith}
use borrow.Author.Tests.{eqb-true, leb-true, not-true}
use lib.Dec.{leb, eqb}
use Rattle.base.specs.Choice.{pick, both}
use Rattle.base.proofs.Tests.{apart, both_left, both_right}
use Rattle.store.proofs.Parts.{slid_none}
use Rattle.store.proofs.Moving.{without_none}
use Rattle.fop.specs.Limits.{largest_suspend_state}
use Rattle.fop.specs.Effective.{effective_of, in_service}
use Rattle.fop.specs.declared.Action.{Action}
use Rattle.fop.specs.Table.{Cell, cell, if_not_suspended, NotApplicable}
use Rattle.fop.specs.Variables as machine
use Rattle.fop.specs.Answers.{run_of}
use Rattle.fop.specs.Machine.{perform_all, perform_cell}
use Rattle.sender_values.specs.declared.Control.{Control}
use Rattle.fop.specs.declared.State.{State}
use Rattle.fop.specs.declared.State.TheVariants as state
use Rattle.sender_values.specs.declared.Work.{Work}
use Rattle.sender_values.specs.Actions as act
use Rattle.sender_values.specs.Actions.{units_held}
use Rattle.sender_values.specs.Start.{begun, sender_of, none_told}
use Rattle.sender_view.proofs.SentQueue.{held_most}
use Rattle.sender_view.proofs.ViewValues as values
use Rattle.sender_table.specs.Rows.{done_all, done_cell}
use Rattle.sender_rows_view.specs.State.{Good, initial}
use Rattle.sender_rows_view.proofs.Rows.{Brings, nothing, acknowledging, again, offering, numbering, widening, clocking, limiting, timing, expiring, expiring_again, resuming, brings, Needed, is_offering, store_by, lengths_by, Shows}
use Rattle.sender_rows_view.proofs.Mode.{Stored, kept, moved, put, Idle, suspended_at, Mode, fresh, going, half, over, bad, same, ceased, idle_in, repeats, expired, begins, implied, agrees, covers, not_put, put_where, fits, may_suspend, leaves, ends, after_all, allows}
use Rattle.sender_rows_view.proofs.Known.{Case, seen, Where, Left, StoreIs, LengthsIs, IdleIs, most, Shut, At, known, where_on, suspends, none_below, no_more_first}
use Rattle.sender_rows_view.proofs.Actions.{steps}

-- The store and the lengths after the event.
module _ (count : ℕ) (was : List ℕ) (down : ℕ → List ℕ) (added now : List ℕ) where
  slid_left : (p : Stored) → down 0 ≡ was → not_put p ≡ true → Left p count was down added now → now ≡ down count
  slid_left kept none t h = h.0 ∙ sym none ∙ ap down (sym h.1)
  slid_left moved none t h = h
  slid_left put none t h = absurd (apart t)

  put_left : (b : Bool) (p : Stored) → put_where b p ≡ true → Left p count was down added now → now ≡ pick b added was
  put_left true kept t h = absurd (apart t)
  put_left true moved t h = absurd (apart t)
  put_left true put t h = h
  put_left false kept t h = h.0
  put_left false moved t h = absurd (apart t)
  put_left false put t h = absurd (apart t)

module _ (x : Case) (lengths store : List ℕ) (w : Work) where
  abbrev LeftAfter : Brings → Type 0
  LeftAfter b = (store ≡ store_by b x.octets x.sender w x.store) × (lengths ≡ lengths_by b x.octets x.sender w)

  module _ (p : Stored) (s : StoreIs x p w.told.confirmed.count store) (l : LengthsIs x p w.told.confirmed.count lengths) where
    slid_both : not_put p ≡ true → LeftAfter nothing
    slid_both t = (slid_left _ _ _ _ _ p (without_none x.sender.lengths _ x.store) t s, slid_left _ _ _ _ _ p (slid_none x.sender.lengths) t l)

    left_after : (b : Brings) → fits b (in_service x.sender.state) p ≡ true → LeftAfter b
    left_after offering t = (put_left _ _ _ _ _ (in_service x.sender.state) p t s, put_left _ _ _ _ _ (in_service x.sender.state) p t l)
    left_after nothing t = slid_both t
    left_after acknowledging t = slid_both t
    left_after again t = slid_both t
    left_after numbering t = slid_both t
    left_after widening t = slid_both t
    left_after clocking t = slid_both t
    left_after limiting t = slid_both t
    left_after timing t = slid_both t
    left_after expiring t = slid_both t
    left_after expiring_again t = slid_both t
    left_after (resuming k) t = slid_both t

-- The units after the event: no more than before it, where none is offered.
module _ (x : Case) (w : Work) where
  abbrev after : ℕ
  after = w.told.confirmed.count + units_held w.queues.sent w.queues.waiting

  abbrev Few : Brings → Type 0
  Few b = after ≤ pick (is_offering b) (suc x.sender.queues.sent) (units_held x.sender.queues.sent x.sender.queues.waiting)

  few_kept : (p : Stored) → not_put p ≡ true → after ≤ most x p → Few nothing
  few_kept kept t h = h
  few_kept moved t h = h
  few_kept put t h = absurd (apart t)

  few_put : (b : Bool) (p : Stored) → put_where b p ≡ true → after ≤ most x p → Few offering
  few_put true kept t h = absurd (apart t)
  few_put true moved t h = absurd (apart t)
  few_put true put t h = h
  few_put false kept t h = omega (arith, h, held_most x.sender.queues.sent x.sender.queues.waiting)
  few_put false moved t h = absurd (apart t)
  few_put false put t h = absurd (apart t)

  few_after : (p : Stored) (b : Brings) → fits b (in_service x.sender.state) p ≡ true → after ≤ most x p → Few b
  few_after p offering t = few_put (in_service x.sender.state) p t
  few_after p nothing t = few_kept p t
  few_after p acknowledging t = few_kept p t
  few_after p again t = few_kept p t
  few_after p numbering t = few_kept p t
  few_after p widening t = few_kept p t
  few_after p clocking t = few_kept p t
  few_after p limiting t = few_kept p t
  few_after p timing t = few_kept p t
  few_after p expiring t = few_kept p t
  few_after p expiring_again t = few_kept p t
  few_after p (resuming k) t = few_kept p t

-- what is known is all that is asked
where_implied : (A : Type 0) (a b : Bool) → implied a b ≡ true → Where b A → Where a A
where_implied A true b t h = known t h
where_implied A false b t h = tt

agrees_is : (a b : Bool) → agrees a b ≡ true → b ≡ a
agrees_is true b t = t
agrees_is false b t = not-true b t

covered : (asked z : Idle) {timer sent : ℕ} {waiting : Bool} {bc : Option Control} {suspend : ℕ} → covers asked z ≡ true → z.suspend ≡ asked.suspend
    → IdleIs z timer sent waiting bc suspend → IdleIs asked timer sent waiting bc suspend
covered asked z t n q =
    let a : Bool = implied asked.unsent z.unsent in
    let b : Bool = implied asked.unasked z.unasked in
    let c : Bool = implied asked.stopped z.stopped in
    let d : Bool = agrees asked.frame z.frame in
    let u : both b (both c d) ≡ true = both_right a (both b (both c d)) t in
    let v : both c d ≡ true = both_right b (both c d) u in
    record {
      unsent = where_implied _ asked.unsent z.unsent (both_left a (both b (both c d)) t) q.unsent;
      unasked = where_implied _ asked.unasked z.unasked (both_left b (both c d) u) q.unasked;
      stopped = where_implied _ asked.stopped z.stopped (both_left c d v) q.stopped;
      frame = q.frame ∙ agrees_is asked.frame z.frame (both_right c d v);
      is_suspend = q.is_suspend ∙ n;
    }

initial_is : (x : State) → initial x ≡ true → x ≡ state.S6
initial_is state.S1 t = absurd (apart t)
initial_is state.S2 t = absurd (apart t)
initial_is state.S3 t = absurd (apart t)
initial_is state.S4 t = absurd (apart t)
initial_is state.S5 t = absurd (apart t)
initial_is state.S6 t = refl

-- Suspend_State is 0 outside Initial
suspend_outside : (b : Bool) (n : ℕ) → pick b true (eqb n 0) ≡ true → b ≡ false → n ≡ 0
suspend_outside true n t k = absurd (apart (sym k))
suspend_outside false n t k = eqb-true n 0 t

-- the work w of the machine's work m, with the store and the lengths that the event leaves;
-- the units confirmed and those still held are no more than the units held before it, or than the units sent and the one offered
pub record Shown (x : Case) (w : Work) (m : machine.Work) : Type 0 where
  pub shows : Shows x.own x.event x.octets x.value w (lengths_by (brings x.event) x.octets x.sender w)
      (store_by (brings x.event) x.octets x.sender w x.store) m
  pub no_more : Few x w (brings x.event)

shown : (x : Case) (w : Work) (m : machine.Work) (lengths store : List ℕ) → LeftAfter x lengths store w (brings x.event)
    → Few x w (brings x.event) → Shows x.own x.event x.octets x.value w lengths store m → Shown x w m
shown x w m lengths store left few h = record {
  shows =
      subst (λ (s : List ℕ). Shows x.own x.event x.octets x.value w (lengths_by (brings x.event) x.octets x.sender w) s m) left.0
      (subst (λ (ls : List ℕ). Shows x.own x.event x.octets x.value w ls store m) left.1 h);
  no_more = few;
}

module _ (x : Case) (good : Good x.own x.sender x.store) (meets : Needed (brings x.event) x.octets x.value x.sender) where
  abbrev before : ℕ
  before = x.sender.variables.suspend_state

  enters : (p : Stored) (z : Idle) (t : State) (w : Work) (m : machine.Work) → leaves (brings x.event) x.sender.state t p z ≡ true
      → Shut x p z w m → Shown x (act.to_state t w) (machine.on_fop (machine.set_state t m.fop) m)
  unfolding act.to_state begun sender_of
  enters p z t w m a h =
      let e = h.ended in
      let y = t in
      let n = w.variables.suspend_state in
      let known_suspend : z.suspend ≡ n = sym e.idle.is_suspend in
      let now : leaves (brings x.event) x.sender.state y p (suspended_at n z) ≡ true =
      subst (λ (k : ℕ). leaves (brings x.event) x.sender.state y p (suspended_at k z) ≡ true) known_suspend a in
      let b = both_right (fits (brings x.event) (in_service x.sender.state) p) _ now in
      let f : may_suspend y n ≡ true = both_right (covers (idle_in y n) (suspended_at n z)) _ b in
      let q = covered (idle_in y n) (suspended_at n z) (both_left _ _ b) refl (suspends e.idle n) in
      let v = act.to_state t w in
      let to : machine.Work → machine.Work = λ k. machine.on_fop (machine.set_state t k.fop) k in
      let is : to m ≡ seen x h.c h.d v h.lengths h.store =
      ap to h.is
      ∙ values.to_state_lem _ _ _ _ _ w h.lengths h.store t in
      shown x v (to m) h.lengths h.store (left_after x h.lengths h.store v p e.runs.stored e.runs.measured (brings x.event) (both_left _ _ now)) (few_after x v p (brings x.event) (both_left _ _ now) e.no_more)
      (record {
        is = subst (λ (k : machine.Work). k ≡ seen x k.confirmed k.denied v h.lengths h.store) (sym is) refl;
        confirmed = ap (λ (k : machine.Work). run_of k.confirmed) h.is ∙ e.runs.of_confirmed;
        denied = ap (λ (k : machine.Work). run_of k.denied) h.is ∙ e.runs.of_denied;
        good = record {
          formed = h.formed;
          window_least = e.settled.window_least;
          window = e.settled.in_window;
          clock_least = e.settled.clock_least;
          limit_least = e.settled.limit_least;
          limit = e.settled.in_limit;
          count_least = e.counted.least;
          count_most = e.counted.most;
          type_most = e.settled.type_most;
          suspend_most = leb-true n largest_suspend_state (both_left _ _ f);
          suspend_initial = suspend_outside (initial y) n (both_right (leb n largest_suspend_state) _ f);
          sent_main = λ k. known (ap not k) q.unsent;
          waiting_main = λ k. known (ap not k) q.unasked;
          stopped = λ k. known (ap initial k) q.stopped;
          control_s5 = q.frame;
          filled = e.filled;
          spacecraft = e.settled.own_spacecraft_lem;
          channel = e.settled.own_channel_lem;
          spacecraft_most = good.spacecraft_most;
          channel_most = good.channel_most;
        };
        sent = e.below;
      })

  ended : (mode : Mode) (t : State) (w : Work) (m : machine.Work) → ends (brings x.event) x.sender.state t mode ≡ true → At x mode w m
      → Shown x (act.to_state t w) (machine.on_fop (machine.set_state t m.fop) m)
  ended (fresh f z) t w m y h = absurd (apart y)
  ended (going p f z u l) t w m y h = enters p z t w m y (record { lengths = h.lengths; store = h.store; c = h.c; d = h.d; is = h.is; formed = h.formed; ended = h.ended })
  ended (half p z u l) t w m y h = absurd (apart y)
  ended (over p z) t w m y h = enters p z t w m y h
  ended bad t w m y h = absurd (apart y)

  -- Not Applicable: nothing is done
  unchanged : fits (brings x.event) (in_service x.sender.state) kept ≡ true → Shown x (begun x.sender) (seen x [] [] (begun x.sender) x.sender.lengths x.store)
  unfolding begun none_told sender_of
  unchanged a =
      shown x (begun x.sender) (seen x [] [] (begun x.sender) x.sender.lengths x.store) x.sender.lengths x.store
      (left_after x x.sender.lengths x.store (begun x.sender) kept (refl, refl) (refl, refl) (brings x.event) a) (few_after x (begun x.sender) kept (brings x.event) a (no_more_first x))
      (record { is = refl; confirmed = refl; denied = refl; good = good; sent = none_below None x.sender.queues.sent refl })

  -- the work as it begins
  few_again : (b : Brings) → Needed b x.octets x.value x.sender → Where (repeats b) (x.sender.variables.transmission_count < 255)
  unfolding same
  few_again nothing h = tt
  few_again acknowledging h = tt
  few_again again h = omega (arith, h, good.limit)
  few_again offering h = tt
  few_again numbering h = tt
  few_again widening h = tt
  few_again clocking h = tt
  few_again limiting h = tt
  few_again timing h = tt
  few_again expiring h = tt
  few_again expiring_again h = omega (arith, h.0, good.limit)
  few_again (resuming k) h = tt

  abbrev IdleFirst : Idle → Type 0
  IdleFirst z = IdleIs z x.sender.variables.timer x.sender.queues.sent x.sender.queues.waiting x.sender.queues.control before

  idle_first : IdleFirst (idle_in x.sender.state before)
  idle_first =
      let s = x.sender.state in
      let y = effective_of s before in
      record {
        unsent = where_on (not (in_service y)) (λ t. good.sent_main (not-true (in_service y) t));
        unasked = where_on (not (in_service y)) (λ t. good.waiting_main (not-true (in_service y) t));
        stopped = where_on (initial s) (λ t. good.stopped (initial_is s t));
        frame = good.control_s5;
        is_suspend = refl;
      }

  -- where the timer has expired it is stopped
  idle_expired : (b : Brings) → Needed b x.octets x.value x.sender
      → IdleFirst (pick (expired b) (ceased (idle_in x.sender.state before)) (idle_in x.sender.state before))
  unfolding same
  idle_expired nothing h = idle_first
  idle_expired acknowledging h = idle_first
  idle_expired again h = idle_first
  idle_expired offering h = idle_first
  idle_expired numbering h = idle_first
  idle_expired widening h = idle_first
  idle_expired clocking h = idle_first
  idle_expired limiting h = idle_first
  idle_expired timing h = idle_first
  idle_expired expiring h = record { unsent = idle_first.unsent; unasked = idle_first.unasked; stopped = h; frame = idle_first.frame; is_suspend = refl }
  idle_expired expiring_again h = record { unsent = idle_first.unsent; unasked = idle_first.unasked; stopped = h.1; frame = idle_first.frame; is_suspend = refl }
  idle_expired (resuming k) h = idle_first

  begin : At x (begins (brings x.event) x.sender.state before) (begun x.sender) (seen x [] [] (begun x.sender) x.sender.lengths x.store)
  begin = record {
    begins = refl;
    is = refl;
    good = good;
    few = few_again (brings x.event) meets;
    idle = idle_expired (brings x.event) meets;
  }

  -- its actions are allowed, and lead to what its next state asks
  abbrev allows_all : State → List Action → Bool
  allows_all t acts =
      ends (brings x.event) x.sender.state t (after_all (brings x.event) acts (begins (brings x.event) x.sender.state before))

  acted : (acts : List Action) (t : State)
      → allows_all t acts ≡ true
      → Shown x (act.to_state t (done_all acts x.value (begun x.sender)))
      (let m : machine.Work = perform_all acts (seen x [] [] (begun x.sender) x.sender.lengths x.store) in machine.on_fop (machine.set_state t m.fop) m)
  acted acts t y =
      let b = brings x.event in
      ended (after_all b acts (begins b x.sender.state before)) t (done_all acts x.value (begun x.sender))
      (perform_all acts (seen x [] [] (begun x.sender) x.sender.lengths x.store)) y
      (steps x b meets acts (begins b x.sender.state before) (begun x.sender) (seen x [] [] (begun x.sender) x.sender.lengths x.store) begin)

  -- "IF SS = 0 .. ELSE .."
  if_suspended : (acts others : List Action) (t : State) (b : Bool) → pick b (allows_all t acts) (allows_all t others) ≡ true
      → Shown x (act.to_state t
      (pick b (done_all acts x.value (begun x.sender)) (done_all others x.value (begun x.sender))))
      (let v : machine.Work = pick b (perform_all acts (seen x [] [] (begun x.sender) x.sender.lengths x.store)) (perform_all others (seen x [] [] (begun x.sender) x.sender.lengths x.store)) in
      machine.on_fop (machine.set_state t v.fop) v)
  if_suspended acts others t true y = acted acts t y
  if_suspended acts others t false y = acted others t y

  pub cell_view : (c : Cell) → allows (brings x.event) x.sender.state before c ≡ true
      → Shown x (done_cell c x.value (begun x.sender)) (perform_cell c (seen x [] [] (begun x.sender) x.sender.lengths x.store))
  unfolding allows done_cell perform_cell begun
  cell_view NotApplicable y = unchanged y
  cell_view (cell acts t) y = acted acts t y
  cell_view (if_not_suspended acts others t) y = if_suspended acts others t (eqb before 0) y
