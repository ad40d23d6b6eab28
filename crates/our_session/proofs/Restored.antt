-- The test by which a kept state is restored (crate sender_state) holds of every state that a sender can reach, and a state of which it
-- holds is well-formed: the test is the conjunction of what every event keeps. A start with any two numbers is well-formed, and with a store that suffices
-- it is no refusal.
use Rattle.std.specs.Prelude.{Ok}
use Prim.Native.Nat.{ℕ, zero, suc, ◌≤◌, ◌<◌}
use mathlib.Core.Path.{◌≡◌, refl, sym, ap, subst, ◌∙◌}
use mathlib.Core.Bool.{Bool, true, false, not, true≢false}
use mathlib.Core.List.{List, [], ◌∷◌}
use native.Mathlib.Omega.{arith}
use borrow.Author.Tests.{leb-true, le-leb, eqb-true, eq-eqb, not-true}
use lib.Dec.{leb, eqb}
use lib.ListN.{length, get_or, length-replicate}
use Rattle.base.specs.Choice.{pick, both}
use Rattle.base.specs.Limits.{largest_unit, largest_spacecraft, largest_channel}
use Rattle.base.specs.Modulo.{offset}
use Rattle.base.proofs.Tests.{both_left as left, both_right as right, no}
use Rattle.fop.specs.Effective.{suspended_in, effective_of, in_service}
use Rattle.fop.specs.Limits.{largest_k, largest_transmission_limit, largest_timeout_type, largest_suspend_state}
use Rattle.fop.specs.Units.{Own}
use Rattle.sender_values.specs.declared.Queues.{Queues}
use Rattle.sender_values.specs.declared.SenderState.{SenderState}
use Rattle.sender_values.specs.declared.Settings.{Settings}
use Rattle.fop.specs.declared.State.{State}
use Rattle.fop.specs.declared.State.TheVariants as state
use Rattle.sender_values.specs.declared.Variables.{Variables}
use Rattle.store.specs.Places.{places}
use Rattle.sender_values.specs.Start.{start_of, begun}
use Rattle.sender_table.specs.Rows.{is_frame}
use Rattle.sender_values.specs.Actions.{units_held}
use Rattle.sender_rows_view.specs.State.{Good, initial, with_frame}
use Rattle.fop.specs.Store.{store_need}
use Rattle.sender_frames.specs.Limits.{need_of}
use Rattle.sender.specs.Start.{starting_of}
use Rattle.sender_state.specs.State.{settings_hold, numbers_hold, is_empty, is_serving, initial_holds, state_holds, lengths_hold, well_formed}

-- two tests that hold
joined : (a b : Bool) → a ≡ true → b ≡ true → both a b ≡ true
joined true b p q = q
joined false b p q = p

-- The settings.
pub settings_test : (g : Settings) → 1 ≤ g.k → g.k ≤ largest_k → 1 ≤ g.t1_initial → 1 ≤ g.transmission_limit → g.timeout_type ≤ largest_timeout_type
    → g.spacecraft ≤ largest_spacecraft → g.channel ≤ largest_channel → settings_hold g ≡ true
settings_test g least most clock limit type spacecraft channel =
    joined _ _ (le-leb 1 g.k least)
    (joined _ _ (le-leb g.k largest_k most)
    (joined _ _ (le-leb 1 g.t1_initial clock)
    (joined _ _ (le-leb 1 g.transmission_limit limit)
    (joined _ _ (le-leb g.timeout_type largest_timeout_type type)
    (joined _ _ (le-leb g.spacecraft largest_spacecraft spacecraft) (le-leb g.channel largest_channel channel))))))

-- The lengths.
lengths_test : (n : ℕ) (ls : List ℕ) → ((i : ℕ) → get_or ls i 0 ≤ largest_unit) → ((i : ℕ) → i < n → i < length ls → 1 ≤ get_or ls i 0) → lengths_hold n ls ≡ true
lengths_test n [] most least = refl
lengths_test zero (x ∷ xs) most least = joined _ _ (le-leb x largest_unit (most 0)) (lengths_test zero xs (λ i. most (suc i)) (λ i h k. absurd (omega (arith, h))))
lengths_test (suc n) (x ∷ xs) most least =
    joined _ _ (le-leb 1 x (least 0 (omega arith) (omega arith)))
    (joined _ _ (le-leb x largest_unit (most 0)) (lengths_test n xs (λ i. most (suc i)) (λ i h k. least (suc i) (omega (arith, h)) (omega (arith, k)))))

lengths_most : (n : ℕ) (ls : List ℕ) → lengths_hold n ls ≡ true → (i : ℕ) → get_or ls i 0 ≤ largest_unit
lengths_most n [] t i = omega arith
lengths_most zero (x ∷ xs) t zero = leb-true x largest_unit (left _ _ t)
lengths_most zero (x ∷ xs) t (suc i) = lengths_most zero xs (right (leb x largest_unit) _ t) i
lengths_most (suc n) (x ∷ xs) t zero = leb-true x largest_unit (left _ _ (right (leb 1 x) _ t))
lengths_most (suc n) (x ∷ xs) t (suc i) = lengths_most n xs (right (leb x largest_unit) _ (right (leb 1 x) _ t)) i

lengths_least : (n : ℕ) (ls : List ℕ) → lengths_hold n ls ≡ true → (i : ℕ) → i < n → i < length ls → 1 ≤ get_or ls i 0
lengths_least n [] t i h k = absurd (omega (arith, k))
lengths_least zero (x ∷ xs) t i h k = absurd (omega (arith, h))
lengths_least (suc n) (x ∷ xs) t zero h k = leb-true 1 x (left _ _ t)
lengths_least (suc n) (x ∷ xs) t (suc i) h k = lengths_least n xs (right (leb x largest_unit) _ (right (leb 1 x) _ t)) i (omega (arith, h)) (omega (arith, k))

-- By the state.
module _ (v : Variables) (q : Queues) where
  -- the state recorded where the sender is Initial
  abbrev kept : State
  kept = suspended_in v.suspend_state

  abbrev Outside : State → Type 0
  Outside s = in_service (effective_of s v.suspend_state) ≡ false → (q.sent ≡ 0) × (q.waiting ≡ false)

  abbrev Serving : State → Type 0
  Serving s = initial s ≡ false → v.suspend_state ≡ 0

  empty_test : q.sent ≡ 0 → q.waiting ≡ false → is_empty q ≡ true
  empty_test z w = joined _ _ (eq-eqb q.sent 0 z) (ap not w)

  initial_test : (b : Bool) → (b ≡ false → (q.sent ≡ 0) × (q.waiting ≡ false)) → pick b true (is_empty q) ≡ true
  initial_test true o = refl
  initial_test false o = empty_test (o refl).0 (o refl).1

  serving_test : v.suspend_state ≡ 0 → is_serving v ≡ true
  serving_test = eq-eqb v.suspend_state 0

  state_test : (s : State) → Serving s → Outside s → (s ≡ state.S6 → v.timer ≡ 0) → is_frame q.control ≡ with_frame s → state_holds s v q ≡ true
  state_test state.S1 u o t f = joined _ _ (serving_test (u refl)) (ap not f)
  state_test state.S2 u o t f = joined _ _ (serving_test (u refl)) (ap not f)
  state_test state.S3 u o t f = joined _ _ (serving_test (u refl)) (ap not f)
  state_test state.S4 u o t f = joined _ _ (serving_test (u refl)) (joined _ _ (empty_test (o refl).0 (o refl).1) (ap not f))
  state_test state.S5 u o t f = joined _ _ (serving_test (u refl)) (joined _ _ (empty_test (o refl).0 (o refl).1) f)
  state_test state.S6 u o t f = joined _ _ (initial_test (in_service kept) o) (joined _ _ (ap not f) (eq-eqb v.timer 0 (t refl)))

  serves : (s : State) → state_holds s v q ≡ true → Serving s
  serves state.S1 t i = eqb-true v.suspend_state 0 (left _ _ t)
  serves state.S2 t i = eqb-true v.suspend_state 0 (left _ _ t)
  serves state.S3 t i = eqb-true v.suspend_state 0 (left _ _ t)
  serves state.S4 t i = eqb-true v.suspend_state 0 (left _ _ t)
  serves state.S5 t i = eqb-true v.suspend_state 0 (left _ _ t)
  serves state.S6 t i = absurd (true≢false i)

  emptied : is_empty q ≡ true → (q.sent ≡ 0) × (q.waiting ≡ false)
  emptied t = (eqb-true q.sent 0 (left _ _ t), not-true q.waiting (right (eqb q.sent 0) _ t))

  outside : (s : State) → state_holds s v q ≡ true → Outside s
  outside state.S1 t m = absurd (true≢false m)
  outside state.S2 t m = absurd (true≢false m)
  outside state.S3 t m = absurd (true≢false m)
  outside state.S4 t m = emptied (left _ _ (right (is_serving v) _ t))
  outside state.S5 t m = emptied (left _ _ (right (is_serving v) _ t))
  outside state.S6 t m = emptied (sym (no (in_service kept) true (is_empty q) m) ∙ left _ _ t)

  framed : (s : State) → state_holds s v q ≡ true → is_frame q.control ≡ with_frame s
  framed state.S1 t = not-true _ (right (is_serving v) _ t)
  framed state.S2 t = not-true _ (right (is_serving v) _ t)
  framed state.S3 t = not-true _ (right (is_serving v) _ t)
  framed state.S4 t = not-true _ (right (is_empty q) _ (right (is_serving v) _ t))
  framed state.S5 t = right (is_empty q) _ (right (is_serving v) _ t)
  framed state.S6 t = not-true _ (left _ _ (right (initial_holds v q) _ t))

  timed : state_holds state.S6 v q ≡ true → v.timer ≡ 0
  timed t = eqb-true v.timer 0 (right (not (is_frame q.control)) _ (right (initial_holds v q) _ t))

-- A well-formed state passes the test.
pub good_passes : (own : Own) (s : SenderState) (store : List ℕ) → Good own s store → well_formed s ≡ true
unfolding well_formed begun
good_passes own s store g =
    joined _ _
    (settings_test s.settings g.window_least g.window g.clock_least g.limit_least g.type_most
    (omega (arith, g.spacecraft, g.spacecraft_most)) (omega (arith, g.channel, g.channel_most)))
    (joined _ _
    (joined _ _ (le-leb s.queues.sent largest_k g.formed.sent_most)
    (joined _ _ (le-leb s.queues.sent (offset s.variables.vs s.variables.nnr) g.formed.outstanding)
    (joined _ _ (le-leb s.queues.marked s.queues.sent g.formed.last)
    (joined _ _ (le-leb 1 s.variables.transmission_count g.count_least) (le-leb s.variables.suspend_state largest_suspend_state g.suspend_most)))))
    (joined _ _
    (state_test s.variables s.queues s.state g.suspend_initial (λ m. (g.sent_main m, g.waiting_main m)) g.stopped g.control_s5)
    (lengths_test (units_held s.queues.sent s.queues.waiting) s.lengths g.formed.units (λ i h k. g.filled i h))))

-- what the types of the struct's fields see to
pub record Sized (s : SenderState) : Type 0 where
  pub vs : s.variables.vs < 256
  pub nnr : s.variables.nnr < 256
  pub limit : s.settings.transmission_limit ≤ largest_transmission_limit
  pub count : s.variables.transmission_count ≤ largest_transmission_limit
  pub lengths : length s.lengths ≡ places

-- A state that passes is well-formed, with a store that is long enough.
pub passes_good : (s : SenderState) (store : List ℕ) → Sized s → need_of s ≤ length store → well_formed s ≡ true
    → Good (record { spacecraft = s.settings.spacecraft; channel = s.settings.channel }) s store
unfolding well_formed begun
passes_good s store z long t =
    let g = s.settings in
    let v = s.variables in
    let q = s.queues in
    let settings : settings_hold g ≡ true = left _ _ t in
    let rest = right (settings_hold g) _ t in
    let numbers : numbers_hold v q ≡ true = left _ _ rest in
    let rest2 = right (numbers_hold v q) _ rest in
    let states : state_holds s.state v q ≡ true = left _ _ rest2 in
    let units : lengths_hold (units_held q.sent q.waiting) s.lengths ≡ true = right (state_holds s.state v q) _ rest2 in
    let a = right (leb 1 g.k) _ settings in
    let b = right (leb g.k largest_k) _ a in
    let c = right (leb 1 g.t1_initial) _ b in
    let d = right (leb 1 g.transmission_limit) _ c in
    let e = right (leb g.timeout_type largest_timeout_type) _ d in
    let f = right (leb g.spacecraft largest_spacecraft) _ e in
    let x = offset v.vs v.nnr in
    let h = right (leb q.sent largest_k) _ numbers in
    let i = right (leb q.sent x) _ h in
    let j = right (leb q.marked q.sent) _ i in
    let k = right (leb 1 v.transmission_count) _ j in
    record {
      formed = record {
        vs_octet = z.vs;
        nnr_octet = z.nnr;
        sent_most = leb-true q.sent largest_k (left _ _ numbers);
        outstanding = leb-true q.sent x (left _ _ h);
        last = leb-true q.marked q.sent (left _ _ i);
        all_places = z.lengths;
        units = lengths_most (units_held q.sent q.waiting) s.lengths units;
        room = long;
      };
      window_least = leb-true 1 g.k (left _ _ settings);
      window = leb-true g.k largest_k (left _ _ a);
      clock_least = leb-true 1 g.t1_initial (left _ _ b);
      limit_least = leb-true 1 g.transmission_limit (left _ _ c);
      limit = z.limit;
      count_least = leb-true 1 v.transmission_count (left _ _ j);
      count_most = z.count;
      type_most = leb-true g.timeout_type largest_timeout_type (left _ _ d);
      suspend_most = leb-true v.suspend_state largest_suspend_state k;
      suspend_initial = serves v q s.state states;
      sent_main = λ m. (outside v q s.state states m).0;
      waiting_main = λ m. (outside v q s.state states m).1;
      stopped = λ p. timed v q (subst (λ (y : State). state_holds y v q ≡ true) p states);
      control_s5 = framed v q s.state states;
      filled = λ n p. lengths_least (units_held q.sent q.waiting) s.lengths units n
          p
          (places_enough q.sent q.waiting n p (leb-true q.sent largest_k (left _ _ numbers)) z.lengths);
      spacecraft = refl;
      channel = refl;
      spacecraft_most = leb-true g.spacecraft largest_spacecraft (left _ _ e);
      channel_most = leb-true g.channel largest_channel f;
    } where
      places_enough : (sent : ℕ) (waiting : Bool) (n : ℕ) → n < units_held sent waiting → sent ≤ largest_k → length s.lengths ≡ places
          → n < length s.lengths
      places_enough sent true n p m l = omega (arith, p, m, l)
      places_enough sent false n p m l = omega (arith, p, m, l)

-- A start with settings within their limits passes, whichever two numbers it is given, so it is well-formed.
module _ (g : Settings) (vs nnr : ℕ) (limits : settings_hold g ≡ true) where
  start_passes : well_formed (start_of g vs nnr) ≡ true
  unfolding well_formed start_of
  start_passes = joined _ _ limits (rw (le-leb 0 (offset vs nnr) (omega arith)) refl)

  pub start_good : (store : List ℕ) → vs < 256 → nnr < 256 → g.transmission_limit ≤ largest_transmission_limit → store_need g.k 0 ≤ length store
      → Good (record { spacecraft = g.spacecraft; channel = g.channel }) (start_of g vs nnr) store
  unfolding start_of
  start_good store v n l long =
      passes_good (start_of g vs nnr) store (record { vs = v; nnr = n; limit = l; count = omega arith; lengths = length-replicate {A = ℕ} places 0 }) long start_passes

  pub start_done : (lent : ℕ) → store_need g.k 0 ≤ lent → starting_of g vs nnr lent ≡ Ok (record { fop = start_of g vs nnr })
  unfolding starting_of
  start_done lent long = simp (limits, le-leb (store_need g.k 0) lent long)
