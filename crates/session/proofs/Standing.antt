-- Of the table machines: what is sent, confirmed, outstanding and denied, and the states. In service the queue is what is not confirmed, and
-- nothing is denied; out of service all that is not confirmed is denied. So at most K are outstanding.
use mathlib.Core.Logic.{◌⊎◌, inl, inr}
use mathlib.Core.Path.{◌≡◌, refl, sym, ap, ◌∙◌, subst}
use mathlib.Core.Bool.{Bool, true, false, not, true≢false, false≢true}
use mathlib.Core.List.{List, [], ◌++◌, map, append-nil}
use mathlib.Core.Option.{Option, some}
use Prim.Native.Nat.{ℕ, ◌+◌, ◌-◌, ◌≤◌}
use native.Mathlib.Nat.{zero-add}
use native.Mathlib.Omega.{arith}
use lib.Dec.{T, eqb}
use lib.ListN.{length, drop, length-drop}
use lib.Seq.{take_all, take-length}
use Rattle.fop.specs.declared.State.{State}
use Rattle.fop.specs.declared.State.TheVariants.{S1, S2, S3, S4, S5, S6}
use Rattle.fop.specs.Machine.{fdus}
use Rattle.fop.specs.Effective.{effective_of, effective, is_suspended}
use Rattle.session.specs.Ends.{Settings}
use Rattle.session.specs.Claims.{units_at, outstanding, remaining, BufferFree}
use Rattle.session.specs.Stronger.{units_of, somes, in_service}
use Rattle.session.proofs.Core.{Session}
use Rattle.session.proofs.Suspended.{unsuspended, suspended_left}
use Rattle.session.proofs.Lists.{iota, iota_append, length_nums, somes_nums, units_iota, units_of_nums, left_none}
use Rattle.session.proofs.Values.{Dead}
use Rattle.session.proofs.Rows.{mode_of, sound}
use Rattle.session.proofs.Inv.{Inv, Side, in_mode, is_locked}
use Rattle.session.proofs.Buffers.{Full}
use Rattle.session.proofs.Next.{history_of, live_in, out_is}
use Rattle.farm.specs.declared.State.{State as FarmState}
use Rattle.farm.specs.declared.State.TheVariants.{Open, Wait, Lockout}

module _ (set : Settings) (κ : Session) (I : Inv set κ) where
  abbrev C : ℕ
  C = length κ.confirmed

  abbrev S : ℕ
  S = length κ.sent

  low : length κ.confirmed ≤ length κ.sent
  low = omega (arith, I.base)

  -- out of service
  pub initial_denied : (s : State) → Side (mode_of s) set.n (length κ.confirmed) κ.sent κ.denied (fdus κ.fop.queues.sent_queue) κ.fop.numbers.vs κ.fop.numbers.nnr → s ≡ S6
      → κ.denied ≡ iota (length κ.confirmed) (length κ.sent - length κ.confirmed)
  initial_denied s h e =
      let d : Dead (length κ.confirmed) κ.denied κ.sent [] [] (fdus κ.fop.queues.sent_queue) =
      subst (λ (x : State). Side (mode_of x) set.n (length κ.confirmed) κ.sent κ.denied (fdus κ.fop.queues.sent_queue) κ.fop.numbers.vs κ.fop.numbers.nnr) e h in
      let a : length d.after ≡ length κ.sent - length κ.confirmed = ap length d.cut ∙ length-drop (length κ.confirmed) κ.sent in
      let z : length κ.confirmed + 0 ≡ length κ.confirmed = omega arith in
      sym (append-nil κ.denied) ∙ d.denied ∙ rw (a, z)

  pub all_units : units_at κ.sent (κ.confirmed ++ iota (length κ.confirmed) (length κ.sent - length κ.confirmed)) ≡ map some κ.sent
  all_units =
      let l = low in
      let z : length κ.confirmed + (length κ.sent - length κ.confirmed) ≡ length κ.sent = omega arith in
      let e : κ.confirmed ++ iota (length κ.confirmed) (length κ.sent - length κ.confirmed) ≡ iota 0 (length κ.sent) =
      ap (λ (x : List (Option ℕ)). x ++ iota (length κ.confirmed) (length κ.sent - length κ.confirmed)) I.places
      ∙ ap (λ (i : ℕ). iota 0 (length κ.confirmed) ++ iota i (length κ.sent - length κ.confirmed)) (sym (zero-add (length κ.confirmed)))
      ∙ iota_append 0 (length κ.confirmed) (length κ.sent - length κ.confirmed) ∙ ap (iota 0) z in
      ap (units_at κ.sent) e ∙ units_iota κ.sent 0 (length κ.sent) (omega arith) ∙ ap (map some) (take-length κ.sent)

  pub state_is : (s : State) → Side (mode_of s) set.n (length κ.confirmed) κ.sent κ.denied (fdus κ.fop.queues.sent_queue) κ.fop.numbers.vs κ.fop.numbers.nnr
      → (in_service s ≡ true) ⊎ (s ≡ S6)
  state_is S1 h = inl refl
  state_is S2 h = inl refl
  state_is S3 h = inl refl
  state_is S4 h = absurd h
  state_is S5 h = absurd h
  state_is S6 h = inr refl

  -- the states of a session
  pub states_are : (in_service κ.fop.state ≡ true) ⊎ (κ.fop.state ≡ S6)
  states_are = by κ.fop.state (in_mode set κ I)
    where
      by : (s : State) → T (sound (mode_of (effective_of s κ.fop.suspend_state))) → (in_service s ≡ true) ⊎ (s ≡ S6)
      by S1 h = inl refl
      by S2 h = inl refl
      by S3 h = inl refl
      by S4 h = absurd h
      by S5 h = absurd h
      by S6 h = inr refl

  -- a suspended sender is in Initial, and its effective state is one of the main protocol's
  pub suspended_in_lem : is_suspended κ.fop ≡ true → (κ.fop.state ≡ S6) × (in_service (effective κ.fop) ≡ true)
  suspended_in_lem u = by (eqb κ.fop.suspend_state 0) refl u
    where
      initial : (s : State) → eqb κ.fop.suspend_state 0 ≡ false → T (unsuspended s κ.fop.suspend_state) → s ≡ S6
      initial S1 q o = absurd (subst T q o)
      initial S2 q o = absurd (subst T q o)
      initial S3 q o = absurd (subst T q o)
      initial S4 q o = absurd (subst T q o)
      initial S5 q o = absurd (subst T q o)
      initial S6 q o = refl

      serves : eqb κ.fop.suspend_state 0 ≡ false → κ.fop.state ≡ S6 → (in_service (effective κ.fop) ≡ true) ⊎ (effective κ.fop ≡ S6)
          → in_service (effective κ.fop) ≡ true
      serves q i (inl e) = e
      serves q i (inr e) =
          absurd (suspended_left κ.fop.suspend_state q (ap (λ (s : State). effective_of s κ.fop.suspend_state) (sym i) ∙ e))

      by : (b : Bool) → eqb κ.fop.suspend_state 0 ≡ b → not b ≡ true → (κ.fop.state ≡ S6) × (in_service (effective κ.fop) ≡ true)
      by true q u = absurd (false≢true u)
      by false q u =
          let i = initial κ.fop.state q I.suspension.outside in
          (i, serves q i (state_is (effective κ.fop) I.side))

  pub at_most : length (outstanding (history_of κ)) ≤ set.k
  unfolding outstanding
  at_most = by (state_is (effective κ.fop) I.side)
    where
      by : (in_service (effective κ.fop) ≡ true) ⊎ (effective κ.fop ≡ S6) → length (outstanding (history_of κ)) ≤ set.k
      by (inl e) = omega (arith, ap length (out_is set κ I (live_in set κ I e).fresh), length_nums C (S - C), I.base)
      by (inr e) =
          let z : remaining κ.confirmed κ.denied 0 S ≡ [] =
          ap (λ (x : List (Option ℕ)). remaining x κ.denied 0 S) I.places
          ∙ ap (λ (x : List (Option ℕ)). remaining (iota 0 C) x 0 S) (initial_denied (effective κ.fop) I.side e) ∙ left_none C (S - C) 0 S (omega (arith, low)) in
          omega (arith, ap length z)

  pub standing : in_service (effective κ.fop) ≡ true → units_at κ.sent (κ.confirmed ++ somes (outstanding (history_of κ))) ≡ map some κ.sent
  standing e =
      let l = live_in set κ I e in
      ap (λ (x : List (Option ℕ)). units_at κ.sent (κ.confirmed ++ x)) (ap somes (out_is set κ I l.fresh) ∙ somes_nums C (S - C)) ∙ all_units

  pub queued : in_service (effective κ.fop) ≡ true → fdus κ.fop.queues.sent_queue ≡ units_of κ.sent (outstanding (history_of κ))
  queued e =
      let l = live_in set κ I e in
      let lo = low in
      l.cut ∙ sym (take_all (length κ.sent - length κ.confirmed) (drop (length κ.confirmed) κ.sent)
      (omega (arith, length-drop (length κ.confirmed) κ.sent)))
      ∙ sym (units_of_nums κ.sent (length κ.confirmed) (length κ.sent - length κ.confirmed) (omega arith))
      ∙ ap (units_of κ.sent) (sym (out_is set κ I l.fresh))

  pub opens : (s : FarmState) → is_locked s ≡ false → Full s (length κ.accepted) (set.buffers + κ.released) → BufferFree set (history_of κ) → s ≡ Open
  opens Open l f b = refl
  opens Wait l f b = absurd (omega (arith, f, b))
  opens Lockout l f b = absurd (true≢false l)
