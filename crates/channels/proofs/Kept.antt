-- A table that holds stays one where a record is changed as table 7-9 changes it: every row keeps the flags those of the state and the counter below 4, cell by
-- cell (`step_holds`), so the record stays within its limits (`record_kept`), and with a sum within the pool the table holds (`holds_set`).
use mathlib.Core.Path.{◌≡◌, refl, ◌∙◌}
use mathlib.Core.Bool.{Bool, true, false, not}
use mathlib.Core.List.{List}
use Prim.Native.Nat.{ℕ, ◌+◌, ◌%◌, ◌<◌, ◌≤◌}
use native.Mathlib.Omega.{arith}
use borrow.Author.Tests.{leb-true, ltb-true, le-leb, lt-ltb}
use lib.Dec.{leb, ltb, eqb}
use lib.ListN.{length, set, length-set}
use Rattle.base.specs.Choice.{pick, both}
use Rattle.base.specs.Limits.{largest_spacecraft, largest_channel}
use Rattle.base.proofs.Tests.{apart, both_left, both_right, both_true}
use Rattle.farm.specs.Table.{table, perform, perform_all, step_of}
use Rattle.farm.specs.declared.State.{State}
use Rattle.farm.specs.declared.Event.{Event}
use Rattle.farm.specs.declared.Event.TheVariants.{E1, E2, E3, E4, E5, E6, E7, E8, E9, E10, E11}
use Rattle.farm.specs.declared.Variables.{Variables}
use Rattle.farm.proofs.Cells.{at, by_state, by_event_lem}
use Rattle.receiver.specs.declared.Channel.{Channel}
use Rattle.receiver.specs.Channel.{become}
use Rattle.receiver.specs.State.{flags_hold}
use Rattle.channels.specs.Limits.{largest_channels, largest_pool}
use Rattle.channels.specs.Table.{place_of, distinct, held_in, record_holds, all_hold, table_holds, record_of}
use Rattle.channels.proofs.RecordLaws.{distinct_set, hold_set}

-- the flags are those of the state, and the counter is below 4
abbrev Holding : Variables → Type 0
Holding v = (flags_hold v.state v.lockout v.wait v.retransmit ≡ true) × (v.counter < 4)

abbrev Keeps : ℕ → Variables → Event → State → Type 0
Keeps star v e s = Holding (at s v) → Holding (step_of e star (at s v))

-- one flag is left
alone : (a b : Bool) → both a b ≡ true → both a true ≡ true
alone a b h = both_true a ∙ both_left a b h

-- from Open and from Wait into Lockout
locks_open : (l w t : Bool) → both (not l) (not w) ≡ true → pick w t true ≡ true
locks_open l false t h = refl
locks_open true true t h = absurd (apart h)
locks_open false true t h = absurd (apart h)

locks_wait : (l w t : Bool) → both (not l) (both w t) ≡ true → pick w t true ≡ true
locks_wait l false t h = refl
locks_wait true true t h = absurd (apart h)
locks_wait false true t h = h

step_keeps : (star : ℕ) (v : Variables) (e : Event) (s : State) → Keeps star v e s
unfolding step_of table perform_all perform
step_keeps star v =
    by_event_lem (λ (e : Event). (s : State) → Keeps star v e s)
    (by_state (Keeps star v E1) same same same)
    (by_state (Keeps star v E2) (λ h. (alone (not v.lockout) (not v.wait) h.0, h.1)) same same)
    (by_state (Keeps star v E3) same same same)
    (by_state (Keeps star v E4) same same same)
    (by_state (Keeps star v E5) (λ h. (locks_open v.lockout v.wait v.retransmit h.0, h.1)) (λ h. (locks_wait v.lockout v.wait v.retransmit h.0, h.1)) same)
    (by_state (Keeps star v E6) counted counted counted)
    (by_state (Keeps star v E7) counted opened (λ h. (refl, omega arith)))
    (by_state (Keeps star v E8) counted opened counted)
    (by_state (Keeps star v E9) same same same)
    (by_state (Keeps star v E10) same (λ h. (alone (not v.lockout) (both v.wait v.retransmit) h.0, h.1))
    (λ h. (alone v.lockout (pick v.wait v.retransmit true) h.0, h.1)))
    (by_state (Keeps star v E11) same same same)
  where
    same : {A : Type 0} → A → A
    same h = h

    counted : {A : Type 0} → A × (v.counter < 4) → A × ((v.counter + 1) % 4 < 4)
    counted h = (h.0, omega arith)

    opened : (both (not v.lockout) (both v.wait v.retransmit) ≡ true) × (v.counter < 4) → (both (not v.lockout) true ≡ true) × ((v.counter + 1) % 4 < 4)
    opened h = (alone (not v.lockout) (both v.wait v.retransmit) h.0, omega arith)

pub step_holds : (star : ℕ) (v : Variables) (e : Event) → Holding v → Holding (step_of e star v)
step_holds star v e = step_keeps star v e v.state

-- four tests before a last one, which another takes the place of
last_instead : (a b c d x y : Bool) → (x ≡ true → y ≡ true) → both a (both b (both c (both d x))) ≡ true → both a (both b (both c (both d y))) ≡ true
last_instead true true true true x y k e = k e
last_instead true true true false x y k e = e
last_instead true true false d x y k e = e
last_instead true false c d x y k e = e
last_instead false b c d x y k e = e

-- a record keeps within its limits
pub record_kept : (c : Channel) (held : ℕ) (e : Event) (star : ℕ) → record_holds c ≡ true → record_holds (become held (step_of e star c.variables) c) ≡ true
record_kept c held e star =
    last_instead (leb c.number largest_channel) (eqb (c.window % 2) 0) (leb 2 c.window) (leb c.window 254) _ _
    (λ h. back (step_of e star c.variables) (step_holds star c.variables e (there c.variables h)))
  where
    there : (v : Variables) → both (flags_hold v.state v.lockout v.wait v.retransmit) (ltb v.counter 4) ≡ true → Holding v
    there v h =
        let f = flags_hold v.state v.lockout v.wait v.retransmit in
        (both_left f (ltb v.counter 4) h, ltb-true v.counter 4 (both_right f (ltb v.counter 4) h))

    back : (v : Variables) → Holding v → both (flags_hold v.state v.lockout v.wait v.retransmit) (ltb v.counter 4) ≡ true
    back v h = rw (h.0, lt-ltb v.counter 4 h.1)

-- What a table that holds tells of its records, and when it holds with others.
pub record Within (pool : ℕ) (cs : List Channel) : Type 0 where
  pub all : all_hold cs ≡ true
  pub one : distinct cs ≡ true
  pub most : held_in cs ≤ pool

module _ (spacecraft pool : ℕ) (cs : List Channel) (h : table_holds spacecraft pool cs ≡ true) where
  pub within : Within pool cs
  unfolding table_holds
  within =
      let a = both_right (leb spacecraft largest_spacecraft) _ h in
      let b = both_right (leb 1 pool) _ a in
      let c = both_right (leb pool largest_pool) _ b in
      let d = both_right (leb (length cs) largest_channels) _ c in
      let e = both_right (all_hold cs) _ d in
      record { all = both_left (all_hold cs) _ d; one = both_left (distinct cs) _ e; most = leb-true (held_in cs) pool (both_right (distinct cs) _ e) }

  pub holds_with : (cs' : List Channel) → length cs' ≡ length cs → Within pool cs' → table_holds spacecraft pool cs' ≡ true
  unfolding table_holds
  holds_with cs' e w =
      rw e (last_instead (leb spacecraft largest_spacecraft) (leb 1 pool) (leb pool largest_pool) (leb (length cs) largest_channels) _ _
      (λ x. rw (w.all, w.one, le-leb (held_in cs') pool w.most)) h)

  -- the record of a channel changed for another of its number, within the limits
  pub holds_set : (n : ℕ) (d : Channel) → d.number ≡ (record_of n cs).number → record_holds d ≡ true → held_in (set cs (place_of n cs) d) ≤ pool
      → table_holds spacecraft pool (set cs (place_of n cs) d) ≡ true
  holds_set n d number keeps most =
      holds_with (set cs (place_of n cs) d) (length-set cs (place_of n cs) d)
      (record {
        all = hold_set d cs (place_of n cs) keeps within.all;
        one = distinct_set d cs (place_of n cs) number ∙ within.one;
        most = most;
      })
