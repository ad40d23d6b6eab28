-- The pool: each event changes the sum of what the records hold by what it says, the sum never exceeds the pool, and a table that holds stays one, over any events
-- (`pooled`); what a release that names a channel comes to (`named_release`). A unit is taken by E1 in Open alone, and E1 comes only where there is room.
use Rattle.std.specs.Prelude.{None}
use mathlib.Core.Path.{◌≡◌, refl, sym, ap, ◌∙◌}
use mathlib.Core.Bool.{Bool, true, false}
use mathlib.Core.Logic.{⊎_elim}
use mathlib.Core.List.{List, [], ◌∷◌}
use Prim.Native.Nat.{ℕ, ◌+◌, ◌-◌, ◌≤◌}
use native.Mathlib.Omega.{arith}
use native.Mathlib.Nat.{add-zero}
use borrow.Author.Tests.{ltb-true, ltb-false, lt-ltb}
use lib.Dec.{ltb, eqb}
use lib.ListN.{set}
use Rattle.base.specs.Choice.{both}
use Rattle.base.specs.Flags.{bit_of}
use Rattle.base.specs.Modulo.{offset}
use Rattle.farm.specs.Table.{event_number, table, accepts, unit_of}
use Rattle.farm.specs.declared.State.{State}
use Rattle.farm.specs.declared.Event.{Event as FarmEvent}
use Rattle.farm.specs.declared.Event.TheVariants.{E1, E2, E3, E4, E5, E6, E7, E8, E9, E10, E11}
use Rattle.farm.proofs.Cells.{by_state, by_event_lem, differ}
use Rattle.farm.proofs.Windows.{e1_room}
use Rattle.frame.specs.Frame.{refusal_of, kind_of}
use Rattle.frame.specs.declared.Kind.{Kind}
use Rattle.frame.specs.declared.Kind.TheVariants.{Ad, Bd, Unlock, SetVr}
use Rattle.receiver.specs.declared.Channel.{Channel}
use Rattle.receiver.specs.Channel.{event_of, star_of, takes, answered, arrived, may_release}
use Rattle.receiver.proofs.Kept.{taking}
use Rattle.channels.specs.Table.{is_in, place_of, held_in, record_holds, table_holds, has_room, record_of, Turn, nothing, turned, records_after, addressed, release_turn}
use Rattle.channels.specs.Isolation.{ours, Event, frame_arrives, release_buffer, report_word, named, turn, told_of, told, after, after_all, is_open, Pooled, NamedRelease}
use Rattle.channels.proofs.RecordLaws.{place_within, held_set, record_holds_lem, own_set}
use Rattle.channels.proofs.Turns.{nothing_after, given_back, release_by, FrameCase, ReleaseCase, frame_case, release_case}
use Rattle.channels.proofs.Isolation.{arrived_number, given_number}
use Rattle.channels.proofs.Agree.{none_may}
use Rattle.channels.proofs.Kept.{record_kept, within, holds_set}

-- Of one channel.

-- a unit is taken by E1 in Open
abbrev Taken : FarmEvent → State → Type 0
Taken e s = takes (unit_of e s) ≡ bit_of (both (eqb (event_number e) 1) (is_open s))

taken_by : (e : FarmEvent) (s : State) → Taken e s
unfolding accepts table
taken_by =
    by_event_lem (λ (e : FarmEvent). (s : State) → Taken e s)
    (by_state (Taken E1) refl refl refl)
    (by_state (Taken E2) refl refl refl)
    (by_state (Taken E3) refl refl refl)
    (by_state (Taken E4) refl refl refl)
    (by_state (Taken E5) refl refl refl)
    (by_state (Taken E6) refl refl refl)
    (by_state (Taken E7) refl refl refl)
    (by_state (Taken E8) refl refl refl)
    (by_state (Taken E9) refl refl refl)
    (by_state (Taken E10) refl refl refl)
    (by_state (Taken E11) refl refl refl)

module _ (room : Bool) (c : Channel) (kind : Kind) where
  arrived_taken : takes (arrived room c kind).unit ≡ bit_of (both (eqb (event_number (arrived room c kind).event) 1) (is_open c.variables.state))
  unfolding arrived answered
  arrived_taken = taken_by (event_of room c kind) c.variables.state

  arrived_held : (arrived room c kind).next.held ≡ c.held + takes (arrived room c kind).unit
  unfolding arrived answered
  arrived_held = refl

  arrived_holds : record_holds c ≡ true → record_holds (arrived room c kind).next ≡ true
  unfolding arrived answered
  arrived_holds = record_kept c (c.held + takes (unit_of (event_of room c kind) c.variables.state)) (event_of room c kind) (star_of kind)

  -- E1 comes only where there is room
  arrived_room : event_of room c kind ≡ E1 → room ≡ true
  unfolding event_of
  arrived_room = go kind
    where
      go : (k : Kind) → event_of room c k ≡ E1 → room ≡ true
      go (Ad number) = e1_room c.window c.variables.state room (offset number c.variables.vr)
      go Bd = differ E6 E1 refl
      go Unlock = differ E7 E1 refl
      go (SetVr value) = differ E8 E1 refl

  -- what is taken fits where there is room for one
  arrived_fits : (sum pool : ℕ) → room ≡ ltb sum pool → sum ≤ pool → sum + takes (arrived room c kind).unit ≤ pool
  unfolding arrived answered
  arrived_fits sum pool e h =
      ⊎_elim (λ z. omega arith) (λ z. omega (arith, ltb-true sum pool (sym e ∙ arrived_room z.0))) (taking (event_of room c kind) c.variables.state)

given_held : (c : Channel) → (given_back c).next.held ≡ c.held - 1
unfolding answered
given_held c = add-zero (c.held - 1)

given_holds : (c : Channel) → record_holds c ≡ true → record_holds (given_back c).next ≡ true
unfolding answered
given_holds c = record_kept c (c.held - 1 + takes (unit_of E10 c.variables.state)) E10 0

-- Of the table.

module _ (spacecraft pool : ℕ) (cs : List Channel) where
  -- where nothing changes the sum stays
  nothing_held : (refusal event : ℕ) → held_in (records_after (nothing refusal event cs) cs) ≡ held_in cs
  nothing_held refusal event = ap held_in (nothing_after refusal event cs)

  frame_held : (octets : List ℕ) → {t : Turn} → FrameCase spacecraft pool cs octets t → held_in (records_after t cs) ≡ held_in cs + takes t.unit
  frame_held octets (FrameCase.unheld h) = omega (arith, nothing_held 12 0)
  frame_held octets (FrameCase.refused h d) = omega (arith, nothing_held (refusal_of octets spacecraft (addressed cs octets)) 9)
  frame_held octets (FrameCase.arrives h here z) =
      let c = record_of (named octets) cs in
      let a = arrived (has_room pool cs) c (kind_of octets) in
      omega (arith, held_set a.next cs (place_of (named octets) cs) (place_within (named octets) cs here), arrived_held (has_room pool cs) c (kind_of octets))

  frame_taken : (octets : List ℕ) → {t : Turn} → FrameCase spacecraft pool cs octets t
      → takes t.unit ≡ bit_of (both (eqb t.event 1) (is_open (record_of (named octets) cs).variables.state))
  frame_taken octets (FrameCase.unheld h) = refl
  frame_taken octets (FrameCase.refused h d) = refl
  frame_taken octets (FrameCase.arrives h here z) = arrived_taken (has_room pool cs) (record_of (named octets) cs) (kind_of octets)

  frame_fits : (octets : List ℕ) → {t : Turn} → FrameCase spacecraft pool cs octets t → held_in cs ≤ pool → held_in cs + takes t.unit ≤ pool
  frame_fits octets (FrameCase.unheld h) l = omega arith
  frame_fits octets (FrameCase.refused h d) l = omega arith
  frame_fits octets (FrameCase.arrives h here z) l = arrived_fits (has_room pool cs) (record_of (named octets) cs) (kind_of octets) (held_in cs) pool refl l

  frame_kept : (octets : List ℕ) → {t : Turn} → FrameCase spacecraft pool cs octets t → table_holds spacecraft pool (records_after t cs) ≡ table_holds spacecraft pool cs
  frame_kept octets (FrameCase.unheld h) = ap (table_holds spacecraft pool) (nothing_after 12 0 cs)
  frame_kept octets (FrameCase.refused h d) = ap (table_holds spacecraft pool) (nothing_after (refusal_of octets spacecraft (addressed cs octets)) 9 cs)
  frame_kept octets (FrameCase.arrives h here z) =
      let n = named octets in
      let c = record_of n cs in
      let a = arrived (has_room pool cs) c (kind_of octets) in
      let w = within spacecraft pool cs h in
      holds_set spacecraft pool cs h n a.next (arrived_number (has_room pool cs) c (kind_of octets))
      (arrived_holds (has_room pool cs) c (kind_of octets) (record_holds_lem cs (place_of n cs) w.all))
      (omega (arith, frame_held octets (FrameCase.arrives h here z), frame_fits octets (FrameCase.arrives h here z) w.most))
      ∙ sym h

  -- a release that is done: one given back, or none where none was held
  given_sum : (n : ℕ) → is_in n cs ≡ true → held_in (records_after (turned n (given_back (record_of n cs)) cs) cs) + bit_of (ltb 0 (record_of n cs).held) ≡ held_in cs
  given_sum n here = go (ltb 0 (record_of n cs).held) refl
    where
      go : (b : Bool) → ltb 0 (record_of n cs).held ≡ b → held_in (set cs (place_of n cs) (given_back (record_of n cs)).next) + bit_of b ≡ held_in cs
      go true e =
          omega (arith, held_set (given_back (record_of n cs)).next cs (place_of n cs) (place_within n cs here), given_held (record_of n cs), ltb-true 0 (record_of n cs).held e)
      go false e =
          omega (arith, held_set (given_back (record_of n cs)).next cs (place_of n cs) (place_within n cs here), given_held (record_of n cs), ltb-false 0 (record_of n cs).held e)

  release_held : (n : ℕ) → {t : Turn} → ReleaseCase spacecraft pool cs n t → t.refusal ≡ 0 → held_in (records_after t cs) + bit_of (ltb 0 (record_of n cs).held) ≡ held_in cs
  release_held n (ReleaseCase.unheld h) z = absurd (omega arith)
  release_held n (ReleaseCase.absent h e) z = absurd (omega arith)
  release_held n (ReleaseCase.none h here b) z = absurd (omega arith)
  release_held n (ReleaseCase.done h here b) z = given_sum n here

  -- it never grows
  release_less : (n : ℕ) → {t : Turn} → ReleaseCase spacecraft pool cs n t → held_in (records_after t cs) ≤ held_in cs
  release_less n (ReleaseCase.unheld h) = omega (arith, nothing_held 12 0)
  release_less n (ReleaseCase.absent h e) = omega (arith, nothing_held 7 0)
  release_less n (ReleaseCase.none h here b) = omega (arith, nothing_held 13 0)
  release_less n (ReleaseCase.done h here b) = omega (arith, given_sum n here)

  release_kept : (n : ℕ) → {t : Turn} → ReleaseCase spacecraft pool cs n t → table_holds spacecraft pool (records_after t cs) ≡ table_holds spacecraft pool cs
  release_kept n (ReleaseCase.unheld h) = ap (table_holds spacecraft pool) (nothing_after 12 0 cs)
  release_kept n (ReleaseCase.absent h e) = ap (table_holds spacecraft pool) (nothing_after 7 0 cs)
  release_kept n (ReleaseCase.none h here b) = ap (table_holds spacecraft pool) (nothing_after 13 0 cs)
  release_kept n (ReleaseCase.done h here b) =
      let w = within spacecraft pool cs h in
      holds_set spacecraft pool cs h n (given_back (record_of n cs)).next (given_number (record_of n cs))
      (given_holds (record_of n cs) (record_holds_lem cs (place_of n cs) w.all))
      (omega (arith, given_sum n here, w.most))
      ∙ sym h

  -- one event of any kind
  pub event_most : (e : Event) → held_in cs ≤ pool → held_in (after ours spacecraft pool cs e) ≤ pool
  event_most (frame_arrives octets lent) l =
      let c = frame_case spacecraft pool cs octets lent in
      omega (arith, frame_held octets c, frame_fits octets c l)
  event_most (release_buffer n) l = omega (arith, release_less n (release_case spacecraft pool cs n))
  event_most (report_word n room) l = l

  pub event_kept : (e : Event) → table_holds spacecraft pool (after ours spacecraft pool cs e) ≡ table_holds spacecraft pool cs
  event_kept (frame_arrives octets lent) = frame_kept octets (frame_case spacecraft pool cs octets lent)
  event_kept (release_buffer n) = release_kept n (release_case spacecraft pool cs n)
  event_kept (report_word n room) = refl

-- any of them, one after the other
all_most : (spacecraft pool : ℕ) (es : List Event) (cs : List Channel) → held_in cs ≤ pool → held_in (after_all ours spacecraft pool es cs) ≤ pool
all_most spacecraft pool [] cs l = l
all_most spacecraft pool (e ∷ es) cs l = all_most spacecraft pool es (after ours spacecraft pool cs e) (event_most spacecraft pool cs e l)

all_kept : (spacecraft pool : ℕ) (es : List Event) (cs : List Channel) → table_holds spacecraft pool (after_all ours spacecraft pool es cs) ≡ table_holds spacecraft pool cs
all_kept spacecraft pool [] cs = refl
all_kept spacecraft pool (e ∷ es) cs = all_kept spacecraft pool es (after ours spacecraft pool cs e) ∙ event_kept spacecraft pool cs e

pub pooled : (spacecraft pool : ℕ) (cs : List Channel) → Pooled ours spacecraft pool cs
pooled spacecraft pool cs = record {
  frames = λ octets lent. frame_held spacecraft pool cs octets (frame_case spacecraft pool cs octets lent);
  taken = λ octets lent. frame_taken spacecraft pool cs octets (frame_case spacecraft pool cs octets lent);
  releases = λ n. release_held spacecraft pool cs n (release_case spacecraft pool cs n);
  most = λ es. all_most spacecraft pool es cs;
  holds = λ es. all_kept spacecraft pool es cs;
}

-- a release that names a channel that is there
module _ (spacecraft pool : ℕ) (cs : List Channel) (n : ℕ) (h : table_holds spacecraft pool cs ≡ true) (here : is_in n cs ≡ true) where
  pub release_done : may_release (record_of n cs).held (record_of n cs).variables.state (has_room pool cs) ≡ true
      → release_turn spacecraft pool cs n ≡ turned n (given_back (record_of n cs)) cs
  release_done may = release_by spacecraft pool cs h n ∙ rw (here, may)

  release_none : may_release (record_of n cs).held (record_of n cs).variables.state (has_room pool cs) ≡ false → release_turn spacecraft pool cs n ≡ nothing 13 0 cs
  release_none may = release_by spacecraft pool cs h n ∙ rw (here, may)

  given_told : release_turn spacecraft pool cs n ≡ turned n (given_back (record_of n cs)) cs → told ours spacecraft pool cs (release_buffer n) ≡ turn 0 10 n None []
  unfolding answered
  given_told e = ap (λ (t : Turn). told_of t []) e

pub named_release : (spacecraft pool : ℕ) (cs : List Channel) (n : ℕ) → NamedRelease ours spacecraft pool cs n
named_release spacecraft pool cs n = record {
  gives = λ h here l.
      let e = release_done spacecraft pool cs n h here (rw (lt-ltb 0 (record_of n cs).held l)) in
      let a = given_back (record_of n cs) in
      let held : (record_of n (records_after (release_turn spacecraft pool cs n) cs)).held ≡ a.next.held =
      ap (λ (t : Turn). (record_of n (records_after t cs)).held) e ∙ ap (λ (c : Channel). c.held) (own_set n cs here a.next (given_number (record_of n cs))) in
      (given_told spacecraft pool cs n h here e, omega (arith, given_held (record_of n cs)));
  refused = λ h here z w. ap (λ (t : Turn). told_of t []) (release_none spacecraft pool cs n h here (none_may (record_of n cs) (has_room pool cs) z ∙ w));
  opens = λ h here z w.
      let e = release_done spacecraft pool cs n h here (none_may (record_of n cs) (has_room pool cs) z ∙ w) in
      let none : bit_of (ltb 0 (record_of n cs).held) ≡ 0 = ap (λ (k : ℕ). bit_of (ltb 0 k)) z in (
        given_told spacecraft pool cs n h here e,
        ap (λ (t : Turn). held_in (records_after t cs)) e ∙ omega (arith, none, given_sum spacecraft pool cs n here),
      );
}
