-- Wait with a free buffer, in the place of "Wait means every buffer taken", which stays with the single receiver: a channel begins to wait only while every buffer
-- is taken, discards frames while it waits, an expected one as E2 whatever the room, and a release that names it opens it (`waiting`). By table 7-9's column Wait.
use Rattle.std.specs.Prelude.{None}
use mathlib.Core.Path.{◌≡◌, refl, sym, ap, ◌∙◌}
use mathlib.Core.Bool.{Bool, true, false}
use mathlib.Core.Logic.{⊎_elim}
use mathlib.Core.List.{List}
use Prim.Native.Nat.{ℕ, ◌+◌}
use native.Mathlib.Omega.{arith}
use borrow.Author.Tests.{eqb-true, eqb-false, ltb-false}
use lib.Dec.{eqb}
use lib.ListN.{set}
use lib.Seq.{set-get_or}
use Rattle.base.specs.Modulo.{offset}
use Rattle.base.proofs.Tests.{apart, both_false}
use Rattle.farm.specs.Table.{event_number, table, perform, perform_all, step_of, accepts, unit_of}
use Rattle.farm.specs.Window.{ad_event}
use Rattle.farm.specs.declared.State.{State}
use Rattle.farm.specs.declared.State.TheVariants.{Open, Wait}
use Rattle.farm.specs.declared.Event.{Event as FarmEvent}
use Rattle.farm.specs.declared.Event.TheVariants.{E2, E6, E7, E8, E10}
use Rattle.farm.specs.declared.Variables.{Variables}
use Rattle.farm.proofs.Cells.{told, same, differ}
use Rattle.farm.proofs.Sound.{waited}
use Rattle.farm.proofs.Windows.{Case, expected, stopped, ahead, behind, outside, case_of, e2_full}
use Rattle.frame.specs.Frame.{refusal_of, kind_of}
use Rattle.frame.specs.declared.Kind.{Kind}
use Rattle.frame.specs.declared.Kind.TheVariants.{Ad, Bd, Unlock, SetVr}
use Rattle.receiver.specs.declared.Channel.{Channel}
use Rattle.receiver.specs.Channel.{become, event_of, star_of, takes, answered, arrived}
use Rattle.channels.specs.Table.{place_of, held_in, has_room, no_record, record_of, Turn, nothing, records_after, addressed}
use Rattle.channels.specs.Isolation.{ours, Event, frame_arrives, release_buffer, report_word, named, channel_of, after, Waiting}
use Rattle.channels.proofs.RecordLaws.{own_set}
use Rattle.channels.proofs.Turns.{nothing_after, given_back, FrameCase, ReleaseCase, frame_case, release_case}
use Rattle.channels.proofs.Isolation.{arrived_number, given_number, isolated}
use Rattle.channels.proofs.Kept.{within}

-- Of one channel.

module _ (room : Bool) (c : Channel) where
  -- the wait flag is set by an expected frame in Open that finds no room
  arrived_waits : (kind : Kind) → c.variables.wait ≡ false → (arrived room c kind).next.variables.wait ≡ true → room ≡ false
  unfolding arrived answered event_of
  arrived_waits kind f w =
      ⊎_elim (λ b. absurd (apart (sym f ∙ b))) (λ b. full kind b.0 b.1) (waited (star_of kind) c.variables (event_of room c kind) c.variables.state w)
    where
      full : (k : Kind) → event_of room c k ≡ E2 → c.variables.state ≡ Open → room ≡ false
      full (Ad number) e s = e2_full c.window room (offset number c.variables.vr) (rw s at e)
      full Bd e s = differ E6 E2 refl e
      full Unlock e s = differ E7 E2 refl e
      full (SetVr value) e s = differ E8 E2 refl e

  -- in Wait no AD frame is accepted
  wait_discards : (number : ℕ) → c.variables.state ≡ Wait → (arrived room c (Ad number)).unit ≡ None
  unfolding arrived answered event_of accepts table
  wait_discards number s =
      ap (unit_of (ad_event c.window c.variables.state room (offset number c.variables.vr))) s
      ∙ go (case_of c.window c.variables.state room (offset number c.variables.vr))
    where
      go : {e : FarmEvent} → Case c.window c.variables.state room (offset number c.variables.vr) e → unit_of e Wait ≡ None
      go (expected p q) = refl
      go (stopped p q) = refl
      go (ahead p q) = refl
      go (behind p) = refl
      go (outside p q) = refl

  -- and an expected one is E2, and changes nothing
  stopped_event : (number : ℕ) → c.variables.state ≡ Wait → offset number c.variables.vr ≡ 0 → (arrived room c (Ad number)).event ≡ E2
  unfolding arrived answered event_of ad_event
  stopped_event number s d = rw (s, d, both_false room)

  stopped_next : (number : ℕ) → c.variables.state ≡ Wait → offset number c.variables.vr ≡ 0 → (arrived room c (Ad number)).next ≡ c
  unfolding arrived answered accepts step_of table perform_all perform
  stopped_next number s d =
      let e : event_of room c (Ad number) ≡ E2 = stopped_event number s d in
      let v : step_of E2 0 c.variables ≡ c.variables = sym (told E2 0 c.variables c.variables Wait s (same c.variables Wait s)) in
      let u : takes (unit_of E2 c.variables.state) ≡ 0 = ap (λ (x : State). takes (unit_of E2 x)) s in
      let held : c.held + takes (unit_of E2 c.variables.state) ≡ c.held = omega (arith, u) in
      ap (λ (x : FarmEvent). (answered x 0 c).next) e ∙ ap (λ (k : ℕ). become k (step_of E2 0 c.variables) c) held ∙ ap (λ (x : Variables). become c.held x c) v

-- a release opens it
given_opens : (c : Channel) → c.variables.state ≡ Wait → ((given_back c).next.variables.state ≡ Open) × ((given_back c).next.variables.wait ≡ false)
unfolding answered step_of table perform_all perform
given_opens c s = (rw s, rw s)

given_runs : (c : Channel) → c.variables.wait ≡ false → (given_back c).next.variables.wait ≡ true → ⊥
unfolding answered
given_runs c f w = ⊎_elim (λ b. apart (sym f ∙ b)) (λ b. differ E10 E2 refl b.0) (waited 0 c.variables E10 c.variables.state w)

-- Of the table.

module _ (spacecraft pool : ℕ) (cs : List Channel) where
  -- nothing changed
  still : (n refusal event : ℕ) → (record_of n cs).variables.wait ≡ false → (record_of n (records_after (nothing refusal event cs) cs)).variables.wait ≡ true → ⊥
  still n refusal event f w = apart (sym f ∙ sym (ap (λ (l : List Channel). (record_of n l).variables.wait) (nothing_after refusal event cs)) ∙ w)

  frame_begins : (octets : List ℕ) → (record_of (named octets) cs).variables.wait ≡ false → {t : Turn} → FrameCase spacecraft pool cs octets t
      → (record_of (named octets) (records_after t cs)).variables.wait ≡ true → held_in cs ≡ pool
  frame_begins octets f (FrameCase.unheld h) w = absurd (still (named octets) 12 0 f w)
  frame_begins octets f (FrameCase.refused h d) w = absurd (still (named octets) (refusal_of octets spacecraft (addressed cs octets)) 9 f w)
  frame_begins octets f (FrameCase.arrives h here z) w =
      let n = named octets in
      let c = record_of n cs in
      let a = arrived (has_room pool cs) c (kind_of octets) in
      let own = own_set n cs here a.next (arrived_number (has_room pool cs) c (kind_of octets)) in
      let full = arrived_waits (has_room pool cs) c (kind_of octets) f (sym (ap (λ (x : Channel). x.variables.wait) own) ∙ w) in
      omega (arith, ltb-false (held_in cs) pool full, (within spacecraft pool cs h).most)

  release_begins : (n : ℕ) → (record_of n cs).variables.wait ≡ false → {t : Turn} → ReleaseCase spacecraft pool cs n t
      → (record_of n (records_after t cs)).variables.wait ≡ true → ⊥
  release_begins n f (ReleaseCase.unheld h) w = still n 12 0 f w
  release_begins n f (ReleaseCase.absent h e) w = still n 7 0 f w
  release_begins n f (ReleaseCase.none h here b) w = still n 13 0 f w
  release_begins n f (ReleaseCase.done h here b) w =
      given_runs (record_of n cs) f (sym (ap (λ (x : Channel). x.variables.wait) (own_set n cs here (given_back (record_of n cs)).next (given_number (record_of n cs)))) ∙ w)

  own_begins : (e : Event) → (record_of (channel_of e) cs).variables.wait ≡ false → (record_of (channel_of e) (after ours spacecraft pool cs e)).variables.wait ≡ true → held_in cs ≡ pool
  own_begins (frame_arrives octets lent) f w = frame_begins octets f (frame_case spacecraft pool cs octets lent) w
  own_begins (release_buffer n) f w = absurd (release_begins n f (release_case spacecraft pool cs n) w)
  own_begins (report_word n room) f w = absurd (apart (sym f ∙ w))

  begins : (e : Event) (n : ℕ) → (record_of n cs).variables.wait ≡ false → (record_of n (after ours spacecraft pool cs e)).variables.wait ≡ true → held_in cs ≡ pool
  begins e n f w = go (eqb n (channel_of e)) refl
    where
      go : (b : Bool) → eqb n (channel_of e) ≡ b → held_in cs ≡ pool
      go true p =
          let q = eqb-true n (channel_of e) p in
          own_begins e (ap (λ (k : ℕ). (record_of k cs).variables.wait) (sym q) ∙ f) (ap (λ (k : ℕ). (record_of k (after ours spacecraft pool cs e)).variables.wait) (sym q) ∙ w)
      go false p = absurd (apart (sym f ∙ sym (ap (λ (x : Channel). x.variables.wait) ((isolated spacecraft pool cs).others e n (eqb-false n (channel_of e) p))) ∙ w))

  frame_discards : (octets : List ℕ) (number : ℕ) → (record_of (named octets) cs).variables.state ≡ Wait → kind_of octets ≡ Ad number
      → {t : Turn} → FrameCase spacecraft pool cs octets t → t.unit ≡ None
  frame_discards octets number s k (FrameCase.unheld h) = refl
  frame_discards octets number s k (FrameCase.refused h d) = refl
  frame_discards octets number s k (FrameCase.arrives h here z) = rw k (wait_discards (has_room pool cs) (record_of (named octets) cs) number s)

  frame_stopped : (octets : List ℕ) (number : ℕ) → (record_of (named octets) cs).variables.state ≡ Wait → kind_of octets ≡ Ad number
      → offset number (record_of (named octets) cs).variables.vr ≡ 0 → {t : Turn} → FrameCase spacecraft pool cs octets t → t.refusal ≡ 0
      → (t.event ≡ 2) × (records_after t cs ≡ cs)
  frame_stopped octets number s k d (FrameCase.unheld h) r = absurd (omega arith)
  frame_stopped octets number s k d (FrameCase.refused h y) r = absurd (y r)
  frame_stopped octets number s k d (FrameCase.arrives h here z) r =
      let c = record_of (named octets) cs in
      rw k (
        ap event_number (stopped_event (has_room pool cs) c number s d),
        ap (set cs (place_of (named octets) cs)) (stopped_next (has_room pool cs) c number s d) ∙ set-get_or cs (place_of (named octets) cs) no_record,
      )

  release_opens : (n : ℕ) → (record_of n cs).variables.state ≡ Wait → {t : Turn} → ReleaseCase spacecraft pool cs n t → t.refusal ≡ 0
      → ((record_of n (records_after t cs)).variables.state ≡ Open) × ((record_of n (records_after t cs)).variables.wait ≡ false)
  release_opens n s (ReleaseCase.unheld h) r = absurd (omega arith)
  release_opens n s (ReleaseCase.absent h e) r = absurd (omega arith)
  release_opens n s (ReleaseCase.none h here b) r = absurd (omega arith)
  release_opens n s (ReleaseCase.done h here b) r =
      let o = own_set n cs here (given_back (record_of n cs)).next (given_number (record_of n cs)) in
      let g = given_opens (record_of n cs) s in
      (ap (λ (x : Channel). x.variables.state) o ∙ g.0, ap (λ (x : Channel). x.variables.wait) o ∙ g.1)

  pub waiting : Waiting ours spacecraft pool cs
  waiting = record {
    begins = begins;
    discards = λ octets lent r s number k. frame_discards octets number s k (frame_case spacecraft pool cs octets lent);
    stopped = λ octets lent r s number k d. frame_stopped octets number s k d (frame_case spacecraft pool cs octets lent) r;
    opens = λ n r s. release_opens n s (release_case spacecraft pool cs n) r;
  }
