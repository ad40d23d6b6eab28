-- What the receiver keeps: it is well-formed at its start, after every frame and after every release.
use Rattle.std.specs.Prelude.{Option, Some, None, Result, Ok, Err}
use mathlib.Core.Path.{◌≡◌, refl, sym, ap, subst, ◌∙◌}
use mathlib.Core.Bool.{Bool, true, false}
use mathlib.Core.List.{List}
use mathlib.Core.Logic.{◌⊎◌, inl, inr, ⊎_elim}
use Prim.Native.Nat.{ℕ, ◌+◌, ◌-◌, ◌%◌, ◌<◌, ◌≤◌}
use native.Mathlib.Omega.{arith}
use borrow.Author.Tests.{leb-true, ltb-true, ltb-false, eqb-true, le-leb, le-ltb}
use lib.Dec.{leb, ltb, eqb}
use lib.ListN.{drop, get_or}
use Rattle.base.specs.Choice.{pick, must, both}
use Rattle.base.specs.Modulo.{offset}
use Rattle.base.specs.Octets.{Octets, same}
use Rattle.base.specs.Fields.{field_at}
use Rattle.base.specs.Outcome.{Outcome.done}
use Rattle.base.specs.Refusals.{frame_refusal}
use Rattle.base.specs.Limits.{largest_spacecraft, largest_channel}
use Rattle.base.proofs.Lists.{octets_at_lem, below_take, below_drop}
use Rattle.base.proofs.Tests.{apart, both_true, both_false}
use Rattle.clcw.specs.Clcw.{clcw_of, writing}
use Rattle.frame_header.specs.Header.{bypass_flag, control_command_flag, frame_sequence_number}
use Rattle.frame.specs.Frame.{unlock_command, total_of, data_field, refusal_of, kind_of}
use Rattle.frame.specs.Answers.{fields_of, reading_of}
use Rattle.frame.specs.declared.Kind.{Kind}
use Rattle.frame.specs.declared.Kind.TheVariants.{Ad, Bd, Unlock, SetVr}
use Rattle.farm.specs.declared.State.{State}
use Rattle.farm.specs.declared.State.TheVariants.{Open, Wait, Lockout}
use Rattle.farm.specs.declared.Event.{Event}
use Rattle.farm.specs.declared.Event.TheVariants.{E1, E2, E6, E7, E8, E9, E10}
use Rattle.farm.specs.Table.{step_of, unit_of}
use Rattle.farm.specs.Window.{not_wait, ad_event}
use Rattle.farm.proofs.Cells.{differ}
use Rattle.farm.proofs.Units.{unit_cases}
use Rattle.farm.proofs.Windows.{e1_room, e2_full}
use Rattle.farm.proofs.Sound.{Sound, made, sound_step, waited, open_runs, released_runs}
use Rattle.receiver.specs.declared.Channel.{Channel}
use Rattle.receiver.specs.declared.Receiver.{Receiver}
use Rattle.receiver.specs.declared.Received.{Received}
use Rattle.base.specs.declared.Refusal.{Refusal}
use Rattle.base.specs.declared.Refusal.TheVariants.{Setting, Release}
use Rattle.receiver.specs.Channel.{star_of, takes}
use Rattle.receiver.specs.Channel as channel
use Rattle.receiver.specs.Receiver.{largest_buffers, at_start, start_of, become, has_room, answered, arrived, by_reading, receive_of, release_of, word_of}

-- a buffer is taken only by E1 in Open
abbrev pub Taking : Event → State → Type 0
Taking e s = (takes (unit_of e s) ≡ 0) ⊎ ((e ≡ E1) × (s ≡ Open) × (takes (unit_of e s) ≡ 1))

pub taking : (e : Event) (s : State) → Taking e s
taking e s = ⊎_elim (λ h. inl (ap takes h)) (⊎_elim (λ h. inr (h.0, h.1, ap takes h.2)) (λ h. inl (ap takes h.1))) (unit_cases e s)

-- document 01, "Limits"
pub record Legal (spacecraft channel window buffers : ℕ) : Type 0 where
  pub spacecraft_fits : spacecraft ≤ largest_spacecraft
  pub channel_fits : channel ≤ largest_channel
  pub even : window % 2 ≡ 0
  pub narrow : 2 ≤ window
  pub wide : window ≤ 254
  pub some : 1 ≤ buffers
  pub few : buffers ≤ largest_buffers

pub record WellFormed (r : Receiver) : Type 0 where
  pub settings : Legal r.farm.spacecraft r.farm.channel.number r.farm.channel.window r.farm.buffers
  pub variables : Sound r.farm.channel.variables
  pub taken : r.farm.channel.held ≤ r.farm.buffers
  -- document 01: "Wait with a free buffer can't arise"; nor does the wait flag with a free buffer in Lockout
  pub wait_full : r.farm.channel.variables.wait ≡ true → r.farm.channel.held ≡ r.farm.buffers

-- the units that a channel holds of as many buffers, and its wait flag, after an event, where E1 comes with a free buffer only, and E2 in Open
-- without one
module _ (c : Channel) (buffers : ℕ) (e : Event) (star : ℕ) (room : e ≡ E1 → c.held < buffers)
    (full : e ≡ E2 → c.variables.state ≡ Open → c.held ≡ buffers) where
  held_after : c.held ≤ buffers → c.held + takes (unit_of e c.variables.state) ≤ buffers
  held_after h = ⊎_elim (λ z. omega arith) (λ z. omega (arith, room z.0)) (taking e c.variables.state)

  full_after : Sound c.variables → (c.variables.wait ≡ true → c.held ≡ buffers) → (step_of e star c.variables).wait ≡ true
      → c.held + takes (unit_of e c.variables.state) ≡ buffers
  full_after h f w =
      ⊎_elim
      (λ z. ⊎_elim (λ b. omega (arith, f b)) (λ b. omega (arith, full b.0 b.1)) waits)
      (λ z. ⊎_elim (λ b. absurd (open_runs c.variables h z.1 b)) (λ b. differ E1 E2 refl (sym z.0 ∙ b.0)) waits)
      (taking e c.variables.state)
    where
      waits : (c.variables.wait ≡ true) ⊎ ((e ≡ E2) × (c.variables.state ≡ Open))
      waits = waited star c.variables e c.variables.state w

-- so such an event keeps the receiver well-formed
answered_well : (r : Receiver) → WellFormed r → (refusal : Option Refusal) (e : Event) (star : ℕ) → star < 256 → (e ≡ E1 → r.farm.channel.held < r.farm.buffers)
    → (e ≡ E2 → r.farm.channel.variables.state ≡ Open → r.farm.channel.held ≡ r.farm.buffers)
    → WellFormed (answered refusal e star r).next
unfolding answered channel.answered
answered_well r h refusal e star u room full =
    let c = r.farm.channel in
    record {
      settings = h.settings;
      variables = sound_step star c.variables u e h.variables;
      taken = held_after c r.farm.buffers e star room full h.taken;
      wait_full = full_after c r.farm.buffers e star room full h.variables h.wait_full;
    }

arrived_well : (r : Receiver) → WellFormed r → (kind : Kind) → star_of kind < 256 → WellFormed (arrived r kind).next
unfolding arrived answered channel.arrived channel.event_of
arrived_well r h (Ad number) u =
    let c = r.farm.channel in
    let d = offset number c.variables.vr in
    answered_well r h None (ad_event c.window c.variables.state (has_room r) d) 0 u
    (λ p. ltb-true c.held r.farm.buffers (e1_room c.window c.variables.state (has_room r) d p))
    (λ p q.
    let f = ltb-false c.held r.farm.buffers (e2_full c.window (has_room r) d (rw q at p)) in
    omega (arith, h.taken))
arrived_well r h Bd u = answered_well r h None E6 0 u (differ E6 E1 refl) (differ E6 E2 refl)
arrived_well r h Unlock u = answered_well r h None E7 0 u (differ E7 E1 refl) (differ E7 E2 refl)
arrived_well r h (SetVr value) u = answered_well r h None E8 value u (differ E8 E1 refl) (differ E8 E2 refl)

-- the value of Set V(R) is an octet
star_octet : (octets : List ℕ) → Octets octets → star_of (kind_of octets) < 256
unfolding kind_of data_field
star_octet octets h = go (eqb (field_at control_command_flag octets) 1) (same (data_field octets (total_of octets)) unlock_command) (eqb (field_at bypass_flag octets) 1)
  where
    go : (a b c : Bool) → star_of (pick a (pick b Unlock (SetVr (get_or (data_field octets (total_of octets)) 2 0))) (pick c Bd (Ad (field_at frame_sequence_number octets)))) < 256
    go true true c = omega arith
    go true false c = octets_at_lem (data_field octets (total_of octets)) (below_take 256 (total_of octets - 7) (drop 5 octets) (below_drop 256 5 octets h)) 2
    go false b true = omega arith
    go false b false = omega arith

pub receive_well : (r : Receiver) (octets : List ℕ) → Octets octets → WellFormed r → WellFormed (receive_of r octets).next
unfolding receive_of by_reading reading_of fields_of
receive_well r octets o h = go (eqb (refusal_of octets r.farm.spacecraft r.farm.channel.number) 0)
  where
    go : (b : Bool) → WellFormed (by_reading r (pick b (Ok (fields_of octets)) (Err (frame_refusal (refusal_of octets r.farm.spacecraft r.farm.channel.number))))).next
    go true = arrived_well r h (kind_of octets) (star_octet octets o)
    go false = answered_well r h (Some (frame_refusal (refusal_of octets r.farm.spacecraft r.farm.channel.number))) E9 0 (omega arith) (differ E9 E1 refl) (differ E9 E2 refl)

pub release_well : (r : Receiver) (x : Received) → WellFormed r → release_of r ≡ Ok x → WellFormed x.next
unfolding release_of answered channel.answered
release_well r x h = go (ltb 0 r.farm.channel.held)
  where
    left : Received
    left = answered None E10 0 (become (r.farm.channel.held - 1) r.farm.channel.variables r)

    well : WellFormed left.next
    well = record {
      settings = h.settings;
      variables = sound_step 0 r.farm.channel.variables (omega arith) E10 h.variables;
      taken = omega (arith, h.taken);
      wait_full = λ w. absurd (released_runs r.farm.channel.variables r.farm.channel.variables.state h.variables w);
    }

    go : (b : Bool) → must b (Err Release) (Ok left) ≡ Ok x → WellFormed x.next
    go true e =
        let p : left ≡ x = cc in
        subst (λ (y : Received). WellFormed y.next) p well
    go false e =
        let z : ◌≡◌ {A = ℕ} 0 1 = cc in
        absurd (omega arith)

-- a chain of checks that gives a receiver: this check held, and the rest gives it
passed : (b : Bool) (on : Result Receiver Refusal) (r : Receiver) → must b (Err Setting) on ≡ Ok r → (b ≡ true) × (on ≡ Ok r)
passed true on r e = (refl, e)
passed false on r e =
    let z : ◌≡◌ {A = ℕ} 0 1 = cc in
    absurd (omega arith)

pub start_well : (spacecraft channel window vr buffers : ℕ) (r : Receiver) → vr < 256 → start_of spacecraft channel window vr buffers ≡ Ok r → WellFormed r
unfolding start_of
start_well spacecraft channel window vr buffers r hv e =
    let a = passed (leb spacecraft largest_spacecraft) _ r e in
    let b = passed (leb channel largest_channel) _ r a.1 in
    let c = passed (eqb (window % 2) 0) _ r b.1 in
    let d = passed (leb 2 window) _ r c.1 in
    let f = passed (leb window 254) _ r d.1 in
    let g = passed (leb 1 buffers) _ r f.1 in
    let i = passed (leb buffers largest_buffers) (Ok (at_start spacecraft channel window vr buffers)) r g.1 in
    let p : at_start spacecraft channel window vr buffers ≡ r = cc i.1 in
    subst WellFormed p (record {
      settings = record {
        spacecraft_fits = leb-true spacecraft largest_spacecraft a.0;
        channel_fits = leb-true channel largest_channel b.0;
        even = eqb-true (window % 2) 0 c.0;
        narrow = leb-true 2 window d.0;
        wide = leb-true window 254 f.0;
        some = leb-true 1 buffers g.0;
        few = leb-true buffers largest_buffers i.0;
      };
      variables = made refl refl (λ w. absurd (apart w)) (omega arith) hv;
      taken = omega arith;
      wait_full = λ w. absurd (apart w);
    })

-- document 01: "Wait with a free buffer can't arise", so an expected frame is E1 wherever a buffer is free
pub wait_full_lem : (r : Receiver) → WellFormed r → r.farm.channel.variables.state ≡ Wait → r.farm.channel.held ≡ r.farm.buffers
wait_full_lem r h p = h.wait_full (rw p at h.variables.wait)

pub room_is_room : (r : Receiver) → WellFormed r → both (has_room r) (not_wait r.farm.channel.variables.state) ≡ has_room r
room_is_room r h = go r.farm.channel.variables.state refl
  where
    go : (s : State) → r.farm.channel.variables.state ≡ s → both (has_room r) (not_wait s) ≡ has_room r
    go Open p = both_true (has_room r)
    go Wait p = both_false (has_room r) ∙ sym (le-ltb r.farm.channel.held r.farm.buffers (omega (arith, wait_full_lem r h p)))
    go Lockout p = both_true (has_room r)

-- the control word has no setting outside its field: it is refused for want of room only
pub word_written_lem : (r : Receiver) (room : ℕ) → WellFormed r → 4 ≤ room → writing (word_of r) room ≡ done (clcw_of (word_of r)) tt
unfolding writing word_of
word_written_lem r room h k =
    rw (
      le-leb r.farm.channel.number largest_channel h.settings.channel_fits,
      le-leb r.farm.channel.variables.counter 3 (omega (arith, h.variables.counter)),
      le-leb 4 room k,
    )
