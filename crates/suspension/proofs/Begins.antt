-- A suspension begins (rows E18 and E104, computed in each state): Initial, with the state left in Suspend_State, the timer stopped, the units as they
-- were, and no frame, confirmation or denial.
use mathlib.Core.Path.{◌≡◌, refl, sym, ap, subst, ◌∙◌}
use mathlib.Core.Bool.{Bool, true, false, not, false≢true}
use mathlib.Core.List.{[]}
use mathlib.Core.Option.{Option, none}
use Prim.Native.Nat.{ℕ, ◌-◌}
use lib.Dec.{ltb, eqb}
use borrow.Author.Tests.{eqb-true}
use Rattle.base.specs.Choice.{pick}
use Rattle.fop.specs.Units.{Own}
use Rattle.fop.specs.declared.State.{State}
use Rattle.fop.specs.declared.State.TheVariants.{S1, S2, S3, S4, S5, S6}
use Rattle.fop.specs.declared.Event.{Event as FopEvent}
use Rattle.fop.specs.Table.{table78}
use Rattle.fop.specs.Variables.{Fop, Work, begin, set_state, set_suspend, set_clock}
use Rattle.fop.specs.Effective.{suspended_in, effective}
use Rattle.fop.specs.Machine.{perform, perform_all, perform_cell, fop_do}
use Rattle.fop.specs.Events.{tick, fop_expiry, fop_tick}
use Rattle.fop.specs.Answers.{octets_down, answered}
use Rattle.fop.proofs.Choices.{and_both}
use Rattle.fop.proofs.Test.{lowered}
use Rattle.suspension.specs.Suspension.{NoAdUnit, recorded, suspended_from, Begun, suspends_in, suspends_at}
use Rattle.suspension.proofs.Matter.{matter, still, units_of, no_frame}
use Rattle.suspension.proofs.Told.{expires, not_short}

-- what the cell leaves in a state: the variables with Suspend_State, and what the law looks at
abbrev Left : Fop → State → Work → Type 0
Left f s w =
    (w.fop ≡ set_state S6 (set_suspend (recorded s) (set_clock (f.clock.timer - 1) f.clock.transmission_count f)))
    × (matter w ≡ still S6 (recorded s) [] f) × (not (eqb (recorded s) 0) ≡ true) × (suspended_in (recorded s) ≡ s)

expires_left : (short : Bool) (s : State) (e : Option FopEvent) (f : Fop) → suspends_in s (not short) ≡ true
    → Left f s (expires short false s (begin e [] 0 (lowered f)))
unfolding table78 perform_cell perform_all perform
expires_left true S1 e f k = absurd (false≢true k)
expires_left true S2 e f k = absurd (false≢true k)
expires_left true S3 e f k = absurd (false≢true k)
expires_left true S4 e f k = (refl, refl, refl, refl)
expires_left true S5 e f k = absurd (false≢true k)
expires_left true S6 e f k = absurd (false≢true k)
expires_left false S1 e f k = (refl, refl, refl, refl)
expires_left false S2 e f k = (refl, refl, refl, refl)
expires_left false S3 e f k = (refl, refl, refl, refl)
expires_left false S4 e f k = (refl, refl, refl, refl)
expires_left false S5 e f k = absurd (false≢true k)
expires_left false S6 e f k = absurd (false≢true k)

module _ (own : Own) (f : Fop) where
  abbrev Begins : Work → Type 0
  Begins w = Begun f w.fop × NoAdUnit own tick (answered own w) × (octets_down own w.frames ≡ none)

  from_left : (w : Work) → f.clock.timer ≡ 1 → Left f f.state w → Begins w
  from_left w t l =
      let is : w.fop ≡ suspended_from f =
      l.0 ∙ ap (λ (x : ℕ). set_state S6 (set_suspend (recorded f.state) (set_clock (x - 1) f.clock.transmission_count f))) t in (
        record {
          is = is;
          suspended = record {
            initial = ap (λ (g : Fop). g.state) is;
            suspended = ap (λ (g : Fop). not (eqb g.suspend_state 0)) is ∙ l.2;
          };
          left = ap effective is ∙ l.3;
          units = units_of S6 (recorded f.state) [] f w l.1;
        },
        no_frame own tick S6 (recorded f.state) f w l.1,
        ap (λ m. octets_down own m.frames) l.1,
      )

  expires_begins : (short alerting : Bool) (e : Option FopEvent) → f.clock.timer ≡ 1 → not alerting ≡ true → suspends_in f.state (not short) ≡ true
      → Begins (expires short alerting f.state (begin e [] 0 (lowered f)))
  expires_begins short true e t a k = absurd (false≢true a)
  expires_begins short false e t a k = from_left (expires short false f.state (begin e [] 0 (lowered f))) t (expires_left short f.state e f k)

  pub tick_begins : suspends_at f ≡ true → Begins (fop_tick f)
  unfolding fop_tick fop_expiry fop_do
  tick_begins h =
      let count : ℕ = f.clock.transmission_count in
      let limit : ℕ = f.preset.transmission_limit in
      let a = and_both (eqb f.clock.timer 1) _ h in
      let b = and_both (not (eqb f.preset.timeout_type 0)) _ a.1 in
      let k : suspends_in f.state (not (ltb count limit)) ≡ true = ap (suspends_in f.state) (not_short count limit) ∙ b.1 in
      subst (λ (z : Bool). Begins (pick z (fop_expiry (lowered f)) (begin none [] 0 (lowered f)))) (sym a.0)
      (expires_begins (ltb count limit) (eqb f.preset.timeout_type 0) _ (eqb-true f.clock.timer 1 a.0) b.0 k)
