-- What a suspended sender does: the column S6 of table 7-8, computed. Each of its cells that no Initiate, Resume or lower-layer reject meets leaves the
-- numbers, the queues, Transmission_Count, the state and Suspend_State, and hands down no frame but that of a BD unit offered (`stays`); an Initiate
-- that meets another is accepted. Terminate changes nothing, and Resume brings back the state left.
use mathlib.Core.Path.{◌≡◌, refl, sym, ◌∙◌}
use mathlib.Core.Logic.{inr}
use mathlib.Core.Bool.{Bool, true, false, not, ◌&&◌, ◌||◌, false≢true}
use mathlib.Core.List.{List, [], ◌∷◌, ◌++◌}
use mathlib.Core.Option.{some}
use Prim.Native.Nat.{ℕ, ◌≤◌, ◌<◌}
use native.Mathlib.Omega.{arith}
use lib.Dec.{leb, ltb, eqb}
use borrow.Author.Tests.{leb-true}
use Rattle.base.specs.Choice.{pick}
use Rattle.fop.specs.Units.{BD, Own, WordReceived, valid, invalid, other, read_word}
use Rattle.fop.specs.declared.State.{State}
use Rattle.fop.specs.declared.State.TheVariants.{S1, S2, S3, S4, S6}
use Rattle.std.specs.Prelude.{None}
use Rattle.fop.specs.declared.Lower.{Lower}
use Rattle.fop.specs.declared.Response.{Response}
use Rattle.fop.specs.declared.Response.TheVariants.{AcceptDirective, ConfirmDirective}
use Rattle.fop.specs.declared.Event.{Event as FopEvent}
use Rattle.fop.specs.Table.{table78}
use Rattle.fop.specs.Variables.{Fop, Work, on_fop, respond, begin, set_state, set_suspend, set_clock}
use Rattle.fop.specs.Effective.{is_suspended}
use Rattle.fop.specs.Machine.{perform, perform_all, perform_cell, fop_do, transmit_bc, purge}
use Rattle.fop.specs.Events.{Line, when, first, is_empty, seen, word_lines, word_event, fop_word, fop_ad, fop_bd, expiry_lines, fop_expiry, fop_tick, fop_lower, is_reject, valid_directive, directive_lines, directive_event, fop_directive, fop_received}
use Rattle.fop.specs.Events.{SenderEvent, request_ad, request_bd, tick, lower, directive, word_arrives, work}
use Rattle.fop.specs.Answers.{judged, answered}
use Rattle.fop.proofs.Choices.{by_pick, never, and_both, unrefused, upto, ◌also◌}
use Rattle.fop.proofs.Ways.{purge_ways}
use Rattle.fop.proofs.Test.{EachLine, first_each, lowered}
use Rattle.suspension.specs.Suspension.{is_initiate, is_accept, accepts, ends, NoAdUnit, Kept, resumed}
use Rattle.suspension.proofs.Matter.{matter, still, kept_of, no_ad_unit, no_frame}

-- A directive that is accepted stays so.
accepts_more : (xs ys : List Response) → accepts xs ≡ true → accepts (xs ++ ys) ≡ true
accepts_more [] ys e = absurd (false≢true e)
accepts_more (r ∷ rs) ys e = more (is_accept r) (accepts rs) (accepts (rs ++ ys)) e (accepts_more rs ys)
  where
    more : (a b c : Bool) → (a || b) ≡ true → (b ≡ true → c ≡ true) → (a || c) ≡ true
    more true b c e k = refl
    more false b c e k = k e

abbrev Accepted : Work → Type 0
Accepted w = accepts w.responses ≡ true

purge_accepted : (w : Work) → Accepted w → Accepted (purge w)
purge_accepted w h = purge_ways Accepted w h (λ r v k. accepts_more v.responses (r ∷ []) k)

-- what is not so is false
pub not_true : (b : Bool) → not b ≡ true → b ≡ false
not_true true e = sym e
not_true false e = refl

-- a valid directive is one of 1 to 11
bounded : (d v : ℕ) → valid_directive d v ≡ true → d < 12
bounded d v e =
    let l : d ≤ 11 = leb-true d 11 (and_both (leb 1 d) (leb d 11) (and_both (leb 1 d && leb d 11) _ e).0).1 in
    omega arith

-- "Terminate while suspended follows the standard: it is accepted and changes nothing"
pub terminated : (f : Fop) (v : ℕ) → ((fop_directive 5 v (set_state S6 f)).fop ≡ set_state S6 f)
    × ((fop_directive 5 v (set_state S6 f)).responses ≡ AcceptDirective ∷ ConfirmDirective ∷ []) × ((fop_directive 5 v (set_state S6 f)).notices.alert ≡ None)
    × ((fop_directive 5 v (set_state S6 f)).frames ≡ [])
unfolding fop_directive directive_event fop_do table78 perform_cell perform_all perform
terminated f v = (refl, refl, refl, refl)

module _ (own : Own) (f : Fop) where
  -- the variables in Initial
  abbrev initial : Fop
  initial = set_state S6 f

  abbrev Quiet : SenderEvent → Work → Type 0
  Quiet e w = Kept initial w.fop × NoAdUnit own e (answered own w)

  -- nothing that the law looks at has changed
  abbrev Same : Work → Type 0
  Same w = matter w ≡ still S6 f.suspend_state [] initial

  quiet : (e : SenderEvent) (w : Work) → Same w → Quiet e w
  quiet e w p = (kept_of [] initial w p, no_frame own e S6 f.suspend_state initial w p)

  ad_stays : (o : List ℕ) → Same (fop_ad o initial)
  unfolding fop_ad fop_do table78 perform_cell perform_all perform
  ad_stays o =
      first_each (λ x. Same (fop_do x o 0 initial)) (when (is_empty f.queues.wait_queue) FopEvent.E19 ∷ []) FopEvent.E20 (refl also tt) refl

  bd_stays : (o : List ℕ) → Quiet (request_bd o) (fop_bd o initial)
  unfolding fop_bd fop_do table78 perform_cell perform_all perform
  bd_stays o =
      let w : Work = fop_do FopEvent.E21 o 0 initial in
      first_each (λ x. Quiet (request_bd o) (fop_do x o 0 initial)) (when f.out.bd FopEvent.E21 ∷ []) FopEvent.E22
      ((kept_of (BD o ∷ []) initial w refl, no_ad_unit own (request_bd o) S6 f.suspend_state initial w (BD o ∷ []) (inr (o, refl, refl)) refl) also tt)
      (quiet (request_bd o) (fop_do FopEvent.E22 o 0 initial) refl)

  tick_stays : Same (fop_tick initial)
  unfolding fop_tick fop_expiry fop_do table78 perform_cell
  tick_stays =
      by_pick Same (eqb f.clock.timer 1)
      (λ e. first_each (λ x. Same (fop_do x [] 0 (lowered initial)))
      (expiry_lines (ltb f.clock.transmission_count f.preset.transmission_limit) (eqb f.preset.timeout_type 0)) FopEvent.E18
      (refl also refl also refl also tt) refl) (λ e. refl)

  lower_stays : (l : Lower) → is_reject l ≡ false → Same (fop_lower l initial)
  unfolding fop_lower fop_do table78 perform_cell perform_all perform
  lower_stays Lower.AdAccept e = refl
  lower_stays Lower.AdReject e = never e
  lower_stays Lower.BcAccept e = refl
  lower_stays Lower.BcReject e = never e
  lower_stays Lower.BdAccept e = refl
  lower_stays Lower.BdReject e = never e

  received_stays : (x : WordReceived) → Same (fop_received x initial)
  unfolding fop_received fop_word word_event fop_do table78 perform_cell perform_all perform
  received_stays (valid w) =
      first_each (λ x. Same (fop_do x [] w.nr initial)) (word_lines (seen w initial)) FopEvent.E103
      (refl also refl also refl also refl also refl also refl also refl also refl
      also refl also refl also refl also refl also refl also refl also refl also refl also tt) refl
  received_stays invalid = refl
  received_stays (other r) = refl

  -- A directive, by its number.
  module _ (v : ℕ) (s : is_suspended f ≡ true) where
    abbrev Stays : ℕ → FopEvent → Type 0
    Stays d x = ends (directive d v) (answered own (fop_do x [] v initial)) ≡ false → Same (fop_do x [] v initial)

    -- an Initiate that is accepted ends the suspension
    accepted : (d : ℕ) (x : FopEvent) → is_initiate d ≡ true → Accepted (fop_do x [] v initial) → Stays d x
    accepted d x i a e = never (sym (initiates (eqb d 6) (is_initiate d) _ i a) ∙ e)
      where
        initiates : (a b c : Bool) → b ≡ true → c ≡ true → (a || (b && c)) ≡ true
        initiates true b c p q = refl
        initiates false b c p q = rw (p, q)

    -- the invalid directive, or one of its own lines
    lines : (d : ℕ) (more : List Line) (x : FopEvent) → EachLine (Stays d) more → Stays d x
        → Stays d (first (when (not (valid_directive d v)) FopEvent.E40 ∷ more) x)
    unfolding fop_do table78 perform_cell perform_all perform
    lines d more x each last = first_each (Stays d) (when (not (valid_directive d v)) FopEvent.E40 ∷ more) x ((λ e. refl) also each) last

    -- Set V(S) is rejected
    set_vs_lem : Same (fop_do FopEvent.E35 [] v initial)
    unfolding fop_do table78 perform_cell perform_all perform
    set_vs_lem =
        by_pick (λ (u : Work). Same (on_fop (set_state S6 u.fop) u)) (eqb f.suspend_state 0)
        (λ z. never (sym z ∙ not_true (eqb f.suspend_state 0) s)) (λ z. refl)

    -- Initialise, after Accept
    abbrev purged : FopEvent → Work
    purged x = purge (respond AcceptDirective (begin (some x) [] v initial))

    initialised : (x : FopEvent) → Accepted (purged x)
    initialised x = purge_accepted (respond AcceptDirective (begin (some x) [] v initial)) refl

    directive_stays : (d : ℕ) → d < 12 → Stays d (first (directive_lines d v initial) FopEvent.E39)
    unfolding fop_do table78 perform_cell perform_all perform transmit_bc
    directive_stays =
        upto (λ d. Stays d (first (directive_lines d v initial) FopEvent.E39)) 12
        ((λ e. refl)
        also accepted 1 FopEvent.E23 refl (accepts_more (purged FopEvent.E23).responses (ConfirmDirective ∷ []) (initialised FopEvent.E23))
        also accepted 2 FopEvent.E24 refl (initialised FopEvent.E24)
        also lines 3 (when f.out.bc FopEvent.E25 ∷ []) FopEvent.E26 (accepted 3 FopEvent.E25 refl (initialised FopEvent.E25) also tt) (λ e. refl)
        also lines 4 (when f.out.bc FopEvent.E27 ∷ []) FopEvent.E28 (accepted 4 FopEvent.E27 refl (initialised FopEvent.E27) also tt) (λ e. refl)
        also (λ e. refl)
        also (λ e. never e)
        also lines 7 [] FopEvent.E35 tt (λ e. set_vs_lem)
        also lines 8 [] FopEvent.E36 tt (λ e. refl)
        also lines 9 [] FopEvent.E37 tt (λ e. refl)
        also lines 10 [] FopEvent.E38 tt (λ e. refl)
        also lines 11 [] FopEvent.E39 tt (λ e. refl)
        also tt)

  -- every event that does not end the suspension
  pub stays : (e : SenderEvent) → is_suspended f ≡ true → judged own e ≡ 0 → ends e (answered own (work own e initial)) ≡ false
      → Quiet e (work own e initial)
  unfolding work judged fop_directive directive_event
  stays (request_ad o) s j k = quiet (request_ad o) (fop_ad o initial) (ad_stays o)
  stays (request_bd o) s j k = bd_stays o
  stays tick s j k = quiet tick (fop_tick initial) tick_stays
  stays (lower l) s j k = quiet (lower l) (fop_lower l initial) (lower_stays l k)
  stays (directive d v) s j k =
      quiet (directive d v) (fop_directive d v initial) (directive_stays v s d (bounded d v (unrefused (valid_directive d v) 11 j)) k)
  stays (word_arrives o) s j k = quiet (word_arrives o) (fop_received (read_word own o) initial) (received_stays (read_word own o))

  -- Resume, by its row and the state that it leads to
  abbrev Resumes : ℕ → FopEvent → State → Type 0
  Resumes v x t =
      ((fop_do x [] v initial).fop ≡ set_state t (set_suspend 0 (set_clock f.preset.t1_initial f.clock.transmission_count initial)))
      × ((fop_do x [] v initial).responses ≡ AcceptDirective ∷ ConfirmDirective ∷ []) × NoAdUnit own (directive 6 v) (answered own (fop_do x [] v initial))
      × ((fop_do x [] v initial).frames ≡ [])

  resume_rows : (v : ℕ) (a b c d : Bool) → a ≡ false
      → Resumes v (pick a FopEvent.E30 (pick b FopEvent.E31 (pick c FopEvent.E32 (pick d FopEvent.E33 FopEvent.E34)))) (pick a S6 (pick b S1 (pick c S2 (pick d S3 S4))))
  unfolding fop_do table78 perform_cell perform_all perform
  resume_rows v true b c d e = never e
  resume_rows v false true c d e = (refl, refl, no_frame own (directive 6 v) S1 0 initial (fop_do FopEvent.E31 [] v initial) refl, refl)
  resume_rows v false false true d e = (refl, refl, no_frame own (directive 6 v) S2 0 initial (fop_do FopEvent.E32 [] v initial) refl, refl)
  resume_rows v false false false true e = (refl, refl, no_frame own (directive 6 v) S3 0 initial (fop_do FopEvent.E33 [] v initial) refl, refl)
  resume_rows v false false false false e = (refl, refl, no_frame own (directive 6 v) S4 0 initial (fop_do FopEvent.E34 [] v initial) refl, refl)

  pub resumes_to : (v : ℕ) → is_suspended f ≡ true
      → ((fop_directive 6 v initial).fop ≡ resumed initial) × ((fop_directive 6 v initial).responses ≡ AcceptDirective ∷ ConfirmDirective ∷ [])
      × NoAdUnit own (directive 6 v) (answered own (fop_directive 6 v initial)) × ((fop_directive 6 v initial).frames ≡ [])
  unfolding fop_directive directive_event
  resumes_to v s =
      resume_rows v (eqb f.suspend_state 0) (eqb f.suspend_state 1) (eqb f.suspend_state 2) (eqb f.suspend_state 3) (not_true (eqb f.suspend_state 0) s)
