-- The flow law of every event (`flows`): the rows that an event may meet pass the computed test, with what the event brings.
use mathlib.Core.Path.{◌≡◌, refl, sym, subst}
use mathlib.Core.Bool.{Bool, true, false, not, ◌&&◌}
use mathlib.Core.List.{List, [], ◌∷◌}
use mathlib.Core.Option.{Option, none, some}
use Prim.Native.Nat.{ℕ, ◌≤◌, ◌<◌}
use native.Mathlib.Omega.{arith}
use lib.Dec.{T, leb, eqb}
use borrow.Author.Tests.{leb-true, ltb-false}
use Rattle.fop.specs.Limits.{largest_k, largest_number}
use Rattle.fop.specs.Units.{Own, Word, WordReceived, valid, invalid, other, read_word, legal}
use Rattle.fop.specs.declared.Lower.{Lower}
use Rattle.fop.specs.declared.Event.{Event as FopEvent}
use Rattle.fop.specs.Table.{NotApplicable, table78, cell78}
use Rattle.fop.specs.Variables.{Fop, Work, begin}
use Rattle.fop.specs.Effective.{effective, in_service}
use Rattle.fop.specs.Machine.{perform_cell, fop_do}
use Rattle.fop.specs.Events.{Line, when, first, is_empty, seen, word_lines, word_event, fop_word, fop_ad, fop_bd, fop_tick, lower_event, fop_lower, valid_directive, directive_lines, directive_event, fop_directive, fop_received}
use Rattle.fop.specs.Events.{SenderEvent, request_ad, request_bd, tick, lower, directive, word_arrives, work}
use Rattle.fop.specs.Answers.{judged}
use Rattle.fop.proofs.Choices.{by_pick, and_both, unrefused, upto, ◌also◌}
use Rattle.fop.proofs.Test.{all_lines, first_all, lower_all, lowered, tick_ways}
use Rattle.ledger.specs.Accounted.{is_request}
use Rattle.ledger.proofs.Flow.{Well, Flow}
use Rattle.ledger.proofs.Modes.{Given, unit, surplus, word, number, width, nothing, start, fits, Asked, BringsIn, view}
use Rattle.ledger.proofs.Numbers.{well_kept, kept_well}
use Rattle.ledger.proofs.Reports.{ReportMost, report_most}
use Rattle.ledger.proofs.Cells.{row_ok, row_ok_lem, unheld_ok_lem, beyond, cell_flow}

-- a row that passes the test with what the event brings
row_flow : (e : SenderEvent) (f : Fop) → Well f → (g : Given) (x : FopEvent) (o : List ℕ) (v : ℕ) → Asked e f g o → BringsIn e f g (view (begin (some x) o v f))
    → T (row_ok g f.suspend_state x) → Flow e f (fop_do x o v f)
unfolding fop_do
row_flow e f h g x o v a b t =
    cell_flow e f h g (some x) o v a b (cell78 (table78 x) f.state) (row_ok_lem g f.suspend_state x f.state h.outside t)

ad_flow : (o : List ℕ) (f : Fop) → Well f → legal o ≡ true → Flow (request_ad o) f (fop_ad o f)
unfolding fop_ad table78
ad_flow o f h l = by f.queues.wait_queue refl
  where
    by : (w : Option (List ℕ)) → f.queues.wait_queue ≡ w → Flow (request_ad o) f (fop_do (first (when (is_empty w) FopEvent.E19 ∷ []) FopEvent.E20) o 0 f)
    by none q = row_flow (request_ad o) f h unit FopEvent.E19 o 0 refl (q, l) tt
    by (some u) q = row_flow (request_ad o) f h surplus FopEvent.E20 o 0 refl tt tt

-- an event that is no AD request, and brings nothing that is looked at
plain_flow : (e : SenderEvent) (f : Fop) → Well f → is_request e ≡ false → (x : FopEvent) (o : List ℕ) (v : ℕ) → T (row_ok nothing f.suspend_state x)
    → Flow e f (fop_do x o v f)
plain_flow e f h n x o v t = row_flow e f h nothing x o v n tt t

bd_flow : (o : List ℕ) (f : Fop) → Well f → Flow (request_bd o) f (fop_bd o f)
unfolding fop_bd table78
bd_flow o f h =
    plain_flow (request_bd o) f h refl _ o 0 (first_all (row_ok nothing f.suspend_state) (when f.out.bd FopEvent.E21 ∷ []) FopEvent.E22 tt)

lower_flow : (l : Lower) (f : Fop) → Well f → Flow (lower l) f (fop_lower l f)
unfolding fop_lower table78
lower_flow l f h = plain_flow (lower l) f h refl (lower_event l) [] 0 (lower_all (row_ok nothing f.suspend_state) tt l)

-- nothing is done
still_flow : (e : SenderEvent) (f : Fop) → Well f → is_request e ≡ false → (o : List ℕ) (v : ℕ) → Flow e f (begin none o v f)
unfolding perform_cell
still_flow e f h n o v = cell_flow e f h nothing none o v n tt NotApplicable (fits_start (in_service (effective f)) refl)
  where
    fits_start : (b : Bool) → in_service (effective f) ≡ b → T (fits (start nothing b) (effective f))
    fits_start true q = subst T (sym q) tt
    fits_start false q = tt

-- The timer is lowered, and may expire; the clock is no part of the law.
module _ (f : Fop) where
  lowered_well : Well f → Well (lowered f)
  lowered_well h = kept_well (lowered f) (well_kept f h) h.outside h.none_sent h.none_waits

  raised : (w : Work) → Flow tick (lowered f) w → Flow tick f w
  raised w h = record { well = h.well; new = h.new; units = h.units; asks = h.asks }

  tick_flow : Well f → Flow tick f (fop_tick f)
  unfolding table78
  tick_flow h =
      tick_ways (row_ok nothing f.suspend_state) tt (Flow tick f) f (λ q. tt)
      (λ x t. raised _ (plain_flow tick (lowered f) (lowered_well h) refl x [] 0 t)) (raised _ (still_flow tick (lowered f) (lowered_well h) refl [] 0))

-- A directive, by its number.
module _ (v : ℕ) (f : Fop) (h : Well f) where
  -- the invalid directive, or one of its own lines
  lines : (d : ℕ) (g : Given) → Asked (directive d v) f g [] → BringsIn (directive d v) f g (view (begin none [] v f)) → (more : List Line) (x : FopEvent)
      → T (all_lines (row_ok g f.suspend_state) (when (not (valid_directive d v)) FopEvent.E40 ∷ more) && row_ok g f.suspend_state x)
      → Flow (directive d v) f (fop_do (first (when (not (valid_directive d v)) FopEvent.E40 ∷ more) x) [] v f)
  lines d g a b more x t = row_flow (directive d v) f h g _ [] v a b (first_all (row_ok g f.suspend_state) (when (not (valid_directive d v)) FopEvent.E40 ∷ more) x t)

  -- Resume, by Suspend_State: E34, with none of 0 to 3, leads to S4, and then both queues are empty
  resume_flow : Flow (directive 6 v) f (fop_do (first (directive_lines 6 v f) FopEvent.E39) [] v f)
  unfolding fop_do table78
  resume_flow =
      let n : ℕ = f.suspend_state in
      let P : FopEvent → Type 0 = λ x. Flow (directive 6 v) f (fop_do x [] v f) in
      by_pick P (eqb n 0) (λ q. plain_flow (directive 6 v) f h refl FopEvent.E30 [] v tt)
      (λ q. by_pick P (eqb n 1) (λ a. plain_flow (directive 6 v) f h refl FopEvent.E31 [] v tt)
      (λ a. by_pick P (eqb n 2) (λ b. plain_flow (directive 6 v) f h refl FopEvent.E32 [] v tt)
      (λ b. by_pick P (eqb n 3) (λ c. plain_flow (directive 6 v) f h refl FopEvent.E33 [] v tt)
      (λ c. cell_flow (directive 6 v) f h nothing (some FopEvent.E34) [] v refl tt (cell78 (table78 FopEvent.E34) f.state)
      (unheld_ok_lem nothing n FopEvent.E34 f.state (beyond n a b c) h.outside tt)))))

  directive_flow : (d : ℕ) → d < 12 → valid_directive d v ≡ true → Flow (directive d v) f (fop_do (first (directive_lines d v f) FopEvent.E39) [] v f)
  unfolding table78
  directive_flow =
      upto (λ d. valid_directive d v ≡ true → Flow (directive d v) f (fop_do (first (directive_lines d v f) FopEvent.E39) [] v f)) 12
      ((λ q. lines 0 nothing refl tt [] FopEvent.E40 tt)
      also (λ q. lines 1 nothing refl tt [] FopEvent.E23 tt)
      also (λ q. lines 2 nothing refl tt [] FopEvent.E24 tt)
      also (λ q. lines 3 nothing refl tt (when f.out.bc FopEvent.E25 ∷ []) FopEvent.E26 tt)
      also (λ q. lines 4 number refl (leb-true v largest_number q) (when f.out.bc FopEvent.E27 ∷ []) FopEvent.E28 tt)
      also (λ q. lines 5 nothing refl tt [] FopEvent.E29 tt)
      also (λ q. resume_flow)
      also (λ q. lines 7 number refl (leb-true v largest_number q) [] FopEvent.E35 tt)
      also (λ q. lines 8 width refl (leb-true v largest_k (and_both (leb 1 v) (leb v largest_k) q).1) [] FopEvent.E36 tt)
      also (λ q. lines 9 nothing refl tt [] FopEvent.E37 tt)
      also (λ q. lines 10 nothing refl tt [] FopEvent.E38 tt)
      also (λ q. lines 11 nothing refl tt [] FopEvent.E39 tt)
      also tt)

-- A control word: where N(R) is acted on it is neither below NN(R) nor above V(S), for the rows of Lockout and of an invalid N(R) come first.
abbrev others : List Line → List Line
others [] = []
others (l ∷ ls) = ls

word_flow : (s : List ℕ) (w : Word) (f : Fop) → w.nr ≤ largest_number → Well f → Flow (word_arrives s) f (fop_word w f)
unfolding fop_word word_event table78
word_flow s w f l h =
    let P : FopEvent → Type 0 = λ x. Flow (word_arrives s) f (fop_do x [] w.nr f) in
    let t : FopEvent → Bool = row_ok word f.suspend_state in
    by_pick P w.lockout (λ q. plain_flow (word_arrives s) f h refl FopEvent.E14 [] w.nr tt)
    (λ q. by_pick P (seen w f).invalid (λ i. plain_flow (word_arrives s) f h refl FopEvent.E13 [] w.nr tt)
    (λ i. row_flow (word_arrives s) f h word _ [] w.nr refl (l, ltb-false _ _ i) (first_all t (others (others (word_lines (seen w f)))) FopEvent.E103 tt)))

received_flow : (s : List ℕ) (r : WordReceived) (f : Fop) → ReportMost r → Well f → Flow (word_arrives s) f (fop_received r f)
unfolding fop_received table78
received_flow s (valid w) f l h = word_flow s w f l h
received_flow s invalid f l h = plain_flow (word_arrives s) f h refl FopEvent.E15 [] 0 tt
received_flow s (other r) f l h = still_flow (word_arrives s) f h refl [] 0

-- a valid directive is one of 1 to 11
directive_most : (d v : ℕ) → valid_directive d v ≡ true → d < 12
directive_most d v q =
    let l : d ≤ 11 = leb-true d 11 (and_both (leb 1 d) (leb d 11) (and_both (leb 1 d && leb d 11) _ q).0).1 in
    omega arith

-- every event that is not refused
pub flows : (own : Own) (e : SenderEvent) (f : Fop) → Well f → judged own e ≡ 0 → Flow e f (work own e f)
unfolding work judged fop_directive directive_event
flows own (request_ad o) f h j = ad_flow o f h (unrefused (legal o) 9 j)
flows own (request_bd o) f h j = bd_flow o f h
flows own tick f h j = tick_flow f h
flows own (lower l) f h j = lower_flow l f h
flows own (directive d v) f h j =
    let q : valid_directive d v ≡ true = unrefused (valid_directive d v) 11 j in
    directive_flow v f h d (directive_most d v q) q
flows own (word_arrives s) f h j = received_flow s (read_word own s) f (report_most own s) h
