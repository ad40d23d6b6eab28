-- Tests of table 7-8, computed. A test of a row is one of the cell that a state meets, and a test of the lines of an event is one of the line
-- that holds. A property that actions keep needs one table: for each action the proof that it keeps it, or none; a cell passes where each
-- of its actions has one.
use mathlib.Core.Path.{◌≡◌, refl, sym, ◌∙◌}
use mathlib.Core.Bool.{Bool, true, false, ◌&&◌, false≢true}
use mathlib.Core.List.{List, [], ◌∷◌}
use mathlib.Core.Option.{Option, none, some}
use Prim.Native.Nat.{◌-◌}
use lib.Dec.{T, ltb, eqb}
use Rattle.fop.specs.declared.State.{State}
use Rattle.fop.specs.declared.State.TheVariants.{S1, S2, S3, S4, S5, S6}
use Rattle.fop.specs.declared.Action.{Action}
use Rattle.fop.specs.declared.Event.{Event as FopEvent}
use Rattle.fop.specs.declared.Event.TheVariants.{E16, E17, E18, E104, E41, E42, E43, E44, E45, E46}
use Rattle.fop.specs.Table.{Cell, Row, row, cell78}
use Rattle.fop.specs.Variables.{Fop, Work, begin, set_clock}
use Rattle.fop.specs.Machine.{perform, perform_all, fop_do}
use Rattle.fop.specs.declared.Lower.{Lower}
use Rattle.fop.specs.Events.{Line, when, first, expiry_lines, fop_expiry, fop_tick, lower_event}
use Rattle.fop.proofs.Choices.{and_l, and_r, by_pick}

-- every cell of a row
abbrev pub every_cell : (Cell → Bool) → Row → Bool
every_cell t (row a b c d e f) = t a && (t b && (t c && (t d && (t e && t f))))

pub every_cell_lem : (t : Cell → Bool) (r : Row) (s : State) → T (every_cell t r) → T (t (cell78 r s))
every_cell_lem t (row a b c d e f) S1 h = and_l (t a) _ h
every_cell_lem t (row a b c d e f) S2 h = and_l (t b) _ (and_r (t a) _ h)
every_cell_lem t (row a b c d e f) S3 h = and_l (t c) _ (and_r (t b) _ (and_r (t a) _ h))
every_cell_lem t (row a b c d e f) S4 h = and_l (t d) _ (and_r (t c) _ (and_r (t b) _ (and_r (t a) _ h)))
every_cell_lem t (row a b c d e f) S5 h = and_l (t e) _ (and_r (t d) _ (and_r (t c) _ (and_r (t b) _ (and_r (t a) _ h))))
every_cell_lem t (row a b c d e f) S6 h = and_r (t e) _ (and_r (t d) _ (and_r (t c) _ (and_r (t b) _ (and_r (t a) _ h))))

-- all the lines of an event
abbrev pub all_lines : (FopEvent → Bool) → List Line → Bool
all_lines t [] = true
all_lines t (when c x ∷ more) = t x && all_lines t more

pub first_all : (t : FopEvent → Bool) (l : List Line) (e : FopEvent) → T (all_lines t l && t e) → T (t (first l e))
first_all t [] e h = h
first_all t (when c x ∷ more) e h =
    by_pick (λ (y : FopEvent). T (t y)) c (λ k. and_l (t x) _ (and_l (t x && all_lines t more) (t e) h))
    (λ k. first_all t more e (past (t x) (all_lines t more) (t e) h))
  where
    past : (a b d : Bool) → T ((a && b) && d) → T (b && d)
    past true b d h = h
    past false b d h = absurd h

abbrev pub EachLine : (FopEvent → Type 0) → List Line → Type 0
EachLine P [] = Unit {0}
EachLine P (when c x ∷ more) = P x × EachLine P more

pub first_each : (P : FopEvent → Type 0) (l : List Line) (e : FopEvent) → EachLine P l → P e → P (first l e)
first_each P [] e each last = last
first_each P (when c x ∷ more) e each last = by_pick P c (λ t. each.0) (λ t. first_each P more e each.1 last)

-- the answers of the lower layer
pub lower_all : (t : FopEvent → Bool) → T (t E41 && (t E42 && (t E43 && (t E44 && (t E45 && t E46))))) → (l : Lower) → T (t (lower_event l))
lower_all t h Lower.AdAccept = and_l (t E41) _ h
lower_all t h Lower.AdReject = and_l (t E42) _ (and_r (t E41) _ h)
lower_all t h Lower.BcAccept = and_l (t E43) _ (and_r (t E42) _ (and_r (t E41) _ h))
lower_all t h Lower.BcReject = and_l (t E44) _ (and_r (t E43) _ (and_r (t E42) _ (and_r (t E41) _ h)))
lower_all t h Lower.BdAccept = and_l (t E45) _ (and_r (t E44) _ (and_r (t E43) _ (and_r (t E42) _ (and_r (t E41) _ h))))
lower_all t h Lower.BdReject = and_r (t E45) _ (and_r (t E44) _ (and_r (t E43) _ (and_r (t E42) _ (and_r (t E41) _ h))))

-- the expiry of the timer: E16 or E17 at Timeout_Type 0, else E104 or E18
expiry_all : (t : FopEvent → Bool) → T (t E16 && t E17) → (short alerting : Bool) → (alerting ≡ false → T (t E104 && t E18))
    → T (t (first (expiry_lines short alerting) E18))
expiry_all t h true true k = and_l (t E16) _ h
expiry_all t h false true k = and_r (t E16) _ h
expiry_all t h true false k = and_l (t E104) _ (k refl)
expiry_all t h false false k = and_r (t E104) _ (k refl)

-- a tick: the timer is lowered, and may expire
abbrev pub lowered : Fop → Fop
lowered f = set_clock (f.clock.timer - 1) f.clock.transmission_count f

pub tick_ways : (t : FopEvent → Bool) → T (t E16 && t E17) → (P : Work → Type 0) (f : Fop) → (eqb f.preset.timeout_type 0 ≡ false → T (t E104 && t E18))
    → ((e : FopEvent) → T (t e) → P (fop_do e [] 0 (lowered f))) → P (begin none [] 0 (lowered f)) → P (fop_tick f)
unfolding fop_tick fop_expiry
tick_ways t h P f suspending expires passes =
    by_pick P (eqb f.clock.timer 1)
    (λ b. expires _ (expiry_all t h (ltb f.clock.transmission_count f.preset.transmission_limit) (eqb f.preset.timeout_type 0) suspending))
    (λ b. passes)

-- with Timeout_Type 0 no expiry suspends
pub never_suspends : {A : Type 0} (f : Fop) → eqb f.preset.timeout_type 0 ≡ true → eqb f.preset.timeout_type 0 ≡ false → A
never_suspends f a b = absurd (false≢true (sym b ∙ a))

-- A property that actions keep.
abbrev pub Keeps : (Work → Type 0) → Action → Type 0
Keeps P x = (w : Work) → P w → P (perform x w)

abbrev pub is_there : {A : Type 0} → Option A → Bool
is_there none = false
is_there (some x) = true

-- a proof that needs a test, and is there where the test holds
abbrev pub where_so : {A : Type 0} (b : Bool) → (T b → A) → Option A
where_so true f = some (f tt)
where_so false f = none

module _ (P : Work → Type 0) (law : (x : Action) → Option (Keeps P x)) where
  abbrev pub all_keep : List Action → Bool
  all_keep [] = true
  all_keep (x ∷ xs) = is_there (law x) && all_keep xs

  pub all_keep_lem : (xs : List Action) (w : Work) → T (all_keep xs) → P w → P (perform_all xs w)
  unfolding perform_all
  all_keep_lem [] w t h = h
  all_keep_lem (x ∷ xs) w t h = all_keep_lem xs (perform x w) (and_r (is_there (law x)) _ t) (one (law x) (and_l (is_there (law x)) _ t) w h)
    where
      one : (o : Option (Keeps P x)) → T (is_there o) → Keeps P x
      one none t = absurd t
      one (some k) t = k
