-- The suspension law holds of every sender that does as table 7-8 says (`suspension_law`), and the table machine is one (`tables_by_table`). An event is
-- done by the table or refused (crate fop, proofs/Lent); a refusal keeps all and tells nothing, and what the table does in S6, at an expiry and elsewhere
-- is Initial's, Begins' and Told's. From a suspension to its Resume the law goes event by event along the list.
use mathlib.Core.Path.{◌≡◌, refl, sym, ap, ap₂, subst, subst₂, ◌∙◌}
use mathlib.Core.Logic.{inl}
use mathlib.Core.Bool.{Bool, true, false, not, false≢true}
use mathlib.Core.List.{List, [], ◌∷◌, ◌++◌}
use mathlib.Core.Option.{none}
use Prim.Native.Nat.{ℕ, ◌≤◌}
use lib.Dec.{eqb}
use borrow.Author.Tests.{eqb-true}
use Rattle.base.specs.Choice.{pick}
use Rattle.fop.specs.Units.{Own, read_word}
use Rattle.fop.specs.declared.State.{State}
use Rattle.fop.specs.declared.State.TheVariants.{S6}
use Rattle.std.specs.Prelude.{None}
use Rattle.fop.specs.declared.Response.TheVariants.{AcceptDirective, RejectDirective, ConfirmDirective}
use Rattle.fop.specs.Variables.{Fop, set_state}
use Rattle.fop.specs.Effective.{effective_of, effective, is_suspended}
use Rattle.fop.specs.Events.{SenderEvent, request_ad, request_bd, tick, lower, directive, word_arrives, work, fop_tick}
use Rattle.fop.specs.Answers.{Answer, octets_down, judged, answered, refused}
use Rattle.fop.specs.Store.{need_at}
use Rattle.fop.proofs.Choices.{and_both}
use Rattle.fop.proofs.Lent.{lent_ways, lent_done}
use Rattle.suspension.specs.Suspension.{Sender, ByTable, table_machine, Suspended, ends, takes, NoAdUnit, UnitsKept, Kept, suspends_at, Begun, resumed, Back, after_all, none_ends, NoneAd, SuspensionLaw}
use Rattle.suspension.proofs.Told.{ad_untold, bd_untold, lower_untold, directive_untold, received_untold, tick_told}
use Rattle.suspension.proofs.Begins.{tick_begins}
use Rattle.suspension.proofs.Initial.{not_true, stays, terminated, resumes_to}

pub tables_by_table : (own : Own) (stored : ℕ) → ByTable own (table_machine own stored)
tables_by_table own stored = record { well = λ e lent f w. tt; next = λ e lent f w. refl; answer = λ e lent f w. refl }

-- what is so of the variables set to Initial is so of a sender that is Initial
in_initial : (P : Fop → Type 0) (f : Fop) → f.state ≡ S6 → P (set_state S6 f) → P f
in_initial P f i p = subst (λ (s : State). P (set_state s f)) (sym i) p

-- a refusal hands nothing down and tells of no unit
untaken : (b : Bool) → takes (pick b (RejectDirective ∷ []) []) ≡ false
untaken true = refl
untaken false = refl

refused_silent : (own : Own) (e : SenderEvent) (r : ℕ) (f : Fop) → NoAdUnit own e (refused r f)
refused_silent own e r f = record { down = inl refl; confirmed = refl; denied = refl; accepted = untaken (eqb r 12); alert = refl; abort = refl }

all_kept : (f : Fop) → Kept f f
all_kept f = record { units = record { numbers = refl; queues = refl; count = refl }; state = refl; suspend_state = refl }

-- the Suspend notification of the work on an event
pub work_told : (own : Own) (e : SenderEvent) (f : Fop) → (work own e f).notices.suspended ≡ true → (e ≡ tick) × (suspends_at f ≡ true)
unfolding work
work_told own (request_ad o) f h = absurd (false≢true (sym (ad_untold o f).0 ∙ h))
work_told own (request_bd o) f h = absurd (false≢true (sym (bd_untold o f).0 ∙ h))
work_told own tick f h = (refl, sym (tick_told f).0 ∙ h)
work_told own (lower l) f h = absurd (false≢true (sym (lower_untold l f).0 ∙ h))
work_told own (directive d v) f h = absurd (false≢true (sym (directive_untold d v f).0 ∙ h))
work_told own (word_arrives o) f h = absurd (false≢true (sym (received_untold (read_word own o) f).0 ∙ h))

work_begins : (own : Own) (e : SenderEvent) (f : Fop) → (work own e f).notices.suspended ≡ true
    → Begun f (work own e f).fop × NoAdUnit own e (answered own (work own e f))
unfolding work
work_begins own e f h =
    let t = work_told own e f h in
    subst (λ (x : SenderEvent). Begun f (work own x f).fop × NoAdUnit own x (answered own (work own x f))) (sym t.0)
    (let b = tick_begins own f t.1 in (b.0, b.1))

-- no suspension begins without it
serving_none : {A : Type 0} (n : ℕ) → n ≡ 0 → not (eqb n 0) ≡ true → A
serving_none n z s = absurd (false≢true (sym (ap (λ (x : ℕ). not (eqb x 0)) z) ∙ s))

is_serving_lem : (n : ℕ) → not (eqb n 0) ≡ false → n ≡ 0
is_serving_lem n h = by (eqb n 0) refl h
  where
    by : (b : Bool) → eqb n 0 ≡ b → not b ≡ false → n ≡ 0
    by true e h = eqb-true n 0 e
    by false e h = absurd (false≢true (sym h))

work_silent : (own : Own) (e : SenderEvent) (f : Fop) → is_suspended f ≡ false → is_suspended (work own e f).fop ≡ true → (work own e f).notices.suspended ≡ true
unfolding work
work_silent own (request_ad o) f n s = serving_none _ ((ad_untold o f).1 (is_serving_lem f.suspend_state n)) s
work_silent own (request_bd o) f n s = serving_none _ ((bd_untold o f).1 (is_serving_lem f.suspend_state n)) s
work_silent own tick f n s = by (suspends_at f) refl
  where
    by : (b : Bool) → suspends_at f ≡ b → (fop_tick f).notices.suspended ≡ true
    by true e = (tick_told f).0 ∙ e
    by false e = serving_none _ ((tick_told f).1 e (is_serving_lem f.suspend_state n)) s
work_silent own (lower l) f n s = serving_none _ ((lower_untold l f).1 (is_serving_lem f.suspend_state n)) s
work_silent own (directive d v) f n s = serving_none _ ((directive_untold d v f).1 (is_serving_lem f.suspend_state n)) s
work_silent own (word_arrives o) f n s = serving_none _ ((received_untold (read_word own o) f).1 (is_serving_lem f.suspend_state n)) s

-- What is kept is kept along a list of events.
kept_suspended : (f g : Fop) → Kept f g → Suspended f → Suspended g
kept_suspended f g k s = record { initial = k.state ∙ s.initial; suspended = ap (λ (n : ℕ). not (eqb n 0)) k.suspend_state ∙ s.suspended }

units_on : (f g h : Fop) → UnitsKept f g → UnitsKept g h → UnitsKept f h
units_on f g h a b = record { numbers = b.numbers ∙ a.numbers; queues = b.queues ∙ a.queues; count = b.count ∙ a.count }

kept_on : (f g h : Fop) → Kept f g → Kept g h → Kept f h
kept_on f g h a b =
    record { units = units_on f g h a.units b.units; state = b.state ∙ a.state; suspend_state = b.suspend_state ∙ a.suspend_state }

-- What the law says of the variables before an event, its answer and the variables after it.
abbrev Notified : SenderEvent → Fop → Answer → Fop → Type 0
Notified e f a g = a.suspended ≡ true → (e ≡ tick) × (suspends_at f ≡ true)

abbrev Silent : Fop → Answer → Fop → Type 0
Silent f a g = is_suspended f ≡ false → is_suspended g ≡ true → a.suspended ≡ true

abbrev Begins : Own → SenderEvent → Fop → Answer → Fop → Type 0
Begins own e f a g = a.suspended ≡ true → Begun f g × NoAdUnit own e a

abbrev Keeps : Own → SenderEvent → Fop → Answer → Fop → Type 0
Keeps own e f a g = ends e a ≡ false → Kept f g × NoAdUnit own e a

abbrev Terminates : Fop → Answer → Fop → Type 0
Terminates f a g = (g ≡ f) × (a.responses ≡ AcceptDirective ∷ ConfirmDirective ∷ []) × (a.alert ≡ None)

abbrev Resumes : Own → ℕ → Fop → Answer → Fop → Type 0
Resumes own v f a g =
    (g ≡ resumed f) × (a.responses ≡ AcceptDirective ∷ ConfirmDirective ∷ []) × NoAdUnit own (directive 6 v) a

module _ (own : Own) (m : Sender) (by : ByTable own m) where
  -- such a statement at an event
  abbrev At : (Fop → Answer → Fop → Type 0) → SenderEvent → ℕ → m.Held → Type 0
  At P e lent x = P (m.reads x) (m.answer e lent x) (m.reads (m.next e lent x))

  -- an event is done by the table, or refused
  ways : (P : Fop → Answer → Fop → Type 0) (e : SenderEvent) (lent : ℕ) (x : m.Held) → m.Well x
      → (judged own e ≡ 0 → P (m.reads x) (answered own (work own e (m.reads x))) (work own e (m.reads x)).fop)
      → ((r : ℕ) → eqb r 0 ≡ false → P (m.reads x) (refused r (m.reads x)) (m.reads x)) → At P e lent x
  ways P e lent x h does refuses =
      subst₂ (P (m.reads x)) (sym (by.answer e lent x h)) (sym (by.next e lent x h)) (lent_ways own e (m.stored x) lent (m.reads x) (P (m.reads x)) does refuses)

  -- in Initial by the column S6
  initial_ways : (P : Fop → Answer → Fop → Type 0) (e : SenderEvent) (lent : ℕ) (x : m.Held) → m.Well x → (m.reads x).state ≡ S6
      → (judged own e ≡ 0 → P (set_state S6 (m.reads x)) (answered own (work own e (set_state S6 (m.reads x)))) (work own e (set_state S6 (m.reads x))).fop)
      → ((r : ℕ) → eqb r 0 ≡ false → P (m.reads x) (refused r (m.reads x)) (m.reads x)) → At P e lent x
  initial_ways P e lent x h i does refuses =
      ways P e lent x h (λ j. in_initial (λ (f : Fop). P f (answered own (work own e f)) (work own e f).fop) (m.reads x) i (does j)) refuses

  notified : (e : SenderEvent) (lent : ℕ) (x : m.Held) → m.Well x → At (Notified e) e lent x
  notified e lent x h = ways (Notified e) e lent x h (λ j. work_told own e (m.reads x)) (λ r n t. absurd (false≢true t))

  -- an event that hands nothing down, with a store that suffices, is done by the table
  done : (P : Fop → Answer → Fop → Type 0) (e : SenderEvent) (lent : ℕ) (x : m.Held) → m.Well x → judged own e ≡ 0 → need_at e (m.reads x) ≤ m.stored x
      → octets_down own (work own e (m.reads x)).frames ≡ none
      → P (m.reads x) (answered own (work own e (m.reads x))) (work own e (m.reads x)).fop → At P e lent x
  done P e lent x h j n d p =
      subst₂ (P (m.reads x)) (sym (by.answer e lent x h)) (sym (by.next e lent x h)) (lent_done own e (m.stored x) lent (m.reads x) (P (m.reads x)) j n d p)

  suspends : (lent : ℕ) (x : m.Held) → m.Well x → need_at tick (m.reads x) ≤ m.stored x → suspends_at (m.reads x) ≡ true
      → (m.answer tick lent x).suspended ≡ true
  unfolding work judged
  suspends lent x h n s =
      done (λ f a g. a.suspended ≡ true) tick lent x h refl n (tick_begins own (m.reads x) s).2 ((tick_told (m.reads x)).0 ∙ s)

  told : (e : SenderEvent) (lent : ℕ) (x : m.Held) → m.Well x → At Silent e lent x
  told e lent x h = ways Silent e lent x h (λ j. work_silent own e (m.reads x)) (λ r n a b. absurd (false≢true (sym a ∙ b)))

  begins : (e : SenderEvent) (lent : ℕ) (x : m.Held) → m.Well x → At (Begins own e) e lent x
  begins e lent x h = ways (Begins own e) e lent x h (λ j. work_begins own e (m.reads x)) (λ r n t. absurd (false≢true t))

  keeps : (e : SenderEvent) (lent : ℕ) (x : m.Held) → m.Well x → Suspended (m.reads x) → At (Keeps own e) e lent x
  keeps e lent x h s =
      initial_ways (Keeps own e) e lent x h s.initial (λ j. stays own (m.reads x) e s.suspended j)
      (λ r n k. (all_kept (m.reads x), refused_silent own e r (m.reads x)))

  -- in Initial by the column S6
  initial_done : (P : Fop → Answer → Fop → Type 0) (e : SenderEvent) (lent : ℕ) (x : m.Held) → m.Well x → (m.reads x).state ≡ S6 → judged own e ≡ 0
      → need_at e (m.reads x) ≤ m.stored x → octets_down own (work own e (set_state S6 (m.reads x))).frames ≡ none
      → P (set_state S6 (m.reads x)) (answered own (work own e (set_state S6 (m.reads x)))) (work own e (set_state S6 (m.reads x))).fop → At P e lent x
  initial_done P e lent x h i j n d p =
      done P e lent x h j n (in_initial (λ (f : Fop). octets_down own (work own e f).frames ≡ none) (m.reads x) i d)
      (in_initial (λ (f : Fop). P f (answered own (work own e f)) (work own e f).fop) (m.reads x) i p)

  terminates : (v lent : ℕ) (x : m.Held) → m.Well x → Suspended (m.reads x) → need_at (directive 5 v) (m.reads x) ≤ m.stored x
      → At Terminates (directive 5 v) lent x
  unfolding work judged
  terminates v lent x h s n =
      let t = terminated (m.reads x) v in
      initial_done Terminates (directive 5 v) lent x h s.initial refl n (ap (octets_down own) t.3) (t.0, t.1, t.2)

  resumes : (v lent : ℕ) (x : m.Held) → m.Well x → Suspended (m.reads x) → need_at (directive 6 v) (m.reads x) ≤ m.stored x
      → At (Resumes own v) (directive 6 v) lent x
  unfolding work judged
  resumes v lent x h s n =
      let r = resumes_to own (m.reads x) v s.suspended in
      initial_done (Resumes own v) (directive 6 v) lent x h s.initial refl n (ap (octets_down own) r.3) (r.0, r.1, r.2)

  -- events that do not end the suspension, one after another
  stay : (es : List (SenderEvent × ℕ)) (x : m.Held) → m.Well x → Suspended (m.reads x) → none_ends own m es x ≡ true
      → m.Well (after_all own m es x) × Kept (m.reads x) (m.reads (after_all own m es x)) × NoneAd own m es x
  unfolding after_all none_ends NoneAd
  stay [] x h s n = (h, all_kept (m.reads x), tt)
  stay (e ∷ es) x h s n =
      let b = and_both (not (ends e.0 (m.answer e.0 e.1 x))) _ n in
      let k = keeps e.0 e.1 x h s (not_true (ends e.0 (m.answer e.0 e.1 x)) b.0) in
      let y : m.Held = m.next e.0 e.1 x in
      let r = stay es y (by.well e.0 e.1 x h) (kept_suspended (m.reads x) (m.reads y) k.0 s) b.1 in
      (r.0, kept_on (m.reads x) (m.reads y) (m.reads (after_all own m es y)) k.0 r.1, (k.1, r.2))

  -- and one event more
  none_last : (es : List (SenderEvent × ℕ)) (e : SenderEvent) (lent : ℕ) (x : m.Held) → NoneAd own m es x
      → NoAdUnit own e (m.answer e lent (after_all own m es x)) → NoneAd own m (es ++ ((e, lent) ∷ [])) x
  unfolding after_all NoneAd
  none_last [] e lent x n l = (l, tt)
  none_last (d ∷ es) e lent x n l = (n.0, none_last es e lent (m.next d.0 d.1 x) n.1 l)

  whole : (e : SenderEvent) (lent : ℕ) (es : List (SenderEvent × ℕ)) (v room : ℕ) (x : m.Held) → m.Well x
      → (m.answer e lent x).suspended ≡ true → none_ends own m es (m.next e lent x) ≡ true
      → need_at (directive 6 v) (m.reads (after_all own m es (m.next e lent x))) ≤ m.stored (after_all own m es (m.next e lent x))
      → NoneAd own m ((e, lent) ∷ (es ++ ((directive 6 v, room) ∷ []))) x
      × Back (m.reads x) (m.reads (m.next (directive 6 v) room (after_all own m es (m.next e lent x))))
  unfolding NoneAd
  whole e lent es v room x h s n z =
      let y : m.Held = m.next e lent x in
      let a : m.Held = after_all own m es y in
      let b = begins e lent x h s in
      let k = stay es y (by.well e lent x h) b.0.suspended n in
      let r = resumes v room a k.0 (kept_suspended (m.reads y) (m.reads a) k.1 b.0.suspended) z in
      let g : Fop = m.reads (m.next (directive 6 v) room a) in
      let left : effective (m.reads a) ≡ (m.reads x).state = ap₂ effective_of k.1.state k.1.suspend_state ∙ b.0.left in (
        (b.1, none_last es (directive 6 v) room y k.2 r.2),
        record {
          state = ap (λ (f : Fop). f.state) r.0 ∙ left;
          suspend_state = ap (λ (f : Fop). f.suspend_state) r.0;
          started = ap (λ (f : Fop). f.clock.timer) r.0 ∙ sym (ap (λ (f : Fop). f.preset.t1_initial) r.0);
          units = units_on (m.reads x) (m.reads a) g (units_on (m.reads x) (m.reads y) (m.reads a) b.0.units k.1.units)
              (record {
                numbers = ap (λ (f : Fop). f.numbers) r.0;
                queues = ap (λ (f : Fop). f.queues) r.0;
                count = ap (λ (f : Fop). f.clock.transmission_count) r.0;
              });
        },
      )

pub suspension_law : (own : Own) (m : Sender) → ByTable own m → SuspensionLaw own m
suspension_law own m by = record {
  notified = notified own m by;
  suspends = suspends own m by;
  told = told own m by;
  begins = begins own m by;
  keeps = keeps own m by;
  terminates = terminates own m by;
  resumes = resumes own m by;
  whole = whole own m by;
}
