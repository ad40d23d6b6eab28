-- Each way through an event of the sender, in the form in which a `return` asks it.
use mathlib.Core.Path.{◌≡◌, refl, sym, ap, ap₂, ◌∙◌, subst}
use mathlib.Core.Bool.{Bool, true, false}
use mathlib.Core.List.{List}
use Prim.Native.Nat.{ℕ}
use native.Mathlib.Omega.{arith}
use borrow.Author.Tests.{eq-eqb}
use lib.ListN.{length}
use lib.Dec.{leb, eqb}
use Rattle.base.specs.Choice.{pick, must, both}
use Rattle.base.specs.Outcome.{Outcome, answer, after}
use Rattle.base.specs.Limits.{largest_unit}
use Rattle.base.proofs.Tests.{yes, no}
use Rattle.store.specs.Places.{unit_put}
use Rattle.std.specs.Prelude.{Option, Some, Ok, Err, is_ok}
use Rattle.base.specs.Refusals.{written_answer}
use Rattle.base.specs.declared.Refusal.TheVariants.{Room}
use Rattle.clcw.specs.Answers.{WordReading, reading_of}
use Rattle.clcw.specs.declared.ReceivedWord.{ReceivedWord}
use Rattle.fop.specs.declared.Event.{Event as FopEvent}
use Rattle.fop.specs.declared.Event.TheVariants.{E1, E2, E3, E4, E5, E6, E7, E8, E9, E10, E11, E12, E13, E14, E15, E16, E17, E18, E19, E20, E21, E22, E23, E24, E25, E26, E27, E28, E29, E30, E31, E32, E33, E34, E35, E36, E37, E38, E39, E40, E41, E42, E43, E44, E45, E46, E101, E102, E103, E104}
use Rattle.fop.specs.Table.{event_number}
use Rattle.fop.specs.Effective.{in_service}
use Rattle.fop.specs.declared.State.{State}
use Rattle.fop.specs.Events.{lower_event}
use Rattle.sender_values.specs.declared.SenderState.{SenderState}
use Rattle.sender_values.specs.declared.Work.{Work}
use Rattle.sender_values.specs.Start.{begun}
use Rattle.sender_table.specs.Rows.{row_of, row_if}
use Rattle.fop.specs.declared.Lower.{Lower}
use Rattle.fop.specs.Store.{store_need}
use Rattle.sender_events.specs.Events.{event_of_word, event_of_directive, window_of, event_of_ad, event_of_bd}
use Rattle.sender_frames.specs.Limits.{need_of}
use Rattle.sender_frames.specs.Frames.{request_refusal, unit_before, must_be_unit, unit_offered}
use Rattle.sender_frames.proofs.Written.{Writes}
use Rattle.sender.specs.declared.Answer.{Answer}
use Rattle.sender.specs.declared.Event.{Event}
use Rattle.sender.specs.Answers.{Step, refusing, refused_step, concluded, stored, step_by}
use Rattle.sender.specs.Events.{store_served, lengths_served, served_by, served, added, lengths_offered, offered_by, bypassed_by, directive_of, ticked, event_of_tick, tick_of, lower_layer_of, word_by, control_word_of, event_of}
use Rattle.sender.proofs.Steps.{Written, Told, check, no_check, Meets, handing, holds, fails, same_step, refuses, stored_same, stored_by, step_written}

-- what serving it promises: the writing h of its frame
abbrev pub Serves : Written → List ℕ → List ℕ → Outcome (Unit {0}) → List ℕ → List ℕ → List ℕ → Type 0
Serves x new out h changed store output = (written_answer x ≡ answer h) × ((new ≡ stored (answer h) changed store) × (out ≡ after h output))

-- the store judged first
abbrev pub serving : ℕ → SenderState → Work → List ℕ → List ℕ → Outcome (Unit {0})
serving k s w store output =
    must (leb (store_need k s.queues.sent) (length store)) (Outcome.refused 11 0) (handing s w (unit_before s w store) output)

module _ (k : ℕ) (s : SenderState) (w : Work) (store output : List ℕ) {t : Bool} (judged : t ≡ leb (store_need k s.queues.sent) (length store)) where
  same_serving : (x : Written) {new out : List ℕ} {g h : Outcome (Unit {0})} → g ≡ h → Serves x new out h (store_served s w store) store output
      → Serves x new out g (store_served s w store) store output
  same_serving x {new} {out} p m = subst (λ y. Serves x new out y (store_served s w store) store output) (sym p) m

  pub served_short : t ≡ false → Serves (Err Room) store output (serving k s w store output) (store_served s w store) store output
  served_short f = same_serving (Err Room) (fails _ _ _ (sym judged ∙ f)) (refl, (refl, refl))

  pub served_on : (x : Written) {new out : List ℕ} → t ≡ true
      → Serves x new out (handing s w (unit_before s w store) output) (store_served s w store) store output
      → Serves x new out (serving k s w store output) (store_served s w store) store output
  served_on x f m = same_serving x (holds _ _ _ (sym judged ∙ f)) m

-- its step, whether the store suffices or not
step_judged : (b : Bool) (event : Option FopEvent) (s : SenderState) (w : Work) (ls : List ℕ) (h : Outcome (Unit {0})) (new old output : List ℕ)
    → must b (refused_step 11 s old output) (step_by event s w ls h new old output) ≡ step_by event s w ls (must b (Outcome.refused 11 0) h) new old output
step_judged true event s w ls h new old output = refl
step_judged false event s w ls h new old output = refl

-- by the event's row
pub served_row : (k : ℕ) (event : Option FopEvent) (n : ℕ) (s g : SenderState) (store output : List ℕ) (x : Written) {a : Answer} {new out : List ℕ} {b w : Work} → b ≡ begun g
    → w ≡ row_if event n b → Serves x new out (serving k s w store output) (store_served s w store) store output
    → a ≡ concluded event s w (lengths_served s w) (written_answer x) → Meets a new out (served k event n s g store output)
unfolding served served_by
served_row k event n s g store output x {w = w} p q m e =
    same_step
    (ap (λ (v : Work). must (leb (store_need k s.queues.sent) (length store)) (refused_step 11 s store output) (served_by event s v store output))
    (sym (q ∙ ap (row_if event n) p))
    ∙ step_judged (leb (store_need k s.queues.sent) (length store)) event s w (lengths_served s w) (handing s w (unit_before s w store) output) (store_served s w store) store output)
    (e ∙ ap (concluded event s w (lengths_served s w)) m.0, (m.1.0, m.1.1))

-- by the same window and value
pub same_served : (event : Option FopEvent) (s g : SenderState) (store output : List ℕ) {j k m n : ℕ} {a : Answer} {new out : List ℕ} → j ≡ k → m ≡ n
    → Meets a new out (served j event m s g store output) → Meets a new out (served k event n s g store output)
same_served event s g store output p q h = same_step (sym (ap₂ (λ (x y : ℕ). served x event y s g store output) p q)) h

-- E40 alone has its number
not_invalid : (e : FopEvent) → (e ≡ E40 → ⊥) → eqb (event_number e) 40 ≡ false
not_invalid E1 h = refl
not_invalid E2 h = refl
not_invalid E3 h = refl
not_invalid E4 h = refl
not_invalid E5 h = refl
not_invalid E6 h = refl
not_invalid E7 h = refl
not_invalid E8 h = refl
not_invalid E9 h = refl
not_invalid E10 h = refl
not_invalid E11 h = refl
not_invalid E12 h = refl
not_invalid E13 h = refl
not_invalid E14 h = refl
not_invalid E15 h = refl
not_invalid E16 h = refl
not_invalid E17 h = refl
not_invalid E18 h = refl
not_invalid E19 h = refl
not_invalid E20 h = refl
not_invalid E21 h = refl
not_invalid E22 h = refl
not_invalid E23 h = refl
not_invalid E24 h = refl
not_invalid E25 h = refl
not_invalid E26 h = refl
not_invalid E27 h = refl
not_invalid E28 h = refl
not_invalid E29 h = refl
not_invalid E30 h = refl
not_invalid E31 h = refl
not_invalid E32 h = refl
not_invalid E33 h = refl
not_invalid E34 h = refl
not_invalid E35 h = refl
not_invalid E36 h = refl
not_invalid E37 h = refl
not_invalid E38 h = refl
not_invalid E39 h = refl
not_invalid E40 h = absurd (h refl)
not_invalid E41 h = refl
not_invalid E42 h = refl
not_invalid E43 h = refl
not_invalid E44 h = refl
not_invalid E45 h = refl
not_invalid E46 h = refl
not_invalid E101 h = refl
not_invalid E102 h = refl
not_invalid E103 h = refl
not_invalid E104 h = refl

-- a directive
module _ (number value : ℕ) (s : SenderState) (store output : List ℕ) {a : Answer} {event : FopEvent} (of_event : event ≡ event_of_directive number value s) where
  pub directive_invalid : event ≡ E40 → a ≡ refusing 12 s → Meets a store output (directive_of number value s store output)
  unfolding directive_of
  directive_invalid h e = refuses 12 s (yes _ _ _ (ap (λ (e : FopEvent). eqb (event_number e) 40) (sym of_event ∙ h))) e

  pub directive_served : (event ≡ E40 → ⊥) → {k : ℕ} → k ≡ window_of number value s.settings.k → {new out : List ℕ}
      → Meets a new out (served k (Some event) value s s store output) → Meets a new out (directive_of number value s store output)
  unfolding directive_of
  directive_served h q m =
      same_step (no _ _ _ (not_invalid _ (λ e. h (of_event ∙ e))) ∙ ap₂ (λ (j : ℕ) (e : FopEvent). served j (Some e) value s s store output) (sym q) (sym of_event)) m

-- a tick, and an answer of the lower layer
pub tick_served : (s : SenderState) (store output : List ℕ) {g : SenderState} {a : Answer} {event : Option FopEvent} {new out : List ℕ} → event ≡ event_of_tick s → g ≡ ticked s
    → Meets a new out (served s.settings.k event 0 s g store output) → Meets a new out (tick_of s store output)
unfolding tick_of
tick_served s store output p q m = same_step (sym (ap₂ (λ (k : Option FopEvent) (x : SenderState). served s.settings.k k 0 s x store output) p q)) m

pub lower_served : (l : Lower) (s : SenderState) (store output : List ℕ) {a : Answer} {event : FopEvent} {new out : List ℕ} → event ≡ lower_event l
    → Meets a new out (served s.settings.k (Some event) 0 s s store output) → Meets a new out (lower_layer_of l s store output)
unfolding lower_layer_of
lower_served l s store output p m = same_step (sym (ap (λ (e : FopEvent). served s.settings.k (Some e) 0 s s store output) p)) m

-- a control word, by its reading
module _ (octets : List ℕ) (s : SenderState) (store output : List ℕ) {a : Answer} {reading : WordReading}
    (of-reading : reading ≡ reading_of octets s.settings.channel) {new out : List ℕ} where
  pub reading_told : {r : WordReading} → reading ≡ r → Meets a new out (word_by r s store output) → Meets a new out (control_word_of octets s store output)
  unfolding control_word_of
  reading_told p m = same_step (ap (λ (x : WordReading). word_by x s store output) (sym of-reading ∙ p)) m

  pub word_served : {r : ReceivedWord} {event : FopEvent} → reading ≡ Ok (Some r) → event ≡ event_of_word r.word s
      → Meets a new out (served s.settings.k (Some event) r.word.report s s store output) → Meets a new out (control_word_of octets s store output)
  word_served {r} p q m = reading_told p (same_step (ap (λ (e : FopEvent). served s.settings.k (Some e) r.word.report s s store output) (sym q)) m)

-- a unit requested: its length, then the store, then what the row gives
abbrev pub Request : Type 0
Request = SenderState → List ℕ → List ℕ → List ℕ → Step

abbrev request_of : Request → Request
request_of t s o store output =
    must_be_unit o (refused_step 10 s store output) (must (leb (need_of s) (length store)) (refused_step 11 s store output) (t s o store output))

module _ (t : Request) (s : SenderState) (o store output : List ℕ) {n : ℕ} (judged : n ≡ request_refusal s o store) where
  abbrev refusal : ℕ → Step
  refusal k = refused_step k s store output

  checked : Told refusal (t s o store output) n (request_refusal s o store) (request_of t s o store output)
  checked =
      let on = t s o store output in
      check refusal on n (leb 1 (length o)) 10 (λ z. omega arith)
      (check refusal on n (leb (length o) largest_unit) 10 (λ z. omega arith)
      (check refusal on n (leb (need_of s) (length store)) 11 (λ z. omega arith) (no_check refusal on n)))

  pub request_refused : {a : Answer} → (n ≡ 0 → ⊥) → a ≡ refusing n s → Meets a store output (request_of t s o store output)
  request_refused h e = refuses n s (checked.0 judged h) e

  pub request_taken : {a : Answer} {new out : List ℕ} → n ≡ 0 → Meets a new out (t s o store output) → Meets a new out (request_of t s o store output)
  request_taken h m = same_step (checked.1 judged h) m

-- the step of an AD request, and of a BD request, by the row
abbrev pub ad_step : Request
ad_step s o store output = offered_by (event_of_ad s) s (row_of (event_of_ad s) 0 (begun s)) o store output

abbrev pub bd_step : Request
bd_step s o store output = bypassed_by (event_of_bd s) s (row_of (event_of_bd s) 0 (begun s)) o store output

pub ad_row : (s : SenderState) (o store output : List ℕ) {a : Answer} {new out : List ℕ} {event : FopEvent} {b w : Work} → event ≡ event_of_ad s → b ≡ begun s
    → w ≡ row_if (Some event) 0 b → Meets a new out (offered_by event s w o store output) → Meets a new out (ad_step s o store output)
unfolding row_if
ad_row s o store output p q r m =
    same_step (sym (ap₂ (λ (k : FopEvent) (v : Work). offered_by k s v o store output) p (r ∙ ap₂ (λ (k : FopEvent) (v : Work). row_of k 0 v) p q))) m

pub bd_row : (s : SenderState) (o store output : List ℕ) {a : Answer} {out : List ℕ} {event : FopEvent} {b w : Work} → event ≡ event_of_bd s → b ≡ begun s
    → w ≡ row_if (Some event) 0 b → (a ≡ concluded (Some event) s w s.lengths (answer (handing s w o output))) × (out ≡ after (handing s w o output) output)
    → Meets a store out (bd_step s o store output)
unfolding bypassed_by row_if
bd_row s o store output {w = w} p q r m =
    same_step (sym (ap₂ (λ (k : FopEvent) (v : Work). bypassed_by k s v o store output) p (r ∙ ap₂ (λ (k : FopEvent) (v : Work). row_of k 0 v) p q)))
    (m.0, (stored_same (answer (handing s w o output)) store, m.1))

-- the event and the state pick whether the unit is added
pub adds_told : (event : FopEvent) (s : SenderState) {k : State} → event_number event ≡ 19 → s.state ≡ k → in_service k ≡ added event s
adds_told event s p q = sym (ap (λ (b : Bool). both b (in_service s.state)) (eq-eqb (event_number event) 19 p) ∙ ap in_service q)

-- an AD request: the unit offered goes into the store where the frame is written and the unit is added
module _ (event : FopEvent) (s : SenderState) (w : Work) (o store output : List ℕ) (x : Written) {out ls : List ℕ} {a : Answer}
    (written : Writes x out (handing s w (unit_offered s w o store) output) output) (of-lengths : ls ≡ lengths_offered event s (length o))
    (told : a ≡ concluded (Some event) s w ls (written_answer x)) where
  abbrev pub changed : List ℕ
  changed = pick (added event s) (unit_put s.queues.sent o store) store

  abbrev lengths : List ℕ
  lengths = lengths_offered event s (length o)

  -- with the lengths of the units after it
  longer : a ≡ concluded (Some event) s w lengths (written_answer x)
  longer = told ∙ ap (λ (l : List ℕ). concluded (Some event) s w l (written_answer x)) of-lengths

  pub offered_stored : {new : List ℕ} → new ≡ pick (is_ok x) changed store → Meets a new out (offered_by event s w o store output)
  unfolding offered_by
  offered_stored {new} q =
      step_written (Some event) s w lengths x a (unit_offered s w o store) out changed store output written longer new (q ∙ sym (stored_by x changed store))

-- the event told picks the step
pub event_told : (x : Event) (octets : List ℕ) (s : SenderState) (store output : List ℕ) {y : Event} {a : Answer} {new out : List ℕ} → x ≡ y
    → Meets a new out (event_of y octets s store output) → Meets a new out (event_of x octets s store output)
event_told x octets s store output p m = same_step (ap (λ (z : Event). event_of z octets s store output) p) m
