-- The event that the table's conditions pick meets what its row depends on (crate sender_rows_view, proofs/Rows): most rows depend on nothing; for
-- the others the condition of the event's own line says it, with the limits of the directive's value and, for a control word, with N(R)
-- from NN(R) to V(S), since otherwise the event is E13. A valid directive is never E40, an invalid one always.
use Prim.Native.Nat.{ℕ, ◌≤◌, ◌<◌}
use mathlib.Core.Path.{◌≡◌, refl, sym, ap, subst, ◌∙◌}
use mathlib.Core.Bool.{Bool, true, false, not, ◌&&◌}
use mathlib.Core.List.{List, [], ◌∷◌}
use native.Mathlib.Omega.{arith}
use borrow.Author.Tests.{ltb-true, ltb-false, eqb-true, eqb-false, not-true}
use lib.Dec.{T, leb, ltb, eqb, leb→le}
use Rattle.base.specs.Modulo.{offset}
use Rattle.base.proofs.Tests.{apart, yes, no}
use Rattle.base.proofs.Computed.{is_true}
use Rattle.fop.specs.Limits.{largest_k, largest_transmission_limit, largest_timer, largest_number, largest_timeout_type, largest_suspend_state}
use Rattle.fop.specs.Units.{Word}
use Rattle.fop.specs.declared.Event.{Event as FopEvent}
use Rattle.fop.specs.declared.Event.TheVariants.{E18, E25, E26, E27, E28, E36, E39, E40, E103}
use Rattle.fop.specs.Events.{Line, when, first, seen, word_lines, word_event, expiry_lines, valid_directive, directive_lines, directive_event}
use Rattle.sender_values.specs.declared.SenderState.{SenderState}
use Rattle.sender_values.specs.Start.{begun}
use Rattle.fop.specs.Table.{event_number}
use Rattle.sender_events.specs.Events.{variables_of}
use Rattle.sender_rows_view.proofs.Rows.{acknowledging, Needed, Meets}
use Rattle.fop.proofs.Choices.{by_pick, and_l, and_r, upto, ◌also◌}
use Rattle.fop.proofs.Test.{first_all}

-- The first line that holds: it has what its own condition gives.
abbrev Each : (FopEvent → Type 0) → List Line → Type 0
Each P [] = Unit {0}
Each P (when c x ∷ more) = (c ≡ true → P x) × Each P more

first_each : (P : FopEvent → Type 0) (lines : List Line) (e : FopEvent) → Each P lines → P e → P (first lines e)
first_each P [] e each last = last
first_each P (when c x ∷ more) e each last = by_pick P c each.0 (λ t. first_each P more e each.1 last)

-- Control words.
module _ (w : Word) (s : SenderState) (octet : w.nr < 256) where
  abbrev WordMeets : FopEvent → Type 0
  WordMeets e = Meets e [] w.nr s

  abbrev above : Bool
  above = ltb (offset s.variables.vs s.variables.nnr) (offset w.nr s.variables.nnr)

  word_in_order : above ≡ false → WordMeets (first (word_lines (seen w (variables_of s))) E103)
  unfolding begun
  word_in_order t =
      let acks : Needed acknowledging [] w.nr s = (octet, ltb-false _ _ t) in
      let short : Bool = ltb s.variables.transmission_count s.settings.transmission_limit in
      let retries : (short && not w.wait) ≡ true → s.variables.transmission_count < s.settings.transmission_limit =
      λ h. ltb-true _ _ (is_true short (and_l short (not w.wait) (subst T (sym h) tt))) in
      first_each WordMeets (word_lines (seen w (variables_of s))) E103
      -- E14, E13; E1 to E4; E5 to E7; E101, E102; E8, E9; E10 to E12
      ((λ h. tt) also (λ h. tt)
      also (λ h. tt) also (λ h. acks) also (λ h. tt) also (λ h. tt)
      also (λ h. tt) also (λ h. acks) also (λ h. tt)
      also (λ h. acks) also (λ h. tt)
      also (λ h. acks) also (λ h. acks)
      also retries also (λ h. tt) also (λ h. tt) also tt) tt

  word_any : (b : Bool) → above ≡ b → WordMeets (first (word_lines (seen w (variables_of s))) E103)
  unfolding begun
  word_any true t = by_pick WordMeets w.lockout (λ h. tt) (λ h. by_pick WordMeets above (λ k. tt) (λ k. absurd (apart (sym k ∙ t))))
  word_any false t = word_in_order t

pub word_meets : (w : Word) (s : SenderState) → w.nr < 256 → Meets (word_event (seen w (variables_of s))) [] w.nr s
unfolding word_event
word_meets w s octet = word_any w s octet _ refl

-- Directives: E40 is the event of the first line only.
abbrev past : List Line → List Line
past [] = []
past (l ∷ more) = more

module _ (d v : ℕ) (s : SenderState) where
  abbrev valid_event : FopEvent
  valid_event = first (past (directive_lines d v (variables_of s))) E39

  valid_event_lem : valid_directive d v ≡ true → directive_event d v (variables_of s) ≡ valid_event
  unfolding directive_event
  valid_event_lem valid = no _ E40 valid_event (ap not valid)

pub valid_not_40 : (d v : ℕ) (s : SenderState) → valid_directive d v ≡ true → eqb (event_number (directive_event d v (variables_of s))) 40 ≡ false
valid_not_40 d v s valid =
    ap (λ (e : FopEvent). eqb (event_number e) 40) (valid_event_lem d v s valid)
    ∙ not-true _ (is_true _ (first_all (λ e. not (eqb (event_number e) 40)) (past (directive_lines d v (variables_of s))) E39 tt))

pub invalid_is_40 : (d v : ℕ) (s : SenderState) → valid_directive d v ≡ false → directive_event d v (variables_of s) ≡ E40
unfolding directive_event
invalid_is_40 d v s invalid = yes _ _ _ (ap not invalid)

-- Directives that are valid, by their number.
number_below : (d v : ℕ) → T (valid_directive d v) → d < 12
number_below d v h =
    let a : d ≤ 11 = leb→le d 11 (and_r (leb 1 d) (leb d 11) (and_l (leb 1 d && leb d 11) _ h)) in
    omega arith

octet_below : (v : ℕ) → T (leb v largest_number) → v < 256
octet_below v h = omega (arith, leb→le v largest_number h)

within_limits : (v most : ℕ) → T (leb 1 v && leb v most) → (1 ≤ v) × (v ≤ most)
within_limits v most h = (leb→le 1 v (and_l (leb 1 v) (leb v most) h), leb→le v most (and_r (leb 1 v) (leb v most) h))

module _ (v : ℕ) (s : SenderState) (most : s.variables.suspend_state ≤ largest_suspend_state) where
  abbrev DirectiveMeets : FopEvent → Type 0
  DirectiveMeets e = Meets e [] v s

  abbrev ValidMeets : ℕ → Type 0
  ValidMeets d = T (valid_directive d v) → (d ≡ 8 → v ≡ s.settings.k) → DirectiveMeets (valid_event d v s)

  resumes : ValidMeets 6
  unfolding begun
  resumes h _ =
      let n = s.variables.suspend_state in
      by_pick DirectiveMeets (eqb n 0) (λ t. tt)
      (λ a. by_pick DirectiveMeets (eqb n 1) (eqb-true n 1)
      (λ b. by_pick DirectiveMeets (eqb n 2) (eqb-true n 2)
      (λ c. by_pick DirectiveMeets (eqb n 3) (eqb-true n 3) (λ d. omega (arith, most, eqb-false n 0 a, eqb-false n 1 b, eqb-false n 2 c, eqb-false n 3 d)))))

  valid_meets : (d : ℕ) → d < 12 → ValidMeets d
  unfolding begun
  valid_meets =
      let bc : Bool = s.variables.bc_out in
      upto ValidMeets 12
      ((λ h k. absurd h)
      also (λ h k. tt)
      also (λ h k. tt)
      also (λ h k. by_pick DirectiveMeets bc {x = E25} {y = E26} (λ t. tt) (λ t. tt))
      also (λ h k. by_pick DirectiveMeets bc {x = E27} {y = E28} (λ t. octet_below v h) (λ t. tt))
      also (λ h k. tt)
      also resumes
      also (λ h k. octet_below v h)
      also (λ h k. k refl)
      also (λ h k. (within_limits v largest_timer h).0)
      also (λ h k. within_limits v largest_transmission_limit h)
      also (λ h k. leb→le v largest_timeout_type h)
      also tt)

-- Set K is met by the sender that has the new K already
pub directive_meets : (d v : ℕ) (s : SenderState) → valid_directive d v ≡ true → s.variables.suspend_state ≤ largest_suspend_state
    → (d ≡ 8 → v ≡ s.settings.k) → Meets (directive_event d v (variables_of s)) [] v s
directive_meets d v s valid most same =
    let h : T (valid_directive d v) = subst T (sym valid) tt in
    subst (λ (e : FopEvent). Meets e [] v s) (sym (valid_event_lem d v s valid)) (valid_meets v s most d (number_below d v h) h same)

pub set_k_event : (v : ℕ) (s : SenderState) → valid_directive 8 v ≡ true → directive_event 8 v (variables_of s) ≡ E36
set_k_event v s valid = valid_event_lem 8 v s valid

pub window_limits : (v : ℕ) → valid_directive 8 v ≡ true → (1 ≤ v) × (v ≤ largest_k)
window_limits v valid = within_limits v largest_k (subst T (sym valid) tt)

-- The expiry of the timer: E16 or E17 with Timeout_Type 0, else E104 or E18.
pub expiry_meets : (s : SenderState) → s.variables.timer ≡ 0
    → Meets (first (expiry_lines (ltb s.variables.transmission_count s.settings.transmission_limit) (eqb s.settings.timeout_type 0)) E18) [] 0 s
expiry_meets s stopped = by _ _ (ltb-true _ _) where
  by : (a b : Bool) → (a ≡ true → s.variables.transmission_count < s.settings.transmission_limit) → Meets (first (expiry_lines a b) E18) [] 0 s
  by true true short = short refl
  by false true short = tt
  by true false short = (short refl, stopped)
  by false false short = stopped
