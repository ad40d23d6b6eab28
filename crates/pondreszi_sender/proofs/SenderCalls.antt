-- Each way through a call of the sender, for any event, in the form in which a `return` asks it: no sender is reached, since the octets are
-- no state or the answer's buffer is too short, or the event is done and told.
use mathlib.Core.Path.{◌≡◌, refl, sym, ap, ap₂, ◌∙◌}
use mathlib.Core.List.{List}
use Prim.Native.Nat.{ℕ, ◌<◌, ◌≤◌}
use native.Mathlib.Omega.{arith}
use borrow.Author.Tests.{le-leb, lt-leb}
use lib.ListN.{length}
use Rattle.memory.specs.Placed.{placed}
use Rattle.sender_values.specs.declared.SenderState.{SenderState}
use Rattle.fop.specs.declared.Lower.{Lower}
use Rattle.sender.specs.declared.Answer.{Answer}
use Rattle.sender.specs.declared.Event.TheVariants.{LowerLayer, Directive}
use Rattle.sender.specs.declared.Sender.{Sender}
use Rattle.std.specs.Prelude.{Result, Ok, Err}
use Rattle.base.specs.Refusals.{refusal_number}
use Rattle.base.specs.declared.Refusal.{Refusal}
use Rattle.sender.specs.Answers.{Step}
use Rattle.sender.specs.Events.{event_of}
use Rattle.sender.proofs.Steps.{Meets, holds, fails}
use Rattle.sender_octets.specs.Kept.{state_octets, octets_of, sender_in}
use Rattle.sender_octets.specs.Answer.{answer_octets, octets_of_answer}
use Rattle.pondreszi_sender.specs.Senders.{Called, done_call, called_with, called_by, event_call, lower_numbered, lower_call, narrow_number, narrow_value, directive_call, New, started_call}

-- what a call promises
abbrev pub Leaves : ℕ → List ℕ → List ℕ → List ℕ → List ℕ → Called → Type 0
Leaves number state store output answer t =
    (number ≡ t.number) × ((state ≡ t.state) × ((store ≡ t.store) × ((output ≡ t.output) × (answer ≡ t.answer))))

-- a call by another that it is
pub same_call : {number : ℕ} {state store output answer : List ℕ} {t u : Called} → t ≡ u → Leaves number state store output answer u
    → Leaves number state store output answer t
same_call p h = (
  h.0 ∙ ap (λ (x : Called). x.number) (sym p),
  (
    h.1.0 ∙ ap (λ (x : Called). x.state) (sym p),
    (
      h.1.1.0 ∙ ap (λ (x : Called). x.store) (sym p),
      (h.1.1.1.0 ∙ ap (λ (x : Called). x.output) (sym p), h.1.1.1.1 ∙ ap (λ (x : Called). x.answer) (sym p)),
    ),
  ),
)

-- what telling an answer promises
abbrev pub Tells : ℕ → List ℕ → List ℕ → Answer → List ℕ → List ℕ → Type 0
Tells number state answer told old_state old_answer =
    (number ≡ told.refusal)
    × ((state ≡ placed old_state 0 (octets_of told.next.fop)) × (answer ≡ placed old_answer 0 (octets_of_answer told)))

-- an event that was told
tells : (t : Step) (old_state old_answer : List ℕ) {told : Answer} {number : ℕ} {state store output answer : List ℕ} → Meets told store output t
    → Tells number state answer told old_state old_answer → Leaves number state store output answer (done_call t old_state old_answer)
tells t old_state old_answer m h = (
  h.0 ∙ ap (λ (a : Answer). a.refusal) m.0,
  (
    h.1.0 ∙ ap (λ (a : Answer). placed old_state 0 (octets_of a.next.fop)) m.0,
    (m.1.0, (m.1.1, h.1.1 ∙ ap (λ (a : Answer). placed old_answer 0 (octets_of_answer a)) m.0)),
  ),
)

-- a call by what its octets of state are: none, a sender whose answer has no room, or one whose event is done and told
module _ (event : SenderState → Step) (state store output answer : List ℕ) {x : Result Sender Refusal} (kept : x ≡ sender_in state) where
  called_as : {y : Result Sender Refusal} → x ≡ y → called_by event state store output answer ≡ called_with y event state store output answer
  called_as e = ap (λ (r : Result Sender Refusal). called_with r event state store output answer) (sym kept ∙ e)

  pub no_state : {refusal : Refusal} {number : ℕ} → x ≡ Err refusal → number ≡ refusal_number refusal
      → Leaves number state store output answer (called_by event state store output answer)
  no_state e n = same_call (called_as e) (n, (refl, (refl, (refl, refl))))

  pub no_room : {sender : Sender} {number : ℕ} → x ≡ Ok sender → length answer < answer_octets → number ≡ 11
      → Leaves number state store output answer (called_by event state store output answer)
  no_room e l n = same_call (called_as e ∙ fails _ _ _ (lt-leb answer_octets (length answer) l)) (n, (refl, (refl, (refl, refl))))

  pub done : {sender : Sender} → x ≡ Ok sender → answer_octets ≤ length answer → {told : Answer} {number : ℕ} {state' store' output' answer' : List ℕ}
      → Meets told store' output' (event sender.fop) → Tells number state' answer' told state answer
      → Leaves number state' store' output' answer' (called_by event state store output answer)
  done {sender} e l m t =
      same_call (called_as e ∙ holds _ _ _ (le-leb answer_octets (length answer) l)) (tells (event sender.fop) state answer m t)

-- what a start promises
abbrev pub Starts : Result Sender Refusal → List ℕ → ℕ → List ℕ → Type 0
Starts start state number new = (number ≡ (started_call start state).number) × (new ≡ (started_call start state).state)

-- a start: refused, no room for its state, or done
module _ {begun start : Result Sender Refusal} (state : List ℕ) (same : begun ≡ start) where
  by : (number : ℕ) (new : List ℕ) {x : Result Sender Refusal} (u : New) → begun ≡ x → started_call x state ≡ u → number ≡ u.number → new ≡ u.state
      → Starts start state number new
  by number new u b p e f =
      let q = sym (ap (λ (x : Result Sender Refusal). started_call x state) (sym same ∙ b) ∙ p) in
      (e ∙ ap (λ (x : New). x.number) q, f ∙ ap (λ (x : New). x.state) q)

  pub start_refused : {refusal : Refusal} {number : ℕ} → begun ≡ Err refusal → number ≡ refusal_number refusal → Starts start state number state
  start_refused e n = by _ state _ e refl n refl

  pub start_no_room : {sender : Sender} {number : ℕ} → begun ≡ Ok sender → length state < state_octets → number ≡ 11 → Starts start state number state
  start_no_room e l n = by _ state _ e (fails _ _ _ (lt-leb state_octets (length state) l)) n refl

  pub start_done : {sender : Sender} {fop : SenderState} {new : List ℕ} → begun ≡ Ok sender → state_octets ≤ length state → fop ≡ sender.fop
      → new ≡ placed state 0 (octets_of fop) → Starts start state 0 new
  start_done e l f p =
      by 0 _ _ e (holds _ _ _ (le-leb state_octets (length state) l)) refl (p ∙ ap (λ (s : SenderState). placed state 0 (octets_of s)) f)

-- an answer of the lower layer: its number judged, then the call
module _ (n : ℕ) (state store output answer : List ℕ) where
  pub lower_below : {number : ℕ} → n < 1 → number ≡ 12 → Leaves number state store output answer (lower_call state n store output answer)
  unfolding lower_call
  lower_below l e = same_call (fails _ _ _ (lt-leb 1 n l)) (e, (refl, (refl, (refl, refl))))

  pub lower_above : {number : ℕ} → 6 < n → number ≡ 12 → Leaves number state store output answer (lower_call state n store output answer)
  unfolding lower_call
  lower_above h e =
      same_call (holds _ _ _ (le-leb 1 n (omega (arith, h))) ∙ fails _ _ _ (lt-leb n 6 h)) (e, (refl, (refl, (refl, refl))))

  pub lower_within : (octets : List ℕ) {l : Lower} {number : ℕ} {state' store' output' answer' : List ℕ} → 1 ≤ n → n ≤ 6 → l ≡ lower_numbered n
      → Leaves number state' store' output' answer' (event_call state (LowerLayer l) octets store output answer)
      → Leaves number state' store' output' answer' (lower_call state n store output answer)
  unfolding lower_call event_call event_of
  lower_within octets l h p m =
      same_call
      (holds _ _ _ (le-leb 1 n l) ∙ holds _ _ _ (le-leb n 6 h) ∙ ap (λ (x : Lower). event_call state (LowerLayer x) octets store output answer) (sym p))
      m

-- a directive by its number and value, narrowed
pub directive_called : (d v : ℕ) (state octets store output answer : List ℕ) {x y number : ℕ} {state' store' output' answer' : List ℕ} → x ≡ narrow_number d v
    → y ≡ narrow_value v → Leaves number state' store' output' answer' (event_call state (Directive x y) octets store output answer)
    → Leaves number state' store' output' answer' (directive_call state d v store output answer)
unfolding directive_call event_call event_of
directive_called d v state octets store output answer p q m =
    same_call (sym (ap₂ (λ (x y : ℕ). event_call state (Directive x y) octets store output answer) p q)) m
