-- The sender's half of the tie: the octets that a caller keeps stand for the sender that they hold. Each call is the step of that sender, put
-- into octets (`call_is`); the octets of the next state and of the answer tell what the step has (`after_is`, `answer_is`); so what crate our_session
-- proves of the step holds of the call, whatever store is lent (`next_any`, `answers_any`; `state_well`: of all octets that are a state).
-- What the lent output and the answer's buffer held is not looked at (`output_free`, `answer_buffer_free`).
use Rattle.std.specs.Prelude.{Result, Ok}
use Prim.Native.Nat.{ℕ, ◌+◌, ◌<◌}
use mathlib.Core.Path.{◌≡◌, refl, sym, ap, subst, ◌∙◌}
use mathlib.Core.Bool.{Bool, true, false}
use mathlib.Core.List.{List, ◌++◌, append-nil}
use native.Mathlib.Omega.{arith}
use borrow.Author.Tests.{le-leb}
use lib.Dec.{leb}
use lib.ListN.{length, replicate, get_or, drop_of_length-le}
use Rattle.base.specs.Choice.{pick, must}
use Rattle.base.specs.Octets.{Octets, same}
use Rattle.base.proofs.Tests.{both_right, yes}
use Rattle.base.proofs.Lists.{octets_at_lem}
use Rattle.memory.specs.Placed.{placed}
use Rattle.memory.proofs.Laws.{placed_fits}
use Rattle.fop.specs.Units.{Own, are_octets}
use Rattle.fop.specs.Events.{SenderEvent, request_ad, request_bd, tick, lower, directive, word_arrives}
use Rattle.fop.specs.Answers.{Answer, sender_answer, sender_next}
use Rattle.sender_values.specs.declared.SenderState.{SenderState}
use Rattle.store.specs.Places.{places}
use Rattle.sender_values.specs.Start.{begun}
use Rattle.sender_view.specs.View.{responses_of}
use Rattle.fop.specs.declared.Lower.{Lower}
use Rattle.sender_rows_view.specs.State.{Good}
use Rattle.sender_frames.specs.Limits.{need_of}
use Rattle.sender.specs.declared.Answer.{Answer as SenderAnswer}
use Rattle.base.specs.declared.Refusal.{Refusal}
use Rattle.sender.specs.declared.Sender.{Sender}
use Rattle.sender_state.specs.State.{well_formed}
use Rattle.sender.specs.Start.{restored_of}
use Rattle.sender.specs.Answers.{Step, refused_step}
use Rattle.sender.specs.Events.{request_ad_of, request_bd_of, directive_of, tick_of, lower_layer_of, control_word_of}
use Rattle.sender_octets.specs.Kept.{number_octets, state_octets, octets_of, state_in, is_state, sender_in}
use Rattle.sender_octets.specs.Answer.{answer_octets, octets_of_answer, Told, told_by, answer_in}
use Rattle.sender_octets.proofs.Pairs.{length_from}
use Rattle.sender_octets.proofs.Judged.{length_octets}
use Rattle.sender_octets.proofs.Back.{Sized, read_back, octets_back, state_only}
use Rattle.sender_octets.proofs.Answered.{Fits, answer_back}
use Rattle.pondreszi_sender.specs.Senders.{Called, refused_call, done_call, called_with, called_by, request_ad_call, request_bd_call, tick_call, word_call, lower_call, directive_call, narrow_number, narrow_value}
use Rattle.our_session.specs.Ours.{Held, step_of, held_after, event_told, handed_down, answer_by, lent_output, reads}
use Rattle.session.specs.Ends.{Brought}
use Rattle.fop.specs.Store as judged
use Rattle.our_session.specs.Does.{Does, Well}
use Rattle.our_session.proofs.Theorem.{demand2_ours, keeps_good, session_next, session_answer}
use Rattle.our_session.proofs.Widened.{good_well, well_good}
use Rattle.our_session.proofs.Output.{output_content_free}
use Rattle.our_session.proofs.Restored.{good_passes, passes_good}
use Rattle.called_session.specs.Called.{Kept, lent_answer, lower_called, if_octets, call_of, kept_after, answer_called, held_in}
use Rattle.called_session.proofs.Ways.{Way, refuses, fits, asks_ad, asks_bd, directs, ticks, lowers, words}
use Rattle.called_session.proofs.Directives.{narrowed}

-- octets as long as the buffer take its place
pub placed_whole : (memory octets : List ℕ) → length octets ≡ length memory → placed memory 0 octets ≡ octets
placed_whole memory octets e =
    let z : 0 + length octets ≡ length memory = omega arith in
    placed_fits memory 0 octets (omega arith)
    ∙ ap (λ (l : List ℕ). octets ++ l) (drop_of_length-le memory {i = 0 + length octets} (omega arith))
    ∙ append-nil octets

-- octets that are a state give the sender that they hold
pub reached : (o : List ℕ) → is_state o ≡ true → sender_in o ≡ Ok (record { fop = state_in o })
unfolding sender_in is_state restored_of
reached o e = yes _ _ _ e ∙ yes _ _ _ (both_right (same o (octets_of (state_in o))) (well_formed (state_in o)) e)

-- a call by its event
module _ (x : Kept) (is : is_state x.state ≡ true) (output : List ℕ) where
  abbrev s : SenderState
  s = state_in x.state

  -- with an answer's buffer that has room
  called_at : (told : List ℕ) → leb answer_octets (length told) ≡ true → (event : SenderState → Step)
      → called_by event x.state x.store output told ≡ done_call (event s) x.state told
  called_at told room event =
      ap (λ (t : Result Sender Refusal). called_with t event x.state x.store output told) (reached x.state is)
      ∙ ap (λ (b : Bool). must b (refused_call 11 x.state x.store output told) (done_call (event s) x.state told)) room

  called_by_lem : (event : SenderState → Step) → called_by event x.state x.store output lent_answer ≡ done_call (event s) x.state lent_answer
  called_by_lem event = called_at lent_answer refl event

  -- what the answer's buffer held is not looked at
  pub answer_buffer_free : (told : List ℕ) → length told ≡ answer_octets → (event : SenderState → Step)
      → called_by event x.state x.store output told ≡ called_by event x.state x.store output lent_answer
  unfolding octets_of_answer
  answer_buffer_free told e event =
      let done : Called = done_call (event s) x.state told in
      let octets : List ℕ = octets_of_answer (event s).answer in
      called_at told (le-leb answer_octets (length told) (omega (arith, e))) event
      ∙ ap (λ (o : List ℕ). record { number = done.number; state = done.state; store = done.store; output = done.output; answer = o })
      (placed_whole told octets (sym e) ∙ sym (placed_whole lent_answer octets refl))
      ∙ sym (called_by_lem event)

  -- what is lent as octets
  as_octets : (o : List ℕ) (call : Called) (event : SenderState → Step) → call ≡ done_call (event s) x.state lent_answer
      → if_octets o output x call ≡ done_call (pick (are_octets o) (event s) (refused_step 10 s x.store output)) x.state lent_answer
  as_octets o call event p = by (are_octets o) where
    by : (b : Bool) → pick b call (called_by (λ t. refused_step 10 t x.store output) x.state x.store output lent_answer)
        ≡ done_call (pick b (event s) (refused_step 10 s x.store output)) x.state lent_answer
    by true = p
    by false = called_by_lem (λ t. refused_step 10 t x.store output)

  lowers_is : (l : Lower) → lower_call x.state (lower_called l) x.store output lent_answer
      ≡ called_by (λ t. lower_layer_of l t x.store output) x.state x.store output lent_answer
  unfolding lower_call
  lowers_is Lower.AdAccept = refl
  lowers_is Lower.AdReject = refl
  lowers_is Lower.BcAccept = refl
  lowers_is Lower.BcReject = refl
  lowers_is Lower.BdAccept = refl
  lowers_is Lower.BdReject = refl

  pub call_is : (e : SenderEvent) → call_of e output x ≡ done_call (step_of e output (held_in x)) x.state lent_answer
  unfolding call_of step_of request_ad_call request_bd_call tick_call word_call directive_call
  call_is (request_ad o) = as_octets o _ (λ t. request_ad_of t o x.store output) (called_by_lem (λ t. request_ad_of t o x.store output))
  call_is (request_bd o) = as_octets o _ (λ t. request_bd_of t o x.store output) (called_by_lem (λ t. request_bd_of t o x.store output))
  call_is tick = called_by_lem (λ t. tick_of t x.store output)
  call_is (lower l) = lowers_is l ∙ called_by_lem (λ t. lower_layer_of l t x.store output)
  call_is (directive d v) =
      called_by_lem (λ t. directive_of (narrow_number d v) (narrow_value v) t x.store output)
      ∙ ap (λ (y : Step). done_call y x.state lent_answer) (narrowed s x.store output d v)
  call_is (word_arrives o) = as_octets o _ (λ t. control_word_of o t x.store output) (called_by_lem (λ t. control_word_of o t x.store output))

  -- its step goes one of the two ways, so its answer fits
  octets_way : (o : List ℕ) (y : Step) → Way s x.store output y
      → Way s x.store output (pick (are_octets o) y (refused_step 10 s x.store output))
  octets_way o y p = by (are_octets o) where
    by : (b : Bool) → Way s x.store output (pick b y (refused_step 10 s x.store output))
    by true = p
    by false = refuses 10

  pub way : (e : SenderEvent) → Way s x.store output (step_of e output (held_in x))
  unfolding step_of
  way (request_ad o) = octets_way o _ (asks_ad s x.store output o)
  way (request_bd o) = octets_way o _ (asks_bd s x.store output o)
  way tick = ticks s x.store output
  way (lower l) = lowers s x.store output l
  way (directive d v) = directs s x.store output d v
  way (word_arrives o) = octets_way o _ (words s x.store output o)

  -- the answer's octets tell the step's answer
  pub told_is : (a : SenderAnswer) → Fits a → answer_in (placed lent_answer 0 (octets_of_answer a)) ≡ told_by a
  unfolding octets_of_answer
  told_is a h = ap answer_in (placed_whole lent_answer (octets_of_answer a) refl) ∙ answer_back a h

  pub answer_is : (e : SenderEvent) → answer_called (call_of e output x) ≡ answer_by (step_of e output (held_in x))
  unfolding answer_called
  answer_is e =
      let y : Step = step_of e output (held_in x) in
      let told : Told → Answer = λ t. record {
        refusal = y.answer.refusal;
        event = event_told t.met;
        state = t.state;
        down = handed_down t.down y.output;
        abort = t.abort;
        responses = responses_of t.responses;
        alert = t.alert;
        suspended = t.suspended;
        confirmed = t.confirmed;
        denied = t.denied;
      } in
      ap answer_called (call_is e) ∙ ap told (told_is y.answer (fits s x.store output y (way e)))

-- nor is what the output held
pub output_free : (x : Kept) → is_state x.state ≡ true → (e : SenderEvent) (a b : List ℕ) → length a ≡ length b
    → (kept_after (call_of e a x) ≡ kept_after (call_of e b x)) × (answer_called (call_of e a x) ≡ answer_called (call_of e b x))
output_free x is e a b l =
    let same = output_content_free e (held_in x) a b l in
    let kept : Held → Kept = λ h. record { state = placed x.state 0 (octets_of h.sender.fop); store = h.store } in (
      ap kept_after (call_is x is a e) ∙ ap kept same.0 ∙ sym (ap kept_after (call_is x is b e)),
      answer_is x is a e ∙ same.1 ∙ sym (answer_is x is b e),
    )

-- what a caller keeps: the octets of a well-formed state, whatever store it lends next
pub record WellKept (own : Own) (x : Kept) : Type 0 where
  pub is : is_state x.state ≡ true
  pub well : Well own (state_in x.state)

-- with a store that suffices for it
pub record GoodKept (own : Own) (x : Kept) : Type 0 where
  pub is : is_state x.state ≡ true
  pub good : Good own (state_in x.state) x.store

pub good_kept : {own : Own} {x : Kept} → GoodKept own x → WellKept own x
good_kept g = record { is = g.is; well = good_well g.good }

-- the address of the state that octets hold
abbrev pub own_in : List ℕ → Own
own_in o = record { spacecraft = (state_in o).settings.spacecraft; channel = (state_in o).settings.channel }

-- octets that are a state are of a well-formed one; others are refused with 12 (crate sender_octets, proofs/Back, `refused_no_state`)
pub state_well : (x : Kept) → Octets x.state → is_state x.state ≡ true → WellKept (own_in x.state) x
unfolding state_in is_state
state_well x octets is =
    let o : List ℕ = x.state in
    let at : (i : ℕ) → get_or o i 0 < 256 = octets_at_lem o octets in
    record {
      is = is;
      well = λ store room. passes_good (state_in o) store (record {
        vs = at 11;
        nnr = at 12;
        limit = omega (arith, at 6);
        count = omega (arith, at 15);
        lengths = length_from o number_octets places;
      }) room (both_right (same o (octets_of (state_in o))) (well_formed (state_in o)) is);
    }

-- every place has a length
places_all : (own : Own) (s : SenderState) → Well own s → length s.lengths ≡ places
unfolding begun
places_all own s w = (well_good own s w).formed.all_places

-- a sender's octets, in a buffer of a state
pub octets_kept : (own : Own) (s : SenderState) → Well own s → (is_state (octets_of s) ≡ true) × (state_in (octets_of s) ≡ s)
octets_kept own s w =
    let z : Sized s = record { lengths = places_all own s w } in
    (octets_back s z (good_passes own s (replicate (need_of s) 0) (well_good own s w)), read_back s z)

-- whatever store and output are lent
module _ (own : Own) (x : Kept) (g : WellKept own x) (output : List ℕ) where
  state_length : length x.state ≡ state_octets
  state_length =
      ap length (sym (state_only x.state g.is)) ∙ length_octets (state_in x.state) (places_all own (state_in x.state) g.well)

  -- the step is the table machine's, with the store and output lent
  step_does : (e : SenderEvent) → Does own (length x.store) (length output) e (reads (held_in x)) (step_of e output (held_in x))
  step_does e = demand2_ours own e output (held_in x) g.well

  -- what is kept after a call: the octets of the step's next state, and its store
  pub after_is : (e : SenderEvent) → kept_after (call_of e output x)
      ≡ record { state = octets_of (step_of e output (held_in x)).answer.next.fop; store = (step_of e output (held_in x)).store }
  after_is e =
      let y : Step = step_of e output (held_in x) in
      let n : SenderState = y.answer.next.fop in
      ap kept_after (call_is x g.is output e)
      ∙ ap (λ (o : List ℕ). record { state = o; store = y.store })
      (placed_whole x.state (octets_of n) (length_octets n (places_all own n (step_does e).well) ∙ sym state_length))

  -- it holds the sender after the step
  pub held_is : (e : SenderEvent) → held_in (kept_after (call_of e output x)) ≡ held_after (step_of e output (held_in x))
  held_is e =
      let y : Step = step_of e output (held_in x) in
      let n : SenderState = y.answer.next.fop in
      ap held_in (after_is e)
      ∙ ap (λ (t : SenderState). record { sender = record { fop = t }; store = y.store }) (octets_kept own n (step_does e).well).1

  -- its octets are again those of a well-formed state
  pub keeps_well : (e : SenderEvent) → WellKept own (kept_after (call_of e output x))
  keeps_well e = record {
    is = ap (λ (k : Kept). is_state k.state) (after_is e) ∙ (octets_kept own (step_of e output (held_in x)).answer.next.fop (step_does e).well).0;
    well = subst (λ (h : Held). Well own h.sender.fop) (sym (held_is e)) (step_does e).well;
  }

  -- every event, directives too, is the table machine's with the store lent: 11 where it is too small, at Set K by the new K alone
  pub next_any : (e : SenderEvent)
      → reads (held_in (kept_after (call_of e output x))) ≡ judged.lent_next own e (length x.store) (length output) (reads (held_in x))
  next_any e = ap reads (held_is e) ∙ (step_does e).next

  pub answers_any : (e : SenderEvent)
      → answer_called (call_of e output x) ≡ judged.lent_answer own e (length x.store) (length output) (reads (held_in x))
  answers_any e = answer_is x g.is output e ∙ (step_does e).answer

-- with a store that suffices for the state
module _ (own : Own) (x : Kept) (g : GoodKept own x) (lent : ℕ) where
  abbrev lent_zeros : List ℕ
  lent_zeros = lent_output lent

  -- it does for the state after a call
  pub keeps : (e : SenderEvent) → GoodKept own (kept_after (call_of e lent_zeros x))
  keeps e = record {
    is = (keeps_well own x (good_kept g) lent_zeros e).is;
    good = subst (λ (h : Held). Good own h.sender.fop h.store) (sym (held_is own x (good_kept g) lent_zeros e))
        (keeps_good own e lent (held_in x) g.good);
  }

  -- a session's events are as the tables'
  pub next : (e : SenderEvent) → Brought e → reads (held_in (kept_after (call_of e lent_zeros x))) ≡ sender_next own e lent (reads (held_in x))
  next e i = ap reads (held_is own x (good_kept g) lent_zeros e) ∙ session_next own e i lent (held_in x) g.good

  pub answers : (e : SenderEvent) → Brought e → answer_called (call_of e lent_zeros x) ≡ sender_answer own e lent (reads (held_in x))
  answers e i = answer_is x g.is lent_zeros e ∙ session_answer own e i lent (held_in x) g.good
