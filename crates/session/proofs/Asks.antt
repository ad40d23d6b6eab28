-- The table machines, at the next event: what the stronger claims add of the sender.
use mathlib.Core.Logic.{◌⊎◌, inl, inr}
use mathlib.Core.Path.{◌≡◌, refl, ap, ◌∙◌}
use mathlib.Core.Bool.{true, false, false≢true}
use mathlib.Core.List.{List, [], ◌∷◌}
use mathlib.Core.Option.{none, some}
use Prim.Native.Nat.{ℕ, ◌≤◌, ◌<◌}
use native.Mathlib.Omega.{arith}
use lib.ListN.{length, get_or}
use borrow.Author.Tests.{lt-ltb, le-ltb, ne_eqb}
use Rattle.base.specs.Modulo.{advanced, offset}
use Rattle.fop.specs.Units.{Fdu, Word, legal, word_octets}
use Rattle.fop.specs.declared.State.{State}
use Rattle.fop.specs.declared.State.TheVariants.{S1, S2, S3, S4, S5, S6}
use Rattle.fop.specs.declared.Action.TheVariants.{InitiateAdRetransmission}
use Rattle.fop.specs.declared.Event.{Event as FopEvent}
use Rattle.fop.specs.Table.{table78, cell78}
use Rattle.fop.specs.Variables.{Fop, Work, Preset, begin}
use Rattle.fop.specs.Machine.{first_marked, fop_do, perform_cell, perform_all, perform, look_for_fdu}
use Rattle.fop.specs.declared.Response.TheVariants.{AcceptAdUnit}
use Rattle.fop.specs.Variables.{set_state, on_fop}
use Rattle.fop.specs.Machine.{send_waiting, transmit_ad}
use Rattle.fop.specs.Events.{fop_word, word_event, request_ad}
use Rattle.fop.specs.Events.{word_arrives, work}
use Rattle.fop.specs.Answers.{sender_answer, judged, needed}
use Rattle.session.specs.Ends.{Settings, Within}
use Rattle.session.specs.Session.{ad_request, word_in, no_unit}
use Rattle.session.specs.Claims.{IsOutstanding, outstanding, Marked}
use Rattle.session.specs.Stronger.{in_service, asking}
use Rattle.session.proofs.Core.{step_with, Session, answered, channels, step}
use Rattle.session.proofs.Inv.{Inv, goes_is}
use Rattle.session.proofs.Next.{history_of, Resent, lv, off_is, out_from, room_is, sender_is, word_step, sent_at_once, ad_is, expired, ticked}

-- a unit that is sent at once is accepted, and starts the timer
pub responds : (set : Settings) (σ : Session) → Inv set σ → (o : List ℕ) (lent : ℕ) → legal o ≡ true → needed set.own (request_ad o) σ.fop ≤ lent
    → σ.fop.state ≡ S1 → σ.fop.out.ad ≡ true → σ.fop.queues.wait_queue ≡ none → first_marked σ.fop.queues.sent_queue ≡ none
    → length (outstanding (history_of σ)) < set.k
    → (sender_answer set.own (request_ad o) lent σ.fop).responses ≡ AcceptAdUnit ∷ []
unfolding sender_answer work judged sent_at_once send_waiting transmit_ad perform
responds set σ I o lent g r s a w m k =
    let sv : in_service σ.fop.state ≡ true = rw s in
    let j : judged set.own (request_ad o) ≡ 0 = rw g in
    rw (goes_is set.own (request_ad o) lent σ.fop j r)
    (ap (λ (v : Work). v.responses) (ad_is o σ.fop s a w m (room_is set σ I sv k)))

pub starts : (set : Settings) (σ : Session) → Inv set σ → (o : List ℕ) (lent : ℕ) → legal o ≡ true → needed set.own (request_ad o) σ.fop ≤ lent
    → σ.fop.state ≡ S1 → σ.fop.out.ad ≡ true → σ.fop.queues.wait_queue ≡ none → first_marked σ.fop.queues.sent_queue ≡ none
    → length (outstanding (history_of σ)) < set.k
    → (step set (ad_request o lent) σ).fop.clock.timer ≡ set.t1
unfolding step step_with work judged answered sent_at_once send_waiting transmit_ad perform
starts set σ I o lent g r s a w m k =
    let sv : in_service σ.fop.state ≡ true = rw s in
    let j : judged set.own (request_ad o) ≡ 0 = rw g in
    rw (sender_is set (request_ad o) lent σ j r)
    (ap (λ (v : Work). v.fop.clock.timer) (ad_is o σ.fop s a w m (room_is set σ I sv k)) ∙ ap (λ (p : Preset). p.t1_initial) I.is_set)

-- a word that asks for retransmission and reports nothing new
ask_cell : (v : Work) (s : State) → asking s ≡ true
    → perform_cell (cell78 (table78 FopEvent.E10) s) v ≡ on_fop (set_state S2 (look_for_fdu (perform InitiateAdRetransmission v)).fop)
    (look_for_fdu (perform InitiateAdRetransmission v))
unfolding perform_cell perform_all perform table78
ask_cell v S1 e = refl
ask_cell v S2 e = absurd (false≢true e)
ask_cell v S3 e = refl
ask_cell v S4 e = absurd (false≢true e)
ask_cell v S5 e = absurd (false≢true e)
ask_cell v S6 e = absurd (false≢true e)

asked : (s : State) → asking s ≡ true → in_service s ≡ true
asked S1 e = refl
asked S2 e = refl
asked S3 e = refl
asked S4 e = e
asked S5 e = e
asked S6 e = e

ask_is : (w : Word) (f : Fop) → asking f.state ≡ true → w.lockout ≡ false → w.wait ≡ false → w.retransmit ≡ true
    → offset w.nr f.numbers.nnr ≡ 0 → 0 < offset f.numbers.vs f.numbers.nnr → 1 < f.preset.transmission_limit → f.clock.transmission_count < f.preset.transmission_limit
    → fop_word w f ≡ on_fop (set_state S2 (expired FopEvent.E10 w.nr f).fop) (expired FopEvent.E10 w.nr f)
unfolding fop_word word_event fop_do expired
ask_is w f s a b c e p l k =
    rw (
      a,
      b,
      c,
      e,
      le-ltb (offset f.numbers.vs f.numbers.nnr) 0 (omega arith),
      ne_eqb 0 (offset f.numbers.vs f.numbers.nnr) (omega arith),
      ne_eqb f.preset.transmission_limit 1 (omega arith),
      lt-ltb f.clock.transmission_count f.preset.transmission_limit k,
    )
    (ask_cell (begin (some FopEvent.E10) [] w.nr f) f.state s)

module _ (set : Settings) (vw : Within set) (σ : Session) (I : Inv set σ) (w : Word) (ws : List Word) (i lent : ℕ)
    (comes : σ.words ≡ w ∷ ws) (r : needed set.own (word_arrives (word_octets set.own w)) σ.fop ≤ lent) where
  over : (u : Fdu) → Resent u σ (answered set.n (fop_word w σ.fop) σ) ⊎ Marked u (fop_word w σ.fop).fop
      → Resent u σ (answered set.n (fop_word w σ.fop) (channels σ.frames ws σ))
      ⊎ Marked u (answered set.n (fop_word w σ.fop) (channels σ.frames ws σ)).fop
  unfolding answered channels
  over u (inl s) = inl (record { down = s.down; counted = s.counted; place = s.place; out = s.out; is = s.is })
  over u (inr k) = inr k

  pub asks : asking σ.fop.state ≡ true → σ.fop.clock.transmission_count < set.limit → 1 < set.limit → w.lockout ≡ false → w.wait ≡ false
      → w.retransmit ≡ true
      → w.nr ≡ advanced set.n (length σ.confirmed) → IsOutstanding (history_of σ) i
      → Resent (get_or σ.sent i no_unit) σ (step set (word_in lent) σ) ⊎ Marked (get_or σ.sent i no_unit) (step set (word_in lent) σ).fop
  asks s k l a b c nr o =
      let sv : in_service σ.fop.state ≡ true = asked σ.fop.state s in
      let from : length σ.confirmed ≤ i = out_from set σ I sv i o in
      let lm : σ.fop.preset.transmission_limit ≡ set.limit = ap (λ (p : Preset). p.transmission_limit) I.is_set in
      let lv0 = lv set σ I sv in
      let z : offset w.nr σ.fop.numbers.nnr ≡ 0 = omega (arith, nr, lv0, I.base) in
      let e = ask_is w σ.fop s a b c z (omega (arith, off_is set σ I sv, from, o.0)) (omega arith) (omega arith) in
      rw (word_step set vw σ I w ws lent comes r) (over (get_or σ.sent i no_unit)
      (ticked set σ I sv FopEvent.E10 w.nr σ.fop refl i σ.fop.queues.sent_queue refl (fop_word w σ.fop) (ap (λ (x : Work). x.fop.queues.sent_queue) e)
      (ap (λ (x : Work). x.frames) e) o σ.fop.out.ad refl))
