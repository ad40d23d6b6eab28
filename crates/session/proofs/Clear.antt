-- Demand 3 of the table machines: a clear control word that reports the next number to send.
use mathlib.Core.Path.{◌≡◌, refl, sym, ap, ◌∙◌}
use mathlib.Core.Bool.{true, false}
use mathlib.Core.List.{List, [], ◌∷◌}
use mathlib.Core.Option.{none, some}
use Prim.Native.Nat.{ℕ, zero, suc, ◌+◌, ◌-◌, ◌≤◌, ◌<◌}
use native.Mathlib.Omega.{arith}
use lib.ListN.{length, take, drop, length-append, length-take, length-drop}
use borrow.Author.Tests.{le-ltb, eq-eqb, ne_eqb}
use Rattle.base.specs.Modulo.{advanced, offset}
use Rattle.fop.specs.Units.{Fdu, AD, Word, word_octets}
use Rattle.fop.specs.declared.State.{State}
use Rattle.fop.specs.declared.State.TheVariants.{S1}
use Rattle.fop.specs.declared.Event.{Event as FopEvent}
use Rattle.fop.specs.Table.{table78, cell78}
use Rattle.fop.specs.declared.Action.TheVariants.{RemoveAcknowledgedFrames, CancelTimer}
use Rattle.fop.specs.Variables.{Fop, Work, Entry, Preset, begin}
use Rattle.fop.specs.Machine.{fdus, first_marked, fop_do, perform_cell, perform_all, perform, look_for_fdu, send_next}
use Rattle.fop.specs.Variables.{set_state, on_fop}
use Rattle.fop.specs.Machine.{send_waiting, transmit_ad, remove_acknowledged, acknowledged, unacknowledged}
use Rattle.fop.specs.Events.{fop_word, word_event}
use Rattle.fop.specs.Events.{word_arrives}
use Rattle.fop.specs.Answers.{needed}
use Rattle.session.specs.Ends.{Settings, Within}
use Rattle.session.specs.Session.{word_in, places}
use Rattle.session.specs.Claims.{IsOutstanding, outstanding, member, next_number, next_unit, serves}
use Rattle.fop.proofs.Ways.{look_ways}
use Rattle.session.proofs.Core.{Session, answered, channels, step}
use Rattle.session.proofs.Lists.{member_in}
use Rattle.session.proofs.Values.{queue_length}
use Rattle.session.proofs.Inv.{Inv}
use Rattle.session.proofs.Chan.{Wds, wds_le}
use Rattle.session.proofs.Receiver.{step_keeps}
use Rattle.session.proofs.Next.{history_of, Sent, in_serving, served, acked, word_step, lv, out_count, off_is, out_from, next_sends, look_new}

-- Look for FDU confirms nothing
pub look_conf : (w : Work) → (look_for_fdu w).confirmed ≡ w.confirmed
unfolding send_next send_waiting transmit_ad
look_conf w = look_ways (λ v. v.confirmed ≡ w.confirmed) w refl (λ u e. refl) (λ o r e. refl)

pub length_places : (s : List Fdu) (x c : ℕ) → length (places s x c) ≡ c
length_places s x zero = refl
length_places s x (suc c) = ap suc (length_places s (advanced x 1) c)

-- a clear word that reports the next number to send
began : Word → Fop → Work
began w f = begin (some FopEvent.E2) [] w.nr f

cleared : Word → Fop → Work
cleared w f = perform CancelTimer (perform RemoveAcknowledgedFrames (began w f))

clear_cell : (v : Work) (s : State) → serves s ≡ true
    → perform_cell (cell78 (table78 FopEvent.E2) s) v
    ≡ on_fop (set_state S1 (look_for_fdu (perform CancelTimer (perform RemoveAcknowledgedFrames v))).fop)
    (look_for_fdu (perform CancelTimer (perform RemoveAcknowledgedFrames v)))
unfolding perform_cell perform_all perform table78
clear_cell v =
    in_serving (λ s. perform_cell (cell78 (table78 FopEvent.E2) s) v
    ≡ on_fop (set_state S1 (look_for_fdu (perform CancelTimer (perform RemoveAcknowledgedFrames v))).fop)
    (look_for_fdu (perform CancelTimer (perform RemoveAcknowledgedFrames v)))) refl refl

clear_is : (w : Word) (f : Fop) → serves f.state ≡ true → w.lockout ≡ false → w.wait ≡ false → w.retransmit ≡ false
    → offset w.nr f.numbers.nnr ≡ offset f.numbers.vs f.numbers.nnr → 0 < offset f.numbers.vs f.numbers.nnr
    → fop_word w f ≡ on_fop (set_state S1 (look_for_fdu (cleared w f)).fop) (look_for_fdu (cleared w f))
unfolding fop_word word_event fop_do cleared began
clear_is w f s a b c e p =
    rw (
      a,
      b,
      c,
      e,
      le-ltb (offset f.numbers.vs f.numbers.nnr) (offset f.numbers.vs f.numbers.nnr) (omega arith),
      eq-eqb (offset f.numbers.vs f.numbers.nnr) (offset f.numbers.vs f.numbers.nnr) refl,
      ne_eqb (offset f.numbers.vs f.numbers.nnr) 0 (omega arith),
    )
    (clear_cell (begin (some FopEvent.E2) [] w.nr f) f.state s)

cleared_conf : (w : Word) (f : Fop) → (cleared w f).confirmed ≡ acknowledged f.numbers.nnr w.nr f.queues.sent_queue
unfolding cleared perform remove_acknowledged began
cleared_conf w f = refl

none_marked : (q : List Entry) → length (fdus q) ≡ 0 → first_marked q ≡ none
none_marked [] e = refl
none_marked (x ∷ q) e = absurd (omega arith)

cleared_sends : (w : Word) (f : Fop) (o : List ℕ) → f.out.ad ≡ true → f.queues.wait_queue ≡ some o
    → length (fdus (unacknowledged f.numbers.nnr w.nr f.queues.sent_queue)) ≡ 0
    → offset f.numbers.vs w.nr < f.preset.k → (look_for_fdu (cleared w f)).frames ≡ AD (record { ns = f.numbers.vs; octets = o }) ∷ []
unfolding cleared perform remove_acknowledged began
cleared_sends w f o a e l k = look_new (cleared w f) o a (none_marked (unacknowledged f.numbers.nnr w.nr f.queues.sent_queue) l) k e

module _ (set : Settings) (vw : Within set) (σ : Session) (I : Inv set σ) (sv : serves σ.fop.state ≡ true) (w : Word) (ws : List Word) (lent : ℕ)
    (comes : σ.words ≡ w ∷ ws) (r : needed set.own (word_arrives (word_octets set.own w)) σ.fop ≤ lent)
    (c1 : w.lockout ≡ false) (c2 : w.wait ≡ false) (c3 : w.retransmit ≡ false) (nr : w.nr ≡ next_number set (history_of σ)) where
  wd : Wds set.n (length σ.confirmed) (length σ.accepted) (w ∷ ws)
  wd = rw comes at I.words

  come_is : step set (word_in lent) σ ≡ answered set.n (fop_word w σ.fop) (channels σ.frames ws σ)
  come_is = word_step set vw σ I w ws lent comes r

  new_is : offset w.nr σ.fop.numbers.nnr ≡ offset σ.fop.numbers.vs σ.fop.numbers.nnr
  new_is = ap (λ (v : ℕ). offset v σ.fop.numbers.nnr) (nr ∙ sym (lv set σ I (served σ.fop.state sv)).is_vs)

  answer_is : 0 < length σ.sent - length σ.confirmed
      → fop_word w σ.fop ≡ on_fop (set_state S1 (look_for_fdu (cleared w σ.fop)).fop) (look_for_fdu (cleared w σ.fop))
  answer_is p = clear_is w σ.fop sv c1 c2 c3 new_is (omega (arith, p, off_is set σ I (served σ.fop.state sv)))

  acked_is : (acknowledged σ.fop.numbers.nnr w.nr σ.fop.queues.sent_queue ≡ take (offset w.nr σ.fop.numbers.nnr) (fdus σ.fop.queues.sent_queue))
      × (fdus (unacknowledged σ.fop.numbers.nnr w.nr σ.fop.queues.sent_queue) ≡ drop (offset w.nr σ.fop.numbers.nnr) (fdus σ.fop.queues.sent_queue))
  acked_is =
      acked set σ I (served σ.fop.state sv) wd.0 w.nr wd.2 wd.1 (wds_le set.n wd.0 (length σ.accepted) ws wd.4)

  conf_all : 0 < length σ.sent - length σ.confirmed → length (step set (word_in lent) σ).confirmed ≡ length σ.sent
  unfolding answered channels
  conf_all p =
      let ln = queue_length (length σ.confirmed) σ.sent [] (fdus σ.fop.queues.sent_queue) (lv set σ I (served σ.fop.state sv)).cut in
      let e : (fop_word w σ.fop).confirmed ≡ take (offset w.nr σ.fop.numbers.nnr) (fdus σ.fop.queues.sent_queue) =
      ap (λ (x : Work). x.confirmed) (answer_is p) ∙ look_conf (cleared w σ.fop) ∙ cleared_conf w σ.fop ∙ acked_is.0 in
      let le : length (fop_word w σ.fop).confirmed ≡ length σ.sent - length σ.confirmed =
      ap length e ∙ length-take (offset w.nr σ.fop.numbers.nnr) (fdus σ.fop.queues.sent_queue)
      ∙ omega (arith, new_is, off_is set σ I (served σ.fop.state sv), ln) in
      ap (λ (x : Session). length x.confirmed) come_is ∙ length-append σ.confirmed _
      ∙ ap (λ (x : ℕ). length σ.confirmed + x) (length_places _ _ _ ∙ le) ∙ omega (arith, I.base)

  pub clears_all : (i : ℕ) → IsOutstanding (history_of σ) i → member i (step set (word_in lent) σ).confirmed ≡ true
  clears_all i o =
      let from : length σ.confirmed ≤ i = out_from set σ I (served σ.fop.state sv) i o in
      let J : Inv set (step set (word_in lent) σ) = step_keeps set vw (word_in lent) σ refl I in
      let l = conf_all (omega (arith, from, o.0)) in
      ap (member i) J.places ∙ member_in i 0 (length (step set (word_in lent) σ).confirmed) (omega arith) (omega (arith, l, o.0))

  pub clears_sends : (o : List ℕ) → 0 < length (outstanding (history_of σ)) → σ.fop.out.ad ≡ true → σ.fop.queues.wait_queue ≡ some o
      → Sent (next_unit set (history_of σ) o) σ (step set (word_in lent) σ)
  unfolding answered channels
  clears_sends o p a e =
      let p' : 0 < length σ.sent - length σ.confirmed = omega (arith, p, out_count set σ I (served σ.fop.state sv)) in
      let l = lv set σ I (served σ.fop.state sv) in
      let ln = queue_length (length σ.confirmed) σ.sent [] (fdus σ.fop.queues.sent_queue) l.cut in
      let pk : σ.fop.preset.k ≡ set.k = ap (λ (x : Preset). x.k) I.is_set in
      let z : length (fdus (unacknowledged σ.fop.numbers.nnr w.nr σ.fop.queues.sent_queue)) ≡ 0 =
      ap length acked_is.1 ∙ length-drop (offset w.nr σ.fop.numbers.nnr) (fdus σ.fop.queues.sent_queue)
      ∙ omega (arith, ln, new_is, off_is set σ I (served σ.fop.state sv)) in
      let s = next_sends set σ I (served σ.fop.state sv) (fop_word w σ.fop) o
      (ap (λ (x : Work). x.frames) (answer_is p') ∙ cleared_sends w σ.fop o a e z (omega (arith, l, nr, vw.window_least, pk))) in
      rw come_is (record { down = s.down; counted = s.counted })
