-- Demand 3 of the table machines, at whatever event comes next: a unit offered, the lower layer ready, the timer's expiry.
use mathlib.Core.Logic.{◌≢◌, ◌⊎◌, inl, inr}
use mathlib.Core.Path.{◌≡◌, refl, sym, ap, ◌∙◌}
use mathlib.Core.Bool.{Bool, true, false, false≢true}
use mathlib.Core.List.{List, [], ◌∷◌, ◌++◌}
use mathlib.Core.Option.{Option, none, some}
use Prim.Native.Nat.{ℕ, zero, suc, ◌+◌, ◌-◌, ◌≤◌, ◌<◌}
use native.Mathlib.Omega.{arith}
use lib.Dec.{ltb, eqb}
use lib.ListN.{length, take, drop, get_or}
use borrow.Author.Tests.{lt-ltb, eq-eqb, ltb-true, ltb-false, eqb-true, eqb-false}
use Rattle.base.specs.Choice.{pick}
use Rattle.base.specs.Modulo.{advanced, offset}
use Rattle.fop.specs.Units.{Fdu, AD, Word, legal, word_octets}
use Rattle.fop.specs.declared.State.{State}
use Rattle.fop.specs.declared.State.TheVariants.{S1, S2, S3, S4, S5, S6}
use Rattle.fop.specs.declared.Action.TheVariants.{AddToWaitQueue, AdOutReady, InitiateAdRetransmission}
use Rattle.fop.specs.declared.Event.{Event as FopEvent}
use Rattle.fop.specs.Table.{table78, cell78}
use Rattle.fop.specs.Variables.{Fop, Work, Entry, Preset, begin}
use Rattle.fop.specs.Effective.{effective_of, effective}
use Rattle.fop.specs.Machine.{fdus, first_marked, acknowledged, unacknowledged, mark_all, fop_do, perform_cell, perform_all, perform, look_for_fdu, send_next}
use Rattle.fop.specs.Variables.{set_state, on_fop}
use Rattle.fop.specs.Machine.{send_waiting, transmit_ad}
use Rattle.fop.specs.declared.Lower.TheVariants.{AdAccept}
use Rattle.fop.specs.Events.{fop_ad, fop_lower, fop_tick, fop_expiry, SenderEvent, request_ad}
use Rattle.fop.specs.Events.{lower, word_arrives, work, fop_word}
use Rattle.fop.specs.Answers.{judged, needed}
use Rattle.session.specs.Ends.{Settings, Within}
use Rattle.session.specs.Session.{History, ad_request, ticks, lower_says, word_in, no_unit}
use Rattle.session.specs.Claims.{IsOutstanding, outstanding, remaining, member, next_unit, serves, Marked}
use Rattle.session.specs.Stronger.{in_service}
use Rattle.fop.specs.Events as fop
use Rattle.fop.proofs.Test.{lowered}
use Rattle.session.proofs.Core.{step_with, Session, answered, channels, word_come, sender, step}
use Rattle.session.proofs.Lists.{nums, length_nums, left_iota, member_in, member_out}
use Rattle.session.proofs.Chan.{Wds}
use Rattle.session.proofs.Values.{Live, live, word, same_sent, new_sent, queue_length, queue_at}
use Rattle.session.proofs.Rows.{mode_of}
use Rattle.session.proofs.Queue.{found}
use Rattle.session.proofs.Sender.{acks}
use Rattle.session.proofs.Inv.{Inv, Side, bounds_of, enter, goes_is, word_read, fine}

-- the histories; the invariant says that the receiver never locks out
abbrev pub history_of : Session → History
history_of σ =
    record {
      sent = σ.sent;
      accepted = σ.accepted;
      confirmed = σ.confirmed;
      denied = σ.denied;
      released = σ.released;
      locked_out = false;
      sent_bd = σ.sent_bd;
      accepted_bd = σ.accepted_bd;
    }

-- u is sent for the first time
pub record Sent (u : Fdu) (σ τ : Session) : Type 0 where
  pub down : τ.frames ≡ σ.frames ++ (AD u ∷ [])
  pub counted : τ.sent ≡ σ.sent ++ (u ∷ [])

-- u is sent again
pub record Resent (u : Fdu) (σ τ : Session) : Type 0 where
  pub down : τ.frames ≡ σ.frames ++ (AD u ∷ [])
  pub counted : τ.sent ≡ σ.sent
  pub place : ℕ
  pub out : IsOutstanding (history_of σ) place
  pub is : u ≡ get_or σ.sent place no_unit

-- a fact in the states that serve: S1 and S2
pub in_serving : (P : State → Type 0) → P S1 → P S2 → (s : State) → serves s ≡ true → P s
in_serving P a b S1 e = a
in_serving P a b S2 e = b
in_serving P a b S3 e = absurd (false≢true e)
in_serving P a b S4 e = absurd (false≢true e)
in_serving P a b S5 e = absurd (false≢true e)
in_serving P a b S6 e = absurd (false≢true e)

-- they are in service
pub served : (s : State) → serves s ≡ true → in_service s ≡ true
served = in_serving (λ s. in_service s ≡ true) refl refl

-- a sender is live where its effective state is in service, and so where its state is
pub live_of : (s : State) (n C : ℕ) (sent : List Fdu) (gone : List (Option ℕ)) (q : List Fdu) (vs nn : ℕ) → in_service s ≡ true
    → Side (mode_of s) n C sent gone q vs nn → Live n C gone sent [] [] q vs nn
live_of S1 n C sent gone q vs nn e h = h
live_of S2 n C sent gone q vs nn e h = h
live_of S3 n C sent gone q vs nn e h = h
live_of S4 n C sent gone q vs nn e h = absurd h
live_of S5 n C sent gone q vs nn e h = absurd h
live_of S6 n C sent gone q vs nn e h = absurd (false≢true e)

pub serves_as : (s : State) (n : ℕ) → in_service s ≡ true → effective_of s n ≡ s
serves_as S1 n e = refl
serves_as S2 n e = refl
serves_as S3 n e = refl
serves_as S4 n e = refl
serves_as S5 n e = refl
serves_as S6 n e = absurd (false≢true e)

-- what is outstanding, of a live sender
pub out_is : (set : Settings) (σ : Session) → Inv set σ → σ.denied ≡ [] → outstanding (history_of σ)
    ≡ nums (length σ.confirmed) (length σ.sent - length σ.confirmed)
unfolding outstanding
out_is set σ I f =
    let a : 0 + (length σ.confirmed - 0) ≡ length σ.confirmed = omega arith in
    let b : length σ.sent - (length σ.confirmed - 0) ≡ length σ.sent - length σ.confirmed = omega arith in
    rw f (ap (λ (l : List (Option ℕ)). remaining l [] 0 (length σ.sent)) I.places ∙ left_iota (length σ.confirmed) 0 (length σ.sent) ∙ rw (a, b))

-- a sender in service, or suspended there, is live
pub live_in : (set : Settings) (σ : Session) → Inv set σ → in_service (effective σ.fop) ≡ true
    → Live set.n (length σ.confirmed) σ.denied σ.sent [] [] (fdus σ.fop.queues.sent_queue) σ.fop.numbers.vs σ.fop.numbers.nnr
live_in set σ I e = live_of (effective σ.fop) set.n _ _ _ _ _ _ e I.side

module _ (set : Settings) (σ : Session) (I : Inv set σ) (sv : in_service σ.fop.state ≡ true) where
  pub lv : Live set.n (length σ.confirmed) σ.denied σ.sent [] [] (fdus σ.fop.queues.sent_queue) σ.fop.numbers.vs σ.fop.numbers.nnr
  lv = live_in set σ I (ap in_service (serves_as σ.fop.state σ.fop.suspend_state sv) ∙ sv)

  -- how many are outstanding
  pub out_count : length (outstanding (history_of σ)) ≡ length σ.sent - length σ.confirmed
  out_count = ap length (out_is set σ I lv.fresh) ∙ length_nums _ _

  -- and by the sequence numbers
  pub off_is : offset σ.fop.numbers.vs σ.fop.numbers.nnr ≡ length σ.sent - length σ.confirmed
  off_is = omega (arith, lv, I.base)

  -- an outstanding unit is behind those confirmed
  pub out_from : (i : ℕ) → IsOutstanding (history_of σ) i → length σ.confirmed ≤ i
  out_from i o = go (ltb i (length σ.confirmed)) refl
    where
      go : (t : Bool) → ltb i (length σ.confirmed) ≡ t → length σ.confirmed ≤ i
      go true t = absurd (false≢true (sym o.1 ∙ ap (member i) I.places ∙ member_in i 0 (length σ.confirmed) (omega arith)
          (omega (arith, ltb-true i (length σ.confirmed) t))))
      go false t = ltb-false i (length σ.confirmed) t

  -- a unit of the queue is an outstanding one
  queue_out : (j : ℕ) → j < length (fdus σ.fop.queues.sent_queue) → IsOutstanding (history_of σ) (length σ.confirmed + j)
  queue_out j b =
      let ln = queue_length (length σ.confirmed) σ.sent [] (fdus σ.fop.queues.sent_queue) lv.cut in (
        omega (arith, ln),
        ap (member (length σ.confirmed + j)) I.places
            ∙ member_out (length σ.confirmed + j) 0 (length σ.confirmed) (omega arith),
        rw lv.fresh,
      )

  -- a unit of the queue by its place in Sent
  queue_unit : (j : ℕ) → get_or (fdus σ.fop.queues.sent_queue) j no_unit ≡ get_or σ.sent (length σ.confirmed + j) no_unit
  queue_unit j =
      queue_at (length σ.confirmed) σ.sent [] (fdus σ.fop.queues.sent_queue) lv.cut j ∙ ap (λ (k : ℕ). get_or σ.sent k no_unit) (omega arith)

  -- an outstanding unit by its place in the queue
  out_unit : (i : ℕ) → IsOutstanding (history_of σ) i
      → (i - length σ.confirmed < length (fdus σ.fop.queues.sent_queue))
      × (get_or (fdus σ.fop.queues.sent_queue) (i - length σ.confirmed) no_unit ≡ get_or σ.sent i no_unit)
  out_unit i o =
      let from : length σ.confirmed ≤ i = out_from i o in
      let ln = queue_length (length σ.confirmed) σ.sent [] (fdus σ.fop.queues.sent_queue) lv.cut in (
        omega (arith, ln, from, o.0),
        queue_unit (i - length σ.confirmed) ∙ ap (λ (k : ℕ). get_or σ.sent k no_unit) (omega arith),
      )

  -- the j-th unit of the queue is sent again
  pub resends : (w : Work) (u : Fdu) (j : ℕ) → j < length (fdus σ.fop.queues.sent_queue) → u ≡ get_or (fdus σ.fop.queues.sent_queue) j no_unit → w.frames ≡ AD u ∷ []
      → Resent u σ (answered set.n w σ)
  unfolding answered
  resends w u j b e f =
      let o = queue_out j b in
      let eu : u ≡ get_or σ.sent (length σ.confirmed + j) no_unit = e ∙ queue_unit j in
      record {
        down = rw f;
        counted = rw f (same_sent set.n σ.sent u (length σ.confirmed + j) I.base.num o.0 (omega (arith, I.base)) eu);
        place = length σ.confirmed + j;
        out = o;
        is = eu;
      }

  -- a unit is sent, with the next number
  pub next_sends : (w : Work) (o : List ℕ) → w.frames ≡ AD (record { ns = σ.fop.numbers.vs; octets = o }) ∷ []
      → Sent (next_unit set (history_of σ) o) σ (answered set.n w σ)
  unfolding answered
  next_sends w o e =
      let f : w.frames ≡ AD (next_unit set (history_of σ) o) ∷ [] = e ∙ ap (λ (v : ℕ). AD (record { ns = v; octets = o }) ∷ []) lv.is_vs in
      record { down = rw f; counted = rw f (new_sent set.n σ.sent (next_unit set (history_of σ) o) refl) }

  -- what a word that reports the count a acknowledges
  pub acked : (a v : ℕ) → length σ.confirmed ≤ a → v ≡ advanced set.n a → a ≤ length σ.accepted
      → (acknowledged σ.fop.numbers.nnr v σ.fop.queues.sent_queue ≡ take (offset v σ.fop.numbers.nnr) (fdus σ.fop.queues.sent_queue))
      × (fdus (unacknowledged σ.fop.numbers.nnr v σ.fop.queues.sent_queue) ≡ drop (offset v σ.fop.numbers.nnr) (fdus σ.fop.queues.sent_queue))
  acked a v l e m =
      acks set.n (bounds_of set) (length σ.confirmed) σ.denied σ.accepted σ.sent σ.frames a (begin none [] v σ.fop)
      (enter live set.n (bounds_of set) (length σ.confirmed) σ.accepted σ.sent σ.frames σ.denied (fdus σ.fop.queues.sent_queue)
      σ.fop.numbers.vs σ.fop.numbers.nnr σ.fop.preset word a v σ.fop.queues.wait_queue [] I.base lv l (e, m) I.is_set I.waiting)

  -- the window has room
  pub room_is : length (outstanding (history_of σ)) < set.k → offset σ.fop.numbers.vs σ.fop.numbers.nnr < σ.fop.preset.k
  room_is h = omega (arith, h, out_count, off_is, ap (λ (p : Preset). p.k) I.is_set)

-- an answer that is taken
pub sender_is : (set : Settings) (e : SenderEvent) (lent : ℕ) (σ : Session) → judged set.own e ≡ 0 → needed set.own e σ.fop ≤ lent
    → sender set e lent σ ≡ answered set.n (work set.own e σ.fop) σ
unfolding sender
sender_is set e lent σ j l = rw (goes_is set.own e lent σ.fop j l)

-- the oldest word, as it was reported, and its answer
pub word_step : (set : Settings) → Within set → (σ : Session) → Inv set σ → (w : Word) (ws : List Word) (lent : ℕ) → σ.words ≡ w ∷ ws
    → needed set.own (word_arrives (word_octets set.own w)) σ.fop ≤ lent
    → step set (word_in lent) σ ≡ answered set.n (fop_word w σ.fop) (channels σ.frames ws σ)
unfolding step step_with word_come judged channels
word_step set vw σ I w ws lent comes r =
    let wd : Wds set.n (length σ.confirmed) (length σ.accepted) (w ∷ ws) = rw comes at I.words in
    ap (λ (l : List Word). word_come set lent l σ) comes
    ∙ sender_is set (word_arrives (word_octets set.own w)) lent (channels σ.frames ws σ) (fine set vw w wd.3 (omega (arith, wd.1))) r
    ∙ ap (λ (x : Work). answered set.n x (channels σ.frames ws σ)) (word_read set vw w σ.fop wd.3 (omega (arith, wd.1)))

-- Look for FDU sends the unit waiting, where none is marked and the window has room
look_is : (w : Work) (o : List ℕ) → w.fop.out.ad ≡ true → first_marked w.fop.queues.sent_queue ≡ none → offset w.fop.numbers.vs w.fop.numbers.nnr < w.fop.preset.k
    → w.fop.queues.wait_queue ≡ some o → look_for_fdu w ≡ send_waiting (some o) w
unfolding look_for_fdu send_next
look_is w o a m k e = rw (a, m, lt-ltb _ _ k, e)

pub look_new : (w : Work) (o : List ℕ) → w.fop.out.ad ≡ true → first_marked w.fop.queues.sent_queue ≡ none → offset w.fop.numbers.vs w.fop.numbers.nnr < w.fop.preset.k
    → w.fop.queues.wait_queue ≡ some o → (look_for_fdu w).frames ≡ w.frames ++ (AD (record { ns = w.fop.numbers.vs; octets = o }) ∷ [])
unfolding send_waiting transmit_ad
look_new w o a m k e = ap (λ (v : Work). v.frames) (look_is w o a m k e)

-- and where a unit is marked
pub look_again : (w : Work) (u : Fdu) → w.fop.out.ad ≡ true → first_marked w.fop.queues.sent_queue ≡ some u → (look_for_fdu w).frames ≡ w.frames ++ (AD u ∷ [])
unfolding look_for_fdu send_next
look_again w u a m = rw (a, m)

-- an AD unit is offered, and sent at once
unfoldable pub sent_at_once : List ℕ → Fop → Work
sent_at_once o f = send_waiting (some o) (perform AddToWaitQueue (begin (some FopEvent.E19) o 0 f))

pub ad_is : (o : List ℕ) (f : Fop) → f.state ≡ S1 → f.out.ad ≡ true → f.queues.wait_queue ≡ none → first_marked f.queues.sent_queue ≡ none
    → offset f.numbers.vs f.numbers.nnr < f.preset.k → fop_ad o f ≡ on_fop (set_state S1 (sent_at_once o f).fop) (sent_at_once o f)
unfolding fop_ad fop_do perform_cell perform_all perform table78 sent_at_once
ad_is o f s a w m k = rw (w, s) (ap (λ (v : Work). on_fop (set_state S1 v.fop) v) (look_is _ o a m k refl))

pub offers : (set : Settings) (σ : Session) → Inv set σ → (o : List ℕ) (lent : ℕ) → legal o ≡ true → needed set.own (request_ad o) σ.fop ≤ lent
    → σ.fop.state ≡ S1 → σ.fop.out.ad ≡ true → σ.fop.queues.wait_queue ≡ none → first_marked σ.fop.queues.sent_queue ≡ none
    → length (outstanding (history_of σ)) < set.k
    → Sent (next_unit set (history_of σ) o) σ (step set (ad_request o lent) σ)
unfolding step step_with work judged sent_at_once send_waiting transmit_ad perform
offers set σ I o lent g r s a w m k =
    let sv : in_service σ.fop.state ≡ true = rw s in
    let j : judged set.own (request_ad o) ≡ 0 = rw g in
    rw (sender_is set (request_ad o) lent σ j r)
    (next_sends set σ I sv _ o (ap (λ (v : Work). v.frames) (ad_is o σ.fop s a w m (room_is set σ I sv k))))

-- the lower layer comes ready
low_frames : (f : Fop) → serves f.state ≡ true → (fop_lower AdAccept f).frames ≡ (look_for_fdu (perform AdOutReady (begin (some FopEvent.E41) [] 0 f))).frames
unfolding fop_lower fop_do perform_cell perform_all table78 perform
low_frames f =
    in_serving (λ s. (perform_cell (cell78 (table78 FopEvent.E41) s) (begin (some FopEvent.E41) [] 0 f)).frames
    ≡ (look_for_fdu (perform AdOutReady (begin (some FopEvent.E41) [] 0 f))).frames) refl refl f.state

pub ready_again_lem : (set : Settings) (σ : Session) → Inv set σ → (u : Fdu) (lent : ℕ) → needed set.own (lower AdAccept) σ.fop ≤ lent
    → serves σ.fop.state ≡ true → first_marked σ.fop.queues.sent_queue ≡ some u → Resent u σ (step set (lower_says AdAccept lent) σ)
unfolding step step_with work judged perform
ready_again_lem set σ I u lent r sv m =
    let i = found σ.fop.queues.sent_queue u m in
    rw (sender_is set (lower AdAccept) lent σ refl r)
    (resends set σ I (served σ.fop.state sv) _ u i.0 i.1 i.2
    (low_frames σ.fop sv ∙ look_again (perform AdOutReady (begin (some FopEvent.E41) [] 0 σ.fop)) u refl m))

pub ready_new_lem : (set : Settings) (σ : Session) → Inv set σ → (o : List ℕ) (lent : ℕ) → needed set.own (lower AdAccept) σ.fop ≤ lent
    → serves σ.fop.state ≡ true → first_marked σ.fop.queues.sent_queue ≡ none → length (outstanding (history_of σ)) < set.k → σ.fop.queues.wait_queue ≡ some o
    → Sent (next_unit set (history_of σ) o) σ (step set (lower_says AdAccept lent) σ)
unfolding step step_with work judged perform
ready_new_lem set σ I o lent r sv m k w =
    rw (sender_is set (lower AdAccept) lent σ refl r)
    (next_sends set σ I (served σ.fop.state sv) _ o (low_frames σ.fop sv ∙ look_new
    (perform AdOutReady (begin (some FopEvent.E41) [] 0 σ.fop)) o refl m (room_is set σ I (served σ.fop.state sv) k) w))

-- the timer expires
get_d_mark : (q : List Entry) (j : ℕ) → j < length (fdus q)
    → get_or (mark_all q) j (record { fdu = no_unit; marked = false }) ≡ record { fdu = get_or (fdus q) j no_unit; marked = true }
get_d_mark [] j h = absurd (omega arith)
get_d_mark (e ∷ q) zero h = refl
get_d_mark (e ∷ q) (suc j) h = get_d_mark q j (omega arith)

length_mark : (q : List Entry) → length (mark_all q) ≡ length (fdus q)
length_mark [] = refl
length_mark (e ∷ q) = ap suc (length_mark q)

unfoldable pub expired : FopEvent → ℕ → Fop → Work
expired e v f = look_for_fdu (perform InitiateAdRetransmission (begin (some e) [] v f))

-- E16 at Timeout_Type 0, else E104
abbrev expiry : Bool → FopEvent
expiry alerting = pick alerting FopEvent.E16 FopEvent.E104

tick_cell : (b : Bool) (w : Work) (s : State) → serves s ≡ true
    → perform_cell (cell78 (table78 (expiry b)) s) w ≡ on_fop (set_state s (look_for_fdu (perform InitiateAdRetransmission w)).fop)
    (look_for_fdu (perform InitiateAdRetransmission w))
unfolding perform_cell perform_all perform table78
tick_cell true w =
    in_serving (λ s. perform_cell (cell78 (table78 FopEvent.E16) s) w ≡ on_fop (set_state s (look_for_fdu (perform InitiateAdRetransmission w)).fop)
    (look_for_fdu (perform InitiateAdRetransmission w))) refl refl
tick_cell false w =
    in_serving (λ s. perform_cell (cell78 (table78 FopEvent.E104) s) w ≡ on_fop (set_state s (look_for_fdu (perform InitiateAdRetransmission w)).fop)
    (look_for_fdu (perform InitiateAdRetransmission w))) refl refl

abbrev expiry_of : Fop → FopEvent
expiry_of f = expiry (eqb f.preset.timeout_type 0)

tick_is : (f : Fop) → serves f.state ≡ true → f.clock.timer ≡ 1 → f.clock.transmission_count < f.preset.transmission_limit
    → fop_tick f ≡ on_fop (set_state f.state (expired (expiry_of f) 0 (lowered f)).fop) (expired (expiry_of f) 0 (lowered f))
unfolding fop_tick fop_expiry fop_do expired
tick_is f s t c =
    rw (eq-eqb f.clock.timer 1 t, lt-ltb f.clock.transmission_count f.preset.transmission_limit c)
    (tick_cell (eqb f.preset.timeout_type 0) _ f.state s)

expired_off : (x : FopEvent) (v : ℕ) (f : Fop) → f.out.ad ≡ false → ((expired x v f).fop.queues.sent_queue ≡ mark_all f.queues.sent_queue)
    × ((expired x v f).frames ≡ [])
unfolding expired look_for_fdu perform
expired_off x v f a = (rw a, rw a)

expired_on : (x : FopEvent) (v : ℕ) (f : Fop) (e : Entry) (q : List Entry) → f.out.ad ≡ true → f.queues.sent_queue ≡ e ∷ q
    → ((expired x v f).fop.queues.sent_queue ≡ record { fdu = e.fdu; marked = false } ∷ mark_all q) × ((expired x v f).frames ≡ AD e.fdu ∷ [])
unfolding expired look_for_fdu perform send_next
expired_on x v f e q a h = (rw (a, h), rw (a, h))

module _ (set : Settings) (σ : Session) (I : Inv set σ) (sv : in_service σ.fop.state ≡ true) where
  pub ticked : (y : FopEvent) (v : ℕ) (f : Fop) → f.queues.sent_queue ≡ σ.fop.queues.sent_queue → (i : ℕ) (q : List Entry) → σ.fop.queues.sent_queue ≡ q → (w : Work)
      → (w.fop.queues.sent_queue ≡ (expired y v f).fop.queues.sent_queue) → w.frames ≡ (expired y v f).frames → IsOutstanding (history_of σ) i → (b : Bool)
      → f.out.ad ≡ b
      → Resent (get_or σ.sent i no_unit) σ (answered set.n w σ) ⊎ Marked (get_or σ.sent i no_unit) w.fop
  ticked y v f fq i q e w wq wf o false a =
      let j : ℕ = i - length σ.confirmed in
      let u = out_unit set σ I sv i o in
      let qs : w.fop.queues.sent_queue ≡ mark_all σ.fop.queues.sent_queue = wq ∙ (expired_off y v f a).0 ∙ ap mark_all fq in
      inr (record {
        place = j;
        on = rw (qs, length_mark σ.fop.queues.sent_queue) u.0;
        is = rw qs (get_d_mark σ.fop.queues.sent_queue j u.0 ∙ ap (λ (x : Fdu). record { fdu = x; marked = true }) u.1);
      })
  ticked y v f fq i [] e w wq wf o true a = absurd (omega (arith, (out_unit set σ I sv i o).0, ap (λ (x : List Entry). length (fdus x)) e))
  ticked y v f fq i (x ∷ q) e w wq wf o true a = go (eqb i (length σ.confirmed)) refl
    where
      u0 : (i - length σ.confirmed < length (fdus σ.fop.queues.sent_queue))
          × (get_or (fdus σ.fop.queues.sent_queue) (i - length σ.confirmed) no_unit ≡ get_or σ.sent i no_unit)
      u0 = out_unit set σ I sv i o

      u : (i - length σ.confirmed < length (fdus (x ∷ q))) × (get_or (fdus (x ∷ q)) (i - length σ.confirmed) no_unit ≡ get_or σ.sent i no_unit)
      u = rw e at u0

      from : length σ.confirmed ≤ i
      from = out_from set σ I sv i o

      go : (b : Bool) → eqb i (length σ.confirmed) ≡ b → Resent (get_or σ.sent i no_unit) σ (answered set.n w σ)
          ⊎ Marked (get_or σ.sent i no_unit) w.fop
      go true b =
          let z : i - length σ.confirmed ≡ 0 = omega (arith, eqb-true i (length σ.confirmed) b) in
          let ux : x.fdu ≡ get_or σ.sent i no_unit = rw z at u.1 in
          inl (resends set σ I sv w (get_or σ.sent i no_unit) (i - length σ.confirmed) u0.0 (sym u0.1)
          (wf ∙ (expired_on y v f x q a (fq ∙ e)).1 ∙ ap (λ (y : Fdu). AD y ∷ []) ux))
      go false b =
          let ne : i ≢ length σ.confirmed = eqb-false i (length σ.confirmed) b in
          let j : ℕ = i - length σ.confirmed - 1 in
          let z : i - length σ.confirmed ≡ suc (i - length σ.confirmed - 1) = omega (arith, from) in
          let l : i - length σ.confirmed - 1 < length (fdus q) = omega (arith, u.0) in
          let qs : w.fop.queues.sent_queue ≡ record { fdu = x.fdu; marked = false } ∷ mark_all q = wq ∙ (expired_on y v f x q a (fq ∙ e)).0 in
          let ux : get_or (fdus q) j no_unit ≡ get_or σ.sent i no_unit = rw z at u.1 in
          inr (record {
            place = suc j;
            on = rw (qs, length_mark q) (omega arith);
            is = rw qs (get_d_mark q j l ∙ ap (λ (y : Fdu). record { fdu = y; marked = true }) ux);
          })

pub expires : (set : Settings) (σ : Session) → Inv set σ → (i lent : ℕ) → needed set.own fop.tick σ.fop ≤ lent → serves σ.fop.state ≡ true
    → σ.fop.clock.timer ≡ 1 → σ.fop.clock.transmission_count < set.limit → IsOutstanding (history_of σ) i
    → Resent (get_or σ.sent i no_unit) σ (step set (ticks lent) σ) ⊎ Marked (get_or σ.sent i no_unit) (step set (ticks lent) σ).fop
unfolding step step_with work judged answered
expires set σ I i lent r sv t c o =
    let e = tick_is σ.fop sv t (omega (arith, c, ap (λ (p : Preset). p.transmission_limit) I.is_set)) in
    rw (sender_is set fop.tick lent σ refl r)
    (ticked set σ I (served σ.fop.state sv) (expiry_of σ.fop) 0 (lowered σ.fop) refl i σ.fop.queues.sent_queue refl (fop_tick σ.fop)
    (ap (λ (w : Work). w.fop.queues.sent_queue) e) (ap (λ (w : Work). w.frames) e) o σ.fop.out.ad refl)
