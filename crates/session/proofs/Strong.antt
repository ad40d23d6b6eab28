-- The stronger claims of all tied ends. What an event of the session hands down is a unit sent and not confirmed (Handed), by an event that
-- leaves the sender serving (Serving); a word makes the count confirmed exact (Exact); alerts and refusals are in Answered, that of a word in
-- Words, what is outstanding in Standing. Each is said of the tables' session and carried to the ends' by Link.
use mathlib.Core.Logic.{◌⊎◌, inl, inr}
use mathlib.Core.Path.{◌≡◌, refl, sym, ap, ◌∙◌, subst}
use mathlib.Core.Bool.{Bool, true, false}
use mathlib.Core.List.{List, [], ◌∷◌, ◌++◌, map, map-append}
use mathlib.Core.Option.{Option, some}
use Prim.Native.Nat.{ℕ, ◌+◌, ◌≤◌, ◌<◌}
use native.Mathlib.Omega.{arith}
use lib.ListN.{length, get_or}
use Rattle.base.specs.Modulo.{advanced}
use Rattle.fop.specs.Units.{Fdu, Frame, AD, BD, Word, valid, written, word_octets, read_word}
use Rattle.fop.specs.declared.State.{State}
use Rattle.fop.specs.declared.State.TheVariants.{S1, S2, S3, S4, S5, S6}
use Rattle.fop.specs.declared.Event.{Event as FopEvent}
use Rattle.fop.specs.Variables.{Fop, Work}
use Rattle.fop.specs.Effective.{effective, is_suspended}
use Rattle.fop.specs.Machine.{fdus}
use Rattle.fop.specs.Events.{fop_tick, first, when, fop_ad, fop_bd, fop_lower, fop_directive, directive_event, is_empty, lower_event, is_reject, word_event, seen}
use Rattle.fop.specs.Events.{fop_word, SenderEvent, request_ad, request_bd, lower, directive, word_arrives, work}
use Rattle.fop.specs.Answers.{octets_down, Answer, judged, needed, sender_answer}
use Rattle.session.specs.Frames.{read}
use Rattle.session.specs.Ends.{Settings, Within, Ends, Brought, Tied, tables}
use Rattle.session.specs.Session.{Linked, History, Event, ad_request, bd_request, word_in, frame_in, begins, run, no_unit}
use Rattle.session.specs.Claims.{units_at, outstanding, IsOutstanding, next_number, Resends, Marked}
use Rattle.session.specs.Stronger.{units_of, somes, in_service, InSession, Stronger, Sub}
use Rattle.fop.specs.Events as fop
use Rattle.session.specs.Session as ses
use Rattle.fop.proofs.Test.{lowered, tick_ways}
use Rattle.session.proofs.Suspended.{effective_is, admitted}
use Rattle.session.proofs.Rows.{mode_of, row_any, any, word_ok, timer_ok, suspending_ok, ad_ok, bd_ok, lower_ok, terminate_ok, resume_ok}
use Rattle.session.proofs.Inv.{Inv, with_fop, timed, fit, legal_of, ad_keeps, bd_keeps, ticks_keeps, lower_keeps, terminate_keeps, resume_keeps}
use Rattle.session.proofs.Inv.{word_keeps, in_mode}
use Rattle.session.proofs.Core.{Session, goes, add_all}
use Rattle.session.proofs.Chan.{wds_le}
use Rattle.session.proofs.Values.{word, unit, nothing, live}
use Rattle.session.proofs.Bds.{bd_part}
use Rattle.session.proofs.Next.{history_of, live_of, live_in, word_step}
use Rattle.session.proofs.Arrive.{expedites, accepts_bd_lem}
use Rattle.session.proofs.Asks.{responds, starts, asks}
use Rattle.session.proofs.Link.{Rel, reads_of, word_is, same_step, tables_tied, reads, fly_reads, Reads}
use Rattle.fop.proofs.Choices.{none_some}
use Rattle.session.proofs.Few.{work_few}
use Rattle.session.proofs.Handed.{From, row_from, is_handed_lem}
use Rattle.session.proofs.Keys.{Tidy}
use Rattle.session.proofs.Tidy.{start_tidy}
use Rattle.session.proofs.Theorem.{oldest_frame, word_comes, either, looked}
use Rattle.session.proofs.Channels.{link_tidy, link_once}
use Rattle.session.proofs.Linked.{from_start, as_demanded, unrejected_demanded}
use Rattle.session.proofs.Standing.{initial_denied, all_units, at_most, standing, queued, states_are, suspended_in_lem, opens}
use Rattle.session.proofs.Once.{Run, Once, work_once, start_once}
use Rattle.session.proofs.Serving.{NoAd, Serving, ad_serving, bd_serving, tick_serving, reject_none, lower_serving, directive_serving, word_serving}
use Rattle.session.proofs.Exact.{exact}
use Rattle.session.proofs.Clear.{length_places}
use Rattle.session.proofs.Core as core
use Rattle.receiver.specs.declared.Receiver.{Receiver}
use Rattle.session.specs.Receiver.{release_buffer}
use Rattle.fop.specs.Units.{read_word, valid}
use lib.ListN.{length-append}
use Rattle.session.specs.Claims.{serves}
use Rattle.session.specs.Channels.{LinkEvent, demanded, negative_window, link_run}
use Rattle.session.specs.Suspension.{unrejected, link_unrejected}
use Rattle.session.proofs.Words.{word_refusal_lem}
use Rattle.session.proofs.Answered as A

module _ (set : Settings) (vw : Within set) (m : Ends) (t : Tied set m) (σ : Linked m) (γ : Linked (tables set)) (κ : Session)
    (R : Rel set vw m t σ κ) (G : Rel set vw (tables set) (tables_tied set) γ κ) (I : Inv set κ) (Q : Tidy set.n κ)
    (O : set.limit ≡ 1 → Once κ.fop) where
  by : (P : History → Type 0) → P (history_of κ) → P σ.history
  by P h = subst P (sym R.history) h

  st_is : γ.sender.state ≡ κ.fop.state
  st_is = ap (λ (f : Fop). f.state) G.fop

  ss_is : κ.fop.suspend_state ≡ γ.sender.suspend_state
  ss_is = ap (λ (f : Fop). f.suspend_state) (sym G.fop)

  effective_as : in_service (effective γ.sender) ≡ true → in_service (effective κ.fop) ≡ true
  effective_as e = ap (λ (f : Fop). in_service (effective f)) (sym G.fop) ∙ e

  answer_is : (e : SenderEvent) → Brought e → (lent : ℕ) → m.answer e lent σ.sender ≡ sender_answer set.own e lent κ.fop
  answer_is = A.answer_is set vw m t σ γ κ R G I Q

  -- each AD frame of the list is a unit sent, not confirmed
  abbrev SentFrom : List Frame → Type 0
  SentFrom fr = From (mode_of (effective κ.fop)) (length κ.confirmed) (add_all set.n κ.sent fr) fr

  tick_from : SentFrom (fop_tick κ.fop).frames
  tick_from =
      tick_ways (row_any nothing) timer_ok (λ w. SentFrom w.frames) κ.fop (λ b. suspending_ok)
      (λ e t. row_from set (with_fop (lowered κ.fop) κ) (timed set _ _ κ I) nothing (length κ.confirmed) e [] 0 (any nothing e t) (omega arith) tt) tt

  -- what an event of the session hands down reads back, and is such a list
  abbrev GivenBy : SenderEvent → Type 0
  GivenBy e = Reads (work set.own e κ.fop).frames × SentFrom (work set.own e κ.fop).frames

  given_by : (e : SenderEvent) (lent : ℕ) → InSession σ.words e → goes set.own e lent κ.fop ≡ true → GivenBy e
  unfolding work judged fop_ad fop_bd fop_lower fop_directive directive_event fop_word core.word_come core.channels
  given_by (request_ad o) lent h g = (
    reads_of set (request_ad o) lent κ g (ad_keeps set lent o κ I),
    row_from set κ I unit (length κ.confirmed) (first (when (is_empty κ.fop.queues.wait_queue) FopEvent.E19 ∷ []) FopEvent.E20) o 0
        (any unit _ (ad_ok (is_empty κ.fop.queues.wait_queue))) (omega arith) (legal_of o (fit set.own (request_ad o) lent κ.fop g).0),
  )
  given_by (request_bd o) lent h g = (
    reads_of set (request_bd o) lent κ g (bd_keeps set lent o κ I),
    row_from set κ I unit (length κ.confirmed) (first (when κ.fop.out.bd FopEvent.E21 ∷ []) FopEvent.E22) o 0 (any unit _ (bd_ok κ.fop.out.bd))
        (omega arith) (legal_of o (fit set.own (request_bd o) lent κ.fop g).0),
  )
  given_by fop.tick lent h g = (reads_of set fop.tick lent κ g (ticks_keeps set lent κ I), tick_from)
  given_by (lower l) lent h g = by (is_reject l) refl
    where
      by : (b : Bool) → is_reject l ≡ b → GivenBy (lower l)
      by true q = subst (λ (fs : List Frame). Reads fs × SentFrom fs) (sym (reject_none l κ.fop q)) (tt, tt)
      by false q =
          let a = admitted (is_reject l) κ.fop q in (
            reads_of set (lower l) lent κ g (lower_keeps set lent l κ a I),
            row_from set κ I nothing (length κ.confirmed) (lower_event l) [] 0 (lower_ok l κ.fop a) (omega arith) tt,
          )
  given_by (directive d v) lent (inl h) g =
      let g' : goes set.own (directive 5 v) lent κ.fop ≡ true = subst (λ (x : ℕ). goes set.own (directive x v) lent κ.fop ≡ true) h g in
      subst (λ (x : ℕ). GivenBy (directive x v)) (sym h) (
        reads_of set (directive 5 v) lent κ g' (terminate_keeps set v lent κ I),
        row_from set κ I nothing (length κ.confirmed) FopEvent.E29 [] v (any nothing FopEvent.E29 terminate_ok) (omega arith) tt,
      )
  given_by (directive d v) lent (inr h) g =
      let g' : goes set.own (directive 6 v) lent κ.fop ≡ true = subst (λ (x : ℕ). goes set.own (directive x v) lent κ.fop ≡ true) h g in
      subst (λ (x : ℕ). GivenBy (directive x v)) (sym h) (
        reads_of set (directive 6 v) lent κ g' (resume_keeps set v lent κ I),
        row_from set κ I nothing (length κ.confirmed) (directive_event 6 v κ.fop) [] v (resume_ok v κ.fop (in_mode set κ I) I.suspension.outside)
            (omega arith) tt,
      )
  given_by (word_arrives s) lent h g =
      let l = A.oldest_read set vw m t σ γ κ R G I Q s h.0 h.1 in
      let wd = l.4 in
      let g' : goes set.own (word_arrives (word_octets set.own l.0)) lent κ.fop
      ≡ true = subst (λ (x : List ℕ). goes set.own (word_arrives x) lent κ.fop ≡ true) l.3 g in (
        subst (λ (x : List ℕ). Reads (work set.own (word_arrives x) κ.fop).frames) (sym l.3)
            (reads_of set (word_arrives (word_octets set.own l.0)) lent (core.channels κ.frames l.1 κ) g' (word_keeps set vw lent κ (l.0 ∷ l.1) I wd)),
        subst (λ (w : Work). SentFrom w.frames) (sym l.5)
            (row_from set κ I word wd.0 (word_event (seen l.0 κ.fop)) [] l.0.nr (any word _ (word_ok (seen l.0 κ.fop))) wd.2
            (wd.1, wds_le set.n wd.0 _ l.1 wd.4)),
      )

  -- the next new unit, or an outstanding one
  abbrev Handed : Fdu → Type 0
  Handed u = (u.ns ≡ advanced set.n (length κ.sent)) ⊎ ((i : ℕ) × IsOutstanding (history_of κ) i × (u ≡ get_or κ.sent i no_unit))

  -- the frame whose octets are read as the AD unit u is u's, and the only one
  down_is : (fr : List Frame) (o : List ℕ) (u : Fdu) → length fr ≤ 1 → Reads fr → octets_down set.own fr ≡ some o → read set.own o ≡ AD u
      → fr ≡ AD u ∷ []
  down_is [] o u l r e q = absurd (none_some e)
  down_is (x ∷ []) o u l r e q =
      let a : written set.own x ≡ o = cc in
      ap (λ (y : Frame). y ∷ []) (sym (reads set vw x r.0) ∙ ap (read set.own) a ∙ q)
  down_is (x ∷ y ∷ fr) o u l r e q = absurd (omega arith)

  handed : (e : SenderEvent) (lent : ℕ) → InSession σ.words e → (o : List ℕ) (u : Fdu)
      → (m.answer e lent σ.sender).down ≡ some o → read set.own o ≡ AD u
      → Handed u
  handed e lent h o u d q =
      A.answer_ways set vw m t σ γ κ R G I Q (λ a. a.down ≡ some o → Handed u) e (A.brought σ.words e h) lent
      (λ g x. let k = given_by e lent h g in
      is_handed_lem set κ I u (subst SentFrom (down_is (work set.own e κ.fop).frames o u (work_few set.own e κ.fop) k.0 x q) k.1))
      (λ x. absurd (none_some x)) d

  -- at a limit of 1, the next new unit: an AD frame has the number V(S), and is handed down only in service, where V(S) is the next to send
  live_serves : (s : State) → mode_of s ≡ live → in_service s ≡ true
  live_serves S1 e = refl
  live_serves S2 e = refl
  live_serves S3 e = refl
  live_serves S4 e = let z : ◌≡◌ {A = ℕ} 0 1 = cc in absurd (omega arith)
  live_serves S5 e = let z : ◌≡◌ {A = ℕ} 0 1 = cc in absurd (omega arith)
  live_serves S6 e = let z : ◌≡◌ {A = ℕ} 0 1 = cc in absurd (omega arith)

  once : set.limit ≡ 1 → (e : SenderEvent) (lent : ℕ) → InSession σ.words e → (o : List ℕ) (u : Fdu)
      → (m.answer e lent σ.sender).down ≡ some o → read set.own o ≡ AD u → u.ns ≡ advanced set.n (length κ.sent)
  once l e lent h o u d q =
      A.answer_ways set vw m t σ γ κ R G I Q (λ a. a.down ≡ some o → u.ns ≡ advanced set.n (length κ.sent)) e (A.brought σ.words e h) lent
      (λ g x.
      let k = given_by e lent h g in
      let w = work set.own e κ.fop in
      let f : w.frames ≡ AD u ∷ [] = down_is w.frames o u (work_few set.own e κ.fop) k.0 x q in
      let r : Run κ.fop.numbers.vs (AD u ∷ []) w.fop.numbers.vs = subst (λ (fs : List Frame). Run κ.fop.numbers.vs fs w.fop.numbers.vs) f (work_once set.own σ.words e κ.fop h (O l)).1 in
      let s : SentFrom (AD u ∷ []) = subst SentFrom f k.1 in
      r.0 ∙ (live_of (effective κ.fop) set.n _ _ _ _ _ _ (live_serves (effective κ.fop) s.0.0) I.side).is_vs)
      (λ x. absurd (none_some x)) d

  -- only an event that leaves the sender active or resending without wait hands an AD frame down
  work_serving : (e : SenderEvent) → InSession σ.words e → Serving (work set.own e κ.fop)
  unfolding work
  work_serving (request_ad o) h = ad_serving κ.fop (in_mode set κ I) o
  work_serving (request_bd o) h = bd_serving κ.fop (in_mode set κ I) o
  work_serving fop.tick h = tick_serving κ.fop (in_mode set κ I)
  work_serving (lower l) h = lower_serving κ.fop (in_mode set κ I) l
  work_serving (directive d v) h = directive_serving κ.fop (in_mode set κ I) d v h
  work_serving (word_arrives s) h =
      let l = A.oldest_read set vw m t σ γ κ R G I Q s h.0 h.1 in
      subst Serving (sym l.5) (word_serving κ.fop (in_mode set κ I) l.0)

  serving_only_lem : (e : SenderEvent) (lent : ℕ) → InSession σ.words e → (o : List ℕ) (u : Fdu)
      → (m.answer e lent σ.sender).down ≡ some o → read set.own o ≡ AD u → serves (m.answer e lent σ.sender).state ≡ true
  serving_only_lem e lent h o u d q =
      A.answer_ways set vw m t σ γ κ R G I Q (λ a. a.down ≡ some o → serves a.state ≡ true) e (A.brought σ.words e h) lent (λ g x. by_serving (work_serving e h) g x)
      (λ x. absurd (none_some x)) d
    where
      by_serving : Serving (work set.own e κ.fop) → goes set.own e lent κ.fop ≡ true
          → octets_down set.own (work set.own e κ.fop).frames ≡ some o → serves (work set.own e κ.fop).fop.state ≡ true
      by_serving (inl n) g x =
          absurd (subst NoAd (down_is (work set.own e κ.fop).frames o u (work_few set.own e κ.fop) (given_by e lent h g).0 x q) n)
      by_serving (inr k) g x = k

  -- a word makes the count confirmed what it reports
  exactly : (s : List ℕ) (ws : List (List ℕ)) (w : Word) (lent : ℕ) → σ.words ≡ s ∷ ws → read_word set.own s ≡ valid w
      → needed set.own (word_arrives s) γ.sender ≤ lent → in_service γ.sender.state ≡ true
      → w.nr ≡ advanced set.n (length (ses.step set m (word_in lent) σ).history.confirmed)
  unfolding core.answered core.channels
  exactly s ws w lent e q r sv =
      let x = word_comes set vw m _ _ σ γ κ (looked set vw m t σ γ κ R G I) I s ws w lent e q r in
      let c : length (ses.step set m (word_in lent) σ).history.confirmed ≡ length κ.confirmed + length (fop_word w κ.fop).confirmed =
      ap (λ (h : History). length h.confirmed) (same_step set vw m t (word_in lent) σ κ refl R I).history
      ∙ ap (λ (y : Session). length y.confirmed) (word_step set vw κ I w x.0 lent x.1 x.2)
      ∙ length-append κ.confirmed _ ∙ ap (λ (y : ℕ). length κ.confirmed + y) (length_places _ _ _) in
      exact set κ I Q (ap in_service (sym st_is) ∙ sv) w x.0 x.1 ∙ ap (advanced set.n) (sym c)

  stronger : Stronger set m σ γ
  unfolding core.step
  stronger =
      record {
        at_most_k = by (λ h. length (outstanding h) ≤ set.k) (at_most set κ I);
        standing = λ e. by (λ h. units_at h.sent (h.confirmed ++ somes (outstanding h)) ≡ map some h.sent)
            (standing set κ I (effective_as e));
        queue = λ e. ap (λ (f : Fop). fdus f.queues.sent_queue) G.fop ∙ by (λ h. fdus κ.fop.queues.sent_queue ≡ units_of h.sent (outstanding h))
            (queued set κ I (effective_as e));
        undenied = λ e. by (λ h. h.denied ≡ []) (live_in set κ I (effective_as e)).fresh;
        initial = λ e z. by (λ h. units_at h.sent (h.confirmed ++ h.denied) ≡ map some h.sent)
            (ap (λ (x : List (Option ℕ)). units_at κ.sent (κ.confirmed ++ x)) (initial_denied set κ I (effective κ.fop) I.side (effective_is κ.fop (ss_is ∙ z) ∙ sym st_is ∙ e)) ∙ all_units set κ I);
        states = subst (λ (s : State). (in_service s ≡ true) ⊎ (s ≡ S6)) (sym st_is) (states_are set κ I);
        suspends = subst (λ (f : Fop). is_suspended f ≡ true → (f.state ≡ S6) × (in_service (effective f) ≡ true)) (sym G.fop) (suspended_in_lem set κ I);
        unsuspended = λ z. sym ss_is ∙ I.suspension.alerting z;
        responds = λ o lent g r a b c d k.
            ap (λ (x : Answer). x.responses) (answer_is (request_ad o) tt lent)
            ∙ responds set κ I o lent g (subst (λ (f : Fop). needed set.own (request_ad o) f ≤ lent) G.fop r) (rw G.fop at a)
            (rw G.fop at b) (rw G.fop at c) (rw G.fop at d) (rw R.history at k);
        starts = λ o lent g r a b c d k.
            ap (λ (f : Fop). f.clock.timer) (same_step set vw (tables set) (tables_tied set) (ad_request o lent) γ κ refl G I).fop
            ∙ starts set κ I o lent g (subst (λ (f : Fop). needed set.own (request_ad o) f ≤ lent) G.fop r) (rw G.fop at a) (rw G.fop at b)
            (rw G.fop at c) (rw G.fop at d) (rw R.history at k);
        asks = λ s ws w i lent e q r a k l b c d f o.
            let x = word_comes set vw m _ _ σ γ κ (looked set vw m t σ γ κ R G I) I s ws w lent e q r in
            by (λ h. Resends set (get_or h.sent i no_unit) σ (ses.step set m (word_in lent) σ)
            ⊎ Marked (get_or h.sent i no_unit) (ses.step set (tables set) (word_in lent) γ).sender)
            (either set vw m _ _ σ γ κ (looked set vw m t σ γ κ R G I) I (word_in lent) refl
            (same_step set vw (tables set) (tables_tied set) (word_in lent) γ κ refl G I).fop i
            (asks set vw κ I w x.0 i lent x.1 x.2 (rw G.fop at a) (rw G.fop at k) l b c d (rw R.history at f) (rw R.history at o)));
        handed = λ e lent h o u d q.
            by (λ y. (u.ns ≡ next_number set y) ⊎ ((i : ℕ) × IsOutstanding y i × (u ≡ get_or y.sent i no_unit))) (handed e lent h o u d q);
        once = λ l e lent h o u d q. by (λ y. u.ns ≡ next_number set y) (once l e lent h o u d q);
        serving_only = serving_only_lem;
        exact = exactly;
        opens = λ b. ap (λ (f : Receiver). f.farm.channel.variables.state) G.farm
            ∙ opens set κ I κ.farm.state I.receiver.unlocked R.stock.full (rw R.history at b);
        in_order_bd = by (λ h. Sub h.accepted_bd h.sent_bd) (bd_part κ.accepted_bd κ.sent_bd κ.frames I.bd);
        expedited = λ o lent g r b.
            let x = expedites set κ o lent g (subst (λ (f : Fop). needed set.own (request_bd o) f ≤ lent) G.fop r) (rw G.fop at b) in
            let n = same_step set vw m t (bd_request o lent) σ κ refl R I in (
              n.frames ∙ ap (map (written set.own)) x.0 ∙ map-append (written set.own) κ.frames (BD o ∷ [])
                  ∙ ap (λ (l : List (List ℕ)). l ++ (written set.own (BD o) ∷ [])) (sym R.frames),
              ap (λ (h : History). h.sent_bd) n.history ∙ x.1 ∙ ap (λ (h : History). h.sent_bd ++ (o ∷ [])) (sym R.history),
            );
        accepts_bd = λ s fs o e q.
            let l = oldest_frame set vw κ.frames s fs (BD o) (fly_reads set.n _ κ.sent I.base.num _ _ κ.frames I.base.fly)
            (sym e ∙ R.frames) q in
            ap (λ (h : History). h.accepted_bd) (same_step set vw m t frame_in σ κ refl R I).history ∙ accepts_bd_lem set κ o l.0 l.1
            ∙ ap (λ (h : History). h.accepted_bd ++ (o ∷ [])) (sym R.history);
        word_alert = A.word_alert_lem set vw m t σ γ κ R G I Q;
        alerts = A.alerts set vw m t σ γ κ R G I Q;
        notified = A.notified set vw m t σ γ κ R G I Q;
        notifies = A.notifies set vw m t σ γ κ R G I Q;
        refusals = A.refusals set vw m t σ γ κ R G I Q;
        frame_refusal = A.frame_refusal_lem set vw m t σ γ κ R G I Q;
        release_refusal = by (λ h.
            (((m.answer_receiver release_buffer σ.receiver).refusal ≡ 0) × (h.released < length h.accepted))
            ⊎ (((m.answer_receiver release_buffer σ.receiver).refusal ≡ 13) × (h.released ≡ length h.accepted))) (A.release_refusal_lem set vw m t
            σ γ κ R G I Q);
        word_refusal = word_refusal_lem set vw m σ κ R.history (word_is set vw m t σ κ R I) I;
      }

-- the stronger claims over channels that repeat and noise: after every list of events in which no lower-layer reject comes while suspended, and at
-- whatever event of demand 3 comes next
pub stronger_linked : (set : Settings) → Within set → (m : Ends) → Tied set m → (kept : ℕ) → kept ≤ negative_window set → (es : List LinkEvent)
    → link_unrejected set kept es (begins (tables set)) ≡ true
    → Stronger set m (link_run set kept m es (begins m)) (link_run set kept (tables set) es (begins (tables set)))
stronger_linked set vw m t kept most es u =
    let k = from_start set vw m t kept most (λ κ. Tidy set.n κ × (set.limit ≡ 1 → Once κ.fop))
    (λ e κ a I x. (link_tidy set vw kept most e κ a I x.0, λ l. link_once set vw kept most e κ (x.1 l))) (start_tidy set, start_once set vw.count_least) es u in
    stronger set vw m t _ _ k.session k.ends k.of_tables k.inv k.also.0 k.also.1

-- and so over demand 3's events
pub stronger_claims : (set : Settings) → Within set → (m : Ends) → Tied set m → (es : List Event) → unrejected set es (begins (tables set)) ≡ true
    → Stronger set m (run set m es (begins m)) (run set (tables set) es (begins (tables set)))
stronger_claims set vw m t es u =
    as_demanded set m (Stronger set m) es
    (stronger_linked set vw m t 0 (omega arith) (map demanded es) (unrejected_demanded set 0 es (begins (tables set)) ∙ u))
