-- An event keeps the ledger tied to table 7-8's machine: where it is refused, nothing changes but that a request refused is rejected; where it is done, by
-- the flow law.
use mathlib.Core.Path.{◌≡◌, refl, sym, ap, ap₂, subst, ◌∙◌}
use mathlib.Core.Bool.{false}
use mathlib.Core.List.{List, [], ◌∷◌, ◌++◌, map, map-append, append-nil, append_assoc}
use mathlib.Core.Option.{some}
use Prim.Native.Nat.{ℕ, ◌+◌, ◌≤◌}
use native.Mathlib.Omega.{arith}
use lib.Dec.{eqb}
use lib.ListN.{length, length-append}
use Rattle.base.specs.Limits.{largest_spacecraft, largest_channel}
use Rattle.fop.specs.Units.{Fdu, Own}
use Rattle.fop.specs.Variables.{Fop}
use Rattle.fop.specs.Machine.{fdus}
use Rattle.fop.specs.Events.{SenderEvent, work}
use Rattle.fop.specs.Answers.{judged, answered, refused}
use Rattle.fop.specs.Answers as answers
use Rattle.ledger.specs.Ledger.{Turn, Accepted, Ledger, enter, places, accepted_now, number_down}
use Rattle.ledger.specs.Accounted.{fdus_at}
use Rattle.ledger.proofs.Flow.{Follows, Well, Flow}
use Rattle.ledger.proofs.AccountsLists.{weight_append, offers_append, places_append, settled_append, places_now, fdus_append, fdus_stay}
use Rattle.ledger.proofs.AccountsRuns.{follows_append, Settle, settle}
use Rattle.ledger.proofs.AccountsNumber.{Numbered, nothing_new, new_numbered}
use Rattle.ledger.proofs.AccountsTied.{Tied, back_offered, waiting_offered}
use Rattle.ledger.proofs.AccountsHeard.{HeardAs, refused_heard, asked_heard}

module _ (own : Own) (ts : List Turn) (f : Fop) (l : Ledger) (tied : Tied ts f l) (t : Turn) (g : Fop) (c d new : List Fdu)
    (h : HeardAs own ts l t g.queues.wait_queue new) where
  -- the units accepted at this event
  abbrev news : List Accepted
  news = accepted_now (number_down own t.answer.down) h.heard.accepted

  units_are : fdus f.queues.sent_queue ++ new ≡ (c ++ d) ++ fdus g.queues.sent_queue
      → fdus_at (ts ++ (t ∷ [])) (tied.back ++ news) ≡ map some (c ++ (d ++ fdus g.queues.sent_queue))
  units_are e =
      fdus_append (ts ++ (t ∷ [])) tied.back news
      ∙ ap₂ ◌++◌ (fdus_stay ts (t ∷ []) tied.back (back_offered ts f l tied) ∙ tied.stands) h.news
      ∙ sym (map-append some (fdus f.queues.sent_queue) new) ∙ ap (map some) (e ∙ append_assoc c d (fdus g.queues.sent_queue))

  accepted_are : l.accepted ++ news ≡ tied.front ++ (tied.back ++ news)
  accepted_are = ap (λ (xs : List Accepted). xs ++ news) tied.whole ∙ append_assoc tied.front tied.back news

  settled_so : Settle (ts ++ (t ∷ [])) tied.front (tied.front ++ (tied.back ++ news)) c d (fdus g.queues.sent_queue) → Well g
      → t.answer.confirmed ≡ answers.run_of c → t.answer.denied ≡ answers.run_of d → Tied (ts ++ (t ∷ [])) g (enter own t l)
  unfolding enter
  settled_so s w ec ed = record {
    well = w;
    turns = omega (arith, tied.turns, length-append ts (t ∷ []));
    weighed = λ k.
        let z : 0 + length ts ≡ l.turns = omega (arith, tied.turns) in
        rw (
          h.is,
          weight_append k l.rejected h.heard.rejected,
          places_append l.accepted news,
          places_now (number_down own t.answer.down) h.heard.accepted,
          weight_append k (places l.accepted) h.heard.accepted,
        )
        (omega (arith, tied.weighed k, h.weighed k, rw z at (offers_append k 0 ts t)));
    front = s.front;
    back = s.back;
    whole = rw h.is (accepted_are ∙ s.whole);
    settled = rw (h.is, accepted_are, ec, ed, settled_append l.settled, tied.settled) s.settles;
    stands = s.left;
    waits = rw h.is h.waits;
  }

  pub entered : Well g → t.answer.confirmed ≡ answers.run_of c → t.answer.denied ≡ answers.run_of d
      → fdus f.queues.sent_queue ++ new ≡ (c ++ d) ++ fdus g.queues.sent_queue → Numbered f.numbers.vs new → Tied (ts ++ (t ∷ [])) g (enter own t l)
  entered w ec ed e n =
      let q = fdus f.queues.sent_queue in
      let same : q ++ new ≡ c ++ (d ++ fdus g.queues.sent_queue) = e ∙ append_assoc c d (fdus g.queues.sent_queue) in
      settled_so
      (settle (ts ++ (t ∷ [])) tied.front (tied.back ++ news) c d (fdus g.queues.sent_queue) tied.well.oldest (units_are e)
      (subst (Follows tied.well.oldest) same
      (follows_append q new tied.well.oldest tied.well.oldest_most tied.well.follows (subst (λ (x : ℕ). Follows x new) tied.well.up_to n.follows)))
      (omega (arith, ap length same, length-append q new, tied.well.most, n.most)) tied.well.oldest_most) w ec ed

-- the turn of an event that is refused, and of one that is done
abbrev pub refused_turn : SenderEvent → ℕ → Fop → Turn
refused_turn e r f = record { event = e; answer = refused r f }

abbrev pub done_turn : Own → SenderEvent → Fop → Turn
done_turn own e f = record { event = e; answer = answered own (work own e f) }

module _ (own : Own) (ts : List Turn) (f : Fop) (l : Ledger) (tied : Tied ts f l) (e : SenderEvent) where
  pub refused_step_lem : (r : ℕ) → eqb r 0 ≡ false → Tied (ts ++ (refused_turn e r f ∷ [])) f (enter own (refused_turn e r f) l)
  refused_step_lem r z =
      entered own ts f l tied (refused_turn e r f) f [] [] []
      (refused_heard own ts l tied.turns (waiting_offered ts f l tied) e r f z tied.waits) tied.well refl refl
      (append-nil (fdus f.queues.sent_queue)) (nothing_new f.numbers.vs)

  pub done_step_lem : own.spacecraft ≤ largest_spacecraft → own.channel ≤ largest_channel → judged own e ≡ 0 → Flow e f (work own e f)
      → Tied (ts ++ (done_turn own e f ∷ [])) (work own e f).fop (enter own (done_turn own e f) l)
  done_step_lem sc ch j flow =
      entered own ts f l tied (done_turn own e f) (work own e f).fop (work own e f).confirmed (work own e f).denied flow.new
      (asked_heard own ts l tied.turns (waiting_offered ts f l tied) sc ch e (answered own (work own e f)) _ _ _ flow.new flow.asks tied.waits
      tied.well.waiting_legal refl refl j) flow.well refl refl flow.units (new_numbered own e f flow)
