-- What an answer's responses come to in the ledger (`HeardAs`): by the cases of the flow law, and where the event is refused. The number of an accepted
-- unit is read from the frame handed down, which reads back as written.
use mathlib.Core.Path.{◌≡◌, refl, sym, ap, ◌∙◌, ap₂}
use mathlib.Core.Bool.{Bool, true, false, false≢true}
use mathlib.Core.List.{List, [], ◌∷◌, ◌++◌, map, map-append, append-nil}
use mathlib.Core.Option.{Option, none, some}
use Prim.Native.Nat.{ℕ, ◌+◌, ◌≤◌}
use native.Mathlib.Omega.{arith}
use lib.Dec.{eqb}
use lib.ListN.{length}
use borrow.Author.Tests.{eq-eqb}
use Rattle.base.specs.Choice.{pick}
use Rattle.base.specs.Limits.{largest_spacecraft, largest_channel}
use Rattle.fop.specs.Limits.{largest_number}
use Rattle.fop.specs.Units.{Fdu, Frame, AD, Own, legal, written}
use Rattle.fop.specs.declared.Response.TheVariants.{RejectDirective}
use Rattle.fop.specs.Variables.{Fop}
use Rattle.fop.specs.Events.{SenderEvent, request_ad, request_bd, tick, lower, directive, word_arrives}
use Rattle.fop.specs.Answers.{Answer, octets_down, judged, refused}
use Rattle.fop.proofs.Choices.{unrefused}
use Rattle.session.proofs.Octets.{ad_back}
use Rattle.ledger.specs.Ledger.{Turn, Ledger, Heard, accepts, rejects, hear, heard_at, number_down, number_of, accepted_now}
use Rattle.ledger.specs.Accounted.{is_request, unit_at, fdus_at, waiting_in}
use Rattle.ledger.proofs.Flow.{Accepts, Rejects, Asks, silent, waits, offer_rejected, offer_accepted, waiting_rejected, waiting_accepted}
use Rattle.ledger.proofs.AccountsLists.{weight, weight_append, unit_stays, unit_last, units_stay, none_waits, one_waits, AllOffered}

-- what is heard at a turn, where the ledger before it is l: the units accepted are `new`, and what waits is on the Wait_Queue w
pub record HeardAs (own : Own) (ts : List Turn) (l : Ledger) (t : Turn) (w : Option (List ℕ)) (new : List Fdu) : Type 0 where
  pub heard : Heard
  pub is : heard_at t.event t.answer l ≡ heard
  pub weighed : (g : Option ℕ → ℕ) → weight g heard.rejected + (weight g heard.accepted + weight g (map some heard.left))
      ≡ weight g (map some l.waiting) + pick (is_request t.event) (g (some l.turns)) 0
  pub news : fdus_at (ts ++ (t ∷ [])) (accepted_now (number_down own t.answer.down) heard.accepted) ≡ map some new
  pub waits : map (unit_at (ts ++ (t ∷ []))) heard.left ≡ waiting_in w

-- at an event that is no AD request the responses speak of the unit waiting
other_heard : (e : SenderEvent) (a : Answer) (l : Ledger) → is_request e ≡ false → heard_at e a l ≡ hear a.responses l.waiting
other_heard (request_ad o) a l q = absurd (false≢true (sym q))
other_heard (request_bd o) a l q = refl
other_heard tick a l q = refl
other_heard (lower x) a l q = refl
other_heard (directive d v) a l q = refl
other_heard (word_arrives s) a l q = refl

-- an AD request that is not refused: what the responses say of the unit offered
offer_heard : (o : List ℕ) (a : Answer) (l : Ledger) (k : Heard) → a.refusal ≡ 0 → hear a.responses (l.turns ∷ []) ≡ k
    → heard_at (request_ad o) a l ≡ record { accepted = k.accepted; rejected = k.rejected; left = l.waiting ++ k.left }
offer_heard o a l k z h =
    let refused : Heard = record { accepted = accepts a.responses (some l.turns); rejected = some l.turns ∷ rejects a.responses (some l.turns); left = [] } in
    ap (λ (x : Heard). record { accepted = x.accepted; rejected = x.rejected; left = l.waiting ++ x.left })
    (ap (λ (r : ℕ). pick (eqb r 0) (hear a.responses (l.turns ∷ [])) refused) z ∙ h)

module _ (own : Own) (ts : List Turn) (l : Ledger) (counted : l.turns ≡ length ts) (there : AllOffered ts (map some l.waiting)) where
  -- the unit waiting stays what it is
  waiting_stays : (t : Turn) (w : Option (List ℕ)) → map (unit_at ts) l.waiting ≡ waiting_in w → map (unit_at (ts ++ (t ∷ []))) l.waiting ≡ waiting_in w
  waiting_stays t w h = units_stay ts (t ∷ []) l.waiting there ∙ h

  -- nothing is offered, and nothing is said
  heard_nothing : (t : Turn) (w : Option (List ℕ)) → is_request t.event ≡ false → map (unit_at ts) l.waiting ≡ waiting_in w
      → heard_at t.event t.answer l ≡ record { accepted = []; rejected = []; left = l.waiting } → HeardAs own ts l t w []
  heard_nothing t w q h e = record {
    heard = record { accepted = []; rejected = []; left = l.waiting };
    is = e;
    weighed = λ g. rw q (omega arith);
    news = refl;
    waits = waiting_stays t w h;
  }

  -- the unit offered is rejected, by a response or by a number
  heard_rejected : (o : List ℕ) (a : Answer) (w : Option (List ℕ)) → map (unit_at ts) l.waiting ≡ waiting_in w
      → heard_at (request_ad o) a l ≡ record { accepted = []; rejected = some l.turns ∷ []; left = l.waiting ++ [] }
      → HeardAs own ts l (record { event = request_ad o; answer = a }) w []
  heard_rejected o a w h e = record {
    heard = record { accepted = []; rejected = some l.turns ∷ []; left = l.waiting ++ [] };
    is = e;
    weighed = λ g. rw (append-nil l.waiting) (omega arith);
    news = refl;
    waits = rw (append-nil l.waiting) (waiting_stays (record { event = request_ad o; answer = a }) w h);
  }

  -- a refusal
  pub refused_heard : (e : SenderEvent) (r : ℕ) (f : Fop) → eqb r 0 ≡ false → map (unit_at ts) l.waiting ≡ waiting_in f.queues.wait_queue
      → HeardAs own ts l (record { event = e; answer = refused r f }) f.queues.wait_queue []
  refused_heard e r f z h = go e
    where
      silence : (b : Bool) → hear (pick b (RejectDirective ∷ []) []) l.waiting ≡ record { accepted = []; rejected = []; left = l.waiting }
      silence true = refl
      silence false = refl

      none_accepted : (b : Bool) → accepts (pick b (RejectDirective ∷ []) []) (some l.turns) ≡ []
      none_accepted true = refl
      none_accepted false = refl

      none_rejected : (b : Bool) → rejects (pick b (RejectDirective ∷ []) []) (some l.turns) ≡ []
      none_rejected true = refl
      none_rejected false = refl

      other : (e : SenderEvent) → is_request e ≡ false → HeardAs own ts l (record { event = e; answer = refused r f }) f.queues.wait_queue []
      other e q =
          heard_nothing (record { event = e; answer = refused r f }) f.queues.wait_queue q h (other_heard e (refused r f) l q ∙ silence (eqb r 12))

      go : (e : SenderEvent) → HeardAs own ts l (record { event = e; answer = refused r f }) f.queues.wait_queue []
      go (request_ad o) = heard_rejected o (refused r f) f.queues.wait_queue h (rw z (ap₂ (λ (a rs : List (Option ℕ)).
          record { accepted = a; rejected = some l.turns ∷ rs; left = l.waiting ++ [] }) (none_accepted (eqb r 12)) (none_rejected (eqb r 12))))
      go (request_bd o) = other (request_bd o) refl
      go tick = other tick refl
      go (lower x) = other (lower x) refl
      go (directive d v) = other (directive d v) refl
      go (word_arrives s) = other (word_arrives s) refl

  -- the unit waiting is rejected
  heard_waiting_rejected : (e : SenderEvent) (a : Answer) (i : ℕ) → is_request e ≡ false → l.waiting ≡ i ∷ [] → Rejects a.responses
      → HeardAs own ts l (record { event = e; answer = a }) none []
  heard_waiting_rejected e a i q one s = record {
    heard = record { accepted = []; rejected = some i ∷ []; left = [] };
    is = other_heard e a l q ∙ ap (hear a.responses) one ∙ s (i ∷ []);
    weighed = λ g. rw (q, one) (omega arith);
    news = refl;
    waits = refl;
  }

  module _ (sc : own.spacecraft ≤ largest_spacecraft) (ch : own.channel ≤ largest_channel) where
    -- the number of an AD frame, as it is read from its octets
    number_is : (u : Fdu) (d : Option (List ℕ)) → d ≡ some (written own (AD u)) → u.ns ≤ largest_number → legal u.octets ≡ true
        → number_down own d ≡ some u.ns
    number_is u d e b g = rw e (ap number_of (ad_back own sc ch u g (omega arith)))

    -- a unit accepted, whose octets were offered at the place i
    sent_is : (t : Turn) (i : ℕ) (u : Fdu) → t.answer.down ≡ some (written own (AD u)) → u.ns ≤ largest_number → legal u.octets ≡ true
        → unit_at (ts ++ (t ∷ [])) i ≡ u.octets
        → fdus_at (ts ++ (t ∷ [])) (accepted_now (number_down own t.answer.down) (some i ∷ [])) ≡ map some (u ∷ [])
    sent_is t i u e b g o =
        rw (number_is u t.answer.down e b g) (ap (λ (x : List ℕ). some (record { ns = u.ns; octets = x }) ∷ []) o)

    -- the unit waiting is accepted
    heard_waiting_accepted : (e : SenderEvent) (a : Answer) (i : ℕ) (u : Fdu) → is_request e ≡ false → l.waiting ≡ i ∷ [] → Accepts a.responses → unit_at ts i ≡ u.octets
        → a.down ≡ some (written own (AD u)) → u.ns ≤ largest_number → legal u.octets ≡ true
        → HeardAs own ts l (record { event = e; answer = a }) none (u ∷ [])
    heard_waiting_accepted e a i u q one s o d b g =
        let t : Turn = record { event = e; answer = a } in
        record {
          heard = record { accepted = some i ∷ []; rejected = []; left = [] };
          is = other_heard e a l q ∙ ap (hear a.responses) one ∙ s (i ∷ []);
          weighed = λ g. rw (q, one) (omega arith);
          news =
              sent_is t i u d b g (unit_stays ts (t ∷ []) i (there i (rw (one, eq-eqb i i refl) (omega arith))) ∙ o);
          waits = refl;
        }

    -- an answer that is no refusal, by the cases of the flow law
    pub asked_heard : (e : SenderEvent) (a : Answer) (w w' : Option (List ℕ)) (fs : List Frame) (new : List Fdu) → Asks e w w' a.responses fs new
        → map (unit_at ts) l.waiting ≡ waiting_in w → ((o : List ℕ) → w ≡ some o → legal o ≡ true) → a.refusal ≡ 0 → a.down ≡ octets_down own fs
        → judged own e ≡ 0 → HeardAs own ts l (record { event = e; answer = a }) w' new
    unfolding judged
    asked_heard e a w w' fs new (silent q s) h g z d j =
        heard_nothing (record { event = e; answer = a }) w q h (other_heard e a l q ∙ s l.waiting)
    asked_heard e a w w' fs new (waits {o} s) h g z d j =
        let t : Turn = record { event = request_ad o; answer = a } in
        record {
          heard = record { accepted = []; rejected = []; left = l.waiting ++ (l.turns ∷ []) };
          is = offer_heard o a l _ z (s (l.turns ∷ []));
          weighed = λ g.
              rw (map-append some l.waiting (l.turns ∷ []), weight_append g (map some l.waiting) (some l.turns ∷ [])) (omega arith);
          news = refl;
          waits = rw (none_waits ts l.waiting h, counted) (ap (λ (x : List ℕ). x ∷ []) (unit_last ts t));
        }
    asked_heard e a w w' fs new (offer_rejected {o} s) h g z d j = heard_rejected o a w h (offer_heard o a l _ z (s (l.turns ∷ [])))
    asked_heard e a w w' fs new (offer_accepted {o} {n} b s) h g z d j =
        let t : Turn = record { event = request_ad o; answer = a } in
        record {
          heard = record { accepted = some l.turns ∷ []; rejected = []; left = l.waiting ++ [] };
          is = offer_heard o a l _ z (s (l.turns ∷ []));
          weighed = λ g. rw (append-nil l.waiting) (omega arith);
          news =
              sent_is t l.turns (record { ns = n; octets = o }) d b (unrefused (legal o) 9 j) (ap (unit_at (ts ++ (t ∷ []))) counted ∙ unit_last ts t);
          waits = rw (append-nil l.waiting, none_waits ts l.waiting h);
        }
    asked_heard e a w w' fs new (waiting_rejected {o = o} q s) h g z d j =
        let one = one_waits ts l.waiting o h in
        heard_waiting_rejected e a one.0 q one.1 s
    asked_heard e a w w' fs new (waiting_accepted {o = o} {n = n} q b s) h g z d j =
        let one = one_waits ts l.waiting o h in
        heard_waiting_accepted e a one.0 (record { ns = n; octets = o }) q one.1 s one.2 d b (g o refl)
