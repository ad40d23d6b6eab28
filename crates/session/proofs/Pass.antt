-- P, a pass that ends (`passes`): from rest, a pass of legal units sends all of them, in order, with the next numbers; all of them are
-- accepted, all that is sent is confirmed, and it is at rest again. So of all ends that do as the tables say, in six events for each unit
-- (`pass_length`); the start is at rest (`start_rests`). Ends that hand nothing down have no such pass (`refuted_passes`).
--
-- A pass is rounds of one unit (Round, on the table machines). The ends' run and the tables' run over the same list are one run of the table
-- machines (`through`).
use mathlib.Core.Path.{◌≡◌, refl, sym, ap, ◌∙◌}
use mathlib.Core.Bool.{true}
use mathlib.Core.List.{List, [], ◌∷◌, ◌++◌, map, append-nil, append_assoc}
use mathlib.Core.Option.{some}
use Prim.Native.Nat.{ℕ, ◌*◌}
use native.Mathlib.Omega.{arith}
use lib.ListN.{length, length-append}
use lib.Seq.{take-length}
use Rattle.base.specs.Modulo.{advanced}
use Rattle.fop.specs.Units.{Fdu, legal, written, word_octets}
use Rattle.farm.specs.declared.Variables.{Variables}
use Rattle.receiver.specs.declared.Receiver.{Receiver}
use Rattle.session.specs.Ends.{Settings, Within, Ends, Tied, tables, start_sender, start_receiver}
use Rattle.session.specs.Session.{Linked, Event, begins}
use Rattle.session.specs.Session as ses
use Rattle.session.specs.Claims.{units_at, next_number}
use Rattle.session.specs.Beyond.{Rest, Passed, pass_of, pass, numbered, all_legal}
use Rattle.session.specs.Suspension.{rejects}
use Rattle.session.proofs.Suspended.{none_reject, none_first, admitted}
use Rattle.fop.proofs.Choices.{and_both}
use Rattle.session.proofs.Core.{Session, step}
use Rattle.session.proofs.Lists.{iota, units_iota}
use Rattle.session.proofs.Inv.{Inv}
use Rattle.session.proofs.Receiver.{step_keeps, begun, start_inv}
use Rattle.session.proofs.Buffers.{Stocked, stock_keeps}
use Rattle.session.proofs.Next.{history_of}
use Rattle.session.proofs.Link.{Rel, at_start_lem, same_step, tables_tied}
use Rattle.session.proofs.Round.{run, Resting, level, round}
use Rattle.session.proofs.Trace.{computing, settings}
use Rattle.session.proofs.Refuted.{never_sends}

-- six events for each unit
pub pass_length : (os : List (List ℕ)) → length (pass os) ≡ 6 * length os
pass_length [] = refl
pass_length (o ∷ os) = omega (arith, pass_length os)

-- in a pass there is no reject of the lower layer
pub none_rejects : (os : List (List ℕ)) → none_reject (pass os) ≡ true
none_rejects [] = refl
none_rejects (o ∷ os) = none_rejects os

-- a list without one keeps the invariant, and what is known of the buffers
pub keeps : (set : Settings) → Within set → (es : List Event) (κ : Session) → none_reject es ≡ true → Inv set κ → Stocked set κ → Inv set (run set es κ) × Stocked set (run set es κ)
unfolding run
keeps set vw [] κ n I b = (I, b)
keeps set vw (e ∷ es) κ n I b =
    let q = none_first e es n in
    keeps set vw es (step set e κ) q.1 (step_keeps set vw e κ (admitted (rejects e) κ.fop q.0) I) (stock_keeps set vw e κ I b)

-- a session of tied ends over a list of events is a session of the table machines
pub through : (set : Settings) (vw : Within set) (m : Ends) (t : Tied set m) (es : List Event) (σ : Linked m) (κ : Session)
    → none_reject es ≡ true → Rel set vw m t σ κ → Inv set κ → Rel set vw m t (ses.run set m es σ) (run set es κ)
unfolding ses.run run
through set vw m t [] σ κ n R I = R
through set vw m t (e ∷ es) σ κ n R I =
    let q = none_first e es n in
    let a = admitted (rejects e) κ.fop q.0 in
    through set vw m t es (ses.step set m e σ) (step set e κ) q.1 (same_step set vw m t e σ κ a R I) (step_keeps set vw e κ a I)

-- after a pass of the units os, which led from κ to τ
record Rounds (set : Settings) (os : List (List ℕ)) (κ τ : Session) : Type 0 where
  sent : τ.sent ≡ κ.sent ++ numbered (next_number set (history_of κ)) os
  accepted : τ.accepted ≡ κ.accepted ++ numbered (next_number set (history_of κ)) os
  rest : Resting set τ

-- a history of one unit more, and then of those after it
one_then : (x y : ℕ) (l before after : List Fdu) (o : List ℕ) (os : List (List ℕ)) → before ≡ l ++ (record { ns = x; octets = o } ∷ [])
    → y ≡ advanced x 1 → after ≡ before ++ numbered y os → after ≡ l ++ numbered x (o ∷ os)
one_then x y l before after o os e n q =
    q ∙ ap (λ (z : ℕ). before ++ numbered z os) n ∙ ap (λ (z : List Fdu). z ++ numbered (advanced x 1) os) e
    ∙ append_assoc l (record { ns = x; octets = o } ∷ []) (numbered (advanced x 1) os)

-- the number after one unit more
next_after : (n : ℕ) (s : List Fdu) (u : Fdu) → advanced n (length (s ++ (u ∷ []))) ≡ advanced (advanced n (length s)) 1
next_after n s u = omega (arith, length-append s (u ∷ []))

rounds : (set : Settings) → Within set → (os : List (List ℕ)) (κ : Session) → Inv set κ → Stocked set κ → Resting set κ → all_legal os ≡ true
    → Rounds set os κ (run set (pass os) κ)
unfolding run
rounds set vw [] κ I b r g = record { sent = sym (append-nil κ.sent); accepted = sym (append-nil κ.accepted); rest = r }
rounds set vw (o ∷ os) κ I b r g =
    let l = and_both (legal o) (all_legal os) g in
    let first = round set vw κ I b r o l.0 in
    let k = keeps set vw (pass_of o) κ refl I b in
    let more = rounds set vw os (run set (pass_of o) κ) k.0 k.1 first.rest l.1 in
    let x : next_number set (history_of (run set (pass_of o) κ)) ≡ advanced (next_number set (history_of κ)) 1 =
    ap (λ (s : List Fdu). advanced set.n (length s)) first.sent ∙ next_after set.n κ.sent _ in
    record {
      sent = one_then _ _ κ.sent _ _ o os first.sent x more.sent;
      accepted = one_then _ _ κ.accepted _ _ o os first.accepted x more.accepted;
      rest = more.rest;
    }

-- at rest all that is sent is confirmed
all_confirmed : (set : Settings) (κ : Session) → Inv set κ → Resting set κ → units_at κ.sent κ.confirmed ≡ map some κ.sent
all_confirmed set κ I r =
    let c = (level set κ I r).confirmed in
    ap (units_at κ.sent) (I.places ∙ ap (iota 0) c) ∙ units_iota κ.sent 0 (length κ.sent) (omega arith) ∙ ap (map some) (take-length κ.sent)

-- nothing under way, as octets and as it is read
none_mapped : {A B : Type 0} (f : A → B) (l : List A) → map f l ≡ [] → l ≡ []
none_mapped f [] e = refl
none_mapped f (x ∷ l) e = absurd (omega (arith, ap length e))

module _ (set : Settings) (vw : Within set) (m : Ends) (t : Tied set m) (σ : Linked m) (γ : Linked (tables set)) (κ : Session)
    (R : Rel set vw m t σ κ) (G : Rel set vw (tables set) (tables_tied set) γ κ) where
  -- FARM-1's variables of the tables' session
  farm_is : γ.receiver.farm.channel.variables ≡ κ.farm
  farm_is = ap (λ (x : Receiver). x.farm.channel.variables) G.farm

  -- both sessions are at rest where that of the table machines is, and the other way
  resting : Rest set σ γ → Resting set κ
  resting r =
      record {
        active = rw G.fop at r.active;
        sent_queue = rw G.fop at r.sent_queue;
        wait_queue = rw G.fop at r.wait_queue;
        ready = rw G.fop at r.ready;
        stopped = rw G.fop at r.stopped;
        frames = none_mapped (written set.own) κ.frames (sym R.frames ∙ r.frames);
        words = none_mapped (word_octets set.own) κ.words (sym R.words ∙ r.words);
        opened = ap (λ (v : Variables). v.state) (sym farm_is) ∙ r.opened;
        lockout = ap (λ (v : Variables). v.lockout) (sym farm_is) ∙ r.lockout;
        wait = ap (λ (v : Variables). v.wait) (sym farm_is) ∙ r.wait;
        retransmit = ap (λ (v : Variables). v.retransmit) (sym farm_is) ∙ r.retransmit;
        free = rw R.history at r.free;
      }

  rests : Resting set κ → Rest set σ γ
  rests r =
      record {
        active = rw G.fop r.active;
        sent_queue = rw G.fop r.sent_queue;
        wait_queue = rw G.fop r.wait_queue;
        ready = rw G.fop r.ready;
        stopped = rw G.fop r.stopped;
        frames = R.frames ∙ ap (map (written set.own)) r.frames;
        words = R.words ∙ ap (map (word_octets set.own)) r.words;
        opened = ap (λ (v : Variables). v.state) farm_is ∙ r.opened;
        lockout = ap (λ (v : Variables). v.lockout) farm_is ∙ r.lockout;
        wait = ap (λ (v : Variables). v.wait) farm_is ∙ r.wait;
        retransmit = ap (λ (v : Variables). v.retransmit) farm_is ∙ r.retransmit;
        free = rw R.history r.free;
      }

-- P, of all ends that do as the tables say
pub passes : (set : Settings) (vw : Within set) (m : Ends) (t : Tied set m) (σ : Linked m) (γ : Linked (tables set)) (κ : Session)
    → Rel set vw m t σ κ → Rel set vw (tables set) (tables_tied set) γ κ → Inv set κ
    → Rest set σ γ → (os : List (List ℕ)) → all_legal os ≡ true
    → Passed set os σ (ses.run set m (pass os) σ) (ses.run set (tables set) (pass os) γ)
passes set vw m t σ γ κ R G I r os g =
    let p = rounds set vw os κ I R.stock (resting set vw m t σ γ κ R G r) g in
    let J = (keeps set vw (pass os) κ (none_rejects os) I R.stock).0 in
    let S = through set vw m t (pass os) σ κ (none_rejects os) R I in
    let H = through set vw (tables set) (tables_tied set) (pass os) γ κ (none_rejects os) G I in
    record {
      events = pass_length os;
      sent = rw (S.history, R.history) p.sent;
      accepted = rw (S.history, R.history) p.accepted;
      confirmed = rw S.history (all_confirmed set (run set (pass os) κ) J p.rest);
      rest = rests set vw m t _ _ (run set (pass os) κ) S H p.rest;
    }

-- the start is at rest, of any ends
pub start_rests : (set : Settings) → Within set → (m : Ends) → Rest set (begins m) (begins (tables set))
unfolding begins start_sender start_receiver
start_rests set vw m =
    record {
      active = refl;
      sent_queue = refl;
      wait_queue = refl;
      ready = refl;
      stopped = refl;
      frames = refl;
      words = refl;
      opened = refl;
      lockout = refl;
      wait = refl;
      retransmit = refl;
      free = omega (arith, vw.buffers_least);
    }

-- so from the start every list of legal units has such a pass, of all ends that do as the tables say
pub passes_from_start : (set : Settings) → Within set → (m : Ends) → Tied set m → (os : List (List ℕ)) → all_legal os ≡ true
    → Passed set os (begins m) (ses.run set m (pass os) (begins m)) (ses.run set (tables set) (pass os) (begins (tables set)))
passes_from_start set vw m t os g =
    passes set vw m t (begins m) (begins (tables set)) (begun set) (at_start_lem set vw m t) (at_start_lem set vw (tables set) (tables_tied set)) (start_inv set vw)
    (start_rests set vw m) os g

-- ends whose sender queues and never sends: a pass of one unit from the start is refuted
abbrev set : Settings
set = settings 3 2 1 3

abbrev seven : List (List ℕ)
seven = (7 ∷ []) ∷ []

pub refuted_passes : Passed set seven (begins never_sends) (ses.run set never_sends (pass seven) (begins never_sends))
    (ses.run set (tables set) (pass seven) (begins (tables set))) → ⊥
unfolding computing
refuted_passes c = omega (arith, ap length c.sent)
