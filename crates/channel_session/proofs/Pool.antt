-- What is counted of the pool from the answers is what the records hold (`Count`), whatever table event comes: of each channel and of all. So the pool has
-- room exactly while "units accepted on all channels, less the releases that gave one back, are below the pool's size" (`room_free`). An event changes one
-- record (crate channels, proofs/Turns), so it is enough to look at that one and at the sum.
use mathlib.Core.Logic.{◌⊎◌, inl, inr, ⊎_elim, ◌↔◌}
use mathlib.Core.Path.{◌≡◌, refl, sym, ap, ◌∙◌}
use mathlib.Core.Bool.{Bool, true, false, ◌&&◌}
use mathlib.Core.List.{List, [], ◌∷◌, ◌++◌}
use Prim.Native.Nat.{ℕ, suc, ◌+◌}
use native.Mathlib.Omega.{arith}
use borrow.Author.Tests.{eqb-true, eqb-false, eq-eqb, ne_eqb, ltb-true, ltb-false, lt-ltb}
use lib.Dec.{eqb, ltb}
use lib.ListN.{length, set, length-append}
use Rattle.base.specs.Choice.{pick}
use Rattle.base.specs.Octets.{Octets}
use Rattle.farm.specs.Table.{event_number, unit_of}
use Rattle.farm.specs.declared.Event.{Event}
use Rattle.farm.specs.declared.State.{State}
use Rattle.farm.proofs.Units.{unit_cases}
use Rattle.frame.specs.Frame.{refusal_of, kind_of}
use Rattle.frame.specs.declared.Kind.{Kind}
use Rattle.receiver.specs.declared.Channel.{Channel}
use Rattle.receiver.specs.Channel.{event_of, star_of, takes, answered, arrived}
use Rattle.session.specs.Receiver.{handed_out}
use Rattle.channels.specs.Table.{Turn}
use Rattle.channels.specs.Table.{is_in, place_of, held_in, has_room, record_of, nothing, turned, records_after, addressed, frame_turn, release_turn}
use Rattle.channels.specs.Isolation.{named}
use Rattle.channels.proofs.RecordLaws.{own_set, others_set, held_set, place_within}
use Rattle.channels.proofs.Turns.{nothing_after, given_back, FrameCase, unheld, refused, arrives, frame_case, ReleaseCase, absent, none, done, release_case}
use Rattle.channel_session.specs.Ends.{Pool, answer_by}
use Rattle.channel_session.specs.Session.{Counted, times, is_handed, after_frame, after_release, Free}

-- what is counted is what the records hold
pub record Count (cs : List Channel) (p : Counted) : Type 0 where
  pub each : (n : ℕ) → (record_of n cs).held + times n p.given ≡ times n p.accepted
  pub all : held_in cs + length p.given ≡ length p.accepted

-- one more in a list
times_own : (n : ℕ) (l : List ℕ) → times n (l ++ (n ∷ [])) ≡ times n l + 1
times_own n [] = rw (eq-eqb n n refl)
times_own n (c ∷ l) = go (eqb c n) (times_own n l)
  where
    go : (b : Bool) → times n (l ++ (n ∷ [])) ≡ times n l + 1
        → pick b (suc (times n (l ++ (n ∷ [])))) (times n (l ++ (n ∷ []))) ≡ pick b (suc (times n l)) (times n l) + 1
    go true e = omega (arith, e)
    go false e = e

times_other : (n k : ℕ) (l : List ℕ) → (n ≡ k → ⊥) → times k (l ++ (n ∷ [])) ≡ times k l
times_other n k [] d = rw (ne_eqb n k d)
times_other n k (c ∷ l) d = rw (times_other n k l d)

-- the record of the channel n changed for d, and what is counted of n with it
module _ (n : ℕ) (cs : List Channel) (here : is_in n cs ≡ true) (d : Channel) (number : d.number ≡ (record_of n cs).number) (p : Counted) (C : Count cs p) where
  abbrev after : List Channel
  after = set cs (place_of n cs) d

  sum_is : held_in after + (record_of n cs).held ≡ held_in cs + d.held
  sum_is = held_set d cs (place_of n cs) (place_within n cs here)

  -- of every other channel the counts stay
  changed : (a g : List ℕ) → d.held + times n g ≡ times n a → ((k : ℕ) → (n ≡ k → ⊥) → (times k g ≡ times k p.given) × (times k a ≡ times k p.accepted))
      → held_in after + length g ≡ length a → Count after (record { accepted = a; given = g })
  changed a g own others sum = record { each = λ k. by k (eqb k n) refl; all = sum }
    where
      by : (k : ℕ) (b : Bool) → eqb k n ≡ b → (record_of k after).held + times k g ≡ times k a
      by k true e = rw (eqb-true k n e) (ap (λ (c : Channel). c.held + times n g) (own_set n cs here d number) ∙ own)
      by k false e =
          let o = others k (λ q. eqb-false k n e (sym q)) in
          ap (λ (c : Channel). c.held + times k g) (others_set n cs here d number k (eqb-false k n e))
          ∙ ap (λ (x : ℕ). (record_of k cs).held + x) o.0 ∙ C.each k ∙ sym o.1

  taken : d.held ≡ (record_of n cs).held + 1 → Count after (record { accepted = p.accepted ++ (n ∷ []); given = p.given })
  taken e =
      changed (p.accepted ++ (n ∷ [])) p.given (omega (arith, e, C.each n, times_own n p.accepted))
      (λ k o. (refl, times_other n k p.accepted o)) (omega (arith, e, C.all, sum_is, length-append p.accepted (n ∷ [])))

  given : d.held + 1 ≡ (record_of n cs).held → Count after (record { accepted = p.accepted; given = p.given ++ (n ∷ []) })
  given e =
      changed p.accepted (p.given ++ (n ∷ [])) (omega (arith, e, C.each n, times_own n p.given))
      (λ k o. (times_other n k p.given o, refl)) (omega (arith, e, C.all, sum_is, length-append p.given (n ∷ [])))

  same : d.held ≡ (record_of n cs).held → Count after p
  same e = changed p.accepted p.given (omega (arith, e, C.each n)) (λ k o. (refl, refl)) (omega (arith, e, C.all, sum_is))

-- the answer to a frame tells of an AD unit accepted exactly where a buffer is taken
taking : (e : Event) (s : State) (part : List ℕ)
    → (((eqb (event_number e) 1 && is_handed (handed_out (unit_of e s) part)) ≡ true) × (takes (unit_of e s) ≡ 1))
    ⊎ (((eqb (event_number e) 1 && is_handed (handed_out (unit_of e s) part)) ≡ false) × (takes (unit_of e s) ≡ 0))
taking e s part =
    ⊎_elim (λ h. inr (rw h (none_handed (eqb (event_number e) 1)), rw h))
    (⊎_elim (λ h. inl (rw (h.2, h.0), rw h.2)) (λ h. inr (rw (h.1, h.0), rw h.1))) (unit_cases e s)
  where
    none_handed : (b : Bool) → (b && false) ≡ false
    none_handed true = refl
    none_handed false = refl

-- an event of the channel n
module _ (n : ℕ) (cs : List Channel) (here : is_in n cs ≡ true) (p : Counted) (C : Count cs p) where
  -- a frame of it, by the table
  by_event_lem : (e : Event) (star : ℕ) (part : List ℕ)
      → Count (records_after (turned n (answered e star (record_of n cs)) cs) cs) (after_frame (answer_by (turned n (answered e star (record_of n cs)) cs) part) p)
  unfolding answered
  by_event_lem e star part =
      ⊎_elim
      (λ h. rw h.0 (taken n cs here (answered e star (record_of n cs)).next refl p C (ap (λ (k : ℕ). (record_of n cs).held + k) h.1)))
      (λ h. rw h.0 (same n cs here (answered e star (record_of n cs)).next refl p C (omega (arith, h.1))))
      (taking e (record_of n cs).variables.state part)

  by_kind : (room : Bool) (kind : Kind) (part : List ℕ)
      → Count (records_after (turned n (arrived room (record_of n cs) kind) cs) cs) (after_frame (answer_by (turned n (arrived room (record_of n cs) kind) cs) part) p)
  unfolding arrived
  by_kind room kind part = by_event_lem (event_of room (record_of n cs) kind) (star_of kind) part

  -- a release that is done
  by_release_lem : Count (records_after (turned n (given_back (record_of n cs)) cs) cs) (after_release (answer_by (turned n (given_back (record_of n cs)) cs) []) p)
  unfolding answered
  by_release_lem = go (ltb (times n p.given) (times n p.accepted)) refl
    where
      go : (b : Bool) → ltb (times n p.given) (times n p.accepted) ≡ b
          → Count (set cs (place_of n cs) (given_back (record_of n cs)).next) (record { accepted = p.accepted; given = pick b (p.given ++ (n ∷ [])) p.given })
      go true e = given n cs here (given_back (record_of n cs)).next refl p C (omega (arith, C.each n, ltb-true (times n p.given) (times n p.accepted) e))
      go false e = same n cs here (given_back (record_of n cs)).next refl p C (omega (arith, C.each n, ltb-false (times n p.given) (times n p.accepted) e))

-- every event
module _ (spacecraft size : ℕ) (cs : List Channel) (p : Counted) (C : Count cs p) where
  -- nothing changes, and nothing is counted
  still : (t : Turn) → records_after t cs ≡ cs → eqb t.event 1 ≡ false → eqb t.event 10 ≡ false → (part : List ℕ)
      → Count (records_after t cs) (after_frame (answer_by t part) p) × Count (records_after t cs) (after_release (answer_by t part) p)
  still t e f g part = rw (e, f, g) (C, C)

  pub frame_counts : (octets : List ℕ) → Octets octets → (part : List ℕ)
      → Count (records_after (frame_turn spacecraft size cs octets) cs) (after_frame (answer_by (frame_turn spacecraft size cs octets) part) p)
  frame_counts octets lent part = go (frame_turn spacecraft size cs octets) (frame_case spacecraft size cs octets lent)
    where
      go : (t : Turn) → FrameCase spacecraft size cs octets t → Count (records_after t cs) (after_frame (answer_by t part) p)
      go t (unheld h) = (still (nothing 12 0 cs) (nothing_after 12 0 cs) refl refl part).0
      go t (refused h d) =
          let r = refusal_of octets spacecraft (addressed cs octets) in
          (still (nothing r 9 cs) (nothing_after r 9 cs) refl refl part).0
      go t (arrives h i z) = by_kind (named octets) cs i p C (has_room size cs) (kind_of octets) part

  pub release_counts : (n : ℕ)
      → Count (records_after (release_turn spacecraft size cs n) cs) (after_release (answer_by (release_turn spacecraft size cs n) []) p)
  release_counts n = go (release_turn spacecraft size cs n) (release_case spacecraft size cs n)
    where
      go : (t : Turn) → ReleaseCase spacecraft size cs n t → Count (records_after t cs) (after_release (answer_by t []) p)
      go t (unheld h) = (still (nothing 12 0 cs) (nothing_after 12 0 cs) refl refl []).1
      go t (absent h i) = (still (nothing 7 0 cs) (nothing_after 7 0 cs) refl refl []).1
      go t (none h i b) = (still (nothing 13 0 cs) (nothing_after 13 0 cs) refl refl []).1
      go t (done h i b) = by_release_lem n cs i p C

-- "a buffer is free there while units accepted on all channels, less the releases that gave one back, are below the pool's size"
pub room_free : (pool : Pool) (cs : List Channel) (p : Counted) → Count cs p → (has_room pool.size cs ≡ true) ↔ Free pool p
room_free pool cs p C = (
  λ e. omega (arith, C.all, ltb-true (held_in cs) pool.size e),
  λ f. lt-ltb (held_in cs) pool.size (omega (arith, C.all, f)),
)
