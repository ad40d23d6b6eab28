-- What every action keeps of the numbers, whatever the state (`Kept`): the units on the Sent_Queue have the last numbers below V(S). So a unit sent is
-- the next of them, and those that N(R) acknowledges are a first part: the oldest is as far from NN(R) as V(S) is, less their count.
use mathlib.Core.Path.{◌≡◌, sym, ap, ap₂, subst, ◌∙◌}
use mathlib.Core.Bool.{true, false}
use mathlib.Core.List.{List, [], ◌∷◌, ◌++◌}
use mathlib.Core.Option.{Option, none, some}
use Prim.Native.Nat.{ℕ, zero, suc, ◌+◌, ◌-◌, ◌≤◌, ◌<◌}
use native.Mathlib.Nat.{not-suc-le-zero}
use native.Mathlib.Omega.{arith}
use lib.Dec.{T}
use lib.ListN.{length, take, drop, get_or, length-append, length-drop, take-append-drop}
use Rattle.base.specs.Modulo.{advanced, offset}
use Rattle.base.proofs.Modulo.{offset_advanced}
use Rattle.fop.specs.Limits.{largest_k, largest_number}
use Rattle.fop.specs.Units.{Fdu, legal}
use Rattle.fop.specs.Variables.{Entry, Fop}
use Rattle.fop.specs.Effective.{effective, in_service}
use Rattle.fop.specs.Machine.{fdus, acknowledged, unacknowledged}
use Rattle.fop.proofs.Choices.{none_some}
use Rattle.session.specs.Session.{no_unit}
use Rattle.session.proofs.Queue.{ack}
use Rattle.session.proofs.Suspended.{unsuspended}
use Rattle.ledger.proofs.Flow.{Follows, Well}

-- Modulo 256: V(S) advanced by one is one further from NN(R); the oldest of n units below V(S) is n less far than V(S); and with NN(R) := N(R) V(S) is
-- less far by what N(R) was.
next_offset : (vs nnr : ℕ) → nnr ≤ largest_number → offset vs nnr < largest_k → offset (advanced vs 1) nnr ≡ offset vs nnr + 1
next_offset vs nnr a b = omega arith

oldest_offset : (oldest nnr n : ℕ) → oldest ≤ largest_number → nnr ≤ largest_number → n ≤ offset (advanced oldest n) nnr → n ≤ largest_k
    → oldest ≡ advanced nnr (offset (advanced oldest n) nnr - n)
oldest_offset oldest nnr n a b c d = omega arith

at_offset : (x y : ℕ) → x ≤ largest_number → y ≤ largest_number → x ≡ advanced y (offset x y)
at_offset x y a b = omega arith

less_offset : (vs nnr nr : ℕ) → vs ≤ largest_number → nnr ≤ largest_number → nr ≤ largest_number → offset nr nnr ≤ offset vs nnr
    → offset vs nr ≡ offset vs nnr - offset nr nnr
less_offset vs nnr nr a b c d =
    ap₂ offset (at_offset vs nnr a b) (at_offset nr nnr c b) ∙ offset_advanced nnr (offset vs nnr) (offset nr nnr) d (omega arith)

in_two : (x c n : ℕ) → c ≤ n → advanced x n ≡ advanced (advanced x c) (n - c)
in_two x c n h = omega arith

-- a unit with the next number follows
follows_add : (x : ℕ) (us : List Fdu) (u : Fdu) → x ≤ largest_number → Follows x us → u.ns ≡ advanced x (length us) → Follows x (us ++ (u ∷ []))
follows_add x [] u b h e = (omega arith, tt)
follows_add x (v ∷ us) u b h e = (h.0, follows_add (advanced x 1) us u (omega arith) h.1 (omega arith))

-- a unit's number, by its place
follows_at : (x : ℕ) (us : List Fdu) → x ≤ largest_number → Follows x us → (i : ℕ) → i < length us → (get_or us i no_unit).ns ≡ advanced x i
follows_at x [] b h i l = absurd (not-suc-le-zero l)
follows_at x (u ∷ us) b h zero l = omega (arith, h.0)
follows_at x (u ∷ us) b h (suc i) l = follows_at (advanced x 1) us (omega arith) h.1 i (omega arith) ∙ omega arith

-- those behind the first d
follows_drop : (x : ℕ) (us : List Fdu) (d : ℕ) → x ≤ largest_number → Follows x us → d ≤ length us → Follows (advanced x d) (drop d us)
follows_drop x us zero b h l = let e : x ≡ advanced x 0 = omega arith in subst (λ (y : ℕ). Follows y us) e h
follows_drop x [] (suc d) b h l = tt
follows_drop x (u ∷ us) (suc d) b h l =
    let e : advanced (advanced x 1) d ≡ advanced x (suc d) = omega arith in
    subst (λ (y : ℕ). Follows y (drop d us)) e (follows_drop (advanced x 1) us d (omega arith) h.1 (omega arith))

-- the same unit
pub same_unit : {o u : List ℕ} → some o ≡ some u → o ≡ u
same_unit {o} q = ap unit_of_lem q
  where
    unit_of_lem : Option (List ℕ) → List ℕ
    unit_of_lem none = o
    unit_of_lem (some u) = u

-- units on the Sent_Queue, V(S) and NN(R)
pub record Standing (us : List Fdu) (vs nnr : ℕ) : Type 0 where
  pub oldest : ℕ
  pub follows : Follows oldest us
  pub up_to : vs ≡ advanced oldest (length us)
  pub oldest_most : oldest ≤ largest_number
  pub vs_most : vs ≤ largest_number
  pub nnr_most : nnr ≤ largest_number
  pub inside : length us ≤ offset vs nnr
  pub most : length us ≤ largest_k

-- with K and the Wait_Queue
pub record Kept (us : List Fdu) (vs nnr k : ℕ) (wait : Option (List ℕ)) : Type 0 where
  pub standing : Standing us vs nnr
  pub window : k ≤ largest_k
  pub waiting_legal : (o : List ℕ) → wait ≡ some o → legal o ≡ true

abbrev pub KeptOf : Fop → Type 0
KeptOf f = Kept (fdus f.queues.sent_queue) f.numbers.vs f.numbers.nnr f.preset.k f.queues.wait_queue

-- the part of `Well` that no state decides
pub well_kept : (f : Fop) → Well f → KeptOf f
well_kept f h = record {
  standing = record {
    oldest = h.oldest;
    follows = h.follows;
    up_to = h.up_to;
    oldest_most = h.oldest_most;
    vs_most = h.vs_most;
    nnr_most = h.nnr_most;
    inside = h.inside;
    most = h.most;
  };
  window = h.window;
  waiting_legal = h.waiting_legal;
}

pub kept_well : (f : Fop) → KeptOf f → T (unsuspended f.state f.suspend_state) → (in_service (effective f) ≡ false → f.queues.sent_queue ≡ [])
    → (in_service (effective f) ≡ false → f.queues.wait_queue ≡ none) → Well f
kept_well f h u a b =
    let s = h.standing in
    record {
      oldest = s.oldest;
      follows = s.follows;
      up_to = s.up_to;
      oldest_most = s.oldest_most;
      vs_most = s.vs_most;
      nnr_most = s.nnr_most;
      inside = s.inside;
      most = s.most;
      window = h.window;
      waiting_legal = h.waiting_legal;
      outside = u;
      none_sent = a;
      none_waits = b;
    }

none_legal : (o : List ℕ) → none ≡ some o → legal o ≡ true
none_legal o q = absurd (none_some q)

-- a unit is sent
sent : {us : List Fdu} {vs nnr : ℕ} (u : Fdu) → u.ns ≡ vs → offset vs nnr < largest_k → Standing us vs nnr → Standing (us ++ (u ∷ [])) (advanced vs 1) nnr
sent {us} {vs} {nnr} u e r h =
    let n : length (us ++ (u ∷ [])) ≡ length us + 1 = length-append us (u ∷ []) in
    record {
      oldest = h.oldest;
      follows = follows_add h.oldest us u h.oldest_most h.follows (e ∙ h.up_to);
      up_to = omega arith;
      oldest_most = h.oldest_most;
      vs_most = omega arith;
      nnr_most = h.nnr_most;
      inside = omega (arith, h.inside, n, next_offset vs nnr h.nnr_most r);
      most = omega arith;
    }

module _ {us : List Fdu} {vs nnr k : ℕ} {wait : Option (List ℕ)} (h : Kept us vs nnr k wait) where
  -- another unit waits
  pub kept_wait : (o : List ℕ) → legal o ≡ true → Kept us vs nnr k (some o)
  kept_wait o l =
      record { standing = h.standing; window = h.window; waiting_legal = λ u q. subst (λ (v : List ℕ). legal v ≡ true) (same_unit q) l }

  -- another K
  pub kept_window : (other : ℕ) → other ≤ largest_k → Kept us vs nnr other wait
  kept_window other l = record { standing = h.standing; window = l; waiting_legal = h.waiting_legal }

  -- the unit waiting is sent, in the window
  pub kept_sent : (u : Fdu) → u.ns ≡ vs → offset vs nnr < k → Kept (us ++ (u ∷ [])) (advanced vs 1) nnr k none
  kept_sent u e r = record { standing = sent u e (omega (arith, r, h.window)) h.standing; window = h.window; waiting_legal = none_legal }

-- no units, with any numbers
pub kept_empty : (vs nnr k : ℕ) → vs ≤ largest_number → nnr ≤ largest_number → k ≤ largest_k → Kept [] vs nnr k none
kept_empty vs nnr k a b c = record {
  standing = record {
    oldest = vs;
    follows = tt;
    up_to = omega arith;
    oldest_most = a;
    vs_most = a;
    nnr_most = b;
    inside = omega arith;
    most = omega arith;
  };
  window = c;
  waiting_legal = none_legal;
}

-- N(R) from NN(R) up to V(S): what it acknowledges comes first, and the others stand with NN(R) := N(R)
module _ {vs nnr : ℕ} (q : List Entry) (h : Standing (fdus q) vs nnr) (nr : ℕ) (b : nr ≤ largest_number) (l : offset nr nnr ≤ offset vs nnr) where
  -- how far the oldest is from NN(R), and how many are acknowledged
  abbrev ahead : ℕ
  ahead = offset vs nnr - length (fdus q)

  abbrev count : ℕ
  count = offset nr nnr - ahead

  oldest_at : h.oldest ≡ advanced nnr ahead
  oldest_at =
      subst (λ (v : ℕ). length (fdus q) ≤ offset v nnr → h.oldest ≡ advanced nnr (offset v nnr - length (fdus q))) (sym h.up_to)
      (λ i. oldest_offset h.oldest nnr (length (fdus q)) h.oldest_most h.nnr_most i h.most) h.inside

  acks : (acknowledged nnr nr q ≡ take count (fdus q)) × (fdus (unacknowledged nnr nr q) ≡ drop count (fdus q))
  acks =
      ack nnr 0 nnr nr (omega (arith, h.nnr_most)) q ahead
      (λ i j. follows_at h.oldest (fdus q) h.oldest_most h.follows i j ∙ ap (λ (x : ℕ). advanced x i) oldest_at ∙ omega arith)
      (omega (arith, h.inside))

  pub in_order : acknowledged nnr nr q ++ fdus (unacknowledged nnr nr q) ≡ fdus q
  in_order = rw (acks.0, acks.1) (take-append-drop count (fdus q))

  left : length (drop count (fdus q)) ≡ length (fdus q) - count → length (drop count (fdus q)) ≤ offset vs nnr - offset nr nnr
  left n = omega (arith, h.inside)

  removed : Standing (fdus (unacknowledged nnr nr q)) vs nr
  removed =
      let n : length (drop count (fdus q)) ≡ length (fdus q) - count = length-drop count (fdus q) in
      let few : count ≤ length (fdus q) = omega (arith, h.inside) in
      subst (λ (us : List Fdu). Standing us vs nr) (sym acks.1) (record {
        oldest = advanced h.oldest count;
        follows = follows_drop h.oldest (fdus q) count h.oldest_most h.follows few;
        up_to = h.up_to ∙ in_two h.oldest count (length (fdus q)) few ∙ ap (advanced (advanced h.oldest count)) (sym n);
        oldest_most = omega arith;
        vs_most = h.vs_most;
        nnr_most = b;
        inside = subst (λ (x : ℕ). length (drop count (fdus q)) ≤ x) (sym (less_offset vs nnr nr h.vs_most h.nnr_most b l)) (left n);
        most = omega (arith, h.most, n);
      })

  pub kept_removed : {k : ℕ} {wait : Option (List ℕ)} → Kept (fdus q) vs nnr k wait → Kept (fdus (unacknowledged nnr nr q)) vs nr k wait
  kept_removed k = record { standing = removed; window = k.window; waiting_legal = k.waiting_legal }
