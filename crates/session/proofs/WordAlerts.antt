-- No control word of the session is out of place: the only alert that one can bring is that of the limit, at a transmission limit of 1.
use mathlib.Core.Logic.{◌⊎◌, inl, inr}
use mathlib.Core.Path.{◌≡◌, refl, sym, ap, ◌∙◌}
use mathlib.Core.Bool.{Bool, true, false, not, ◌&&◌, ◌||◌, true≢false, false≢true}
use mathlib.Core.List.{List, [], ◌∷◌}
use mathlib.Core.Option.{some}
use Rattle.std.specs.Prelude.{None, Some}
use Prim.Native.Nat.{ℕ, ◌+◌, ◌-◌, ◌*◌, ◌≤◌}
use native.Mathlib.Omega.{arith}
use lib.Dec.{leb, ltb, eqb, T}
use lib.ListN.{length}
use borrow.Author.Tests.{eqb-true, le-ltb, not-false}
use Rattle.base.proofs.Computed.{is_true}
use Rattle.base.specs.Modulo.{offset}
use Rattle.fop.specs.Units.{Word}
use Rattle.fop.specs.declared.Alert.{Alert as Reason}
use Rattle.fop.specs.declared.Alert.TheVariants.{Synch, Clcw, Limit, Nnr, Lockout, T1, Term, Llif}
use Rattle.fop.specs.declared.State.{State}
use Rattle.fop.specs.declared.State.TheVariants.{S1, S2, S3, S4, S5, S6}
use Rattle.fop.specs.Table.{table78, cell78}
use Rattle.fop.specs.Variables.{begin}
use Rattle.fop.specs.Effective.{effective_of}
use Rattle.fop.specs.Machine.{fop_do}
use Rattle.fop.specs.Variables.{Preset}
use Rattle.fop.specs.Machine.{fdus}
use Rattle.fop.specs.Events.{Seen, seen, word_event, fop_word}
use Rattle.session.specs.Ends.{Settings}
use Rattle.session.proofs.Core.{Session}
use Rattle.session.proofs.Values.{Live}
use Rattle.session.proofs.Rows.{mode_of, sound}
use Rattle.session.proofs.Inv.{Inv, Side}
use Rattle.session.proofs.Keys.{bit, bit_le, rank, floor, Keys, Tidy}
use Rattle.session.proofs.Every.{implies, implied, every_seen, seen_at}
use Rattle.session.proofs.Alerts.{allows, cell_allows, Allowed, cell_allowed_lem}

-- that of the limit, where it is 1
abbrev limit_alert : Bool → Reason → Bool
limit_alert once Limit = once
limit_alert once Synch = false
limit_alert once Clcw = false
limit_alert once Nnr = false
limit_alert once Lockout = false
limit_alert once T1 = false
limit_alert once Term = false
limit_alert once Llif = false

-- what holds of a word of the session, and of the state that it finds
abbrev pub fitting : State → Seen → Bool
fitting s x = not x.lockout && (not x.invalid && (not (x.all && x.retransmit) &&
    ((x.retransmit || not x.wait) && (x.retransmit || (x.new || leb (rank s) 0)))))

-- the test: in every state of the session, a word that fits meets a cell without another alert
abbrev allows_at : State → Seen → Bool
allows_at s x = implies (fitting s x) (cell_allows (limit_alert x.once) (cell78 (table78 (word_event x)) s))

allows_all_lem : (s : State) → T (sound (mode_of s)) → T (every_seen (allows_at s))
unfolding table78 word_event allows
allows_all_lem S1 g = tt
allows_all_lem S2 g = tt
allows_all_lem S3 g = tt
allows_all_lem S4 g = absurd g
allows_all_lem S5 g = absurd g
allows_all_lem S6 g = tt

-- in Initial no cell has another
abbrev allows_initial : Seen → Bool
allows_initial x = cell_allows (limit_alert x.once) (cell78 (table78 (word_event x)) S6)

allows_initial_lem : T (every_seen allows_initial)
unfolding table78 word_event allows
allows_initial_lem = tt

-- what is said of a word of the session makes it fit
fits : (L X A R W N K : Bool) → L ≡ false → X ≡ false → (A ≡ true → R ≡ false) → (W ≡ true → R ≡ true) → (R ≡ false → N ≡ false → K ≡ true)
    → (not L && (not X && (not (A && R) && ((R || not W) && (R || (N || K)))))) ≡ true
fits true X A R W N K l v a w n = absurd (true≢false l)
fits false true A R W N K l v a w n = absurd (true≢false v)
fits false false true true W N K l v a w n = absurd (true≢false (a refl))
fits false false false true W N K l v a w n = refl
fits false false A false true N K l v a w n = absurd (false≢true (w refl))
fits false false true false false true K l v a w n = refl
fits false false false false false true K l v a w n = refl
fits false false true false false false K l v a w n = n refl refl
fits false false false false false false K l v a w n = n refl refl

bit_true : (b : Bool) → 1 ≤ bit b → b ≡ true
bit_true true h = refl
bit_true false h = absurd (omega arith)

bit_false : (b : Bool) → bit b ≤ 0 → b ≡ false
bit_false true h = absurd (omega arith)
bit_false false h = refl

rank_zero : (s : State) → rank s ≤ 0 → leb (rank s) 0 ≡ true
rank_zero S1 h = refl
rank_zero S2 h = absurd (omega arith)
rank_zero S3 h = absurd (omega arith)
rank_zero S4 h = refl
rank_zero S5 h = refl
rank_zero S6 h = refl

-- the cell of table 7-8 that the oldest word meets has no alert but that of the limit
module _ (set : Settings) (σ : Session) (I : Inv set σ) (w : Word) (ws : List Word) where
  pub live_fits : (s : State)
      → Live set.n (length σ.confirmed) σ.denied σ.sent [] [] (fdus σ.fop.queues.sent_queue) σ.fop.numbers.vs σ.fop.numbers.nnr
      → Keys set.n (length σ.sent) (floor s (length σ.confirmed)) (2 * length σ.accepted + bit σ.farm.retransmit) (w ∷ ws)
      → fitting s (seen w σ.fop) ≡ true
  live_fits s h k =
      let b1 = bit_le w.retransmit in
      let ca : length σ.confirmed ≤ k.0 = omega (arith, k.2, b1) in
      let new : offset w.nr σ.fop.numbers.nnr ≡ k.0 - length σ.confirmed = omega (arith, k.1, ca, k.5, h, I.base) in
      let out : offset σ.fop.numbers.vs σ.fop.numbers.nnr ≡ length σ.sent - length σ.confirmed = omega (arith, h, I.base) in
      let v : ltb (offset σ.fop.numbers.vs σ.fop.numbers.nnr) (offset w.nr σ.fop.numbers.nnr) ≡ false =
      le-ltb (offset σ.fop.numbers.vs σ.fop.numbers.nnr) (offset w.nr σ.fop.numbers.nnr) (omega (arith, new, out, k.5)) in
      let a : eqb (offset w.nr σ.fop.numbers.nnr) (offset σ.fop.numbers.vs σ.fop.numbers.nnr) ≡ true → w.retransmit ≡ false =
      λ q. bit_false w.retransmit (omega (arith, eqb-true (offset w.nr σ.fop.numbers.nnr) (offset σ.fop.numbers.vs σ.fop.numbers.nnr) q, new, out, ca, k.5)) in
      let z : w.wait ≡ true → w.retransmit ≡ true = λ q. bit_true w.retransmit (omega (arith, k.4, ap bit q)) in
      let m : w.retransmit ≡ false → not (eqb (offset w.nr σ.fop.numbers.nnr) 0) ≡ false → leb (rank s) 0 ≡ true =
      λ r q. rank_zero s (omega (arith, k.2, ap bit r, eqb-true (offset w.nr σ.fop.numbers.nnr) 0 (not-false _ q), new, ca)) in
      fits w.lockout _ _ w.retransmit w.wait _ _ k.3 v a z m

  live_allows : (s : State) → T (sound (mode_of s))
      → Live set.n (length σ.confirmed) σ.denied σ.sent [] [] (fdus σ.fop.queues.sent_queue) σ.fop.numbers.vs σ.fop.numbers.nnr
      → Keys set.n (length σ.sent) (floor s (length σ.confirmed)) (2 * length σ.accepted + bit σ.farm.retransmit) (w ∷ ws)
      → T (cell_allows (limit_alert (seen w σ.fop).once) (cell78 (table78 (word_event (seen w σ.fop))) s))
  live_allows s g h k =
      implied (fitting s (seen w σ.fop)) _ (seen_at (allows_at s) (seen w σ.fop) (allows_all_lem s g)) (live_fits s h k)

  allows_at_lem : (s : State) (n : ℕ)
      → Side (mode_of (effective_of s n)) set.n (length σ.confirmed) σ.sent σ.denied (fdus σ.fop.queues.sent_queue) σ.fop.numbers.vs σ.fop.numbers.nnr
      → Keys set.n (length σ.sent) (floor (effective_of s n) (length σ.confirmed)) (2 * length σ.accepted + bit σ.farm.retransmit) (w ∷ ws)
      → T (cell_allows (limit_alert (seen w σ.fop).once) (cell78 (table78 (word_event (seen w σ.fop))) s))
  allows_at_lem S1 n h k = live_allows S1 tt h k
  allows_at_lem S2 n h k = live_allows S2 tt h k
  allows_at_lem S3 n h k = live_allows S3 tt h k
  allows_at_lem S4 n h k = absurd h
  allows_at_lem S5 n h k = absurd h
  allows_at_lem S6 n h k = seen_at allows_initial (seen w σ.fop) allows_initial_lem

pub word_alerts : (set : Settings) (σ : Session) → Inv set σ → Tidy set.n σ → (w : Word) (ws : List Word) → σ.words ≡ w ∷ ws
    → ((fop_word w σ.fop).notices.alert ≡ None) ⊎ (((fop_word w σ.fop).notices.alert ≡ Some Limit) × (set.limit ≡ 1))
unfolding fop_word fop_do
word_alerts set σ I t w ws e =
    last (cell_allowed_lem (limit_alert (seen w σ.fop).once) (cell78 (table78 (word_event (seen w σ.fop))) σ.fop.state)
    (begin (some (word_event (seen w σ.fop))) [] w.nr σ.fop)
    (allows_at_lem set σ I w ws σ.fop.state σ.fop.suspend_state I.side (rw e at t.keys)) (inl refl))
  where
    last : Allowed (limit_alert (seen w σ.fop).once) (fop_word w σ.fop).notices.alert
        → ((fop_word w σ.fop).notices.alert ≡ None) ⊎ (((fop_word w σ.fop).notices.alert ≡ Some Limit) × (set.limit ≡ 1))
    last (inl a) = inl a
    last (inr (Limit, a, b)) =
        inr (a, sym (ap (λ (p : Preset). p.transmission_limit) I.is_set) ∙ eqb-true σ.fop.preset.transmission_limit 1 (is_true _ b))
    last (inr (Synch, a, b)) = absurd b
    last (inr (Clcw, a, b)) = absurd b
    last (inr (Nnr, a, b)) = absurd b
    last (inr (Lockout, a, b)) = absurd b
    last (inr (T1, a, b)) = absurd b
    last (inr (Term, a, b)) = absurd b
    last (inr (Llif, a, b)) = absurd b
