-- Demand 3: after every list of events, and at whatever event comes next, of all ends that do as the tables say (`demand3`), and so of the
-- table machines themselves (`demand3_tables`). It is derived from the same claims over channels that repeat and noise (`claims_linked`).
--
-- How it is proved. Core is the tables' session with frames and words before they are octets. Its invariant (Inv) is kept by every event,
-- whatever is told of the buffers (Receiver, `step_with_keeps`; the sender's rows in Rows and Sender); that a receiver which waits has no
-- buffer free is a fact apart (Buffers). What holds at the next event is in Next, Clear, Arrive and Words. Link says that a session of tied ends,
-- octets and all, is a session of Core, so the ends' run and the tables' run share one (Linked).
use mathlib.Core.Logic.{◌⊎◌, inl, inr, ◌↔◌}
use mathlib.Core.Path.{◌≡◌, refl, sym, ap, ◌∙◌, subst}
use mathlib.Core.Bool.{Bool, true, false, true≢false}
use mathlib.Core.List.{List, [], ◌∷◌, ◌++◌, map, map-append}
use mathlib.Core.Option.{Option, some}
use Prim.Native.Nat.{ℕ, ◌≤◌}
use native.Mathlib.Omega.{arith}
use lib.Dec.{leb}
use lib.ListN.{length, take, drop, get_or, take-append-drop}
use lib.Seq.{take-take}
use Rattle.fop.specs.Units.{Fdu, Frame, AD, Word, valid, written, word_octets, read_word}
use Rattle.fop.specs.Variables.{Fop}
use Rattle.fop.specs.declared.Lower.TheVariants.{AdAccept}
use Rattle.fop.specs.Events.{SenderEvent, request_ad, lower, word_arrives}
use Rattle.fop.specs.Answers.{needed}
use Rattle.receiver.specs.declared.Receiver.{Receiver}
use Rattle.farm.specs.declared.State.TheVariants.{Open}
use Rattle.farm.specs.declared.Variables.{Variables}
use Rattle.session.specs.Frames.{read}
use Rattle.session.specs.Receiver.{word_length}
use Rattle.session.specs.Ends.{Settings, Within, Ends, Tied, tables}
use Rattle.session.specs.Session.{Linked, History, Event, ad_request, ticks, lower_says, word_in, frame_in, begins, no_unit}
use Rattle.session.specs.Channels.{LinkEvent, demanded, negative_window, link_run}
use Rattle.session.specs.Suspension.{rejects, link_unrejected}
use Rattle.session.specs.Signed.{Demanded}
use Rattle.session.specs.Claims.{units_at, member, Sends, Resends, Marked, Claims, ClaimsWhen, serves, expected, next_unit, next_number}
use Rattle.fop.specs.Events as fop
use Rattle.session.specs.Session as ses
use Rattle.session.proofs.Core as core
use Rattle.session.proofs.Core.{Session}
use Rattle.session.proofs.Lists.{units_iota}
use Rattle.session.proofs.Chan.{Wds}
use Rattle.session.proofs.Octets.{word_back, told_if}
use Rattle.session.proofs.Inv.{Inv, is_locked}
use Rattle.session.proofs.Clear.{clears_all, clears_sends}
use Rattle.session.proofs.Arrive.{accepts, free_is}
use Rattle.session.proofs.Next.{history_of, Sent, Resent, offers, ready_again_lem, ready_new_lem, expires}
use Rattle.session.proofs.Words.{word_made_lem}
use Rattle.session.proofs.Link.{Rel, word_is, same_step, tables_tied, reads, fly_reads, Reads}
use Rattle.session.proofs.Linked.{from_start, as_demanded, unrejected_demanded}
use Rattle.session.proofs.Suspended.{admitted}

-- confirmed units are a first part of those accepted, and these of those sent
pub confirmed_are : (set : Settings) (κ : Session) → Inv set κ → units_at κ.sent κ.confirmed ≡ map some (take (length κ.confirmed) κ.accepted)
confirmed_are set κ I =
    let C : ℕ = length κ.confirmed in
    let A : ℕ = length κ.accepted in
    ap (units_at κ.sent) I.places ∙ units_iota κ.sent 0 C (omega arith)
    ∙ ap (map some) (sym (take-take C A κ.sent (omega arith)) ∙ ap (take C) (sym I.base.order))

-- the oldest frame and the oldest word, as octets and as they are read
module _ (set : Settings) (vw : Within set) where
  pub oldest_frame : (l : List Frame) (s : List ℕ) (fs : List (List ℕ)) (y : Frame) → Reads l → s ∷ fs ≡ map (written set.own) l
      → read set.own s ≡ y → (more : List Frame) × (l ≡ y ∷ more)
  oldest_frame [] s fs u r e q = let z : ◌≡◌ {A = ℕ} 0 1 = cc in absurd (omega arith)
  oldest_frame (x ∷ xs) s fs u r e q =
      let a : s ≡ written set.own x = cc in
      let b : x ≡ u = sym (reads set vw x r.0) ∙ ap (read set.own) (sym a) ∙ q in
      (xs, ap (λ (y : Frame). y ∷ xs) b)

  pub oldest_word : (lo hi : ℕ) (l : List Word) (s : List ℕ) (ws : List (List ℕ)) → Wds set.n lo hi l → s ∷ ws ≡ map (word_octets set.own) l
      → (w : Word) × (more : List Word) × (l ≡ w ∷ more) × (s ≡ word_octets set.own w) × (read_word set.own s ≡ valid w)
  oldest_word lo hi [] s ws h e = let z : ◌≡◌ {A = ℕ} 0 1 = cc in absurd (omega arith)
  oldest_word lo hi (w ∷ more) s ws h e =
      let a : s ≡ word_octets set.own w = cc in
      (w, more, refl, a, ap (read_word set.own) a ∙ word_back set.own vw.spacecraft vw.channel w h.3 (omega (arith, h.1)))

-- the ends' channels and histories are Core's
pub record Now (set : Settings) {m : Ends} (σ : Linked m) (κ : Session) : Type 0 where
  pub frames : σ.frames ≡ map (written set.own) κ.frames
  pub words : σ.words ≡ map (word_octets set.own) κ.words
  pub history : σ.history ≡ history_of κ

-- What the claims look at, where a buffer is free or not (`room`) and a release is done or not (`held`): the ends' session is Core's now and after
-- whatever event comes next, and the tables' too.
pub record Looked (set : Settings) (m : Ends) (room held : Bool) (σ : Linked m) (γ : Linked (tables set)) (κ : Session) : Type 0 where
  pub now : Now set σ κ
  pub next : (e : Event) → rejects e ≡ false → Now set (ses.step set m e σ) (core.step_with set room held e κ)
  pub word : (lent : ℕ) → m.word lent σ.receiver ≡ told_if (leb word_length lent) (word_octets set.own (core.report κ.farm))
  pub fop : γ.sender ≡ κ.fop
  pub farm : γ.receiver.farm.channel.variables ≡ κ.farm
  pub unlocked : γ.history.locked_out ≡ false
  pub ticked : (lent : ℕ) → (ses.step set (tables set) (ticks lent) γ).sender ≡ (core.step_with set room held (ticks lent) κ).fop

module _ (set : Settings) (vw : Within set) (m : Ends) (room held : Bool) (σ : Linked m) (γ : Linked (tables set)) (κ : Session)
    (G : Looked set m room held σ γ κ) (I : Inv set κ) where
  abbrev R : Now set σ κ
  R = G.now

  abbrev next : (e : Event) → rejects e ≡ false → Now set (ses.step set m e σ) (core.step_with set room held e κ)
  next = G.next

  down : (e : Event) → rejects e ≡ false → (u : Fdu) → (core.step_with set room held e κ).frames ≡ κ.frames ++ (AD u ∷ [])
      → (ses.step set m e σ).frames ≡ σ.frames ++ (written set.own (AD u) ∷ [])
  down e q u d =
      (next e q).frames ∙ ap (map (written set.own)) d ∙ map-append (written set.own) κ.frames (AD u ∷ [])
      ∙ ap (λ (l : List (List ℕ)). l ++ (written set.own (AD u) ∷ [])) (sym R.frames)

  sends : (e : Event) → rejects e ≡ false → (u : Fdu) → Sent u κ (core.step_with set room held e κ) → Sends set u σ (ses.step set m e σ)
  sends e q u s =
      record {
        down = down e q u s.down;
        counted = ap (λ (h : History). h.sent) (next e q).history ∙ s.counted ∙ ap (λ (h : History). h.sent ++ (u ∷ [])) (sym R.history);
      }

  resends : (e : Event) → rejects e ≡ false → (u : Fdu) → Resent u κ (core.step_with set room held e κ) → Resends set u σ (ses.step set m e σ)
  resends e q u s =
      record {
        down = down e q u s.down;
        counted = ap (λ (h : History). h.sent) (next e q).history ∙ s.counted ∙ ap (λ (h : History). h.sent) (sym R.history);
        place = s.place;
        out = rw R.history s.out;
        is = rw R.history s.is;
      }

  -- the histories are the same
  by : (P : History → Type 0) → P (history_of κ) → P σ.history
  by P h = subst P (sym R.history) h

  lent_is : (e : SenderEvent) (lent : ℕ) → needed set.own e γ.sender ≤ lent → needed set.own e κ.fop ≤ lent
  lent_is e lent h = subst (λ (f : Fop). needed set.own e f ≤ lent) G.fop h

  -- the oldest word, where it is read as w and its room is lent
  pub word_comes : (s : List ℕ) (ws : List (List ℕ)) (w : Word) (lent : ℕ) → σ.words ≡ s ∷ ws → read_word set.own s ≡ valid w
      → needed set.own (word_arrives s) γ.sender ≤ lent
      → (more : List Word) × (κ.words ≡ w ∷ more) × (needed set.own (word_arrives (word_octets set.own w)) κ.fop ≤ lent)
  word_comes s ws w lent e q r =
      let l = oldest_word set vw _ _ κ.words s ws I.words (sym e ∙ R.words) in
      let same : l.0 ≡ w = cc (l.4, q) in
      let so : s ≡ word_octets set.own w = l.3 ∙ ap (word_octets set.own) same in (
        l.1,
        l.2 ∙ ap (λ (x : Word). x ∷ l.1) same,
        subst (λ (x : List ℕ). needed set.own (word_arrives x) κ.fop ≤ lent) so (lent_is (word_arrives s) lent r),
      )

  pub either : (e : Event) → rejects e ≡ false → (ses.step set (tables set) e γ).sender ≡ (core.step_with set room held e κ).fop → (i : ℕ)
      → Resent (get_or κ.sent i no_unit) κ (core.step_with set room held e κ) ⊎ Marked (get_or κ.sent i no_unit) (core.step_with set room held e κ).fop
      → Resends set (get_or κ.sent i no_unit) σ (ses.step set m e σ) ⊎ Marked (get_or κ.sent i no_unit) (ses.step set (tables set) e γ).sender
  either e q f i (inl s) = inl (resends e q _ s)
  either e q f i (inr k) = inr (subst (Marked (get_or κ.sent i no_unit)) (sym f) k)

  pub claims : (Free : Type 0) → (room ≡ true) ↔ Free → ClaimsWhen set m σ γ Free
  unfolding core.step core.step_with
  claims Free is_free =
      record {
        in_order = rw R.history (
          drop (length κ.accepted) κ.sent,
          ap (λ (x : List Fdu). x ++ drop (length κ.accepted) κ.sent) I.base.order
              ∙ take-append-drop (length κ.accepted) κ.sent,
        );
        truly = rw R.history (
          map some (drop (length κ.confirmed) κ.accepted),
          ap (λ (x : List (Option Fdu)). x ++ map some (drop (length κ.confirmed) κ.accepted)) (confirmed_are set κ I)
              ∙ sym (map-append some (take (length κ.confirmed) κ.accepted) (drop (length κ.confirmed) κ.accepted))
              ∙ ap (map some) (take-append-drop (length κ.confirmed) κ.accepted),
        );
        never = (
          ap (λ (h : History). h.locked_out) R.history,
          G.unlocked,
          ap (λ (v : Variables). v.lockout) G.farm ∙ I.receiver.no_lock,
          λ e. true≢false (ap is_locked (sym e ∙ ap (λ (v : Variables). v.state) G.farm) ∙ I.receiver.unlocked),
        );
        accepts = λ s fs u e q.
            let l = oldest_frame set vw κ.frames s fs (AD u) (fly_reads set.n _ κ.sent I.base.num _ _ κ.frames I.base.fly)
            (sym e ∙ R.frames) q in
            let a = accepts set vw κ I room held Free is_free u l.0 l.1 in
            let n = ap (λ (h : History). h.accepted) (next frame_in refl).history in
            let g = ap (λ (v : Variables). v.state) G.farm in
            by (λ h. ((ses.step set m frame_in σ).history.accepted ≡ h.accepted ++ (u ∷ [])) ↔
            ((γ.receiver.farm.channel.variables.state ≡ Open) × (u.ns ≡ expected set h) × Free))
            (λ x. let r = a.0 (sym n ∙ x) in (g ∙ r.0, r.1, r.2), λ x. n ∙ a.1 (sym g ∙ x.0, x.1, x.2));
        offered = λ o lent g r a b c d k.
            by (λ h. Sends set (next_unit set h o) σ (ses.step set m (ad_request o lent) σ))
            (sends (ad_request o lent) refl _ (offers set κ I o lent g (lent_is (request_ad o) lent r) (rw G.fop at a) (rw G.fop at b)
            (rw G.fop at c) (rw G.fop at d) (rw R.history at k)));
        ready_again = λ u lent r a b.
            resends (lower_says AdAccept lent) refl u (ready_again_lem set κ I u lent (lent_is (lower AdAccept) lent r) (rw G.fop at a) (rw G.fop at b));
        ready_new = λ o lent r a b k w.
            by (λ h. Sends set (next_unit set h o) σ (ses.step set m (lower_says AdAccept lent) σ))
            (sends (lower_says AdAccept lent) refl _
            (ready_new_lem set κ I o lent (lent_is (lower AdAccept) lent r) (rw G.fop at a) (rw G.fop at b) (rw R.history at k) (rw G.fop at w)));
        expires = λ i lent r a b c o.
            by (λ h. Resends set (get_or h.sent i no_unit) σ (ses.step set m (ticks lent) σ)
            ⊎ Marked (get_or h.sent i no_unit) (ses.step set (tables set) (ticks lent) γ).sender)
            (either (ticks lent) refl (G.ticked lent) i (expires set κ I i lent (lent_is fop.tick lent r) (rw G.fop at a) (rw G.fop at b) (rw G.fop at c)
            (rw R.history at o)));
        clears = λ s ws w lent e q r a b c d f.
            let k = word_comes s ws w lent e q r in
            let a' : serves κ.fop.state ≡ true = rw G.fop at a in
            let f' : w.nr ≡ next_number set (history_of κ) = rw R.history at f in (
              λ i o. ap (λ (h : History). member i h.confirmed) (next (word_in lent) refl).history
                  ∙ clears_all set vw κ I a' w k.0 lent k.1 k.2 b c d f' i (rw R.history at o),
              λ o p x y. by (λ h. Sends set (next_unit set h o) σ (ses.step set m (word_in lent) σ))
                  (sends (word_in lent) refl _
                  (clears_sends set vw κ I a' w k.0 lent k.1 k.2 b c d f' o (rw R.history at p) (rw G.fop at x) (rw G.fop at y))),
            );
        words = word_made_lem set vw m σ κ R.history G.word I γ.receiver.farm.channel.variables G.farm;
      }

-- ends that are tied, whose receiver has its buffers for itself
pub looked : (set : Settings) (vw : Within set) (m : Ends) (t : Tied set m) (σ : Linked m) (γ : Linked (tables set)) (κ : Session)
    → Rel set vw m t σ κ → Rel set vw (tables set) (tables_tied set) γ κ → Inv set κ → Looked set m (core.free set κ) (core.is_held κ) σ γ κ
unfolding core.step
looked set vw m t σ γ κ R G I =
    record {
      now = record { frames = R.frames; words = R.words; history = R.history };
      next = λ e q.
          let n = same_step set vw m t e σ κ (admitted (rejects e) κ.fop q) R I in
          record { frames = n.frames; words = n.words; history = n.history };
      word = word_is set vw m t σ κ R I;
      fop = G.fop;
      farm = ap (λ (f : Receiver). f.farm.channel.variables) G.farm;
      unlocked = ap (λ (h : History). h.locked_out) G.history;
      ticked = λ lent. (same_step set vw (tables set) (tables_tied set) (ticks lent) γ κ refl G I).fop;
    }

-- All of demand 3 over channels that repeat and noise, for all settings within their limits and all ends that do as the tables say, with a
-- recorder that keeps at most NW units: after every list of events in which no lower-layer reject comes while suspended, and at whatever event of
-- demand 3 comes next.
pub claims_linked : (set : Settings) → Within set → (m : Ends) → Tied set m → (kept : ℕ) → kept ≤ negative_window set → (es : List LinkEvent)
    → link_unrejected set kept es (begins (tables set)) ≡ true
    → Claims set m (link_run set kept m es (begins m)) (link_run set kept (tables set) es (begins (tables set)))
claims_linked set vw m t kept most es u =
    let k = from_start set vw m t kept most (λ κ. Unit {0}) (λ e κ a I x. tt) tt es u in
    claims set vw m _ _ _ _ k.session (looked set vw m t _ _ k.session k.ends k.of_tables k.inv) k.inv _
    (free_is set vw k.session _ k.ends.history)

-- Demand 3, whole: the case of its own events alone.
pub demand3 : (set : Settings) → Within set → (m : Ends) → Tied set m → Demanded set m
demand3 set vw m t es u =
    as_demanded set m (Claims set m) es
    (claims_linked set vw m t 0 (omega arith) (map demanded es) (unrejected_demanded set 0 es (begins (tables set)) ∙ u))

-- and the table machines are such ends
pub demand3_tables : (set : Settings) → Within set → Demanded set (tables set)
demand3_tables set vw = demand3 set vw (tables set) (tables_tied set)
