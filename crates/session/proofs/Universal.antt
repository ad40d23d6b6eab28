-- Whatever the unit is: one that meets demand 3 after every list of events sends, accepts, resends, confirms, and does not send on its first
-- event alone (specs/Signed). The claims themselves lead it there: an offered unit must be sent, its frame accepted, the control word then made
-- must report it, that word must confirm it, and after an expiry it must be sent again. Sending and accepting at all settings, the others at one.
use mathlib.Core.Path.{◌≡◌, refl, ap, subst, ◌∙◌, sym}
use mathlib.Core.Bool.{Bool, true, false, true≢false, ◌||◌}
use mathlib.Core.List.{List, [], ◌∷◌, ◌++◌}
use mathlib.Core.Option.{Option, none, some}
use Prim.Native.Nat.{ℕ, zero, suc, ◌+◌, ◌≤◌, ◌<◌}
use native.Mathlib.Omega.{arith}
use borrow.Author.Tests.{leb-true, leb-false, eqb-true}
use lib.Dec.{leb, eqb, leb→le}
use lib.ListN.{length, length-append, get_or}
use Rattle.base.specs.Choice.{pick}
use Rattle.base.specs.Modulo.{advanced}
use Rattle.fop.specs.Units.{Fdu, Own, Frame, AD, BD, Unlock, SetVR, Refused, legal, written}
use Rattle.fop.specs.declared.Lower.TheVariants.{AdAccept}
use Rattle.fop.specs.Events.{request_ad, word_arrives, tick, lower}
use Rattle.fop.specs.Answers.{needed}
use Rattle.session.specs.Ends.{Settings, Within, Ends, start_sender, start_receiver, tables}
use Rattle.session.specs.Frames.{read}
use Rattle.session.specs.Session as ses
use Rattle.session.specs.Session.{Event, ad_request, ticks, lower_says, word_made, word_in, frame_in}
use Rattle.session.specs.Claims.{Claims, Sends, Resends, next_unit, next_number, expected, remaining, member, outstanding, units_at, IsOutstanding}
use Rattle.session.specs.Signed.{after, Demanded, Sending, Accepting, Resending, Confirming, SendingLater, Signed}
use Rattle.session.proofs.Suspended.{none_reject, unrejected_none}
use Rattle.session.proofs.Link.{reads}
use Rattle.session.proofs.Trace.{computing, settings}

-- at all settings
module _ (set : Settings) (m : Ends) (c : Demanded set m) where
  -- demand 3 after a list without a reject of the lower layer
  claims : (es : List Event) → none_reject es ≡ true → Claims set m (after set m es) (ses.run set (tables set) es (ses.begins (tables set)))
  claims es n = c es (unrejected_none set es (ses.begins (tables set)) n)

module _ (set : Settings) (within : Within set) (m : Ends) (c : Demanded set m) where
  -- a unit is offered, with the room that its frame needs
  abbrev room : ℕ
  room = needed set.own (request_ad (7 ∷ [])) (start_sender set)

  abbrev one : List Event
  one = ad_request (7 ∷ []) room ∷ []

  abbrev unit : Fdu
  unit = next_unit set (after set m []).history (7 ∷ [])

  offered : Sends set {m = m} unit (after set m []) (after set m one)
  unfolding ses.run ses.begins start_sender legal outstanding
  offered = (claims set m c [] refl).offered (7 ∷ []) room refl (omega arith) refl refl refl refl (omega (arith, within.window_least))

  pub sends : Sending set m
  unfolding ses.run ses.begins
  sends = record { events = one; unit = unit; sent = offered.counted }

  -- its frame arrives at a receiver as at its start
  readable : read set.own (written set.own (AD unit)) ≡ AD unit
  unfolding legal
  readable = reads set within (AD unit) (refl, omega arith)

  pub accepts : Accepting set m
  unfolding ses.run ses.begins ses.step ses.to_sender ses.after_sender start_receiver
  accepts = record {
    events = ad_request (7 ∷ []) room ∷ frame_in ∷ [];
    unit = unit;
    accepted = ((claims set m c one refl).accepts _ [] unit offered.down readable).1 (refl, refl, omega (arith, within.buffers_least));
  }

-- the settings of the other statements: K 3, two buffers, T1_Initial 1, Transmission_Limit 3
abbrev set : Settings
set = settings 3 2 1 3

set_within : Within set
set_within = record {
  number = leb→le _ _ tt;
  window_least = leb→le _ _ tt;
  window_most = leb→le _ _ tt;
  even = refl;
  farm_least = leb→le _ _ tt;
  farm_most = leb→le _ _ tt;
  fits = leb→le _ _ tt;
  buffers_least = leb→le _ _ tt;
  buffers_most = leb→le _ _ tt;
  timer_least = leb→le _ _ tt;
  timer_most = leb→le _ _ tt;
  limit_least = leb→le _ _ tt;
  limit_most = leb→le _ _ tt;
  timeout_most = leb→le _ _ tt;
  spacecraft = leb→le _ _ tt;
  channel = leb→le _ _ tt;
  count_least = leb→le _ _ tt;
  count_most = leb→le _ _ tt;
  counter_most = leb→le _ _ tt;
}

-- the first unit offered, as it is sent
abbrev seven : Fdu
seven = record { ns = 254; octets = 7 ∷ [] }

by : (t : Bool) (j : ℕ) (l : List ℕ) (c : ℕ) → length l ≤ c → length (pick t l (j ∷ l)) ≤ suc c
by true j l c h = omega (arith, h)
by false j l c h = omega (arith, h)

remaining_most : (a b : List (Option ℕ)) (j c : ℕ) → length (remaining a b j c) ≤ c
remaining_most a b j zero = omega arith
remaining_most a b j (suc c) = by (member j a || member j b) j (remaining a b (suc j) c) c (remaining_most a b (suc j) c)

-- no more units are outstanding than were sent
outstanding_most : (h : ses.History) → length (outstanding h) ≤ length h.sent
unfolding outstanding
outstanding_most h = remaining_most h.confirmed h.denied 0 (length h.sent)

-- nothing that was sent is taken back
picked_grows : (t : Bool) (s : List Fdu) (u : Fdu) → length s ≤ length (pick t (s ++ (u ∷ [])) s)
picked_grows true s u = omega (arith, length-append s (u ∷ []))
picked_grows false s u = omega arith

add_grows : (n : ℕ) (s : List Fdu) (x : Frame) → length s ≤ length (ses.add_sent n s x)
add_grows n s (AD u) = picked_grows (eqb u.ns (advanced n (length s))) s u
add_grows n s (BD o) = omega arith
add_grows n s Unlock = omega arith
add_grows n s (SetVR v) = omega arith
add_grows n s (Refused r) = omega arith

sent_grows : (own : Own) (n : ℕ) (s : List Fdu) (d : Option (List ℕ)) → length s ≤ length (ses.sent_after own n s d)
sent_grows own n s none = omega arith
sent_grows own n s (some o) = add_grows n s (read own o)

-- a place that is not among the first places of a list is not among these
not_member : (i : ℕ) (a b : List (Option ℕ)) → member i (a ++ b) ≡ false → member i a ≡ false
not_member i [] b e = refl
not_member i (some j ∷ a) b e = by_test (eqb i j) (not_member i a b) e
  where
    by_test : (t : Bool) → (member i (a ++ b) ≡ false → member i a ≡ false) → (t || member i (a ++ b)) ≡ false → (t || member i a) ≡ false
    by_test true k h = h
    by_test false k h = k h
not_member i (none ∷ a) b e = not_member i a b e

-- among one unit sent, and at the most another one, the first number is at the first place
first_place_lem : (t : Bool) (u : Fdu) → (t ≡ true → u.ns ≡ 255) → (i : ℕ) → seven ≡ get_or (pick t (seven ∷ u ∷ []) (seven ∷ [])) i ses.no_unit → i ≡ 0
first_place_lem t u h zero e = refl
first_place_lem true u h (suc zero) e = absurd (omega (arith, ap (λ (x : Fdu). x.ns) e, h refl))
first_place_lem true u h (suc (suc i)) e = absurd (omega (arith, ap (λ (x : Fdu). x.ns) e))
first_place_lem false u h (suc i) e = absurd (omega (arith, ap (λ (x : Fdu). x.ns) e))

added_place : (x : Frame) (i : ℕ) → seven ≡ get_or (ses.add_sent 254 (seven ∷ []) x) i ses.no_unit → i ≡ 0
added_place (AD u) i e = first_place_lem (eqb u.ns 255) u (eqb-true u.ns 255) i e
added_place (BD o) i e = first_place_lem false seven (λ q. absurd (true≢false (sym q))) i e
added_place Unlock i e = first_place_lem false seven (λ q. absurd (true≢false (sym q))) i e
added_place (SetVR v) i e = first_place_lem false seven (λ q. absurd (true≢false (sym q))) i e
added_place (Refused r) i e = first_place_lem false seven (λ q. absurd (true≢false (sym q))) i e

sent_place : (own : Own) (l : List Fdu) → l ≡ seven ∷ [] → (d : Option (List ℕ)) (i : ℕ) → seven ≡ get_or (ses.sent_after own 254 l d) i ses.no_unit → i ≡ 0
sent_place own l p none i e = first_place_lem false seven (λ q. absurd (true≢false (sym q))) i (e ∙ ap (λ (s : List Fdu). get_or s i ses.no_unit) p)
sent_place own l p (some o) i e = added_place (read own o) i (e ∙ ap (λ (s : List Fdu). get_or (ses.add_sent 254 s (read own o)) i ses.no_unit) p)

module _ (m : Ends) (c : Demanded set m) where
  -- a unit is offered, and its timer expires before the lower layer answered
  abbrev first : Event
  first = ad_request (7 ∷ []) 256

  first_sent : (after set m (first ∷ [])).history.sent ≡ seven ∷ []
  unfolding computing
  first_sent = ((claims set m c [] refl).offered (7 ∷ []) 256 refl (leb→le _ 256 tt) refl refl refl refl (leb→le _ 3 tt)).counted

  abbrev due : List Event
  due = first ∷ ticks 256 ∷ []

  pub resends : Resending set m
  unfolding computing
  resends = record {
    events = due;
    event = lower_says AdAccept 256;
    unit = seven;
    resent = (claims set m c due refl).ready_again seven 256 (leb→le _ 256 tt) refl refl;
  }

  -- the lower layer is ready again, and a second unit is offered
  abbrev ready : List Event
  ready = lower_says AdAccept 256 ∷ []

  abbrev ready_sent : List Fdu
  ready_sent = (after set m (first ∷ ready)).history.sent

  abbrev next_sent : List Fdu
  next_sent = (after set m (first ∷ lower_says AdAccept 256 ∷ ad_request (8 ∷ []) 256 ∷ [])).history.sent

  offered_next : length (outstanding (after set m (first ∷ ready)).history) < 3
      → next_sent ≡ ready_sent ++ (next_unit set (after set m (first ∷ ready)).history (8 ∷ []) ∷ [])
  unfolding computing
  offered_next few = ((claims set m c (first ∷ ready) refl).offered (8 ∷ []) 256 refl (leb→le _ 256 tt) refl refl refl refl few).counted

  more : (a b : List Fdu) (u : Fdu) → b ≡ a ++ (u ∷ []) → length b ≡ length a + 1
  more a b u e = ap length e ∙ length-append a (u ∷ [])

  kept_sent : length (after set m (first ∷ [])).history.sent ≤ length ready_sent
  unfolding ses.run ses.step ses.to_sender ses.after_sender
  kept_sent = sent_grows set.own set.n (after set m (first ∷ [])).history.sent
      (m.answer (lower AdAccept) 256 (after set m (first ∷ [])).sender).down

  pub sends_later : SendingLater set m
  sends_later = by_count (leb (length ready_sent) 2) refl
    where
      by_count : (b : Bool) → leb (length ready_sent) 2 ≡ b → SendingLater set m
      by_count true e =
          let few = outstanding_most (after set m (first ∷ ready)).history in
          let l = leb-true (length ready_sent) 2 e in
          let grown = more ready_sent next_sent _ (offered_next (omega (arith, few, l))) in
          record { first = first; later = lower_says AdAccept 256 ∷ ad_request (8 ∷ []) 256 ∷ []; more = omega (arith, grown, kept_sent) }
      by_count false e =
          record { first = first; later = ready; more = omega (arith, leb-false (length ready_sent) 2 e, ap length first_sent) }

  -- its frame arrives, and a control word is made
  abbrev arrived : List Event
  arrived = first ∷ frame_in ∷ []

  first_frame : (after set m (first ∷ [])).frames ≡ written set.own (AD seven) ∷ []
  unfolding computing
  first_frame = ((claims set m c [] refl).offered (7 ∷ []) 256 refl (leb→le _ 256 tt) refl refl refl refl (leb→le _ 3 tt)).down

  arrived_accepted : (after set m arrived).history.accepted ≡ seven ∷ []
  unfolding computing
  arrived_accepted = ((claims set m c (first ∷ []) refl).accepts _ [] seven first_frame refl).1 (refl, refl, leb→le 1 _ tt)

  -- an arrival changes neither the words under way nor what was sent, confirmed and denied
  record Same (σ τ : ses.Linked m) : Type 0 where
    words : τ.words ≡ σ.words
    sent : τ.history.sent ≡ σ.history.sent
    confirmed : τ.history.confirmed ≡ σ.history.confirmed
    denied : τ.history.denied ≡ σ.history.denied

  arrival_keeps : (fs : List (List ℕ)) (σ : ses.Linked m) → Same σ (ses.frame_come set m fs σ)
  unfolding ses.frame_come ses.after_frame
  arrival_keeps [] σ = record { words = refl; sent = refl; confirmed = refl; denied = refl }
  arrival_keeps (x ∷ fs) σ = record { words = refl; sent = refl; confirmed = refl; denied = refl }

  kept : Same (after set m (first ∷ [])) (after set m arrived)
  unfolding ses.run ses.step
  kept = arrival_keeps (after set m (first ∷ [])).frames (after set m (first ∷ []))

  -- nothing is confirmed before a unit is accepted
  none_confirmed : (s : List Fdu) (l : List (Option ℕ)) (rest : List (Option Fdu)) → units_at s l ++ rest ≡ [] → member 0 l ≡ false
  none_confirmed s [] rest e = refl
  none_confirmed s (some i ∷ is) rest e = absurd (omega (arith, ap length e))
  none_confirmed s (none ∷ is) rest e = absurd (omega (arith, ap length e))

  unconfirmed : member 0 (after set m (first ∷ [])).history.confirmed ≡ false
  unfolding ses.run ses.step ses.to_sender ses.after_sender ses.begins
  unconfirmed =
      none_confirmed (after set m (first ∷ [])).history.sent (after set m (first ∷ [])).history.confirmed (claims set m c (first ∷ []) refl).truly.0
      (claims set m c (first ∷ []) refl).truly.1

  -- nor denied: after an expiry it must be sent again, and only an outstanding unit can be
  due_denied : (i : ℕ) → member i (after set m due).history.denied ≡ false → member i (after set m (first ∷ [])).history.denied ≡ false
  unfolding ses.run ses.step ses.to_sender ses.after_sender
  due_denied i e = not_member i (after set m (first ∷ [])).history.denied _ e

  due_place : (i : ℕ) → seven ≡ get_or (after set m due).history.sent i ses.no_unit → i ≡ 0
  unfolding ses.run ses.step ses.to_sender ses.after_sender
  due_place i e =
      sent_place set.own (after set m (first ∷ [])).history.sent first_sent (m.answer tick 256 (after set m (first ∷ [])).sender).down i e

  again : Resends set {m = m} seven (after set m due) (ses.step set m (lower_says AdAccept 256) (after set m due))
  unfolding computing
  again = (claims set m c due refl).ready_again seven 256 (leb→le _ 256 tt) refl refl

  undenied : member 0 (after set m (first ∷ [])).history.denied ≡ false
  undenied =
      due_denied 0
      (subst (λ (i : ℕ). member i (after set m due).history.denied ≡ false) (due_place again.place again.is) again.out.2)

  -- so the control word made then confirms it
  abbrev made : List Event
  made = first ∷ frame_in ∷ word_made 4 ∷ []

  first_outstanding : IsOutstanding (after set m made).history 0
  unfolding ses.run ses.step
  first_outstanding = (
    omega (arith, ap length kept.sent, ap length first_sent),
    ap (member 0) kept.confirmed ∙ unconfirmed,
    ap (member 0) kept.denied ∙ undenied,
  )

  abbrev word : List ℕ
  word = ((claims set m c arrived refl).words 4 (leb→le 4 4 tt)).0

  no_words : (after set m (first ∷ [])).words ≡ []
  unfolding ses.run ses.step ses.to_sender ses.begins
  no_words = refl

  made_words : (after set m made).words ≡ word ∷ []
  unfolding ses.run
  made_words = ((claims set m c arrived refl).words 4 (leb→le 4 4 tt)).1 ∙ ap (λ (l : List (List ℕ)). l ++ (word ∷ [])) (kept.words ∙ no_words)

  -- the number reported is the next to send
  reports_next : expected set (after set m arrived).history ≡ next_number set (after set m made).history
  unfolding ses.run ses.step
  reports_next = ap (λ (l : ℕ). advanced set.n l) (ap length arrived_accepted ∙ sym (ap length (kept.sent ∙ first_sent)))

  abbrev word_room : ℕ
  word_room = needed set.own (word_arrives word) (after set (tables set) made).sender

  pub confirms : Confirming set m
  unfolding computing
  confirms = record {
    events = first ∷ frame_in ∷ word_made 4 ∷ word_in word_room ∷ [];
    confirmed = ((claims set m c made refl).clears word [] _ word_room made_words ((claims set m c arrived refl).words 4 (leb→le 4 4 tt)).2 (omega arith) refl refl refl refl reports_next).0
        0 first_outstanding;
  }

  -- all of it
  pub signed : Signed set m
  signed = record {
    sends = sends set set_within m c;
    accepts = accepts set set_within m c;
    resends = resends;
    confirms = confirms;
    sends_later = sends_later;
  }
