-- The session's invariant, and that every event of the sender keeps it.
use mathlib.Core.Logic.{inl, inr}
use mathlib.Core.Path.{◌≡◌, refl, sym, ap, ◌∙◌}
use mathlib.Core.Bool.{Bool, true, false}
use mathlib.Core.List.{List, [], ◌∷◌, ◌++◌, append-nil}
use mathlib.Core.Option.{Option, none, some}
use Prim.Native.Nat.{ℕ, ◌+◌, ◌/◌, ◌%◌, ◌≤◌, ◌<◌}
use native.Mathlib.Nat.{zero-add}
use native.Mathlib.Omega.{arith}
use lib.Dec.{T}
use lib.ListN.{length, drop, length-append}
use lib.Seq.{drop-drop, drop-append_seam}
use Rattle.base.specs.Choice.{pick}
use Rattle.base.specs.Modulo.{advanced}
use Rattle.fop.specs.Units.{Fdu, Frame, Word, legal, word_octets, valid}
use Rattle.fop.specs.declared.State.{State}
use Rattle.fop.specs.declared.Event.{Event as FopEvent}
use Rattle.fop.specs.Variables.{Fop, Work, Preset, begin, set_clock}
use Rattle.fop.specs.Effective.{effective}
use Rattle.fop.specs.Machine.{fdus, fop_do}
use Rattle.fop.specs.Events.{fop_word, fop_ad, fop_bd, fop_tick, fop_lower, fop_directive, directive_event, fop_received, is_empty, SenderEvent, request_ad}
use Rattle.fop.specs.declared.Lower.{Lower}
use Rattle.fop.specs.Events.{request_bd, lower, directive, word_arrives, work, lower_event, is_reject, seen}
use Rattle.fop.specs.Answers.{judged}
use Rattle.farm.specs.declared.State.{State as FarmState}
use Rattle.farm.specs.declared.State.TheVariants.{Open, Wait, Lockout}
use Rattle.farm.specs.declared.Variables.{Variables}
use Rattle.session.specs.Ends.{Settings, Within}
use Rattle.session.specs.Session.{places}
use Rattle.session.specs.Stronger.{Sub}
use Rattle.session.specs.Suspension.{admits}
use Rattle.fop.specs.Events as fop
use Rattle.fop.proofs.Choices.{by_pick, unrefused}
use Rattle.fop.proofs.Test.{lowered, tick_ways}
pub use Rattle.session.proofs.Fit.{fit, goes_is}
use Rattle.session.proofs.Idle.{Idle, Stays, ad_still, bd_still, tick_still, lower_still, session_still, received_still}
use Rattle.session.proofs.Suspended.{unsuspended}
use Rattle.session.proofs.Core.{Session, add_all, first_of, answered, sender, goes, channels, word_come}
use Rattle.session.proofs.Lists.{iota, iota_append, length_iota}
use Rattle.session.proofs.Chan.{Wds, wds_le, wds_lower}
use Rattle.session.proofs.Values.{Bounds, Base, Live, Dead, Mode, live, dead, bad, Given, word, unit, nothing, Reports, WaitOk, WI, run_places}
use Rattle.session.proofs.Rows.{mode_of, sound, row_any, Tested, any, Passes, passes, do_sound, do_unsuspended, word_ok, timer_ok, suspending_ok, ad_ok, bd_ok, lower_ok, terminate_ok, resume_ok}
use Rattle.session.proofs.Sender.{do_keeps, WInv}
use Rattle.session.proofs.Octets.{word_back}
use Rattle.session.proofs.Bds.{bds_of, bd_handed}

-- the sender's part of the settings
abbrev pub preset_of : Settings → Preset
preset_of s = record { k = s.k; transmission_limit = s.limit; t1_initial = s.t1; timeout_type = s.timeout_type }

-- with half the receiver's window
abbrev pub bounds_of : Settings → Bounds
bounds_of s = record { preset = preset_of s; half = s.w / 2 }

-- the sender's part
abbrev pub Side : Mode → ℕ → ℕ → List Fdu → List (Option ℕ) → List Fdu → ℕ → ℕ → Type 0
Side live n C sent gone q vs nn = Live n C gone sent [] [] q vs nn
Side dead n C sent gone q vs nn = Dead C gone sent [] [] q
Side bad n C sent gone q vs nn = ⊥

-- the receiver is in Lockout
abbrev pub is_locked : FarmState → Bool
is_locked Open = false
is_locked Wait = false
is_locked Lockout = true

-- the receiver's part, with A accepted and D BD units accepted; they are counted on from the start
pub record Rcv (set : Settings) (v : Variables) (A D : ℕ) : Type 0 where
  pub is_vr : v.vr ≡ advanced set.n A
  pub unlocked : is_locked v.state ≡ false
  pub no_lock : v.lockout ≡ false
  pub counted : v.counter ≡ (set.counter + D) % 4

-- Suspend_State is 0 but in Initial, and at Timeout_Type 0 always
pub record Suspension (set : Settings) (state : State) (suspend_state : ℕ) : Type 0 where
  pub outside : T (unsuspended state suspend_state)
  pub alerting : set.timeout_type ≡ 0 → suspend_state ≡ 0

-- the invariant; it knows nothing of buffers
pub record Inv (set : Settings) (σ : Session) : Type 0 where
  pub base : Base set.n (bounds_of set) (length σ.confirmed) σ.accepted σ.sent σ.frames []
  pub side : Side (mode_of (effective σ.fop)) set.n (length σ.confirmed) σ.sent σ.denied (fdus σ.fop.queues.sent_queue) σ.fop.numbers.vs σ.fop.numbers.nnr
  pub suspension : Suspension set σ.fop.state σ.fop.suspend_state
  pub is_set : σ.fop.preset ≡ preset_of set
  pub waiting : WaitOk σ.fop.queues.wait_queue
  pub places : σ.confirmed ≡ iota 0 (length σ.confirmed)
  pub words : Wds set.n (length σ.confirmed) (length σ.accepted) σ.words
  pub receiver : Rcv set σ.farm (length σ.accepted) (length σ.accepted_bd)
  pub bd : Sub (σ.accepted_bd ++ bds_of σ.frames) σ.sent_bd

-- more places confirmed, in order
conf_iota : (l m : List (Option ℕ)) (c : ℕ) → l ≡ iota 0 (length l) → m ≡ iota (length l) c → l ++ m ≡ iota 0 (length (l ++ m))
conf_iota l m c e f =
    let k : length (l ++ m) ≡ length l + c = length-append l m ∙ ap (λ (x : ℕ). length l + x) (ap length f ∙ length_iota (length l) c) in
    rw (k, ← iota_append 0 (length l) c, zero-add (length l), ← f, ← e)

-- the count confirmed takes in what this event confirmed
rebase : (n : ℕ) (P : Bounds) (C D : ℕ) (acc sent : List Fdu) (fr : List Frame) (conf : List Fdu) → D ≡ C + length conf → Base n P C acc sent fr conf
    → Base n P D acc sent fr []
rebase n P C D acc sent fr conf e b =
    record { num = b.num; order = b.order; behind = b.behind; truly = omega arith; room = omega arith; fits = b.fits; small = b.small; fly = b.fly }

-- what is left of Sent behind what is confirmed
recut : (C D : ℕ) (sent conf q : List Fdu) → D ≡ C + length conf → conf ++ q ≡ drop C sent → q ≡ drop D sent
recut C D sent conf q e c =
    sym (drop-append_seam conf q) ∙ ap (λ (l : List Fdu). drop (length conf) l) c ∙ drop-drop (length conf) C sent ∙ ap (λ (i : ℕ). drop i sent) (sym e)

-- the sender's part before an event
pub enter : (m : Mode) (n : ℕ) (P : Bounds) (C : ℕ) (acc sent : List Fdu) (fr : List Frame) (gone : List (Option ℕ)) (q : List Fdu) (vs nn : ℕ) (p : Preset)
    (given : Given) (a v : ℕ) (wt : Option (List ℕ)) (o : List ℕ)
    → Base n P C acc sent fr [] → Side m n C sent gone q vs nn → C ≤ a → Reports given n a (length acc) v o → p ≡ P.preset → WaitOk wt
    → WI n P C gone acc given a m sent (fr ++ []) [] [] q vs nn p v wt o
enter live n P C acc sent fr gone q vs nn p given a v wt o b s l r e k = rw (append-nil fr) (b, s, omega arith, r, e, k)
enter dead n P C acc sent fr gone q vs nn p given a v wt o b s l r e k = rw (append-nil fr) (b, s, omega arith, r, e, k)
enter bad n P C acc sent fr gone q vs nn p given a v wt o b s l r e k = tt

-- the mode is not bad
pub is_sound : (m : Mode) (n C : ℕ) (sent : List Fdu) (gone : List (Option ℕ)) (q : List Fdu) (vs nn : ℕ) → Side m n C sent gone q vs nn → T (sound m)
is_sound live n C sent gone q vs nn s = tt
is_sound dead n C sent gone q vs nn s = tt
is_sound bad n C sent gone q vs nn s = s

-- what an event leaves
pub record Left (n : ℕ) (P : Bounds) (C : ℕ) (acc : List Fdu) (a : ℕ) (sent : List Fdu) (fr : List Frame) (conf : List Fdu) (p : Preset)
    (wt : Option (List ℕ)) : Type 0 where
  pub base : Base n P C acc sent fr conf
  pub most : C + length conf ≤ a
  pub more : List Fdu
  pub cut : conf ++ more ≡ drop C sent
  pub is_set : p ≡ P.preset
  pub waiting : WaitOk wt

-- which the invariant of either mode gives
pub base_of : (m : Mode) (n : ℕ) (P : Bounds) (C : ℕ) (gone : List (Option ℕ)) (acc : List Fdu) (given : Given) (a : ℕ) (sent : List Fdu) (fr : List Frame)
    (conf den q : List Fdu) (vs nn : ℕ) (p : Preset) (v : ℕ) (wt : Option (List ℕ)) (o : List ℕ)
    → T (sound m) → WI n P C gone acc given a m sent fr conf den q vs nn p v wt o → Left n P C acc a sent fr conf p wt
base_of live n P C gone acc given a sent fr conf den q vs nn p v wt o g h =
    record { base = h.0; most = h.2; more = q; cut = h.1.cut; is_set = h.4; waiting = h.5 }
base_of dead n P C gone acc given a sent fr conf den q vs nn p v wt o g h =
    record { base = h.0; most = h.2; more = h.1.after; cut = h.1.cut; is_set = h.4; waiting = h.5 }
base_of bad n P C gone acc given a sent fr conf den q vs nn p v wt o g h = absurd g

-- and the sender's part after it
leave : (m : Mode) (n : ℕ) (P : Bounds) (C D : ℕ) (gone : List (Option ℕ)) (acc : List Fdu) (given : Given) (a : ℕ) (sent : List Fdu) (fr : List Frame)
    (conf den q : List Fdu) (vs nn : ℕ) (p : Preset) (v : ℕ) (wt : Option (List ℕ)) (o : List ℕ) → D ≡ C + length conf → T (sound m)
    → WI n P C gone acc given a m sent fr conf den q vs nn p v wt o
    → Side m n D sent (gone ++ places sent (first_of den) (length den)) q vs nn
leave live n P C D gone acc given a sent fr conf den q vs nn p v wt o e g h =
    record {
      cut = recut C D sent conf q e h.1.cut;
      undenied = refl;
      fresh = rw (h.1.fresh, h.1.undenied);
      is_vs = h.1.is_vs;
      is_nn = omega arith;
    }
leave dead n P C D gone acc given a sent fr conf den q vs nn p v wt o e g h =
    let z : C + length conf ≡ D + 0 = omega arith in
    record {
      after = h.1.after;
      cut = recut C D sent conf h.1.after e h.1.cut;
      empty = h.1.empty;
      denied = append-nil (gone ++ places sent (first_of den) (length den)) ∙ h.1.denied ∙ ap (λ (i : ℕ). iota i (length h.1.after)) z;
    }
leave bad n P C D gone acc given a sent fr conf den q vs nn p v wt o e g h = absurd g

-- an answer, with ws the words left, and a the count that the word in hand reports, or the count confirmed
answered_keeps : (set : Settings) (σ : Session) (ws : List Word) (given : Given) (a : ℕ) (w : Work) → Inv set σ → Suspension set w.fop.state w.fop.suspend_state → T (sound (mode_of (effective w.fop)))
    → WInv set.n (bounds_of set) (length σ.confirmed) σ.denied σ.accepted σ.sent σ.frames given a (mode_of (effective w.fop)) w
    → Wds set.n a (length σ.accepted) ws → Inv set (answered set.n w (channels σ.frames ws σ))
unfolding answered channels
answered_keeps set σ ws given a w I ss g h ww =
    let n : ℕ = set.n in
    let P : Bounds = bounds_of set in
    let C : ℕ = length σ.confirmed in
    let s : List Fdu = add_all set.n σ.sent w.frames in
    let b : Left set.n (bounds_of set) (length σ.confirmed) σ.accepted a (add_all set.n σ.sent w.frames) (σ.frames ++ w.frames)
    w.confirmed w.fop.preset w.fop.queues.wait_queue =
    base_of (mode_of (effective w.fop)) n P C σ.denied σ.accepted given a s (σ.frames ++ w.frames) w.confirmed w.denied (fdus w.fop.queues.sent_queue)
    w.fop.numbers.vs w.fop.numbers.nnr w.fop.preset w.asked.value w.fop.queues.wait_queue w.asked.octets g h in
    let most = b.most in
    let wide : length (add_all set.n σ.sent w.frames) ≤ length σ.confirmed + 0 + 256 = omega (arith, b.base, I.base) in
    let p0 : places (add_all set.n σ.sent w.frames) (first_of w.confirmed) (length w.confirmed)
    ≡ iota (length σ.confirmed + 0) (length w.confirmed) =
    run_places n C s [] w.confirmed b.more b.base.num b.cut wide in
    let z : length σ.confirmed + 0 ≡ length σ.confirmed = omega arith in
    let p : places s (first_of w.confirmed) (length w.confirmed) ≡ iota C (length w.confirmed) = rw z at p0 in
    let D : length (σ.confirmed ++ places s (first_of w.confirmed) (length w.confirmed)) ≡ C + length w.confirmed =
    length-append σ.confirmed _ ∙ ap (λ (x : ℕ). C + x) (ap length p ∙ length_iota C (length w.confirmed)) in
    record {
      base = rebase n P C _ σ.accepted s (σ.frames ++ w.frames) w.confirmed D b.base;
      side = leave (mode_of (effective w.fop)) n P C _ σ.denied σ.accepted given a s (σ.frames ++ w.frames) w.confirmed w.denied
          (fdus w.fop.queues.sent_queue)
          w.fop.numbers.vs w.fop.numbers.nnr w.fop.preset w.asked.value w.fop.queues.wait_queue w.asked.octets D g h;
      suspension = ss;
      is_set = b.is_set;
      waiting = b.waiting;
      places = conf_iota σ.confirmed _ (length w.confirmed) I.places p;
      words = wds_lower n a _ (length σ.accepted) ws (omega arith) ww;
      receiver = I.receiver;
      bd = bd_handed σ.accepted_bd σ.sent_bd σ.frames w.frames I.bd;
    }

-- the sender's mode is one of the session
pub in_mode : (set : Settings) (σ : Session) → Inv set σ → T (sound (mode_of (effective σ.fop)))
in_mode set σ I = is_sound (mode_of (effective σ.fop)) set.n _ _ _ _ _ _ I.side

-- at Timeout_Type 0 the work on an event does not suspend
abbrev Alerts : Settings → Work → Type 0
Alerts set w = set.timeout_type ≡ 0 → w.fop.suspend_state ≡ 0

-- a sender of the session at Timeout_Type 0 (Idle)
idle_at : (set : Settings) (σ : Session) → Inv set σ → set.timeout_type ≡ 0 → Idle σ.fop
idle_at set σ I z = record { not_suspended = I.suspension.alerting z; alerting = ap (λ (p : Preset). p.timeout_type) I.is_set ∙ z }

-- a row that passes the test does so for the sender, and keeps what is known of Suspend_State
module _ (set : Settings) (σ : Session) (I : Inv set σ) (given : Given) (e : FopEvent) (t : Tested given e σ.fop.suspend_state) where
  pub row_passes : Passes given e σ.fop
  row_passes = passes given e σ.fop t (in_mode set σ I) I.suspension.outside

  pub row_sound : (o : List ℕ) (v : ℕ) → T (sound (mode_of (effective (fop_do e o v σ.fop).fop)))
  row_sound o v = do_sound given e o v σ.fop row_passes (in_mode set σ I)

  row_suspension : (o : List ℕ) (v : ℕ) → Alerts set (fop_do e o v σ.fop)
      → Suspension set (fop_do e o v σ.fop).fop.state (fop_do e o v σ.fop).fop.suspend_state
  row_suspension o v z = record { outside = do_unsuspended given e o v σ.fop row_passes I.suspension.outside; alerting = z }

-- the work on an event, as it begins and after its row; a is what the word in hand reports, or the count confirmed
module _ (set : Settings) (σ : Session) (I : Inv set σ) (given : Given) (a : ℕ) (o : List ℕ) (v : ℕ) (l : length σ.confirmed ≤ a)
    (rp : Reports given set.n a (length σ.accepted) v o) where
  abbrev W : Mode → Work → Type 0
  W m w = WInv set.n (bounds_of set) (length σ.confirmed) σ.denied σ.accepted σ.sent σ.frames given a m w

  pub row_begins : (e : Option FopEvent) → W (mode_of (effective σ.fop)) (begin e o v σ.fop)
  row_begins e =
      enter (mode_of (effective σ.fop)) set.n (bounds_of set) _ σ.accepted σ.sent σ.frames σ.denied _ _ _ σ.fop.preset given a v
      σ.fop.queues.wait_queue o I.base I.side l rp I.is_set I.waiting

  row_does : (e : FopEvent) → Tested given e σ.fop.suspend_state → W (mode_of (effective (fop_do e o v σ.fop).fop)) (fop_do e o v σ.fop)
  row_does e t =
      do_keeps set.n (bounds_of set) (length σ.confirmed) σ.denied σ.accepted σ.sent σ.frames given a e o v σ.fop (row_passes set σ I given e t)
      (row_begins (some e))

-- a row of the table keeps the invariant
row_keeps : (set : Settings) (σ : Session) (ws : List Word) (given : Given) (a : ℕ) (e : FopEvent) (o : List ℕ) (v : ℕ) → Inv set σ
    → Tested given e σ.fop.suspend_state → length σ.confirmed ≤ a → Reports given set.n a (length σ.accepted) v o → Wds set.n a (length σ.accepted) ws
    → Alerts set (fop_do e o v σ.fop) → Inv set (answered set.n (fop_do e o v σ.fop) (channels σ.frames ws σ))
row_keeps set σ ws given a e o v I t l rp ww z =
    answered_keeps set σ ws given a (fop_do e o v σ.fop) I (row_suspension set σ I given e t o v z) (row_sound set σ I given e t o v)
    (row_does set σ I given a o v l rp e t) ww

-- no more is confirmed than what is reported
pub row_bound : (set : Settings) (σ : Session) (given : Given) (a : ℕ) (e : FopEvent) (o : List ℕ) (v : ℕ) → Inv set σ → Tested given e σ.fop.suspend_state
    → length σ.confirmed ≤ a → Reports given set.n a (length σ.accepted) v o
    → length σ.confirmed + length (fop_do e o v σ.fop).confirmed ≤ a
row_bound set σ given a e o v I t l rp =
    let w : Work = fop_do e o v σ.fop in
    (base_of (mode_of (effective w.fop)) set.n (bounds_of set) (length σ.confirmed) σ.denied σ.accepted given a _ _ _ _ _ _ _
    w.fop.preset w.asked.value w.fop.queues.wait_queue w.asked.octets (row_sound set σ I given e t o v) (row_does set σ I given a o v l rp e t)
    ).most

-- The events of the sender, each by its rows. `work` is what the table does, whether or not the event is then refused.

-- another sender
abbrev pub with_fop : Fop → Session → Session
with_fop f σ =
    record {
      fop = f;
      farm = σ.farm;
      frames = σ.frames;
      words = σ.words;
      sent = σ.sent;
      accepted = σ.accepted;
      confirmed = σ.confirmed;
      denied = σ.denied;
      released = σ.released;
      sent_bd = σ.sent_bd;
      accepted_bd = σ.accepted_bd;
    }

-- another timer and Transmission_Count
pub timed : (set : Settings) (t c : ℕ) (σ : Session) → Inv set σ → Inv set (with_fop (set_clock t c σ.fop) σ)
timed set t c σ I =
    record { base = I.base; side = I.side; suspension = I.suspension; is_set = I.is_set; waiting = I.waiting; places = I.places; words = I.words; receiver = I.receiver; bd = I.bd }

-- other words under way
pub words_are : (set : Settings) (σ : Session) (ws : List Word) → Inv set σ → Wds set.n (length σ.confirmed) (length σ.accepted) ws
    → Inv set (channels σ.frames ws σ)
unfolding channels
words_are set σ ws I h =
    record { base = I.base; side = I.side; suspension = I.suspension; is_set = I.is_set; waiting = I.waiting; places = I.places; words = h; receiver = I.receiver; bd = I.bd }

-- a row that no word brings
plain_keeps : (set : Settings) (σ : Session) (given : Given) (e : FopEvent) (o : List ℕ) (v : ℕ) → Inv set σ → Tested given e σ.fop.suspend_state
    → Reports given set.n (length σ.confirmed) (length σ.accepted) v o → (Idle σ.fop → Stays (fop_do e o v σ.fop))
    → Inv set (answered set.n (fop_do e o v σ.fop) σ)
unfolding channels
plain_keeps set σ given e o v I t r s =
    row_keeps set σ σ.words given (length σ.confirmed) e o v I t (omega arith) r I.words (λ z. (s (idle_at set σ I z)).0.not_suspended)

tick_keeps : (set : Settings) (σ : Session) → Inv set σ → Inv set (answered set.n (fop_tick σ.fop) σ)
unfolding answered channels
tick_keeps set σ I =
    let τ : Session = with_fop (lowered σ.fop) σ in
    let J : Inv set τ = timed set _ _ σ I in
    tick_ways (row_any nothing) timer_ok (λ w. Alerts set w → Inv set (answered set.n w σ)) σ.fop (λ b. suspending_ok)
    (λ e t z. row_keeps set τ σ.words nothing (length σ.confirmed) e [] 0 J (any nothing e t) (omega arith) tt I.words z)
    (λ z. answered_keeps set τ σ.words nothing (length σ.confirmed) (begin none [] 0 τ.fop) J J.suspension (in_mode set σ I)
    (row_begins set σ I nothing (length σ.confirmed) [] 0 (omega arith) tt none) I.words) (λ z. (tick_still σ.fop (idle_at set σ I z)).0.not_suspended)

-- a request that is not refused by 10 is legal
pub legal_of : (o : List ℕ) → ◌≡◌ {A = ℕ} (pick (legal o) 0 10) 0 → legal o ≡ true
legal_of o = unrefused (legal o) 9

-- an event keeps the invariant where its work does
sender_keeps : (set : Settings) (e : SenderEvent) (lent : ℕ) (σ : Session) → Inv set σ
    → (judged set.own e ≡ 0 → Inv set (answered set.n (work set.own e σ.fop) σ)) → Inv set (sender set e lent σ)
unfolding sender
sender_keeps set e lent σ I h =
    by_pick (Inv set) (goes set.own e lent σ.fop) (λ t. h (fit set.own e lent σ.fop t).0) (λ t. I)

pub ad_keeps : (set : Settings) (lent : ℕ) (o : List ℕ) (σ : Session) → Inv set σ → Inv set (sender set (request_ad o) lent σ)
unfolding fop_ad judged work
ad_keeps set lent o σ I = sender_keeps set (request_ad o) lent σ I (λ j. plain_keeps set σ unit _ o 0 I (any unit _ (ad_ok (is_empty σ.fop.queues.wait_queue))) (legal_of o j) (ad_still o σ.fop))

pub bd_keeps : (set : Settings) (lent : ℕ) (o : List ℕ) (σ : Session) → Inv set σ → Inv set (sender set (request_bd o) lent σ)
unfolding fop_bd judged work
bd_keeps set lent o σ I = sender_keeps set (request_bd o) lent σ I (λ j. plain_keeps set σ unit _ o 0 I (any unit _ (bd_ok σ.fop.out.bd)) (legal_of o j) (bd_still o σ.fop))

pub lower_keeps : (set : Settings) (lent : ℕ) (l : Lower) (σ : Session) → admits (is_reject l) σ.fop ≡ true → Inv set σ → Inv set (sender set (lower l) lent σ)
unfolding fop_lower work
lower_keeps set lent l σ a I =
    sender_keeps set (lower l) lent σ I (λ j. plain_keeps set σ nothing (lower_event l) [] 0 I (lower_ok l σ.fop a) tt (lower_still l σ.fop))

pub ticks_keeps : (set : Settings) (lent : ℕ) (σ : Session) → Inv set σ → Inv set (sender set fop.tick lent σ)
unfolding work
ticks_keeps set lent σ I = sender_keeps set fop.tick lent σ I (λ j. tick_keeps set σ I)

pub terminate_keeps : (set : Settings) (v lent : ℕ) (σ : Session) → Inv set σ → Inv set (sender set (directive 5 v) lent σ)
unfolding fop_directive directive_event work
terminate_keeps set v lent σ I =
    sender_keeps set (directive 5 v) lent σ I
    (λ j. plain_keeps set σ nothing FopEvent.E29 [] v I (any nothing FopEvent.E29 terminate_ok) tt (session_still 5 v σ.fop (inl refl)))

pub resume_keeps : (set : Settings) (v lent : ℕ) (σ : Session) → Inv set σ → Inv set (sender set (directive 6 v) lent σ)
unfolding fop_directive work
resume_keeps set v lent σ I =
    sender_keeps set (directive 6 v) lent σ I
    (λ j. plain_keeps set σ nothing (directive_event 6 v σ.fop) [] v I (resume_ok v σ.fop (in_mode set σ I) I.suspension.outside) tt
    (session_still 6 v σ.fop (inr refl)))

-- a word under way is read as it was reported
pub word_read : (set : Settings) → Within set → (w : Word) (f : Fop) → w.counter ≤ 3 → w.nr < 256
    → work set.own (word_arrives (word_octets set.own w)) f ≡ fop_word w f
unfolding work fop_received
word_read set vw w f c b = rw (word_back set.own vw.spacecraft vw.channel w c b)

-- and is judged fit
pub fine : (set : Settings) → Within set → (w : Word) → w.counter ≤ 3 → w.nr < 256 → judged set.own (word_arrives (word_octets set.own w)) ≡ 0
unfolding judged
fine set vw w c b = rw (word_back set.own vw.spacecraft vw.channel w c b)

pub word_keeps : (set : Settings) → Within set → (lent : ℕ) (σ : Session) (l : List Word) → Inv set σ
    → Wds set.n (length σ.confirmed) (length σ.accepted) l
    → Inv set (word_come set lent l σ)
unfolding word_come fop_received fop_word channels
word_keeps set vw lent σ [] I h = I
word_keeps set vw lent σ (w ∷ ws) I h =
    sender_keeps set _ lent (channels σ.frames ws σ) (words_are set σ ws I (wds_lower set.n h.0 _ _ ws h.2 h.4))
    (λ j. rw (word_read set vw w σ.fop h.3 (omega (arith, h.1)))
    (row_keeps set σ ws word h.0 _ [] w.nr I (any word _ (word_ok (seen w σ.fop))) h.2 (h.1, wds_le set.n h.0 _ ws h.4) h.4
    (λ z. (received_still (valid w) σ.fop (idle_at set σ I z)).0.not_suspended)))
