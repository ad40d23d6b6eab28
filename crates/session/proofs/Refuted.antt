-- Wrong ends that the claims refute: a sender that never sends, one that sends on the first event only, one that never resends, one that
-- confirms what it likes, a receiver that always answers E4, one whose FARM-B count is made up, and one whose report value is.
use mathlib.Core.Path.{◌≡◌, refl, ap, ◌∙◌}
use mathlib.Core.Logic.{◌⊎◌, inl, inr}
use mathlib.Core.Bool.{Bool, true, false, false≢true}
use mathlib.Core.List.{List, [], ◌∷◌}
use mathlib.Core.Option.{none, some}
use Prim.Native.Nat.{ℕ, zero, suc}
use native.Mathlib.Omega.{arith}
use lib.Dec.{leb→le}
use lib.ListN.{length}
use Rattle.clcw.specs.Clcw as clcw
use Rattle.receiver.specs.Receiver as receiver
use Rattle.farm.specs.declared.Event.TheVariants as farm
use Rattle.session.specs.Session as ses
use Rattle.fop.specs.Units.{Fdu, WordReceived, valid, invalid, other, read_word}
use Rattle.fop.specs.Variables.{Fop, Entry}
use Rattle.fop.specs.declared.Lower.TheVariants.{AdAccept}
use Rattle.fop.specs.Events.{SenderEvent, request_ad, request_bd, tick, lower, directive, word_arrives}
use Rattle.fop.specs.Answers.{Answer, sender_answer, sender_next}
use Rattle.receiver.specs.declared.Receiver.{Receiver}
use Rattle.clcw.specs.declared.Clcw.{Clcw}
use Rattle.session.specs.Receiver.{ReceiverEvent, frame_arrives, release_buffer, ReceiverAnswer, word_length, WordAnswer, word_told, receiver_next, receiver_answer, receiver_word}
use Rattle.session.specs.Ends.{Settings, Ends, tables, start_sender, start_receiver}
use Rattle.session.specs.Session.{Event, ad_request, ticks, lower_says, frame_in}
use Rattle.session.specs.Claims.{Claims, Marked, Resends}
use Rattle.session.proofs.Trace.{computing, settings, after, with_down, with_confirmed}

abbrev set : Settings
set = settings 3 2 1 3

-- the tables, but for the sender's answers, the receiver's answers and its control word
abbrev changed : (SenderEvent → Answer → Answer) → (ReceiverEvent → ReceiverAnswer → ReceiverAnswer) → (ℕ → Receiver → WordAnswer) → Ends
changed f g word = record {
  Sender = Fop;
  Receiver = Receiver;
  sender = start_sender set;
  receiver = start_receiver set;
  next = sender_next set.own;
  answer = λ e lent x. f e (sender_answer set.own e lent x);
  next_receiver = receiver_next;
  answer_receiver = λ e x. g e (receiver_answer e x);
  word = word;
}

-- but for the sender's answers alone, and but for the receiver's part alone
abbrev sender_by : (SenderEvent → Answer → Answer) → Ends
sender_by f = changed f (λ e a. a) receiver_word

abbrev receiver_by : (ReceiverEvent → ReceiverAnswer → ReceiverAnswer) → (ℕ → Receiver → WordAnswer) → Ends
receiver_by g word = changed (λ e a. a) g word

abbrev Holds : Ends → List Event → Type 0
Holds m es = Claims set m (after set m es) (after set (tables set) es)

-- a sender that queues and never sends
abbrev pub never_sends : Ends
never_sends = sender_by (λ e a. with_down none a)

refuted_sends : Holds never_sends [] → ⊥
unfolding computing
refuted_sends c = let e = (c.offered (7 ∷ []) 256 refl (leb→le _ 256 tt) refl refl refl refl (leb→le _ 3 tt)).down in omega (arith, ap length e)

-- one that sends on the first event and later only replies
abbrev sends_first : Ends
sends_first = record {
  Sender = Fop × Bool;
  Receiver = Receiver;
  sender = (start_sender set, true);
  receiver = start_receiver set;
  next = λ e lent x. (sender_next set.own e lent x.0, false);
  answer = λ e lent x. only x.1 (sender_answer set.own e lent x.0);
  next_receiver = receiver_next;
  answer_receiver = receiver_answer;
  word = receiver_word;
}
  where
    only : Bool → Answer → Answer
    only true a = a
    only false a = with_down none a

-- the unit 7, sent and taken by the lower layer
abbrev seven : Fdu
seven = record { ns = 254; octets = 7 ∷ [] }

abbrev first_sent : List Event
first_sent = ad_request (7 ∷ []) 256 ∷ lower_says AdAccept 256 ∷ []

refuted_first : Holds sends_first first_sent → ⊥
unfolding computing
refuted_first c = let e = (c.offered (8 ∷ []) 256 refl (leb→le _ 256 tt) refl refl refl refl (leb→le _ 3 tt)).down in omega (arith, ap length e)

-- a sender that never resends: nothing is handed down when the timer expires
abbrev no_resending : SenderEvent → Answer → Answer
no_resending (request_ad o) a = a
no_resending (request_bd o) a = a
no_resending tick a = with_down none a
no_resending (lower l) a = a
no_resending (directive d v) a = a
no_resending (word_arrives s) a = a

abbrev never_resends : Ends
never_resends = sender_by no_resending

refuted_resends : Holds never_resends first_sent → ⊥
unfolding computing
refuted_resends c = go (c.expires 0 256 (leb→le _ 256 tt) refl refl (leb→le _ 3 tt) (leb→le 1 _ tt, refl, refl))
  where
    unmarked : (k : Marked seven (ses.step set (tables set) (ticks 256) (after set (tables set) first_sent)).sender)
        → (i : ℕ) → k.place ≡ i → ⊥
    unmarked k zero e = let q = rw e at k.is in false≢true (ap (λ (x : Entry). x.marked) q)
    unmarked k (suc i) e = omega (arith, k.on, e)

    go : Resends set {m = never_resends} seven (after set never_resends first_sent)
        (ses.step set never_resends (ticks 256) (after set never_resends first_sent))
        ⊎ Marked seven (ses.step set (tables set) (ticks 256) (after set (tables set) first_sent)).sender → ⊥
    go (inl r) = omega (arith, ap length r.down)
    go (inr k) = unmarked k k.place refl

-- a sender whose run of confirmed units is made up
abbrev confirms_all : Ends
confirms_all = sender_by (λ e a. with_confirmed (record { number = 254; count = 1 }) a)

refuted_confirms : Holds confirms_all (ad_request (7 ∷ []) 256 ∷ []) → ⊥
unfolding computing
refuted_confirms c = omega (arith, ap length c.truly.1)

-- a receiver that always answers E4, and so never accepts
abbrev always_e4 : ReceiverEvent → ReceiverAnswer → ReceiverAnswer
always_e4 (frame_arrives s) a = record { refusal = 0; event = some farm.E4; unit = none }
always_e4 release_buffer a = a

abbrev never_accepts : Ends
never_accepts = receiver_by always_e4 receiver_word

refuted_accepts : Holds never_accepts (ad_request (7 ∷ []) 256 ∷ []) → ⊥
unfolding computing
refuted_accepts c =
    let e = (c.accepts _ [] seven refl refl).1 (refl, refl, leb→le 1 _ tt) in
    omega (arith, ap length e)

-- a receiver whose control word is made up
abbrev words_by : (Clcw → Clcw) → Ends
words_by f = receiver_by (λ e a. a) (λ lent r. word_told (clcw.writing (f (receiver.word_of r)) lent))

abbrev with_counts : ℕ → ℕ → Clcw → Clcw
with_counts counter report w = record { channel = w.channel; lockout = w.lockout; wait = w.wait; retransmit = w.retransmit; counter = counter; report = report }

-- the FARM-B counter and the report value of what is read, and of the oldest word
abbrev counts_of : WordReceived → ℕ × ℕ
counts_of (valid w) = (w.counter, w.nr)
counts_of invalid = (0, 0)
counts_of (other r) = (0, 0)

abbrev oldest_counts : List (List ℕ) → ℕ × ℕ
oldest_counts [] = (0, 0)
oldest_counts (s ∷ ws) = counts_of (read_word set.own s)

-- its FARM-B count is 1 at the start already
refuted_count : Holds (words_by (λ w. with_counts 1 w.report w)) [] → ⊥
unfolding computing
refuted_count c =
    let w = c.words word_length (leb→le 4 4 tt) in
    let z : ◌≡◌ {A = ℕ × ℕ} (1, 254) (0, 254) = ap oldest_counts w.1 ∙ ap counts_of w.2 in
    omega (arith, ap (λ (x : ℕ × ℕ). x.0) z)

-- it reports the number of the start, whatever is accepted, and so confirms nothing
refuted_report : Holds (words_by (λ w. with_counts w.counter 254 w)) (ad_request (7 ∷ []) 256 ∷ frame_in ∷ []) → ⊥
unfolding computing
refuted_report c =
    let w = c.words word_length (leb→le 4 4 tt) in
    let z : ◌≡◌ {A = ℕ × ℕ} (0, 254) (0, 255) = ap oldest_counts w.1 ∙ ap counts_of w.2 in
    omega (arith, ap (λ (x : ℕ × ℕ). x.1) z)
